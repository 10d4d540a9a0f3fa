-- What is held of a backend after its own event.
use Rattle.std.proofs.Common.{◌≡◌, ◌≢◌, ◌≤◌, ◌<◌, ◌∙◌, ℕ, Bool, true, false, Option, Some, None, List, [], ◌∷◌, ◌++◌, refl, sym, ap, subst, arith}
use Rattle.std.specs.Prelude.{nat_lt, IfSome, MatchOption}
use Rattle.std.specs.List.{AllByRecursion}
use Rattle.std.proofs.lemmas.Bool.{and_parts, eqb-false, leb-true, not-true}
use Rattle.inval_messages.specs.Lists.{Written}
use Rattle.command_lists.specs.Lists.{new_list, with_messages}
use Rattle.command_lists.proofs.Writes.{with-changes}
use Rattle.inval_messages.proofs.Parts.{ForCaches, ForDescriptors, cats_of-caches, rels_of-descriptors}
use Rattle.catalog_rows.specs.Store.{Store, row_of_key}
use Rattle.history_model.specs.Segment.{Standing, Segment, no_standing}
use Rattle.history_model.specs.Rows.{added_row, row_at, old_at as seg_old}
use Rattle.history_model.specs.Messages.{cats_at, rels_at, written_at, items_in, lists_after}
use Rattle.history_model.specs.After.{standing_by, standing_after}
use Rattle.history_model.specs.Changing.{is_last_write}
use Rattle.history_model.specs.Allows.{follows_life, allows_event}
use Rattle.history_model.proofs.Every.{every-weaker, every-filter, every-append}
use Rattle.segment_rows.proofs.Messages.{messages_same}
use Rattle.history_ledger.specs.Types.{RowKey, Item, Add, Put, Remove, Force, Event, Start, Write, Gone, Release, Stop, Reader, Life, Unstarted, Alive, Stopped}
use Rattle.history_ledger.specs.Held.{IsTimely}
use Rattle.history_ledger.specs.Words.{messages_from, IsInOrder}

for_caches : (seg : Segment) (b : ℕ) (item : Item) → ForCaches (cats_at seg b item)
for_caches seg b item = cats_of-caches (seg_old seg b item) (added_row item)

for_descriptors : (seg : Segment) (b : ℕ) (item : Item) → ForDescriptors (rels_at seg b item)
for_descriptors seg b (Force rel) = (refl, tt)
for_descriptors seg b (Add row) = rels_of-descriptors (seg_old seg b (Add row)) (added_row (Add row))
for_descriptors seg b (Put row) = rels_of-descriptors (seg_old seg b (Put row)) (added_row (Put row))
for_descriptors seg b (Remove key) = rels_of-descriptors (seg_old seg b (Remove key)) (added_row (Remove key))

-- the lists
written_is : (seg : Segment) (b c : ℕ) (store : Store) (reader : Reader) → ((key : RowKey) → row_of_key store key reader ≡ row_at seg b key) → (event : Event) (old : List Written)
    → lists_after (with_messages (messages_from store reader event) (new_list c)) event (seg.standing b).running old ≡ lists_after (written_at seg b c (items_in event)) event (seg.standing b).running old
written_is seg b c store reader same (Write xid items) old =
    ap (λ w. old ++ w ∷ []) (ap (λ ms. with_messages ms (new_list c)) (messages_same seg b store reader same items) ∙ with-changes (cats_at seg b) (rels_at seg b) (for_caches seg b) (for_descriptors seg b) items (new_list c))
written_is seg b c store reader same event old = refl

-- and all that is held
pub own_is : (seg : Segment) (b c end : ℕ) (store : Store) (reader : Reader) → ((key : RowKey) → row_of_key store key reader ≡ row_at seg b key) → (event : Event)
    → standing_by (with_messages (messages_from store reader event) (new_list c)) end c event (seg.standing b) ≡ standing_by (written_at seg b c (items_in event)) end c event (seg.standing b)
own_is seg b c end store reader same event = ap (λ lists. record (standing_by (written_at seg b c (items_in event)) end c event (seg.standing b)) { lists = lists }) (written_is seg b c store reader same event (seg.standing b).lists)

-- a backend without entries is in time
pub timely_start : IsTimely no_standing
timely_start = record { listed = tt; low = λ last is. absurd (cc); none = λ is. refl }

-- the command of its last write isn't after that of an event that follows
low_at : (own : Standing) (c : ℕ) (event : Event) → follows_life own.life c event ≡ true → IsTimely own → IfSome own.wrote (λ n. n ≤ c)
low_at own c event follows k = by own.life refl follows
  where
    of : (last : ℕ) → own.life ≡ Alive last → last ≤ c → IfSome own.wrote (λ n. n ≤ c)
    of last is rises = by_wrote own.wrote (k.low last is)
      where
        by_wrote : (o : Option ℕ) → IfSome o (λ n. n ≤ last) → IfSome o (λ n. n ≤ c)
        by_wrote None low = tt
        by_wrote (Some n) low = omega (arith, low, rises)

    up : (last : ℕ) (ev : Event) → follows_life (Alive last) c ev ≡ true → last ≤ c
    up last Start is = absurd (cc)
    up last ev is = leb-true last c is

    none : (ev : Event) → follows_life Stopped c ev ≡ true → ⊥
    none ev is = absurd (cc)

    by : (life : Life) → own.life ≡ life → follows_life life c event ≡ true → IfSome own.wrote (λ n. n ≤ c)
    by Unstarted is f = subst (λ o. IfSome o (λ n. n ≤ c)) (sym (k.none is)) tt
    by (Alive last) is f = of last is (up last event f)
    by Stopped is f = absurd (none event f)

-- a write comes after the commands whose lists are kept
pub in_order : (seg : Segment) (b c : ℕ) (event : Event) → follows_life (seg.standing b).life c event ≡ true → allows_event seg b c event ≡ true → IsTimely (seg.standing b) → IsInOrder c event (seg.standing b).lists
in_order seg b c (Write xid items) follows allows k = let before = and_parts _ _ (and_parts _ _ (and_parts _ _ allows).0).0 in by (seg.standing b).wrote (low_at (seg.standing b) c (Write xid items) follows k) (not-true _ (and_parts _ _ before.0).1) k.listed
  where
    by : (o : Option ℕ) → IfSome o (λ n. n ≤ c) → is_last_write o c ≡ false → AllByRecursion (λ w. MatchOption o ⊥ (λ n. w.command ≤ n)) (seg.standing b).lists → AllByRecursion (λ w. w.command < c) (seg.standing b).lists
    by None low is listed = every-weaker (λ w. ⊥) (λ w. w.command < c) (λ w never. absurd never) (seg.standing b).lists listed
    by (Some n) low is listed = let other : n ≢ c = eqb-false n c is in every-weaker (λ w. w.command ≤ n) (λ w. w.command < c) (λ w below. omega (arith, below, low, other)) (seg.standing b).lists listed
in_order seg b c event follows allows k = tt

-- and after it the backend is in time again
pub timely_after : (seg : Segment) (b c : ℕ) (event : Event) → follows_life (seg.standing b).life c event ≡ true → IsTimely (seg.standing b) → IsTimely (standing_after seg b c event)
timely_after seg b c event follows k = by event refl
  where
    own : Standing
    own = seg.standing b

    low : IfSome own.wrote (λ n. n ≤ c)
    low = low_at own c event follows k

    of_alive : (last : ℕ) → Alive c ≡ Alive last → c ≡ last
    of_alive last is = cc

    at_last : (o : Option ℕ) (last : ℕ) → IfSome o (λ n. n ≤ c) → Alive c ≡ Alive last → IfSome o (λ n. n ≤ last)
    at_last o last below is = subst (λ m. IfSome o (λ n. n ≤ m)) (of_alive last is) below

    Listed : List Written → Type 0
    Listed lists = AllByRecursion (λ w. MatchOption own.wrote ⊥ (λ n. w.command ≤ n)) lists

    quiet : (ev : Event) (lists : List Written) → Listed lists → (t : Bool) → Listed (elim t [ true ↦ [] | false ↦ lists ])
    quiet ev lists held true = tt
    quiet ev lists held false = held

    raised : (o : Option ℕ) → IfSome o (λ n. n ≤ c) → (w : Written) → MatchOption o ⊥ (λ n. w.command ≤ n) → w.command ≤ c
    raised None none w never = absurd never
    raised (Some n) below w under = omega (arith, below, under)

    by : (ev : Event) → event ≡ ev → IsTimely (standing_after seg b c ev)
    by (Write xid items) is = record {
      listed = every-append (λ w. w.command ≤ c) own.lists (written_at seg b c items ∷ []) (every-weaker (λ w. MatchOption own.wrote ⊥ (λ n. w.command ≤ n)) (λ w. w.command ≤ c) (raised own.wrote low) own.lists k.listed) (omega arith, tt);
      low = λ last at. let same : c ≡ last = of_alive last at in omega (arith, same);
      none = λ at. absurd (cc);
    }
    by (Gone from) is = record {
      listed = every-filter (λ w. MatchOption own.wrote ⊥ (λ n. w.command ≤ n)) (λ w. nat_lt w.command from) own.lists (every-weaker (λ w. MatchOption own.wrote ⊥ (λ n. w.command ≤ n)) (λ w. nat_lt w.command from ≡ true → MatchOption own.wrote ⊥ (λ n. w.command ≤ n)) (λ w held kept. held) own.lists k.listed);
      low = λ last at. at_last own.wrote last low at;
      none = λ at. absurd (cc);
    }
    by (Release from) is = record { listed = quiet (Release from) own.lists k.listed _; low = λ last at. at_last own.wrote last low at; none = λ at. absurd (cc) }
    by Stop is = record { listed = k.listed; low = λ last at. absurd (cc); none = λ at. absurd (cc) }
    by ev is = record { listed = k.listed; low = λ last at. at_last own.wrote last low at; none = λ at. absurd (cc) }
