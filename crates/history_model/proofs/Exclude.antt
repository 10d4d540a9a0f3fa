-- Locks exclude each other, and each is held by a grant of one command.
use Rattle.std.proofs.Common.{◌≡◌, ◌≤◌, ◌<◌, ◌+◌, ◌∙◌, ◌⊎◌, inl, inr, ℕ, Bool, true, false, not, Some, None, List, [], ◌∷◌, ◌++◌, ◌==◌, ◌&&◌, ◌||◌, cond, refl, sym, subst, filter, arith, length, suc, zero}
use Rattle.std.specs.Prelude.{⊤}
use Rattle.std.specs.List.{AllByRecursion, list_any, flat_map, find, range_with_len}
use Rattle.std.proofs.lemmas.Bool.{eqb-true, eq-eqb, both_ways, or_cases, and_parts, and_from}
use Rattle.base_types.specs.declared.ids.Oid.{Oid}
use Rattle.base_types.specs.declared.ids.Xid.{Xid}
use Rattle.base_types.specs.declared.mode.Mode.{Mode}
use Rattle.base_types.specs.declared.mode.Mode.TheVariants.{AccessShare, RowShare, RowExclusive, ShareUpdateExclusive, Share, ShareRowExclusive, Exclusive, AccessExclusive}
use Rattle.base_types.specs.declared.row.Row.TheVariants as rows
use Rattle.base_types.specs.Modes.{mode_number, same_mode, conflicts}
use Rattle.base_types.specs.Scans.{same_oid}
use Rattle.event_kinds.specs.declared.entry.Entry.{Entry}
use Rattle.event_kinds.specs.declared.entry.Event.{Event}
use Rattle.event_kinds.specs.declared.entry.Event.TheVariants as events
use Rattle.event_kinds.specs.declared.entry.Item.{Item}
use Rattle.event_kinds.specs.declared.entry.Item.TheVariants as items
use Rattle.lock_modes.specs.declared.grant.Grant.{Grant}
use Rattle.lock_modes.specs.Grants.{is_lock, holds, first_conflict, stays}
use Rattle.history_model.specs.Held.{granted_by, held_by, held_of}
use Rattle.history_model.specs.Allows.{is_lock_of}
use Rattle.history_model.specs.Drawn.{drawn_by, next_oid_by, next_oid}
use Rattle.history_model.proofs.Reading.{held_of-more as held-more, next_oid-more as next-more}
use Rattle.history_model.proofs.Every.{every-weaker, every-append, every-filter, every-kept, every-both, every-swap}
pub use Rattle.history_model.proofs.Every.{every-parts}

pub conflicts-sym : (a b : Mode) → conflicts a b ≡ conflicts b a
conflicts-sym AccessShare AccessShare = refl
conflicts-sym RowShare AccessShare = refl
conflicts-sym RowExclusive AccessShare = refl
conflicts-sym ShareUpdateExclusive AccessShare = refl
conflicts-sym Share AccessShare = refl
conflicts-sym ShareRowExclusive AccessShare = refl
conflicts-sym Exclusive AccessShare = refl
conflicts-sym AccessExclusive AccessShare = refl
conflicts-sym a b = refl

-- two grants on one relation to two backends don't conflict
abbrev pub Agree : Grant → Grant → Type 0
Agree g k = same_oid g.rel k.rel ≡ true → (g.backend == k.backend) ≡ false → conflicts g.mode k.mode ≡ false

-- a relation holds of each of the first grants and each of the second
abbrev pub AllPairs : (Grant → Grant → Type 0) → List Grant → List Grant → Type 0
AllPairs R gs ks = AllByRecursion (λ g. AllByRecursion (R g) ks) gs

abbrev pub AllAgree : List Grant → List Grant → Type 0
AllAgree gs ks = AllPairs Agree gs ks

-- two grants of one lock are of one command
abbrev pub IsOfCommand : Grant → Grant → Type 0
IsOfCommand g k = g.backend ≡ k.backend → g.rel.0 ≡ k.rel.0 → mode_number g.mode ≡ mode_number k.mode → g.command ≡ k.command

same_oid-sym : (a b : Oid) → same_oid a b ≡ true → same_oid b a ≡ true
same_oid-sym a b is = eq-eqb b.0 a.0 (sym (eqb-true a.0 b.0 is))

Agree-sym : (g k : Grant) → Agree g k → Agree k g
Agree-sym g k agree same differ = conflicts-sym k.mode g.mode ∙ agree (same_oid-sym k.rel g.rel same) (other (g.backend == k.backend) refl)
  where
    other : (t : Bool) → (g.backend == k.backend) ≡ t → t ≡ false
    other false is = refl
    other true is = absurd (both_ways _ differ (eq-eqb k.backend g.backend (sym (eqb-true g.backend k.backend is))))

-- what a lock of the mode on the relation to the backend says of a grant, in numbers
pub lock_is : (b : ℕ) (rel : Oid) (mode : Mode) (g : Grant) → is_lock b rel mode g ≡ true → (g.backend ≡ b) × ((g.rel.0 ≡ rel.0) × (mode_number g.mode ≡ mode_number mode))
lock_is b rel mode g lock =
    let p = and_parts ((g.backend == b) && same_oid g.rel rel) (same_mode g.mode mode) lock in
    let q = and_parts (g.backend == b) (same_oid g.rel rel) p.0 in
    (eqb-true g.backend b q.0, (eqb-true g.rel.0 rel.0 q.1, eqb-true (mode_number g.mode) (mode_number mode) p.1))

is_from : (b : ℕ) (rel : Oid) (mode : Mode) (g : Grant) → g.backend ≡ b → g.rel.0 ≡ rel.0 → mode_number g.mode ≡ mode_number mode → is_lock b rel mode g ≡ true
is_from b rel mode g own on in' =
    and_from ((g.backend == b) && same_oid g.rel rel) (same_mode g.mode mode) (and_from (g.backend == b) (same_oid g.rel rel) (eq-eqb g.backend b own) (eq-eqb g.rel.0 rel.0 on)) (eq-eqb (mode_number g.mode) (mode_number mode) in')

-- a relation of grants that all which are held go on to have: it holds both ways, of two grants to one backend in one command, of two on different relations, and of a grant that is free with each that is held
record IsPairwise (R : Grant → Grant → Type 0) : Type 0 where
  turn : (g k : Grant) → R g k → R k g
  one : (g k : Grant) → g.backend ≡ k.backend → g.command ≡ k.command → R g k
  apart : (g k : Grant) → (g.rel.0 ≡ k.rel.0 → ⊥) → R g k
  free : (b c : ℕ) (rel : Oid) (mode : Mode) (k : Grant) → is_lock b rel mode k ≡ false → (not (k.backend == b) && same_oid k.rel rel && conflicts mode k.mode) ≡ false → R (record { backend = b; command = c; rel = rel; mode = mode }) k

module _ (R : Grant → Grant → Type 0) (pairwise : IsPairwise R) where
  pairs-append : (gs ks : List Grant) → AllPairs R gs gs → AllPairs R gs ks → AllPairs R ks gs → AllPairs R ks ks → AllPairs R (gs ++ ks) (gs ++ ks)
  pairs-append gs ks one two three four = every-append (λ g. AllByRecursion (R g) (gs ++ ks)) gs ks (both gs one two) (both ks three four)
    where
      both : (hs : List Grant) → AllPairs R hs gs → AllPairs R hs ks → AllByRecursion (λ g. AllByRecursion (R g) (gs ++ ks)) hs
      both hs left right = every-weaker (λ g. AllByRecursion (R g) gs × AllByRecursion (R g) ks) (λ g. AllByRecursion (R g) (gs ++ ks)) (λ g held. every-append (R g) gs ks held.0 held.1) hs
          (every-both (λ g. AllByRecursion (R g) gs) (λ g. AllByRecursion (R g) ks) hs left right)

  turned : (gs ks : List Grant) → AllPairs R gs ks → AllPairs R ks gs
  turned gs ks all = every-weaker (λ k. AllByRecursion (λ g. R g k) gs) (λ k. AllByRecursion (R k) gs) (λ k held. every-weaker (λ g. R g k) (R k) (λ g is. pairwise.turn g k is) gs held) ks (every-swap R gs ks all)

  pairs-filter : (keep : Grant → Bool) (gs : List Grant) → AllPairs R gs gs → AllPairs R (filter keep gs) (filter keep gs)
  pairs-filter keep gs all =
      every-filter (λ g. AllByRecursion (R g) (filter keep gs)) keep gs (every-weaker (λ g. AllByRecursion (R g) gs) (λ g. keep g ≡ true → AllByRecursion (R g) (filter keep gs))
      (λ g held is. every-filter (R g) keep gs (every-weaker (R g) (λ k. keep k ≡ true → R g k) (λ k has kept. has) gs held)) gs all)

-- what is needed of an entry: a lock is free and not held, and of a relation that is drawn; a write draws the next oids
abbrev pub LocksLawfully : List Entry → ℕ → Event → Type 0
LocksLawfully before b (events.LockOk rel mode) = (holds (held_of before) b rel mode ≡ false) × ((first_conflict (held_of before) b rel mode ≡ None) × (rel.0 < next_oid before))
LocksLawfully before b (events.Write xid changes) = flat_map drawn_by changes ≡ range_with_len (next_oid before) (length (flat_map drawn_by changes))
LocksLawfully before b event = ⊤

abbrev pub IsLockLawful : List Entry → Entry → Type 0
IsLockLawful before e = LocksLawfully before e.backend e.event

none_found : (test : Grant → Bool) (gs : List Grant) → find test gs ≡ None → AllByRecursion (λ g. test g ≡ false) gs
none_found test [] none = tt
none_found test (g ∷ gs) none = by_test (test g) refl none (none_found test gs)
  where
    by_test : (t : Bool) → test g ≡ t → cond t (Some g) (find test gs) ≡ None → (find test gs ≡ None → AllByRecursion (λ k. test k ≡ false) gs) → (test g ≡ false) × AllByRecursion (λ k. test k ≡ false) gs
    by_test true is found rest = absurd (cc)
    by_test false is found rest = (is, rest found)

-- a grant that no other's conflicts with
free_agrees : (b c : ℕ) (rel : Oid) (mode : Mode) (k : Grant) → (not (k.backend == b) && same_oid k.rel rel && conflicts mode k.mode) ≡ false → Agree (record { backend = b; command = c; rel = rel; mode = mode }) k
free_agrees b c rel mode k free same differ = by_tests (k.backend == b) (same_oid k.rel rel) (conflicts mode k.mode) refl (same_oid-sym rel k.rel same) refl free
  where
    by_tests : (s t u : Bool) → (k.backend == b) ≡ s → t ≡ true → conflicts mode k.mode ≡ u → (not s && t && u) ≡ false → u ≡ false
    by_tests true t u own is last none = absurd (both_ways _ differ (eq-eqb b k.backend (sym (eqb-true k.backend b own))))
    by_tests false true u own is last none = none
    by_tests false false u own is last none = absurd (cc)

-- a grant for a relation that the write adds
pub record IsNew (b low high : ℕ) (g : Grant) : Type 0 where
  pub by : g.backend ≡ b
  pub above : low ≤ g.rel.0
  pub below : g.rel.0 < high

granted_new : (b c low high : ℕ) (item : Item) → AllByRecursion (λ n. (low ≤ n) × (n < high)) (drawn_by item) → AllByRecursion (IsNew b low high) (granted_by b c item)
granted_new b c low high (items.Add (rows.Class oid own kind fill)) drawn = (record { by = refl; above = drawn.0.0; below = drawn.0.1 }, tt)
granted_new b c low high item drawn = tt

pub all_granted_new : (b c low high : ℕ) (changes : List Item) → AllByRecursion (λ n. (low ≤ n) × (n < high)) (flat_map drawn_by changes) → AllByRecursion (IsNew b low high) (flat_map (granted_by b c) changes)
all_granted_new b c low high [] drawn = tt
all_granted_new b c low high (item ∷ changes) drawn =
    let parts = every-parts (λ n. (low ≤ n) × (n < high)) (drawn_by item) (flat_map drawn_by changes) drawn in
    every-append (IsNew b low high) (granted_by b c item) (flat_map (granted_by b c) changes) (granted_new b c low high item parts.0) (all_granted_new b c low high changes parts.1)

pub in_range : (low high start len : ℕ) → low ≤ start → start + len ≤ high → AllByRecursion (λ n. (low ≤ n) × (n < high)) (range_with_len start len)
in_range low high start zero above below = tt
in_range low high start (suc len) above below = ((above, omega arith), in_range low high (start + 1) len (omega arith) (omega arith))

-- a write grants to its backend, in its command
pub granted_here : (b c : ℕ) (changes : List Item) → AllByRecursion (λ g. (g.backend ≡ b) × (g.command ≡ c)) (flat_map (granted_by b c) changes)
granted_here b c [] = tt
granted_here b c (item ∷ changes) = every-append (λ g. (g.backend ≡ b) × (g.command ≡ c)) (granted_by b c item) (flat_map (granted_by b c) changes) (of item) (granted_here b c changes)
  where
    of : (item : Item) → AllByRecursion (λ g. (g.backend ≡ b) × (g.command ≡ c)) (granted_by b c item)
    of (items.Add (rows.Class oid own kind fill)) = ((refl, refl), tt)
    of item = tt

-- the locks that are held agree, each is held by grants of one command, and they are of drawn relations
pub record LocksWell (history : List Entry) : Type 0 where
  pub agree : AllAgree (held_of history) (held_of history)
  pub once : AllPairs IsOfCommand (held_of history) (held_of history)
  pub drawn : AllByRecursion (λ g. g.rel.0 < next_oid history) (held_of history)

agree_pairwise : IsPairwise Agree
agree_pairwise = record {
  turn = Agree-sym;
  one = λ g k own command same differ. absurd (both_ways _ differ (eq-eqb g.backend k.backend own));
  apart = λ g k differs same differ. absurd (differs (eqb-true g.rel.0 k.rel.0 same));
  free = λ b c rel mode k unheld free. free_agrees b c rel mode k free;
}

command_pairwise : IsPairwise IsOfCommand
command_pairwise = record {
  turn = λ g k is own on in'. sym (is (sym own) (sym on) (sym in'));
  one = λ g k own command owner on in'. command;
  apart = λ g k differs own on in'. absurd (differs on);
  free = λ b c rel mode k unheld free own on in'. absurd (both_ways _ unheld (is_from b rel mode k (sym own) (sym on) (sym in')));
}

-- the new grants of a write, of drawn relations
news_of : (history : List Entry) (b c : ℕ) (xid : Xid) (changes : List Item) → LocksLawfully history b (events.Write xid changes) → AllByRecursion (IsNew b (next_oid history) (next_oid history + length (flat_map drawn_by changes))) (flat_map (granted_by b c) changes)
news_of history b c xid changes lawful =
    let low = next_oid history in
    let len = length (flat_map drawn_by changes) in
    all_granted_new b c low (low + len) changes (subst (AllByRecursion (λ n. (low ≤ n) × (n < low + len))) (sym lawful) (in_range low (low + len) low len (omega arith) (omega arith)))

none_held : (b : ℕ) (rel : Oid) (mode : Mode) (gs : List Grant) → holds gs b rel mode ≡ false → AllByRecursion (λ g. is_lock b rel mode g ≡ false) gs
none_held b rel mode [] none = tt
none_held b rel mode (g ∷ gs) none = let parts = neither (is_lock b rel mode g) (holds gs b rel mode) none in (parts.0, none_held b rel mode gs parts.1)
  where
    neither : (x y : Bool) → (x || y) ≡ false → (x ≡ false) × (y ≡ false)
    neither false y is = (refl, is)
    neither true y is = absurd (cc)

pairs_by : (R : Grant → Grant → Type 0) → IsPairwise R → (history : List Entry) (b c : ℕ) (event : Event) → LocksLawfully history b event → AllByRecursion (λ g. g.rel.0 < next_oid history) (held_of history) → AllPairs R (held_of history) (held_of history)
    → AllPairs R (held_by b c event (held_of history)) (held_by b c event (held_of history))
pairs_by R pairwise history b c (events.LockOk rel mode) lawful drawn all =
    pairs-append R pairwise held (new ∷ []) all (turned R pairwise (new ∷ []) held (free, tt)) (free, tt) ((pairwise.one new new refl refl, tt), tt)
  where
    held : List Grant
    held = held_of history

    new : Grant
    new = record { backend = b; command = c; rel = rel; mode = mode }

    free : AllByRecursion (R new) held
    free = every-weaker (λ k. (is_lock b rel mode k ≡ false) × ((not (k.backend == b) && same_oid k.rel rel && conflicts mode k.mode) ≡ false)) (R new) (λ k is. pairwise.free b c rel mode k is.0 is.1) held
        (every-both (λ k. is_lock b rel mode k ≡ false) (λ k. (not (k.backend == b) && same_oid k.rel rel && conflicts mode k.mode) ≡ false) held (none_held b rel mode held lawful.0)
        (none_found (λ k. not (k.backend == b) && same_oid k.rel rel && conflicts mode k.mode) held lawful.1.0))
pairs_by R pairwise history b c (events.Unlock rel mode) lawful drawn all = pairs-filter R pairwise (λ g. not (is_lock b rel mode g)) (held_of history) all
pairs_by R pairwise history b c (events.Write xid changes) lawful drawn all = pairs-append R pairwise held more all (turned R pairwise more held new_old) new_old new_new
  where
    held : List Grant
    held = held_of history

    more : List Grant
    more = flat_map (granted_by b c) changes

    Here : Grant → Type 0
    Here g = (g.backend ≡ b) × (g.command ≡ c)

    low : ℕ
    low = next_oid history

    high : ℕ
    high = next_oid history + length (flat_map drawn_by changes)

    new_old : AllPairs R more held
    new_old = every-weaker (IsNew b low high) (λ g. AllByRecursion (R g) held) (λ g new. every-weaker (λ k. k.rel.0 < low) (R g) (λ k old. pairwise.apart g k (λ same. absurd (omega (arith, same, old, new.above)))) held drawn) more (news_of history b c xid changes lawful)

    new_new : AllPairs R more more
    new_new = every-weaker Here (λ g. AllByRecursion (R g) more) (λ g here. every-weaker Here (R g) (λ k also. pairwise.one g k (here.0 ∙ sym also.0) (here.1 ∙ sym also.1)) more (granted_here b c changes)) more (granted_here b c changes)
pairs_by R pairwise history b c (events.Release from) lawful drawn all = pairs-filter R pairwise (stays b from) (held_of history) all
pairs_by R pairwise history b c event lawful drawn all = all

drawn_after : (history : List Entry) (b c : ℕ) (event : Event) → LocksLawfully history b event → AllByRecursion (λ g. g.rel.0 < next_oid history) (held_of history)
    → AllByRecursion (λ g. g.rel.0 < next_oid_by event (next_oid history)) (held_by b c event (held_of history))
drawn_after history b c (events.LockOk rel mode) lawful drawn = every-append (λ g. g.rel.0 < next_oid history) (held_of history) (record { backend = b; command = c; rel = rel; mode = mode } ∷ []) drawn (lawful.1.1, tt)
drawn_after history b c (events.Unlock rel mode) lawful drawn = every-kept (λ g. g.rel.0 < next_oid history) (λ g. not (is_lock b rel mode g)) (held_of history) drawn
drawn_after history b c (events.Write xid changes) lawful drawn =
    let high = next_oid history + length (flat_map drawn_by changes) in
    every-append (λ g. g.rel.0 < high) (held_of history) (flat_map (granted_by b c) changes) (every-weaker (λ g. g.rel.0 < next_oid history) (λ g. g.rel.0 < high) (λ g below. omega (arith, below)) (held_of history) drawn)
    (every-weaker (IsNew b (next_oid history) high) (λ g. g.rel.0 < high) (λ g new. new.below) (flat_map (granted_by b c) changes) (news_of history b c xid changes lawful))
drawn_after history b c (events.Release from) lawful drawn = every-kept (λ g. g.rel.0 < next_oid history) (stays b from) (held_of history) drawn
drawn_after history b c event lawful drawn = drawn

pub LocksWell-more : (history : List Entry) (e : Entry) → IsLockLawful history e → LocksWell history → LocksWell (history ++ e ∷ [])
LocksWell-more history e lawful well =
    record {
      agree = subst (λ gs. AllAgree gs gs) (sym (held-more history e)) (pairs_by Agree agree_pairwise history e.backend e.command e.event lawful well.drawn well.agree);
      once = subst (λ gs. AllPairs IsOfCommand gs gs) (sym (held-more history e)) (pairs_by IsOfCommand command_pairwise history e.backend e.command e.event lawful well.drawn well.once);
      drawn = subst (λ gs. AllByRecursion (λ g. g.rel.0 < next_oid (history ++ e ∷ [])) gs) (sym (held-more history e))
          (subst (λ next. AllByRecursion (λ g. g.rel.0 < next) (held_by e.backend e.command e.event (held_of history))) (sym (next-more history e)) (drawn_after history e.backend e.command e.event lawful well.drawn));
    }

-- so all grants of a lock are of the command of one of them
pub lock_command : (history : List Entry) (b c : ℕ) (rel : Oid) (mode : Mode) → LocksWell history → list_any (is_lock_of b c rel mode) (held_of history) ≡ true → AllByRecursion (λ g. is_lock b rel mode g ≡ true → g.command ≡ c) (held_of history)
lock_command history b c rel mode well some = of (held_of history) some well.once
  where
    Of : Grant → Type 0
    Of g = is_lock b rel mode g ≡ true → g.command ≡ c

    here : (g : Grant) → is_lock_of b c rel mode g ≡ true → AllByRecursion (IsOfCommand g) (held_of history) → AllByRecursion Of (held_of history)
    here g is all =
        let p = and_parts (is_lock b rel mode g) (g.command == c) is in
        let at = lock_is b rel mode g p.0 in
        every-weaker (IsOfCommand g) Of (λ k one lock. let also = lock_is b rel mode k lock in sym (one (at.0 ∙ sym also.0) (at.1.0 ∙ sym also.1.0) (at.1.1 ∙ sym also.1.1)) ∙ eqb-true g.command c p.1) (held_of history) all

    of : (gs : List Grant) → list_any (is_lock_of b c rel mode) gs ≡ true → AllPairs IsOfCommand gs (held_of history) → AllByRecursion Of (held_of history)
    of [] none all = absurd (cc)
    of (g ∷ gs) any all = by_place (or_cases (is_lock_of b c rel mode g) (list_any (is_lock_of b c rel mode) gs) any) (of gs)
      where
        by_place : (is_lock_of b c rel mode g ≡ true) ⊎ (list_any (is_lock_of b c rel mode) gs ≡ true) → (list_any (is_lock_of b c rel mode) gs ≡ true → AllPairs IsOfCommand gs (held_of history) → AllByRecursion Of (held_of history)) → AllByRecursion Of (held_of history)
        by_place (inl is) rest = here g is all.0
        by_place (inr there) rest = rest there all.1
