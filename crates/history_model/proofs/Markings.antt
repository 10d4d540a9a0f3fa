-- What marks the commands in which masked rows may be changed: locks that are held by then, and messages that the command has registered.
use Rattle.std.proofs.Common.{◌≡◌, ◌≤◌, ℕ, Bool, true, false, Option, Some, None, List, [], ◌∷◌, ◌++◌, ◌==◌, refl, sym, subst, arith}
use Rattle.std.specs.Prelude.{nat_le}
use Rattle.std.specs.List.{list_any}
use Rattle.std.specs.Option.{option_map_or}
use Rattle.std.proofs.lemmas.Bool.{eqb-true, eq-eqb, both_ways, and_parts, le-leb}
use Rattle.base_types.specs.declared.ids.Oid.{Oid}
use Rattle.base_types.specs.declared.mode.Mode.{Mode}
use Rattle.base_types.specs.declared.scan.Purpose.{Purpose}
use Rattle.event_kinds.specs.declared.entry.Entry.{Entry}
use Rattle.event_kinds.specs.declared.entry.Event.{Event}
use Rattle.event_kinds.specs.declared.entry.Event.TheVariants as events
use Rattle.inval_messages.specs.Lists.{Written}
use Rattle.history_model.specs.Transactions.{Running, running_transaction_of}
use Rattle.history_model.specs.Held.{held_of, held_by}
use Rattle.history_model.specs.Covered.{is_covered}
use Rattle.history_model.specs.Sent.{lists_of, lists_by, written_by}
use Rattle.history_model.specs.Sound.{MayComeNext}
use Rattle.history_model.proofs.Every.{any-left}
use Rattle.history_model.proofs.Reading.{held_of-more as held-more, lists_of-own as lists-own, lists_of-other as lists-other}
use Rattle.history_model.proofs.Touched.{entry_of, is_of, of_write, covers_at, below_stays}
use Rattle.history_model.proofs.Guards.{IsHeldIn, held_stays, held_left, any_with}
use Rattle.history_model.proofs.Ordered.{Ordered, guards_lawful, early_at}
use Rattle.history_model.proofs.MaskedRows.{Marking, SparesCommand}

swap_owner : (a b : ℕ) → (a == b) ≡ true → (b == a) ≡ true
swap_owner a b own = eq-eqb b a (sym (eqb-true a b own))

-- by this command the backend holds a mode on the relation that passes a test
abbrev pub HoldsBy : Oid → (Mode → Bool) → List Entry → ℕ → ℕ → Type 0
HoldsBy rel strong history a i = IsHeldIn strong (held_of history) a i rel

held_by_event : (rel : Oid) (strong : Mode → Bool) (history : List Entry) (w c : ℕ) (event : Event) (a i : ℕ) → Ordered history → MayComeNext history (entry_of w c event) → ((w == a) ≡ true → SparesCommand c event i) → IsHeldIn strong (held_of history) a i rel → IsHeldIn strong (held_by w c event (held_of history)) a i rel
held_by_event rel strong history w c (events.LockOk of mode) a i k comes spares had = any-left _ (held_of history) _ had
held_by_event rel strong history w c (events.Write xid items) a i k comes spares had = any-left _ (held_of history) _ had
held_by_event rel strong history w c (events.Release from) a i k comes spares had = held_stays strong (held_of history) w from a i rel (λ own. spares (swap_owner a w own)) had
held_by_event rel strong history w c (events.Unlock of mode) a i k comes spares had =
    let lawful = guards_lawful history w c (events.Unlock of mode) comes.follows.event comes.orderly k (early_at history (entry_of w c (events.Unlock of mode)) k comes.follows.life) in
    held_left strong (held_of history) w c of mode a i rel lawful.0 (λ own. spares (swap_owner a w own)) had
held_by_event rel strong history w c event a i k comes spares had = had

pub held_kept : (rel : Oid) (strong : Mode → Bool) (history : List Entry) (e : Entry) (a i : ℕ) → Ordered history → MayComeNext history e → ((e.backend == a) ≡ true → SparesCommand e.command e.event i) → HoldsBy rel strong history a i → HoldsBy rel strong (history ++ e ∷ []) a i
held_kept rel strong history e a i k comes spares had = subst (λ held. IsHeldIn strong held a i rel) (sym (held-more history e)) (held_by_event rel strong history e.backend e.command e.event a i k comes spares had)

abbrev pub held_marks : Oid → (Mode → Bool) → Marking
held_marks rel strong = record { has = HoldsBy rel strong; kept = held_kept rel strong }

-- of this command a write stands whose messages cover the scan
abbrev pub TellsIn : Purpose → List Entry → ℕ → ℕ → Type 0
TellsIn d history a i = list_any (covers_at i d) (lists_of history a) ≡ true

of_command : (d : Purpose) (i : ℕ) (l : Written) → covers_at i d l ≡ true → is_of i l ≡ true
of_command d i l is = (and_parts (is_of i l) (is_covered (of_write l) d) is).0

-- lists that end with the transaction are of its commands
ended : (d : Purpose) (history : List Entry) (a from i : ℕ) → Ordered history → nat_le from i ≡ false → TellsIn d history a i → (r : Option Running) → running_transaction_of history a ≡ r → (t : Bool) → option_map_or (λ x. x.first == from) r false ≡ t
    → list_any (covers_at i d) (elim t [ true ↦ [] | false ↦ lists_of history a ]) ≡ true
ended d history a from i k below had r is false goes_on = had
ended d history a from i k below had None is true ends' = absurd (cc)
ended d history a from i k below had (Some x) is true ends' = absurd (any_with (covers_at i d) (λ l. x.first ≤ l.command) ⊥
    (λ l here high. both_ways _ below (le-leb from i (omega (arith, high, eqb-true x.first from ends', eqb-true l.command i (of_command d i l here))))) (lists_of history a) had ((k.lives.timely a).high x is))

told_by_event : (d : Purpose) (history : List Entry) (a c : ℕ) (event : Event) (i : ℕ) → Ordered history → SparesCommand c event i → TellsIn d history a i → list_any (covers_at i d) (lists_by history a c event (lists_of history a)) ≡ true
told_by_event d history a c (events.Write xid items) i k spares had = any-left (covers_at i d) (lists_of history a) (written_by history a c items ∷ []) had
told_by_event d history a c (events.Gone from) i k spares had = below_stays (covers_at i d) (lists_of history a) from i (of_command d i) spares had
told_by_event d history a c (events.Release from) i k spares had = ended d history a from i k spares had (running_transaction_of history a) refl (option_map_or (λ x. x.first == from) (running_transaction_of history a) false) refl
told_by_event d history a c event i k spares had = had

told_kept_by : (d : Purpose) (history : List Entry) (e : Entry) (a i : ℕ) → Ordered history → ((e.backend == a) ≡ true → SparesCommand e.command e.event i) → TellsIn d history a i → (t : Bool) → (e.backend == a) ≡ t → TellsIn d (history ++ e ∷ []) a i
told_kept_by d history e a i k spares had true own = subst (λ ls. list_any (covers_at i d) ls ≡ true) (sym (lists-own history e a own)) (told_by_event d history a e.command e.event i k (spares own) had)
told_kept_by d history e a i k spares had false other = subst (λ ls. list_any (covers_at i d) ls ≡ true) (sym (lists-other history e a other)) had

pub told_kept : (d : Purpose) (history : List Entry) (e : Entry) (a i : ℕ) → Ordered history → MayComeNext history e → ((e.backend == a) ≡ true → SparesCommand e.command e.event i) → TellsIn d history a i → TellsIn d (history ++ e ∷ []) a i
told_kept d history e a i k comes spares had = told_kept_by d history e a i k spares had (e.backend == a) refl

abbrev pub told_marks : Purpose → Marking
told_marks d = record { has = TellsIn d; kept = told_kept d }
