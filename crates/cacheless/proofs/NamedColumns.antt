-- No backend sees two columns of a relation that have one name.
use Rattle.std.proofs.Common.{◌≡◌, ◌⊎◌, inl, inr, ℕ, Bool, true, false, not, Option, Some, None, List, [], ◌∷◌, ◌==◌, refl, sym, subst, map, filter, cond}
use Rattle.std.specs.Prelude.{⊤}
use Rattle.std.specs.List.{AllByRecursion}
use Rattle.std.specs.Option.{IfSome}
use Rattle.std.proofs.lemmas.Bool.{eqb-true, eq-eqb, both_ways, false_from_ne_true}
use Rattle.base_types.specs.declared.row.Row.TheVariants as rows
use Rattle.row_visibility.specs.declared.version.Version.{Version}
use Rattle.event_kinds.specs.declared.entry.Event.TheVariants as events
use Rattle.lock_modes.specs.declared.grant.Grant.{Grant}
use Rattle.history_model.specs.Prefixes.{EachEntry}
use Rattle.history_model.specs.Versions.{versions_of, versions_by, end_back, added_row, is_back, sees, rows_of}
use Rattle.history_model.specs.Held.{held_by, held_of}
use Rattle.history_model.specs.Orderly.{main_rel}
use Rattle.history_model.specs.Sound.{MayComeNext, IsSound}
use Rattle.history_model.proofs.Reading.{versions_of-more as versions-more}
use Rattle.history_model.proofs.Every.{every-weaker, every-map, every-filter, every-both}
use Rattle.history_model.proofs.Touched.{entry_of}
use Rattle.history_model.proofs.Guards.{IsGuarded, IsGuardedItem}
use Rattle.history_model.proofs.Seen.{Pairwise}
use Rattle.history_model.proofs.InOrder.{IsIn}
use Rattle.history_model.proofs.Ordered.{Ordered, if_some, guards_lawful, early_at, sound_ordered}
use Rattle.cacheless.specs.Types.{Row, Entry, Event, Item}
use Rattle.cacheless.specs.TableWrites.{AreNamesakes, IsCalledWell, IsCalledApart, CallsApart, AreCalledApart}
use Rattle.cacheless.proofs.AlongSound.{along_sound}
use Rattle.cacheless.proofs.EndedFirst.{EndsIt}
use Rattle.cacheless.proofs.NumberedColumns.{every_written}
use Rattle.cacheless.proofs.OneOfAKind.{IsFreeRow, Inherits, GiveApart, KeepsApartBy, guarded_free, gives_way, none_clash}

-- what holds of the rows that are seen holds of the versions that are seen
every_seen : (P : Row → Type 0) (keep : Version → Bool) (vs : List Version) → AllByRecursion P (map (λ v. v.row) (filter keep vs)) → AllByRecursion (λ v. keep v ≡ true → P v.row) vs
every_seen P keep [] all = tt
every_seen P keep (v ∷ vs) all = by_test (keep v) refl all (every_seen P keep vs)
  where
    by_test : (t : Bool) → keep v ≡ t → AllByRecursion P (map (λ w. w.row) (cond t (v ∷ filter keep vs) (filter keep vs))) → (AllByRecursion P (map (λ w. w.row) (filter keep vs)) → AllByRecursion (λ w. keep w ≡ true → P w.row) vs)
        → AllByRecursion (λ w. keep w ≡ true → P w.row) (v ∷ vs)
    by_test true is held rest = ((λ seen. held.0), rest held.1)
    by_test false is held rest = ((λ seen. absurd (both_ways _ is seen)), rest held)

namesakes_rel : (row other : Row) → AreNamesakes row other → main_rel row ≡ main_rel other
namesakes_rel (rows.Att rel num name col_type stat live) (rows.Att of other own col_type' stat' live') are = are.0
namesakes_rel (rows.Att rel num name col_type stat live) other are = absurd are
namesakes_rel row other are = absurd are

-- if the event is a write, it calls the columns that it gives apart
abbrev pub CallsBy : List Entry → ℕ → Event → Type 0
CallsBy before b (events.Write xid items) = AllByRecursion (CallsApart before b) items × AreCalledApart items
CallsBy before b event = ⊤

-- so it is with the event of the entry
abbrev pub WritesCalled : List Entry → Entry → Type 0
WritesCalled before e = CallsBy before e.backend e.event

called_pairs : (items : List Item) → AreCalledApart items → Pairwise (GiveApart AreNamesakes) items
called_pairs [] apart = tt
called_pairs (item ∷ items) apart = (apart.0, called_pairs items apart.1)

-- so a write keeps namesakes apart
keeps_apart : (history : List Entry) (b c : ℕ) (event : Event) → IsSound history → MayComeNext history (entry_of b c event) → CallsBy history b event → KeepsApartBy AreNamesakes history b event
keeps_apart history b c (events.Write xid items) sound comes calls = record {
  new = every-weaker (λ item. Guarded item × CallsApart history b item) (λ item. IfSome (added_row item) (λ row. IsFreeRow AreNamesakes history b items row ⊎ Inherits AreNamesakes history b item row)) (λ item h. free item (added_row item) h.0.0 h.1) items
      (every-both Guarded (CallsApart history b) items (guards_lawful history b c (events.Write xid items) comes.follows.event comes.orderly k (early_at history (entry_of b c (events.Write xid items)) k comes.follows.life)) calls.0);
  apart = called_pairs items calls.1;
}
  where
    k : Ordered history
    k = sound_ordered history sound

    held : List Grant
    held = held_by b c (events.Write xid items) (held_of history)

    Guarded : Item → Type 0
    Guarded item = IsGuardedItem history b (IsGuarded held b c) item

    free : (item : Item) (o : Option Row) → IfSome o (λ row. IsGuarded held b c (main_rel row)) → IfSome o (IsCalledApart history b) → IfSome o (λ row. IsFreeRow AreNamesakes history b items row ⊎ Inherits AreNamesakes history b item row)
    free item None guarded called = tt
    free item (Some row) guarded called = inl (guarded_free AreNamesakes namesakes_rel history b c xid items row sound comes guarded
        (every-weaker (λ v. sees history b v ≡ true → AreNamesakes v.row row → ⊥) (λ v. sees history b v ≡ true → AreNamesakes v.row row → EndsIt history b items v) (λ v none seen are. absurd (none seen are)) (versions_of history)
        (every_seen (λ seen. AreNamesakes seen row → ⊥) (sees history b) (versions_of history) called.1)))
keeps_apart history b c event sound comes calls = tt

-- where writes call columns apart no backend sees two with one name
pub called_apart : (history : List Entry) (b : ℕ) → IsSound history → EachEntry WritesCalled history → Pairwise (λ row other. AreNamesakes row other → ⊥) (rows_of history b)
called_apart history b sound calls = none_clash AreNamesakes history b (gives_way AreNamesakes WritesCalled keeps_apart history sound calls)

called_by : (history : List Entry) (b c : ℕ) (event : Event) → CallsBy history b event → AllByRecursion (λ v. IsCalledWell v.row) (versions_of history) → AllByRecursion (λ v. IsCalledWell v.row) (versions_by history b c event (versions_of history))
called_by history b c (events.Write xid items) calls called = every_written (λ row s. IsCalledWell row) history b (record { xid = xid; command = c }) items (versions_of history)
    (every-weaker (CallsApart history b) (λ item. IfSome (added_row item) IsCalledWell) (λ item h. if_some (IsCalledApart history b) IsCalledWell (λ row is. is.0) (added_row item) h) items calls.0) called
called_by history b c (events.Gone from) calls called =
    every-map (λ v. IsCalledWell v.row) (end_back (is_back history b from)) (filter (λ v. not (is_back history b from v.by)) (versions_of history))
    (every-filter (λ v. IsCalledWell v.row) (λ v. not (is_back history b from v.by)) (versions_of history) (every-weaker (λ v. IsCalledWell v.row) (λ v. not (is_back history b from v.by) ≡ true → IsCalledWell v.row) (λ v is kept. is) (versions_of history) called))
called_by history b c event calls called = called

-- and each that it sees has a name that a command may give, or is dropped
pub called_well : (history : List Entry) (b : ℕ) → IsSound history → EachEntry WritesCalled history → AllByRecursion IsCalledWell (rows_of history b)
called_well history b sound calls = every-map IsCalledWell (λ v. v.row) (filter (sees history b) (versions_of history))
    (every-filter (λ v. IsCalledWell v.row) (sees history b) (versions_of history) (every-weaker (λ v. IsCalledWell v.row) (λ v. sees history b v ≡ true → IsCalledWell v.row) (λ v is seen. is) (versions_of history) all))
  where
    all : AllByRecursion (λ v. IsCalledWell v.row) (versions_of history)
    all = along_sound WritesCalled (λ h. AllByRecursion (λ v. IsCalledWell v.row) (versions_of h)) tt
        (λ before e sound comes calls called. subst (AllByRecursion (λ v. IsCalledWell v.row)) (sym (versions-more before e)) (called_by before e.backend e.command e.event calls called)) history sound calls

eq_sym : (n m : ℕ) → (n == m) ≡ false → (m == n) ≡ false
eq_sym n m differ = false_from_ne_true (m == n) (λ is. both_ways _ differ (eq-eqb n m (sym (eqb-true m n is))))

namesakes_back : (row other : Row) → AreNamesakes row other → AreNamesakes other row
namesakes_back (rows.Att rel num name col_type stat live) (rows.Att of other own col_type' stat' live') are = (sym are.0, sym are.1, eq_sym num other are.2)
namesakes_back (rows.Att rel num name col_type stat live) other are = absurd are
namesakes_back row other are = absurd are

no_own : (row : Row) → AreNamesakes row row → ⊥
no_own (rows.Att rel num name col_type stat live) are = both_ways _ are.2 (eq-eqb num num refl)
no_own row are = absurd are

-- a column that a backend sees has the name of no other that it sees
pub apart_from : (row : Row) (seen : List Row) → Pairwise (λ r other. AreNamesakes r other → ⊥) seen → IsIn row seen → AllByRecursion (λ other. AreNamesakes other row → ⊥) seen
apart_from row [] pairs there = absurd there
apart_from row (first ∷ seen) pairs (inl is) = subst (λ r. AllByRecursion (λ other. AreNamesakes other r → ⊥) (first ∷ seen)) (sym is)
    (no_own first, every-weaker (λ other. AreNamesakes first other → ⊥) (λ other. AreNamesakes other first → ⊥) (λ other apart are. apart (namesakes_back other first are)) seen pairs.0)
apart_from row (first ∷ seen) pairs (inr later) = (in_later seen pairs.0 later, apart_from row seen pairs.1 later)
  where
    in_later : (others : List Row) → AllByRecursion (λ other. AreNamesakes first other → ⊥) others → IsIn row others → AreNamesakes first row → ⊥
    in_later [] all there = absurd there
    in_later (other ∷ others) all (inl is) = subst (λ r. AreNamesakes first r → ⊥) (sym is) all.0
    in_later (other ∷ others) all (inr more) = in_later others all.1 more
