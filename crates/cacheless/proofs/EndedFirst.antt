-- Versions that are ended by a stamp that goes first: whoever counts the later stamp sees none of them. What a writer counts is ended so before its write, or the writer sees it.
use Rattle.std.proofs.Common.{◌≡◌, ◌⊎◌, inl, inr, ℕ, true, false, not, Option, Some, None, List, [], ◌∷◌, ◌++◌, ◌||◌, refl, sym, ap, subst}
use Rattle.std.specs.List.{AllByRecursion, flat_map}
use Rattle.std.specs.Option.{option_map_or, IfSome, IsSomeAnd}
use Rattle.std.proofs.lemmas.Bool.{both_ways, or_left, or_right, and_parts, and_from, not-true}
use Rattle.base_types.specs.declared.ids.Xid.{Xid}
use Rattle.row_visibility.specs.declared.version.Version.{Version}
use Rattle.row_visibility.specs.declared.version.Stamp.{Stamp}
use Rattle.event_kinds.specs.declared.entry.Event.TheVariants as events
use Rattle.lock_modes.specs.declared.grant.Grant.{Grant}
use Rattle.history_model.specs.Transactions.{runs_as, is_committed}
use Rattle.history_model.specs.Versions.{versions_of, ends, is_back, counts, sees}
use Rattle.history_model.specs.Held.{granted_by, held_by, held_of}
use Rattle.history_model.specs.Orderly.{main_rel}
use Rattle.history_model.specs.Sound.{MayComeNext}
use Rattle.history_model.proofs.Reading.{held_of-more as held-more}
use Rattle.history_model.proofs.Every.{every-weaker, every-both, any-left, SomeOf}
use Rattle.history_model.proofs.Lawful.{EndsOnce, IsLawful}
use Rattle.history_model.proofs.Runs.{Runs}
use Rattle.history_model.proofs.Exclude.{AllAgree}
use Rattle.history_model.proofs.Touched.{entry_of, OfStamps, Touch}
use Rattle.history_model.proofs.Guards.{IsGuarded, Guard, one_guard}
use Rattle.history_model.proofs.Ordered.{Ordered, Ordered-more}
use Rattle.cacheless.specs.Types.{Oid, Row, Entry, Item}
use Rattle.cacheless.proofs.NumberedColumns.{Lasts, GoesFirst, first_on, first_spared, counted_first}

-- there is an end, by a stamp that goes first
abbrev pub EndedFirst : List Entry → Stamp → Option Stamp → Type 0
EndedFirst history s o = IsSomeAnd o (λ u. GoesFirst history u s)

-- so it is after one more entry
pub ended_on : (history : List Entry) (e : Entry) (s : Stamp) (o : Option Stamp) → EndedFirst history s o → EndedFirst (history ++ e ∷ []) s o
ended_on history e s None none = none
ended_on history e s (Some u) first = first_on history e u s first

-- taking back what the later stamp survives leaves the end
pub ended_back : (history : List Entry) (b c from : ℕ) (s : Stamp) (o : Option Stamp) → Runs history → IsLawful history (entry_of b c (events.Gone from)) → is_back history b from s ≡ false → EndedFirst history s o
    → EndedFirst (history ++ entry_of b c (events.Gone from) ∷ []) s (elim (option_map_or (is_back history b from) o false) [ true ↦ None | false ↦ o ])
ended_back history b c from s None r lawful spared none = absurd none
ended_back history b c from s (Some u) r lawful spared first =
    subst (λ t. EndedFirst (history ++ entry_of b c (events.Gone from) ∷ []) s (elim t [ true ↦ None | false ↦ Some u ])) (sym (first_spared history b c (events.Gone from) u s r lawful first spared)) (first_on history (entry_of b c (events.Gone from)) u s first)

-- what goes first counts where the later stamp does
pub first_counts : (history : List Entry) (b : ℕ) (u s : Stamp) → GoesFirst history u s → counts history b s ≡ true → counts history b u ≡ true
first_counts history b u s (inl was) counted = or_left (is_committed history u.xid.0) (runs_as history b u.xid.0) was
first_counts history b u s (inr same) counted = subst (λ x. (is_committed history x || runs_as history b x) ≡ true) (sym same.0) counted

-- so there a version that it ends isn't seen
pub ended_hidden : (history : List Entry) (b : ℕ) (s : Stamp) (v : Version) → counts history b s ≡ true → EndedFirst history s v.ended → sees history b v ≡ true → ⊥
ended_hidden history b s v counted ended seen = of v.ended ended (and_parts (counts history b v.by) (not (option_map_or (counts history b) v.ended false)) seen).1
  where
    of : (o : Option Stamp) → EndedFirst history s o → not (option_map_or (counts history b) o false) ≡ true → ⊥
    of None none free = none
    of (Some u) first free = both_ways _ (not-true (counts history b u) free) (first_counts history b u s first counted)

-- a change of the write ends the version
abbrev pub EndsIt : List Entry → ℕ → List Item → Version → Type 0
EndsIt before b items v = SomeOf (λ i. ends before b i v ≡ true) items

-- none ends one that is ended
pub ends_unended : (history : List Entry) (b : ℕ) (item : Item) → AllByRecursion (OfStamps (Lasts history)) (versions_of history) → EndsOnce history b item → AllByRecursion (λ v. ends history b item v ≡ true → v.ended ≡ None) (versions_of history)
ends_unended history b item lasts once =
    every-weaker (λ v. OfStamps (Lasts history) v × Once v) (λ v. ends history b item v ≡ true → v.ended ≡ None)
    (λ v h is. of v v.ended refl h.0.1 (h.1 is) (and_parts (counts history b v.by) (not (option_map_or (counts history b) v.ended false)) (and_parts _ (sees history b v) is).1).1) (versions_of history)
    (every-both (OfStamps (Lasts history)) Once (versions_of history) lasts once)
  where
    Once : Version → Type 0
    Once v = ends history b item v ≡ true → IfSome v.ended (λ s. (other : ℕ) → runs_as history other s.xid.0 ≡ false)

    of : (v : Version) (o : Option Stamp) → v.ended ≡ o → IfSome o (λ s. Lasts history s v.row) → IfSome o (λ s. (other : ℕ) → runs_as history other s.xid.0 ≡ false) → not (option_map_or (counts history b) o false) ≡ true → v.ended ≡ None
    of v None is lasts' runs unseen = is
    of v (Some s) is (inl was) runs unseen = absurd (both_ways _ (not-true (counts history b s) unseen) (or_left (is_committed history s.xid.0) (runs_as history b s.xid.0) was))
    of v (Some s) is (inr someone) runs unseen = absurd (both_ways _ (runs someone.0) someone.1)

-- all stamps on a version count for a backend
abbrev pub AllCount : List Entry → ℕ → Version → Type 0
AllCount history b = OfStamps (λ s row. counts history b s ≡ true)

-- such a version a writer sees, or it is ended before the write
pub ended_or_seen : (history : List Entry) (b c : ℕ) (xid : Xid) (items : List Item) → Ordered history → MayComeNext history (entry_of b c (events.Write xid items)) → (v : Version) → OfStamps (Touch history) v → AllCount history b v
    → EndedFirst (history ++ entry_of b c (events.Write xid items) ∷ []) (record { xid = xid; command = c }) v.ended ⊎ (sees history b v ≡ true)
ended_or_seen history b c xid items k comes v touch counted = of v.ended refl touch.1 counted.1
  where
    e : Entry
    e = entry_of b c (events.Write xid items)

    stamp : Stamp
    stamp = record { xid = xid; command = c }

    of : (o : Option Stamp) → v.ended ≡ o → IfSome o (λ s. Touch history s v.row) → IfSome o (λ s. counts history b s ≡ true) → EndedFirst (history ++ e ∷ []) stamp o ⊎ (sees history b v ≡ true)
    of None is touched counts' = inr (and_from (counts history b v.by) (not (option_map_or (counts history b) v.ended false)) counted.0 (ap (λ o. not (option_map_or (counts history b) o false)) is))
    of (Some u) is touched counts' = inl (first_on history e u stamp (counted_first history b c xid items k comes u v.row touched counts'))

-- for whoever may write rows of a relation all versions of its rows are such
pub guarded_counts : (history : List Entry) (b c : ℕ) (xid : Xid) (items : List Item) (rel : Oid) → Ordered history → AllByRecursion (OfStamps (Lasts history)) (versions_of history) → MayComeNext history (entry_of b c (events.Write xid items))
    → IsGuarded (held_by b c (events.Write xid items) (held_of history)) b c rel → AllByRecursion (λ v. main_rel v.row ≡ rel → AllCount history b v) (versions_of history)
guarded_counts history b c xid items rel k lasts comes guarded =
    every-weaker (λ v. OfStamps (Lasts history) v × OfStamps (Guard history) v) (λ v. main_rel v.row ≡ rel → AllCount history b v)
    (λ v h is. (of v.by v.row h.0.0 h.1.0 is, if_ended v v.ended h.0.1 h.1.1 is)) (versions_of history) (every-both (OfStamps (Lasts history)) (OfStamps (Guard history)) (versions_of history) lasts k.guards)
  where
    e : Entry
    e = entry_of b c (events.Write xid items)

    held : List Grant
    held = held_by b c (events.Write xid items) (held_of history)

    agree : AllAgree held held
    agree = subst (λ gs. AllAgree gs gs) (held-more history e) (Ordered-more history e k comes).locks.agree

    of : (s : Stamp) (row : Row) → Lasts history s row → Guard history s row → main_rel row ≡ rel → counts history b s ≡ true
    of s row (inl was) guard is = or_left (is_committed history s.xid.0) (runs_as history b s.xid.0) was
    of s row (inr someone) guard is =
        let theirs : IsGuarded held someone.0 s.command (main_rel row) = any-left _ (held_of history) (flat_map (granted_by b c) items) (guard someone.0 someone.1) in
        let same : b ≡ someone.0 = one_guard held b someone.0 c s.command (main_rel row) agree (subst (IsGuarded held b c) (sym is) guarded) theirs in
        or_right (is_committed history s.xid.0) (runs_as history b s.xid.0) (subst (λ o. runs_as history o s.xid.0 ≡ true) (sym same) someone.1)

    if_ended : (v : Version) (o : Option Stamp) → IfSome o (λ s. Lasts history s v.row) → IfSome o (λ s. Guard history s v.row) → main_rel v.row ≡ rel → IfSome o (λ s. counts history b s ≡ true)
    if_ended v None lasts' guard is = tt
    if_ended v (Some s) lasts' guard is = of s v.row lasts' guard is
