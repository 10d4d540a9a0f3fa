-- Whoever holds AccessExclusive on a relation, and writes or takes writes back, knows all earlier changes of the relation's row: nothing is owed after its last entry, so it is past what others had changed as they let the relation go, and its lock keeps them out.
use Rattle.std.proofs.Common.{◌≡◌, ◌≤◌, ℕ, true, false, List, [], ◌==◌, ◌&&◌, refl, sym, subst}
use Rattle.std.specs.List.{AllByRecursion}
use Rattle.std.proofs.lemmas.Bool.{eqb-true, and_parts}
use Rattle.base_types.specs.Scenario.{Scenario}
use Rattle.base_types.specs.declared.ids.Oid.{Oid}
use Rattle.base_types.specs.declared.mode.Mode.{Mode}
use Rattle.base_types.specs.declared.mode.Mode.TheVariants.{AccessExclusive}
use Rattle.base_types.specs.declared.scan.Purpose.{Purpose}
use Rattle.base_types.specs.Modes.{same_mode, conflicts}
use Rattle.base_types.specs.Scans.{same_oid}
use Rattle.event_kinds.specs.declared.entry.Entry.{Entry}
use Rattle.event_kinds.specs.declared.entry.Event.{Event}
use Rattle.event_kinds.specs.declared.entry.Event.TheVariants as events
use Rattle.lock_modes.specs.declared.grant.Grant.{Grant}
use Rattle.lock_modes.specs.Grants.{is_lock, holds}
use Rattle.history_model.specs.Held.{held_of}
use Rattle.history_model.specs.Lives.{last_event_of}
use Rattle.history_model.specs.Log.{position_of, has_waited}
use Rattle.history_model.specs.Sound.{IsSound}
use Rattle.history_model.specs.Prefixes.{EachEntry}
use Rattle.history_model.specs.Reached.{reached_of}
use Rattle.history_model.proofs.Asking.{oid_eq}
use Rattle.history_model.proofs.EnoughModes.{mode_is}
use Rattle.history_model.proofs.Every.{every-weaker, every-both}
use Rattle.history_model.proofs.Exclude.{Agree}
use Rattle.history_model.proofs.FirmByName.{ChangesKnown}
use Rattle.history_model.proofs.FoundByName.{naming_modes}
use Rattle.history_model.proofs.Guards.{any_with}
use Rattle.history_model.proofs.Locked.{IsNoChange}
use Rattle.history_model.proofs.Observed.{IsDirty}
use Rattle.history_model.proofs.Ordered.{locks_exclude}
use Rattle.history_model.proofs.Past.{IsPast, none_in_way}
use Rattle.cacheless.specs.Facts.{due_last}
use Rattle.cacheless.specs.Owed.{owed_after}
use Rattle.cacheless.specs.Plays.{Plays}
use Rattle.cacheless.proofs.Allowed.Patient.{IsPatient, patient}
use Rattle.cacheless.proofs.Clear.{Known, KnowsOf, Comes, each_known}
use Rattle.cacheless.proofs.ProtectedFields.{IsKeptOut, not_dirty}

-- a grant with which its backend is past all that others changed, if it is this one
abbrev IsPastOf : List Entry → ℕ → Grant → Type 0
IsPastOf history b g = (g.backend == b) ≡ true → IsPast history b g.rel g.mode

-- where nothing is owed
nothing_owed : (history : List Entry) (b : ℕ) → owed_after (due_last (last_event_of history b)) ≡ [] → Comes history b → AllByRecursion (IsPastOf history b) (held_of history)
nothing_owed history b none comes = every-weaker (KnowsOf history b (owed_after (due_last (last_event_of history b))) (has_waited history b)) (IsPastOf history b)
    (λ g knows mine. subst (λ owed. Known owed (has_waited history b) (IsPast history b g.rel g.mode)) none (knows mine)) (held_of history) comes

-- by a lock in AccessExclusive all modes are kept out
exclusive_keeps : (history : List Entry) (b : ℕ) (rel : Oid) (writer : Mode) → IsSound history → AllByRecursion (IsPastOf history b) (held_of history) → holds (held_of history) b rel AccessExclusive ≡ true → conflicts writer AccessExclusive ≡ true → IsKeptOut history b rel writer
exclusive_keeps history b rel writer sound past held clash = any_with (is_lock b rel AccessExclusive) (λ g. IsPastOf history b g × AllByRecursion (Agree g) (held_of history)) (IsKeptOut history b rel writer) by_grant (held_of history) held
    (every-both (IsPastOf history b) (λ g. AllByRecursion (Agree g) (held_of history)) (held_of history) past (locks_exclude history sound).agree)
  where
    by_grant : (g : Grant) → is_lock b rel AccessExclusive g ≡ true → IsPastOf history b g × AllByRecursion (Agree g) (held_of history) → IsKeptOut history b rel writer
    by_grant g lock known =
        let p = and_parts ((g.backend == b) && same_oid g.rel rel) (same_mode g.mode AccessExclusive) lock in
        let q = and_parts (g.backend == b) (same_oid g.rel rel) p.0 in
        let against : conflicts writer g.mode ≡ true = subst (λ m. conflicts writer m ≡ true) (sym (mode_is g.mode AccessExclusive p.1)) clash in
        record {
          past = subst (λ o. reached_of history o writer ≤ position_of history b) (oid_eq g.rel rel q.1) (known.0 q.0 writer against);
          free = λ a other. none_in_way (held_of history) g a rel writer known.1 (oid_eq g.rel rel q.1) (subst (λ o. (a == o) ≡ false) (sym (eqb-true g.backend b q.0)) other) against;
        }

-- so no change of the relation's row is unknown
all_known : (history : List Entry) (b : ℕ) (rel : Oid) (d : Purpose) → IsSound history → owed_after (due_last (last_event_of history b)) ≡ [] → Comes history b → holds (held_of history) b rel AccessExclusive ≡ true → IsDirty history b rel naming_modes d → ⊥
all_known history b rel d sound none comes held dirty =
    let past = nothing_owed history b none comes in
    not_dirty history b rel naming_modes d (exclusive_keeps history b rel _ sound past held refl, (exclusive_keeps history b rel _ sound past held refl, tt)) dirty

known_by : (history : List Entry) (b : ℕ) (event : Event) → IsSound history → IsPatient (owed_after (due_last (last_event_of history b))) event → Comes history b → (rel : Oid) (d : Purpose) → holds (held_of history) b rel AccessExclusive ≡ true → IsDirty history b rel naming_modes d → IsNoChange event
known_by history b (events.Write xid items) sound none comes rel d held dirty = absurd (all_known history b rel d sound none comes held dirty)
known_by history b (events.Gone from) sound none comes rel d held dirty = absurd (all_known history b rel d sound none comes held dirty)
known_by history b event sound waits comes rel d held dirty = tt

-- of a sound history in which backends do what their commands say: whoever writes or takes writes back knows what it changes
pub changes_known : (scenario : Scenario) (history : List Entry) → IsSound history → Plays scenario history → EachEntry ChangesKnown history
changes_known scenario history sound plays = each_known scenario ChangesKnown
    (λ before e well comes next rel d held dirty. known_by before e.backend e.event well (patient scenario before e next) comes rel d held dirty) history sound plays
