-- A command that is about to write has read the rows of the relations that it has opened as they are: so its new names are those that its plan names.
use Rattle.std.proofs.Common.{◌≡◌, ◌∙◌, ℕ, Bool, true, false, not, Some, List, [], ◌∷◌, ◌++◌, cond, refl, sym, ap, subst, map, length, slice_get}
use Rattle.std.specs.List.{AllByRecursion}
use Rattle.std.proofs.lemmas.Grind.{flat_map-append}
use Rattle.base_types.specs.Scans.{build_scans}
use Rattle.base_types.specs.declared.kind.Kind.TheVariants.{Table, Index}
use Rattle.base_types.specs.declared.scan.Purpose.TheVariants as scans
use Rattle.lock_modes.specs.Own.{cleared}
use Rattle.ddl_effect.specs.Plans.{Plan, Do, Write}
use Rattle.ddl_effect.specs.Commands.{plan_of, commands_of}
use Rattle.history_model.specs.Covered.{counted_for}
use Rattle.history_model.specs.Read.{rows_read, is_usable}
use Rattle.history_model.specs.Versions.{answer_of}
use Rattle.history_model.specs.Changing.{is_empty}
use Rattle.cacheless.specs.Types.{Oid, Kind, Row, Purpose, Command, Draft, Opening, Scenario, Entry}
use Rattle.cacheless.specs.ActsDone.{LockOn, locks_by, IsHeldOn, made_in, opening_by}
use Rattle.cacheless.specs.Facts.{Facts, facts_of, kept_in}
use Rattle.cacheless.specs.OnCourse.{OnItsWay, IsOnCourse, ClearUnlessOwed}
use Rattle.cacheless.specs.Work.{work_of}
use Rattle.cacheless.specs.Owed.{OwesScan, missing, owed_first_in, owed_after, builds_missing, act_owed, scans_owed_in, owed_in}
use Rattle.cacheless.specs.Played.{IsPlayed}
use Rattle.cacheless.specs.Session.{Session, Badly, held_before, outcome_of}
use Rattle.cacheless.specs.Sessions.{session_of}
use Rattle.cacheless.proofs.Allowed.SettledCourse.{builds_done}
use Rattle.cacheless.proofs.Plans.ClearLocks.{kept_now}
use Rattle.cacheless.proofs.Plans.Formers.{plain_rows}
use Rattle.cacheless.proofs.Plans.SilentActs.{both_empty, its_place}
use Rattle.cacheless.proofs.Plans.UnderLocks.{IsKeptBy}
use Rattle.cacheless.proofs.Written.NamesGiven.{AreReadAsNow}
use Rattle.local_caches.specs.Kept.{is_kept}
use Rattle.cacheless.proofs.Reading.{kept_usable, kept_rows_read}

none_mapped : {X Y : Type 0} (f : X → Y) (xs : List X) → map f xs ≡ [] → xs ≡ []
none_mapped f [] none = refl
none_mapped f (x ∷ xs) none = absurd (cc none)

-- each row of a relation's counts as it is
class_plain : (rel : Oid) (given : List Row) → map (counted_for (scans.Class rel)) given ≡ given
class_plain rel given = sym (plain_rows (scans.Class rel) (λ row. refl) given)

-- of each descriptor that is open and whose relation is locked in a mode that keeps its row, where all scans for them are usable
class_read : (scenario : Scenario) (history : List Entry) (b : ℕ) (s : Session) (locked : List LockOn) (opened : List Opening) → IsPlayed scenario history → session_of scenario history b ≡ Some s → map cleared s.locks ≡ s.locks → AllByRecursion (IsHeldOn history b) locked → AllByRecursion (IsKeptBy locked) opened
    → builds_missing (facts_of history b).kept opened ≡ [] → AreReadAsNow history b (facts_of history b) opened
class_read scenario history b s locked [] played is clear held kept none = tt
class_read scenario history b s locked (o ∷ opened) played is clear held kept none =
    let both = both_empty (missing (facts_of history b).kept (build_scans o.kind o.rel)) (builds_missing (facts_of history b).kept opened) none in (
      kept_rows_read history b (scans.Class o.rel) (class_usable o.kind o.rel both.0) ∙ sym (class_plain o.rel (rows_read history b (scans.Class o.rel))) ∙ sym (kept_now scenario history b s locked (scans.Class o.rel) played is clear held kept.0 (class_usable o.kind o.rel both.0)) ∙ class_plain o.rel (answer_of history b (scans.Class o.rel)),
      class_read scenario history b s locked opened played is clear held kept.1 both.1,
    )
  where
    first_usable : (t : Bool) (scan : Purpose) (more : List Purpose) → cond (not t) (scan ∷ more) more ≡ [] → t ≡ true
    first_usable true scan more owed = refl
    first_usable false scan more owed = absurd (cc owed)

    class_usable : (kind : Kind) (rel : Oid) → missing (facts_of history b).kept (build_scans kind rel) ≡ [] → is_usable history b (scans.Class rel) ≡ true
    class_usable Table rel owed = sym (kept_usable history b (scans.Class rel)) ∙ first_usable (is_kept (kept_in history b) (scans.Class rel)) (scans.Class rel) _ owed
    class_usable Index rel owed = sym (kept_usable history b (scans.Class rel)) ∙ first_usable (is_kept (kept_in history b) (scans.Class rel)) (scans.Class rel) _ owed

-- so it is where nothing is owed, and the backend is on its course
pub read_as_now : (scenario : Scenario) (history : List Entry) (b : ℕ) (s : Session) (command : Command) (draft : Draft) (rest : List Row → Plan) → IsPlayed scenario history → session_of scenario history b ≡ Some s → IsOnCourse scenario history b s → slice_get (commands_of scenario b) (length s.finished) ≡ Some command
    → s.left ≡ Do (Write draft) rest → owed_in (facts_of history b) command (work_of s) ≡ [] → (way : OnItsWay history b s command) → AreReadAsNow history b (facts_of history b) (made_in opening_by way.gave (plan_of s.opens command))
read_as_now scenario history b s command draft rest played is course here at none way =
    class_read scenario history b s (made_in locks_by way.gave (plan_of s.opens command)) opened played is clear way.holds.locked (its_place history b s command (Write draft) rest way at).1 own_builds
  where
    facts : Facts
    facts = facts_of history b

    opened : List Opening
    opened = made_in opening_by way.gave (plan_of s.opens command)

    start : owed_first_in facts command (work_of s) ++ owed_after facts.due ≡ []
    start = (both_empty (owed_first_in facts command (work_of s) ++ owed_after facts.due) (map OwesScan (scans_owed_in facts (work_of s))) none).0

    same : scans_owed_in facts (work_of s) ≡ builds_missing facts.kept s.opened ++ act_owed facts (Do (Write draft) rest)
    same = ap (λ p. elim (outcome_of p) as (λ x. List Purpose) [ Badly ↦ [] | other ↦ builds_missing facts.kept s.opened ++ act_owed facts p ]) at

    builds : builds_missing facts.kept s.opened ≡ []
    builds = (both_empty (builds_missing facts.kept s.opened) (act_owed facts (Do (Write draft) rest))
        (none_mapped OwesScan _ (sym (ap (map OwesScan) same) ∙ (both_empty (owed_first_in facts command (work_of s) ++ owed_after facts.due) (map OwesScan (scans_owed_in facts (work_of s))) none).1))).0

    own_builds : builds_missing facts.kept opened ≡ []
    own_builds = (both_empty (builds_missing facts.kept (held_before s)) (builds_missing facts.kept opened)
        (sym (flat_map-append (λ (o : Opening). missing facts.kept (build_scans o.kind o.rel)) (held_before s) opened) ∙ sym (ap (builds_missing facts.kept) way.opened) ∙ builds)).1

    clear : map cleared s.locks ≡ s.locks
    clear = subst (λ o. ClearUnlessOwed facts o s) here course.clear (builds_done facts command s builds (ap is_empty start))
