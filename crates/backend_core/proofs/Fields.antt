-- The field of an open relation that a backend shows, and that it is fresh where it is protected.
use Rattle.std.proofs.Common.{◌≡◌, ◌∙◌, ◌&&◌, ℕ, Bool, true, false, not, Option, Some, None, IfSome, List, [], ◌∷◌, cond, refl, sym, ap, subst, drop, slice_get}
use Rattle.std.specs.List.{AllByRecursion}
use Rattle.std.specs.Option.{option_and_then}
use Rattle.std.proofs.lemmas.Bool.{and_parts}
use Rattle.base_types.specs.Fields.{field_text, has_field, read_by}
use Rattle.ddl_effect.specs.Opens.{place_latest, latest_open}
use Rattle.history_model.specs.Legal.{IsLegal}
use Rattle.history_model.specs.Versions.{fresh_text}
use Rattle.cacheless.specs.Facts.{facts_of}
use Rattle.cacheless.specs.Holds.{FactsFit}
use Rattle.cacheless.specs.Plays.{Plays}
use Rattle.cacheless.specs.Protected.{is_protected}
use Rattle.cacheless.specs.OnCourse.{CourseOf, AllOnCourse}
use Rattle.cacheless.specs.Session.{first_of, opening_of}
use Rattle.cacheless.specs.Sessions.{session_of}
use Rattle.cacheless.specs.Settled.{settled}
use Rattle.cacheless.specs.State.{Kept, session_at, kept_at, is_kept, rows_kept}
use Rattle.cacheless.specs.Types.{Command, OpenRelation}
use Rattle.cacheless.specs.Suspects.{lacks}
use Rattle.cacheless.proofs.Reading.{kept_usable, kept_read}
use Rattle.cacheless.proofs.ProtectedFields.{protected_fresh}
use Rattle.cacheless.proofs.Tests.{not_true}
use Rattle.cacheless.proofs.Answers.ToldFields.{field_among}
use Rattle.cacheless.proofs.Allowed.AllowedHistories.{plays_on_course}
use Rattle.cacheless.proofs.Allowed.KindsHeld.{IsOpenKind, every_at}
use Rattle.cacheless.proofs.Allowed.SettledCourse.{first_left}
use Rattle.backend_core.proofs.Own.{waiting_course}
use Rattle.backend_core.specs.Types.{Field, Scenario, Entry, Purpose, Life, Backend}
use Rattle.backend_core.specs.declared.life.Life.TheVariants as lives
use Rattle.backend_core.specs.Agrees.{AreSpelled, IsPlayed, HasNotJoined, AwaitsEntry, HasLeft, Stands}
use Rattle.backend_core.specs.Fields.{field_kept, field_now, IsFreshNow}
use Rattle.backend_core.proofs.Stacking.Lacking.{whole_each}

-- the kind has the field, and the descriptor is whole
abbrev IsAtHand : Kept → Field → OpenRelation → Type 0
IsAtHand kept field o = (has_field o.kind field && not (lacks (is_kept kept) (opening_of o))) ≡ true

-- then the scan that reads the field is kept
at_hand : (kept : Kept) (field : Field) (o : OpenRelation) → IsAtHand kept field o → is_kept kept (read_by field o.rel) ≡ true
at_hand kept field o is =
    let parts = and_parts (has_field o.kind field) (not (lacks (is_kept kept) (opening_of o))) is in
    field_among (λ d. is_kept kept d ≡ true) o.kind o.rel field parts.0 (whole_each (is_kept kept) _ (not_true (lacks (is_kept kept) (opening_of o)) parts.1))

-- where a backend stands, what it has at hand fits the facts of its entries
pub stands_facts : (scenario : Scenario) (seen : List Entry) (s : Backend) → Stands scenario seen s → FactsFit (facts_of seen s.progress.id) s.progress
stands_facts scenario seen s stands = by_life s.life stands
  where
    by_life : (l : Life) → elim l as (λ x. Type 0) [ lives.Unstarted ↦ HasNotJoined scenario seen s | lives.Alive ↦ AwaitsEntry scenario seen s | lives.Stopped ↦ HasLeft scenario seen s ] → FactsFit (facts_of seen s.progress.id) s.progress
    by_life lives.Unstarted before = before.waits.facts
    by_life lives.Alive waits = waits.rests.holds.facts
    by_life lives.Stopped left = left.holds.facts

none_left : (commands : List Command) (n : ℕ) → slice_get commands n ≡ None → drop n commands ≡ []
none_left commands n none = of (drop n commands) (first_left commands n ∙ none)
  where
    of : (left : List Command) → first_of left ≡ None → left ≡ []
    of [] is = refl
    of (command ∷ left) is = absurd (cc is)

-- what a backend has open is of its kind
opens_kinds : (scenario : Scenario) (seen : List Entry) (s : Backend) → AllOnCourse scenario seen → Stands scenario seen s → AllByRecursion (IsOpenKind seen) s.progress.opens
opens_kinds scenario seen s courses stands = by_life s.life stands
  where
    b : ℕ
    b = s.progress.id

    by_life : (l : Life) → elim l as (λ x. Type 0) [ lives.Unstarted ↦ HasNotJoined scenario seen s | lives.Alive ↦ AwaitsEntry scenario seen s | lives.Stopped ↦ HasLeft scenario seen s ] → AllByRecursion (IsOpenKind seen) s.progress.opens
    by_life lives.Unstarted before = subst (AllByRecursion (IsOpenKind seen)) (sym before.new.progress.opens) tt
    by_life lives.Alive waits = (waiting_course scenario seen s waits courses).kinds.opens
    by_life lives.Stopped left =
        let is : session_of scenario seen b ≡ Some (session_at s.progress left.holds.rest) = left.holds.is ∙ ap (λ l. Some (settled (facts_of seen b) l (session_at s.progress left.holds.rest))) (none_left s.progress.commands s.progress.finished left.past) in
        (subst (CourseOf scenario seen b) is (courses b)).kinds.opens

-- a protected field of a relation of this kind is shown as it is in the whole history
shown_fresh : (scenario : Scenario) (seen : List Entry) (s : Backend) (field : Field) (o : OpenRelation) → IsOpenKind seen o → IsPlayed scenario seen → FactsFit (facts_of seen s.progress.id) s.progress
    → IfSome (field_kept (kept_at s.progress) field o) (λ text. is_protected scenario seen s.progress.id o.rel o.kind field ≡ true → text ≡ fresh_text seen s.progress.id o.rel field)
shown_fresh scenario seen s field o of_kind played fits = by_test (has_field o.kind field && not (lacks (is_kept (kept_at s.progress)) (opening_of o))) refl
  where
    scan : Purpose
    scan = read_by field o.rel

    fresh : IsAtHand (kept_at s.progress) field o → is_protected scenario seen s.progress.id o.rel o.kind field ≡ true → field_text field o.rel (rows_kept (kept_at s.progress) scan) ≡ fresh_text seen s.progress.id o.rel field
    fresh is protected =
        let has = at_hand (kept_at s.progress) field o is in
        ap (field_text field o.rel) (sym (kept_read seen s.progress.id (kept_at s.progress) scan (ap (λ f. f.kept) fits) has))
        ∙ sym (protected_fresh scenario seen s.progress.id o.rel o.kind field of_kind played.sound played.plays (and_parts (has_field o.kind field) (not (lacks (is_kept (kept_at s.progress)) (opening_of o))) is).0 protected (sym (kept_usable seen s.progress.id scan) ∙ ap (λ f. is_kept f.kept scan) fits ∙ has))

    by_test : (t : Bool) → (has_field o.kind field && not (lacks (is_kept (kept_at s.progress)) (opening_of o))) ≡ t
        → IfSome (cond t (Some (field_text field o.rel (rows_kept (kept_at s.progress) scan))) None) (λ text. is_protected scenario seen s.progress.id o.rel o.kind field ≡ true → text ≡ fresh_text seen s.progress.id o.rel field)
    by_test true is = fresh is
    by_test false is = tt

-- so is one of the relation that is open under a name
open_fresh : (scenario : Scenario) (seen : List Entry) (s : Backend) (field : Field) (found : Option OpenRelation) → IfSome found (IsOpenKind seen) → IsPlayed scenario seen → Stands scenario seen s
    → IfSome (option_and_then (field_kept (kept_at s.progress) field) found) (λ text. IfSome found (λ (o : OpenRelation). is_protected scenario seen s.progress.id o.rel o.kind field ≡ true → text ≡ fresh_text seen s.progress.id o.rel field))
open_fresh scenario seen s field None of_kind played stands = tt
open_fresh scenario seen s field (Some o) of_kind played stands = shown_fresh scenario seen s field o of_kind played (stands_facts scenario seen s stands)

-- the latest that is open under a name is of its kind
latest_kind : (seen : List Entry) (name : List ℕ) (opens : List OpenRelation) → AllByRecursion (IsOpenKind seen) opens → IfSome (latest_open name opens) (IsOpenKind seen)
latest_kind seen name opens all = by_place (place_latest name opens)
  where
    by_open : (at : ℕ) (o : Option OpenRelation) → slice_get opens at ≡ o → IfSome o (IsOpenKind seen)
    by_open at None is = tt
    by_open at (Some o) is = every_at (IsOpenKind seen) opens at o all is

    by_place : (place : Option ℕ) → IfSome (option_and_then (slice_get opens) place) (IsOpenKind seen)
    by_place None = tt
    by_place (Some at) = by_open at (slice_get opens at) refl

pub field_fresh : (s : Backend) (name : List ℕ) (field : Field) (opens : List OpenRelation) (found : Option OpenRelation) (o : OpenRelation) (text : Option (List ℕ)) → found ≡ latest_open name opens → opens ≡ s.progress.opens → found ≡ Some o → text ≡ field_kept (kept_at s.progress) field o
    → (scenario : Scenario) (seen : List Entry) → Stands scenario seen s → AreSpelled scenario → IsLegal seen → Plays scenario seen → IfSome text (IsFreshNow scenario seen s name field)
field_fresh s name field opens found o text latest are is shows scenario seen stands spelled legal plays =
    let on_course = plays_on_course scenario seen spelled legal plays in
    subst (λ t. IfSome t (IsFreshNow scenario seen s name field)) (sym now)
    (open_fresh scenario seen s field (latest_open name s.progress.opens) (latest_kind seen name s.progress.opens (opens_kinds scenario seen s on_course.1 stands)) on_course.0 stands)
  where
    now : text ≡ field_now s name field
    now = shows ∙ ap (option_and_then (field_kept (kept_at s.progress) field)) (sym is ∙ latest ∙ ap (latest_open name) are)
