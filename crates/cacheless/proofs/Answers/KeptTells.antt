-- What the code answers is the line of its command: the scans that it keeps are the last ones.
use Rattle.std.proofs.Common.{◌≡◌, ◌≤◌, ◌∙◌, ◌||◌, ◌⊎◌, inl, inr, ℕ, Bool, true, false, not, List, [], ◌∷◌, refl, sym, ap, length, drop}
use Rattle.std.specs.List.{AllByRecursion}
use Rattle.base_types.specs.declared.scan.Purpose.TheVariants as scans
use Rattle.base_types.specs.Scans.{build_scans}
use Rattle.std.proofs.lemmas.Bool.{and_parts}
use Rattle.command_answers.specs.Answers.{answer_text}
use Rattle.ddl_effect.specs.Plans.{Absent}
use Rattle.ddl_effect.specs.Stages.{plan_at, told_of}
use Rattle.history_model.specs.Read.{place_read, rows_read, is_usable}
use Rattle.cacheless.specs.Types.{Purpose, Command, Opening, Scenario, Entry}
use Rattle.cacheless.specs.declared.progress.Progress.{Progress}
use Rattle.cacheless.specs.Facts.{facts_of}
use Rattle.cacheless.specs.Lines.{answer_judged, line_of}
use Rattle.cacheless.specs.Work.{work_of}
use Rattle.cacheless.specs.Owed.{missing, builds_missing, owed_in}
use Rattle.cacheless.specs.OnCourse.{FollowsPlan, TellsStill, AreOfKinds}
use Rattle.cacheless.specs.Played.{IsPlayed}
use Rattle.cacheless.specs.Session.{Outcome, Badly, number_of, outcome_of}
use Rattle.cacheless.specs.Settled.{finished_as, settled}
use Rattle.cacheless.specs.State.{kept_at, is_kept, rows_kept, place_kept, is_out, Rest, session_at, owes_nothing}
use Rattle.cacheless.specs.May.{has_failed}
use Rattle.cacheless.specs.Silently.{is_to_answer}
use Rattle.cacheless.specs.Told.{tells_of_scans}
use Rattle.cacheless.specs.Holds.{FactsFit, Holds}
use Rattle.cacheless.specs.Answering.{told_at, IsToldText}
use Rattle.cacheless.proofs.Same.{owes_nothing_is}
use Rattle.cacheless.proofs.HeldLocks.{settled-locks}
use Rattle.cacheless.proofs.Reading.{kept_usable, kept_read, kept_place}
use Rattle.cacheless.proofs.Plans.SilentActs.{both_empty, empty_list}
use Rattle.cacheless.proofs.Allowed.SettledCourse.{HasSession}
use Rattle.cacheless.proofs.Answers.ToldAlike.{IsAlike, AreAlike, answer_told_by}
use Rattle.cacheless.proofs.Answers.ToldAnswers.{HasComeOut, has_come_out, answer_told, line_told}
use Rattle.cacheless.proofs.Answers.ToldFields.{none_usable}

-- a scan that is usable is told of alike
kept_alike : (seen : List Entry) (p : Progress) (scan : Purpose) → FactsFit (facts_of seen p.id) p → is_usable seen p.id scan ≡ true → IsAlike (rows_read seen p.id) (rows_kept (kept_at p)) (place_read seen p.id) (place_kept (kept_at p)) scan
kept_alike seen p scan fits usable = record {
  rows_are = sym (kept_read seen p.id (kept_at p) scan (ap (λ f. f.kept) fits) has);
  place_is = sym (kept_place seen p.id (kept_at p) scan (ap (λ f. f.kept) fits) has);
}
  where
    has : is_kept (kept_at p) scan ≡ true
    has = sym (ap (λ f. is_kept f.kept scan) fits) ∙ kept_usable seen p.id scan ∙ usable

-- so are several
all_alike : (seen : List Entry) (p : Progress) (wanted : List Purpose) → FactsFit (facts_of seen p.id) p → AllByRecursion (λ d. is_usable seen p.id d ≡ true) wanted
    → AllByRecursion (IsAlike (rows_read seen p.id) (rows_kept (kept_at p)) (place_read seen p.id) (place_kept (kept_at p))) wanted
all_alike seen p [] fits usable = tt
all_alike seen p (scan ∷ wanted) fits usable = (kept_alike seen p scan fits usable.0, all_alike seen p wanted fits usable.1)

-- and those of the opened descriptors
opened_alike : (seen : List Entry) (p : Progress) (opened : List Opening) → FactsFit (facts_of seen p.id) p → builds_missing (facts_of seen p.id).kept opened ≡ []
    → AreAlike (rows_read seen p.id) (rows_kept (kept_at p)) (place_read seen p.id) (place_kept (kept_at p)) opened
opened_alike seen p [] fits none = tt
opened_alike seen p (o ∷ opened) fits none =
    let both = both_empty (missing (facts_of seen p.id).kept (build_scans o.kind o.rel)) (builds_missing (facts_of seen p.id).kept opened) none in
    (all_alike seen p (build_scans o.kind o.rel) fits (none_usable seen p.id (build_scans o.kind o.rel) both.0), opened_alike seen p opened fits both.1)

-- a command that failed to find a relation has the scan of its name at hand
abbrev pub KeepsMissed : Progress → Type 0
KeepsMissed p = (name : List ℕ) → plan_at p.opens p.exec ≡ Absent name → is_kept (kept_at p) (scans.RelName name) ≡ true

-- so a command that has come out answers what is told by the scans that are kept
pub answer_kept : (scenario : Scenario) (seen : List Entry) (p : Progress) (rest : Rest) (command : Command) → HasComeOut scenario seen p.id (session_at p rest) command → FactsFit (facts_of seen p.id) p
    → KeepsMissed p → answer_judged scenario seen p.id (number_of (session_at p rest)) (finished_as (session_at p rest)) command rest.refused ≡ told_at command p
answer_kept scenario seen p rest command come fits missed = answer_told_by (rows_kept (kept_at p)) (place_kept (kept_at p)) scenario seen p.id (session_at p rest) command come (record {
  opened = λ well tells. opened_alike seen p p.opened fits (come.builds well tells);
  absent = λ name is. sym (kept_place seen p.id (kept_at p) (scans.RelName name) (ap (λ f. f.kept) fits) (missed name is));
  named = λ oid is. kept_alike seen p (scans.RelOid oid) fits (come.named oid is);
})

-- and so says its line, where it is judged
pub told_line : (scenario : Scenario) (seen : List Entry) (p : Progress) (rest : Rest) (command : Command) (text : List ℕ) → HasComeOut scenario seen p.id (session_at p rest) command → FactsFit (facts_of seen p.id) p
    → KeepsMissed p → length seen ≤ rest.judged → IsToldText command p text
    → record { backend = p.id; command = number_of (session_at p rest); text = text } ≡ line_of scenario seen p.id (number_of (session_at p rest)) (finished_as (session_at p rest)) command
told_line scenario seen p rest command text come fits missed judged told =
    ap (λ t. record { backend = p.id; command = number_of (session_at p rest); text = t }) (told ∙ ap answer_text (sym (answer_kept scenario seen p rest command come fits missed) ∙ answer_told scenario seen p.id (session_at p rest) command come))
    ∙ sym (line_told scenario seen p.id (session_at p rest) command come judged)

-- the session of a history in which the code holds it
pub session_held : (scenario : Scenario) (seen : List Entry) (p : Progress) → IsPlayed scenario seen → (holds : Holds scenario seen p) → HasSession scenario seen p.id (session_at p holds.rest).locks
session_held scenario seen p played holds = record {
  played = played;
  session = settled (facts_of seen p.id) (drop p.finished p.commands) (session_at p holds.rest);
  is = holds.is;
  holds = settled-locks (facts_of seen p.id) (drop p.finished p.commands) (session_at p holds.rest);
}

failed_badly : (o : Outcome) → elim o as (λ x. Bool) [ Badly ↦ true | other ↦ false ] ≡ true → o ≡ Badly
failed_badly Badly is = refl
failed_badly o is = absurd (cc is)

-- so what the code answers is the line of its command, once that is to be answered, and while nothing of it is taken back or released
pub told_now : (scenario : Scenario) (seen : List Entry) (p : Progress) (command : Command) (text : List ℕ) → IsPlayed scenario seen → (holds : Holds scenario seen p) → FollowsPlan seen p.id (session_at p holds.rest) command → TellsStill seen p.id (session_at p holds.rest) command → AreOfKinds seen p.opens p.opened → length seen ≤ holds.rest.judged
    → KeepsMissed p → is_to_answer command p ≡ true → IsToldText command p text
    → record { backend = p.id; command = number_of (session_at p holds.rest); text = text } ≡ line_of scenario seen p.id (number_of (session_at p holds.rest)) (finished_as (session_at p holds.rest)) command
told_now scenario seen p command text played holds follows stands kinds judged missed out told = told_line scenario seen p holds.rest command text
    (has_come_out scenario seen p.id (session_at p holds.rest) command (session_held scenario seen p played holds) follows parts.0 stands kinds (by_failed (has_failed p) refl parts.1))
    holds.facts missed judged told
  where
    parts : (is_out p ≡ true) × ((has_failed p || not (tells_of_scans (told_of (plan_at p.opens p.exec))) || owes_nothing command p) ≡ true)
    parts = and_parts (is_out p) (has_failed p || not (tells_of_scans (told_of (plan_at p.opens p.exec))) || owes_nothing command p) out

    by_told : (t : Bool) → tells_of_scans (told_of (plan_at p.opens p.exec)) ≡ t → (not t || owes_nothing command p) ≡ true → (tells_of_scans (told_of (plan_at p.opens p.exec)) ≡ false) ⊎ (owed_in (facts_of seen p.id) command (work_of (session_at p holds.rest)) ≡ [])
    by_told false plain any = inl plain
    by_told true tells owes = inr (empty_list (owed_in (facts_of seen p.id) command (work_of (session_at p holds.rest))) (owes_nothing_is (facts_of seen p.id) command p holds.rest holds.facts ∙ owes))

    by_failed : (t : Bool) → has_failed p ≡ t → (t || not (tells_of_scans (told_of (plan_at p.opens p.exec))) || owes_nothing command p) ≡ true → (outcome_of (plan_at p.opens p.exec) ≡ Badly) ⊎ (tells_of_scans (told_of (plan_at p.opens p.exec)) ≡ false) ⊎ (owed_in (facts_of seen p.id) command (work_of (session_at p holds.rest)) ≡ [])
    by_failed true failed any = inl (failed_badly (outcome_of (plan_at p.opens p.exec)) failed)
    by_failed false going owes = inr (by_told (tells_of_scans (told_of (plan_at p.opens p.exec))) refl owes)
