-- What the choice of the next entry rests on.
use Rattle.std.proofs.Common.{◌≡◌, ◌+◌, ◌∙◌, ◌&&◌, true, false, Option, Some, None, List, [], refl, sym, ap, subst, is_none, arith, ℕ, Bool, not, inl, inr}
use Rattle.std.proofs.lemmas.Bool.{both_ways, lt-ltb}
use Rattle.ddl_effect.specs.Stages.{plan_at, want_of}
use Rattle.cacheless.specs.Facts.{Facts, facts_of}
use Rattle.cacheless.specs.OnCourse.{AllOnCourse}
use Rattle.cacheless.specs.Owed.{started_in, has_looked_in}
use Rattle.cacheless.specs.declared.progress.Due.{Due as DueNext}
use Rattle.cacheless.specs.declared.progress.Due.TheVariants as dues
use Rattle.cacheless.specs.Session.{Outcome, Unsettled, Well, Badly, number_of, outcome_of, is_settled}
use Rattle.cacheless.specs.Silently.{has_accepted_at}
use Rattle.cacheless.specs.May.{has_looked_at, has_failed, lacks_opened}
use Rattle.cacheless.specs.State.{owed_after, is_quiet, one_if, kept_at}
use Rattle.cacheless.specs.Suspects.{lacks}
use Rattle.cacheless.proofs.Same.{work_same}
use Rattle.backend_core.specs.Types.{Purpose, Command, Scenario, Entry, Backend}
use Rattle.backend_core.specs.Agrees.{command_at, AwaitsEntry}
use Rattle.backend_core.specs.Fits.{looks_due, LooksFit, TakesFit, IsLookedFor, Lacks, Unfound, Said, finds_no_name, is_look, is_gone_due}
use Rattle.backend_core.specs.Steps.{IsChoiceSound, IsGone, IsWhole}
use Rattle.backend_core.proofs.Fitting.Sought.{unfound_facts, finds_serves}
use Rattle.backend_core.proofs.Own.{waiting, unlost}
use Rattle.backend_core.proofs.Choosing.TakenBack.{taken_end, taken_plain}
use Rattle.backend_core.proofs.Fitting.Rebuilding.{top_rebuilt, usable_is, kept_lacks, none_lacks}
use Rattle.backend_core.specs.Frames.{IsStack, IsRebuilt}
use Rattle.std.specs.List.{list_any, cons_option}
use Rattle.backend_core.specs.Words.{has_error}
use Rattle.ddl_effect.specs.Plans.{Plan, Fails, Done, Do, left_rests_on, told_rests_on}
use Rattle.ddl_effect.specs.declared.want.Want.TheVariants as wants
use Rattle.cacheless.proofs.CommandEnds.{end_same}
use Rattle.local_caches.specs.Kept.{is_kept}

-- a look after which nothing is owed told that nothing waits
quiet_look : (due : DueNext) → is_look due ≡ true → owed_after due ≡ [] → is_quiet due ≡ true
quiet_look dues.Quiet look none = refl
quiet_look dues.Fetch look none = absurd (cc none)
quiet_look due look none = absurd (cc look)

pub choice_sound : (scenario : Scenario) (seen : List Entry) (s : Backend) → AwaitsEntry scenario seen s → AllOnCourse scenario seen → IsChoiceSound s
choice_sound scenario seen s waits courses = record {
  takes = subst (λ n. TakesFit (n + 1) s.progress.locks.items s.progress.taken (plan_at s.progress.opens s.progress.exec)) waits.rests.holds.count waits.fits.takes;
  builds = λ f on. subst (λ h. IsRebuilt h s.progress.opened f) (usable_is facts s.progress waits.rests.holds.facts) (top_rebuilt facts (command_at s) (waiting waits) s.frames f waits.fits.rebuilds on);
  bare = λ failed. waits.fits.rebuilds.badly (by_failed (outcome_of (plan_at s.progress.opens s.progress.exec)) failed);
  past = λ past. sym (ap (λ f. owed_after f.due) waits.rests.holds.facts) ∙ waits.fits.past past;
  over = waits.fits.rebuilds.past;
  whole = λ command at bare goes. whole_now command at bare goes facts.due refl;
  accepts = λ looked unfound none. by_command looked (unfound_facts facts s.progress (plan_at s.progress.opens s.progress.exec) waits.rests.holds.facts unfound) none (command_at s) refl;
}
  where
    facts : Facts
    facts = facts_of seen s.progress.id

    by_failed : (x : Outcome) → elim x as (λ y. Bool) [ Badly ↦ true | other ↦ false ] ≡ true → x ≡ Badly
    by_failed Badly is = refl
    by_failed Well is = absurd (cc is)
    by_failed Unsettled is = absurd (cc is)

    -- it isn't an error by which the command has come out
    no_error : has_failed s.progress ≡ false → has_error (plan_at s.progress.opens s.progress.exec) ≡ false
    no_error goes = by_plan (plan_at s.progress.opens s.progress.exec) goes
      where
        by_plan : (p : Plan) → elim (outcome_of p) as (λ x. Bool) [ Badly ↦ true | other ↦ false ] ≡ false → has_error p ≡ false
        by_plan (Fails error) is = absurd (cc is)
        by_plan p is = refl

    -- where nothing is rebuilt nothing held lacks a scan
    lacks_none : list_any (lacks (is_kept facts.kept)) s.progress.opened ≡ false → lacks_opened (kept_at s.progress) s.progress.opened ≡ false
    lacks_none none = kept_lacks s.progress ∙ ap (λ h. list_any (lacks h) s.progress.opened) (sym (usable_is facts s.progress waits.rests.holds.facts)) ∙ none

    -- where writes were taken back the answer rests on no scan
    gone_now : (command : Command) → command_at s ≡ Some command → s.frames ≡ [] → has_failed s.progress ≡ false → (from : ℕ) → facts.due ≡ dues.Gone from → IsGone s command
    gone_now command at bare goes from gone = record {
      bare = bare;
      wants = by_plan (plan_at s.progress.opens s.progress.exec) goes (waits.runs.taken from gone).out (taken_plain scenario seen s waits command at from gone);
      from = from;
      end = sym (end_same facts command s.progress waits.rests.holds.rest waits.rests.holds.facts waits.rests.holds.count) ∙ taken_end scenario seen s waits command at from gone;
      going = (waits.runs.taken from gone).going;
    }
      where
        by_plan : (p : Plan) → elim (outcome_of p) as (λ x. Bool) [ Badly ↦ true | other ↦ false ] ≡ false → is_settled (outcome_of p) ≡ true → left_rests_on p ≡ [] → want_of p ≡ wants.Done None
        by_plan (Done told) well out plain = by_rests (told_rests_on told) plain
          where
            by_rests : (o : Option Purpose) → cons_option o [] ≡ [] → wants.Done o ≡ wants.Done None
            by_rests None none = refl
            by_rests (Some scan) none = absurd (cc none)
        by_plan (Do act rest) well out plain = absurd (cc out)
        by_plan p well out plain = absurd (cc well)

    whole_now : (command : Command) → command_at s ≡ Some command → s.frames ≡ [] → has_failed s.progress ≡ false → (due : DueNext) → facts.due ≡ due → IsWhole s command
    whole_now command at bare goes (dues.Gone from) is = inr (gone_now command at bare goes from is)
    whole_now command at bare goes due is = inl (lacks_none (none_lacks (is_kept facts.kept) s.progress.opened (subst (IsStack (is_kept facts.kept) s.progress.opened) bare
        (waits.fits.rebuilds.stack (λ i. not (is_gone_due (is i)) && not (unlost scenario seen s waits courses command at i) && not (no_error goes i))))))

    by_look : (command : Command) → command_at s ≡ Some command → s.looked ≡ true → finds_no_name facts s.progress.taken (plan_at s.progress.opens s.progress.exec) ≡ true → owed_after s.progress.due ≡ [] → is_look facts.due ≡ true → has_accepted_at s.progress ≡ true
    by_look command at looked finds none look = λ i. (ap (λ o. is_none o) (finds_serves facts s.progress.taken (plan_at s.progress.opens s.progress.exec) finds).3) i && quiet i && has i
      where
        owed : owed_after facts.due ≡ []
        owed = (ap (λ f. owed_after f.due) waits.rests.holds.facts) ∙ none

        quiet : is_quiet s.progress.due ≡ true
        quiet = sym (ap (λ f. is_quiet f.due) waits.rests.holds.facts) ∙ quiet_look facts.due look owed

        before : LooksFit facts (waiting waits) s.looked s.frames s.told
        before = waits.fits.looks

        has : has_looked_at s.progress ≡ true
        has = sym (λ i. has_looked_in (waits.rests.holds.facts i) (work_same s.progress waits.rests.holds.rest waits.rests.holds.count i))
            ∙ lt-ltb (s.progress.tally.scans + s.progress.tally.grants + started_in (number_of (waiting waits)) facts + s.progress.tally.full) s.progress.tally.looks (omega (arith, before.enough, ap looks_due owed, ap one_if looked))

    by_command : s.looked ≡ true → finds_no_name facts s.progress.taken (plan_at s.progress.opens s.progress.exec) ≡ true → owed_after s.progress.due ≡ [] → (o : Option Command) → command_at s ≡ o → has_accepted_at s.progress ≡ true
    by_command looked finds none None at = absurd (both_ways _ (finds_serves facts s.progress.taken (plan_at s.progress.opens s.progress.exec) finds).2 (ap (λ p. is_settled (outcome_of p)) (waits.runs.past at)))
    by_command looked finds none (Some command) at = by_case (waits.fits.sought looked)
      where
        by_case : IsLookedFor facts s.frames s.progress.taken (plan_at s.progress.opens s.progress.exec) → has_accepted_at s.progress ≡ true
        by_case (Lacks lacks) = absurd (both_ways _ (finds_serves facts s.progress.taken (plan_at s.progress.opens s.progress.exec) finds).0 lacks)
        by_case (Unfound found look bare) = by_look command at looked finds none look
        by_case (Said absent) = absurd (both_ways _ (finds_serves facts s.progress.taken (plan_at s.progress.opens s.progress.exec) finds).1 absent)
