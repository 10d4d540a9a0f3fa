use Rattle.std.proofs.Common.{◌∙◌, refl, ap, subst}
use Rattle.cacheless.specs.Silently.{IsSilentOf}
use Rattle.cacheless.specs.State.{kept_at}
use Rattle.cacheless.proofs.Answers.Telling.{act_goes, answer_goes, answered_holds, pass_goes, none_goes, goes_further}
use Rattle.cacheless.proofs.progress.Progress.settle.Goals as goal

pub settling-init : goal.settling-init
settling-init c = record {
  holds = λ scenario seen holds. holds;
  goes = λ scenario seen held now absent. none_goes scenario seen c.args.self.now held c.args.lines.now now absent;
  kept = refl;
  same = refl;
}

pub settling-preserved : goal.settling-preserved
settling-preserved c = record {
  holds = λ scenario seen holds. (c.in_ok-finish-in-Finish.ensures.passes scenario seen (c.settling.invariant.holds scenario seen holds)).holds;
  goes = λ scenario seen held now absent. let on = c.settling.invariant.goes scenario seen held now absent in
      goes_further scenario seen _ _ _ held _ _ _ on (pass_goes scenario seen c.settling.self _ on.holds c.settling.lines _ _ (c.in_ok-finish-in-Finish.ensures.passes scenario seen on.holds) c.in_ok-finish-in-Finish.ensures.answer c.in_ok-finish-in-Finish.ensures.line c.in_ok-push-in-Finish.ensures.ok on.tells);
  kept = c.in_ok-finish-in-Finish.ensures.kept ∙ c.settling.invariant.kept;
  same = c.in_ok-finish-in-Finish.ensures.same ∙ c.settling.invariant.same;
}

pub settling-preserved-in_ok-act-in-Act : goal.settling-preserved-in_ok-act-in-Act
settling-preserved-in_ok-act-in-Act c = record {
  holds = λ scenario seen holds. (c.in_ok-act-in-Act.ensures.acts scenario seen (c.settling.invariant.holds scenario seen holds)).holds;
  goes = λ scenario seen held now absent. let on = c.settling.invariant.goes scenario seen held now absent in
      goes_further scenario seen _ _ _ held _ _ _ on (act_goes scenario seen c.settling.self _ on.holds c.settling.lines (c.in_ok-act-in-Act.ensures.acts scenario seen on.holds) c.in_ok-act-in-Act.ensures.kept c.in_ok-act-in-Act.ensures.answer on.tells);
  kept = c.in_ok-act-in-Act.ensures.kept ∙ c.settling.invariant.kept;
  same = c.in_ok-act-in-Act.ensures.same ∙ c.settling.invariant.same;
}

pub settling-preserved-in_ok-answer-in-Answer : goal.settling-preserved-in_ok-answer-in-Answer
settling-preserved-in_ok-answer-in-Answer c = let has = c.in_ok-answer-in-Answer.ensures.answers in record {
  holds = λ scenario seen holds. answered_holds scenario seen c.settling.self _ has (c.settling.invariant.holds scenario seen holds);
  goes = λ scenario seen held now absent. let on = c.settling.invariant.goes scenario seen held now absent in
      goes_further scenario seen _ _ _ held _ _ _ on (answer_goes scenario seen c.settling.self _ on.holds c.settling.lines (subst (IsSilentOf c.settling.self) c.in-Answer.is c.silent.ensures) has on.tells on.absent);
  kept = ap kept_at has.is ∙ c.settling.invariant.kept;
  same = ap (λ p. p.commands) has.is ∙ c.settling.invariant.same;
}

pub returns-in-Rest : goal.returns-in-Rest
returns-in-Rest c = let settled = subst (IsSilentOf c.settling.self) c.in-Rest.is c.silent.ensures in record {
  rests = λ scenario seen holds. record { holds = c.settling.invariant.holds scenario seen holds; still = settled.still };
  answered = settled.answered;
  goes_on = c.settling.invariant.goes;
  kept = c.settling.invariant.kept;
  same = c.settling.invariant.same;
}
