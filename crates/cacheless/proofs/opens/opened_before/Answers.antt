use Rattle.std.proofs.Common.{◌∙◌, true, false, sym, nat_lt}
use Rattle.std.proofs.lemmas.Bool.{lt-ltb, le-ltb}
use Rattle.std.proofs.lemmas.List.{append-nil}
use Rattle.ddl_effect.specs.Opens.{opens_before}
use Rattle.history_model.proofs.ListSteps.{filter_next, all_done}
use Rattle.cacheless.specs.Types.{OpenRelation}
use Rattle.cacheless.proofs.opens.opened_before.Goals.{then-o-from+in_ok-push, else-o-from}
use Rattle.cacheless.proofs.opens.opened_before.Goals as goal

pub loop-o-preserved : goal.loop-o-preserved
loop-o-preserved c = elim c.if-o-from.branch [
  | then-o-from+in_ok-push w ↦ w.left-is ∙ w.in_ok-push.ensures.ok ∙ filter_next (λ (o : OpenRelation). nat_lt o.command c.args.from) c.args.opens.now c.loop-o.o-index c.o-item.result _ c.loop-o.left true c.loop-o-test.true c.o-item.is (lt-ltb c.o-item.result.command c.args.from w.if-o-from.true) c.loop-o.invariant
  | else-o-from w ↦ w.left-is ∙ sym (append-nil c.loop-o.left) ∙ filter_next (λ (o : OpenRelation). nat_lt o.command c.args.from) c.args.opens.now c.loop-o.o-index c.o-item.result _ c.loop-o.left false c.loop-o-test.true c.o-item.is (le-ltb c.o-item.result.command c.args.from w.if-o-from.false) c.loop-o.invariant
]

pub returns : goal.returns
returns c = all_done (opens_before c.args.from) c.args.opens.now c.loop-o.o-index _ c.loop-o-test.false c.loop-o.invariant
