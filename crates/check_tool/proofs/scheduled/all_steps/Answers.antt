use Rattle.std.proofs.Common.{◌∙◌, ◌++◌, [], ap, arith}
use Rattle.std.specs.List.{flat_map}
use Rattle.base_types.specs.Scenario.{turns_of}
use Rattle.history_model.proofs.ListSteps.{flat_map_next, all_done}
use Rattle.check_tool.proofs.scheduled.all_steps.Goals as goal

pub loop-line-init : goal.loop-line-init
loop-line-init c = c.new-steps.ensures.items

pub loop-line-preserved : goal.loop-line-preserved
loop-line-preserved c =
    c.in_ok-push_line.ensures ∙ ap (λ line. c.loop-line.steps.items ++ turns_of line) c.as_slice.ensures
    ∙ flat_map_next turns_of [] c.steps-lines.result.now c.loop-line.line-index c.line-item.result _ c.loop-line.steps.items c.loop-line-test.true c.line-item.is c.loop-line.invariant

pub returns : goal.returns
returns c = all_done (flat_map turns_of) c.steps-lines.result.now c.loop-line.line-index _ (omega (arith, c.loop-line-test.false)) c.loop-line.invariant ∙ ap (flat_map turns_of) c.steps-lines.ensures.value
