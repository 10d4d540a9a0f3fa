use Rattle.std.proofs.Common.{◌∙◌, ◌++◌, refl, sym, append-nil, replicate, arith}
use Rattle.base_types.specs.Scenario.{turns_of}
use Rattle.history_model.proofs.ListSteps.{flat_map_next, all_done}
use Rattle.check_tool.proofs.scheduled.push_line.Goals as goal

pub loop-turns-init : goal.loop-turns-init
loop-turns-init c = sym (append-nil c.args.steps.now.items)

pub loop-turns-preserved : goal.loop-turns-preserved
loop-turns-preserved c =
    c.in_ok-push_turns.ensures
    ∙ flat_map_next (λ t. replicate t.count t.backend) c.args.steps.now.items c.args.line.now c.loop-turns.turns-index _ _ c.loop-turns.steps.items c.loop-turns-test.true refl c.loop-turns.invariant

pub returns : goal.returns
returns c = all_done (λ line. c.args.steps.now.items ++ turns_of line) c.args.line.now c.loop-turns.turns-index _ (omega (arith, c.loop-turns-test.false)) c.loop-turns.invariant
