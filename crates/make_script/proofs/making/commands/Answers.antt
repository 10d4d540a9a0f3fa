use Rattle.std.proofs.Common.{◌∙◌, arith}
use Rattle.make_script.specs.Scripts.{commands_after}
use Rattle.make_script.proofs.InRange.{one_more, all_made}
use Rattle.make_script.proofs.making.commands.Goals as goal

pub commands-preserved : goal.commands-preserved
commands-preserved c = record {
  left = rw c.in_ok-push.ensures.items (one_more 1000 c.commands._command c.commands.draws.number c.placed.new.draws.number c.commands.commands.items (commands_after 1000 c.args.number) c.in_ok-placed.field-0 c.commands-test.true c.in_ok-placed.ensures.placed c.in_ok-placed.ensures.moved c.commands.invariant.left);
}

pub returns : goal.returns
returns c = c.from_vec.ensures ∙ all_made 1000 c.commands._command c.commands.draws.number c.commands.commands.items (commands_after 1000 c.args.number) (omega arith) c.commands.invariant.left
