use Rattle.std.proofs.Common.{◌∙◌, refl}
use Rattle.make_script.specs.Scripts.{made_script}
use Rattle.make_script.proofs.InRange.{made_of}
use Rattle.make_script.proofs.making.make.Goals as goal

pub new-requires : goal.new-requires
new-requires c = made_of c.args.number c.in_ok-commands.commands c.in_ok-steps.steps c.in_ok-commands.ensures c.in_ok-steps.ensures

pub returns-clause-made : goal.returns-clause-made
unfolding made_script
returns-clause-made c = c.new.ensures ∙ rw (c.in_ok-commands.ensures, c.in_ok-steps.ensures) refl
