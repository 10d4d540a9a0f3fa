use Rattle.script_text.proofs.DigitBounds.{number_is}
use Rattle.script_text.proofs.operands.digits.Goals as goal

pub returns : goal.returns
returns c = number_is c.args.text.now c.number_up_to.result c.requires.few c.requires.digits c.number_up_to.ensures.some c.number_up_to.ensures.none
