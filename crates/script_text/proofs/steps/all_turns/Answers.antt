use Rattle.std.proofs.Common.{◌∙◌, sym}
use Rattle.script_text.specs.LineForms.{all_turns}
use Rattle.script_text.proofs.StepItems.{all_taken}
use Rattle.script_text.proofs.steps.all_turns.Goals as goal

pub returns-clause-value : goal.returns-clause-value
returns-clause-value c =
    all_taken c.args.backends c.items.turns c.items.tokens (all_turns c.args.backends c.args.tokens.now) (sym c.is_empty.ensures ∙ c.items-test.false) c.items.invariant.read
