use Rattle.std.proofs.Common.{sym}
use Rattle.script_text.proofs.StepItems.{no_backend}
use Rattle.script_text.proofs.steps.next_turns.Goals as goal

pub returns-in_err-backend-clause-item : goal.returns-in_err-backend-clause-item
returns-in_err-backend-clause-item c =
    rw c.from_residual-in_err-backend.ensures (no_backend c.args.backends c.in_ok-next.field-0.now c.args.tokens.now c.next.new.self c.next.new.self c.in_ok-next.ensures (sym c.in_err-backend.ensures.value))
