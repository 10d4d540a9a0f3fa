use Rattle.std.proofs.Common.{◌∙◌, false, ap, take}
use Rattle.backend_core.proofs.Cutting.Halting.{halts}
use Rattle.backend_core.proofs.backend.Backend.halt.Goals as goal

pub returns-clause-halts : goal.returns-clause-halts
returns-clause-halts c = halts c.args.self.now _ _ _ (c.from_vec.ensures ∙ c.truncate.ensures.items ∙ ap (take c.args.self.now.progress.finished) (c.into_vec-commands.ensures ∙ c.replace.ensures.value)) c.clear.ensures

pub returns-clause-noted : goal.returns-clause-noted
returns-clause-noted c = λ i. record { looked = false; frames = c.clear.ensures i; told = false }
