use Rattle.std.proofs.Common.{ap}
use Rattle.backend_core.specs.Types.{Progress}
use Rattle.backend_core.proofs.Entries.Inside.{then_so}
use Rattle.backend_core.proofs.Silent.{answer_goes}
use Rattle.backend_core.proofs.Entries.Noting.{answer_settles}
use Rattle.backend_core.proofs.backend.Backend.answer.Goals as goal

pub returns-clause-keeps : goal.returns-clause-keeps
returns-clause-keeps c = answer_goes c.args.self.now _ _ c.requires.answers c.answer.ensures.answers

pub returns-clause-noted : goal.returns-clause-noted
returns-clause-noted c = answer_settles c.args.self.now _ _ c.answer.ensures.answers

pub returns-clause-number : goal.returns-clause-number
returns-clause-number c = then_so c.answer.result (λ answered. ap (λ (x : Progress). x.finished) answered.is) c.answer.ensures.answers
