use Rattle.backend_core.proofs.Silent.{pass_goes, pass_comes}
use Rattle.backend_core.proofs.Entries.Noting.{pass_settles}
use Rattle.backend_core.proofs.backend.Backend.pass.Goals as goal

pub returns-clause-keeps : goal.returns-clause-keeps
returns-clause-keeps c = pass_goes c.args.self.now _ _ _ _ c.in_ok-line.ensures.passes c.in_ok-line.ensures.kept c.in_ok-line.ensures.answer c.clear.ensures c.in_ok-line.ensures.line c.in_ok-push.ensures.ok

pub returns-clause-noted : goal.returns-clause-noted
returns-clause-noted c = pass_settles c.args.self.now _ _ _ c.in_ok-line.ensures.passes c.clear.ensures

pub returns-clause-command : goal.returns-clause-command
returns-clause-command c = pass_comes c.args.self.now _ _ _ _ c.in_ok-line.ensures.passes c.in_ok-line.ensures.kept c.in_ok-line.ensures.answer c.clear.ensures c.in_ok-line.ensures.line c.in_ok-push.ensures.ok

pub returns-clause-number : goal.returns-clause-number
returns-clause-number c = λ scenario seen agrees. (c.in_ok-line.ensures.passes scenario seen agrees.holds).finished
