use Rattle.backend_core.proofs.Silent.{act_goes}
use Rattle.backend_core.proofs.Entries.Noting.{act_settles}
use Rattle.backend_core.proofs.backend.Backend.act.Goals as goal

pub returns-clause-keeps : goal.returns-clause-keeps
returns-clause-keeps c = act_goes c.args.self.now _ _ _ c.is_told_still-self.ensures c.requires.acts c.in_ok-act.ensures.acts c.in_ok-act.ensures.kept c.in_ok-act.ensures.answer

pub returns-clause-noted : goal.returns-clause-noted
returns-clause-noted c = act_settles c.args.self.now _ _ c.requires.acts c.is_told_still-self.ensures c.in_ok-act.ensures.acts c.in_ok-act.ensures.less c.in_ok-act.ensures.answer

pub returns-clause-number : goal.returns-clause-number
returns-clause-number c = λ scenario seen agrees. (c.in_ok-act.ensures.acts scenario seen agrees.holds).moves.finished
