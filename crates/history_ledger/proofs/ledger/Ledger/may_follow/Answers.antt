use Rattle.history_ledger.proofs.MayFollow.{answer_is, answer_decides}
use Rattle.history_ledger.proofs.ledger.Ledger.may_follow.Goals as goal

pub returns-clause-decides : goal.returns-clause-decides
returns-clause-decides c = λ seen k. answer_decides c.may_follow_now.result seen c.args.self.now c.args.size c.args.e.now c.may_follow_now.ensures.now k

pub returns-clause-rule : goal.returns-clause-rule
returns-clause-rule c = λ s k. answer_is c.may_follow_now.result s c.args.self.now c.args.size c.args.e.now c.may_follow_now.ensures.now k
