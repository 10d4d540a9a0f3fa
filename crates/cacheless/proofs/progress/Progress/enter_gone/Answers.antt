use Rattle.std.proofs.Common.{◌∙◌, ap}
use Rattle.cacheless.specs.State.{locks_accepted}
use Rattle.command_lists.specs.Lists.{all_lists}
use Rattle.command_lists.proofs.Writes.{aborted-all}
use Rattle.cacheless.proofs.Entries.EntryCodes.{gone_code}
use Rattle.cacheless.proofs.progress.Progress.enter_gone.Goals as goal

pub returns-clause-holds : goal.returns-clause-holds
returns-clause-holds c = gone_code c.args.self.now c.args.from _ _ _ _ _ _ _ _ _ c.begun.ensures c.cats_from.ensures c.rels_from.ensures c.execute.ensures.kept c.execute-2.ensures.kept c.execute.ensures.pins c.execute-2.ensures.pins (ap all_lists c.abort_from.ensures.lists ∙ aborted-all c.args.from c.args.self.now.lists.lists) (c.accept.ensures ∙ ap (λ t. locks_accepted t c.args.self.now.locks.items) c.is_in_acceptance-accepting.ensures)
