use Rattle.cacheless.proofs.Entries.EntryCodes.{granted_code}
use Rattle.cacheless.proofs.progress.Progress.enter_lock.Goals as goal

pub returns-clause-holds : goal.returns-clause-holds
returns-clause-holds c = granted_code c.args.self.now c.args.rel c.args.mode _ _ _ c.begun.ensures c.add.ensures.items
