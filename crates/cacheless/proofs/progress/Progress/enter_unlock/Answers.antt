use Rattle.std.proofs.Common.{◌∙◌, ap}
use Rattle.cacheless.specs.State.{locks_accepted}
use Rattle.cacheless.proofs.Entries.EntryCodes.{unlock_code}
use Rattle.cacheless.proofs.progress.Progress.enter_unlock.Goals as goal

pub returns-clause-holds : goal.returns-clause-holds
returns-clause-holds c = unlock_code c.args.self.now c.args.rel c.args.mode _ c.remove.new.self _ _ c.begun.ensures c.remove.ensures.items (c.accept.ensures ∙ ap (λ t. locks_accepted t c.remove.new.self.items) c.is_in_acceptance-accepting.ensures)
