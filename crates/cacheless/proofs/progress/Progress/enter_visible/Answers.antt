use Rattle.std.proofs.Common.{◌∙◌, ap}
use Rattle.cacheless.specs.State.{locks_accepted}
use Rattle.cacheless.proofs.Entries.EntryCodes.{visible_code}
use Rattle.cacheless.proofs.progress.Progress.enter_visible.Goals as goal

pub returns-clause-holds : goal.returns-clause-holds
returns-clause-holds c = visible_code _ _ _ _ _ c.begun.ensures (c.accept.ensures ∙ ap (λ t. locks_accepted t c.args.self.now.locks.items) c.is_in_acceptance-accepting.ensures)
