use Rattle.std.proofs.Common.{◌∙◌, ap}
use Rattle.cacheless.specs.State.{locks_accepted}
use Rattle.cacheless.proofs.Entries.EntryCodes.{look_code}
use Rattle.cacheless.proofs.progress.Progress.enter_look.Goals as goal

pub returns-clause-holds : goal.returns-clause-holds
returns-clause-holds c = look_code _ _ _ _ _ _ c.begun.ensures c.after_look-self.ensures (c.accept.ensures ∙ ap (λ t. locks_accepted t c.args.self.now.locks.items) c.is_in_acceptance-accepting.ensures)
