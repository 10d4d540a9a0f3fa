use Rattle.std.proofs.Common.{◌∙◌, ap}
use Rattle.cacheless.specs.State.{locks_accepted}
use Rattle.cacheless.proofs.Entries.EntryCodes.{reset_code}
use Rattle.cacheless.proofs.progress.Progress.enter_reset.Goals as goal

pub returns-clause-holds : goal.returns-clause-holds
returns-clause-holds c = reset_code c.args.self.now _ _ _ _ c.search_again.new.self _ _ c.begun.ensures c.reset.ensures.kept c.reset.ensures.pins c.search_again.ensures (c.accept.ensures ∙ ap (λ t. locks_accepted t c.search_again.new.self.locks.items) c.is_in_acceptance-accepting.ensures)

pub returns-clause-same : goal.returns-clause-same
returns-clause-same c = ap (λ p. p.commands) c.search_again.ensures.is
