use Rattle.std.proofs.Common.{◌∙◌, ap, refl}
use Rattle.cacheless.specs.State.{locks_accepted}
use Rattle.cacheless.proofs.Entries.EntryCodes.{fetch_code}
use Rattle.cacheless.proofs.progress.Progress.enter_fetch.Goals as goal

pub returns-clause-holds : goal.returns-clause-holds
returns-clause-holds c = fetch_code c.args.self.now c.args.messages.now _ _ _ _ _ _ c.search_again.new.self _ _ _ refl c.begun.ensures c.execute.ensures.kept c.execute.ensures.pins c.after_fetch-self.ensures c.search_again.ensures c.full_of.ensures.is (c.accept.ensures ∙ ap (λ t. locks_accepted t c.search_again.new.self.locks.items) c.is_in_acceptance-accepting.ensures)

pub returns-clause-same : goal.returns-clause-same
returns-clause-same c = ap (λ p. p.commands) c.search_again.ensures.is
