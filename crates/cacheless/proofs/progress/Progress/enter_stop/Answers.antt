use Rattle.std.proofs.Common.{◌∙◌, ap}
use Rattle.event_kinds.specs.declared.entry.Event.TheVariants as events
use Rattle.cacheless.specs.Holds.{HasEntered}
use Rattle.cacheless.specs.State.{locks_accepted}
use Rattle.cacheless.proofs.Lacking.{with_known}
use Rattle.cacheless.proofs.Entries.Entering.{with_locks}
use Rattle.cacheless.proofs.Entries.EnteredLooks.{stopped, stop_holds}
use Rattle.cacheless.proofs.progress.Progress.enter_stop.Goals as goal

pub returns-clause-holds : goal.returns-clause-holds
returns-clause-holds c = λ scenario seen rests. with_known (HasEntered scenario seen c.args.self.now events.Stop rests) (with_locks (stopped c.args.self.now) c.accept.new.locks) _
    (stop_holds scenario seen c.args.self.now _ rests (c.accept.ensures ∙ ap (λ t. locks_accepted t c.args.self.now.locks.items) c.is_in_acceptance-accepting.ensures))
