use Rattle.std.proofs.Common.{◌∙◌, ap, is_some}
use Rattle.lock_modes.proofs.Marks.{is_some-state}
use Rattle.lock_modes.proofs.own_locks.OwnLocks.state.Goals as goal

pub returns-clause-held : goal.returns-clause-held
returns-clause-held c = rw (← c.self.view_is, ← c.deref.ensures.value) (ap is_some c.state_in.ensures ∙ is_some-state c.deref.result.now c.args.rel c.args.mode)
