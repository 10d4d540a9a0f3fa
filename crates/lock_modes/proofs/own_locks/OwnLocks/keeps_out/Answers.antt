use Rattle.std.proofs.Common.{◌∙◌}
use Rattle.lock_modes.proofs.Marks.{clear_against}
use Rattle.lock_modes.proofs.own_locks.OwnLocks.keeps_out.Goals as goal

pub returns : goal.returns
returns c = rw (← c.self.view_is, ← c.deref.ensures.value) (c.is_any_against.ensures ∙ clear_against c.args.mode c.args.rel c.deref.result.now)
