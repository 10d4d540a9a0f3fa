use Rattle.lock_modes.proofs.Conflicts.{holds_there}
use Rattle.lock_modes.proofs.grant_table.GrantTable.holds.Goals as goal

pub returns : goal.returns
returns c = rw (← c.self.view_is) (holds_there _ _ _ c.get.result.now c.args.backend c.args.rel c.args.mode _ c.self.invariant c.get.ensures c.is_held.ensures)
