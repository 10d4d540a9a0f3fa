use Rattle.lock_modes.proofs.Conflicts.{granted_there}
use Rattle.lock_modes.proofs.grant_table.GrantTable.has_granted.Goals as goal

pub returns : goal.returns
returns c = rw (← c.self.view_is) (granted_there _ _ _ c.get.result.now c.args.backend c.args.command c.args.rel c.args.mode _ c.self.invariant c.get.ensures c.is_granted.ensures)
