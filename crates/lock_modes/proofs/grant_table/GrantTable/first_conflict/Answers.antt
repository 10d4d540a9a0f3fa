use Rattle.lock_modes.proofs.Conflicts.{conflict_there}
use Rattle.lock_modes.proofs.grant_table.GrantTable.first_conflict.Goals as goal

pub returns : goal.returns
returns c = rw (← c.self.view_is) (conflict_there _ _ _ c.get.result.now c.args.backend c.args.rel c.args.mode _ c.self.invariant c.get.ensures c.first_in_the_way.ensures)
