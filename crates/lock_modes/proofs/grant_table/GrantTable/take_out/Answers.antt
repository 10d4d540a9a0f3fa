use Rattle.std.proofs.Common.{sym, subst}
use Rattle.lock_modes.specs.Kept.{Holds}
use Rattle.lock_modes.proofs.Releasing.{holds_released}
use Rattle.lock_modes.proofs.grant_table.GrantTable.take_out.Goals as goal

pub invariant_of-self : goal.invariant_of-self
invariant_of-self c =
    subst (Holds c.take_out_each.new.by_rel c.take_out.new.self) (sym c.note.ensures)
    (holds_released c.args.released c.args.backend c.requires _ _ _ _ _ c.get.result.now c.get.ensures c.take_out_each.ensures c.take_out.ensures c.self.invariant)
