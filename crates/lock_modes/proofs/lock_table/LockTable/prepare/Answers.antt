use Rattle.std.proofs.Common.{length, sym, subst}
use Rattle.lock_modes.specs.Holding.{Holding}
use Rattle.lock_modes.specs.Kept.{HasRoom}
use Rattle.lock_modes.specs.Excluding.{AreFree}
use Rattle.lock_modes.proofs.Excluding.{exclude_front, exclude_all}
use Rattle.lock_modes.proofs.lock_table.LockTable.prepare.Goals as goal

pub invariant_of-self-2 : goal.invariant_of-self-2
invariant_of-self-2 c = record {
  holds = c.reserve.ensures.same _ c.self.invariant.holds;
  room = subst (λ grants. HasRoom c.reserve.new.by_rel c.reserve.new.by_backend grants (length grants) (length grants)) c.deref.ensures.value c.in_ok-reserve.ensures.ok;
  exclude = exclude_all _ _ (exclude_front _ _ c.self.invariant.exclude) (subst (λ (table : Holding). AreFree table.held c.args.grants.items) (sym c.self.view_is) c.requires);
}

pub invariant_of-self : goal.invariant_of-self
invariant_of-self c = record {
  holds = c.reserve.ensures.same _ c.self.invariant.holds;
  room = c.reserve.ensures.more _ _ _ c.self.invariant.room;
  exclude = c.self.invariant.exclude;
}
