use Rattle.std.proofs.Common.{refl}
use Rattle.lock_modes.specs.GrantLists.{grants_at}
use Rattle.lock_modes.proofs.Releasing.{released_next}
use Rattle.lock_modes.proofs.lock_table.take_out_each.Goals as goal

pub loop-grant-preserved : goal.loop-grant-preserved
loop-grant-preserved c =
    released_next c.args.released.now c.args.own.now c.loop-grant.grant-index _ _ (grants_at c.args.by_rel.now) (grants_at c.loop-grant.by_rel) (grants_at c.take_out_at.new.by_rel) c.loop-grant-test.true refl c.loop-grant.invariant
    c.take_out_at.ensures
