use Rattle.std.proofs.Common.{take}
use Rattle.history_ledger.proofs.MayFollow.{may_enter, reads_next}
use Rattle.fault_hints.proofs.holding.held.Goals as goal

pub loop-e-init : goal.loop-e-init
loop-e-init c = c.new-ledger.ensures

pub enter-requires : goal.enter-requires
enter-requires c =
    let seen = take c.loop-e.e-index c.args.entries.now in
    may_enter seen c.loop-e.ledger c.e-item.result c.loop-e.invariant ((c.in_ok-follows.ensures.decides seen c.loop-e.invariant).0 c.if-not-follows.false).0

pub loop-e-preserved : goal.loop-e-preserved
loop-e-preserved c =
    let seen = take c.loop-e.e-index c.args.entries.now in
    let follows = (c.in_ok-follows.ensures.decides seen c.loop-e.invariant).0 c.if-not-follows.false in
    reads_next c.args.entries.now c.loop-e.e-index c.e-item.result _ _ c.loop-e-test.true c.e-item.is (c.in_ok-enter.ensures.history seen c.loop-e.invariant follows.0)
