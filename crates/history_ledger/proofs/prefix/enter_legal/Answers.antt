use Rattle.std.proofs.Common.{take, subst, arith}
use Rattle.std.specs.Bool.{Decides}
use Rattle.history_model.specs.Lapped.{FetchesFrom}
use Rattle.history_model.specs.MayFollow.{MayFollow}
use Rattle.history_ledger.proofs.MayFollow.{may_enter, queued_more, reads_next, ends_here, all_of_it}
use Rattle.history_ledger.proofs.prefix.enter_legal.Goals as goal

pub returns-then-not-follows : goal.returns-then-not-follows
returns-then-not-follows c = ends_here c.args.size c.args.entries.now c.loop-at.at c.index-entries-at.result _ c.loop-at-test.true c.index-entries-at.is c.loop-at.invariant.queued
    (subst (λ t. Decides t (MayFollow (take c.loop-at.at c.args.entries.now) c.index-entries-at.result × FetchesFrom c.args.size (take c.loop-at.at c.args.entries.now) c.index-entries-at.result.backend c.index-entries-at.result.event)) c.if-not-follows.true
    (c.in_ok-follows.ensures.decides (take c.loop-at.at c.args.entries.now) c.loop-at.invariant.reads))

pub enter-requires : goal.enter-requires
enter-requires c = may_enter (take c.loop-at.at c.args.entries.now) c.loop-at.ledger c.index-entries-at.result c.loop-at.invariant.reads ((c.in_ok-follows.ensures.decides (take c.loop-at.at c.args.entries.now) c.loop-at.invariant.reads).0 c.if-not-follows.false).0

pub loop-at-preserved : goal.loop-at-preserved
loop-at-preserved c =
    let follows = (c.in_ok-follows.ensures.decides (take c.loop-at.at c.args.entries.now) c.loop-at.invariant.reads).0 c.if-not-follows.false in
    record {
      reads = reads_next c.args.entries.now c.loop-at.at c.index-entries-at.result _ _ c.loop-at-test.true c.index-entries-at.is (c.in_ok-enter.ensures.history (take c.loop-at.at c.args.entries.now) c.loop-at.invariant.reads follows.0);
      queued = queued_more c.args.size c.args.entries.now c.loop-at.at c.index-entries-at.result _ c.loop-at-test.true c.index-entries-at.is c.loop-at.invariant.queued follows;
    }

pub returns : goal.returns
returns c = all_of_it c.args.size c.args.entries.now c.loop-at.at (omega (arith, c.loop-at-test.false)) c.loop-at.invariant.queued
