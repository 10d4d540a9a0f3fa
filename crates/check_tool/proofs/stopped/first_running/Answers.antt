use Rattle.std.proofs.Common.{refl, arith}
use Rattle.check_tool.proofs.Schedule.{first_start, first_here, first_next, first_never}
use Rattle.check_tool.proofs.stopped.first_running.Goals as goal

pub loop-i-init : goal.loop-i-init
loop-i-init c = first_start c.args.stopped.now

pub returns-then-not-has-clause-first : goal.returns-then-not-has-clause-first
returns-then-not-has-clause-first c = first_here c.args.stopped.now c.loop-i.i _ _ c.loop-i-test.true refl c.if-not-has.true c.loop-i.invariant

pub loop-i-preserved : goal.loop-i-preserved
loop-i-preserved c = first_next c.args.stopped.now c.loop-i.i _ _ c.loop-i-test.true refl c.if-not-has.false c.loop-i.invariant

pub returns-clause-first : goal.returns-clause-first
returns-clause-first c = first_never c.args.stopped.now c.loop-i.i (omega (arith, c.loop-i-test.false)) c.loop-i.invariant
