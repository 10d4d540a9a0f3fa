use Rattle.std.proofs.Common.{arith}
use Rattle.thread_run.proofs.Ends.{prepared}
use Rattle.thread_run.proofs.running.prepare.Goals as goal

pub returns : goal.returns
returns c = let t = c.in_ok-table.ensures in let n = c.backends.ensures in let script = c.in_ok-play.ensures.script in
    prepared c.args.script.now c.in_ok-table.table c.in_ok-play.play c.in_ok-table.passes.items c.in_ok-backends.backends.items c.backends.result
    n.kept n.value (omega (arith, n.value, n.kept.backends.0)) t.told.0 t.told.1 script.0 script.1 c.in_ok-play.ensures.history t.passes.0 t.passes.1 c.in_ok-backends.ensures.stand
