use Rattle.std.proofs.Common.{sym}
use Rattle.walk_run.proofs.Leaving.{leaves_same}
use Rattle.walk_run.proofs.Following.{step_follows}
use Rattle.walk_run.proofs.ScheduleSteps.{makes_goes, read_running}
use Rattle.walk_run.proofs.walking.Walker.step.Goals as goal

pub returns-clause-goes : goal.returns-clause-goes
returns-clause-goes g c =
    makes_goes (g.L.Seg.script c.args.seg.now) (g.L.Seg.history c.args.seg.now) (g.L.Seg.history c.make_step.new.seg) c.args.self.now.backends.items c.make_step.new.self.backends.items c.args.b c.make_step.result
    c.requires.backend c.requires.stand
    (read_running (g.L.Seg.script c.args.seg.now) (g.L.Seg.history c.args.seg.now) c.args.self.now.backends.items c.args.b c.index.result.now c.requires.backend c.requires.stand c.index.ensures (sym c.if-is_stopped.ensures))
    c.make_step.ensures.makes

pub returns-clause-follows : goal.returns-clause-follows
returns-clause-follows g c = step_follows (g.L.Seg.script c.args.seg.now) (g.L.Seg.history c.args.seg.now) (g.L.Seg.history c.make_step.new.seg) c.args.self.now.backends.items c.args.b c.index.result.now c.make_step.result
    c.requires.backend c.requires.stand c.index.ensures (sym c.if-is_stopped.ensures) c.make_step.ensures.follows

pub returns-then-is_stopped-clause-leaves : goal.returns-then-is_stopped-clause-leaves
returns-then-is_stopped-clause-leaves g c = leaves_same (g.L.Seg.script c.args.seg.now) (g.L.Seg.history c.args.seg.now) c.args.self.now.backends.items (g.L.Seg.promised c.args.seg.now) c.requires.stand
