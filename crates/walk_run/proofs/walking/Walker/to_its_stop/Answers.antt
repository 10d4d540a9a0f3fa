use Rattle.std.proofs.Common.{◌∙◌, ◌-◌, refl, sym}
use Rattle.backend_core.proofs.Entries.Inside.{if_refused}
use Rattle.walk_run.proofs.Leaving.{leaves_same, leaves_then}
use Rattle.walk_run.proofs.Following.{stops_follow}
use Rattle.walk_run.proofs.ScheduleSteps.{read_running}
use Rattle.walk_run.proofs.OneAfterAnother.{goes_on_none, goes_on_step, goes_on_stopped}
use Rattle.walk_run.proofs.walking.Walker.to_its_stop.Goals as goal

pub running-preserved : goal.running-preserved
running-preserved g c = record {
  script = c.in_ok-make_step.ensures.script ∙ c.running.invariant.script;
  goes =
      goes_on_step (g.L.Seg.script c.args.seg.now) (g.L.Seg.script c.running.seg) (g.L.Seg.history c.args.seg.now) (g.L.Seg.history c.running.seg) (g.L.Seg.history c.make_step.new.seg) c.running.self.backends.items c.make_step.new.self.backends.items c.args.b
      c.running.invariant.script c.requires.backend c.running.invariant.goes
      (read_running (g.L.Seg.script c.args.seg.now) (g.L.Seg.history c.running.seg) c.running.self.backends.items c.args.b c.index.result.now c.requires.backend c.running.invariant.goes.stand c.index.ensures (sym c.running-test.ensures))
      c.in_ok-make_step.ensures.makes;
  leaves = leaves_then (g.L.Seg.script c.args.seg.now) (g.L.Seg.script c.running.seg) (g.L.Seg.history c.args.seg.now) (g.L.Seg.history c.running.seg) (g.L.Seg.history c.make_step.new.seg) (g.L.Seg.promised c.args.seg.now) (g.L.Seg.promised c.running.seg) (g.L.Seg.promised c.make_step.new.seg)
      c.running.invariant.script c.running.invariant.leaves c.in_ok-make_step.ensures.leaves;
}

pub returns-clause-goes : goal.returns-clause-goes
returns-clause-goes g c =
    goes_on_stopped (g.L.Seg.script c.args.seg.now) (g.L.Seg.history c.args.seg.now) (g.L.Seg.history c.running.seg) c.running.self.backends.items c.args.b c.index.result.now
    c.requires.backend c.running.invariant.goes c.index.ensures (sym c.running-test.ensures)

pub running-init : goal.running-init
running-init g c = record {
  script = refl;
  goes = goes_on_none (g.L.Seg.script c.args.seg.now) (g.L.Seg.history c.args.seg.now) c.args.self.now.backends.items (c.args.b - 1) c.requires.stand;
  leaves = leaves_same (g.L.Seg.script c.args.seg.now) (g.L.Seg.history c.args.seg.now) c.args.self.now.backends.items (g.L.Seg.promised c.args.seg.now) c.requires.stand;
}

pub returns-in_err-make_step-clause-leaves : goal.returns-in_err-make_step-clause-leaves
returns-in_err-make_step-clause-leaves g c = leaves_then (g.L.Seg.script c.args.seg.now) (g.L.Seg.script c.running.seg) (g.L.Seg.history c.args.seg.now) (g.L.Seg.history c.running.seg) (g.L.Seg.history c.make_step.new.seg) (g.L.Seg.promised c.args.seg.now) (g.L.Seg.promised c.running.seg) (g.L.Seg.promised c.make_step.new.seg)
    c.running.invariant.script c.running.invariant.leaves c.in_err-make_step.ensures.leaves

pub returns-in_err-make_step-clause-follows : goal.returns-in_err-make_step-clause-follows
returns-in_err-make_step-clause-follows g c = if_refused c.from_residual.result (stops_follow (g.L.Seg.script c.args.seg.now) (g.L.Seg.script c.running.seg) (g.L.Seg.history c.args.seg.now) (g.L.Seg.history c.running.seg) (g.L.Seg.history c.make_step.new.seg) c.running.self.backends.items c.args.b c.index.result.now
    c.running.invariant.script c.requires.backend c.running.invariant.goes c.index.ensures (sym c.running-test.ensures) c.in_err-make_step.ensures.follows)
