use Rattle.std.proofs.Common.{◌∙◌, refl}
use Rattle.backend_core.proofs.Entries.Inside.{if_refused}
use Rattle.walk_run.proofs.Leaving.{leaves_same, leaves_then}
use Rattle.walk_run.proofs.Following.{turns_follow}
use Rattle.walk_run.proofs.ScheduleSteps.{goes_nowhere, turns_go_on}
use Rattle.walk_run.proofs.walking.Walker.by_turns.Goals as goal

pub steps-init : goal.steps-init
steps-init g c = record {
  script = refl;
  goes = goes_nowhere (g.L.Seg.script c.args.seg.now) (g.L.Seg.history c.args.seg.now) c.args.self.now.backends.items c.requires.stand;
  leaves = leaves_same (g.L.Seg.script c.args.seg.now) (g.L.Seg.history c.args.seg.now) c.args.self.now.backends.items (g.L.Seg.promised c.args.seg.now) c.requires.stand;
}

pub steps-preserved : goal.steps-preserved
steps-preserved g c = record {
  script = c.in_ok-step.ensures.script ∙ c.steps.invariant.script;
  goes = turns_go_on (g.L.Seg.script c.args.seg.now) (g.L.Seg.script c.steps.seg) (g.L.Seg.history c.args.seg.now) (g.L.Seg.history c.steps.seg) (g.L.Seg.history c.step.new.seg) c.steps.self.backends.items c.step.new.self.backends.items c.steps._step c.args.turns.backend
      c.steps.invariant.script c.steps.invariant.goes c.in_ok-step.ensures.goes;
  leaves = leaves_then (g.L.Seg.script c.args.seg.now) (g.L.Seg.script c.steps.seg) (g.L.Seg.history c.args.seg.now) (g.L.Seg.history c.steps.seg) (g.L.Seg.history c.step.new.seg) (g.L.Seg.promised c.args.seg.now) (g.L.Seg.promised c.steps.seg) (g.L.Seg.promised c.step.new.seg)
      c.steps.invariant.script c.steps.invariant.leaves c.in_ok-step.ensures.leaves;
}

pub returns-in_err-step-clause-leaves : goal.returns-in_err-step-clause-leaves
returns-in_err-step-clause-leaves g c = leaves_then (g.L.Seg.script c.args.seg.now) (g.L.Seg.script c.steps.seg) (g.L.Seg.history c.args.seg.now) (g.L.Seg.history c.steps.seg) (g.L.Seg.history c.step.new.seg) (g.L.Seg.promised c.args.seg.now) (g.L.Seg.promised c.steps.seg) (g.L.Seg.promised c.step.new.seg)
    c.steps.invariant.script c.steps.invariant.leaves c.in_err-step.ensures.leaves

pub returns-in_err-step-clause-follows : goal.returns-in_err-step-clause-follows
returns-in_err-step-clause-follows g c = if_refused c.from_residual.result (turns_follow (g.L.Seg.script c.args.seg.now) (g.L.Seg.script c.steps.seg) (g.L.Seg.history c.args.seg.now) (g.L.Seg.history c.steps.seg) (g.L.Seg.history c.step.new.seg) c.steps.self.backends.items c.steps._step c.args.turns.count c.args.turns.backend
    c.steps-test.true c.steps.invariant.script c.steps.invariant.goes c.in_err-step.ensures.follows)
