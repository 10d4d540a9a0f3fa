use Rattle.std.proofs.Common.{◌∙◌, sym, subst}
use Rattle.cacheless.specs.Schedule.{FollowsSchedule}
use Rattle.walk_run.proofs.Following.{schedule_follows, all_follow}
use Rattle.walk_run.proofs.Leaving.{leaves_first}
use Rattle.walk_run.proofs.Walks.{no_steps, some_steps, scheduled_walk, unscheduled_walk, walk_sessions, walk_stands, walk_coherent}
use Rattle.walk_run.proofs.walking.walk_on.Goals as goal

pub returns-clause-walk : goal.returns-clause-walk
returns-clause-walk g c =
    scheduled_walk c.args.script.now (g.L.Seg.history c.args.seg.now) (g.L.Seg.history c.by_schedule.new.seg) c.by_schedule.new.self.backends.items c.steps.result.now
    c.steps.ensures.value (sym c.is_empty.ensures ∙ c.if-is_empty.false) c.requires.start c.in_ok-by_schedule.ensures.goes

pub returns-clause-sessions : goal.returns-clause-sessions
returns-clause-sessions g c = walk_sessions c.args.script.now (g.L.Seg.history c.by_schedule.new.seg) c.by_schedule.new.self.backends.items c.in_ok-by_schedule.ensures.goes.stand

pub returns-clause-stand : goal.returns-clause-stand
returns-clause-stand g c = walk_stands c.args.script.now (g.L.Seg.history c.by_schedule.new.seg) c.by_schedule.new.self.backends.items c.in_ok-by_schedule.ensures.goes.stand

pub returns-then-is_empty-clause-walk : goal.returns-then-is_empty-clause-walk
returns-then-is_empty-clause-walk g c =
    unscheduled_walk c.args.script.now (g.L.Seg.history c.args.seg.now) (g.L.Seg.history c.to_the_stops.new.seg) c.to_the_stops.new.self.backends.items c.steps.result.now
    c.steps.ensures.value (sym c.is_empty.ensures ∙ c.if-is_empty.true) c.requires.start c.in_ok-to_the_stops.ensures.goes

pub returns-then-is_empty-clause-sessions : goal.returns-then-is_empty-clause-sessions
returns-then-is_empty-clause-sessions g c = walk_sessions c.args.script.now (g.L.Seg.history c.to_the_stops.new.seg) c.to_the_stops.new.self.backends.items c.in_ok-to_the_stops.ensures.goes.stand

pub returns-then-is_empty-clause-stand : goal.returns-then-is_empty-clause-stand
returns-then-is_empty-clause-stand g c = walk_stands c.args.script.now (g.L.Seg.history c.to_the_stops.new.seg) c.to_the_stops.new.self.backends.items c.in_ok-to_the_stops.ensures.goes.stand

pub returns-clause-coherent : goal.returns-clause-coherent
returns-clause-coherent g c = walk_coherent c.args.script.now (g.L.Seg.history c.by_schedule.new.seg) c.by_schedule.new.self.backends.items c.in_ok-by_schedule.ensures.goes.stand

pub returns-then-is_empty-clause-coherent : goal.returns-then-is_empty-clause-coherent
returns-then-is_empty-clause-coherent g c = walk_coherent c.args.script.now (g.L.Seg.history c.to_the_stops.new.seg) c.to_the_stops.new.self.backends.items c.in_ok-to_the_stops.ensures.goes.stand

pub returns-in_err-walker-clause-leaves : goal.returns-in_err-walker-clause-leaves
returns-in_err-walker-clause-leaves g c = leaves_first c.args.script.now (g.L.Seg.history c.args.seg.now) (g.L.Seg.promised c.args.seg.now) c.requires.start

pub returns-in_err-walker-clause-follows : goal.returns-in_err-walker-clause-follows
returns-in_err-walker-clause-follows g c = subst (FollowsSchedule c.args.script.now) (sym c.requires.start) tt

pub returns-in_err-by_schedule-clause-follows : goal.returns-in_err-by_schedule-clause-follows
returns-in_err-by_schedule-clause-follows g c = schedule_follows c.args.script.now (g.L.Seg.history c.args.seg.now) (g.L.Seg.history c.by_schedule.new.seg)
    (some_steps c.args.script.now c.steps.result.now c.steps.ensures.value (sym c.is_empty.ensures ∙ c.if-is_empty.false)) c.requires.start c.in_err-by_schedule.ensures.follows

pub returns-in_err-to_the_stops-clause-follows : goal.returns-in_err-to_the_stops-clause-follows
returns-in_err-to_the_stops-clause-follows g c = all_follow c.args.script.now (g.L.Seg.history c.args.seg.now) (g.L.Seg.history c.to_the_stops.new.seg)
    (no_steps c.args.script.now c.steps.result.now c.steps.ensures.value (sym c.is_empty.ensures ∙ c.if-is_empty.true)) c.requires.start c.in_err-to_the_stops.ensures.follows

pub returns-clause-follows : goal.returns-clause-follows
returns-clause-follows g c =
    (scheduled_walk c.args.script.now (g.L.Seg.history c.args.seg.now) (g.L.Seg.history c.by_schedule.new.seg) c.by_schedule.new.self.backends.items c.steps.result.now
    c.steps.ensures.value (sym c.is_empty.ensures ∙ c.if-is_empty.false) c.requires.start c.in_ok-by_schedule.ensures.goes).follows

pub returns-then-is_empty-clause-follows : goal.returns-then-is_empty-clause-follows
returns-then-is_empty-clause-follows g c =
    (unscheduled_walk c.args.script.now (g.L.Seg.history c.args.seg.now) (g.L.Seg.history c.to_the_stops.new.seg) c.to_the_stops.new.self.backends.items c.steps.result.now
    c.steps.ensures.value (sym c.is_empty.ensures ∙ c.if-is_empty.true) c.requires.start c.in_ok-to_the_stops.ensures.goes).follows
