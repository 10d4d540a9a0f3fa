use Rattle.std.proofs.Common.{◌<◌, sym, subst, arith}
use Rattle.history_model.specs.Legal.{IsLegal}
use Rattle.history_model.proofs.Sound.{sound_is_legal}
use Rattle.cacheless.specs.Plays.{Plays}
use Rattle.backend_core.specs.Agrees.{AreSpelled}
use Rattle.backend_core.specs.Places.{WantsPlaces}
use Rattle.backend_core.proofs.Played.{entered_played}
use Rattle.backend_core.proofs.PlacesWanted.{kept_only, has_wanted}
use Rattle.backend_core.proofs.Entries.Inside.{if_refused}
use Rattle.walk_run.proofs.Leaving.{NoEntry, step_one, one_follows, refused_follows, leaves_of, step_others, step_most}
use Rattle.walk_run.proofs.ScheduleSteps.{found_at, stands_there, right_there, same_there, step_makes}
use Rattle.walk_run.proofs.walking.Walker.make_step.Goals as goal

pub step-requires-clause-spelled : goal.step-requires-clause-spelled
step-requires-clause-spelled g c = subst AreSpelled (sym c.promise.ensures.script) c.requires.stand.spelled

pub step-requires-clause-legal : goal.step-requires-clause-legal
step-requires-clause-legal g c = subst IsLegal (sym c.promise.ensures.promises.entries) (sound_is_legal _ (entered_played _ _ c.requires.stand.spelled c.requires.stand.entered).sound)

pub step-requires-clause-plays : goal.step-requires-clause-plays
step-requires-clause-plays g c =
    subst (λ s. Plays s (g.L.Seg.history c.promise.new.self)) (sym c.promise.ensures.script) (subst (Plays (g.L.Seg.script c.args.seg.now)) (sym c.promise.ensures.promises.entries) (entered_played _ _ c.requires.stand.spelled c.requires.stand.entered).plays)

pub step-requires-clause-place : goal.step-requires-clause-place
step-requires-clause-place g c =
    subst (λ b. 0 < g.L.Seg.promised c.promise.new.self b) (sym (stands_there _ _ _ _ _ c.requires.backend c.requires.stand c.index_mut-backend.ensures.value).id) (omega (arith, c.in_ok-promise.ensures.promises.ok))

pub places_wanted-wanted-requires : goal.places_wanted-wanted-requires
places_wanted-wanted-requires g c = record { right = right_there (g.L.Seg.script c.args.seg.now) (g.L.Seg.history c.args.seg.now) c.args.self.now.backends.items c.args.b _ c.index.result.now c.requires.backend c.requires.stand c.index.ensures (g.met.L.Seg.short c.args.seg.now) }

pub step-requires-clause-wanted : goal.step-requires-clause-wanted
step-requires-clause-wanted g c =
    let same = same_there (g.L.Seg.script c.args.seg.now) (g.L.Seg.history c.args.seg.now) c.args.self.now.backends.items c.args.b c.index.result.now c.index_mut-backend.result.now c.requires.backend c.requires.stand c.index.ensures c.index_mut-backend.ensures.value in
    has_wanted (g.L.Seg.promised c.promise.new.self) (stands_there _ _ _ _ _ c.requires.backend c.requires.stand c.index_mut-backend.ensures.value).id (subst (λ s. WantsPlaces s c.places_wanted-wanted.result) same c.places_wanted-wanted.ensures)
    (omega (arith, c.in_ok-promise.ensures.promises.ok))

pub step-requires-clause-alive : goal.step-requires-clause-alive
step-requires-clause-alive g c = c.requires.running _ (found_at _ _ _ _ _ c.requires.backend c.requires.stand c.index_mut-backend.ensures.value)

pub returns-clause-makes : goal.returns-clause-makes
returns-clause-makes g c =
    step_makes (g.L.Seg.script c.args.seg.now) (g.L.Seg.script c.promise.new.self) (g.L.Seg.history c.args.seg.now) (g.L.Seg.history c.promise.new.self) (g.L.Seg.history c.step.new.seg) (g.L.Seg.promised c.promise.new.self) (g.L.Seg.promised c.step.new.seg) c.args.self.now.backends.items c.args.b
    c.index_mut-backend.result.now c.step.new.self c.step.result c.promise.ensures.script c.promise.ensures.promises.entries c.requires.backend c.requires.stand c.index_mut-backend.ensures.value c.step.ensures.steps c.step.ensures.noted

pub returns-in_err-promise-clause-leaves : goal.returns-in_err-promise-clause-leaves
returns-in_err-promise-clause-leaves g c = leaves_of (g.L.Seg.script c.args.seg.now) (g.L.Seg.history c.args.seg.now) (g.L.Seg.history c.promise.new.self) c.args.self.now.backends.items (g.L.Seg.promised c.args.seg.now) (g.L.Seg.promised c.promise.new.self) c.args.b
    c.requires.backend c.requires.stand (NoEntry c.promise.ensures.promises.entries) c.promise.ensures.promises.others (kept_only c.in_err-promise.ensures.promises.err)

pub returns-in_err-promise-clause-follows : goal.returns-in_err-promise-clause-follows
returns-in_err-promise-clause-follows g c = if_refused c.from_residual.result (one_follows (g.L.Seg.script c.args.seg.now) (g.L.Seg.history c.args.seg.now) (g.L.Seg.history c.promise.new.self) c.args.b (NoEntry c.promise.ensures.promises.entries))

pub returns-clause-follows : goal.returns-clause-follows
returns-clause-follows g c = refused_follows (g.L.Seg.script c.args.seg.now) (g.L.Seg.history c.args.seg.now) (g.L.Seg.history c.step.new.seg) c.args.b c.step.result
    (step_one (g.L.Seg.script c.args.seg.now) (g.L.Seg.script c.promise.new.self) (g.L.Seg.history c.args.seg.now) (g.L.Seg.history c.promise.new.self) (g.L.Seg.history c.step.new.seg) (g.L.Seg.promised c.promise.new.self) (g.L.Seg.promised c.step.new.seg) c.args.b
    c.index_mut-backend.result.now c.step.new.self c.step.result c.promise.ensures.script c.promise.ensures.promises.entries (stands_there _ _ _ _ _ c.requires.backend c.requires.stand c.index_mut-backend.ensures.value).id c.step.ensures.steps c.step.ensures.refused)

pub returns-clause-leaves : goal.returns-clause-leaves
returns-clause-leaves g c =
    let there = stands_there _ _ _ _ _ c.requires.backend c.requires.stand c.index_mut-backend.ensures.value in
    let same = same_there (g.L.Seg.script c.args.seg.now) (g.L.Seg.history c.args.seg.now) c.args.self.now.backends.items c.args.b c.index.result.now c.index_mut-backend.result.now c.requires.backend c.requires.stand c.index.ensures c.index_mut-backend.ensures.value in
    let one = step_one (g.L.Seg.script c.args.seg.now) (g.L.Seg.script c.promise.new.self) (g.L.Seg.history c.args.seg.now) (g.L.Seg.history c.promise.new.self) (g.L.Seg.history c.step.new.seg) (g.L.Seg.promised c.promise.new.self) (g.L.Seg.promised c.step.new.seg) c.args.b
    c.index_mut-backend.result.now c.step.new.self c.step.result c.promise.ensures.script c.promise.ensures.promises.entries (stands_there _ _ _ _ _ c.requires.backend c.requires.stand c.index_mut-backend.ensures.value).id c.step.ensures.steps c.step.ensures.refused in
    leaves_of (g.L.Seg.script c.args.seg.now) (g.L.Seg.history c.args.seg.now) (g.L.Seg.history c.step.new.seg) c.args.self.now.backends.items (g.L.Seg.promised c.args.seg.now) (g.L.Seg.promised c.step.new.seg) c.args.b c.requires.backend c.requires.stand one
    (step_others (g.L.Seg.script c.promise.new.self) (g.L.Seg.history c.promise.new.self) (g.L.Seg.history c.step.new.seg) (g.L.Seg.promised c.args.seg.now) (g.L.Seg.promised c.promise.new.self) (g.L.Seg.promised c.step.new.seg) c.args.b
    c.index_mut-backend.result.now c.step.new.self c.step.result there.id c.promise.ensures.promises.others c.step.ensures.steps c.step.ensures.refused)
    (step_most (g.L.Seg.script c.args.seg.now) (g.L.Seg.history c.args.seg.now) (g.L.Seg.script c.promise.new.self) (g.L.Seg.history c.promise.new.self) (g.L.Seg.history c.step.new.seg) (g.L.Seg.promised c.args.seg.now) (g.L.Seg.promised c.promise.new.self) (g.L.Seg.promised c.step.new.seg) c.args.b c.places_wanted-wanted.result
    c.index_mut-backend.result.now c.step.new.self c.step.result one there.stands there.id (subst (λ s. WantsPlaces s c.places_wanted-wanted.result) same c.places_wanted-wanted.ensures) (omega (arith, c.in_ok-promise.ensures.promises.ok)) c.step.ensures.steps c.step.ensures.refused)

pub returns-clause-others : goal.returns-clause-others
returns-clause-others g c = step_others (g.L.Seg.script c.promise.new.self) (g.L.Seg.history c.promise.new.self) (g.L.Seg.history c.step.new.seg) (g.L.Seg.promised c.args.seg.now) (g.L.Seg.promised c.promise.new.self) (g.L.Seg.promised c.step.new.seg) c.args.b
    c.index_mut-backend.result.now c.step.new.self c.step.result (stands_there _ _ _ _ _ c.requires.backend c.requires.stand c.index_mut-backend.ensures.value).id c.promise.ensures.promises.others c.step.ensures.steps c.step.ensures.refused
