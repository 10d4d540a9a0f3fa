use Rattle.history_model.proofs.Sound.{sound_is_legal}
use Rattle.backend_core.proofs.PlacesWanted.{kept_only, has_wanted}
use Rattle.thread_run.proofs.Played.{plays_same, renewed_may, enters_right, has_place, step_plays, step_more, step_id, step_stands, promised_step}
use Rattle.thread_run.proofs.turn_work.step_in_turn.Goals as goal

pub places_wanted-wanted-requires : goal.places_wanted-wanted-requires
places_wanted-wanted-requires g c = record { right = enters_right (g.L.Seg.promised c.args.seg.now) (g.met.L.Seg.short c.args.seg.now) c.requires.may }

pub renew-requires-clause-backend : goal.renew-requires-clause-backend
renew-requires-clause-backend g c = c.requires.may.backend

pub returns-in_err-renew-clause-plays : goal.returns-in_err-renew-clause-plays
returns-in_err-renew-clause-plays g c = plays_same c.in_err-renew.ensures.script c.in_err-renew.ensures.history c.requires.may.run c.in_err-renew.ensures.others (kept_only c.in_err-renew.ensures.kept)

pub step-requires-clause-stands : goal.step-requires-clause-stands
step-requires-clause-stands g c = (renewed_may c.in_ok-renew.ensures.script c.in_ok-renew.ensures.history c.requires.may).stands

pub step-requires-clause-spelled : goal.step-requires-clause-spelled
step-requires-clause-spelled g c = (renewed_may c.in_ok-renew.ensures.script c.in_ok-renew.ensures.history c.requires.may).run.played.spelled

pub step-requires-clause-legal : goal.step-requires-clause-legal
step-requires-clause-legal g c = sound_is_legal (g.L.Seg.history c.renew.new.seg) (renewed_may c.in_ok-renew.ensures.script c.in_ok-renew.ensures.history c.requires.may).run.played.sound

pub step-requires-clause-plays : goal.step-requires-clause-plays
step-requires-clause-plays g c = (renewed_may c.in_ok-renew.ensures.script c.in_ok-renew.ensures.history c.requires.may).run.played.plays

pub step-requires-clause-place : goal.step-requires-clause-place
step-requires-clause-place g c = has_place (g.L.Seg.promised c.renew.new.seg) c.requires.may.id c.in_ok-renew.ensures.room

pub step-requires-clause-wanted : goal.step-requires-clause-wanted
step-requires-clause-wanted g c = has_wanted (g.L.Seg.promised c.renew.new.seg) c.requires.may.id c.places_wanted-wanted.ensures c.in_ok-renew.ensures.wanted

pub step-requires-clause-alive : goal.step-requires-clause-alive
step-requires-clause-alive g c = c.requires.may.alive

pub returns-clause-plays : goal.returns-clause-plays
returns-clause-plays g c = step_plays (g.L.Seg.history c.step.new.seg) (g.L.Seg.promised c.renew.new.seg) (g.L.Seg.promised c.step.new.seg) c.step.new.self c.step.result c.in_ok-renew.ensures.script c.in_ok-renew.ensures.history c.requires.may c.in_ok-renew.ensures.others c.places_wanted-wanted.ensures c.in_ok-renew.ensures.most c.step.ensures.script c.step.ensures.steps c.step.ensures.refused

pub returns-clause-more : goal.returns-clause-more
returns-clause-more g c = step_more (g.L.Seg.script c.renew.new.seg) (g.L.Seg.history c.step.new.seg) (g.L.Seg.promised c.renew.new.seg) (g.L.Seg.promised c.step.new.seg) c.step.new.self c.step.result c.in_ok-renew.ensures.history c.requires.may c.step.ensures.steps

pub returns-clause-id : goal.returns-clause-id
returns-clause-id g c = step_id (g.L.Seg.script c.renew.new.seg) (g.L.Seg.history c.renew.new.seg) (g.L.Seg.history c.step.new.seg) (g.L.Seg.promised c.renew.new.seg) (g.L.Seg.promised c.step.new.seg) c.step.new.self c.step.result c.requires.may c.step.ensures.steps

pub returns-clause-stands : goal.returns-clause-stands
returns-clause-stands g c = step_stands (g.L.Seg.history c.renew.new.seg) (g.L.Seg.history c.step.new.seg) (g.L.Seg.promised c.renew.new.seg) (g.L.Seg.promised c.step.new.seg) c.args.backend.now c.step.new.self c.step.result c.step.ensures.script c.step.ensures.steps

pub returns-clause-promises : goal.returns-clause-promises
returns-clause-promises g c = promised_step (g.L.Seg.script c.renew.new.seg) (g.L.Seg.history c.renew.new.seg) (g.L.Seg.history c.step.new.seg) (g.L.Seg.promised c.args.seg.now) (g.L.Seg.promised c.renew.new.seg) (g.L.Seg.promised c.step.new.seg) c.step.new.self c.step.result c.requires.may c.places_wanted-wanted.ensures c.in_ok-renew.ensures.wanted c.in_ok-renew.ensures.most c.in_ok-renew.ensures.none c.step.ensures.steps
