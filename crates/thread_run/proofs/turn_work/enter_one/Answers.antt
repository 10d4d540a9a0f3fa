use Rattle.std.proofs.Common.{refl, ap, length, arith}
use Rattle.history_model.proofs.Sound.{sound_is_legal}
use Rattle.backend_core.proofs.PlacesWanted.{kept_only, has_wanted}
use Rattle.thread_run.proofs.Played.{plays_same, renewed_may, enters_right, has_place, entry_refused, entry_plays, entry_more, refused_few, entry_few, entry_comes, promised_next}
use Rattle.thread_run.proofs.turn_work.enter_one.Goals as goal

pub places_wanted-requires : goal.places_wanted-requires
places_wanted-requires g c = record { right = enters_right (g.L.Seg.promised c.args.seg.now) (g.met.L.Seg.short c.args.seg.now) c.requires.may }

pub renew-requires-clause-backend : goal.renew-requires-clause-backend
renew-requires-clause-backend g c = c.requires.may.backend

pub returns-in_err-renew-clause-plays : goal.returns-in_err-renew-clause-plays
returns-in_err-renew-clause-plays g c = plays_same c.in_err-renew.ensures.script c.in_err-renew.ensures.history c.requires.may.run c.in_err-renew.ensures.others (kept_only c.in_err-renew.ensures.kept)

pub returns-in_err-renew-clause-few : goal.returns-in_err-renew-clause-few
returns-in_err-renew-clause-few g c = let e = ap length c.in_err-renew.ensures.history in omega (arith, e)

pub enter_in_turn-requires-clause-stands : goal.enter_in_turn-requires-clause-stands
enter_in_turn-requires-clause-stands g c = (renewed_may c.in_ok-renew.ensures.script c.in_ok-renew.ensures.history c.requires.may).stands

pub enter_in_turn-requires-clause-spelled : goal.enter_in_turn-requires-clause-spelled
enter_in_turn-requires-clause-spelled g c = (renewed_may c.in_ok-renew.ensures.script c.in_ok-renew.ensures.history c.requires.may).run.played.spelled

pub enter_in_turn-requires-clause-legal : goal.enter_in_turn-requires-clause-legal
enter_in_turn-requires-clause-legal g c = sound_is_legal (g.L.Seg.history c.renew.new.seg) (renewed_may c.in_ok-renew.ensures.script c.in_ok-renew.ensures.history c.requires.may).run.played.sound

pub enter_in_turn-requires-clause-plays : goal.enter_in_turn-requires-clause-plays
enter_in_turn-requires-clause-plays g c = (renewed_may c.in_ok-renew.ensures.script c.in_ok-renew.ensures.history c.requires.may).run.played.plays

pub enter_in_turn-requires-clause-place : goal.enter_in_turn-requires-clause-place
enter_in_turn-requires-clause-place g c = has_place (g.L.Seg.promised c.renew.new.seg) c.requires.may.id c.in_ok-renew.ensures.room

pub enter_in_turn-requires-clause-wanted : goal.enter_in_turn-requires-clause-wanted
enter_in_turn-requires-clause-wanted g c = has_wanted (g.L.Seg.promised c.renew.new.seg) c.requires.may.id c.places_wanted.ensures c.in_ok-renew.ensures.wanted

pub enter_in_turn-requires-clause-alive : goal.enter_in_turn-requires-clause-alive
enter_in_turn-requires-clause-alive g c = c.requires.may.alive

pub returns-in_err-enter_in_turn-clause-plays : goal.returns-in_err-enter_in_turn-clause-plays
returns-in_err-enter_in_turn-clause-plays g c = entry_refused c.in_ok-renew.ensures.script c.in_ok-renew.ensures.history c.requires.may c.in_ok-renew.ensures.others c.places_wanted.ensures c.in_ok-renew.ensures.most c.in_err-enter_in_turn.ensures.script c.in_err-enter_in_turn.ensures.refused

pub returns-in_err-enter_in_turn-clause-few : goal.returns-in_err-enter_in_turn-clause-few
returns-in_err-enter_in_turn-clause-few g c = refused_few c.in_ok-renew.ensures.history c.in_err-enter_in_turn.ensures.refused

pub returns-clause-plays : goal.returns-clause-plays
returns-clause-plays g c = entry_plays c.in_ok-renew.ensures.script c.in_ok-renew.ensures.history c.requires.may c.in_ok-renew.ensures.others c.places_wanted.ensures c.in_ok-renew.ensures.most c.in_ok-enter_in_turn.ensures.script c.in_ok-enter_in_turn.ensures.makes

pub returns-clause-few : goal.returns-clause-few
returns-clause-few g c = entry_few c.in_ok-renew.ensures.history c.in_ok-enter_in_turn.ensures.makes

pub returns-clause-more : goal.returns-clause-more
returns-clause-more g c = entry_more c.in_ok-renew.ensures.history c.requires.may c.in_ok-enter_in_turn.ensures.makes

pub returns-clause-comes : goal.returns-clause-comes
returns-clause-comes g c = entry_comes c.in_ok-renew.ensures.script c.in_ok-renew.ensures.history c.requires.may c.in_ok-enter_in_turn.ensures.script (g.met.L.Seg.short c.enter_in_turn.new.seg) c.in_ok-renew.ensures.room c.has_joined-joins.ensures refl
    c.in_ok-enter_in_turn.ensures.makes c.in_ok-enter_in_turn.ensures.starts c.in_ok-enter_in_turn.ensures.first c.in_ok-enter_in_turn.ensures.noted

pub returns-clause-promises : goal.returns-clause-promises
returns-clause-promises g c = promised_next (g.L.Seg.promised c.args.seg.now) (g.L.Seg.promised c.renew.new.seg) (g.L.Seg.promised c.enter_in_turn.new.seg) c.requires.may c.places_wanted.ensures c.in_ok-renew.ensures.wanted c.in_ok-renew.ensures.most c.in_ok-renew.ensures.none c.in_ok-enter_in_turn.ensures.makes
