use Rattle.std.proofs.Common.{◌∙◌, ◌+◌, ◌++◌, sym, ap, subst, length}
use Rattle.std.proofs.lemmas.Bool.{both_ways}
use Rattle.backend_core.specs.Agrees.{AgreesNow, Stands}
use Rattle.backend_core.specs.Looks.{entries_of}
use Rattle.backend_core.specs.Words.{has_joined}
use Rattle.backend_core.specs.Places.{PromisesOnly, Always}
use Rattle.backend_core.proofs.PlacesWanted.{only_then}
use Rattle.thread_run.specs.Turns.{right_before, EntersInTurn}
use Rattle.thread_run.proofs.Played.{looks_long, full_more, none_over, grew_not, grew_then, plays_same, plays_looks, handed_turn, handed_right, backend_still, enters_more, comes_taken, comes_number, comes_first}
use Rattle.thread_run.proofs.turn_work.work_in_turn.Goals as goal

pub hand_over-requires-clause-id : goal.hand_over-requires-clause-id
hand_over-requires-clause-id g c = c.requires.holds.id

pub hand_over-requires-clause-calls : goal.hand_over-requires-clause-calls
hand_over-requires-clause-calls g c = c.requires.holds.calls

pub returns-in_err-hand_over-clause-run : goal.returns-in_err-hand_over-clause-run
returns-in_err-hand_over-clause-run g c = (plays_same {b = c.args.b} c.in_err-hand_over.ensures.script c.in_err-hand_over.ensures.refused c.requires.run c.in_err-hand_over.ensures.others (Always c.hand_over.ensures.most)).run

pub returns-in_err-hand_over-clause-grew : goal.returns-in_err-hand_over-clause-grew
returns-in_err-hand_over-clause-grew g c = grew_not c.args.b (g.L.Seg.history c.args.seg.now) (g.L.Seg.history c.hand_over.new.seg) c.in_err-hand_over.ensures.refused

pub returns-then-not-enters-clause-run : goal.returns-then-not-enters-clause-run
returns-then-not-enters-clause-run g c = (plays_looks {b = c.args.b} c.args.looks.now c.in_ok-hand_over.ensures.script c.in_ok-hand_over.ensures.hands c.requires.run c.requires.holds.played c.in_ok-hand_over.ensures.others c.hand_over.ensures.most).run

pub returns-then-not-enters-clause-grew : goal.returns-then-not-enters-clause-grew
returns-then-not-enters-clause-grew g c = (plays_looks {b = c.args.b} c.args.looks.now c.in_ok-hand_over.ensures.script c.in_ok-hand_over.ensures.hands c.requires.run c.requires.holds.played c.in_ok-hand_over.ensures.others c.hand_over.ensures.most).grew

pub returns-then-not-enters-clause-enters : goal.returns-then-not-enters-clause-enters
returns-then-not-enters-clause-enters g c = subst (λ e. EntersInTurn e c.args.b c.args.looks.now (g.L.Seg.history c.args.seg.now) (g.L.Seg.history c.hand_over.new.seg)) (sym c.if-not-enters.true) c.in_ok-hand_over.ensures.hands

pub returns-then-not-enters-clause-works : goal.returns-then-not-enters-clause-works
returns-then-not-enters-clause-works g c =
    let seg = c.hand_over.new.seg in let hands = c.in_ok-hand_over.ensures in
    let right = subst (λ e. right_before e (g.L.Seg.script c.args.seg.now) (g.L.Seg.history c.args.seg.now ++ entries_of c.args.b c.args.looks.now) c.args.backend.now) c.if-not-enters.true c.requires.holds.right in
    handed_turn (g.L.Seg.promised seg) c.requires.holds.id (plays_looks {b = c.args.b} c.args.looks.now hands.script hands.hands c.requires.run c.requires.holds.played c.in_ok-hand_over.ensures.others c.hand_over.ensures.most).run (g.met.L.Seg.short seg) (backend_still hands.script c.requires.backend) hands.room
    (handed_right AgreesNow c.args.b (g.L.Seg.history c.args.seg.now) c.args.looks.now hands.script hands.hands right)

pub returns-then-not-enters-clause-number : goal.returns-then-not-enters-clause-number
returns-then-not-enters-clause-number g c = λ joined. none_over c.args.backend.now.progress.finished

pub returns-then-not-enters-clause-first : goal.returns-then-not-enters-clause-first
returns-then-not-enters-clause-first g c =
    let right = subst (λ e. right_before e (g.L.Seg.script c.args.seg.now) (g.L.Seg.history c.args.seg.now ++ entries_of c.args.b c.args.looks.now) c.args.backend.now) c.if-not-enters.true c.requires.holds.right in
    λ starts. absurd (both_ways _ starts (ap has_joined right.keeps.alive))

pub enter_all-requires : goal.enter_all-requires
enter_all-requires g c =
    let hands = c.in_ok-hand_over.ensures in
    let right = subst (λ e. right_before e (g.L.Seg.script c.args.seg.now) (g.L.Seg.history c.args.seg.now ++ entries_of c.args.b c.args.looks.now) c.args.backend.now) c.if-not-enters.false c.requires.holds.right in
    record {
      may = record {
        backend = backend_still hands.script c.requires.backend;
        id = c.requires.holds.id;
        run = (plays_looks {b = c.args.b} c.args.looks.now hands.script hands.hands c.requires.run c.requires.holds.played c.in_ok-hand_over.ensures.others c.hand_over.ensures.most).run;
        stands = handed_right Stands c.args.b (g.L.Seg.history c.args.seg.now) c.args.looks.now hands.script hands.hands right;
        alive = c.requires.alive c.if-not-enters.false;
      };
    }

pub returns-clause-script : goal.returns-clause-script
returns-clause-script g c = c.enter_all.ensures.plays.script ∙ c.in_ok-hand_over.ensures.script

pub returns-clause-run : goal.returns-clause-run
returns-clause-run g c = c.enter_all.ensures.plays.run

pub returns-clause-grew : goal.returns-clause-grew
returns-clause-grew g c = grew_then c.args.b (g.L.Seg.history c.args.seg.now) (g.L.Seg.history c.hand_over.new.seg) (g.L.Seg.history c.enter_all.new.seg)
    (plays_looks {b = c.args.b} c.args.looks.now c.in_ok-hand_over.ensures.script c.in_ok-hand_over.ensures.hands c.requires.run c.requires.holds.played c.in_ok-hand_over.ensures.others c.hand_over.ensures.most).grew c.enter_all.ensures.plays.grew

pub returns-clause-others : goal.returns-clause-others
returns-clause-others g c = λ a apart. c.enter_all.ensures.plays.others a apart ∙ c.in_ok-hand_over.ensures.others a apart

pub returns-clause-enters : goal.returns-clause-enters
returns-clause-enters g c = enters_more c.args.b (g.L.Seg.history c.args.seg.now) (g.L.Seg.history c.enter_all.new.seg) c.args.looks.now c.enter_all.result c.if-not-enters.false c.in_ok-hand_over.ensures.hands c.enter_all.ensures.more

pub returns-clause-works : goal.returns-clause-works
returns-clause-works g c = comes_taken (g.L.Seg.script c.enter_all.new.seg) c.args.b (g.L.Seg.history c.enter_all.new.seg) c.args.backend.now c.enter_all.new.backend c.enter_all.result c.enter_all.ensures.comes

pub returns-clause-number : goal.returns-clause-number
returns-clause-number g c = comes_number (g.L.Seg.script c.enter_all.new.seg) c.args.b (g.L.Seg.history c.enter_all.new.seg) c.args.backend.now c.enter_all.new.backend c.enter_all.result c.enter_all.ensures.comes

pub returns-clause-first : goal.returns-clause-first
returns-clause-first g c = comes_first (g.L.Seg.script c.enter_all.new.seg) c.args.b (g.L.Seg.history c.enter_all.new.seg) c.args.backend.now c.enter_all.new.backend c.enter_all.result c.enter_all.ensures.comes

pub returns-in_err-hand_over-clause-own : goal.returns-in_err-hand_over-clause-own
returns-in_err-hand_over-clause-own g c = Always c.hand_over.ensures.most

pub returns-then-not-enters-clause-own : goal.returns-then-not-enters-clause-own
returns-then-not-enters-clause-own g c = Always c.hand_over.ensures.most

pub returns-clause-own : goal.returns-clause-own
returns-clause-own g c = only_then (entries_of c.args.b c.args.looks.now) c.enter_all.ensures.plays.grew.rest c.in_ok-hand_over.ensures.hands c.enter_all.ensures.plays.grew.grows (Always c.hand_over.ensures.most)
    (subst (λ k. PromisesOnly k c.args.b (g.L.Seg.history c.hand_over.new.seg) (g.L.Seg.history c.enter_all.new.seg) (g.L.Seg.promised c.hand_over.new.seg c.args.b) (g.L.Seg.promised c.enter_all.new.seg c.args.b)) c.in_ok-hand_over.ensures.script c.enter_all.ensures.plays.own)

pub returns-then-not-enters-clause-full : goal.returns-then-not-enters-clause-full
returns-then-not-enters-clause-full g c = λ enters. absurd (both_ways _ c.if-not-enters.true enters)

pub returns-clause-full : goal.returns-clause-full
returns-clause-full g c = λ enters. full_more c.enter_all.new.backend (length c.args.looks.now) (1 + c.args.most) (g.L.Seg.history c.args.seg.now) (g.L.Seg.history c.hand_over.new.seg) (g.L.Seg.history c.enter_all.new.seg) c.enter_all.result
    (looks_long c.args.b (g.L.Seg.history c.args.seg.now) (g.L.Seg.history c.hand_over.new.seg) c.args.looks.now c.in_ok-hand_over.ensures.hands) c.enter_all.ensures.full

pub returns-in_err-hand_over-clause-none : goal.returns-in_err-hand_over-clause-none
returns-in_err-hand_over-clause-none g c = λ enters. c.hand_over.ensures.none

pub returns-then-not-enters-clause-none : goal.returns-then-not-enters-clause-none
returns-then-not-enters-clause-none g c = λ enters. c.hand_over.ensures.none

pub returns-clause-none : goal.returns-clause-none
returns-clause-none g c = λ enters. absurd (both_ways _ enters c.if-not-enters.false)
