use Rattle.std.proofs.Common.{refl, subst, IfOk}
use Rattle.turn_table.specs.Passes.{start_of, seen_by, room_of, was_told}
use Rattle.backend_core.specs.Looks.{held_look}
use Rattle.thread_run.specs.Turns.{IsUnderway}
use Rattle.thread_run.specs.Workers.{HasLooked, HoldsBack, HandsOver}
use Rattle.thread_run.proofs.Asking.{asked_id}
use Rattle.thread_run.proofs.Between.{may_hand_all, looked_on}
use Rattle.thread_run.proofs.Workers.{goes_then, all_seen, any_ok}
use Rattle.thread_run.proofs.worker.Worker.make_look.Goals as goal

pub take_turn-requires-clause-at : goal.take_turn-requires-clause-at
take_turn-requires-clause-at g c = c.look-worker.ensures.goes.at

pub take_turn-requires-clause-all : goal.take_turn-requires-clause-all
take_turn-requires-clause-all g c = let looked = c.look-worker.ensures.looked in let w = c.look-worker.result.0 in
    all_seen (start_of c.args.table.now).whole c.args.self.pass.number w.pass.number (room_of c.args.self.pass) (room_of w.pass) looked.number looked.room c.requires.all

pub take_turn-requires-clause-may : goal.take_turn-requires-clause-may
take_turn-requires-clause-may g c = let looked = c.look-worker.ensures.looked in let w = c.look-worker.result.0 in
    may_hand_all (start_of c.args.table.now).whole c.args.self.pass.number w.pass.number (seen_by c.args.self.pass) (seen_by w.pass) c.args.self.held.items w.held.items (held_look c.args.self.backend looked.some_wait) c.args.self.backend w.backend looked.some_wait (was_told w.pass)
    c.requires.between looked.number looked.told looked.seen looked.no looked.makes looked.held refl

pub returns-then-hands_over-clause-goes : goal.returns-then-hands_over-clause-goes
returns-then-hands_over-clause-goes g c = goes_then c.args.table.now c.args.self c.look-worker.result.0 c.take_turn.result.0 c.look-worker.ensures.goes c.take_turn.ensures.goes

pub returns-then-hands_over-clause-underway : goal.returns-then-hands_over-clause-underway
returns-then-hands_over-clause-underway g c = let now = c.take_turn.result.0 in
    subst (λ n. IfOk c.take_turn.result.1 (λ over. IsUnderway (start_of c.args.table.now).whole n (seen_by now.pass) now.held.items over now.backend)) c.look-worker.ensures.looked.number c.take_turn.ensures.underway

pub returns-then-hands_over-clause-looks : goal.returns-then-hands_over-clause-looks
returns-then-hands_over-clause-looks g c = HandsOver c.look-worker.result.0 (subst (HasLooked c.args.self c.look-worker.result.0) c.if-hands_over.true c.look-worker.ensures.looked) c.take_turn.ensures.takes c.take_turn.ensures.asked

pub returns-then-hands_over-clause-id : goal.returns-then-hands_over-clause-id
returns-then-hands_over-clause-id g c = asked_id c.args.self.pass.number c.look-worker.result.0.pass.number c.look-worker.result.0.backend c.take_turn.result.0.backend c.take_turn.result.1 c.look-worker.ensures.looked.number c.take_turn.ensures.asked

pub returns-clause-goes : goal.returns-clause-goes
returns-clause-goes g c = c.look-worker.ensures.goes

pub returns-clause-all : goal.returns-clause-all
returns-clause-all g c = let looked = c.look-worker.ensures.looked in let w = c.look-worker.result.0 in
    all_seen (start_of c.args.table.now).whole c.args.self.pass.number w.pass.number (room_of c.args.self.pass) (room_of w.pass) looked.number looked.room c.requires.all

pub returns-clause-underway : goal.returns-clause-underway
returns-clause-underway g c = let looked = c.look-worker.ensures.looked in let w = c.look-worker.result.0 in let kept = looked.keeps c.if-hands_over.false in
    looked_on (start_of c.args.table.now).whole c.args.self.pass.number (seen_by c.args.self.pass) (seen_by w.pass) c.args.self.held.items w.held.items (held_look c.args.self.backend looked.some_wait) c.args.self.backend w.backend looked.some_wait
    c.requires.between kept.0 looked.seen looked.no looked.makes looked.held refl kept.1

pub returns-clause-looks : goal.returns-clause-looks
returns-clause-looks g c = HoldsBack (subst (HasLooked c.args.self c.look-worker.result.0) c.if-hands_over.false c.look-worker.ensures.looked) refl

pub returns-clause-id : goal.returns-clause-id
returns-clause-id g c = c.look-worker.ensures.looked.stays.1

pub returns-then-hands_over-clause-all : goal.returns-then-hands_over-clause-all
returns-then-hands_over-clause-all g c = any_ok c.take_turn.result.1 c.take_turn.ensures.all
