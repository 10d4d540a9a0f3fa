use Rattle.std.proofs.Common.{◌≡◌, refl, sym, ap, subst, arith, MatchOption, OnOk}
use Rattle.turn_table.proofs.Gathering.{no_items}
use Rattle.thread_run.specs.Seats.{AllPairs, HasDone, HasWorked, WorkEnded, number_in, number_of, first_end, end_of}
use Rattle.thread_run.proofs.Lists.{all_taken, one_back, item_back, nothing_left}
use Rattle.thread_run.proofs.Stopping.{ends_so_far, ends_all, done_put}
use Rattle.thread_run.proofs.Seating.{done_at}
use Rattle.thread_run.proofs.seats.unseat_all.Goals as goal

pub loop-seat-preserved : goal.loop-seat-preserved
loop-seat-preserved g c =
    let i = c.loop-seat.invariant in
    let table = c.args.table.now in
    let s = c.in-Some.ensures in let seat = c.in-Some.seat in let worker = c.in-Some-worker.worker in
    let e = c.push_reserved.ensures in let p = c.push_reserved-in-Some.ensures in let b = c.push_reserved-in-Some-2.ensures in
    let worked = all_taken (HasWorked table) c.loop-seat.seats.items c.pop.new.self.items seat s.items i.worked in
    let here = subst (λ o. MatchOption o ⊥ (WorkEnded table seat.end)) c.in-Some-worker.is worked.1 in
    record {
      worked = worked.0;
      ended = subst (λ x. first_end x (end_of c.pop.new.self.items) ≡ end_of c.args.seats.now.items) (sym c.sooner-ended.ensures)
          (ends_so_far c.args.seats.now.items c.loop-seat.seats.items c.pop.new.self.items seat c.loop-seat.ended s.items i.ended);
      done = subst (λ x. OnOk x (AllPairs (HasDone table) c.push_reserved-in-Some.new.self.items c.push_reserved-in-Some-2.new.self.items)) (sym c.sooner-ended.ensures)
          (done_put (HasDone table) c.loop-seat.passes.items c.push_reserved-in-Some.new.self.items c.loop-seat.backends.items c.push_reserved-in-Some-2.new.self.items worker.pass worker.backend c.loop-seat.ended seat.end p.items b.items i.done (done_at table worker seat.end here));
      passes = omega arith;
      backends = omega arith;
      gates = omega arith;
      numbers_are = one_back (λ p. p.number) number_of c.loop-seat.passes.items c.push_reserved-in-Some.new.self.items c.loop-seat.seats.items c.pop.new.self.items worker.pass seat _ p.items s.items (sym (ap number_in c.in-Some-worker.is)) i.numbers_are;
      gates_are = item_back (λ s. s.gate) c.loop-seat.gates.items c.push_reserved.new.self.items c.loop-seat.seats.items c.pop.new.self.items seat.gate seat _ e.items s.items refl i.gates_are;
    }

pub unreachable-requires : goal.unreachable-requires
unreachable-requires g c =
    let table = c.args.table.now in
    subst (λ o. MatchOption o ⊥ (WorkEnded table c.in-Some.seat.end)) c.in_default-worker.is (all_taken (HasWorked table) c.loop-seat.seats.items c.pop.new.self.items c.in-Some.seat c.in-Some.ensures.items c.loop-seat.invariant.worked).1

pub returns-clause-end : goal.returns-clause-end
returns-clause-end g c = let seats = c.loop-seat.seats in
    ends_all c.args.seats.now.items seats.items c.loop-seat.ended (no_items seats.items _ seats.ok.0 c.in_default.ensures.cases.0) c.loop-seat.invariant.ended

pub returns-clause-numbers : goal.returns-clause-numbers
returns-clause-numbers g c = let seats = c.loop-seat.seats in
    nothing_left number_of _ _ seats.items (no_items seats.items _ seats.ok.0 c.in_default.ensures.cases.0) c.loop-seat.invariant.numbers_are

pub returns-clause-gates : goal.returns-clause-gates
returns-clause-gates g c = let seats = c.loop-seat.seats in
    nothing_left (λ s. s.gate) _ _ seats.items (no_items seats.items _ seats.ok.0 c.in_default.ensures.cases.0) c.loop-seat.invariant.gates_are
