use Rattle.std.proofs.Common.{refl, sym, ap, subst, arith}
use Rattle.thread_run.specs.Seats.{MaySit, IsSeated, number_of}
use Rattle.thread_run.proofs.Lists.{pairs_taken, all_put, one_over, item_over}
use Rattle.thread_run.proofs.Seating.{sits}
use Rattle.thread_run.proofs.seats.seat_all.Goals as goal

pub loop-pass-preserved : goal.loop-pass-preserved
loop-pass-preserved g c =
    let i = c.loop-pass.invariant in
    let table = c.args.table.now in
    let p = c.in-Some.ensures in let b = c.in-Some-pop.ensures in let e = c.in-Some-pop-2.ensures in let s = c.push_reserved.ensures in
    let worker = c.new.result in let new = c.new.ensures in
    let pairs = pairs_taken (MaySit table) c.loop-pass.passes.items c.pop.new.self.items c.loop-pass.backends.items c.pop-in-Some.new.self.items c.in-Some.pass c.in-Some-pop.backend p.items b.items i.may in
    record {
      may = pairs.0;
      as_many = omega arith;
      enough = omega arith;
      seated = all_put (IsSeated table) c.push_reserved.new.self.items c.loop-pass.seats.items _ s.items i.seated
          (sits table worker new.2 (subst (λ x. MaySit table worker.pass x) (sym new.1) (subst (λ x. MaySit table x c.in-Some-pop.backend) (sym new.0) pairs.1)));
      count = omega arith;
      spare = omega arith;
      passes = omega arith;
      backends = omega arith;
      gates = omega arith;
      numbers_are = one_over (λ p. p.number) number_of c.loop-pass.passes.items c.pop.new.self.items c.loop-pass.seats.items c.push_reserved.new.self.items c.in-Some.pass _ _ p.items s.items (sym (ap (λ x. x.number) new.0)) i.numbers_are;
      gates_are = item_over (λ s. s.gate) c.loop-pass.gates.items c.pop-in-Some-2.new.self.items c.loop-pass.seats.items c.push_reserved.new.self.items c.in-Some-pop-2.gate _ _ e.items s.items refl i.gates_are;
    }
