use Rattle.std.proofs.Common.{◌∙◌, refl, sym, subst, length}
use Rattle.ddl_effect.specs.Commands.{commands_of}
use Rattle.turn_table.specs.Passes.{start_of, seen_by}
use Rattle.thread_run.specs.Asks.{AsksTo}
use Rattle.thread_run.specs.AskedBefore.{asked_so_far}
use Rattle.thread_run.specs.Turns.{IsBetween}
use Rattle.thread_run.specs.Workers.{HasAllAt}
use Rattle.thread_run.proofs.Asking.{asks_none, asks_then, asks_on, asks_as, some_as, stopped_on, new_far, ended_far, not_well}
use Rattle.thread_run.proofs.Between.{between_new, between_ended}
use Rattle.thread_run.proofs.Workers.{goes_nowhere, goes_then, stops_then, stops_ok, not_ok, where_ok, between_ok}
use Rattle.thread_run.proofs.worker.Worker.work.Goals as goal

pub working-init : goal.working-init
working-init g c = let new = c.requires.new in record {
  goes = goes_nowhere c.args.table.now c.args.self c.requires.at;
  all = new.all;
  between = between_new (start_of c.args.table.now).whole c.args.self.pass.number (seen_by c.args.self.pass) c.args.self.held.items c.args.self.backend new.id new.held new.run new.short new.stands;
  steady = refl;
  asked = asks_none c.args.self.pass.number 0 (asked_so_far c.args.self.backend) (g.G.Gate.asked c.args.gate.now) (new_far c.args.self.backend new.new);
}

pub returns-then-is_stopped-clause-goes : goal.returns-then-is_stopped-clause-goes
returns-then-is_stopped-clause-goes g c = c.working.invariant.goes

pub returns-then-is_stopped-clause-ended : goal.returns-then-is_stopped-clause-ended
returns-then-is_stopped-clause-ended g c = (between_ended (start_of c.args.table.now).whole c.args.self.pass.number (seen_by c.working.worker.pass) c.working.worker.held.items c.working.worker.backend c.working.invariant.between (sym c.is_stopped.ensures ∙ c.if-is_stopped.true), c.working.invariant.all)

pub returns-then-is_stopped-clause-stops : goal.returns-then-is_stopped-clause-stops
returns-then-is_stopped-clause-stops g c = c.working.invariant.steady

pub step-next-requires-clause-at : goal.step-next-requires-clause-at
step-next-requires-clause-at g c κs within = c.working.invariant.goes.at

pub step-next-requires-clause-all : goal.step-next-requires-clause-all
step-next-requires-clause-all g c κs within = c.working.invariant.all

pub step-next-requires-clause-between : goal.step-next-requires-clause-between
step-next-requires-clause-between g c κs within = let worker = c.working.worker in
    subst (λ n. IsBetween (start_of c.args.table.now).whole n (seen_by worker.pass) worker.held.items worker.backend) (sym c.working.invariant.goes.number) c.working.invariant.between

pub working-preserved : goal.working-preserved
working-preserved g c = let i = c.working.invariant in let next = c.step-next.result.0 in let stops = g.G.Gate.stops in record {
  goes = goes_then c.args.table.now c.args.self c.working.worker next i.goes c.step-next.ensures.goes;
  all = where_ok (HasAllAt c.args.table.now next) c.step-next.result.1 c.in-Ok.field-0 c.in-Ok.is c.step-next.ensures.all;
  between = between_ok (start_of c.args.table.now).whole c.working.worker.pass.number c.args.self.pass.number (seen_by next.pass) next.held.items next.backend c.step-next.result.1 c.in-Ok.field-0 i.goes.number c.in-Ok.is c.step-next.ensures.between;
  steady = stops_ok (stops c.working.gate) (stops c.step-next.new.gate) c.step-next.result.1 c.in-Ok.field-0 c.in-Ok.is c.step-next.ensures.stops ∙ i.steady;
  asked = asks_then c.args.self.pass.number 0 (asked_so_far c.working.worker.backend) (asked_so_far next.backend) (g.G.Gate.asked c.args.gate.now) (g.G.Gate.asked c.working.gate) (g.G.Gate.asked c.step-next.new.gate) i.asked
      (asks_as c.working.worker.pass.number c.args.self.pass.number (asked_so_far c.working.worker.backend) (asked_so_far c.working.worker.backend) (asked_so_far next.backend) (asked_so_far next.backend) (g.G.Gate.asked c.working.gate) (g.G.Gate.asked c.step-next.new.gate) i.goes.number refl refl
      (where_ok (AsksTo c.working.worker.pass.number (asked_so_far c.working.worker.backend) (asked_so_far next.backend) (g.G.Gate.asked c.working.gate) (g.G.Gate.asked c.step-next.new.gate)) c.step-next.result.1 c.in-Ok.field-0 c.in-Ok.is c.step-next.ensures.asked));
}

pub returns-in_default-clause-goes : goal.returns-in_default-clause-goes
returns-in_default-clause-goes g c = goes_then c.args.table.now c.args.self c.working.worker c.step-next.result.0 c.working.invariant.goes c.step-next.ensures.goes

pub returns-in_default-clause-ended : goal.returns-in_default-clause-ended
returns-in_default-clause-ended g c = not_ok _ c.step-next.result.1 c.in_default.not-Ok

pub returns-in_default-clause-stops : goal.returns-in_default-clause-stops
returns-in_default-clause-stops g c = let stops = g.G.Gate.stops in
    stops_then (stops c.args.gate.now) (stops c.working.gate) (stops c.step-next.new.gate) c.step-next.result.1 c.working.invariant.steady c.step-next.ensures.stops

pub returns-then-is_stopped-clause-asked : goal.returns-then-is_stopped-clause-asked
returns-then-is_stopped-clause-asked g c = let worker = c.working.worker in
    let ended = between_ended (start_of c.args.table.now).whole c.args.self.pass.number (seen_by worker.pass) worker.held.items worker.backend c.working.invariant.between (sym c.is_stopped.ensures ∙ c.if-is_stopped.true) in
    subst (λ n. AsksTo c.args.self.pass.number 0 n (g.G.Gate.asked c.args.gate.now) (g.G.Gate.asked c.working.gate)) (ended_far (start_of c.args.table.now).whole c.args.self.pass.number (seen_by worker.pass) worker.backend ended) c.working.invariant.asked

pub returns-then-is_stopped-clause-stopped : goal.returns-then-is_stopped-clause-stopped
returns-then-is_stopped-clause-stopped g c = λ is. absurd (cc is)

pub returns-in_default-clause-asked : goal.returns-in_default-clause-asked
returns-in_default-clause-asked g c = let far = asked_so_far c.working.worker.backend in
    not_well c.step-next.result.1 c.args.self.pass.number (length (commands_of (start_of c.args.table.now).whole c.args.self.pass.number)) (g.G.Gate.asked c.args.gate.now) (g.G.Gate.asked c.step-next.new.gate) c.in_default.not-Ok
    (asks_on c.args.self.pass.number 0 far (g.G.Gate.asked c.args.gate.now) (g.G.Gate.asked c.working.gate) (g.G.Gate.asked c.step-next.new.gate) c.working.invariant.asked (some_as c.working.worker.pass.number c.args.self.pass.number far far (g.G.Gate.asked c.working.gate) (g.G.Gate.asked c.step-next.new.gate) c.working.invariant.goes.number refl c.step-next.ensures.some))

pub returns-in_default-clause-stopped : goal.returns-in_default-clause-stopped
returns-in_default-clause-stopped g c = λ is. stopped_on g.G.Gate.stops g.G.Gate.asked c.args.self.pass.number c.working.worker.pass.number 0 (asked_so_far c.working.worker.backend) c.args.gate.now c.working.gate c.step-next.new.gate c.step-next.result.0
    c.working.invariant.goes.number c.working.invariant.steady c.working.invariant.asked (c.step-next.ensures.stopped is)
