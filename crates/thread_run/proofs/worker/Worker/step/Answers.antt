use Rattle.std.proofs.Common.{sym, subst, length}
use Rattle.turn_table.specs.Passes.{start_of, seen_by}
use Rattle.thread_run.specs.declared.refusal.RunRefusal.TheVariants as refusals
use Rattle.thread_run.specs.AskedBefore.{asked_so_far}
use Rattle.thread_run.specs.Stops.{StopsBy}
use Rattle.thread_run.specs.Turns.{MayHalt}
use Rattle.thread_run.specs.Workers.{HasAllAt}
use Rattle.thread_run.proofs.Asking.{some_none, gone_step, gone_asked, went_step, went_asked, went_some, went_stopped}
use Rattle.thread_run.proofs.Counted.{command_counted}
use Rattle.thread_run.proofs.Workers.{waits_alive, at_kept, goes_kept, goes_then, where_ok, was_refused, gone_between, stays_right, went_between, stopped_may}
use Rattle.thread_run.proofs.worker.Worker.step.Goals as goal

pub returns-in_default-clause-goes : goal.returns-in_default-clause-goes
returns-in_default-clause-goes g c = c.next-worker.ensures.goes

pub returns-in_default-clause-halted : goal.returns-in_default-clause-halted
returns-in_default-clause-halted g c = λ is. absurd (cc is)

pub returns-then-is_stopped-clause-goes : goal.returns-then-is_stopped-clause-goes
returns-then-is_stopped-clause-goes g c = c.next-worker.ensures.goes

pub returns-then-is_stopped-clause-all : goal.returns-then-is_stopped-clause-all
returns-then-is_stopped-clause-all g c = where_ok (HasAllAt c.args.table.now c.next-worker.result.0) c.next-worker.result.1 c.in-Ok.over c.in-Ok.is c.next-worker.ensures.all

pub returns-then-is_stopped-clause-between : goal.returns-then-is_stopped-clause-between
returns-then-is_stopped-clause-between g c = let worker = c.next-worker.result.0 in
    gone_between (start_of c.args.table.now).whole c.args.self.pass.number (seen_by worker.pass) worker.held.items worker.backend c.next-worker.result.1 c.in-Ok.over c.in-Ok.is c.next-worker.ensures.underway c.is_stopped.result c.is_stopped.ensures c.if-is_stopped.true

pub returns-then-is_stopped-clause-halted : goal.returns-then-is_stopped-clause-halted
returns-then-is_stopped-clause-halted g c = λ is. absurd (cc is)

pub go_on-requires-clause-right : goal.go_on-requires-clause-right
go_on-requires-clause-right g c κs within = let worker = c.next-worker.result.0 in
    stays_right (start_of c.args.table.now).whole c.args.self.pass.number (seen_by worker.pass) worker.held.items worker.backend c.next-worker.result.1 c.in-Ok.over c.in-Ok.is c.next-worker.ensures.underway c.is_stopped.result c.is_stopped.ensures c.if-is_stopped.false

pub halt-requires-clause-at : goal.halt-requires-clause-at
halt-requires-clause-at g c = at_kept c.args.table.now c.next-worker.result.0 c.go_on.new.backend c.next-worker.ensures.goes.at

pub halt-requires-clause-all : goal.halt-requires-clause-all
halt-requires-clause-all g c = where_ok (HasAllAt c.args.table.now c.next-worker.result.0) c.next-worker.result.1 c.in-Ok.over c.in-Ok.is c.next-worker.ensures.all

pub halt-requires-clause-may : goal.halt-requires-clause-may
halt-requires-clause-may g c = let worker = c.next-worker.result.0 in let at = c.go_on.new.backend in λ now halts.
    subst (λ n. MayHalt (start_of c.args.table.now).whole n (length at.lines) (seen_by worker.pass) worker.held.items now) (sym c.next-worker.ensures.goes.number)
    (stopped_may (start_of c.args.table.now).whole c.args.self.pass.number (seen_by worker.pass) worker.held.items worker.backend c.next-worker.result.1 c.in-Ok.over c.in-Ok.is c.next-worker.ensures.underway c.is_stopped.result c.is_stopped.ensures
    at c.if-is_stopped.false (c.go_on.ensures.command (was_refused c.go_on.result c.in-Err-Stopped.field-0 refusals.Stopped c.in-Err-Stopped.is c.in-Err-Stopped.field-0-is)) now halts)

pub returns-in-Ok-go_on-clause-goes : goal.returns-in-Ok-go_on-clause-goes
returns-in-Ok-go_on-clause-goes g c = goes_kept c.args.table.now c.args.self c.next-worker.result.0 c.go_on.new.backend c.next-worker.ensures.goes

pub returns-in-Ok-go_on-clause-all : goal.returns-in-Ok-go_on-clause-all
returns-in-Ok-go_on-clause-all g c = where_ok (HasAllAt c.args.table.now c.next-worker.result.0) c.next-worker.result.1 c.in-Ok.over c.in-Ok.is c.next-worker.ensures.all

pub returns-in-Ok-go_on-clause-between : goal.returns-in-Ok-go_on-clause-between
returns-in-Ok-go_on-clause-between g c = let worker = c.next-worker.result.0 in
    went_between (start_of c.args.table.now).whole c.args.self.pass.number (seen_by worker.pass) worker.held.items worker.backend c.next-worker.result.1 c.in-Ok.over c.in-Ok.is c.next-worker.ensures.underway c.is_stopped.result c.is_stopped.ensures
    c.go_on.new.backend c.if-is_stopped.false c.in-Ok-go_on.ensures.waits

pub returns-in-Ok-go_on-clause-halted : goal.returns-in-Ok-go_on-clause-halted
returns-in-Ok-go_on-clause-halted g c = λ is. absurd (cc is)

pub returns-in-Ok-go_on-clause-stops : goal.returns-in-Ok-go_on-clause-stops
returns-in-Ok-go_on-clause-stops g c = c.in-Ok-go_on.ensures.stops

pub returns-in-Err-NoMemory-clause-goes : goal.returns-in-Err-NoMemory-clause-goes
returns-in-Err-NoMemory-clause-goes g c = goes_kept c.args.table.now c.args.self c.next-worker.result.0 c.go_on.new.backend c.next-worker.ensures.goes

pub returns-in-Err-NoMemory-clause-halted : goal.returns-in-Err-NoMemory-clause-halted
returns-in-Err-NoMemory-clause-halted g c = λ is. absurd (cc is)

pub returns-in-Err-NoMemory-clause-stops : goal.returns-in-Err-NoMemory-clause-stops
returns-in-Err-NoMemory-clause-stops g c = let e = c.in-Err-NoMemory in
    subst (StopsBy (g.G.Gate.stops c.args.gate.now) (g.G.Gate.stops c.go_on.new.gate)) (was_refused c.go_on.result e.field-0 refusals.NoMemory e.is e.field-0-is) c.go_on.ensures.stops

pub returns-in-Err-Stopped-clause-goes : goal.returns-in-Err-Stopped-clause-goes
returns-in-Err-Stopped-clause-goes g c = let worker = c.next-worker.result.0 in
    goes_then c.args.table.now c.args.self (record worker { backend = c.go_on.new.backend }) c.halt.result (goes_kept c.args.table.now c.args.self worker c.go_on.new.backend c.next-worker.ensures.goes) c.halt.ensures.goes

pub returns-in-Err-Stopped-clause-halted : goal.returns-in-Err-Stopped-clause-halted
returns-in-Err-Stopped-clause-halted g c = λ is well. c.halt.ensures.left well

pub returns-in-Err-Stopped-clause-stops : goal.returns-in-Err-Stopped-clause-stops
returns-in-Err-Stopped-clause-stops g c = let e = c.in-Err-Stopped in
    subst (StopsBy (g.G.Gate.stops c.args.gate.now) (g.G.Gate.stops c.go_on.new.gate)) (was_refused c.go_on.result e.field-0 refusals.Stopped e.is e.field-0-is) c.go_on.ensures.stops

pub returns-in_default-clause-some : goal.returns-in_default-clause-some
returns-in_default-clause-some g c = some_none c.args.self.pass.number (asked_so_far c.args.self.backend) (g.G.Gate.asked c.args.gate.now)

pub returns-in_default-clause-stopped : goal.returns-in_default-clause-stopped
returns-in_default-clause-stopped g c = λ is. absurd (cc is)

pub returns-then-is_stopped-clause-steps : goal.returns-then-is_stopped-clause-steps
returns-then-is_stopped-clause-steps g c = gone_step c.args.self c.next-worker.result.0 c.in-Ok.over c.next-worker.result.1 c.in-Ok.is c.next-worker.ensures.does c.next-worker.ensures.id c.is_stopped.result c.is_stopped.ensures

pub returns-then-is_stopped-clause-asked : goal.returns-then-is_stopped-clause-asked
returns-then-is_stopped-clause-asked g c = gone_asked c.args.self c.next-worker.result.0 c.in-Ok.over c.next-worker.result.1 c.in-Ok.is c.next-worker.ensures.does c.next-worker.ensures.id c.is_stopped.result c.is_stopped.ensures (g.G.Gate.asked c.args.gate.now) c.if-is_stopped.true

pub returns-then-is_stopped-clause-some : goal.returns-then-is_stopped-clause-some
returns-then-is_stopped-clause-some g c = some_none c.args.self.pass.number (asked_so_far c.args.self.backend) (g.G.Gate.asked c.args.gate.now)

pub returns-then-is_stopped-clause-stopped : goal.returns-then-is_stopped-clause-stopped
returns-then-is_stopped-clause-stopped g c = λ is. absurd (cc is)

pub returns-in-Ok-go_on-clause-steps : goal.returns-in-Ok-go_on-clause-steps
returns-in-Ok-go_on-clause-steps g c = let worker = c.next-worker.result.0 in
    let alive = waits_alive worker.backend c.go_on.new.backend (stays_right (start_of c.args.table.now).whole c.args.self.pass.number (seen_by worker.pass) worker.held.items worker.backend c.next-worker.result.1 c.in-Ok.over c.in-Ok.is c.next-worker.ensures.underway c.is_stopped.result c.is_stopped.ensures c.if-is_stopped.false) c.in-Ok-go_on.ensures.waits in
    went_step c.args.self c.next-worker.result.0 c.in-Ok.over c.next-worker.result.1 c.in-Ok.is c.next-worker.ensures.does c.next-worker.ensures.id c.is_stopped.result c.is_stopped.ensures c.go_on.new.backend alive

pub returns-in-Ok-go_on-clause-asked : goal.returns-in-Ok-go_on-clause-asked
returns-in-Ok-go_on-clause-asked g c = let worker = c.next-worker.result.0 in
    let alive = waits_alive worker.backend c.go_on.new.backend (stays_right (start_of c.args.table.now).whole c.args.self.pass.number (seen_by worker.pass) worker.held.items worker.backend c.next-worker.result.1 c.in-Ok.over c.in-Ok.is c.next-worker.ensures.underway c.is_stopped.result c.is_stopped.ensures c.if-is_stopped.false) c.in-Ok-go_on.ensures.waits in
    went_asked c.args.self c.next-worker.result.0 c.in-Ok.over c.next-worker.result.1 c.in-Ok.is c.next-worker.ensures.does c.next-worker.ensures.id c.is_stopped.result c.is_stopped.ensures c.go_on.new.backend (g.G.Gate.asked c.args.gate.now) (g.G.Gate.asked c.go_on.new.gate) c.if-is_stopped.false alive c.in-Ok-go_on.ensures.asks

pub returns-in-Ok-go_on-clause-some : goal.returns-in-Ok-go_on-clause-some
returns-in-Ok-go_on-clause-some g c = went_some c.args.self c.next-worker.result.0 c.in-Ok.over c.next-worker.result.1 c.in-Ok.is c.next-worker.ensures.does c.next-worker.ensures.id c.is_stopped.result c.is_stopped.ensures (g.G.Gate.asked c.args.gate.now) (g.G.Gate.asked c.go_on.new.gate) c.if-is_stopped.false c.go_on.ensures.some

pub returns-in-Ok-go_on-clause-stopped : goal.returns-in-Ok-go_on-clause-stopped
returns-in-Ok-go_on-clause-stopped g c = λ is. absurd (cc is)

pub returns-in-Err-NoMemory-clause-some : goal.returns-in-Err-NoMemory-clause-some
returns-in-Err-NoMemory-clause-some g c = went_some c.args.self c.next-worker.result.0 c.in-Ok.over c.next-worker.result.1 c.in-Ok.is c.next-worker.ensures.does c.next-worker.ensures.id c.is_stopped.result c.is_stopped.ensures (g.G.Gate.asked c.args.gate.now) (g.G.Gate.asked c.go_on.new.gate) c.if-is_stopped.false c.go_on.ensures.some

pub returns-in-Err-NoMemory-clause-stopped : goal.returns-in-Err-NoMemory-clause-stopped
returns-in-Err-NoMemory-clause-stopped g c = λ is. absurd (cc is)

pub returns-in-Err-Stopped-clause-some : goal.returns-in-Err-Stopped-clause-some
returns-in-Err-Stopped-clause-some g c = went_some c.args.self c.next-worker.result.0 c.in-Ok.over c.next-worker.result.1 c.in-Ok.is c.next-worker.ensures.does c.next-worker.ensures.id c.is_stopped.result c.is_stopped.ensures (g.G.Gate.asked c.args.gate.now) (g.G.Gate.asked c.go_on.new.gate) c.if-is_stopped.false c.go_on.ensures.some

pub returns-in-Err-Stopped-clause-stopped : goal.returns-in-Err-Stopped-clause-stopped
returns-in-Err-Stopped-clause-stopped g c = let worker = c.next-worker.result.0 in let at = c.go_on.new.backend in let e = c.in-Err-Stopped in let was = was_refused c.go_on.result e.field-0 refusals.Stopped e.is e.field-0-is in
    let counted = command_counted c.in-Ok.over worker.backend at (stays_right (start_of c.args.table.now).whole c.args.self.pass.number (seen_by worker.pass) worker.held.items worker.backend c.next-worker.result.1 c.in-Ok.over c.in-Ok.is c.next-worker.ensures.underway c.is_stopped.result c.is_stopped.ensures c.if-is_stopped.false) (c.go_on.ensures.command was) in
    λ is. went_stopped c.args.self c.next-worker.result.0 c.in-Ok.over c.next-worker.result.1 c.in-Ok.is c.next-worker.ensures.does c.next-worker.ensures.id c.is_stopped.result c.is_stopped.ensures g.G.Gate.stops g.G.Gate.asked at c.halt.result c.args.gate.now c.go_on.new.gate c.if-is_stopped.false counted (c.go_on.ensures.stopped was) c.halt.ensures.most
