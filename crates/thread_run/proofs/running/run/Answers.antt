use lib.ListN.{length-map}
use Rattle.std.proofs.Common.{◌∙◌, map, sym, ap, arith, Result, Ok}
use Rattle.std.proofs.lemmas.List.FromFn.{length-range_with_len}
use Rattle.std.specs.List.{range_with_len}
use Rattle.std.proofs.lemmas.Result.{IfOk-from_err}
use Rattle.script_backends.specs.Sessions.{transcripts_of}
use Rattle.turn_table.specs.Passes.{start_of}
use Rattle.thread_run.specs.declared.refusal.RunRefusal.{RunRefusal}
use Rattle.thread_run.specs.declared.refusal.RunRefusal.TheVariants as refusals
use Rattle.thread_run.specs.declared.running.Ran.{Ran}
use Rattle.thread_run.proofs.Asking.{each_none, each_some, each_done, refused_each, run_asked}
use Rattle.thread_run.proofs.Ends.{all_of, all_seats, all_ended, run_is, run_sessions, run_stands, run_coherent}
use Rattle.thread_run.proofs.Stopping.{none_fell_same, refused_so}
use Rattle.thread_run.proofs.running.run.Goals as goal

pub returns-in_default-clause-kept : goal.returns-in_default-clause-kept
returns-in_default-clause-kept g c = none_fell_same (map g.G.Gate.stops c.args.gates.now.items)

pub run_backends-requires-clause-may : goal.run_backends-requires-clause-may
run_backends-requires-clause-may g c κs within = c.in-Ok.ensures.may

pub run_backends-requires-clause-some : goal.run_backends-requires-clause-some
run_backends-requires-clause-some g c κs within = let some = c.in-Ok.ensures.some in let len = c.in-Ok.passes.ok.0 in omega (arith, some, len)

pub run_backends-requires-clause-counts : goal.run_backends-requires-clause-counts
run_backends-requires-clause-counts g c κs within =
    let count = c.in-Ok.ensures.count in let as_many = c.in-Ok.ensures.as_many in let gates = c.requires.gates in
    let passes = c.in-Ok.passes.ok.0 in let backends = c.in-Ok.backends.ok.0 in let held = c.args.gates.now.ok.0 in
    (omega (arith, count, as_many, passes, backends), omega (arith, count, passes, held, gates))

pub returns-in_err-run_backends-clause-kept : goal.returns-in_err-run_backends-clause-kept
returns-in_err-run_backends-clause-kept g c = c.run_backends.ensures.stops.kept

pub returns-in_err-run_backends-clause-steady : goal.returns-in_err-run_backends-clause-steady
returns-in_err-run_backends-clause-steady g c = IfOk-from_err c.from_residual.result _ c.from_residual.ensures.0

pub returns-in_err-run_backends-clause-cause : goal.returns-in_err-run_backends-clause-cause
returns-in_err-run_backends-clause-cause g c = let stops = g.G.Gate.stops in
    refused_so (map stops c.args.gates.now.items) (map stops c.run_backends.new.gates.items) c.in_err-run_backends.field-0.0 c.from_residual.result c.in_err-run_backends.ensures.stops c.from_residual.ensures.1

pub returns-in_err-run_backends-clause-run : goal.returns-in_err-run_backends-clause-run
returns-in_err-run_backends-clause-run g c = IfOk-from_err c.from_residual.result _ c.from_residual.ensures.0

pub returns-in_err-run_backends-clause-sessions : goal.returns-in_err-run_backends-clause-sessions
returns-in_err-run_backends-clause-sessions g c = IfOk-from_err c.from_residual.result _ c.from_residual.ensures.0

pub returns-in_err-run_backends-clause-stand : goal.returns-in_err-run_backends-clause-stand
returns-in_err-run_backends-clause-stand g c = IfOk-from_err c.from_residual.result _ c.from_residual.ensures.0

pub returns-in_err-run_backends-clause-coherent : goal.returns-in_err-run_backends-clause-coherent
returns-in_err-run_backends-clause-coherent g c = IfOk-from_err c.from_residual.result _ c.from_residual.ensures.0

pub finish-requires-clause-of : goal.finish-requires-clause-of
finish-requires-clause-of g c = all_of c.in-Ok.table c.run_backends.new.passes.items c.run_backends.new.backends.items c.in_ok-run_backends.ensures.done

pub finish-requires-clause-all : goal.finish-requires-clause-all
finish-requires-clause-all g c = λ k low high. all_seats _ _ _ _ k c.in_ok-run_backends.ensures.numbers c.in-Ok.ensures.numbers c.in-Ok.ensures.seats low high

pub returns-in_default-all_lines-clause-kept : goal.returns-in_default-all_lines-clause-kept
returns-in_default-all_lines-clause-kept g c = c.run_backends.ensures.stops.kept

pub returns-clause-kept : goal.returns-clause-kept
returns-clause-kept g c = c.run_backends.ensures.stops.kept

pub returns-clause-steady : goal.returns-clause-steady
returns-clause-steady g c = c.in_ok-run_backends.ensures.stops.steady

pub returns-clause-run : goal.returns-clause-run
returns-clause-run g c =
    let ended = all_ended c.args.script.now c.in-Ok.table c.in-Ok.passes.items c.run_backends.new.passes.items c.in-Ok.backends.items c.run_backends.new.backends.items c.from_vec-3.result c.finish.result c.from_vec.result
    c.in-Ok.ensures c.in_ok-run_backends.ensures.done c.in_ok-run_backends.ensures.numbers c.finish.ensures.fixed c.finish.ensures.seen c.finish.ensures.room (c.from_vec.ensures ∙ c.into_history-entries.ensures.history) c.from_vec-3.ensures c.into_history-entries.ensures.run c.into_history-entries.ensures.left in
    run_is c.args.script.now c.from_vec.result c.from_vec-3.result c.from_vec-2.result ended (c.from_vec-2.ensures ∙ c.in-Ok-all_lines.ensures ∙ ap transcripts_of (c.deref.ensures.value ∙ sym c.from_vec-3.ensures))

pub returns-clause-sessions : goal.returns-clause-sessions
returns-clause-sessions g c =
    let ended = all_ended c.args.script.now c.in-Ok.table c.in-Ok.passes.items c.run_backends.new.passes.items c.in-Ok.backends.items c.run_backends.new.backends.items c.from_vec-3.result c.finish.result c.from_vec.result
    c.in-Ok.ensures c.in_ok-run_backends.ensures.done c.in_ok-run_backends.ensures.numbers c.finish.ensures.fixed c.finish.ensures.seen c.finish.ensures.room (c.from_vec.ensures ∙ c.into_history-entries.ensures.history) c.from_vec-3.ensures c.into_history-entries.ensures.run c.into_history-entries.ensures.left in
    run_sessions c.args.script.now c.from_vec.result c.from_vec-3.result c.from_vec-2.result ended (c.from_vec-2.ensures ∙ c.in-Ok-all_lines.ensures ∙ ap transcripts_of (c.deref.ensures.value ∙ sym c.from_vec-3.ensures))

pub returns-clause-stand : goal.returns-clause-stand
returns-clause-stand g c =
    let ended = all_ended c.args.script.now c.in-Ok.table c.in-Ok.passes.items c.run_backends.new.passes.items c.in-Ok.backends.items c.run_backends.new.backends.items c.from_vec-3.result c.finish.result c.from_vec.result
    c.in-Ok.ensures c.in_ok-run_backends.ensures.done c.in_ok-run_backends.ensures.numbers c.finish.ensures.fixed c.finish.ensures.seen c.finish.ensures.room (c.from_vec.ensures ∙ c.into_history-entries.ensures.history) c.from_vec-3.ensures c.into_history-entries.ensures.run c.into_history-entries.ensures.left in
    run_stands c.args.script.now c.from_vec.result c.from_vec-3.result ended

pub returns-clause-coherent : goal.returns-clause-coherent
returns-clause-coherent g c =
    let ended = all_ended c.args.script.now c.in-Ok.table c.in-Ok.passes.items c.run_backends.new.passes.items c.in-Ok.backends.items c.run_backends.new.backends.items c.from_vec-3.result c.finish.result c.from_vec.result
    c.in-Ok.ensures c.in_ok-run_backends.ensures.done c.in_ok-run_backends.ensures.numbers c.finish.ensures.fixed c.finish.ensures.seen c.finish.ensures.room (c.from_vec.ensures ∙ c.into_history-entries.ensures.history) c.from_vec-3.ensures c.into_history-entries.ensures.run c.into_history-entries.ensures.left in
    run_coherent c.args.script.now c.from_vec.result c.from_vec-3.result ended

pub returns-in_default-clause-asked : goal.returns-in_default-clause-asked
returns-in_default-clause-asked g c = let gates = c.requires.gates in
    each_none Ran refusals.NoMemory c.args.script.now (range_with_len 1 c.args.script.now.backends) (map g.G.Gate.asked c.args.gates.now.items) (omega (arith, gates, length-range_with_len 1 c.args.script.now.backends, length-map c.args.gates.now.items g.G.Gate.asked))

pub returns-in_err-run_backends-clause-asked : goal.returns-in_err-run_backends-clause-asked
returns-in_err-run_backends-clause-asked g c = let asked = g.G.Gate.asked in
    refused_each c.run_backends.result c.from_residual.result c.args.script.now (range_with_len 1 c.args.script.now.backends) (map asked c.args.gates.now.items) (map asked c.run_backends.new.gates.items) c.from_residual.ensures.0
    (run_asked c.run_backends.result (start_of c.in-Ok.table).whole c.args.script.now (map (λ p. p.number) c.in-Ok.passes.items) (range_with_len 1 c.args.script.now.backends) (map asked c.args.gates.now.items) (map asked c.run_backends.new.gates.items) c.in-Ok.ensures.script c.in-Ok.ensures.numbers c.run_backends.ensures.asked)

pub returns-in_default-all_lines-clause-asked : goal.returns-in_default-all_lines-clause-asked
returns-in_default-all_lines-clause-asked g c = let asked = g.G.Gate.asked in
    each_some Ran c.run_backends.result refusals.NoMemory c.args.script.now (range_with_len 1 c.args.script.now.backends) (map asked c.args.gates.now.items) (map asked c.run_backends.new.gates.items)
    (run_asked c.run_backends.result (start_of c.in-Ok.table).whole c.args.script.now (map (λ p. p.number) c.in-Ok.passes.items) (range_with_len 1 c.args.script.now.backends) (map asked c.args.gates.now.items) (map asked c.run_backends.new.gates.items) c.in-Ok.ensures.script c.in-Ok.ensures.numbers c.run_backends.ensures.asked)

pub returns-clause-asked : goal.returns-clause-asked
returns-clause-asked g c = let asked = g.G.Gate.asked in let done : Unit {0} = tt in let well : Result (Unit {0}) RunRefusal = Ok done in let ran : Ran = record { entries = c.from_vec.result; lines = c.from_vec-2.result; backends = c.from_vec-3.result } in
    each_done RunRefusal RunRefusal done ran c.args.script.now (range_with_len 1 c.args.script.now.backends) (map asked c.args.gates.now.items) (map asked c.run_backends.new.gates.items)
    (run_asked well (start_of c.in-Ok.table).whole c.args.script.now (map (λ p. p.number) c.in-Ok.passes.items) (range_with_len 1 c.args.script.now.backends) (map asked c.args.gates.now.items) (map asked c.run_backends.new.gates.items) c.in-Ok.ensures.script c.in-Ok.ensures.numbers c.in_ok-run_backends.ensures.asked)
