use Rattle.std.proofs.Common.{◌∙◌, sym, ap}
use Rattle.turn_table.specs.Passes.{start_of}
use Rattle.thread_run.specs.Seats.{number_of}
use Rattle.thread_run.proofs.Asking.{asked_together, asked_seen}
use Rattle.thread_run.proofs.Lists.{map_same}
use Rattle.thread_run.proofs.Stopping.{stops_together, stops_seen}
use Rattle.thread_run.proofs.seats.work_all.Goals as goal

pub returns-clause-numbers : goal.returns-clause-numbers
returns-clause-numbers g c = map_same number_of c.args.seats.now c.for_each_mut.new.s c.for_each_mut.auto.s
    (λ i d h. let e = (c.for_each_mut.ensures i d h).1 in ap number_of (sym e.left) ∙ (e.call.1 ∙ ap number_of e.argument_is))

pub returns-clause-stops : goal.returns-clause-stops
returns-clause-stops g c = stops_together g.G.Gate.stops c.args.seats.now c.for_each_mut.new.s c.for_each_mut.auto.s
    (λ i d h. let e = (c.for_each_mut.ensures i d h).1 in stops_seen g.G.Gate.stops e.argument.now e.after_call.now _ _ e.argument_is e.left e.call.2)

pub returns-clause-asked : goal.returns-clause-asked
returns-clause-asked g c = asked_together (start_of c.args.table.now).whole g.G.Gate.asked c.args.seats.now c.for_each_mut.new.s c.for_each_mut.auto.s
    (λ i d h. let e = (c.for_each_mut.ensures i d h).1 in asked_seen (start_of c.args.table.now).whole g.G.Gate.asked e.argument.now e.after_call.now _ _ e.argument_is e.left e.call.3)
