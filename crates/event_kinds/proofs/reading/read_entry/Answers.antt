use Rattle.event_kinds.proofs.EntryLaws.{found_is, found_same, none_found}
use Rattle.event_kinds.proofs.reading.read_entry.Goals as goal

pub returns-clause-ok : goal.returns-clause-ok
returns-clause-ok c = found_is c.args.line.now c.whole_entry.result c.whole_entry.ensures

pub returns-clause-same : goal.returns-clause-same
returns-clause-same c = found_same c.args.line.now c.whole_entry.result c.whole_entry.ensures

pub returns-clause-bad : goal.returns-clause-bad
returns-clause-bad c = none_found c.args.line.now c.whole_entry.result c.whole_entry.ensures
