use Rattle.std.proofs.Common.{Ok, refl, sym, ap}
use Rattle.base_types.specs.declared.memory.NoMemory.{NoMemory}
use Rattle.history_lines.proofs.Allowing.{to_come, new_few, going_few, takes_next}
use Rattle.history_lines.proofs.Taken.{no_start, no_stop, other_comes, stop_comes, takes_start, takes_own, takes_stop}
use Rattle.history_lines.specs.Takes.{is_stop}
use Rattle.history_lines.proofs.TakenEvents.{whatever_fails}
use Rattle.history_lines.proofs.session.Session.take.Goals as goal

pub start-requires : goal.start-requires
start-requires c = record { few = new_few c.args.ledger.now c.args.self.now c.args.e.now c.in-Start.is c.requires }

pub stop-requires : goal.stop-requires
stop-requires c = let is = stop_comes c.args.ledger.now.rows.next_oid c.args.self.now c.args.e.now.command c.args.e.now.event c.in-Stop.is (to_come _ _ _ c.requires) in record { going = is; few = going_few c.args.ledger.now c.args.self.now c.args.e.now is c.requires }

pub go_on-requires-clause-going : goal.go_on-requires-clause-going
go_on-requires-clause-going c = (other_comes c.args.ledger.now.rows.next_oid c.args.self.now c.args.e.now.command c.args.e.now.event (no_start c.args.e.now.event c.in_default.not-Start) (to_come _ _ _ c.requires)).started

pub go_on-requires-clause-comes : goal.go_on-requires-clause-comes
go_on-requires-clause-comes c = takes_next c.args.ledger.now c.args.self.now c.args.e.now (no_start c.args.e.now.event c.in_default.not-Start) c.requires

pub go_on-requires-clause-inside : goal.go_on-requires-clause-inside
go_on-requires-clause-inside c = no_stop c.args.e.now.event c.in_default.not-Stop

pub returns-in-Start-clause-ok : goal.returns-in-Start-clause-ok
returns-in-Start-clause-ok c = takes_start c.start.result c.args.ledger.now c.args.at c.args.self.now c.start.new.self c.args.e.now (sym c.in-Start.is) (to_come _ _ _ c.requires) c.start.ensures

pub returns-in-Stop-clause-ok : goal.returns-in-Stop-clause-ok
returns-in-Stop-clause-ok c = takes_stop {E = NoMemory} (Ok tt) c.args.ledger.now c.args.at c.args.self.now c.stop.new.self c.args.e.now (sym c.in-Stop.is) (to_come _ _ _ c.requires) c.stop.ensures

pub returns-in_default-clause-ok : goal.returns-in_default-clause-ok
returns-in_default-clause-ok c = takes_own c.go_on.result c.args.ledger.now c.args.at c.args.self.now c.go_on.new.self c.args.e.now c.args.e.now.event refl (no_start c.args.e.now.event c.in_default.not-Start) (to_come _ _ _ c.requires) c.go_on.ensures

pub returns-in-Start-clause-only : goal.returns-in-Start-clause-only
returns-in-Start-clause-only c = whatever_fails c.start.result (ap is_stop c.in-Start.is)

pub returns-in_default-clause-only : goal.returns-in_default-clause-only
returns-in_default-clause-only c = whatever_fails c.go_on.result (no_stop c.args.e.now.event c.in_default.not-Stop)
