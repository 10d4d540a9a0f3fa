use Rattle.std.proofs.Common.{refl, ap}
use Rattle.turn_table.specs.Passes.{start_of, seen_by, was_told}
use Rattle.backend_core.specs.Words.{has_left}
use Rattle.thread_run.specs.Workers.{Looks, Turns, HasLeft}
use Rattle.thread_run.proofs.Asking.{asked_id}
use Rattle.thread_run.proofs.Between.{between_right, left_underway, may_enter}
use Rattle.thread_run.proofs.Workers.{goes_nowhere, needs_turn, any_ok}
use Rattle.thread_run.proofs.worker.Worker.next.Goals as goal

pub wants-requires : goal.wants-requires
wants-requires g c = record { right = between_right (start_of c.args.table.now).whole c.args.self.pass.number (seen_by c.args.self.pass) c.args.self.held.items c.args.self.backend c.requires.between }

pub take_turn-requires-clause-may : goal.take_turn-requires-clause-may
take_turn-requires-clause-may g c = may_enter (start_of c.args.table.now).whole c.args.self.pass.number (seen_by c.args.self.pass) (was_told c.args.self.pass) c.args.self.held.items c.args.self.backend c.requires.between (needs_turn c.args.self.backend c.in-Turn.ensures)

pub returns-in-Look-clause-does : goal.returns-in-Look-clause-does
returns-in-Look-clause-does g c = Looks c.in-Look.look c.in-Look.ensures c.make_look.ensures.looks

pub returns-in-Turn-clause-does : goal.returns-in-Turn-clause-does
returns-in-Turn-clause-does g c = Turns c.in-Turn.ensures c.take_turn.ensures.takes c.take_turn.ensures.asked

pub returns-in-Turn-clause-id : goal.returns-in-Turn-clause-id
returns-in-Turn-clause-id g c = asked_id c.args.self.pass.number c.args.self.pass.number c.args.self.backend c.take_turn.result.0.backend c.take_turn.result.1 refl c.take_turn.ensures.asked

pub returns-in-Ended-clause-does : goal.returns-in-Ended-clause-does
returns-in-Ended-clause-does g c = HasLeft (ap has_left c.in-Ended.ensures) refl

pub returns-in-Ended-clause-id : goal.returns-in-Ended-clause-id
returns-in-Ended-clause-id g c = c.requires.between.id

pub returns-in-Turn-clause-all : goal.returns-in-Turn-clause-all
returns-in-Turn-clause-all g c = any_ok c.take_turn.result.1 c.take_turn.ensures.all

pub returns-in-Ended-clause-goes : goal.returns-in-Ended-clause-goes
returns-in-Ended-clause-goes g c = goes_nowhere c.args.table.now c.args.self c.requires.at

pub returns-in-Ended-clause-underway : goal.returns-in-Ended-clause-underway
returns-in-Ended-clause-underway g c = left_underway (start_of c.args.table.now).whole c.args.self.pass.number (seen_by c.args.self.pass) c.args.self.held.items c.args.self.backend c.requires.between (ap has_left c.in-Ended.ensures)
