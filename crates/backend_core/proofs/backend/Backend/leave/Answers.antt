use Rattle.backend_core.proofs.Fitting.Entered.{is_few}
use Rattle.backend_core.proofs.Entries.Leaving.{leave_call, leave_steps}
use Rattle.std.proofs.Common.{refl}
use Rattle.backend_core.proofs.Entries.Noting.{noted_with}
use Rattle.backend_core.proofs.backend.Backend.leave.Goals as goal

pub stop-requires-clause-call : goal.stop-requires-clause-call
stop-requires-clause-call g c = leave_call _ _ c.args.self.now c.requires.ready.waits c.requires.next.1

pub enter_stop-requires : goal.enter_stop-requires
enter_stop-requires g c = record { few = is_few _ _ c.args.self.now c.requires.ready.waits }

pub returns-clause-steps : goal.returns-clause-steps
returns-clause-steps g c = leave_steps _ _ _ _ _ c.args.self.now _ c.requires.ready.waits c.requires.ready.played c.requires.ready.course c.requires.next.0 c.requires.next.1 (c.enter_stop.ensures.holds _ _ c.requires.ready.waits.rests) c.stop.ensures.appends

pub returns-clause-noted : goal.returns-clause-noted
returns-clause-noted g c = noted_with _ _ _ _ _ c.args.self.now _ _ _ _ (c.enter_stop.ensures.holds _ _ c.requires.ready.waits.rests) c.stop.ensures.appends tt refl
