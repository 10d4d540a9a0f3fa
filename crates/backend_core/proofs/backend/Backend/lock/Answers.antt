use Rattle.std.proofs.Common.{arith}
use Rattle.backend_core.proofs.Entries.Alike.{reserved_id, reserved_awaits, reserved_lock}
use Rattle.backend_core.proofs.Fitting.Entered.{has_room, is_few}
use Rattle.backend_core.proofs.Entries.Locking.{lock_request, lock_free, lock_new, lock_drawn, held_appends, granted_enters, refused_enters}
use Rattle.backend_core.proofs.Entries.Noting.{granted_noted, held_noted}
use Rattle.backend_core.proofs.backend.Backend.lock.Goals as goal

pub lock-requires-clause-call : goal.lock-requires-clause-call
lock-requires-clause-call g c = lock_request _ _ _ (reserved_awaits _ _ c.args.self.now _ c.reserve_lock.ensures.same c.requires.ready.waits) c.requires.ready.played c.requires.ready.course _ _ (reserved_lock _ _ _ _ c.reserve_lock.ensures.same c.requires.next)

pub lock-requires-clause-new : goal.lock-requires-clause-new
lock-requires-clause-new g c = lock_new _ _ _ (reserved_awaits _ _ c.args.self.now _ c.reserve_lock.ensures.same c.requires.ready.waits) c.requires.ready.played c.requires.ready.course _ _ (reserved_lock _ _ _ _ c.reserve_lock.ensures.same c.requires.next)

pub lock-requires-clause-drawn : goal.lock-requires-clause-drawn
lock-requires-clause-drawn g c = lock_drawn _ _ _ (reserved_awaits _ _ c.args.self.now _ c.reserve_lock.ensures.same c.requires.ready.waits) c.requires.ready.played c.requires.ready.course _ _ (reserved_lock _ _ _ _ c.reserve_lock.ensures.same c.requires.next)

pub enter_lock-requires-clause-few : goal.enter_lock-requires-clause-few
enter_lock-requires-clause-few g c = is_few _ _ _ (reserved_awaits _ _ c.args.self.now _ c.reserve_lock.ensures.same c.requires.ready.waits)

pub enter_lock-requires-clause-room : goal.enter_lock-requires-clause-room
enter_lock-requires-clause-room g c = has_room _ _ _ (reserved_awaits _ _ c.args.self.now _ c.reserve_lock.ensures.same c.requires.ready.waits) (omega (arith, g.met.L.Seg.short c.args.seg.now))

pub enter_lock-requires-clause-new : goal.enter_lock-requires-clause-new
enter_lock-requires-clause-new g c = lock_free _ _ _ (reserved_awaits _ _ c.args.self.now _ c.reserve_lock.ensures.same c.requires.ready.waits) c.requires.ready.played c.requires.ready.course _ _ (reserved_lock _ _ _ _ c.reserve_lock.ensures.same c.requires.next)

pub enter_refused-requires : goal.enter_refused-requires
enter_refused-requires g c = record { few = is_few _ _ _ (reserved_awaits _ _ c.args.self.now _ c.reserve_lock.ensures.same c.requires.ready.waits) }

pub returns-in-Ok-clause-enters : goal.returns-in-Ok-clause-enters
returns-in-Ok-clause-enters g c = granted_enters _ _ _ (reserved_awaits _ _ c.args.self.now _ c.reserve_lock.ensures.same c.requires.ready.waits) c.requires.ready.played c.requires.ready.course _ _ (reserved_lock _ _ _ _ c.reserve_lock.ensures.same c.requires.next)
    c.args.self.now (reserved_id _ _ c.reserve_lock.ensures.same) _ _ _ _ c.enter_lock.ensures.answer (c.enter_lock.ensures.holds _ _ _) c.in-Ok.ensures.locks

pub returns-in-Err-Conflict-clause-enters : goal.returns-in-Err-Conflict-clause-enters
returns-in-Err-Conflict-clause-enters g c = refused_enters _ _ _ (reserved_awaits _ _ c.args.self.now _ c.reserve_lock.ensures.same c.requires.ready.waits) c.requires.ready.played c.requires.ready.course _ _ (reserved_lock _ _ _ _ c.reserve_lock.ensures.same c.requires.next)
    c.args.self.now (reserved_id _ _ c.reserve_lock.ensures.same) _ _ _ _ c.enter_refused.ensures.answer _ _ (c.enter_refused.ensures.holds _ _ _)
    (held_appends _ _ _ _ _ _ _ _ _ _ _ _ _ c.in-Err-Conflict.field-0-is c.in-Err-Conflict.holder-is c.in-Err-Conflict.held-is c.in-Err-Conflict.ensures.locks)

pub returns-in-Ok-clause-noted : goal.returns-in-Ok-clause-noted
returns-in-Ok-clause-noted g c = granted_noted _ _ _ _ _ c.args.self.now _ _ c.reserve_lock.ensures.same (reserved_awaits _ _ c.args.self.now _ c.reserve_lock.ensures.same c.requires.ready.waits).rests _ _ (c.enter_lock.ensures.holds _ _ _) c.in-Ok.ensures.locks

pub returns-in-Err-Conflict-clause-noted : goal.returns-in-Err-Conflict-clause-noted
returns-in-Err-Conflict-clause-noted g c = held_noted _ _ _ _ _ c.args.self.now _ _ c.reserve_lock.ensures.same (reserved_awaits _ _ c.args.self.now _ c.reserve_lock.ensures.same c.requires.ready.waits).rests _ _ _ _ (c.enter_refused.ensures.holds _ _ _)
    (held_appends _ _ _ _ _ _ _ _ _ _ _ _ _ c.in-Err-Conflict.field-0-is c.in-Err-Conflict.holder-is c.in-Err-Conflict.held-is c.in-Err-Conflict.ensures.locks)
