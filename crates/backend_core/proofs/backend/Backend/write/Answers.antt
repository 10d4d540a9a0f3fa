use Rattle.std.proofs.Common.{refl, arith}
use Rattle.local_caches.specs.Caches.{kept_of}
use Rattle.cacheless.proofs.Plans.CommandUnder.{writing_is}
use Rattle.cacheless.specs.State.{is_kept}
use Rattle.backend_core.specs.Steps.{Before}
use Rattle.backend_core.proofs.Fitting.Entered.{is_few}
use Rattle.backend_core.proofs.Entries.Alike.{reserved_id, reserved_awaits, reserved_write}
use Rattle.backend_core.proofs.Entries.Writing.{write_request, may_write, lists_before, made_free, wrote_refused, wrote_agrees, clash_enters, wrote_noted, clash_noted}
use Rattle.backend_core.proofs.Entries.Inside.{then_so}
use Rattle.backend_core.proofs.Entries.Noting.{written_noted}
use Rattle.backend_core.proofs.backend.Backend.write.Goals as goal

pub write-requires-clause-call : goal.write-requires-clause-call
write-requires-clause-call g c = write_request _ _ _ c.in-Some.draft.now (writing_is c.reserve_lock.new.self.opens c.reserve_lock.new.self.exec c.in-Some.draft.now (c.in-Some.ensures c.reserve_lock.new.self.opens)) (reserved_awaits _ _ c.args.self.now _ c.reserve_lock.ensures.same c.requires.ready.waits) c.requires.ready.played c.requires.ready.course (reserved_write _ _ c.reserve_lock.ensures.same c.requires.next)

pub write-requires-clause-write : goal.write-requires-clause-write
write-requires-clause-write g c = may_write _ _ _ c.in-Some.draft.now (writing_is c.reserve_lock.new.self.opens c.reserve_lock.new.self.exec c.in-Some.draft.now (c.in-Some.ensures c.reserve_lock.new.self.opens)) (reserved_awaits _ _ c.args.self.now _ c.reserve_lock.ensures.same c.requires.ready.waits) c.requires.ready.played c.requires.ready.course (reserved_write _ _ c.reserve_lock.ensures.same c.requires.next)

pub enter_write-requires-clause-order : goal.enter_write-requires-clause-order
enter_write-requires-clause-order g c = lists_before _ _ _ c.in-Some.draft.now (writing_is c.reserve_lock.new.self.opens c.reserve_lock.new.self.exec c.in-Some.draft.now (c.in-Some.ensures c.reserve_lock.new.self.opens)) (reserved_awaits _ _ c.args.self.now _ c.reserve_lock.ensures.same c.requires.ready.waits) c.requires.ready.played c.requires.ready.course (reserved_write _ _ c.reserve_lock.ensures.same c.requires.next)

pub enter_write-requires-clause-new : goal.enter_write-requires-clause-new
enter_write-requires-clause-new g c = made_free _ _ _ c.in-Some.draft.now (writing_is c.reserve_lock.new.self.opens c.reserve_lock.new.self.exec c.in-Some.draft.now (c.in-Some.ensures c.reserve_lock.new.self.opens)) (reserved_awaits _ _ c.args.self.now _ c.reserve_lock.ensures.same c.requires.ready.waits) c.requires.ready.played c.requires.ready.course (reserved_write _ _ c.reserve_lock.ensures.same c.requires.next) _ _ c.relation_made-made.ensures c.in-Ok.ensures.writes.first

pub returns-in_ok-enter_write-in-Ok-clause-enters : goal.returns-in_ok-enter_write-in-Ok-clause-enters
returns-in_ok-enter_write-in-Ok-clause-enters g c = wrote_agrees _ _ _ c.in-Some.draft.now (writing_is c.reserve_lock.new.self.opens c.reserve_lock.new.self.exec c.in-Some.draft.now (c.in-Some.ensures c.reserve_lock.new.self.opens)) (reserved_awaits _ _ c.args.self.now _ c.reserve_lock.ensures.same c.requires.ready.waits) c.requires.ready.played c.requires.ready.course (reserved_write _ _ c.reserve_lock.ensures.same c.requires.next)
    c.args.self.now (reserved_id _ _ c.reserve_lock.ensures.same) _ _ _ _ (is_kept (kept_of c.enter_write.new.self.caches)) _ c.tell_each.result c.in-Ok.written _ _ c.relation_made-made.ensures c.in-Ok.ensures.writes c.as_slice.ensures.value c.in_ok-enter_write-in-Ok.ensures.answer c.in_ok-enter_write-in-Ok.ensures.holds _ _ refl c.as_slice-in-Ok.ensures.value c.tell_each.ensures

pub returns-in_ok-enter_write-in-Ok-clause-refused : goal.returns-in_ok-enter_write-in-Ok-clause-refused
returns-in_ok-enter_write-in-Ok-clause-refused g c = wrote_refused _ _ _ c.in-Some.draft.now (writing_is c.reserve_lock.new.self.opens c.reserve_lock.new.self.exec c.in-Some.draft.now (c.in-Some.ensures c.reserve_lock.new.self.opens)) (reserved_awaits _ _ c.args.self.now _ c.reserve_lock.ensures.same c.requires.ready.waits) c.requires.ready.played c.requires.ready.course (reserved_write _ _ c.reserve_lock.ensures.same c.requires.next) c.args.self.now (reserved_id _ _ c.reserve_lock.ensures.same) _ _ _ c.tell_each.result c.in-Ok.written c.in-Ok.ensures.writes

pub returns-in_err-enter_write-in-Ok-clause-refused : goal.returns-in_err-enter_write-in-Ok-clause-refused
returns-in_err-enter_write-in-Ok-clause-refused g c = wrote_refused _ _ _ c.in-Some.draft.now (writing_is c.reserve_lock.new.self.opens c.reserve_lock.new.self.exec c.in-Some.draft.now (c.in-Some.ensures c.reserve_lock.new.self.opens)) (reserved_awaits _ _ c.args.self.now _ c.reserve_lock.ensures.same c.requires.ready.waits) c.requires.ready.played c.requires.ready.course (reserved_write _ _ c.reserve_lock.ensures.same c.requires.next) c.args.self.now (reserved_id _ _ c.reserve_lock.ensures.same) _ _ _ _ c.in-Ok.written c.in-Ok.ensures.writes

pub returns-in-Clash-clause-enters : goal.returns-in-Clash-clause-enters
returns-in-Clash-clause-enters g c = clash_enters _ _ _ c.in-Some.draft.now (writing_is c.reserve_lock.new.self.opens c.reserve_lock.new.self.exec c.in-Some.draft.now (c.in-Some.ensures c.reserve_lock.new.self.opens)) (reserved_awaits _ _ c.args.self.now _ c.reserve_lock.ensures.same c.requires.ready.waits) c.requires.ready.played c.requires.ready.course (reserved_write _ _ c.reserve_lock.ensures.same c.requires.next)
    c.args.self.now (reserved_id _ _ c.reserve_lock.ensures.same) _ _ _ _ c.in-Clash.name c.in-Clash.clash (c.enter_clash.ensures.holds _ _ _) c.enter_clash.ensures.answer (rw c.in-Clash.is at c.in-Err.ensures.writes)

pub returns-in_ok-enter_write-in-Ok-clause-noted : goal.returns-in_ok-enter_write-in-Ok-clause-noted
returns-in_ok-enter_write-in-Ok-clause-noted g c = then_so c.tell_each.result (written_noted _ _ _ c.args.self.now _ _ _ _ refl c.reserve_lock.ensures.same) (wrote_noted _ _ _ c.in-Some.draft.now (writing_is c.reserve_lock.new.self.opens c.reserve_lock.new.self.exec c.in-Some.draft.now (c.in-Some.ensures c.reserve_lock.new.self.opens)) (reserved_awaits _ _ c.args.self.now _ c.reserve_lock.ensures.same c.requires.ready.waits) c.requires.ready.played c.requires.ready.course (reserved_write _ _ c.reserve_lock.ensures.same c.requires.next)
    _ _ _ _ _ c.tell_each.result c.in-Ok.written _ _ c.relation_made-made.ensures c.in-Ok.ensures.writes c.as_slice.ensures.value c.in_ok-enter_write-in-Ok.ensures.kept c.in_ok-enter_write-in-Ok.ensures.holds _ _ refl c.as_slice-in-Ok.ensures.value c.tell_each.ensures)

pub returns-in-Clash-clause-noted : goal.returns-in-Clash-clause-noted
returns-in-Clash-clause-noted g c = written_noted _ _ _ c.args.self.now _ _ _ _ refl c.reserve_lock.ensures.same (clash_noted _ _ _ c.in-Some.draft.now (writing_is c.reserve_lock.new.self.opens c.reserve_lock.new.self.exec c.in-Some.draft.now (c.in-Some.ensures c.reserve_lock.new.self.opens)) (reserved_awaits _ _ c.args.self.now _ c.reserve_lock.ensures.same c.requires.ready.waits) c.requires.ready.played c.requires.ready.course (reserved_write _ _ c.reserve_lock.ensures.same c.requires.next)
    _ _ _ _ c.in-Clash.name c.in-Clash.clash (c.enter_clash.ensures.holds _ _ _) (rw c.in-Clash.is at c.in-Err.ensures.writes))

pub enter_write-requires-clause-few : goal.enter_write-requires-clause-few
enter_write-requires-clause-few g c = is_few _ _ _ (reserved_awaits _ _ c.args.self.now _ c.reserve_lock.ensures.same c.requires.ready.waits)

pub enter_clash-requires : goal.enter_clash-requires
enter_clash-requires g c = record { few = is_few _ _ _ (reserved_awaits _ _ c.args.self.now _ c.reserve_lock.ensures.same c.requires.ready.waits) }

pub overflow_add-self : goal.overflow_add-self
overflow_add-self g c = omega (arith, is_few _ _ _ (reserved_awaits _ _ c.args.self.now _ c.reserve_lock.ensures.same c.requires.ready.waits))

pub returns-in-NoMemory-clause-refused : goal.returns-in-NoMemory-clause-refused
returns-in-NoMemory-clause-refused g c = Before (rw c.in-NoMemory.is at c.in-Err.ensures.writes)

pub unreachable-requires : goal.unreachable-requires
unreachable-requires g c = c.in_default.ensures c.reserve_lock.new.self.opens (reserved_write _ _ c.reserve_lock.ensures.same c.requires.next).wants
