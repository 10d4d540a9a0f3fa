use Rattle.std.proofs.Common.{arith}
use Rattle.backend_core.proofs.Fitting.Entered.{has_room}
use Rattle.backend_core.proofs.Entries.Inside.{so_of_all, made_refused}
use Rattle.backend_core.proofs.Entries.Fetching.{fetch_call, messages_enter, reset_enters, messages_make, reset_makes, messages_noted, reset_noted}
use Rattle.backend_core.proofs.backend.Backend.fetch.Goals as goal

pub fetch-requires-clause-call : goal.fetch-requires-clause-call
fetch-requires-clause-call g c = fetch_call _ _ c.args.self.now c.requires.ready.waits c.requires.next

pub take_messages-requires-clause-room : goal.take_messages-requires-clause-room
take_messages-requires-clause-room g c = has_room _ _ c.args.self.now c.requires.ready.waits (omega (arith, g.met.L.Seg.short c.args.seg.now))

pub take_reset-requires-clause-room : goal.take_reset-requires-clause-room
take_reset-requires-clause-room g c = has_room _ _ c.args.self.now c.requires.ready.waits (omega (arith, g.met.L.Seg.short c.args.seg.now))

pub returns-in-Messages-clause-enters : goal.returns-in-Messages-clause-enters
returns-in-Messages-clause-enters g c = so_of_all c.take_messages.result (λ holds kept none is. messages_enter _ _ _ _ _ c.args.self.now _ _ _ _ c.requires.ready.waits c.requires.ready.played c.requires.ready.course c.requires.next c.in-Messages.ensures.fetches c.as_slice.ensures.value
    (holds _ _ c.requires.ready.waits.rests) none is) c.take_messages.ensures.holds c.take_messages.ensures.kept c.take_messages.ensures.answer c.take_messages.ensures.is

pub returns-in-Messages-clause-refused : goal.returns-in-Messages-clause-refused
returns-in-Messages-clause-refused g c = made_refused _ _ _ _ _ _ c.take_messages.result (messages_make _ _ _ _ _ c.args.self.now _ _ c.requires.ready.waits c.requires.ready.played c.requires.ready.course c.requires.next c.in-Messages.ensures.fetches)

pub returns-in-Reset-clause-enters : goal.returns-in-Reset-clause-enters
returns-in-Reset-clause-enters g c = so_of_all c.take_reset.result (λ holds kept none is. reset_enters _ _ _ _ _ c.args.self.now _ _ c.requires.ready.waits c.requires.ready.played c.requires.ready.course c.requires.next c.in-Reset.ensures.fetches
    (holds _ _ c.requires.ready.waits.rests) none is) c.take_reset.ensures.holds c.take_reset.ensures.kept c.take_reset.ensures.answer c.take_reset.ensures.is

pub returns-in-Reset-clause-refused : goal.returns-in-Reset-clause-refused
returns-in-Reset-clause-refused g c = made_refused _ _ _ _ _ _ c.take_reset.result (reset_makes _ _ _ _ _ c.args.self.now _ c.requires.ready.waits c.requires.ready.played c.requires.ready.course c.requires.next c.in-Reset.ensures.fetches)

pub returns-in-Messages-clause-noted : goal.returns-in-Messages-clause-noted
returns-in-Messages-clause-noted g c = so_of_all c.take_messages.result (λ holds kept none is. messages_noted _ _ _ _ _ c.args.self.now _ _ _ _ c.requires.ready.waits c.in-Messages.ensures.fetches c.as_slice.ensures.value (holds _ _ c.requires.ready.waits.rests) is) c.take_messages.ensures.holds c.take_messages.ensures.kept c.take_messages.ensures.answer c.take_messages.ensures.is

pub returns-in-Reset-clause-noted : goal.returns-in-Reset-clause-noted
returns-in-Reset-clause-noted g c = so_of_all c.take_reset.result (λ holds kept none is. reset_noted _ _ _ _ _ c.args.self.now _ _ c.requires.ready.waits c.in-Reset.ensures.fetches (holds _ _ c.requires.ready.waits.rests) is) c.take_reset.ensures.holds c.take_reset.ensures.kept c.take_reset.ensures.answer c.take_reset.ensures.is
