use Rattle.backend_core.proofs.Fitting.Entered.{has_room, is_few}
use Rattle.backend_core.proofs.Entries.Unlocking.{unlock_call, unlock_held, unlock_enters}
use Rattle.std.proofs.Common.{refl, arith}
use Rattle.backend_core.proofs.Entries.Noting.{noted_with}
use Rattle.backend_core.proofs.backend.Backend.unlock.Goals as goal

pub unlock-requires-clause-call : goal.unlock-requires-clause-call
unlock-requires-clause-call g c = unlock_call _ _ c.args.self.now c.requires.ready.waits c.requires.ready.played c.requires.ready.course _ _ c.requires.next

pub enter_unlock-requires-clause-few : goal.enter_unlock-requires-clause-few
enter_unlock-requires-clause-few g c = is_few _ _ c.args.self.now c.requires.ready.waits

pub enter_unlock-requires-clause-room : goal.enter_unlock-requires-clause-room
enter_unlock-requires-clause-room g c = has_room _ _ c.args.self.now c.requires.ready.waits (omega (arith, g.met.L.Seg.short c.args.seg.now))

pub enter_unlock-requires-clause-held : goal.enter_unlock-requires-clause-held
enter_unlock-requires-clause-held g c = unlock_held _ _ c.args.self.now c.requires.ready.waits c.requires.ready.played c.requires.ready.course _ _ c.requires.next

pub returns-clause-enters : goal.returns-clause-enters
returns-clause-enters g c = unlock_enters _ _ c.args.self.now c.requires.ready.waits c.requires.ready.played c.requires.ready.course _ _ c.requires.next _ _ _ _ (c.enter_unlock.ensures.holds _ _ c.requires.ready.waits.rests) c.enter_unlock.ensures.answer c.unlock.ensures.appends

pub returns-clause-noted : goal.returns-clause-noted
returns-clause-noted g c = noted_with _ _ _ _ _ c.args.self.now _ _ _ _ (c.enter_unlock.ensures.holds _ _ c.requires.ready.waits.rests) c.unlock.ensures.appends (refl, refl) refl
