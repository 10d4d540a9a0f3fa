use Rattle.backend_core.proofs.Fitting.Entered.{is_few}
use Rattle.backend_core.proofs.Entries.EndEntries.{end_call}
use Rattle.backend_core.proofs.Entries.TakingBack.{take_back_enters}
use Rattle.std.proofs.Common.{refl}
use Rattle.backend_core.proofs.Entries.Noting.{noted_with}
use Rattle.backend_core.proofs.backend.Backend.take_back.Goals as goal

pub gone-requires-clause-call : goal.gone-requires-clause-call
gone-requires-clause-call g c = end_call _ _ c.args.self.now c.requires.ready.waits _ refl c.requires.next

pub enter_gone-requires : goal.enter_gone-requires
enter_gone-requires g c = record { few = is_few _ _ c.args.self.now c.requires.ready.waits }

pub returns-clause-enters : goal.returns-clause-enters
returns-clause-enters g c = take_back_enters _ _ _ _ _ c.args.self.now _ _ c.requires.ready.waits c.requires.ready.played c.requires.ready.course c.requires.next (c.enter_gone.ensures.holds _ _ c.requires.ready.waits.rests) c.enter_gone.ensures.answer c.gone.ensures.appends

pub returns-clause-noted : goal.returns-clause-noted
returns-clause-noted g c = noted_with _ _ _ _ _ c.args.self.now _ _ _ _ (c.enter_gone.ensures.holds _ _ c.requires.ready.waits.rests) c.gone.ensures.appends refl refl
