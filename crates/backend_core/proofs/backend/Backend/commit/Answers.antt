use Rattle.backend_core.proofs.Fitting.Entered.{is_few}
use Rattle.backend_core.proofs.Entries.Committing.{commit_enters}
use Rattle.backend_core.proofs.Entries.EndEntries.{end_call}
use Rattle.std.proofs.Common.{refl}
use Rattle.backend_core.proofs.Entries.Noting.{noted_with}
use Rattle.backend_core.proofs.backend.Backend.commit.Goals as goal

pub visible-requires-clause-call : goal.visible-requires-clause-call
visible-requires-clause-call g c = end_call _ _ c.args.self.now c.requires.ready.waits _ refl c.requires.next

pub enter_visible-requires : goal.enter_visible-requires
enter_visible-requires g c = record { few = is_few _ _ c.args.self.now c.requires.ready.waits }

pub returns-clause-enters : goal.returns-clause-enters
returns-clause-enters g c = commit_enters _ _ _ _ _ c.args.self.now _ _ c.requires.ready.waits c.requires.ready.played c.requires.ready.course c.requires.next (c.enter_visible.ensures.holds _ _ c.requires.ready.waits.rests) c.enter_visible.ensures.answer c.visible.ensures.appends

pub returns-clause-noted : goal.returns-clause-noted
returns-clause-noted g c = noted_with _ _ _ _ _ c.args.self.now _ _ _ _ (c.enter_visible.ensures.holds _ _ c.requires.ready.waits.rests) c.visible.ensures.appends refl refl
