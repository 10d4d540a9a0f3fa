use Rattle.backend_core.proofs.Fitting.Entered.{is_few}
use Rattle.backend_core.proofs.Entries.Committing.{publish_call, publish_these, publish_enters}
use Rattle.std.proofs.Common.{refl}
use Rattle.backend_core.proofs.Entries.Noting.{noted_with}
use Rattle.backend_core.proofs.backend.Backend.publish.Goals as goal

pub publish-requires-clause-call : goal.publish-requires-clause-call
publish-requires-clause-call g c = publish_call _ _ c.args.self.now _ c.requires.ready.waits c.requires.next c.unpublished-messages.ensures.next

pub publish-requires-clause-next : goal.publish-requires-clause-next
publish-requires-clause-next g c = publish_these _ _ c.args.self.now _ c.requires.ready.waits c.requires.next c.unpublished-messages.ensures.next

pub enter_publish-requires-clause-few : goal.enter_publish-requires-clause-few
enter_publish-requires-clause-few g c = is_few _ _ c.args.self.now c.requires.ready.waits

pub returns-clause-enters : goal.returns-clause-enters
returns-clause-enters g c = publish_enters _ _ _ _ _ c.args.self.now _ _ c.requires.ready.waits c.requires.ready.played c.requires.ready.course c.requires.next c.unpublished-messages.ensures.next (c.enter_publish.ensures.holds _ _ c.requires.ready.waits.rests) c.enter_publish.ensures.answer c.publish.ensures.appends

pub returns-clause-noted : goal.returns-clause-noted
returns-clause-noted g c = noted_with _ _ _ _ _ c.args.self.now _ _ _ _ (c.enter_publish.ensures.holds _ _ c.requires.ready.waits.rests) c.publish.ensures.appends tt refl
