use Rattle.std.proofs.Common.{ap, length, sym}
use Rattle.event_kinds.specs.declared.entry.Event.TheVariants as events
use Rattle.history_lines.proofs.TakenEvents.{event_takes}
use Rattle.history_lines.proofs.taking.publish.Goals as goal

pub returns-clause-takes : goal.returns-clause-takes
returns-clause-takes c = event_takes c.args.progress.now c.enter_publish.new.self _ (events.Publish (length c.unpublished-count.result.now)) (ap (λ l. events.Publish (length l)) (sym c.unpublished-count.ensures.next)) c.enter_publish.ensures.holds c.enter_publish.ensures.answer
