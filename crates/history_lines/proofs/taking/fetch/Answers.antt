use Rattle.std.proofs.Common.{◌∙◌, length, ap}
use Rattle.history_lines.proofs.Allowing.{few, room, fetch_waits}
use Rattle.history_lines.proofs.TakenEvents.{fetched_takes}
use Rattle.history_lines.proofs.taking.fetch.Goals as goal

pub enter_fetch-requires : goal.enter_fetch-requires
enter_fetch-requires c = record { few = few _ _ _ c.requires; room = room _ _ _ c.requires }

pub returns-clause-takes : goal.returns-clause-takes
returns-clause-takes c = fetched_takes c.args.ledger.now c.args.progress.now c.enter_fetch.new.self c.fetched-messages.result.now c.args.count (ap length (c.fetched-messages.ensures.given c.requires.seen c.requires.reads) ∙ fetch_waits _ _ _ c.requires) c.fetched-messages.ensures.given c.enter_fetch.ensures.answer c.enter_fetch.ensures.holds
