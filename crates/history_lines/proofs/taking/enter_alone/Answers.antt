use Rattle.event_kinds.specs.declared.entry.Event.TheVariants as events
use Rattle.std.proofs.Common.{◌∙◌, ap, subst}
use Rattle.history_lines.specs.Takes.{SuitsAlone}
use Rattle.history_lines.proofs.TakenEvents.{event_takes, taken_as}
use Rattle.history_lines.proofs.taking.enter_alone.Goals as goal

pub returns-in-Look-clause-takes : goal.returns-in-Look-clause-takes
returns-in-Look-clause-takes c = event_takes c.args.progress.now c.enter_look.new.self c.args.event.now (events.Look c.in-Look.yes) c.in-Look.is c.enter_look.ensures.holds c.enter_look.ensures.answer

pub returns-in-FetchReset-clause-takes : goal.returns-in-FetchReset-clause-takes
returns-in-FetchReset-clause-takes c = event_takes c.args.progress.now c.enter_reset.new.self c.args.event.now events.FetchReset c.in-FetchReset.is c.enter_reset.ensures.holds c.enter_reset.ensures.answer

pub returns-in-LockOk-clause-takes : goal.returns-in-LockOk-clause-takes
returns-in-LockOk-clause-takes c = event_takes c.args.progress.now c.enter_lock.new.self c.args.event.now (events.LockOk c.in-LockOk.rel c.in-LockOk.mode) c.in-LockOk.is c.enter_lock.ensures.holds c.enter_lock.ensures.answer

pub enter_lock-requires-clause-new : goal.enter_lock-requires-clause-new
enter_lock-requires-clause-new c = subst (SuitsAlone c.args.progress.now) c.in-LockOk.is c.requires.suits

pub returns-in-LockHeld-clause-takes : goal.returns-in-LockHeld-clause-takes
returns-in-LockHeld-clause-takes c = event_takes c.args.progress.now c.enter_refused.new.self c.args.event.now (events.LockHeld c.in-LockHeld.rel c.in-LockHeld.mode c.in-LockHeld.holder c.in-LockHeld.held) c.in-LockHeld.is c.enter_refused.ensures.holds c.enter_refused.ensures.answer

pub returns-in-ClashRow-clause-takes : goal.returns-in-ClashRow-clause-takes
returns-in-ClashRow-clause-takes c = event_takes c.args.progress.now c.enter_clash.new.self c.args.event.now (events.ClashRow c.in-ClashRow.name c.in-ClashRow.rel) c.in-ClashRow.is c.enter_clash.ensures.holds c.enter_clash.ensures.answer

pub returns-in-ClashRunning-clause-takes : goal.returns-in-ClashRunning-clause-takes
returns-in-ClashRunning-clause-takes c = event_takes c.args.progress.now c.enter_clash-in-ClashRunning.new.self c.args.event.now (events.ClashRunning c.in-ClashRunning.name c.in-ClashRunning.xid) c.in-ClashRunning.is c.enter_clash-in-ClashRunning.ensures.holds c.enter_clash-in-ClashRunning.ensures.answer

pub returns-in-Visible-clause-takes : goal.returns-in-Visible-clause-takes
returns-in-Visible-clause-takes c = event_takes c.args.progress.now c.enter_visible.new.self c.args.event.now (events.Visible c.in-Visible.xid) c.in-Visible.is c.enter_visible.ensures.holds c.enter_visible.ensures.answer

pub returns-in-Gone-clause-takes : goal.returns-in-Gone-clause-takes
returns-in-Gone-clause-takes c = event_takes c.args.progress.now c.enter_gone.new.self c.args.event.now (events.Gone c.in-Gone.from) c.in-Gone.is c.enter_gone.ensures.holds c.enter_gone.ensures.answer

pub returns-in-Unlock-clause-takes : goal.returns-in-Unlock-clause-takes
returns-in-Unlock-clause-takes c = event_takes c.args.progress.now c.enter_unlock.new.self c.args.event.now (events.Unlock c.in-Unlock.rel c.in-Unlock.mode) c.in-Unlock.is c.enter_unlock.ensures.holds c.enter_unlock.ensures.answer

pub enter_unlock-requires-clause-held : goal.enter_unlock-requires-clause-held
enter_unlock-requires-clause-held c = subst (SuitsAlone c.args.progress.now) c.in-Unlock.is c.requires.suits

pub returns-in-Publish-clause-takes : goal.returns-in-Publish-clause-takes
returns-in-Publish-clause-takes c = taken_as c.args.progress.now c.publish.new.progress c.args.event.now _ (c.in-Publish.is ∙ ap events.Publish (subst (SuitsAlone c.args.progress.now) c.in-Publish.is c.requires.suits)) c.publish.ensures.takes
