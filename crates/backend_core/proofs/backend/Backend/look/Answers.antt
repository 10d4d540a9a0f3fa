use Rattle.std.proofs.Common.{sym, subst, arith}
use Rattle.event_kinds.specs.declared.entry.Event.TheVariants as events
use Rattle.history_model.proofs.Sound.{sound_is_legal}
use Rattle.backend_core.proofs.Fitting.Entered.{has_room}
use Rattle.backend_core.specs.Noted.{IsEntered}
use Rattle.backend_core.proofs.Entries.Looking.{look_allowed, looks_call, look_comes, looks_enter}
use Rattle.backend_core.proofs.backend.Backend.look.Goals as goal

pub looked-requires-clause-call : goal.looked-requires-clause-call
looked-requires-clause-call g c = looks_call _ _ c.args.self.now c.args.look _ c.requires.ready.waits c.requires.next (look_allowed _ _ _ (sound_is_legal _ c.requires.ready.played.sound) (sym c.waits-some_wait.ensures))

pub take_look-requires-clause-room : goal.take_look-requires-clause-room
take_look-requires-clause-room g c = has_room _ _ c.args.self.now c.requires.ready.waits (omega (arith, g.met.L.Seg.short c.args.seg.now))

pub returns-clause-enters : goal.returns-clause-enters
returns-clause-enters g c = looks_enter _ _ _ _ _ c.args.self.now _ _ c.requires.ready c.waits-some_wait.ensures (c.take_look.ensures.looks _ _ c.requires.ready c.looked.ensures.appends.comes.follows) c.looked.ensures.appends

pub returns-clause-noted : goal.returns-clause-noted
returns-clause-noted g c = record {
  event = events.Look c.waits-some_wait.result;
  made = look_comes _ c.args.look c.waits-some_wait.result;
  entered = c.looked.ensures.appends.entries;
  goes = subst (λ h. IsEntered (g.L.Seg.script c.args.seg.now) (g.L.Seg.history c.args.seg.now) h c.args.self.now.progress (events.Look c.waits-some_wait.result) c.take_look.new.self.progress) (sym c.looked.ensures.appends.entries)
      (c.take_look.ensures.looks _ _ c.requires.ready c.looked.ensures.appends.comes.follows).goes;
  noted = c.take_look.ensures.noted (g.L.Seg.history c.args.seg.now);
}
