use Rattle.std.proofs.Common.{◌∙◌, refl, ap}
use Rattle.event_kinds.specs.declared.entry.Event.TheVariants.{Start}
use Rattle.seg_calls.specs.Calls.{entry_of}
use Rattle.shared_seg.specs.Kept.{Kept}
use Rattle.shared_seg.proofs.Entered.{call_inside, within, placed_appends, called_keeps, called_within}
use Rattle.shared_seg.proofs.Queue.{placed_queued, start_needs, start_queued}
use Rattle.shared_seg.proofs.shared.SharedSeg.start.Goals as goal

pub start-requires-clause-backend : goal.start-requires-clause-backend
start-requires-clause-backend c = let call = call_inside _ _ (entry_of c.args.b 0 Start) c.self.view_is c.requires.call in (call.backend.0, within c.self.inside.script.scenario c.args.b _ call.backend c.self.invariant.queued.slots)

pub start-requires-clause-inactive : goal.start-requires-clause-inactive
start-requires-clause-inactive c = start_needs _ _ c.args.b _ c.self.view_is c.self.invariant.queued c.requires.call

pub invariant_of-self : goal.invariant_of-self
invariant_of-self c = record {
  folds =
      called_keeps _ _ _ _ c.args.b 0 Start _ _ _ _ _ _ c.self.view_is c.self.invariant.folds c.requires.call tt c.append.ensures.entries c.append.ensures.promised refl refl c.enter_running.ensures;
  queued = let call = call_inside _ _ (entry_of c.args.b 0 Start) c.self.view_is c.requires.call in
      placed_queued c.self.inside.script.scenario _ _ (entry_of c.args.b 0 Start) _ _ c.append.ensures.entries c.start.ensures (start_queued c.self.inside.script.scenario _ c.args.b _ (within c.self.inside.script.scenario c.args.b _ call.backend c.self.invariant.queued.slots) c.self.invariant.queued);
}

pub returns-clause-appends : goal.returns-clause-appends
returns-clause-appends c = placed_appends _ _ _ _ (entry_of c.args.b 0 Start) refl c.self.view_is c.requires.call tt c.self.invariant.folds.backends c.append.ensures.entries c.append.ensures.promised

pub returns-clause-script : goal.returns-clause-script
returns-clause-script c = ap (λ (k : Kept). k.script) c.self.view_is

pub enter_running-requires-clause-within : goal.enter_running-requires-clause-within
enter_running-requires-clause-within c = called_within _ _ _ _ c.self.view_is c.requires.call (c.self.inside.transactions.ok.0 ∙ c.self.invariant.folds.slots)
