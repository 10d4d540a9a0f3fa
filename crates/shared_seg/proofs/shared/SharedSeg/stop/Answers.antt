use Rattle.std.proofs.Common.{refl, ap}
use Rattle.event_kinds.specs.declared.entry.Event.TheVariants.{Stop}
use Rattle.seg_calls.specs.Calls.{entry_of}
use Rattle.shared_seg.specs.Kept.{Kept}
use Rattle.shared_seg.proofs.Own.{kept_same}
use Rattle.shared_seg.proofs.Entered.{call_inside, within, placed_appends, placed_keeps}
use Rattle.shared_seg.proofs.Queue.{placed_queued, active_needs, stop_queued}
use Rattle.shared_seg.proofs.shared.SharedSeg.stop.Goals as goal

pub stop-requires : goal.stop-requires
stop-requires c = record { active = active_needs _ _ c.args.b c.args.c Stop _ c.self.view_is c.self.invariant.queued c.requires.call refl }

pub invariant_of-self : goal.invariant_of-self
invariant_of-self c = record {
  folds =
      placed_keeps _ _ _ _ (entry_of c.args.b c.args.c Stop) _ _ _ _ _ _ c.self.view_is c.self.invariant.folds c.requires.call tt c.append.ensures.entries c.append.ensures.promised
      (record { rows_are = refl; held_is = refl; slots = refl; own_is = kept_same c.args.b c.args.c _ });
  queued = let call = call_inside _ _ (entry_of c.args.b c.args.c Stop) c.self.view_is c.requires.call in
      placed_queued c.self.inside.script.scenario _ _ (entry_of c.args.b c.args.c Stop) _ _ c.append.ensures.entries c.stop.ensures (stop_queued c.self.inside.script.scenario _ c.args.b c.args.c _ (within c.self.inside.script.scenario c.args.b _ call.backend c.self.invariant.queued.slots) c.self.invariant.queued);
}

pub returns-clause-appends : goal.returns-clause-appends
returns-clause-appends c = placed_appends _ _ _ _ (entry_of c.args.b c.args.c Stop) refl c.self.view_is c.requires.call tt c.self.invariant.folds.backends c.append.ensures.entries c.append.ensures.promised

pub returns-clause-script : goal.returns-clause-script
returns-clause-script c = ap (λ (k : Kept). k.script) c.self.view_is
