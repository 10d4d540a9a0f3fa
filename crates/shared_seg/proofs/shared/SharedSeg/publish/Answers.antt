use Rattle.std.proofs.Common.{◌∙◌, length, refl, ap, sym, subst}
use Rattle.event_kinds.specs.declared.entry.Event.TheVariants.{Publish}
use Rattle.seg_calls.specs.Calls.{entry_of, ArePublishedNext}
use Rattle.shared_seg.specs.Kept.{Kept}
use Rattle.shared_seg.proofs.Entered.{call_inside, placed_appends, called_keeps, called_within}
use Rattle.shared_seg.proofs.Queue.{few_published, publish_queued, cleaned_is}
use Rattle.shared_seg.proofs.Published.{published_fits}
use Rattle.shared_seg.specs.KeepsQueue.{KeepsQueue}
use Rattle.shared_seg.proofs.shared.SharedSeg.publish.Goals as goal

pub insert-cleaned-requires : goal.insert-cleaned-requires
insert-cleaned-requires c = few_published _ _ c.args.b c.args.c _ c.self.view_is c.requires.call

pub enter_running-requires-clause-counted : goal.enter_running-requires-clause-counted
enter_running-requires-clause-counted c = published_fits _ _ c.args.b c.args.c _ _ _ _ c.self.view_is c.self.invariant.folds c.requires.call

pub invariant_of-self : goal.invariant_of-self
invariant_of-self c =
    let call = call_inside _ _ (entry_of c.args.b c.args.c (Publish (length c.args.messages.now))) c.self.view_is c.requires.call in
    let next = subst (λ (x : Kept). ArePublishedNext x.history c.args.b c.args.messages.now) (sym c.self.view_is) c.requires.next in
    record {
      folds = called_keeps _ _ _ _ c.args.b c.args.c (Publish (length c.args.messages.now)) _ _ _ _ _ _ c.self.view_is c.self.invariant.folds c.requires.call tt c.append.ensures.entries c.append.ensures.promised refl refl c.enter_running.ensures;
      queued = subst (λ h. KeepsQueue c.self.inside.script.scenario h c.insert-cleaned.new.self) (sym c.append.ensures.entries) (publish_queued c.self.inside.script.scenario _ c.args.b c.args.c c.args.messages.now _ _ c.self.invariant.queued call.follows next c.insert-cleaned.ensures.queue c.insert-cleaned.ensures.lapped);
    }

pub returns-clause-appends : goal.returns-clause-appends
returns-clause-appends c = placed_appends _ _ _ _ (entry_of c.args.b c.args.c (Publish (length c.args.messages.now))) refl c.self.view_is c.requires.call tt c.self.invariant.folds.backends c.append.ensures.entries c.append.ensures.promised

pub returns-clause-cleaned : goal.returns-clause-cleaned
returns-clause-cleaned c = cleaned_is _ _ _ (length c.args.messages.now) _ c.self.view_is c.self.invariant.queued c.insert-cleaned.ensures.answer

pub returns-clause-script : goal.returns-clause-script
returns-clause-script c = ap (λ (k : Kept). k.script) c.self.view_is

pub enter_running-requires-clause-within : goal.enter_running-requires-clause-within
enter_running-requires-clause-within c = called_within _ _ _ _ c.self.view_is c.requires.call (c.self.inside.transactions.ok.0 ∙ c.self.invariant.folds.slots)
