use Rattle.std.proofs.Common.{◌∙◌, refl, ap}
use Rattle.event_kinds.specs.declared.entry.Event.TheVariants.{Visible}
use Rattle.seg_calls.specs.Calls.{entry_of}
use Rattle.shared_seg.specs.Kept.{Kept}
use Rattle.shared_seg.proofs.Entered.{call_inside, placed_appends, called_keeps, called_within}
use Rattle.shared_seg.proofs.Queue.{placed_still}
use Rattle.shared_seg.proofs.shared.SharedSeg.visible.Goals as goal

pub invariant_of-self : goal.invariant_of-self
invariant_of-self c = record {
  folds =
      called_keeps _ _ _ _ c.args.b c.args.c (Visible c.args.xid) _ _ _ _ _ _ c.self.view_is c.self.invariant.folds c.requires.call tt c.append.ensures.entries c.append.ensures.promised c.commit.ensures refl c.enter_running.ensures;
  queued = placed_still _ _ _ (entry_of c.args.b c.args.c (Visible c.args.xid)) _ c.self.view_is c.self.invariant.queued c.requires.call refl c.append.ensures.entries;
}

pub commit-requires : goal.commit-requires
commit-requires c = c.self.invariant.folds.rows_are.places c.args.b c.args.xid.0 (call_inside _ _ (entry_of c.args.b c.args.c (Visible c.args.xid)) c.self.view_is c.requires.call).follows.event.0

pub returns-clause-appends : goal.returns-clause-appends
returns-clause-appends c = placed_appends _ _ _ _ (entry_of c.args.b c.args.c (Visible c.args.xid)) refl c.self.view_is c.requires.call tt c.self.invariant.folds.backends c.append.ensures.entries c.append.ensures.promised

pub returns-clause-script : goal.returns-clause-script
returns-clause-script c = ap (λ (k : Kept). k.script) c.self.view_is

pub enter_running-requires-clause-within : goal.enter_running-requires-clause-within
enter_running-requires-clause-within c = called_within _ _ _ _ c.self.view_is c.requires.call (c.self.inside.transactions.ok.0 ∙ c.self.invariant.folds.slots)
