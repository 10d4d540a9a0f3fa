use Rattle.std.proofs.Common.{◌∙◌, length, refl, ap}
use Rattle.event_kinds.specs.declared.entry.Event.TheVariants.{Scan}
use Rattle.history_model.specs.After.{segment_of}
use Rattle.segment_rows.specs.Kept.{xid_in}
use Rattle.shared_seg.specs.Transactions.{xid_at}
use Rattle.shared_seg.specs.Kept.{Kept}
use Rattle.shared_seg.proofs.Asked.{asked_within, asked_keeps}
use Rattle.shared_seg.proofs.Scanned.{converted, gives_rows}
use Rattle.shared_seg.proofs.Queue.{asked_still}
use Rattle.shared_seg.proofs.Unchanged.{keeps_same}
use Rattle.shared_seg.proofs.shared.SharedSeg.scan.Goals as goal

pub invariant_of-self-2 : goal.invariant_of-self-2
invariant_of-self-2 c =
    let own = c.own_xid-own.ensures ∙ ap (λ ts. xid_at ts c.args.b) c.deref.ensures.value ∙ ap xid_in (c.self.invariant.folds.own c.args.b) in
    let given = c.in_ok-rows.ensures.answer (segment_of c.self.inside.places.entries) c.args.b c.self.invariant.folds.rows_are own in
    let counted = converted _ _ _ _ _ _ c.try_from.ensures c.in_ok-count.ensures.variant c.in_ok-count.ensures.cases ∙ c.len.ensures ∙ c.in_ok-rows.rows.ok.0 in
    record {
      folds = asked_keeps _ _ _ _ c.args.b c.args.c (Scan c.args.purpose.now c.in_ok-count.count) _ _ _ _ _ _ c.self.view_is c.self.invariant.folds c.requires.call refl (counted ∙ ap length given) tt c.in_ok-add.ensures.ok c.add.ensures.promised refl refl c.enter_running.ensures;
      queued = asked_still _ _ _ c.args.b c.args.c (Scan c.args.purpose.now c.in_ok-count.count) _ c.self.view_is c.self.invariant.queued c.requires.call refl (counted ∙ ap length given) refl c.in_ok-add.ensures.ok;
    }

pub returns-clause-scans : goal.returns-clause-scans
returns-clause-scans c =
    let own = c.own_xid-own.ensures ∙ ap (λ ts. xid_at ts c.args.b) c.deref.ensures.value ∙ ap xid_in (c.self.invariant.folds.own c.args.b) in
    let given = c.in_ok-rows.ensures.answer (segment_of c.self.inside.places.entries) c.args.b c.self.invariant.folds.rows_are own in
    let counted = converted _ _ _ _ _ _ c.try_from.ensures c.in_ok-count.ensures.variant c.in_ok-count.ensures.cases ∙ c.len.ensures ∙ c.in_ok-rows.rows.ok.0 in
    gives_rows _ _ _ _ c.args.b c.args.c c.args.purpose.now _ c.in_ok-count.count c.self.view_is c.requires.call given (counted ∙ ap length given) c.in_ok-add.ensures.ok c.add.ensures.promised c.len-2.ensures.value

pub invariant_of-self : goal.invariant_of-self
invariant_of-self c = keeps_same _ _ _ _ _ _ _ _ _ _ _ c.in_err-add.ensures.err (ap length c.add.ensures.promised) refl refl c.self.invariant

pub enter_running-requires-clause-within : goal.enter_running-requires-clause-within
enter_running-requires-clause-within c = asked_within _ _ c.args.b c.args.c _ c.self.view_is c.requires.call (c.self.inside.transactions.ok.0 ∙ c.self.invariant.folds.slots)

pub returns-clause-script : goal.returns-clause-script
returns-clause-script c = ap (λ (k : Kept). k.script) c.self.view_is
