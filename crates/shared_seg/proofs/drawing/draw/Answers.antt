use Rattle.std.proofs.Common.{◌∙◌, map, ap}
use Rattle.ddl_effect.specs.Drawing.{changes_of, drawn_change}
use Rattle.history_model.specs.Changes.{items_of}
use Rattle.shared_seg.proofs.drawing.draw.Goals as goal

pub returns : goal.returns
returns c =
    let first = c.in-Ok.ensures.1 in
    let changes = c.in_ok-changes.ensures ∙ ap (map (drawn_change c.in-Ok.first c.args.draft.now.new_oids)) c.as_slice.ensures in
    record {
      xid = c.in_ok-xid.ensures;
      first = first;
      items = c.in_ok-items.ensures ∙ (λ i. items_of ((c.deref.ensures.value ∙ changes) i) (c.as_slice-2.ensures i)) ∙ ap (λ n. items_of (changes_of n c.args.draft.now) c.args.draft.now.forced) first;
    }
