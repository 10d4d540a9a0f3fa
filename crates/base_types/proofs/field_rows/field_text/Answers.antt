use Rattle.std.proofs.Common.{◌∙◌, ◌++◌, if◌then◌else◌, codes, sym, ap}
use Rattle.base_types.proofs.Joining.{row_adds, row_passes}
use Rattle.base_types.proofs.field_rows.field_text.Goals.{in-Some+in_ok-push_item, in_default}
use Rattle.base_types.proofs.field_rows.field_text.Goals as goal

pub loop-row-preserved : goal.loop-row-preserved
loop-row-preserved c =
    let row = c.row-item.result in
    let before = c.loop-row in
    elim c.match-item_of.branch [
      | in-Some+in_ok-push_item w ↦ rw (w.text-is, w.some-is) (row_adds c.args.field c.args.rel c.args.rows.now before.row-index row before.some before.text.items w.in-Some.item w.push_item.new.text.items
          before.invariant c.loop-row-test.true c.row-item.is (sym c.item_of.ensures.text ∙ w.in-Some.is) (rw w.in-Some.is at c.item_of.ensures.in_line)
          (w.in_ok-push_item.ensures ∙ ap (λ piece. (if before.some then before.text.items ++ codes " " else before.text.items) ++ piece) w.as_bytes.ensures.text))
      | in_default w ↦ rw (w.text-is, w.some-is) (row_passes c.args.field c.args.rel c.args.rows.now before.row-index row before.some before.text.items
          before.invariant c.loop-row-test.true c.row-item.is (sym c.item_of.ensures.text ∙ w.in_default.is))
    ]
