use Rattle.std.proofs.Common.{◌∙◌, None, ap}
use Rattle.std.proofs.lemmas.List.{get_or_default}
use Rattle.catalog_rows.specs.Store.{is_ended, end_if}
use Rattle.catalog_rows.specs.Slots.{slot_changed}
use Rattle.catalog_rows.proofs.Ended.{ended_twice}
use Rattle.catalog_rows.proofs.SlotLists.{settles_at}
use Rattle.catalog_rows.proofs.writing.end_one.Goals as goal

pub returns-in-Some : goal.returns-in-Some
returns-in-Some c =
    let step = slot_changed (end_if (is_ended c.args.committed.now c.args.stamp c.args.change.now) c.args.stamp) in
    settles_at step (ended_twice c.args.committed.now c.args.stamp c.args.change.now) c.args.number c.in-Some.at c.args.slots.now c.end_in.new.slot c.in-Some.ensures.0 c.in-Some.ensures.1
    (c.end_in.ensures ∙ ap step (get_or_default c.args.slots.now c.in-Some.at c.index-slots-at.result None c.in-Some.ensures.1))
