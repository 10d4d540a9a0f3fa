use Rattle.std.proofs.Common.{take, drop, fold}
use Rattle.catalog_rows.specs.Slots.{new_slots, after_slots}
use Rattle.catalog_rows.proofs.EndedEach.{first_ends, next_slots, next_count, next_indexed, next_current, next_noted}
use Rattle.catalog_rows.proofs.writing.end_each.Goals as goal

pub end_versions-requires : goal.end_versions-requires
end_versions-requires c =
    let i = c.loop-change.invariant in
    first_ends c.args.committed.now c.args.stamp c.change-item.result c.loop-change.slots (fold (after_slots c.args.committed.now c.args.stamp) (take c.args.first c.args.slots.now) (take c.loop-change.change-index c.args.changes.now))
    (new_slots c.args.stamp (drop c.loop-change.change-index c.args.changes.now)) c.loop-change.count c.ends.result.now i.slots i.count
    (c.ends.ensures c.args.committed.now c.loop-change.slots c.args.stamp i.indexed.numbered i.indexed.only i.current)

pub loop-change-preserved : goal.loop-change-preserved
loop-change-preserved c =
    let committed = c.args.committed.now in
    let stamp = c.args.stamp in
    let changes = c.args.changes.now in
    let change = c.change-item.result in
    let k = c.loop-change.change-index in
    let slots = c.loop-change.slots in
    let start = take c.args.first c.args.slots.now in
    let front = fold (after_slots c.args.committed.now c.args.stamp) (take c.args.first c.args.slots.now) (take c.loop-change.change-index c.args.changes.now) in
    let behind = new_slots c.args.stamp (drop c.loop-change.change-index c.args.changes.now) in
    let i = c.loop-change.invariant in
    record {
      count = next_count committed stamp start changes k change c.loop-change.count c.count_added-count.result c.loop-change-test.true c.change-item.is i.count c.count_added-count.ensures;
      slots = next_slots committed stamp start changes k change slots c.end_versions.new.slots c.loop-change.count c.loop-change-test.true c.change-item.is i.slots i.count c.end_versions.ensures;
      indexed = next_indexed committed stamp change changes k slots front behind c.end_versions.new.slots c.loop-change.count c.args.lists.now c.loop-change-test.true c.change-item.is i.slots i.count c.end_versions.ensures i.indexed i.noted;
      current = next_current committed stamp change slots front behind c.end_versions.new.slots c.loop-change.count c.args.lists.now.indexes i.slots i.count c.end_versions.ensures i.current;
      noted = next_noted committed stamp change changes k slots front behind c.end_versions.new.slots c.loop-change.count c.args.lists.now c.loop-change-test.true c.change-item.is i.slots i.count c.end_versions.ensures i.noted;
    }
