use Rattle.std.proofs.Common.{◌∙◌, arith, []}
use Rattle.std.specs.List.{flat_map}
use Rattle.history_model.proofs.ListSteps.{flat_map_next, all_done}
use Rattle.segment_rows.specs.Words.{messages_at}
use Rattle.segment_rows.proofs.announcing.announced.Goals as goal

pub loop-item-preserved : goal.loop-item-preserved
loop-item-preserved c = c.in_ok-announce.ensures ∙ flat_map_next (messages_at c.args.store.now c.args.reader) [] c.args.items.now c.loop-item.item-index c.item-item.result _ _ c.loop-item-test.true c.item-item.is c.loop-item.invariant

pub returns : goal.returns
returns c = all_done (flat_map (messages_at c.args.store.now c.args.reader)) c.args.items.now c.loop-item.item-index c.loop-item.messages.items (omega (arith, c.loop-item-test.false)) c.loop-item.invariant
