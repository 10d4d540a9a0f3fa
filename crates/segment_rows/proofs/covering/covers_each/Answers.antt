use Rattle.std.proofs.Common.{◌∙◌, ap, sym, arith}
use Rattle.std.specs.List.{list_all}
use Rattle.std.proofs.lemmas.List.{drop_all}
use Rattle.segment_rows.specs.Words.{covers_item}
use Rattle.segment_rows.proofs.covering.covers_each.Goals as goal

pub returns : goal.returns
returns c = sym (ap (list_all (covers_item c.args.store.now c.args.reader c.args.messages.now c.args.items.now)) (drop_all c.loop-item.item-index c.args.items.now (omega (arith, c.loop-item-test.false)))) ∙ c.loop-item.invariant
