use Rattle.std.proofs.Common.{◌∙◌, ap, sym, arith}
use Rattle.std.specs.List.{flat_map}
use Rattle.std.proofs.lemmas.List.{drop_all}
use Rattle.history_model.specs.Drawn.{drawn_by}
use Rattle.history_model.specs.Changing.{are_from}
use Rattle.history_ledger.proofs.writing.draws_next.Goals as goal

pub returns : goal.returns
returns c = sym (ap (λ items. are_from c.loop-item.next (flat_map drawn_by items)) (drop_all c.loop-item.item-index c.args.items.now (omega (arith, c.loop-item-test.false)))) ∙ c.loop-item.invariant.rest
