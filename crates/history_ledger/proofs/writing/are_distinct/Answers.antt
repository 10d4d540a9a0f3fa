use Rattle.std.proofs.Common.{◌∙◌, ap, sym, arith}
use Rattle.std.proofs.lemmas.List.{drop_all}
use Rattle.base_types.specs.RowKeys.{are_distinct_keys}
use Rattle.history_ledger.proofs.writing.are_distinct.Goals as goal

pub returns : goal.returns
returns c = sym (ap are_distinct_keys (drop_all c.loop-at.at c.args.keys.now (omega (arith, c.loop-at-test.false)))) ∙ c.loop-at.invariant
