use Rattle.std.proofs.Common.{◌≡◌, drop}
use Rattle.base_types.specs.RowKeys.{are_distinct_keys}
use Rattle.history_ledger.proofs.writing.are_distinct.Given as goal

abbrev pub invariant-loop-at : goal.invariant-loop-at
invariant-loop-at l = are_distinct_keys (drop l.at l.keys) ≡ are_distinct_keys l.keys
