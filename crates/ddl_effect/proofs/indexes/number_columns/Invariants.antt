use Rattle.std.proofs.Common.{◌≡◌, [], drop, length}
use Rattle.ddl_effect.specs.Indexes.{numbering}
use Rattle.ddl_effect.specs.Replays.{after_all}
use Rattle.ddl_effect.proofs.indexes.number_columns.Given as goal

abbrev pub invariant-loop-column : goal.invariant-loop-column
invariant-loop-column l = record {
  goes : after_all l.fn.given (numbering l.name l.rel l.columns []) ≡ after_all l.given (numbering l.name l.rel (drop l.column-index l.columns) l.nums.items);
  many : length l.nums.items ≡ l.column-index;
}
