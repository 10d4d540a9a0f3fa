use Rattle.std.proofs.Common.{◌≡◌}
use Rattle.catalog_rows.specs.Index.{IsOnly, IsCurrent}
use Rattle.catalog_rows.proofs.committing.drop_listed.Given as goal

abbrev pub invariant-loop-turn : goal.invariant-loop-turn
invariant-loop-turn l = record {
  only : IsOnly l.indexes;
  current : IsCurrent l.committed l.slots l.indexes;
  all : l.indexes.all ≡ l.fn.indexes.all;
}
