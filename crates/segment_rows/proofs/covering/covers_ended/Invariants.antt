use Rattle.std.proofs.Common.{◌≡◌, drop}
use Rattle.std.specs.List.{list_all}
use Rattle.catalog_rows.specs.Store.{rows_with_key}
use Rattle.segment_rows.specs.Words.{covers_row}
use Rattle.segment_rows.proofs.covering.covers_ended.Given as goal

abbrev pub invariant-loop-index : goal.invariant-loop-index
invariant-loop-index l = list_all (covers_row l.store l.reader l.messages l.items) (drop l.index (rows_with_key l.store l.key l.reader)) ≡ list_all (covers_row l.store l.reader l.messages l.items) (rows_with_key l.store l.key l.reader)
