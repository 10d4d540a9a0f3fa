use Rattle.std.proofs.Common.{◌≡◌, drop}
use Rattle.std.specs.List.{list_all}
use Rattle.history_model.specs.Covered.{scans_of}
use Rattle.segment_rows.specs.Words.{covers_scan}
use Rattle.segment_rows.proofs.covering.covers_row.Given as goal

abbrev pub invariant-loop-scan : goal.invariant-loop-scan
invariant-loop-scan l =
    list_all (covers_scan l.store l.reader l.messages l.items) (drop l.scan-index (scans_of l.row)) ≡ list_all (covers_scan l.store l.reader l.messages l.items) (scans_of l.row)
