use Rattle.std.proofs.Common.{◌∙◌, ◌++◌, sym, ap}
use Rattle.history_model.specs.Covered.{scans_of}
use Rattle.history_model.proofs.ListSteps.{all_at}
use Rattle.segment_rows.specs.Words.{covers_scan}
use Rattle.segment_rows.proofs.covering.covers_row.Goals as goal

pub loop-scan-preserved : goal.loop-scan-preserved
loop-scan-preserved c =
    let given = c.deref-scan-items.ensures.value ∙ c.in_ok-push_scans.ensures ∙ ap (λ l. l ++ scans_of c.args.row.now) c.new-scans.ensures.items in
    all_at (covers_scan c.args.store.now c.args.reader c.args.messages.now c.args.items.now) c.deref-scan-items.result.now (scans_of c.args.row.now) c.loop-scan.scan-index c.scan-item.result _ _ given c.loop-scan-test.true c.scan-item.is (sym c.if-not-branch.false ∙ c.in_ok-covers_scan.ensures) ∙ c.loop-scan.invariant

pub returns-then-not-branch : goal.returns-then-not-branch
returns-then-not-branch c =
    let given = c.deref-scan-items.ensures.value ∙ c.in_ok-push_scans.ensures ∙ ap (λ l. l ++ scans_of c.args.row.now) c.new-scans.ensures.items in
    all_at (covers_scan c.args.store.now c.args.reader c.args.messages.now c.args.items.now) c.deref-scan-items.result.now (scans_of c.args.row.now) c.loop-scan.scan-index c.scan-item.result _ _ given c.loop-scan-test.true c.scan-item.is (sym c.if-not-branch.true ∙ c.in_ok-covers_scan.ensures) ∙ c.loop-scan.invariant
