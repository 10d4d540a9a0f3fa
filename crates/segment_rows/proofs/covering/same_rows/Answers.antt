use Rattle.std.proofs.Common.{◌∙◌, sym, arith}
use Rattle.history_model.specs.Covered.{counted_for}
use Rattle.segment_rows.proofs.Answers.{lengths_differ, same_at, same_end}
use Rattle.segment_rows.proofs.covering.same_rows.Goals as goal

pub returns-then-given-others : goal.returns-then-given-others
returns-then-given-others c = sym (lengths_differ (counted_for c.args.scan.now) c.args.given.now c.args.others.now c.if-given-others.true)

pub loop-at-preserved : goal.loop-at-preserved
loop-at-preserved c = record {
  long = c.loop-at.invariant.long;
  rest = same_at (counted_for c.args.scan.now) c.args.given.now c.args.others.now c.loop-at.at _ _ _ _ _ _ _ c.loop-at-test.true c.loop-at.invariant.long c.index-given-at.is c.index-others-at.is c.counted_for.ensures c.counted_for-in-loop-at.ensures (sym c.if-not-same_row.false ∙ c.same_row.ensures) ∙ c.loop-at.invariant.rest;
}

pub returns-then-not-same_row : goal.returns-then-not-same_row
returns-then-not-same_row c =
    same_at (counted_for c.args.scan.now) c.args.given.now c.args.others.now c.loop-at.at _ _ _ _ _ _ _ c.loop-at-test.true c.loop-at.invariant.long c.index-given-at.is c.index-others-at.is c.counted_for.ensures c.counted_for-in-loop-at.ensures (sym c.if-not-same_row.true ∙ c.same_row.ensures) ∙ c.loop-at.invariant.rest

pub returns : goal.returns
returns c = sym (same_end (counted_for c.args.scan.now) c.args.given.now c.args.others.now c.loop-at.at (omega (arith, c.loop-at-test.false)) c.loop-at.invariant.long) ∙ c.loop-at.invariant.rest
