use Rattle.std.proofs.Common.{◌∙◌, ◌+◌, ◌&&◌, Bool, sym, ap, drop}
use Rattle.std.specs.List.{list_all}
use Rattle.catalog_rows.specs.Store.{rows_with_key}
use Rattle.history_model.proofs.ListSteps.{all_next, all_end}
use Rattle.segment_rows.specs.Types.{Row}
use Rattle.segment_rows.specs.Words.{covers_row}
use Rattle.segment_rows.proofs.covering.covers_ended.Goals as goal

pub returns-in_default : goal.returns-in_default
returns-in_default c =
    sym (all_end (covers_row c.args.store.now c.args.reader c.args.messages.now c.args.items.now) (rows_with_key c.args.store.now c.args.key.now c.args.reader) c.loop-index.index (sym c.row_at.ensures ∙ c.in_default.is)) ∙ c.loop-index.invariant

pub returns-then-not-covered : goal.returns-then-not-covered
returns-then-not-covered c =
    let covers : Row → Bool = covers_row c.args.store.now c.args.reader c.args.messages.now c.args.items.now in
    let rest = drop (c.loop-index.index + 1) (rows_with_key c.args.store.now c.args.key.now c.args.reader) in
    sym (all_next covers (rows_with_key c.args.store.now c.args.key.now c.args.reader) c.loop-index.index c.in-Some.row (sym c.row_at.ensures ∙ c.in-Some.is) ∙ ap (λ t. t && list_all covers rest) (sym c.in_ok-covered.ensures ∙ c.if-not-covered.true)) ∙ c.loop-index.invariant

pub loop-index-preserved : goal.loop-index-preserved
loop-index-preserved c =
    let covers : Row → Bool = covers_row c.args.store.now c.args.reader c.args.messages.now c.args.items.now in
    let rest = drop (c.loop-index.index + 1) (rows_with_key c.args.store.now c.args.key.now c.args.reader) in
    sym (all_next covers (rows_with_key c.args.store.now c.args.key.now c.args.reader) c.loop-index.index c.in-Some.row (sym c.row_at.ensures ∙ c.in-Some.is) ∙ ap (λ t. t && list_all covers rest) (sym c.in_ok-covered.ensures ∙ c.if-not-covered.false)) ∙ c.loop-index.invariant
