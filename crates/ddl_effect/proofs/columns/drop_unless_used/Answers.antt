use Rattle.std.proofs.Common.{◌≡◌, refl, rules}
use Rattle.std.proofs.lemmas.Result.{err_from_is_err_and}
use Rattle.command_answers.specs.declared.error.CommandError.TheVariants.{ColumnUsed}
use Rattle.base_types.specs.declared.scan.Purpose.TheVariants as scans
use Rattle.ddl_effect.specs.Plans.{Fails}
use Rattle.ddl_effect.specs.Parts.{reading}
use Rattle.ddl_effect.specs.Columns.{drop_unreferred, drop_unindexed, dropping}
use Rattle.ddl_effect.proofs.Replays.{comes_on, comes_left, comes_fails}
use Rattle.ddl_effect.proofs.columns.drop_unless_used.Goals as goal

pub returns-then-is_used : goal.returns-then-is_used
returns-then-is_used c =
    let used : drop_unreferred c.args.column c.args.rel c.args.row.now c.in_ok-constraints.constraints.now ≡ Fails (ColumnUsed c.args.column) = search rules in
    rw c.fails.ensures (comes_on _ _ _ c.read.new.self _ _ c.in_ok-constraints.ensures used (comes_fails c.read.new.self (Fails (ColumnUsed c.args.column)) (ColumnUsed c.args.column) refl))

pub returns-in_err-indexes : goal.returns-in_err-indexes
returns-in_err-indexes c =
    let unused : drop_unreferred c.args.column c.args.rel c.args.row.now c.in_ok-constraints.constraints.now ≡ reading (scans.Index c.args.rel) (drop_unindexed c.args.column c.args.rel c.args.row.now) = search rules in
    let p = err_from_is_err_and c.from_residual-in_err-indexes.result c.from_residual-in_err-indexes.ensures.1 in
    rw (p.1, p.2, c.in_err-indexes.ensures.1) (comes_on _ _ _ _ _ _ c.in_ok-constraints.ensures unused (comes_left _ _ _ c.in_err-indexes.ensures.0 refl))

pub returns-then-is_used-2 : goal.returns-then-is_used-2
returns-then-is_used-2 c =
    let unused : drop_unreferred c.args.column c.args.rel c.args.row.now c.in_ok-constraints.constraints.now ≡ reading (scans.Index c.args.rel) (drop_unindexed c.args.column c.args.rel c.args.row.now) = search rules in
    let used : drop_unindexed c.args.column c.args.rel c.args.row.now c.in_ok-indexes.indexes.now ≡ Fails (ColumnUsed c.args.column) = search rules in
    rw c.fails-then-is_used-2.ensures (comes_on _ _ _ _ _ _ c.in_ok-constraints.ensures unused (comes_on _ _ _ c.read-2.new.self _ _ c.in_ok-indexes.ensures used (comes_fails c.read-2.new.self (Fails (ColumnUsed c.args.column)) (ColumnUsed c.args.column) refl)))

pub returns : goal.returns
returns c =
    let unused : drop_unreferred c.args.column c.args.rel c.args.row.now c.in_ok-constraints.constraints.now ≡ reading (scans.Index c.args.rel) (drop_unindexed c.args.column c.args.rel c.args.row.now) = search rules in
    let free : drop_unindexed c.args.column c.args.rel c.args.row.now c.in_ok-indexes.indexes.now ≡ reading (scans.AttrDef c.args.rel) (dropping c.args.row.now) = search rules in
    comes_on _ _ _ _ _ _ c.in_ok-constraints.ensures unused (comes_on _ _ _ _ _ _ c.in_ok-indexes.ensures free c.drop_unused.ensures)
