use Rattle.std.proofs.Common.{◌∙◌, ◌++◌, ◌∷◌, [], ap, sym}
use Rattle.ddl_effect.specs.Types.{Insert}
use Rattle.ddl_effect.proofs.Tables.{changes_for-more}
use Rattle.ddl_effect.proofs.table.new_table.Goals as goal

pub loop-i-preserved : goal.loop-i-preserved
loop-i-preserved c =
    c.in_ok-push-2.ensures.ok
    ∙ ap (λ l. l ++ Insert c.column_row.result ∷ []) c.loop-i.invariant
    ∙ sym (changes_for-more c.args.name c.args.columns.now c.loop-i.i c.index-columns-i.result (Insert c.column_row.result) c.loop-i-test.true c.index-columns-i.is c.column_row.ensures)
