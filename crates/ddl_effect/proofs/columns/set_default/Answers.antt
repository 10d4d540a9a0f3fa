use Rattle.std.proofs.Common.{◌≡◌, rules, sym}
use Rattle.ddl_effect.specs.Parts.{column_there, writing}
use Rattle.ddl_effect.specs.Columns.{default_found}
use Rattle.ddl_effect.proofs.Replays.{comes_on}
use Rattle.ddl_effect.proofs.columns.set_default.Goals as goal

pub returns : goal.returns
returns c =
    let there : column_there c.args.column (default_found c.args.word c.args.rel) c.in_ok-search.field-0.now ≡ default_found c.args.word c.args.rel c.in-Some.row.now = search rules in
    comes_on c.write.result _ _ _ _ _ c.in_ok-search.ensures there
    (comes_on c.write.result _ _ _ _ (writing c.in_ok-with_default.field-0) c.in_ok-defaults.ensures (sym c.in_ok-with_default.ensures) c.write.ensures)
