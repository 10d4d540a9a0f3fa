use Rattle.std.proofs.Common.{◌≡◌, rules}
use Rattle.command_answers.specs.declared.error.CommandError.TheVariants.{ColumnExists}
use Rattle.ddl_effect.specs.Plans.{Fails}
use Rattle.ddl_effect.specs.Tables.{creating}
use Rattle.ddl_effect.proofs.Replays.{comes_fails}
use Rattle.ddl_effect.proofs.table.create_table.Goals as goal

pub returns-in-Some : goal.returns-in-Some
returns-in-Some c =
    let twice : creating c.args.name c.args.columns.now ≡ Fails (ColumnExists c.in-Some.name) = search rules in
    rw c.fails-in-Some.ensures (comes_fails c.args.given.now (creating c.args.name c.args.columns.now) (ColumnExists c.in-Some.name) twice)
