use Rattle.std.proofs.Common.{◌≡◌, false, length, ap, arith, []}
use Rattle.std.proofs.lemmas.Bool.Decides.{nat_tests}
use Rattle.command_answers.specs.declared.error.CommandError.TheVariants.{TooManyColumns}
use Rattle.ddl_effect.specs.Parts.{if_passes}
use Rattle.ddl_effect.specs.Indexes.{create_index, is_index_width, numbering}
use Rattle.ddl_effect.proofs.Replays.{comes_fails}
use Rattle.ddl_effect.proofs.indexes.create_index.Goals as goal

pub returns-then-columns-lt1 : goal.returns-then-columns-lt1
returns-then-columns-lt1 c =
    let wrong : is_index_width (length c.args.columns.now) ≡ false = grind (arith, nat_tests) in
    rw c.fails.ensures (comes_fails c.args.given.now (create_index c.args.name c.args.columns.now c.args.rel) TooManyColumns (ap (λ t. if_passes t TooManyColumns (numbering c.args.name c.args.rel c.args.columns.now [])) wrong))
