use Rattle.std.proofs.Common.{◌≡◌, subst, sym, arith, rules, w32, SFits, to_z, of_z}
use Rattle.std.proofs.lemmas.Int.{to_z-of_z}
use Rattle.base_types.specs.declared.command.Command.TheVariants.{SetStatistics}
use Rattle.script_text.specs.Spelling.{AddsPieces, command_pieces}
use Rattle.script_text.proofs.command_writing.alteration.Goals as goal

pub returns-in-SetStatistics : goal.returns-in-SetStatistics
returns-in-SetStatistics c =
    let fits : SFits w32 c.in-SetStatistics.stat = search rules in
    let read : to_z w32 (of_z w32 c.in-SetStatistics.stat) ≡ c.in-SetStatistics.stat = grind (arith, to_z-of_z) in
    subst (λ written. AddsPieces c.args.out.now.items c.set_statistics.new.out.items c.set_statistics.result (command_pieces written)) (sym c.in-SetStatistics.is)
    (subst (λ z. AddsPieces c.args.out.now.items c.set_statistics.new.out.items c.set_statistics.result (command_pieces (SetStatistics c.in-SetStatistics.name c.in-SetStatistics.column z))) read c.set_statistics.ensures)
