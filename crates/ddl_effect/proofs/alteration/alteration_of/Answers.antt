use Rattle.std.proofs.Common.{◌≡◌, ◌∙◌, ap, sym, arith, rules, w32, SFits, to_z, of_z}
use Rattle.std.proofs.lemmas.Int.{to_z-of_z}
use Rattle.base_types.specs.declared.command.Command.TheVariants.{SetStatistics}
use Rattle.ddl_effect.specs.Commands.{plan_of}
use Rattle.ddl_effect.specs.Stages.{alteration_plan}
use Rattle.ddl_effect.proofs.alteration.alteration_of.Goals as goal

pub returns-in-AddColumn : goal.returns-in-AddColumn
returns-in-AddColumn c = λ opens. ap (alteration_plan opens) c.alters.ensures ∙ sym (ap (plan_of opens) c.in-AddColumn.is)

pub returns-in-DropColumn : goal.returns-in-DropColumn
returns-in-DropColumn c = λ opens. ap (alteration_plan opens) c.alters-in-DropColumn.ensures ∙ sym (ap (plan_of opens) c.in-DropColumn.is)

pub returns-in-RenameColumn : goal.returns-in-RenameColumn
returns-in-RenameColumn c = λ opens. ap (alteration_plan opens) c.alters-in-RenameColumn.ensures ∙ sym (ap (plan_of opens) c.in-RenameColumn.is)

pub returns-in-SetStatistics : goal.returns-in-SetStatistics
returns-in-SetStatistics c =
    let fits : SFits w32 c.in-SetStatistics.stat = search rules in
    let read : to_z w32 (of_z w32 c.in-SetStatistics.stat) ≡ c.in-SetStatistics.stat = grind (arith, to_z-of_z) in
    λ opens. ap (alteration_plan opens) c.alters-in-SetStatistics.ensures
    ∙ ap (λ z. plan_of opens (SetStatistics c.in-SetStatistics.name c.in-SetStatistics.column z)) read
    ∙ sym (ap (plan_of opens) c.in-SetStatistics.is)

pub returns-in-SetFillfactor : goal.returns-in-SetFillfactor
returns-in-SetFillfactor c = λ opens. ap (alteration_plan opens) c.alters-in-SetFillfactor.ensures ∙ sym (ap (plan_of opens) c.in-SetFillfactor.is)

pub returns-in-RenameTable : goal.returns-in-RenameTable
returns-in-RenameTable c = λ opens. ap (alteration_plan opens) c.alters-in-RenameTable.ensures ∙ sym (ap (plan_of opens) c.in-RenameTable.is)

pub returns-in-SetDefault : goal.returns-in-SetDefault
returns-in-SetDefault c = λ opens. ap (alteration_plan opens) c.alters-in-SetDefault.ensures ∙ sym (ap (plan_of opens) c.in-SetDefault.is)

pub returns-in-AddCheck : goal.returns-in-AddCheck
returns-in-AddCheck c = λ opens. ap (alteration_plan opens) c.alters-in-AddCheck.ensures ∙ sym (ap (plan_of opens) c.in-AddCheck.is)

pub returns-in-AddForeign : goal.returns-in-AddForeign
returns-in-AddForeign c = λ opens. ap (alteration_plan opens) c.alters-in-AddForeign.ensures ∙ sym (ap (plan_of opens) c.in-AddForeign.is)

pub returns-in-SetTrigger : goal.returns-in-SetTrigger
returns-in-SetTrigger c = λ opens. ap (alteration_plan opens) c.alters-in-SetTrigger.ensures ∙ sym (ap (plan_of opens) c.in-SetTrigger.is)

pub returns-in-RenameIndex : goal.returns-in-RenameIndex
returns-in-RenameIndex c = λ opens. ap (alteration_plan opens) c.alters-in-RenameIndex.ensures ∙ sym (ap (plan_of opens) c.in-RenameIndex.is)
