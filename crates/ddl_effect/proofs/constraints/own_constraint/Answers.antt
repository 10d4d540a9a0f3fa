use Rattle.std.proofs.Common.{rules, tests, ◌∙◌}
use Rattle.std.proofs.lemmas.Iterator.{YieldsList-from_slice}
use Rattle.std.proofs.lemmas.Iterator.Search.{find_from_yields_List}
use Rattle.ddl_effect.specs.Constraints.{is_own_named}
use Rattle.ddl_effect.proofs.constraints.own_constraint.Goals as goal

pub returns : goal.returns
returns c =
    c.copied.ensures ∙ find_from_yields_List (is_own_named c.args.rel c.args.name) _ _ c.find.result c.find.ensures.ran (YieldsList-from_slice c.args.constraints.now cc) (λ x b q k. search (rules, tests))
