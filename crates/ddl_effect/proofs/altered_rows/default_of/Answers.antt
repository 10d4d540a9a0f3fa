use Rattle.std.proofs.Common.{rules, tests, ◌∙◌}
use Rattle.std.proofs.lemmas.Iterator.{YieldsList-from_slice}
use Rattle.std.proofs.lemmas.Iterator.Search.{find_from_yields_List}
use Rattle.ddl_effect.specs.Commands.{is_default_of}
use Rattle.ddl_effect.proofs.altered_rows.default_of.Goals as goal

pub returns : goal.returns
returns c =
    c.copied.ensures ∙ find_from_yields_List (is_default_of c.args.num) _ _ c.find.result c.find.ensures.ran (YieldsList-from_slice c.args.defaults.now cc) (λ x b q k. search (rules, tests))
