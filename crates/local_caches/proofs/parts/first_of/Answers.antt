use Rattle.std.proofs.Common.{rules, tests, not, is_some, ◌∙◌}
use Rattle.std.proofs.lemmas.Iterator.{YieldsList-from_slice}
use Rattle.std.proofs.lemmas.Iterator.Search.{find_from_yields_List}
use Rattle.std.specs.List.{find}
use Rattle.base_types.specs.Scans.{same_scan as same}
use Rattle.local_caches.proofs.parts.first_of.Goals as goal

pub returns : goal.returns
returns c =
    c.copied.ensures
    ∙ find_from_yields_List (λ scan. not (is_some (find (λ part. same part.scan scan) c.args.parts.now))) _ _ c.find.result c.find.ensures.ran (YieldsList-from_slice c.args.wanted.now cc) (λ x b q k. search (rules, tests))
