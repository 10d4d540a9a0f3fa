use Rattle.std.proofs.Common.{rules, tests, ◌∙◌}
use Rattle.std.proofs.lemmas.Iterator.{YieldsList-from_slice}
use Rattle.std.proofs.lemmas.Iterator.Search.{find_from_yields_List}
use Rattle.local_caches.specs.Caches.{kept_of}
use Rattle.cacheless.specs.State.{is_kept}
use Rattle.cacheless.specs.Suspects.{lacks}
use Rattle.cacheless.proofs.scans.first_lacking.Goals as goal

pub returns : goal.returns
returns c = c.copied.ensures ∙ find_from_yields_List (lacks (is_kept (kept_of c.args.caches.now))) _ _ c.find.result c.find.ensures.ran (YieldsList-from_slice c.args.opened.now cc) (λ x b q k. search (rules, tests))
