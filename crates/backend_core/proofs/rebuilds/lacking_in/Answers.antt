use Rattle.std.proofs.Common.{rules, tests, ◌∙◌, ◌&&◌}
use Rattle.std.proofs.lemmas.Iterator.{YieldsList-from_slice}
use Rattle.std.proofs.lemmas.Iterator.Search.{find_from_yields_List}
use Rattle.base_types.specs.Scans.{same_oid}
use Rattle.local_caches.specs.Caches.{kept_of}
use Rattle.local_caches.specs.Kept.{is_kept}
use Rattle.cacheless.specs.Suspects.{lacks}
use Rattle.backend_core.proofs.rebuilds.lacking_in.Goals as goal

pub returns : goal.returns
returns c = c.copied.ensures ∙ find_from_yields_List (λ o. same_oid c.args.rel o.rel && lacks (is_kept (kept_of c.args.caches.now)) o) _ _ c.find.result c.find.ensures.ran (YieldsList-from_slice c.args.held.now cc) (λ x b q k. search (rules, tests))
