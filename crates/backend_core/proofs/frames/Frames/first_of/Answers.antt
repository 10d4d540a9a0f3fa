use Rattle.std.proofs.Common.{rules, tests, ◌∙◌}
use Rattle.std.proofs.lemmas.Iterator.{YieldsList-from_slice}
use Rattle.std.proofs.lemmas.Iterator.Search.{find_from_yields_List}
use Rattle.local_caches.specs.Caches.{kept_of}
use Rattle.local_caches.specs.Kept.{is_kept}
use Rattle.backend_core.specs.Frames.{is_left}
use Rattle.backend_core.proofs.frames.Frames.first_of.Goals as goal

pub returns : goal.returns
returns c = c.copied.ensures ∙ find_from_yields_List (is_left (is_kept (kept_of c.args.caches.now)) c.args.self.now) _ _ c.find.result c.find.ensures.ran (YieldsList-from_slice c.args.found.now cc) (λ x b q k. search (rules, tests))
