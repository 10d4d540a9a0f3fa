use Rattle.std.proofs.Common.{◌∙◌}
use Rattle.cacheless.specs.State.{kept_at, is_kept}
use Rattle.backend_core.proofs.Stacking.OfRelation.{noted_lacking}
use Rattle.backend_core.proofs.rebuilds.lacking_held.Goals as goal

pub lacking_noted-requires : goal.lacking_noted-requires
lacking_noted-requires c = (c.in-Some.ensures _ _ c.args.progress.now.known).ascending

pub returns-in-Some : goal.returns-in-Some
returns-in-Some c = c.lacking_noted.ensures ∙ noted_lacking (is_kept (kept_at c.args.progress.now)) c.args.rel c.args.progress.now.opened c.in-Some.found.now (c.in-Some.ensures _ _ c.args.progress.now.known)
