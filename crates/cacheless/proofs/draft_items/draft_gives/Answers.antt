use Rattle.std.proofs.Common.{◌∙◌, ap}
use Rattle.std.specs.List.{list_any}
use Rattle.std.specs.Str.{bytes_eq}
use Rattle.local_caches.specs.Caches.{kept_of}
use Rattle.cacheless.specs.Rule.{names_by}
use Rattle.cacheless.proofs.Matching.{any_given}
use Rattle.cacheless.proofs.draft_items.draft_gives.Goals as goal

pub returns : goal.returns
returns c = c.any_gives.ensures ∙ ap (list_any (λ change. list_any (bytes_eq c.args.name) (names_by (kept_of c.args.caches.now) change))) c.as_slice.ensures ∙ any_given (bytes_eq c.args.name) (names_by (kept_of c.args.caches.now)) c.args.draft.now.changes
