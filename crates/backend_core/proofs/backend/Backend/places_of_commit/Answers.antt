use Rattle.std.proofs.Common.{◌∙◌, ◌+◌, ap, min}
use Rattle.backend_core.proofs.CommitPlaces.{entries_are}
use Rattle.backend_core.proofs.backend.Backend.places_of_commit.Goals as goal

pub returns : goal.returns
returns c = c.min.ensures ∙ ap (λ n. min (n + 48) 4294967295) (entries_are c.args.self.now.progress c.cats_from.result.now c.rels_from.result.now _ _ c.cats_from.ensures c.rels_from.ensures c.publishes-cats.ensures c.publishes-rels.ensures)
