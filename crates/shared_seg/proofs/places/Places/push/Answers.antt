use Rattle.std.proofs.Common.{◌∙◌, ◌++◌, ◌∷◌, [], ap}
use Rattle.shared_seg.specs.Places.{Placed}
use Rattle.shared_seg.proofs.places.Places.push.Goals as goal

pub returns-clause-entries : goal.returns-clause-entries
returns-clause-entries c = c.push_reserved.ensures.items ∙ ap (λ (p : Placed). p.entries ++ c.args.entry ∷ []) c.self.view_is
