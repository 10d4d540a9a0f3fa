use Rattle.shared_seg.proofs.Appended.{pushed}
use Rattle.shared_seg.proofs.places.Places.add.Goals as goal

pub returns-clause-ok : goal.returns-clause-ok
returns-clause-ok c = pushed _ _ _ _ c.push.ensures.entries c.in_ok-make_room.ensures.same.entries
