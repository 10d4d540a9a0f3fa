use Rattle.ddl_effect.proofs.LatestOpen.{FindsLatest}
use Rattle.ddl_effect.proofs.opens.latest_place.Given as goal

abbrev pub invariant-loop-at : goal.invariant-loop-at
invariant-loop-at l = FindsLatest l.name l.opens l.at l.place
