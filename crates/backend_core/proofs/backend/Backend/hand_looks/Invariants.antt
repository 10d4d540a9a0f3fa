use Rattle.std.proofs.Common.{◌≡◌, ◌++◌, take}
use Rattle.backend_core.specs.Looks.{entries_of, TakesPlaces}
use Rattle.backend_core.proofs.backend.Backend.hand_looks.Given as goal

abbrev pub invariant-loop-look : goal.invariant-loop-look
invariant-loop-look g l = (g.L.Seg.script l.seg ≡ g.L.Seg.script l.fn.seg)
    × (g.L.Seg.history l.seg ≡ g.L.Seg.history l.fn.seg ++ entries_of l.self.progress.id (take l.look-index l.looks))
    × TakesPlaces (g.L.Seg.promised l.fn.seg) (g.L.Seg.promised l.seg) l.self.progress.id l.look-index
