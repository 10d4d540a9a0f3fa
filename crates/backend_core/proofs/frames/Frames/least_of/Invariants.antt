use Rattle.std.proofs.Common.{◌≡◌, take}
use Rattle.local_caches.specs.Caches.{kept_of}
use Rattle.local_caches.specs.Kept.{is_kept}
use Rattle.backend_core.specs.Frames.{least_left}
use Rattle.backend_core.proofs.frames.Frames.least_of.Given as goal

abbrev pub invariant-loop-o : goal.invariant-loop-o
invariant-loop-o l = l.least ≡ least_left (is_kept (kept_of l.caches)) l.self (take l.o-index l.held)
