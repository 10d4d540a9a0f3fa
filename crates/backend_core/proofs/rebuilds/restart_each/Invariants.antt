use Rattle.std.proofs.Common.{◌≡◌, ◌++◌, map, take, drop}
use Rattle.local_caches.specs.Caches.{kept_of}
use Rattle.local_caches.specs.Kept.{is_kept}
use Rattle.backend_core.specs.Frames.{restarted}
use Rattle.backend_core.proofs.rebuilds.restart_each.Given as goal

abbrev pub invariant-loop-frame : goal.invariant-loop-frame
invariant-loop-frame l = l.frames ≡ map (restarted (is_kept (kept_of l.caches))) (take l.frame-index l.fn.frames) ++ drop l.frame-index l.fn.frames
