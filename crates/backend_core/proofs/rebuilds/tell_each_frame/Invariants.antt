use Rattle.std.proofs.Common.{◌≡◌, ◌++◌, map, take, drop}
use Rattle.local_caches.specs.Caches.{kept_of}
use Rattle.local_caches.specs.Kept.{is_kept}
use Rattle.backend_core.specs.Frames.{told_if}
use Rattle.backend_core.proofs.rebuilds.tell_each_frame.Given as goal

abbrev pub invariant-loop-frame : goal.invariant-loop-frame
invariant-loop-frame l = l.frames ≡ map (told_if (is_kept (kept_of l.caches)) l.rel) (take l.frame-index l.fn.frames) ++ drop l.frame-index l.fn.frames
