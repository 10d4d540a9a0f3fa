use Rattle.std.proofs.Common.{◌≡◌, map, take}
use Rattle.local_caches.specs.Caches.{kept_of}
use Rattle.cacheless.specs.State.{rows_kept, place_kept}
use Rattle.cacheless.specs.Told.{told_field}
use Rattle.cacheless.proofs.answering.shown_all.Given as goal

abbrev pub invariant-loop-field : goal.invariant-loop-field
invariant-loop-field l = l.fields ≡ map (told_field (rows_kept (kept_of l.caches)) (place_kept (kept_of l.caches)) l.locks.items l.rel l.kind) (take l.field-index l.field-items)
