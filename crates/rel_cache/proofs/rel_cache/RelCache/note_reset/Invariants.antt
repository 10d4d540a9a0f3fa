use Rattle.std.proofs.Common.{◌≡◌, ◌≤◌}
use Rattle.std.specs.Option.{option_and_then}
use Rattle.indexmap.specs.IndexMap.{index_map_len}
use Rattle.base_types.specs.declared.ids.Oid.{Oid}
use Rattle.rel_cache.specs.Descriptors.{told}
use Rattle.rel_cache.specs.Caches.{held_of, StaysGone, AreTold}
use Rattle.rel_cache.proofs.rel_cache.RelCache.note_reset.Given as goal

-- from the place on all are told, and those before it are as they were
abbrev pub invariant-loop-place : goal.invariant-loop-place
invariant-loop-place g l = record {
  within : l.place ≤ index_map_len l.self.index;
  settled : AreTold l.self l.place;
  alike : (r : Oid) → option_and_then told (held_of l.self r) ≡ option_and_then told (held_of l.fn.self r);
  gone : StaysGone l.fn.self l.self;
}

abbrev pub decreases-loop-place : goal.decreases-loop-place
decreases-loop-place g l = l.place
