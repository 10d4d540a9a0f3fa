use Rattle.std.proofs.Common.{◌≡◌, take}
use Rattle.std.specs.List.{flat_map}
use Rattle.base_types.specs.CacheKeys.{cache_number, hash_bytes, part_bytes}
use Rattle.base_types.proofs.key_bytes.key_hash.Given as goal

abbrev pub invariant-loop-part : goal.invariant-loop-part
invariant-loop-part l = l.hash ≡ hash_bytes (cache_number l.fn.cache) (flat_map part_bytes (take l.part-index l.part-items))
