-- The keys of the catalog caches, and their hashes.
use Rattle.std.specs.Prelude.{ℕ, List, ◌+◌, ◌*◌, ◌%◌, ◌^◌, fold}
use Rattle.std.specs.Int.{to_be_bytes, w32}
use Rattle.std.specs.List.{flat_map}
use Rattle.base_types.specs.declared.key.CacheId.{CacheId}
use Rattle.base_types.specs.declared.key.CacheId.TheVariants.{RelName, RelOid, AttName}
use Rattle.base_types.specs.declared.key.KeyPart.{KeyPart}
use Rattle.base_types.specs.declared.key.KeyPart.TheVariants as parts

-- the part of a key that fills the places after its last one: the oid 0
abbrev pub no_part : KeyPart
no_part = parts.Oid (record { 0 = 0 })

-- the number of a catalog cache
abbrev pub cache_number : CacheId → ℕ
cache_number RelName = 1
cache_number RelOid = 2
cache_number AttName = 3

-- the bytes of a part: an oid as four bytes, the greatest first, and a name as it is
abbrev pub part_bytes : KeyPart → List ℕ
part_bytes (parts.Oid oid) = to_be_bytes w32 oid.0
part_bytes (parts.Name name) = name

-- the hash after one more byte
abbrev pub hash_byte : ℕ → ℕ → ℕ
hash_byte hash byte = (hash * 31 + byte) % 2 ^ 32

-- the hash after more bytes
abbrev pub hash_bytes : ℕ → List ℕ → ℕ
hash_bytes hash bytes = fold hash_byte hash bytes

-- the hash of a key in a cache
abbrev pub key_hash : CacheId → List KeyPart → ℕ
key_hash cache key = hash_bytes (cache_number cache) (flat_map part_bytes key)
