-- What it makes of a catalog cache that something is put into it.
use Rattle.std.specs.Prelude.{◌≡◌, ◌≢◌, ℕ, Some, List}
use Rattle.std.specs.Option.{option_map}
use Rattle.cat_cache.specs.Caches.{cache_id, entry_of, list_of}
use Rattle.local_caches.specs.Types.{KeyPart, Row, CatCache}
use Rattle.local_caches.specs.Reads.{read_in, read_listed}

-- the key has these rows now, and nothing else changes
pub record PutsKey (old new : CatCache) (key : List KeyPart) (rows : List Row) (place : ℕ) : Type 0 where
  pub id : cache_id new ≡ cache_id old
  pub at : option_map read_in (entry_of new key) ≡ Some (record { rows = rows; at = place })
  pub others : (other : List KeyPart) → other ≢ key → entry_of new other ≡ entry_of old other
  pub lists : (prefix : List KeyPart) → list_of new prefix ≡ list_of old prefix

-- the keys that begin with these parts have these rows now, and nothing else changes
pub record PutsList (old new : CatCache) (prefix : List KeyPart) (rows : List Row) (place : ℕ) : Type 0 where
  pub id : cache_id new ≡ cache_id old
  pub at : option_map read_listed (list_of new prefix) ≡ Some (record { rows = rows; at = place })
  pub others : (other : List KeyPart) → other ≢ prefix → list_of new other ≡ list_of old other
  pub entries : (key : List KeyPart) → entry_of new key ≡ entry_of old key
