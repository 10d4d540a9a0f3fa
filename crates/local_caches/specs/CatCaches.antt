-- What the catalog caches have together.
use Rattle.std.specs.Prelude.{◌≡◌, ◌≢◌, ℕ, Option, Some, List}
use Rattle.std.specs.Option.{option_map}
use Rattle.cat_cache.specs.Caches.{entry_of, list_of}
use Rattle.local_caches.specs.Types.{CacheId, RelName, RelOid, AttName, Row, CatCache, Lookup}
use Rattle.local_caches.specs.Kept.{Read}
use Rattle.local_caches.specs.Reads.{read_in, read_listed}
use Rattle.local_caches.specs.declared.home.Lookup.TheVariants as lookups
use Rattle.local_caches.specs.declared.cat_caches.CatCaches.{CatCaches}

-- the cache of a catalog
abbrev pub cache_of : CatCaches → CacheId → CatCache
cache_of c RelName = c.names
cache_of c RelOid = c.oids
cache_of c AttName = c.columns

-- what a lookup finds
unfoldable pub looked_up : CatCaches → Lookup → Option Read
looked_up c (lookups.Key id key) = option_map read_in (entry_of (cache_of c id) key)
looked_up c (lookups.List prefix) = option_map read_listed (list_of c.columns prefix)

-- they have what they had
abbrev pub HasAll : CatCaches → CatCaches → Type 0
HasAll old new = (lookup : Lookup) → looked_up new lookup ≡ looked_up old lookup

-- one lookup finds these rows now, and every other what it found
pub record PutsLookup (old new : CatCaches) (lookup : Lookup) (rows : List Row) (place : ℕ) : Type 0 where
  pub at : looked_up new lookup ≡ Some (record { rows = rows; at = place })
  pub others : (other : Lookup) → other ≢ lookup → looked_up new other ≡ looked_up old other
