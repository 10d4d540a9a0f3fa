-- What goes from a pool.
use Rattle.std.specs.Prelude.{◌⊎◌, IsSome}
use Rattle.pin_pool.specs.Pools.{entry_of as pooled, HasGone, KeepsGone}
use Rattle.cat_cache.specs.Types.{Pool, Ref, Cached}

-- what has gone stays gone, and so does what isn't named any more; nothing else goes but what was named
pub record GoesNamed (old new : Pool Cached) : Type 0 where
  pub keeps : KeepsGone old new
  pub no_more : (r : Ref) → HasGone new r → HasGone old r ⊎ IsSome (pooled old r)

-- and nothing is named that wasn't
pub record OnlyGoes (old new : Pool Cached) : Type 0 where
  pub goes : GoesNamed old new
  pub fewer : (r : Ref) → IsSome (pooled new r) → IsSome (pooled old r)
