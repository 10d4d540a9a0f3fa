-- What a cache holds of a relation, and what a call may change.
use Rattle.std.specs.Prelude.{◌≡◌, ◌≢◌, ◌&&◌, ℕ, ◌<◌, ◌≤◌, Bool, true, false, not, nat_eq, nat_lt, Option, Some, slice_index}
use Rattle.std.specs.Option.{option_map, option_and_then, option_map_or}
use Rattle.indexmap.specs.IndexMap.{get, keys, index_map_len}
use Rattle.base_types.specs.declared.ids.Oid.{Oid}
use Rattle.pin_pool.specs.Pools.{entry_of, HasGone, KeepsGone}
use Rattle.pin_pool.specs.declared.pool.Pool.{Pool}
use Rattle.pin_pool.specs.declared.reference.Ref.{Ref}
use Rattle.rel_cache.specs.Descriptors.{Held, told}
use Rattle.rel_cache.specs.declared.kept.Kept.{Kept}
use Rattle.rel_cache.specs.declared.kept.Place.{Place}
use Rattle.rel_cache.specs.declared.rel_cache.RelCache.{RelCache}

module _ {D : Type 0} where
  -- the descriptor at a place
  abbrev pub held_at : Pool (Kept D) → Place → Option (Held D)
  held_at pool place = option_map (λ e. record { at = place.at; value = e.value.value; pins = e.pins; valid = place.valid }) (entry_of pool place.at)

  -- the descriptor of a relation
  unfoldable pub held_of : RelCache D → Oid → Option (Held D)
  held_of cache rel = option_and_then (held_at cache.descriptors) (get nat_eq cache.index rel.0)

  -- the relation's descriptor is held under the reference
  abbrev pub HeldUnder : RelCache D → Oid → Ref → Type 0
  HeldUnder cache rel r = option_map (λ h. h.at) (held_of cache rel) ≡ Some r

  -- the reference was given by the cache, and its descriptor has gone
  abbrev pub HasGoneFrom : RelCache D → Ref → Type 0
  HasGoneFrom cache r = HasGone cache.descriptors r

  -- what has gone stays gone, and so does what isn't held any more: its reference is never given again
  abbrev pub StaysGone : RelCache D → RelCache D → Type 0
  StaysGone old new = KeepsGone old.descriptors new.descriptors

  -- this is held of the relation now, and of every other what was
  pub record ChangesHeld (old new : RelCache D) (rel : Oid) (held : Option (Held D)) : Type 0 where
    pub at : held_of new rel ≡ held
    pub others : (other : Oid) → other ≢ rel → held_of new other ≡ held_of old other

  -- the relation's descriptor is pinned and to be built anew, and the relation is above another one, if one is given
  abbrev pub awaits : RelCache D → Option Oid → Oid → Bool
  awaits cache above rel = option_map_or (λ other. nat_lt other.0 rel.0) above true && option_map_or (λ h. not h.valid && nat_lt 0 h.pins) (held_of cache rel) false

  -- the relation at a place of the index
  abbrev pub relation_at : RelCache D → ℕ → Oid
  relation_at cache place = record { 0 = slice_index (keys cache.index) place }

  -- what is held of the relations from a place of the index on is as a message leaves it
  abbrev pub AreTold : RelCache D → ℕ → Type 0
  AreTold cache from = (place : ℕ) → from ≤ place → place < index_map_len cache.index → option_and_then told (held_of cache (relation_at cache place)) ≡ held_of cache (relation_at cache place)
