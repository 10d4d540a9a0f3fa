-- Whose descriptor a reference names, and that the index and the pool agree.
use Rattle.std.specs.Prelude.{◌≡◌, ℕ, Bool, false, nat_eq, Option, Some}
use Rattle.std.specs.Option.{option_map}
use Rattle.indexmap.specs.IndexMap.{IndexMap, get}
use Rattle.pin_pool.specs.Entries.{Entry}
use Rattle.pin_pool.specs.Pools.{entry_of}
use Rattle.pin_pool.specs.declared.pool.Pool.{Pool}
use Rattle.pin_pool.specs.declared.reference.Ref.{Ref}
use Rattle.rel_cache.specs.declared.kept.Kept.{Kept}
use Rattle.rel_cache.specs.declared.kept.Place.{Place}

module _ {D : Type 0} where
  -- the relation of an entry, and whether it is dead
  abbrev pub whose : Entry (Kept D) → ℕ × Bool
  whose e = (e.value.rel.0, e.dead)

  -- the relation of the entry that a reference names, and whether it is dead
  abbrev pub named : Pool (Kept D) → Ref → Option (ℕ × Bool)
  named pool r = option_map whose (entry_of pool r)

module _ {D S : Type 0} where
  -- each place has an entry of its relation
  abbrev pub AreIndexed : Pool (Kept D) → IndexMap ℕ Place S → Type 0
  AreIndexed pool index = (rel : ℕ) (place : Place) → get nat_eq index rel ≡ Some place → named pool place.at ≡ Some (rel, false)

  -- each entry has its place
  abbrev pub ArePlaced : Pool (Kept D) → IndexMap ℕ Place S → Type 0
  ArePlaced pool index = (r : Ref) (rel : ℕ) (dead : Bool) → named pool r ≡ Some (rel, dead) → option_map (λ place. place.at) (get nat_eq index rel) ≡ Some r

-- a place with this mark
abbrev pub with_mark : Bool → Place → Place
with_mark valid place = record place { valid = valid }
