-- What the caches keep to among themselves.
use Rattle.std.specs.Prelude.{◌≡◌, ◌+◌, ℕ, Bool, List, [], ◌∷◌, if◌then◌else◌}
use Rattle.std.specs.List.{list_any}
use Rattle.std.specs.Option.{option_map_or}
use Rattle.pin_pool.specs.declared.reference.Ref.{Ref}
use Rattle.base_types.specs.Scans.{same_oid}
use Rattle.cat_cache.specs.Caches.{cache_id, shown}
use Rattle.rel_cache.specs.Caches.{held_of}
use Rattle.local_caches.specs.Types.{Oid, RelName, RelOid, AttName, CatCache, RelCache}
use Rattle.local_caches.specs.declared.part.Part.{Part}
use Rattle.local_caches.specs.Parts.{pins_held}

-- each cache is of its catalog
pub record AreOfTheirs (names oids columns : CatCache) : Type 0 where
  pub names_are : cache_id names ≡ RelName
  pub oids_are : cache_id oids ≡ RelOid
  pub columns_are : cache_id columns ≡ AttName

-- what the references of a cache show has no pin
pub record IsUnpinned (cache : CatCache) : Type 0 where
  pub none : (r : Ref) → option_map_or (λ e. e.pins) (shown cache r) 0 ≡ 0

-- so it is in each cache: nothing that is taken out stays behind
pub record AreUnpinned (names oids columns : CatCache) : Type 0 where
  pub names_are : IsUnpinned names
  pub oids_are : IsUnpinned oids
  pub columns_are : IsUnpinned columns

-- a relation is one of these
abbrev pub is_one_of : Oid → List Oid → Bool
is_one_of rel rels = list_any (λ other. same_oid other rel) rels

-- how often a relation stands among these
abbrev pub times : Oid → List Oid → ℕ
times rel [] = 0
times rel (other ∷ others) = times rel others + (if same_oid other rel then 1 else 0)

-- each descriptor has one pin for each time that its relation stands among these
abbrev pub ArePinned : RelCache (List Part) → List Oid → Type 0
ArePinned relations pinned = (rel : Oid) → pins_held (held_of relations rel) ≡ times rel pinned
