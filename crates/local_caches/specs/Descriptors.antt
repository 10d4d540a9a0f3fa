-- What the descriptors of a backend have together.
use Rattle.std.specs.Prelude.{◌≡◌, ◌≢◌, ◌++◌, ℕ, Bool, List, [], ◌∷◌, is_some}
use Rattle.rel_cache.specs.Caches.{held_of}
use Rattle.local_caches.specs.Types.{Oid}
use Rattle.local_caches.specs.declared.part.Part.{Part}
use Rattle.local_caches.specs.Parts.{parts_held, pins_held}
use Rattle.local_caches.specs.declared.descriptors.Descriptors.{Descriptors}

-- the scans that a relation's descriptor has
unfoldable pub parts_of : Descriptors → Oid → List Part
parts_of d rel = parts_held (held_of d.relations rel)

-- a relation has a descriptor, if only one that is to be built anew
unfoldable pub has_descriptor : Descriptors → Oid → Bool
has_descriptor d rel = is_some (held_of d.relations rel)

-- how often a relation's descriptor is pinned
unfoldable pub pins_of : Descriptors → Oid → ℕ
pins_of d rel = pins_held (held_of d.relations rel)

-- each descriptor is pinned as often as it was
abbrev pub HasPins : Descriptors → Descriptors → Type 0
HasPins old new = (rel : Oid) → pins_of new rel ≡ pins_of old rel

-- each relation has the scans that it had
abbrev pub HasParts : Descriptors → Descriptors → Type 0
HasParts old new = (rel : Oid) → parts_of new rel ≡ parts_of old rel

-- the relation has one scan more
pub record AddsPart (old new : Descriptors) (rel : Oid) (part : Part) : Type 0 where
  pub at : parts_of new rel ≡ parts_of old rel ++ part ∷ []
  pub others : (other : Oid) → other ≢ rel → parts_of new other ≡ parts_of old other
