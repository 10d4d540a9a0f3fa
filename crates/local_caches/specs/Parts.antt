-- The scans that a descriptor is built of, and what the relation cache has of them.
use Rattle.std.specs.Prelude.{◌≡◌, ◌≢◌, ◌++◌, ℕ, Option, Some, None, List, [], ◌∷◌, if◌then◌else◌}
use Rattle.std.specs.Option.{option_map, option_map_or}
use Rattle.std.specs.List.{find}
use Rattle.base_types.specs.Scans.{same_scan}
use Rattle.rel_cache.specs.Caches.{held_of}
use Rattle.local_caches.specs.Types.{Oid, Row, Purpose, Held, RelCache}
use Rattle.local_caches.specs.declared.part.Part.{Part}
use Rattle.local_caches.specs.Kept.{Read}

-- what a scan gave for a descriptor
abbrev pub read_part : Part → Read
read_part part = record { rows = part.rows; at = part.at }

-- what is kept of a scan is this
pub record IsPartOf (part : Part) (scan : Purpose) (rows : List Row) (place : ℕ) : Type 0 where
  pub of : part.scan ≡ scan
  pub gave : part.rows ≡ rows
  pub at : part.at ≡ place

-- what the scan gave that is among these
abbrev pub part_kept : List Part → Purpose → Option Read
part_kept parts scan = option_map read_part (find (λ part. same_scan part.scan scan) parts)

-- the scans that a descriptor has; none where it is to be built anew
abbrev pub parts_held : Option (Held (List Part)) → List Part
parts_held None = []
parts_held (Some h) = if h.valid then h.value else []

-- how often a descriptor is pinned
abbrev pub pins_held : Option (Held (List Part)) → ℕ
pins_held held = option_map_or (λ h. h.pins) held 0

-- each relation has the scans and the pins that it had
pub record KeepsParts (old new : RelCache (List Part)) : Type 0 where
  pub parts : (rel : Oid) → parts_held (held_of new rel) ≡ parts_held (held_of old rel)
  pub pins : (rel : Oid) → pins_held (held_of new rel) ≡ pins_held (held_of old rel)

-- the relation has one scan more, and every relation the pins that it had
pub record PutsPart (old new : RelCache (List Part)) (rel : Oid) (part : Part) : Type 0 where
  pub at : parts_held (held_of new rel) ≡ parts_held (held_of old rel) ++ part ∷ []
  pub others : (other : Oid) → other ≢ rel → parts_held (held_of new other) ≡ parts_held (held_of old other)
  pub pins : (other : Oid) → pins_held (held_of new other) ≡ pins_held (held_of old other)
