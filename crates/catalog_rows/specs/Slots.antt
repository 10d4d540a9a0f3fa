-- The slots of versions: each number has one, with its version unless an undo took that back.
use Rattle.std.specs.Prelude.{ℕ, Bool, true, false, Option, Some, None, List, [], ◌∷◌, ◌++◌, ◌≡◌, ◌+◌, ◌⊎◌, map, slice_index_or, if◌then◌else◌}
use Rattle.std.specs.Option.{option_map_or}
use Rattle.std.specs.List.{flat_map}
use Rattle.catalog_rows.specs.Types.{Change, Stamp, Version}
use Rattle.catalog_rows.specs.Store.{option_items, new_version, is_ended, end_if, restored}

-- an element of a list
abbrev pub IsIn : {X : Type 0} → X → List X → Type 0
IsIn x [] = ⊥
IsIn x (y ∷ ys) = (x ≡ y) ⊎ IsIn x ys

-- the version in a slot
abbrev pub slot_at : List (Option Version) → ℕ → Option Version
slot_at slots j = slice_index_or slots j None

-- the version with a number: that of the first slot is 1
abbrev pub version_numbered : List (Option Version) → ℕ → Option Version
version_numbered slots n = slot_at (None ∷ slots) n

-- the version with a number, if there is a number
abbrev pub version_for : List (Option Version) → Option ℕ → Option Version
version_for slots None = None
version_for slots (Some n) = version_numbered slots n

-- there is a version with a number, and it passes a test
abbrev pub passes_at : (Version → Bool) → List (Option Version) → ℕ → Bool
passes_at test slots n = option_map_or test (version_numbered slots n) false

-- all versions, in the order of their slots
abbrev pub versions_in : List (Option Version) → List Version
versions_in slots = flat_map option_items slots

-- the numbers of the versions that pass a test, where the first slot has this number
abbrev pub numbers_at : (Version → Bool) → ℕ → List (Option Version) → List ℕ
numbers_at test n [] = []
numbers_at test n (None ∷ slots) = numbers_at test (n + 1) slots
numbers_at test n (Some v ∷ slots) = if test v then n ∷ numbers_at test (n + 1) slots else numbers_at test (n + 1) slots

-- the numbers of all versions
abbrev pub numbers_in : List (Option Version) → List ℕ
numbers_in slots = numbers_at (λ v. true) 1 slots

-- the steps at a slot: its version is changed, or taken back where a test says so
abbrev pub slot_changed : (Version → Version) → Option Version → Option Version
slot_changed f None = None
slot_changed f (Some v) = Some (f v)

abbrev pub slot_back : (Stamp → Bool) → Option Version → Option Version
slot_back back None = None
slot_back back (Some v) = if back v.by then None else Some (restored back v)

-- the slots of the versions that changes add
abbrev pub new_slots : Stamp → List Change → List (Option Version)
new_slots stamp changes = flat_map (λ change. map Some (option_items (new_version stamp change))) changes

-- the slots after a change
abbrev pub after_slots : List Bool → Stamp → List (Option Version) → Change → List (Option Version)
after_slots committed stamp slots change = map (slot_changed (end_if (is_ended committed stamp change) stamp)) slots ++ new_slots stamp (change ∷ [])

-- a step is made at each listed slot, or makes no difference there
pub record Settles (step : Option Version → Option Version) (list : List ℕ) (old new : List (Option Version)) : Type 0 where
  pub same : map step new ≡ map step old
  pub listed : (j : ℕ) → IsIn j list → step (slot_at new j) ≡ slot_at new j
  pub stays : (j : ℕ) → step (slot_at old j) ≡ slot_at old j → step (slot_at new j) ≡ slot_at new j
