-- The relations that a session has open, each under the name by which it was opened.
use Rattle.std.specs.Prelude.{ℕ, Bool, Option, Some, None, List, [], ◌∷◌, ◌++◌, ◌+◌, if◌then◌else◌, slice_get, take, drop, filter, nat_lt}
use Rattle.std.specs.Option.{option_and_then}
use Rattle.std.specs.List.{list_any}
use Rattle.std.specs.Str.{bytes_eq}
use Rattle.base_types.specs.Scans.{same_oid}
use Rattle.ddl_effect.specs.Types.{Oid, OpenRelation}

-- the place of the latest that was opened under a name, where the first of these has this place, and one before them this
abbrev pub place_in : List ℕ → ℕ → Option ℕ → List OpenRelation → Option ℕ
place_in name at before [] = before
place_in name at before (o ∷ opens) = place_in name (at + 1) (if bytes_eq name o.name then Some at else before) opens

-- the place of the latest that was opened under a name
abbrev pub place_latest : List ℕ → List OpenRelation → Option ℕ
place_latest name opens = place_in name 0 None opens

-- the latest that was opened under a name
abbrev pub latest_open : List ℕ → List OpenRelation → Option OpenRelation
latest_open name opens = option_and_then (slice_get opens) (place_latest name opens)

-- all but that one
abbrev pub without_latest : List ℕ → List OpenRelation → List OpenRelation
without_latest name opens = elim (place_latest name opens) [ Some at ↦ take at opens ++ drop (at + 1) opens | None ↦ opens ]

-- those that were opened by commands before this one
abbrev pub opens_before : ℕ → List OpenRelation → List OpenRelation
opens_before from opens = filter (λ o. nat_lt o.command from) opens

-- the relation is open
abbrev pub has_open : Oid → List OpenRelation → Bool
has_open rel opens = list_any (λ o. same_oid o.rel rel) opens
