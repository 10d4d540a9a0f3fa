-- Lists of grants by number.
use Rattle.std.specs.Prelude.{ℕ, List, [], nat_eq}
use Rattle.std.specs.Option.{option_map_or}
use Rattle.indexmap.specs.IndexMap.{get}
use Rattle.lock_modes.specs.Types.{Grant}
use Rattle.lock_modes.specs.declared.grant_lists.GrantLists.{GrantLists}

-- the grants of a number
abbrev pub grants_at : GrantLists → ℕ → List Grant
grants_at lists key = option_map_or (λ list. list.items) (get nat_eq lists.lists key) []

-- for how many more of a number there is room
abbrev pub room_at : GrantLists → ℕ → ℕ
room_at lists key = option_map_or (λ list. list.room) (get nat_eq lists.lists key) 0
