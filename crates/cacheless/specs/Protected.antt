-- The fields that nobody else can change under the locks that a backend holds.
use Rattle.std.specs.Prelude.{ℕ, Bool, List, []}
use Rattle.std.specs.Option.{option_map_or}
use Rattle.std.specs.List.{list_any, list_all}
use Rattle.base_types.specs.Modes.{conflicts, writers_of}
use Rattle.lock_modes.specs.Own.{clear_modes}
use Rattle.cacheless.specs.Types.{Oid, Mode, Kind, Field, Scenario, Entry}
use Rattle.cacheless.specs.Sessions.{session_of}

-- each mode in which others may change the field conflicts with one of these; a field that the kind lacks has no writers
abbrev pub protects : List Mode → Kind → Field → Bool
protects modes kind field = list_all (λ writer. list_any (conflicts writer) modes) (writers_of kind field)

-- the modes that a backend holds clear on a relation
abbrev pub clear_modes_of : Scenario → List Entry → ℕ → Oid → List Mode
clear_modes_of scenario history b rel = option_map_or (λ s. clear_modes s.locks rel) (session_of scenario history b) []

-- each mode in which others may change the field conflicts with one that the backend holds clear
abbrev pub is_protected : Scenario → List Entry → ℕ → Oid → Kind → Field → Bool
is_protected scenario history b rel kind field = protects (clear_modes_of scenario history b rel) kind field
