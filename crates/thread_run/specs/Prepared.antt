-- What a run begins with.
use Rattle.std.specs.Prelude.{◌≡◌, ◌<◌, List, map, length}
use Rattle.std.specs.List.{range_with_len}
use Rattle.base_types.specs.Scenario.{Scenario, IsScript}
use Rattle.event_kinds.specs.declared.entry.Entry.{Entry}
use Rattle.turn_table.specs.declared.pass.Pass.{Pass}
use Rattle.turn_table.specs.declared.turned.Turned.{Ghosts}
use Rattle.turn_table.specs.Passes.{start_of, seats_of}
use Rattle.backend_core.specs.declared.backend.Backend.{Backend}
use Rattle.thread_run.specs.Scripts.{Play}
use Rattle.thread_run.specs.Seats.{AllPairs, MaySit}
use Rattle.thread_run.specs.Workers.{Table}

module _ {of : Ghosts Play Entry Scenario} where
  -- a table for the script, with a pass for each backend in order of their numbers, and each backend before its first turn
  pub record IsPrepared (scenario : Scenario) (table : Table) (passes : List (Pass Play Entry Scenario of)) (backends : List Backend) : Type 0 where
    pub script : (start_of table).whole ≡ scenario
    pub is_script : IsScript scenario
    pub seats : seats_of table ≡ scenario.backends
    pub may : AllPairs (MaySit table) passes backends
    pub numbers : map (λ p. p.number) passes ≡ range_with_len 1 scenario.backends
    pub count : length passes ≡ scenario.backends
    pub some : 0 < length passes
    pub as_many : length backends ≡ scenario.backends
