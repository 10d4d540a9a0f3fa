-- What an entry of a backend meets when it is made.
use Rattle.std.specs.Prelude.{ℕ, List}
use Rattle.history_model.specs.Lapped.{FetchesFrom}
use Rattle.history_model.specs.Sound.{MayComeNext}
use Rattle.history_model.specs.Read.{ScansOnlyIfNeeded}
use Rattle.cacheless.specs.Types.{Scenario, Entry, Event}
use Rattle.cacheless.specs.Plays.{IsNext}
use Rattle.cacheless.specs.Schedule.{LooksTruly}
use Rattle.cacheless.specs.TableWrites.{KeepsColumnsBy, KeepsIndexesBy, NamesApartBy}

-- beside the order of entries and the plan of its command: a scan is needed, a look is true, a write keeps the columns of tables, keeps indexes whole, gives no name to two relations, and a fetch is of a queue of the script's size
pub record SuitsHistory (scenario : Scenario) (before : List Entry) (b : ℕ) (event : Event) : Type 0 where
  pub needed : ScansOnlyIfNeeded before b event
  pub truly : LooksTruly before b event
  pub columns : KeepsColumnsBy before b event
  pub indexes : KeepsIndexesBy before b event
  pub names : NamesApartBy event
  pub queue : FetchesFrom scenario.size before b event

-- an entry that the entries before it and the script allow
pub record MayEnter (scenario : Scenario) (before : List Entry) (e : Entry) : Type 0 where
  pub comes : MayComeNext before e
  pub next : IsNext scenario before e
  pub suits : SuitsHistory scenario before e.backend e.event
