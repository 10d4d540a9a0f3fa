-- What the laws of commands ask of a history.
use Rattle.std.specs.Prelude.{List}
use Rattle.std.specs.List.{AllByRecursion}
use Rattle.base_types.specs.Commands.{IsCommand}
use Rattle.history_model.specs.Sound.{IsSound}
use Rattle.history_model.specs.Prefixes.{EachEntry}
use Rattle.cacheless.specs.Types.{Scenario, Entry}
use Rattle.cacheless.specs.Plays.{Plays}
use Rattle.cacheless.specs.TableWrites.{WritesColumns, WritesIndexes, WritesNamesApart}

-- the commands of a script have forms that lines may have
abbrev pub AreSpelled : Scenario → Type 0
AreSpelled scenario = AllByRecursion (λ p. IsCommand p.command) scenario.commands

-- a sound history in which the backends do what the commands of a script say, which have forms that lines may have, and of which each write keeps the columns of tables, and indexes whole, and gives no name to two relations
pub record IsPlayed (scenario : Scenario) (history : List Entry) : Type 0 where
  pub sound : IsSound history
  pub plays : Plays scenario history
  pub columns : EachEntry WritesColumns history
  pub indexes : EachEntry WritesIndexes history
  pub names : EachEntry WritesNamesApart history
  pub spelled : AreSpelled scenario
