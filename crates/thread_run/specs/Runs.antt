-- What a run of a script on threads keeps, and what it has made in the end.
use Rattle.std.specs.Prelude.{◌≡◌, List}
use Rattle.base_types.specs.Scenario.{Scenario}
use Rattle.event_kinds.specs.declared.entry.Entry.{Entry}
use Rattle.event_kinds.specs.declared.entry.Line.{Line}
use Rattle.history_model.specs.Lapped.{FollowsQueue}
use Rattle.history_model.specs.Sound.{IsSound}
use Rattle.history_model.specs.Read.{IsEconomical}
use Rattle.cacheless.specs.Lines.{lines_of}
use Rattle.cacheless.specs.Output.{IsAllowed, HaveStopped}
use Rattle.cacheless.specs.Played.{AreSpelled, IsPlayed}

-- what the backends of a script have entered so far: they played it, each fetch is of a queue of the script's size, and no scan is needless
pub record IsRunSoFar (scenario : Scenario) (history : List Entry) : Type 0 where
  pub played : IsPlayed scenario history
  pub queue : FollowsQueue scenario.size history
  pub economical : IsEconomical history

-- the history of a run is allowed and sound, and the script's commands have forms that lines may have, so that each law of such histories is one of it; all backends have stopped; the lines are those of the history
pub record IsRun (scenario : Scenario) (history : List Entry) (lines : List Line) : Type 0 where
  pub allowed : IsAllowed scenario history
  pub sound : IsSound history
  pub spelled : AreSpelled scenario
  pub stopped : HaveStopped scenario history
  pub lines_are : lines ≡ lines_of scenario history
