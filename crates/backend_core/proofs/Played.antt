-- A history that was played so far, with one more entry.
use Rattle.std.proofs.Common.{List, [], ◌∷◌, ◌++◌}
use Rattle.history_model.specs.Sound.{MayComeNext}
use Rattle.history_model.specs.Prefixes.{EachEntry}
use Rattle.history_model.proofs.Prefixes.{EachEntry-more, EachEntry-weaker}
use Rattle.cacheless.specs.Plays.{IsNext}
use Rattle.cacheless.specs.TableWrites.{WritesColumns, WritesIndexes, WritesNamesApart}
use Rattle.cacheless.specs.MayEnter.{MayEnter}
use Rattle.backend_core.specs.Types.{Scenario, Entry}
use Rattle.backend_core.specs.Agrees.{AreSpelled, IsPlayed}

-- one more entry
pub IsPlayed-more : (scenario : Scenario) (history : List Entry) (e : Entry) → IsPlayed scenario history → MayEnter scenario history e → IsPlayed scenario (history ++ e ∷ [])
IsPlayed-more scenario history e played may = record {
  sound = EachEntry-more MayComeNext history e played.sound may.comes;
  plays = EachEntry-more (IsNext scenario) history e played.plays may.next;
  columns = EachEntry-more WritesColumns history e played.columns may.suits.columns;
  indexes = EachEntry-more WritesIndexes history e played.indexes may.suits.indexes;
  names = EachEntry-more WritesNamesApart history e played.names may.suits.names;
  spelled = played.spelled;
}

-- a history of which each entry was one that might be made by the commands of a script
pub entered_played : (scenario : Scenario) (history : List Entry) → AreSpelled scenario → EachEntry (MayEnter scenario) history → IsPlayed scenario history
entered_played scenario history spelled entered = record {
  sound = EachEntry-weaker (MayEnter scenario) MayComeNext (λ before e may. may.comes) history entered;
  plays = EachEntry-weaker (MayEnter scenario) (IsNext scenario) (λ before e may. may.next) history entered;
  columns = EachEntry-weaker (MayEnter scenario) WritesColumns (λ before e may. may.suits.columns) history entered;
  indexes = EachEntry-weaker (MayEnter scenario) WritesIndexes (λ before e may. may.suits.indexes) history entered;
  names = EachEntry-weaker (MayEnter scenario) WritesNamesApart (λ before e may. may.suits.names) history entered;
  spelled = spelled;
}
