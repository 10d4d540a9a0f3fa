-- Histories that are legal and orderly, as the laws take them.
use Rattle.std.specs.Prelude.{List}
use Rattle.history_model.specs.Types.{Entry}
use Rattle.history_model.specs.Prefixes.{EachEntry}
use Rattle.history_model.specs.MayFollow.{MayFollow}
use Rattle.history_model.specs.Orderly.{IsOrderly}

-- an entry may follow those before it, and keeps order
pub record MayComeNext (before : List Entry) (e : Entry) : Type 0 where
  pub follows : MayFollow before e
  pub orderly : IsOrderly before e

-- a history is legal and orderly
abbrev pub IsSound : List Entry → Type 0
IsSound history = EachEntry MayComeNext history
