-- A sound history is legal, and orderly.
use Rattle.std.proofs.Common.{List}
use Rattle.event_kinds.specs.declared.entry.Entry.{Entry}
use Rattle.history_model.specs.Legal.{IsAllowed, IsLegal}
use Rattle.history_model.specs.Sound.{MayComeNext, IsSound}
use Rattle.history_model.specs.Orderly.{IsOrderly, AreOrderly}
use Rattle.history_model.proofs.Allows.{allows_decides}
use Rattle.history_model.proofs.Prefixes.{EachEntry-weaker}

-- each entry of a sound history may follow those before it
pub sound_is_legal : (history : List Entry) → IsSound history → IsLegal history
sound_is_legal history sound = EachEntry-weaker MayComeNext IsAllowed (λ before e comes. (allows_decides before e).1 comes.follows) history sound

-- and keeps order
pub sound_is_orderly : (history : List Entry) → IsSound history → AreOrderly history
sound_is_orderly history sound = EachEntry-weaker MayComeNext IsOrderly (λ before e comes. comes.orderly) history sound
