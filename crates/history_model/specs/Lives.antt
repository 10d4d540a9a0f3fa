-- How far the life of a backend has come.
use Rattle.std.specs.Prelude.{ℕ, Option, Some, None, List}
use Rattle.history_model.specs.Types.{Entry, Event}
use Rattle.history_model.specs.Prefixes.{along_own}
use Rattle.history_model.specs.After.{standing_of}
pub use Rattle.history_model.specs.Segment.{Life, Unstarted, Alive, Stopped, life_by, is_alive}

-- how far a backend's life has come
abbrev pub life_of : List Entry → ℕ → Life
life_of history b = (standing_of history b).life

-- the last event of a backend, if it has one
abbrev pub last_event_of : List Entry → ℕ → Option Event
last_event_of history b = along_own b (λ before old e. Some e.event) None history
