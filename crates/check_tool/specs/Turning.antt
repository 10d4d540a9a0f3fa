-- What the code holds of a history: who waits for messages, who has stopped, and whose turn comes.
use Rattle.std.specs.Prelude.{◌≡◌, ◌+◌, ℕ, Bool, true, false, Option, Some, None, List, length, slice_get}
use Rattle.std.specs.Option.{option_map}
use Rattle.event_kinds.specs.declared.entry.Event.TheVariants.{Start, Fetch, FetchReset, Publish, Stop}
use Rattle.history_model.specs.Lives.{life_of}
use Rattle.history_model.specs.declared.life.Life.{Life}
use Rattle.history_model.specs.declared.life.Life.TheVariants.{Alive}
use Rattle.history_model.specs.Log.{log_of, position_of}
use Rattle.cacheless.specs.Schedule.{has_stopped}
use Rattle.check_tool.specs.Types.{Entry, Event}

-- how many messages a living backend is past
abbrev pub place_at : Life → ℕ → Option ℕ
place_at (Alive command) position = Some position
place_at life position = None

-- how many messages a backend is past, if it lives
abbrev pub place_of : List Entry → ℕ → Option ℕ
place_of history b = place_at (life_of history b) (position_of history b)

-- the number of messages that were published, and how many of them each backend is past
pub record TellPlaces (history : List Entry) (published : ℕ) (places : List (Option ℕ)) : Type 0 where
  pub published_is : published ≡ length (log_of history)
  pub each : (i : ℕ) (place : Option ℕ) → slice_get places i ≡ Some place → place ≡ place_of history (i + 1)

-- whether each backend has stopped
abbrev pub TellStopped : List Entry → List Bool → Type 0
TellStopped history stopped = (i : ℕ) (has : Bool) → slice_get stopped i ≡ Some has → has ≡ has_stopped history (i + 1)

-- how many messages were published, after an event
abbrev pub published_after : Event → ℕ → ℕ
published_after (Publish count) old = old + count
published_after event old = old

-- how many messages a backend is past after one of its events, where so many were published before
abbrev pub place_after : ℕ → Event → Option ℕ → Option ℕ
place_after published Start old = Some published
place_after published FetchReset old = Some published
place_after published (Fetch count) old = option_map (λ place. place + count) old
place_after published Stop old = None
place_after published event old = old

-- whether a backend has stopped, after one of its events
abbrev pub stopped_after : Event → Bool
stopped_after Stop = true
stopped_after event = false
