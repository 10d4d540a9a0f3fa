-- The bounded queue: which backends it has lapped, and what a backend fetches of it.
use Rattle.std.specs.Prelude.{ℕ, Bool, true, false, List, ◌≡◌, ◌+◌, nat_lt, ⊤, length}
use Rattle.history_model.specs.Types.{Entry, Event, Fetch, FetchReset}
use Rattle.history_model.specs.Prefixes.{EachEntry}
use Rattle.history_model.specs.Log.{log_of, position_of}

-- more messages wait for a backend than a queue of this size keeps
abbrev pub is_lapped : ℕ → List Entry → ℕ → Bool
is_lapped size history b = nat_lt (position_of history b + size) (length (log_of history))

-- what a backend fetches of a queue of this size: the next messages, or a reset where it was lapped
abbrev pub FetchesFrom : ℕ → List Entry → ℕ → Event → Type 0
FetchesFrom size before b (Fetch count) = is_lapped size before b ≡ false
FetchesFrom size before b FetchReset = is_lapped size before b ≡ true
FetchesFrom size before b event = ⊤

-- each fetch of a history is of a queue of this size
abbrev pub FollowsQueue : ℕ → List Entry → Type 0
FollowsQueue size history = EachEntry (λ before e. FetchesFrom size before e.backend e.event) history
