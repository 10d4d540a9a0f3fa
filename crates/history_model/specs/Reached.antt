-- How long the log was when those who hold a lock on a relation last let it go with all their messages sent.
use Rattle.std.specs.Prelude.{ℕ, Bool, true, false, List, ◌&&◌, length}
use Rattle.lock_modes.specs.Grants.{holds}
use Rattle.history_model.specs.Types.{Oid, Mode, Entry, Event, Release}
use Rattle.history_model.specs.Prefixes.{along}
use Rattle.history_model.specs.Transactions.{running_transaction_of, is_visible}
use Rattle.history_model.specs.Held.{held_of}
use Rattle.history_model.specs.Log.{log_of}

-- a backend whose transaction is visible holds the mode on the relation
abbrev pub is_writer : List Entry → ℕ → Oid → Mode → Bool
is_writer history a rel mode = is_visible (running_transaction_of history a) && holds (held_of history) a rel mode

-- how far the log reached, after an event of a backend, by the entries before it; an unlock is of a lock of a command of which no write stands
abbrev pub reached_by : List Entry → ℕ → Oid → Mode → Event → ℕ → ℕ
reached_by before a rel mode (Release from) old = elim (is_writer before a rel mode) [ true ↦ length (log_of before) | false ↦ old ]
reached_by before a rel mode event old = old

-- how long the log was when a visible holder of the mode on the relation last released its locks
abbrev pub reached_of : List Entry → Oid → Mode → ℕ
reached_of history rel mode = along (λ before old e. reached_by before e.backend rel mode e.event old) 0 history
