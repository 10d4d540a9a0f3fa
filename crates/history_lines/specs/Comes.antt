-- Whether an entry may come next in the session of its backend, by what is held.
use Rattle.std.specs.Prelude.{ℕ, Bool, ◌+◌, ◌==◌, ◌&&◌, if◌then◌else◌}
use Rattle.cacheless.specs.May.{may_play_now}
use Rattle.cacheless.specs.Nexts.{is_start}
use Rattle.history_lines.specs.Types.{Event, Session}

-- a start comes first; after that an entry of the running command comes next where the command lets it
abbrev pub comes_at : ℕ → Session → ℕ → Event → Bool
comes_at next s command event = if s.is_started then (command == s.progress.finished + 1) && may_play_now next s.progress event else is_start event
