-- The order in which backends do what their commands say, as a test: one pass over a history.
use Rattle.std.specs.Prelude.{ℕ, Bool, true, false, Option, Some, None, List, [], ◌∷◌, ◌++◌, ◌==◌, ◌&&◌, nat_le, length, slice_get}
use Rattle.event_kinds.specs.declared.entry.Event.TheVariants as events
use Rattle.ddl_effect.specs.Commands.{commands_of}
use Rattle.history_model.specs.Drawn.{next_oid}
use Rattle.cacheless.specs.Types.{Scenario, Entry, Event}
use Rattle.cacheless.specs.Facts.{facts_of}
use Rattle.cacheless.specs.Session.{Session, number_of}
use Rattle.cacheless.specs.Work.{work_of}
use Rattle.cacheless.specs.Sessions.{session_of}
use Rattle.cacheless.specs.Rule.{may_come}

-- the event is a start
abbrev pub is_start : Event → Bool
is_start events.Start = true
is_start event = false

-- what may come next: the start, or what the session says, with the number of its command
abbrev pub is_next_event : Scenario → List Entry → ℕ → Option Session → ℕ → Event → Bool
is_next_event scenario before b None c event = is_start event
is_next_event scenario before b (Some s) c event = (c == number_of s) && may_come (next_oid before) (facts_of before b) (slice_get (commands_of scenario b) (length s.finished)) (work_of s) event

-- an entry is what a backend of the script may do next
abbrev pub is_next : Scenario → List Entry → Entry → Bool
is_next scenario before e = nat_le 1 e.backend && nat_le e.backend scenario.backends && is_next_event scenario before e.backend (session_of scenario before e.backend) e.command e.event

-- each of the entries, by those before it
abbrev pub are_next : Scenario → List Entry → List Entry → Bool
are_next scenario before [] = true
are_next scenario before (e ∷ rest) = is_next scenario before e && are_next scenario (before ++ e ∷ []) rest
