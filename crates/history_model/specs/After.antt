-- What an entry makes of a segment, and so what a history leaves.
use Rattle.std.specs.Prelude.{ℕ, Bool, List, ◌||◌, ◌==◌, ◌&&◌, nat_lt, if◌then◌else◌, length, fold}
use Rattle.inval_messages.specs.Lists.{Written}
use Rattle.history_model.specs.Types.{Entry, Event}
use Rattle.history_model.specs.Segment.{Standing, Segment, no_entries, life_by, is_alive, asks, running_by, makes_visible, last_xid_by, wrote_by}
use Rattle.history_model.specs.Rows.{versions_after}
use Rattle.history_model.specs.Messages.{written_at, items_in, lists_after, log_after, position_after, waited_after}
use Rattle.history_model.specs.Grants.{held_by}
use Rattle.history_model.specs.Oids.{next_oid_by}

-- a backend after its own event, which has these messages if it is a write, where the log has so many messages then
abbrev pub standing_by : Written → ℕ → ℕ → Event → Standing → Standing
standing_by written end command event own = record {
  life = life_by command event;
  asked = asks event;
  running = running_by command event own.running;
  lists = lists_after written event own.running own.lists;
  position = position_after end event own.position;
  waited = waited_after (is_alive (life_by command event) && nat_lt (position_after end event own.position) end) event own.waited;
  wrote = wrote_by command event own.wrote;
}

-- in a segment
abbrev pub standing_after : Segment → ℕ → ℕ → Event → Standing
standing_after s b command event = standing_by (written_at s b command (items_in event)) (length (log_after (s.standing b) event s.log)) command event (s.standing b)

-- the segment after an event of a backend in a command
abbrev pub after_event : Segment → ℕ → ℕ → Event → Segment
after_event s b command event = record {
  versions = versions_after s b command event s.versions;
  committed = λ x. s.committed x || makes_visible x event;
  held = held_by b command event s.held;
  log = log_after (s.standing b) event s.log;
  next_oid = next_oid_by event s.next_oid;
  last_xid = last_xid_by event s.last_xid;
  standing = λ a. if b == a then standing_after s b command event else s.standing a;
}

-- after an entry
abbrev pub after_entry : Segment → Entry → Segment
after_entry s e = after_event s e.backend e.command e.event

-- what a history leaves
abbrev pub segment_of : List Entry → Segment
segment_of history = fold after_entry no_entries history

-- of a backend
abbrev pub standing_of : List Entry → ℕ → Standing
standing_of history b = (segment_of history).standing b
