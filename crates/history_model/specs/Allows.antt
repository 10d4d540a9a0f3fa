-- What a segment allows as the next entry, whichever commands the backends run.
use Rattle.std.specs.Prelude.{ℕ, Bool, true, false, not, Option, Some, None, List, ◌≡◌, ◌+◌, ◌-◌, ◌==◌, ◌&&◌, nat_le, nat_lt, min, length, is_none}
use Rattle.std.specs.Option.{option_map_or}
use Rattle.std.specs.List.{list_any}
use Rattle.base_types.specs.Modes.{same_mode}
use Rattle.lock_modes.specs.Grants.{is_lock, holds, first_conflict}
use Rattle.inval_messages.specs.Lists.{has_write_from}
use Rattle.history_model.specs.Types.{Oid, Xid, Mode, Grant, Entry, Event, Start, Look, Fetch, FetchReset, LockOk, LockHeld, Unlock, Scan, Write, ClashRow, ClashRunning, Visible, Publish, Release, Gone, Stop}
use Rattle.history_model.specs.Segment.{Life, Unstarted, Alive, Stopped, Asked, Nothing, LookedYes, TookBack, Running, Standing, Segment, is_visible, ends_transaction, has_xid}
use Rattle.history_model.specs.Rows.{answer_at}
use Rattle.history_model.specs.Messages.{left_at, unsent_at, waits_at}
use Rattle.history_model.specs.InUse.{users_at, named_at}
use Rattle.history_model.specs.Changing.{is_empty, may_write}

-- a start comes first and once, with command 0; nothing follows a stop; command numbers never fall
abbrev pub follows_life : Life → ℕ → Event → Bool
follows_life Unstarted command Start = command == 0
follows_life (Alive last) command Start = false
follows_life (Alive last) command event = nat_le last command
follows_life life command event = false

-- between a backend's visibility step and the release after it only publishes of it come
abbrev pub follows_visible : Bool → Event → Bool
follows_visible false event = true
follows_visible true (Publish count) = true
follows_visible true (Release from) = true
follows_visible true event = false

-- after writes were taken back comes the release of the same commands
abbrev pub follows_gone : Asked → Event → Bool
follows_gone (TookBack from) (Release to) = to == from
follows_gone (TookBack from) event = false
follows_gone asked event = true

-- the last event was a look that said yes
abbrev pub has_looked : Asked → Bool
has_looked LookedYes = true
has_looked asked = false

-- a look says yes only where a message waits, and no only where none waited at the backend's last entry that is no look
abbrev pub may_look : ℕ → Standing → Bool → Bool
may_look end own true = waits_at end own
may_look end own false = not own.waited

-- after a look that said yes come all messages that wait, and 32 at most
abbrev pub may_fetch : ℕ → Standing → ℕ → Bool
may_fetch end own count = has_looked own.asked && (count == min 32 (end - own.position))

-- a lock isn't held already, and nobody is in its way
abbrev pub may_lock : List Grant → ℕ → Oid → Mode → Bool
may_lock held b rel mode = not (holds held b rel mode) && is_none (first_conflict held b rel mode)

-- the grant is of this holder, in this mode
abbrev pub is_holder : ℕ → Mode → Option Grant → Bool
is_holder holder mode None = false
is_holder holder mode (Some grant) = (grant.backend == holder) && same_mode grant.mode mode

-- a lock isn't held already, and this is the first holder in its way
abbrev pub may_refuse : List Grant → ℕ → Oid → Mode → ℕ → Mode → Bool
may_refuse held b rel mode holder other = not (holds held b rel mode) && is_holder holder other (first_conflict held b rel mode)

-- a grant of the mode on the relation to the backend, in this command
abbrev pub is_lock_of : ℕ → ℕ → Oid → Mode → Grant → Bool
is_lock_of b c rel mode g = is_lock b rel mode g && (g.command == c)

-- a backend unlocks what it locked in the command that runs, of which no write stands
abbrev pub may_unlock : List Grant → ℕ → ℕ → Standing → Oid → Mode → Bool
may_unlock held b c own rel mode = list_any (is_lock_of b c rel mode) held && not (has_write_from c own.lists)

-- a visible transaction sends what is left of the part at hand, and 64 messages at most
abbrev pub may_publish : Standing → ℕ → Bool
may_publish own count = is_visible own.running && nat_le 1 count && (count == min 64 (length (unsent_at own)))

-- nothing of its messages is left
abbrev pub is_all_sent : Standing → Bool
is_all_sent own = length (left_at own) == 0

-- a visible transaction releases all its locks at once, when all is sent; any other releases those of commands of which no write stands
abbrev pub may_release : Bool → Standing → ℕ → Bool
may_release true own from = ends_transaction from own.running && is_all_sent own
may_release false own from = not (has_write_from from own.lists)

-- what a backend may do next of what ends transactions, and whether it may stop
abbrev pub may_end : ℕ → Standing → Event → Bool
may_end c own (Visible xid) = has_xid xid.0 own.running && has_write_from 0 own.lists
may_end c own (Publish count) = may_publish own count
may_end c own (Gone from) = has_write_from from own.lists
may_end c own (Release from) = nat_le from c && may_release (is_visible own.running) own from
may_end c own Stop = is_none own.running
may_end c own event = false

-- what a segment allows a backend to do in this command
abbrev pub allows_event : Segment → ℕ → ℕ → Event → Bool
allows_event s b c Start = true
allows_event s b c (Look some_wait) = may_look (length s.log) (s.standing b) some_wait
allows_event s b c (Fetch count) = may_fetch (length s.log) (s.standing b) count
allows_event s b c FetchReset = has_looked (s.standing b).asked
allows_event s b c (Scan purpose rows) = rows == length (answer_at s b purpose)
allows_event s b c (LockOk rel mode) = may_lock s.held b rel mode
allows_event s b c (LockHeld rel mode holder other) = may_refuse s.held b rel mode holder other
allows_event s b c (Unlock rel mode) = may_unlock s.held b c (s.standing b) rel mode
allows_event s b c (Write xid items) = may_write s b c xid items
allows_event s b c (ClashRunning name xid) = list_any (λ user. user == xid.0) (users_at s b name)
allows_event s b c (ClashRow name rel) = is_empty (users_at s b name) && named_at s b name rel
allows_event s b c event = may_end c (s.standing b) event

-- an event follows the last one of its backend: its life goes on, and what ends a transaction is done in order
abbrev pub follows_own : ℕ → Standing → Event → Bool
follows_own c own event = follows_life own.life c event && follows_visible (is_visible own.running) event && follows_gone own.asked event

-- a segment allows an entry next
abbrev pub allows : Segment → Entry → Bool
allows s e = follows_own e.command (s.standing e.backend) e.event && allows_event s e.backend e.command e.event

-- more messages wait for a backend than a queue of this size keeps
abbrev pub is_lapped_at : ℕ → ℕ → Standing → Bool
is_lapped_at size end own = nat_lt (own.position + size) end

-- a fetch of messages is by a backend that a queue of this size hasn't lapped, a reset by one that it has
abbrev pub fetches_from : ℕ → ℕ → Standing → Event → Bool
fetches_from size end own (Fetch count) = not (is_lapped_at size end own)
fetches_from size end own FetchReset = is_lapped_at size end own
fetches_from size end own event = true
