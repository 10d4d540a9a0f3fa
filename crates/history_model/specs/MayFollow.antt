-- What a history allows as its next entry, as a relation that proofs take apart and build; the rule of Allows decides it.
use Rattle.std.specs.Prelude.{ℕ, Bool, true, false, Option, Some, None, List, [], ◌≡◌, ◌≤◌, ◌==◌, ◌&&◌, ◌-◌, min, length, ⊤}
use Rattle.std.specs.Option.{option_map}
use Rattle.std.specs.List.{list_any}
use Rattle.lock_modes.specs.Grants.{holds, first_conflict}
use Rattle.inval_messages.specs.Lists.{has_write_from}
use Rattle.history_model.specs.Types.{Oid, Mode, Grant, Entry, Event, Start, Look, Fetch, FetchReset, LockOk, LockHeld, Unlock, Scan, Write, ClashRow, ClashRunning, Visible, Publish, Release, Gone, Stop}
use Rattle.history_model.specs.Lives.{Life, Unstarted, Alive, Stopped, life_of, last_event_of}
use Rattle.history_model.specs.Transactions.{running_transaction_of, is_visible, runs_as}
use Rattle.history_model.specs.Versions.{answer_of}
use Rattle.history_model.specs.Sent.{lists_of, left_in, unsent_of}
use Rattle.history_model.specs.Log.{log_of, position_of, is_waiting, has_waited}
use Rattle.history_model.specs.Held.{held_of}
use Rattle.history_model.specs.Names.{users_of, is_named}
use Rattle.history_model.specs.Allows.{is_lock_of}
use Rattle.history_model.specs.Writes.{IsWriteAllowed}

-- a start comes first and once, with command 0; nothing follows a stop; command numbers never fall
abbrev pub FollowsLife : Life → ℕ → Event → Type 0
FollowsLife Unstarted command Start = command ≡ 0
FollowsLife Unstarted command event = ⊥
FollowsLife (Alive last) command Start = ⊥
FollowsLife (Alive last) command event = last ≤ command
FollowsLife Stopped command event = ⊥

-- between a backend's visibility step and the release after it only publishes of it come
abbrev pub FollowsVisible : Bool → Event → Type 0
FollowsVisible false event = ⊤
FollowsVisible true (Publish count) = ⊤
FollowsVisible true (Release from) = ⊤
FollowsVisible true event = ⊥

-- after writes were taken back comes the release of the same commands
abbrev pub FollowsGone : Option Event → Event → Type 0
FollowsGone (Some (Gone from)) (Release to) = to ≡ from
FollowsGone (Some (Gone from)) event = ⊥
FollowsGone last event = ⊤

-- a look says yes only where a message waits, and no only where none waited at the backend's last entry that is no look
abbrev pub AllowsLook : List Entry → ℕ → Bool → Type 0
AllowsLook before b true = is_waiting before b ≡ true
AllowsLook before b false = has_waited before b ≡ false

-- after a look that said yes come all messages that wait, and 32 at most
abbrev pub AllowsFetch : List Entry → ℕ → ℕ → Type 0
AllowsFetch before b count = (last_event_of before b ≡ Some (Look true)) × (count ≡ min 32 (length (log_of before) - position_of before b))

-- a visible transaction sends what is left of the part at hand, and 64 messages at most
abbrev pub AllowsPublish : List Entry → ℕ → ℕ → Type 0
AllowsPublish before b count = (is_visible (running_transaction_of before b) ≡ true) × (1 ≤ count) × (count ≡ min 64 (length (unsent_of before b)))

-- a visible transaction releases all its locks at once, when all is sent; any other releases those of commands of which no write stands
abbrev pub MayRelease : Bool → List Entry → ℕ → ℕ → Type 0
MayRelease true before b from = (option_map (λ t. t.first) (running_transaction_of before b) ≡ Some from) × (left_in (lists_of before b) (running_transaction_of before b) ≡ [])
MayRelease false before b from = has_write_from from (lists_of before b) ≡ false

-- a backend unlocks what it locked in the command that runs, of which no write stands
abbrev pub AllowsUnlock : List Entry → ℕ → ℕ → Oid → Mode → Type 0
AllowsUnlock before b c rel mode = (list_any (is_lock_of b c rel mode) (held_of before) ≡ true) × (has_write_from c (lists_of before b) ≡ false)

-- what the entries before allow the backend to do in this command
abbrev pub AllowsEvent : List Entry → ℕ → ℕ → Event → Type 0
AllowsEvent before b c Start = ⊤
AllowsEvent before b c (Look some_wait) = AllowsLook before b some_wait
AllowsEvent before b c (Fetch count) = AllowsFetch before b count
AllowsEvent before b c FetchReset = last_event_of before b ≡ Some (Look true)
AllowsEvent before b c (Scan purpose rows) = rows ≡ length (answer_of before b purpose)
AllowsEvent before b c (LockOk rel mode) = (holds (held_of before) b rel mode ≡ false) × (first_conflict (held_of before) b rel mode ≡ None)
AllowsEvent before b c (LockHeld rel mode holder held) = (holds (held_of before) b rel mode ≡ false) × (option_map {U = ℕ × Mode} (λ g. (g.backend, g.mode)) (first_conflict (held_of before) b rel mode) ≡ Some (holder, held))
AllowsEvent before b c (Unlock rel mode) = AllowsUnlock before b c rel mode
AllowsEvent before b c (Write xid items) = IsWriteAllowed before b c xid items
AllowsEvent before b c (ClashRunning name xid) = list_any (λ user. user == xid.0) (users_of before b name) ≡ true
AllowsEvent before b c (ClashRow name rel) = (users_of before b name ≡ []) × (is_named before b name rel ≡ true)
AllowsEvent before b c (Visible xid) = (runs_as before b xid.0 ≡ true) × (has_write_from 0 (lists_of before b) ≡ true)
AllowsEvent before b c (Publish count) = AllowsPublish before b count
AllowsEvent before b c (Gone from) = has_write_from from (lists_of before b) ≡ true
AllowsEvent before b c (Release from) = (from ≤ c) × MayRelease (is_visible (running_transaction_of before b)) before b from
AllowsEvent before b c Stop = running_transaction_of before b ≡ None
AllowsEvent before b c event = ⊥

-- an entry may follow the entries before it
pub record MayFollow (before : List Entry) (e : Entry) : Type 0 where
  pub life : FollowsLife (life_of before e.backend) e.command e.event
  pub visible : FollowsVisible (is_visible (running_transaction_of before e.backend)) e.event
  pub gone : FollowsGone (last_event_of before e.backend) e.event
  pub event : AllowsEvent before e.backend e.command e.event
