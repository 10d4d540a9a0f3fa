-- What the entries of a history leave, as one record: of what the backends share, and of each backend.
use Rattle.std.specs.Prelude.{ℕ, Bool, true, false, Option, Some, None, List, [], ◌∷◌, ◌++◌, ◌+◌, ◌==◌, if◌then◌else◌, max}
use Rattle.std.specs.Option.{option_map_or}
use Rattle.inval_messages.specs.Lists.{Written}
use Rattle.base_types.specs.declared.ids.TheConstants.{FIRST_OID}
use Rattle.history_model.specs.Types.{Xid, Message, Version, Grant, Event, Start, Look, Write, Visible, Publish, Release, Gone, Stop}
-- a running transaction: its first command, its Xid once it has written, how many of its messages it has published, and whether it is visible
pub use Rattle.txn_blocks.specs.declared.transaction.RunningTransaction.{RunningTransaction as Running}
-- a backend before its start, between start and stop with the command of its last entry, and after its stop
pub use Rattle.history_model.specs.declared.life.Life.{Life}
pub use Rattle.history_model.specs.declared.life.Life.TheVariants.{Unstarted, Alive, Stopped}
-- what the last event of a backend asks of its next one: a look that said yes lets it fetch, and what it took back from a command on it has to release
pub use Rattle.history_model.specs.declared.life.Asked.{Asked}
pub use Rattle.history_model.specs.declared.life.Asked.TheVariants.{Nothing, LookedYes, TookBack}

-- what is left of one backend: how far its life has come, what its last event asks, its running transaction, the writes of this that weren't taken back, how many messages of the log it is past, whether one waited at its last entry that is no look, and the command of its last write
pub record Standing : Type 0 where
  pub life : Life
  pub asked : Asked
  pub running : Option Running
  pub lists : List Written
  pub position : ℕ
  pub waited : Bool
  pub wrote : Option ℕ

-- a backend without entries
abbrev pub no_standing : Standing
no_standing = record { life = Unstarted; asked = Nothing; running = None; lists = []; position = 0; waited = false; wrote = None }

-- what is left of all that backends share, and of each: the versions of rows, in the order in which they were written, the committed transactions, the grants, all messages that were published, the next oid and the last Xid
pub record Segment : Type 0 where
  pub versions : List Version
  pub committed : ℕ → Bool
  pub held : List Grant
  pub log : List Message
  pub next_oid : ℕ
  pub last_xid : ℕ
  pub standing : ℕ → Standing

-- before the first entry
abbrev pub no_entries : Segment
no_entries = record { versions = []; committed = λ x. false; held = []; log = []; next_oid = FIRST_OID; last_xid = 0; standing = λ b. no_standing }

-- the life of a backend after one of its events
abbrev pub life_by : ℕ → Event → Life
life_by command Stop = Stopped
life_by command event = Alive command

-- a backend has started and hasn't stopped
abbrev pub is_alive : Life → Bool
is_alive (Alive command) = true
is_alive life = false

-- what an event asks of the next one
abbrev pub asks : Event → Asked
asks (Look true) = LookedYes
asks (Gone from) = TookBack from
asks event = Nothing

-- the transaction of an entry: the running one, or else one that begins with this command
abbrev pub begun : ℕ → Option Running → Running
begun command None = record { first = command; xid = None; published = 0; visible = false }
begun command (Some running) = running

-- a release with the number of its first command ends a transaction
abbrev pub after_release : ℕ → Running → Option Running
after_release from running = if running.first == from then None else Some running

-- the running transaction after an event of its backend
abbrev pub running_by : ℕ → Event → Option Running → Option Running
running_by command Start old = None
running_by command Stop old = old
running_by command (Write xid items) old = Some (record (begun command old) { xid = Some xid })
running_by command (Visible xid) old = Some (record (begun command old) { visible = true })
running_by command (Publish count) old = let running = begun command old in Some (record running { published = running.published + count })
running_by command (Release from) old = after_release from (begun command old)
running_by command event old = Some (begun command old)

-- a running transaction is visible, and hasn't released its locks
abbrev pub is_visible : Option Running → Bool
is_visible running = option_map_or (λ t. t.visible) running false

-- a running transaction has this Xid
abbrev pub has_xid : ℕ → Option Running → Bool
has_xid xid running = option_map_or (λ t. option_map_or (λ own. own.0 == xid) t.xid false) running false

-- a release of these commands and above ends the transaction
abbrev pub ends_transaction : ℕ → Option Running → Bool
ends_transaction from running = option_map_or (λ t. t.first == from) running false

-- the event makes the transaction visible
abbrev pub makes_visible : ℕ → Event → Bool
makes_visible xid (Visible own) = own.0 == xid
makes_visible xid event = false

-- the last Xid that was drawn, after an event
abbrev pub last_xid_by : Event → ℕ → ℕ
last_xid_by (Write xid items) last = max last xid.0
last_xid_by event last = last

-- the command of a backend's last write, after one of its events
abbrev pub wrote_by : ℕ → Event → Option ℕ → Option ℕ
wrote_by command (Write xid items) old = Some command
wrote_by command event old = old

-- a backend runs the transaction of this Xid
abbrev pub runs_at : Segment → ℕ → ℕ → Bool
runs_at s b xid = has_xid xid (s.standing b).running

-- the Xid that a write of the backend has: its transaction's, or else the next one
abbrev pub xid_at : Segment → ℕ → ℕ
xid_at s b = option_map_or (λ t. option_map_or (λ own. own.0) t.xid (s.last_xid + 1)) (s.standing b).running (s.last_xid + 1)
