-- What the calls of a segment need, and what they do: one word for each class of call.
-- `old` and `new` are the history before and after a call, `had` and `has` how many places each backend was promised then.
use Rattle.std.specs.Prelude.{ℕ, Bool, true, false, Option, Some, None, Result, Ok, Err, OnOk, OnErr, List, [], ◌∷◌, ◌++◌, ◌≡◌, ◌≢◌, ◌≤◌, ◌<◌, ◌+◌, ◌-◌, zero, suc, min, max, length, take}
use Rattle.std.specs.List.{flat_map, filter_map, list_any, list_all, range_with_len}
use Rattle.std.specs.Option.{option_or}
use Rattle.std.specs.Str.{bytes_eq}
use Rattle.base_types.specs.RowKeys.{are_distinct_keys}
use Rattle.base_types.specs.Scenario.{IsBackend}
use Rattle.base_types.specs.declared.fetched.Fetched.TheVariants as fetches
use Rattle.base_types.specs.declared.row.Row.TheVariants as rows
use Rattle.base_types.specs.declared.row.Row.{Row as CatalogRow}
use Rattle.base_types.specs.declared.scan.Purpose.TheVariants.{RelName}
use Rattle.lock_modes.specs.declared.granted.LockRefusal.TheVariants as lock_refusals
use Rattle.ddl_effect.specs.Commands.{commands_of}
use Rattle.ddl_effect.specs.Drawing.{changes_of}
use Rattle.history_model.specs.Changes.{items_of}
use Rattle.history_model.specs.Drawn.{drawn_by, made_by, next_oid}
use Rattle.history_model.specs.Lapped.{is_lapped}
use Rattle.history_model.specs.MayFollow.{MayFollow}
use Rattle.history_model.specs.Lives.{life_of, last_event_of}
use Rattle.history_model.specs.declared.life.Life.TheVariants.{Alive}
use Rattle.history_model.specs.Log.{log_of, position_of, fetched_by}
use Rattle.history_model.specs.Names.{new_names, users_of}
use Rattle.history_model.specs.Orderly.{IsOrderlyWrite}
use Rattle.history_model.specs.Sound.{MayComeNext}
use Rattle.history_model.specs.Sent.{cats_by, rels_by, unsent_of}
use Rattle.history_model.specs.Transactions.{running_transaction_of, is_visible}
use Rattle.history_model.specs.Versions.{answer_of, ended_key}
use Rattle.history_model.specs.Changing.{changed_key}
use Rattle.history_model.specs.Writes.{has_row, is_guarded, keeps_kind}
use Rattle.history_model.specs.Transactions.{has_written}
use Rattle.seg_calls.specs.Types.{Oid, Fetched, NoMemory, Mode, Purpose, Scanned, Scenario, Entry, Event, Fetch, FetchReset, Gone, LockOk, LockHeld, Scan, Write, ClashRow, ClashRunning, Item, Message, Row, Running, Draft, LockRefusal, WriteRefusal, Written}
use Rattle.seg_calls.specs.declared.refusal.WriteRefusal.TheVariants as write_refusals

-- the entry of a backend and a command
abbrev pub entry_of : ℕ → ℕ → Event → Entry
entry_of backend command event = record { backend = backend; command = command; event = event }

-- a backend of the script may call for this entry: the entries before it allow it
pub record MayCall (script : Scenario) (before : List Entry) (e : Entry) : Type 0 where
  pub backend : IsBackend script.backends e.backend
  pub number : e.command ≤ length (commands_of script e.backend) + 1
  pub follows : MayFollow before e

-- the last event took writes back
abbrev pub took_back : Option Event → Bool
took_back (Some (Gone from)) = true
took_back last = false

-- a backend of the script may ask for something in a command: it is alive, and in the midst of no commit and no rollback
pub record MayRequest (script : Scenario) (before : List Entry) (b c : ℕ) : Type 0 where
  pub backend : IsBackend script.backends b
  pub number : c ≤ length (commands_of script b) + 1
  pub last : ℕ
  pub alive : life_of before b ≡ Alive last
  pub rises : last ≤ c
  pub visible : is_visible (running_transaction_of before b) ≡ false
  pub gone : took_back (last_event_of before b) ≡ false

-- the items of a draft, with the next oids drawn
abbrev pub items_drawn : List Entry → Draft → List Item
items_drawn before draft = items_of (changes_of (next_oid before) draft) draft.forced

-- a backend may write a draft, unless a new name is taken: it uses each of its new oids once and in order, changes no key twice, replaces and takes away rows that are seen, leaves the kinds of relations, is the only one of its command and guarded, and adds rows of new keys
pub record MayWrite (before : List Entry) (b c : ℕ) (draft : Draft) : Type 0 where
  pub oids : flat_map drawn_by (items_drawn before draft) ≡ range_with_len (next_oid before) draft.new_oids
  pub keys : are_distinct_keys (flat_map changed_key (items_drawn before draft)) ≡ true
  pub there : list_all (has_row before b) (filter_map ended_key (items_drawn before draft)) ≡ true
  pub kinds : list_all (keeps_kind before b) (items_drawn before draft) ≡ true
  pub only : has_written before b c ≡ false
  pub guarded : list_all (is_guarded before b (flat_map made_by (items_drawn before draft))) (items_drawn before draft) ≡ true
  pub orderly : IsOrderlyWrite before b (items_drawn before draft)

-- nothing has changed
pub record IsUnchanged (old new : List Entry) (had has : ℕ → ℕ) : Type 0 where
  pub entries : new ≡ old
  pub places : (b : ℕ) → has b ≡ had b

-- a backend has the places that it is promised, or those that it had if these are more; only where they aren't may memory be wanting
pub record Promises (old new : List Entry) (had has : ℕ → ℕ) (b n : ℕ) (result : Result (Unit {0}) NoMemory) : Type 0 where
  pub entries : new ≡ old
  pub ok : OnOk result (has b ≡ max (had b) n)
  pub err : OnErr result (has b ≡ had b)
  pub more : OnErr result (had b < n)
  pub others : (a : ℕ) → a ≢ b → has a ≡ had a

-- how many places are promised to the backends up to this number
abbrev pub all_promised : (ℕ → ℕ) → ℕ → ℕ
all_promised promised zero = 0
all_promised promised (suc b) = all_promised promised b + promised (suc b)

-- how many promised places an entry may take: none where a backend asks for something, which may be refused
abbrev pub places_for : Event → ℕ
places_for (Scan purpose rows) = 0
places_for (LockOk rel mode) = 0
places_for (LockHeld rel mode holder held) = 0
places_for (Write xid items) = 0
places_for (ClashRow name rel) = 0
places_for (ClashRunning name xid) = 0
places_for event = 1

-- one entry is appended, which the entries before it allow; it changes no promise to another backend, and of its own promised places it takes at most those that it may, and adds none
pub record Appends (old new : List Entry) (had has : ℕ → ℕ) (e : Entry) : Type 0 where
  pub entries : new ≡ old ++ e ∷ []
  pub comes : MayComeNext old e
  pub own : had e.backend ≤ has e.backend + places_for e.event
  pub most : has e.backend ≤ had e.backend
  pub others : (b : ℕ) → b ≢ e.backend → has b ≡ had b

-- a scan gives its answer, and its entry says how many rows that is
pub record GivesRows (old new : List Entry) (had has : ℕ → ℕ) (b c : ℕ) (purpose : Purpose) (scanned : Scanned) : Type 0 where
  pub appends : Appends old new had has (entry_of b c (Scan purpose (length (answer_of old b purpose))))
  pub rows : scanned.rows.items ≡ answer_of old b purpose
  pub at : scanned.at ≡ length old + 1

-- a scan
abbrev pub Scans : List Entry → List Entry → (ℕ → ℕ) → (ℕ → ℕ) → ℕ → ℕ → Purpose → Result Scanned NoMemory → Type 0
Scans old new had has b c purpose (Ok scanned) = GivesRows old new had has b c purpose scanned
Scans old new had has b c purpose (Err error) = IsUnchanged old new had has

-- a request for a lock
abbrev pub Locks : List Entry → List Entry → (ℕ → ℕ) → (ℕ → ℕ) → ℕ → ℕ → Oid → Mode → Result (Unit {0}) LockRefusal → Type 0
Locks old new had has b c rel mode (Ok granted) = Appends old new had has (entry_of b c (LockOk rel mode))
Locks old new had has b c rel mode (Err (lock_refusals.Conflict holder held)) = Appends old new had has (entry_of b c (LockHeld rel mode holder held))
Locks old new had has b c rel mode (Err lock_refusals.NoMemory) = IsUnchanged old new had has

-- the messages of changes, in their order
abbrev pub messages_in : List Entry → ℕ → List Item → List Message
messages_in before b items = flat_map (λ item. cats_by before b item ++ rels_by before b item) items

-- the items of a draft are written, and their messages are handed over
pub record MakesWrite (old new : List Entry) (had has : ℕ → ℕ) (b c : ℕ) (draft : Draft) (written : Written) : Type 0 where
  pub appends : Appends old new had has (entry_of b c (Write written.xid (items_drawn old draft)))
  pub first : written.first_oid.0 ≡ next_oid old
  pub messages : written.messages.items ≡ messages_in old b (items_drawn old draft)

-- the refusal of a name that these transactions have in use and these rows have: for the first transaction, or else for the relation of the first row
abbrev pub refused_name : List ℕ → List ℕ → List CatalogRow → Option Event
refused_name name (user ∷ users) seen = Some (ClashRunning name (record { 0 = user }))
refused_name name [] (rows.Class oid own kind fill ∷ seen) = Some (ClashRow name oid)
refused_name name [] seen = None

-- the refusal of a write that gives these names: of the first that is taken
abbrev pub first_refused : List Entry → ℕ → List (List ℕ) → Option Event
first_refused before b [] = None
first_refused before b (name ∷ names) = option_or (refused_name name (users_of before b name) (answer_of before b (RelName name))) (first_refused before b names)

-- a name that the write gives a relation is taken, and it is refused for the first such name
pub record Clashes (old new : List Entry) (had has : ℕ → ℕ) (b : ℕ) (draft : Draft) (name : List ℕ) (e : Entry) : Type 0 where
  pub appends : Appends old new had has e
  pub is_new : list_any (bytes_eq name) (new_names old b (items_drawn old draft)) ≡ true
  pub first : first_refused old b (new_names old b (items_drawn old draft)) ≡ Some e.event

-- how many messages a fetch gives: at most 32
abbrev pub due_to : List Entry → ℕ → ℕ
due_to before b = min 32 (length (log_of before) - position_of before b)

-- a fetch of a backend that a queue of this size hasn't lapped gives the next messages of the log, and its entry says how many they are
pub record GivesMessages (size : ℕ) (old new : List Entry) (had has : ℕ → ℕ) (b c count : ℕ) (given : List Message) : Type 0 where
  pub appends : Appends old new had has (entry_of b c (Fetch count))
  pub served : is_lapped size old b ≡ false
  pub due : count ≡ due_to old b
  pub messages : given ≡ fetched_by old b count

-- a fetch of a lapped backend gives nothing: it is past all messages then
pub record Resets (size : ℕ) (old new : List Entry) (had has : ℕ → ℕ) (b c : ℕ) (given : List Message) : Type 0 where
  pub appends : Appends old new had has (entry_of b c FetchReset)
  pub lapped : is_lapped size old b ≡ true
  pub none : given ≡ []

-- a fetch of a queue of this size: the next messages, or a reset
abbrev pub Fetches : ℕ → List Entry → List Entry → (ℕ → ℕ) → (ℕ → ℕ) → ℕ → ℕ → List Message → Fetched → Type 0
Fetches size old new had has b c given (fetches.Messages count) = GivesMessages size old new had has b c count given
Fetches size old new had has b c given fetches.Reset = Resets size old new had has b c given

-- the messages are the next of those that the backend has to publish
abbrev pub ArePublishedNext : List Entry → ℕ → List Message → Type 0
ArePublishedNext before b messages = messages ≡ take (length messages) (unsent_of before b)

-- a write of a draft
abbrev pub Writes : List Entry → List Entry → (ℕ → ℕ) → (ℕ → ℕ) → ℕ → ℕ → Draft → Result Written WriteRefusal → Type 0
Writes old new had has b c draft (Ok written) = MakesWrite old new had has b c draft written
Writes old new had has b c draft (Err (write_refusals.Clash name (Row rel))) = Clashes old new had has b draft name (entry_of b c (ClashRow name rel))
Writes old new had has b c draft (Err (write_refusals.Clash name (Running xid))) = Clashes old new had has b draft name (entry_of b c (ClashRunning name xid))
Writes old new had has b c draft (Err write_refusals.NoMemory) = IsUnchanged old new had has
