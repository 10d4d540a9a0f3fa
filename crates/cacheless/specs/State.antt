-- What the code holds of a backend, in the words of the definitions.
use Rattle.std.specs.Prelude.{◌≡◌, ℕ, Bool, true, false, Option, Some, None, List, [], ◌∷◌, ◌++◌, ◌+◌, map, slice_get}
use Rattle.std.specs.Option.{option_map_or}
use Rattle.std.specs.List.{flat_map}
use Rattle.base_types.specs.declared.change.Change.{Change}
use Rattle.base_types.specs.declared.change.Change.TheVariants.{Insert}
use Rattle.base_types.specs.declared.row.Row.TheVariants as rows
use Rattle.event_kinds.specs.declared.entry.Event.TheVariants as events
use Rattle.command_answers.specs.declared.error.CommandError.TheVariants as errors
use Rattle.row_visibility.specs.declared.clash.Clash.TheVariants as clashes
use Rattle.lock_modes.specs.Own.{cleared, new_lock}
use Rattle.inval_messages.specs.Lists.{Written, has_write_from, unsent_after}
use Rattle.command_lists.specs.Lists.{all_lists, no_lists}
use Rattle.ddl_effect.specs.Plans.{Plan, Do, Lookup}
use Rattle.txn_blocks.specs.Blocks.{Blocks, no_block, blocks_well, blocks_badly}
use Rattle.ddl_effect.specs.Stages.{plan_at, plan_again}
use Rattle.ddl_effect.specs.declared.exec.Exec.TheVariants as stages
use Rattle.history_model.specs.Sent.{cats_by, rels_by}
pub use Rattle.ddl_effect.specs.Plans.{is_absent}
use Rattle.txn_blocks.specs.Transactions.{begun_own}
use Rattle.cacheless.specs.Types.{Oid, Message, Row, Purpose, Command, CommandError, Clash, Item, Entry, Event, OwnLock}
use Rattle.cacheless.specs.Session.{Session, Finished, Tally, Well, outcome_of, is_settled, none_open, plan_first, is_blocked}
pub use Rattle.cacheless.specs.Owed.{owed_after, is_quiet, missing, builds_missing}
use Rattle.cacheless.specs.Owed.{act_owed, scans_owed_in, owes_build_in, counts_full, owed_first_in, accepts_in, is_free}
use Rattle.cacheless.specs.Work.{Work}
use Rattle.cacheless.specs.Rule.{row_of_name}
pub use Rattle.cacheless.specs.Facts.{due_looked, due_fetched}
use Rattle.cacheless.specs.Facts.{Facts}
use Rattle.cacheless.specs.Owed.{Owes}
use Rattle.cacheless.specs.Ends.{End, end_in}
use Rattle.local_caches.specs.Caches.{kept_of, is_pinned}
pub use Rattle.local_caches.specs.Kept.{Kept, nothing_kept, kept_with, kept_spared, is_kept, rows_kept, place_kept}
use Rattle.cacheless.specs.declared.progress.Due.TheVariants as dues
use Rattle.cacheless.specs.declared.progress.Counts.{Counts}
use Rattle.cacheless.specs.declared.progress.Progress.{Progress}

-- 1 where a test holds
abbrev pub one_if : Bool → ℕ
one_if true = 1
one_if false = 0

-- nothing is counted
abbrev pub no_counts : Counts
no_counts = record { looks = 0; scans = 0; grants = 0; unlocks = 0; fetches = 0; full = 0 }

-- how many messages of the transaction are published
abbrev pub published_at : Progress → ℕ
published_at s = option_map_or (λ t. t.published) s.running 0

-- the writes that weren't taken back
abbrev pub lists_at : Progress → List Written
lists_at s = all_lists s.lists.lists

-- the lists after a release
abbrev pub lists_left : Bool → List Written → List Written
lists_left ended lists = elim ended [ true ↦ [] | false ↦ lists ]

-- the messages that are to be published next
abbrev pub unsent_at : Progress → List Message
unsent_at s = unsent_after (published_at s) (lists_at s)

-- what is kept of each scan
abbrev pub kept_at : Progress → Kept
kept_at s = kept_of s.caches

-- the tally that the code holds
abbrev pub tally_at : Counts → Tally
tally_at c = record { looks = c.looks; scans = c.scans; grants = c.grants; unlocks = c.unlocks; fetches = c.fetches; full = c.full }

-- the facts of its backend's entries: what the code holds is these
abbrev pub facts_at : Progress → Facts
facts_at s = record { due = s.due; running = s.running; lists = lists_at s; kept = kept_at s }

-- what of its session decides what may come next: what the code holds is this
abbrev pub work_at : Progress → Work
work_at s = record { number = s.finished + 1; blocks = s.blocks; left = plan_at s.opens s.exec; blocked = s.blocked; opened = s.opened; taken = s.taken; ended = s.ended; tally = tally_at s.tally; locks = s.locks.items }

-- the row by which its next act goes on, if that is a lookup
abbrev pub row_next : Progress → Plan → Option Row
row_next s (Do (Lookup name mode) rest) = row_of_name (facts_at s) name
row_next s plan = None

-- the rule's words for what the code holds: names by which it is reasoned about
abbrev pub row_sought : Progress → List ℕ → Option Row
row_sought s name = row_of_name (facts_at s) name

abbrev pub act_missing : Progress → Plan → List Purpose
act_missing s plan = act_owed (facts_at s) plan

abbrev pub scans_missing : Progress → List Purpose
scans_missing s = scans_owed_in (facts_at s) (work_at s)

abbrev pub is_out : Progress → Bool
is_out s = is_settled (outcome_of (work_at s).left)

abbrev pub lacks_builds : Progress → Bool
lacks_builds s = owes_build_in (facts_at s) (work_at s)

abbrev pub is_full : ℕ → Progress → Bool
is_full count s = counts_full count (facts_at s) (work_at s)

abbrev pub owed_first : Progress → Command → List Owes
owed_first s command = owed_first_in (facts_at s) command (work_at s)

abbrev pub is_in_accept : Progress → Option Command → Bool
is_in_accept s command = accepts_in (facts_at s) (work_at s) command

abbrev pub owes_nothing : Command → Progress → Bool
owes_nothing command s = is_free (facts_at s) command (work_at s)

abbrev pub end_at : Progress → Command → End
end_at s command = end_in (facts_at s) command (work_at s)

-- the locks after an entry: where no accept is left to end they are clear
abbrev pub locks_accepted : Bool → List OwnLock → List OwnLock
locks_accepted accepting locks = elim accepting [ true ↦ locks | false ↦ map cleared locks ]

-- the relation that a change makes, where the first new oid is this one, if it makes one
abbrev pub change_makes : Oid → Change → Option Oid
change_makes first (Insert (rows.Class oid name kind fill)) = Some first
change_makes first change = None

-- the relation that changes make, if they make one: its row is the first of them
abbrev pub relation_made : List Change → Oid → Option Oid
relation_made [] first = None
relation_made (change ∷ changes) first = change_makes first change

-- the lock on the relation that a write makes, if it makes one
abbrev pub locks_made : ℕ → Option Oid → List OwnLock
locks_made command None = []
locks_made command (Some rel) = new_lock rel command ∷ []

-- all messages of a write in the order of its changes
abbrev pub messages_in : List Entry → ℕ → List Item → List Message
messages_in before b items = flat_map (λ item. cats_by before b item ++ rels_by before b item) items

-- the blocks after a command of this number, by what is left of its plan
abbrev pub blocks_passed : Plan → ℕ → Command → Blocks → Blocks
blocks_passed plan number command blocks = elim (outcome_of plan) [ Well ↦ blocks_well number command blocks | outcome ↦ blocks_badly blocks ]

-- the event of a write that is refused
abbrev pub clash_event : List ℕ → Clash → Event
clash_event name (clashes.Row rel) = events.ClashRow name rel
clash_event name (clashes.Running xid) = events.ClashRunning name xid

-- the error with which it ends its command
abbrev pub error_of : List ℕ → Clash → CommandError
error_of name (clashes.Row rel) = errors.RelationExists name
error_of name (clashes.Running xid) = errors.NameInUse name xid

-- an entry showed an error, which ends the command
abbrev pub failed_with : CommandError → Progress → Progress
failed_with error s = record s { exec = stages.Failing error; due = dues.Nothing; running = Some (begun_own (s.finished + 1) s.running); answer = None }

-- the same, with all locks clear
pub record FailsWith (error : CommandError) (old new : Progress) : Type 0 where
  pub locks : new.locks.items ≡ map cleared old.locks.items
  pub is : new ≡ record (failed_with error old) { locks = new.locks }

-- nothing changes but for the room for more locks
pub record IsLockedIn (locks : List OwnLock) (old new : Progress) : Type 0 where
  pub locks_are : new.locks.items ≡ locks
  pub is : new ≡ record old { locks = new.locks }

-- a lookup that found no relation is made anew
pub record SearchesAgain (old new : Progress) : Type 0 where
  pub plan : plan_at old.opens new.exec ≡ plan_again old.opens old.exec
  pub is : new ≡ record old { exec = new.exec }

-- a backend of this number with these commands, before it has started
pub record IsNew (id : ℕ) (all : List Command) (s : Progress) : Type 0 where
  pub number : s.id ≡ id
  pub commands_are : s.commands ≡ all
  pub finished : s.finished ≡ 0
  pub plan : plan_at s.opens s.exec ≡ plan_first no_block none_open (slice_get all 0)
  pub blocked : s.blocked ≡ is_blocked no_block (slice_get all 0)
  pub ended : s.ended ≡ false
  pub tally : s.tally ≡ no_counts
  pub due : s.due ≡ dues.Nothing
  pub blocks : s.blocks ≡ no_block
  pub running : s.running ≡ None
  pub lists : s.lists.lists ≡ no_lists
  pub taken : s.taken ≡ None
  pub opens : s.opens ≡ none_open
  pub opened : s.opened ≡ []
  pub locks : s.locks.items ≡ []
  pub kept : kept_at s ≡ nothing_kept
  pub pins : (rel : Oid) → is_pinned s.caches rel ≡ false
  pub answer : s.answer ≡ None

-- what the code doesn't hold of its session
pub record Rest : Type 0 where
  pub finished : List Finished
  pub refused : Option CommandError
  pub found : List (Option Oid)
  pub sought : Plan
  pub judged : ℕ
  pub last : ℕ

-- that of a session
abbrev pub rest_of : Session → Rest
rest_of s = record { finished = s.finished; refused = s.refused; found = s.found; sought = s.sought; judged = s.judged; last = s.last }

-- the session of a backend: what it holds, and the rest
abbrev pub session_at : Progress → Rest → Session
session_at s rest = record {
  blocks = s.blocks;
  opens = s.opens;
  finished = rest.finished;
  left = plan_at s.opens s.exec;
  refused = rest.refused;
  blocked = s.blocked;
  opened = s.opened;
  taken = s.taken;
  found = rest.found;
  sought = rest.sought;
  ended = s.ended;
  tally = tally_at s.tally;
  locks = s.locks.items;
  judged = rest.judged;
  last = rest.last;
}

abbrev pub has_write_since : ℕ → Progress → Bool
has_write_since from s = has_write_from from (lists_at s)
