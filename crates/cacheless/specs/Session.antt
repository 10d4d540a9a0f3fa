-- The session of a backend: how far it is in its commands.
use Rattle.std.specs.Prelude.{ℕ, Bool, true, false, Option, Some, None, List, [], ◌∷◌, ◌+◌, map, length, is_some}
use Rattle.ddl_effect.specs.declared.told.Told.TheVariants as tells
use Rattle.ddl_effect.specs.Plans.{Plan, Done, Fails, Absent, Do}
use Rattle.ddl_effect.specs.Commands.{plan_of}
use Rattle.txn_blocks.specs.Blocks.{Block, Inside, Failed, Blocks, refused_by}
use Rattle.cacheless.specs.Types.{Oid, Command, CommandError, OpenRelation, Opening, OwnLock}

-- a finished command: whether it began in a block, the relations that were open as it began, the error that the blocks or an entry showed, the relations with which its lookups ended, and the number of the entry where it is judged
pub record Finished : Type 0 where
  pub block : Block
  pub opens : List OpenRelation
  pub refused : Option CommandError
  pub found : List (Option Oid)
  pub judged : ℕ

-- how many looks, scans and fetches the running command has made, how many locks it was granted and gave back before its end, and after how many of its fetches of 32 messages no scan for a descriptor was owed, of an opened one or of the one that is opened next
pub record Tally : Type 0 where
  pub looks : ℕ
  pub scans : ℕ
  pub grants : ℕ
  pub unlocks : ℕ
  pub fetches : ℕ
  pub full : ℕ

-- a backend between its start and its stop:
--   blocks     the transaction blocks before the running command
--   opens      the relations that were open before it
--   finished   the finished commands in order
--   left       what is left of the running command
--   refused    the error that the blocks or an entry showed
--   blocked    that error is the blocks', and leaves nothing behind
--   opened     the descriptors that are held: of the relations that are open, and, until its write, those that the command has opened; from its release on, of the relations that are left open; none in a failed block
--   taken      the relation that the running lookup has newly locked, and hasn't unlocked
--   found      the relations with which its lookups ended
--   sought     what was left of it before its last lookup
--   ended      its release is made
--   tally      its looks, scans, grants, unlocks and fetches
--   locks      the locks that the backend holds
--   judged     the number of the backend's last entry but for those that end the running command
--   last       the number of the backend's last entry
pub record Session : Type 0 where
  pub blocks : Blocks
  pub opens : List OpenRelation
  pub finished : List Finished
  pub left : Plan
  pub refused : Option CommandError
  pub blocked : Bool
  pub opened : List Opening
  pub taken : Option Oid
  pub found : List (Option Oid)
  pub sought : Plan
  pub ended : Bool
  pub tally : Tally
  pub locks : List OwnLock
  pub judged : ℕ
  pub last : ℕ

-- the number of the running command
abbrev pub number_of : Session → ℕ
number_of s = length s.finished + 1

-- the first command of those that are left
abbrev pub first_of : List Command → Option Command
first_of [] = None
first_of (command ∷ rest) = Some command

-- why the blocks refuse a command, if there is one and they do
abbrev pub refused_first : Blocks → Option Command → Option CommandError
refused_first blocks None = None
refused_first blocks (Some command) = refused_by blocks command

-- the blocks refuse the command, if there is one, and nothing is taken back: outside a block, and in one that has failed
abbrev pub is_blocked : Blocks → Option Command → Bool
is_blocked blocks command = elim blocks.block [ Inside ↦ false | block ↦ is_some (refused_first blocks command) ]

-- no relation is open
abbrev pub none_open : List OpenRelation
none_open = []

-- the descriptor of a relation that is open
abbrev pub opening_of : OpenRelation → Opening
opening_of o = record { rel = o.rel; kind = o.kind }

-- the descriptors that are held at the beginning of a command: of the relations that are open, but none in a failed block
abbrev pub held_in : Block → List OpenRelation → List Opening
held_in Failed opens = []
held_in block opens = map opening_of opens

-- the descriptors that were held as the running command began
abbrev pub held_before : Session → List Opening
held_before s = held_in s.blocks.block s.opens

-- the plan of a command that the blocks admit, or their error
abbrev pub plan_admitted : List OpenRelation → Option CommandError → Command → Plan
plan_admitted opens (Some error) command = Fails error
plan_admitted opens None command = plan_of opens command

-- the plan of a command, if there is one
abbrev pub plan_first : Blocks → List OpenRelation → Option Command → Plan
plan_first blocks opens None = Done tells.Ok
plan_first blocks opens (Some command) = plan_admitted opens (refused_by blocks command) command

-- at the beginning of a command, or after the last one
abbrev pub at_command : Blocks → List OpenRelation → List Finished → List OwnLock → ℕ → Option Command → Session
at_command blocks opens finished locks last command = record {
  blocks = blocks;
  opens = opens;
  finished = finished;
  left = plan_first blocks opens command;
  refused = refused_first blocks command;
  blocked = is_blocked blocks command;
  opened = held_in blocks.block opens;
  taken = None;
  found = [];
  sought = Done tells.Ok;
  ended = false;
  tally = record { looks = 0; scans = 0; grants = 0; unlocks = 0; fetches = 0; full = 0 };
  locks = locks;
  judged = last;
  last = last;
}

-- how a plan comes out
pub data Outcome : Type 0 where
  Unsettled : Outcome
  Well : Outcome
  Badly : Outcome

-- how the plan that is left comes out
abbrev pub outcome_of : Plan → Outcome
outcome_of (Done told) = Well
outcome_of (Fails error) = Badly
outcome_of (Absent name) = Badly
outcome_of (Do act rest) = Unsettled

-- a command has come out
abbrev pub is_settled : Outcome → Bool
is_settled Unsettled = false
is_settled outcome = true
