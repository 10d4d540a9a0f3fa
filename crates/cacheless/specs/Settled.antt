-- Acts and commands that need no entry are passed over at once.
use Rattle.std.specs.Prelude.{ℕ, Bool, true, false, Option, Some, None, List, [], ◌∷◌, ◌++◌, ◌&&◌, length, take, slice_get, is_none, is_some}
use Rattle.std.specs.Option.{option_map_or}
use Rattle.base_types.specs.Scans.{same_oid}
use Rattle.base_types.specs.declared.command.Command.TheVariants as commands
use Rattle.base_types.specs.declared.row.Row.TheVariants as rows
use Rattle.base_types.specs.declared.scan.Purpose.TheVariants as scans
use Rattle.lock_modes.specs.Own.{has_lock}
use Rattle.ddl_effect.specs.Plans.{Act, Lookup, Open, Search, Read, Lock, Write, Plan, Do}
use Rattle.ddl_effect.specs.Opens.{without_latest, opens_before}
use Rattle.txn_blocks.specs.Blocks.{Blocks, Level, innermost, levels_up_to, blocks_well, blocks_badly}
use Rattle.history_model.specs.Changing.{is_empty}
use Rattle.local_caches.specs.Kept.{rows_kept}
use Rattle.cacheless.specs.Types.{Oid, Mode, Row, Command, OpenRelation, Opening}
use Rattle.cacheless.specs.Facts.{Facts}
use Rattle.cacheless.specs.Session.{Session, Finished, number_of, first_of, at_command, Well, outcome_of, is_settled}
use Rattle.cacheless.specs.Work.{Work, work_of}
use Rattle.cacheless.specs.Owed.{is_quiet, owed_first_in, owed_after, builds_missing, act_owed, is_free, has_looked_in}
use Rattle.cacheless.specs.Ends.{end_left_in}

-- the relation that a lookup found
abbrev pub class_oid : List Row → Option Oid
class_oid (rows.Class oid name kind fill ∷ more) = Some oid
class_oid given = None

-- what is given once the lock is held
abbrev pub if_locked : Bool → List Row → Option (List Row)
if_locked true given = Some given
if_locked false given = None

-- a lookup that was given these rows found the relation
abbrev pub finds : Oid → List Row → Bool
finds rel given = option_map_or (same_oid rel) (class_oid given) false

-- a lookup has newly locked no relation but this one
abbrev pub has_taken_no_other : Option Oid → Oid → Bool
has_taken_no_other taken rel = option_map_or (same_oid rel) taken true

-- a lookup that found no relation ends: it has locked none, and accepted messages since, and none came
abbrev pub has_accepted_in : Facts → Work → Bool
has_accepted_in facts w = is_none w.taken && is_quiet facts.due && has_looked_in facts w

-- what a lookup gives: its first row, once the relation that it names is locked and no other is, or none
abbrev pub looked_up_in : Facts → Work → Mode → List Row → Option (List Row)
looked_up_in facts w mode (rows.Class oid name kind fill ∷ more) = if_locked (has_lock w.locks oid mode && has_taken_no_other w.taken oid) (rows.Class oid name kind fill ∷ [])
looked_up_in facts w mode given = if_locked (has_accepted_in facts w) (take 1 given)

-- what an act gives that is done here and leaves no entry
abbrev pub gives_in : Facts → Work → Act → Option (List Row)
gives_in facts w (Lookup name mode) = looked_up_in facts w mode (rows_kept facts.kept (scans.RelName name))
gives_in facts w (Open rel kind) = Some []
gives_in facts w (Search scan) = Some (rows_kept facts.kept scan)
gives_in facts w (Read scan) = Some (rows_kept facts.kept scan)
gives_in facts w (Lock rel mode) = if_locked (has_lock w.locks rel mode) []
gives_in facts w (Write draft) = None

-- what is left is done here, if nothing has to come before it
abbrev pub gives_left : Facts → Work → Plan → Bool
gives_left facts w (Do act rest) = is_some (gives_in facts w act)
gives_left facts w plan = false

-- the running command is finished: it has come out, nothing of its end is left, and nothing is owed
abbrev pub is_finished_in : Facts → Command → Work → Bool
is_finished_in facts command w = is_settled (outcome_of w.left) && is_none (end_left_in facts command w) && is_free facts command w

-- the descriptor that an act opens
abbrev pub opened_by : Act → List Opening
opened_by (Open rel kind) = record { rel = rel; kind = kind } ∷ []
opened_by act = []

-- the relation with which a lookup ended, if the act is one
abbrev pub found_by : Act → List Row → List (Option Oid)
found_by (Lookup name mode) given = class_oid given ∷ []
found_by act given = []

-- what was left before the last lookup, where the act at hand is one
abbrev pub sought_by : Act → Session → Plan
sought_by (Lookup name mode) s = s.left
sought_by act s = s.sought

-- the session after an act that gave these rows
abbrev pub act_done : Act → List Row → Plan → Session → Session
act_done act given rest s = record s { left = rest; opened = s.opened ++ opened_by act; taken = None; found = s.found ++ found_by act given; sought = sought_by act s }

-- what the next act gives, if no scan is owed and it needs no entry
abbrev pub done_here : Facts → Session → Act → Plan → Option (List Row)
done_here facts s act plan = elim (is_empty (builds_missing facts.kept s.opened ++ act_owed facts plan)) [ true ↦ gives_in facts (work_of s) act | false ↦ None ]

-- the session after the acts of a plan that need no entry
abbrev pub acted_on : Facts → Plan → Session → Session
acted_on facts (Do act rest) s = elim (done_here facts s act (Do act rest)) [ None ↦ s | Some given ↦ acted_on facts (rest given) (act_done act given (rest given) s) ]
acted_on facts plan s = s

-- the same for the running command, if no look and no fetch is owed
abbrev pub acted : Facts → Command → Session → Session
acted facts command s = elim (is_empty (owed_first_in facts command (work_of s) ++ owed_after facts.due)) [ true ↦ acted_on facts s.left s | false ↦ s ]

-- the running command is finished

-- the blocks after the running command
abbrev pub blocks_after : Command → Session → Blocks
blocks_after command s = elim (outcome_of s.left) [ Well ↦ blocks_well (number_of s) command s.blocks | outcome ↦ blocks_badly s.blocks ]

-- the relations that are open after one was opened under a name by the command of this number, if one was: its descriptor is the first that is held beside those of the others
abbrev pub opens_with : ℕ → List ℕ → List Opening → List OpenRelation → List OpenRelation
opens_with number name opened opens = elim (slice_get opened (length opens)) [ Some o ↦ opens ++ record { name = name; rel = o.rel; kind = o.kind; command = number } ∷ [] | None ↦ opens ]

-- the relations that are open after the innermost of these levels is taken back: those that were opened before it
abbrev pub opens_kept : ℕ → List Level → List OpenRelation → List OpenRelation
opens_kept number levels opens = opens_before (innermost number levels) opens

-- the relations that are open after a command of this number that came out well
abbrev pub opens_well : ℕ → Command → List Level → List Opening → List OpenRelation → List OpenRelation
opens_well number (commands.OpenRel name) levels opened opens = opens_with number name opened opens
opens_well number (commands.CloseRel name) levels opened opens = without_latest name opens
opens_well number (commands.RollbackTo name) levels opened opens = opens_kept number (levels_up_to name levels) opens
opens_well number commands.Commit levels opened opens = []
opens_well number commands.Rollback levels opened opens = []
opens_well number command levels opened opens = opens

-- the relations that are open after a command that failed: its level is taken back, unless the blocks refused it
abbrev pub opens_badly : ℕ → Bool → List Level → List OpenRelation → List OpenRelation
opens_badly number true levels opens = opens
opens_badly number false levels opens = opens_kept number levels opens

-- the relations that are open after a command, by what is left of its plan
abbrev pub opens_passed : Plan → ℕ → Command → Bool → List Level → List Opening → List OpenRelation → List OpenRelation
opens_passed plan number command blocked levels opened opens = elim (outcome_of plan) [ Well ↦ opens_well number command levels opened opens | outcome ↦ opens_badly number blocked levels opens ]

-- the same of the running command
abbrev pub opens_after : Command → Session → List OpenRelation
opens_after command s = opens_passed s.left (number_of s) command s.blocked s.blocks.levels s.opened s.opens

-- what is kept of the running command
abbrev pub finished_as : Session → Finished
finished_as s = record { block = s.blocks.block; opens = s.opens; refused = s.refused; found = s.found; judged = s.judged }

-- the session at the next command
abbrev pub next_session : Command → Option Command → Session → Session
next_session command next s = at_command (blocks_after command s) (opens_after command s) (s.finished ++ finished_as s ∷ []) s.locks s.last next

-- acts that need no entry are done, and commands that are finished are passed over
abbrev pub settled : Facts → List Command → Session → Session
settled facts [] s = s
settled facts (command ∷ rest) s =
    let now = acted facts command s in
    elim (is_finished_in facts command (work_of now)) [ true ↦ settled facts rest (next_session command (first_of rest) now) | false ↦ now ]
