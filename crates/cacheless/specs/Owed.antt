-- What a backend has to do before its next act.
use Rattle.std.specs.Prelude.{ℕ, Bool, true, false, not, Option, Some, None, List, [], ◌∷◌, ◌++◌, ◌+◌, ◌==◌, ◌&&◌, ◌||◌, map, filter, take, is_none, nat_lt}
use Rattle.std.specs.Option.{option_map_or}
use Rattle.std.specs.List.{flat_map, list_any}
use Rattle.base_types.specs.Scans.{same_scan, is_build_scan, build_scans}
use Rattle.ddl_effect.specs.Plans.{Plan, Do, Read, left_rests_on}
use Rattle.txn_blocks.specs.Blocks.{Outside, no_block, ends_block, refused_by}
use Rattle.history_model.specs.Changing.{is_empty}
use Rattle.local_caches.specs.Kept.{Kept, is_kept}
use Rattle.cacheless.specs.Types.{Purpose, Command, Opening}
use Rattle.cacheless.specs.declared.progress.Due.{Due}
use Rattle.cacheless.specs.declared.progress.Due.TheVariants as dues
use Rattle.cacheless.specs.Facts.{Facts}
use Rattle.cacheless.specs.Session.{Badly, outcome_of}
use Rattle.cacheless.specs.Work.{Work}

-- a look at the has-messages word, a fetch, or a scan
pub data Owes : Type 0 where
  OwesLook : Owes
  OwesFetch : Owes
  OwesScan : (scan : Purpose) → Owes

-- what has to come right after the last event
abbrev pub owed_after : Due → List Owes
owed_after dues.Nothing = []
owed_after dues.Quiet = []
owed_after (dues.Gone from) = []
owed_after dues.Look = OwesLook ∷ []
owed_after dues.Fetch = OwesFetch ∷ []

-- the last event was a look, which told that no message waits
abbrev pub is_quiet : Due → Bool
is_quiet dues.Quiet = true
is_quiet due = false

-- a command outside a block begins a transaction, unless it only ends blocks or the blocks refuse it
abbrev pub begins_in : Command → Work → Bool
begins_in command w = elim w.blocks.block [ Outside ↦ not (ends_block command) && not w.ended && is_none (refused_by no_block command) | block ↦ false ]

-- a transaction starts with a look
abbrev pub owed_first_in : Facts → Command → Work → List Owes
owed_first_in facts command w = elim (begins_in command w && is_none facts.running) [ true ↦ OwesLook ∷ [] | false ↦ [] ]

-- those of these scans that aren't kept
abbrev pub missing : Kept → List Purpose → List Purpose
missing kept wanted = filter (λ scan. not (is_kept kept scan)) wanted

-- the scans that the opened descriptors lack
abbrev pub builds_missing : Kept → List Opening → List Purpose
builds_missing kept opened = flat_map (λ o. missing kept (build_scans o.kind o.rel)) opened

-- the scans that the next act or the answer lacks
abbrev pub act_owed : Facts → Plan → List Purpose
act_owed facts plan = missing facts.kept (left_rests_on plan)

-- the scans that are owed: none once the command has failed
abbrev pub scans_owed_in : Facts → Work → List Purpose
scans_owed_in facts w = elim (outcome_of w.left) [ Badly ↦ [] | other ↦ builds_missing facts.kept w.opened ++ act_owed facts w.left ]

-- all that has to come before the next act, or before the end
abbrev pub owed_in : Facts → Command → Work → List Owes
owed_in facts command w = owed_first_in facts command w ++ owed_after facts.due ++ map OwesScan (scans_owed_in facts w)

-- nothing has to
abbrev pub is_free : Facts → Command → Work → Bool
is_free facts command w = is_empty (owed_in facts command w)

-- the first scan that the next act lacks; what it reads of an opened descriptor is scanned in the order of that descriptor
abbrev pub act_next : Facts → Plan → List Purpose
act_next facts (Do (Read scan) rest) = []
act_next facts plan = take 1 (act_owed facts plan)

-- a scan may be made now: of each descriptor the first that it lacks, and the first that the next act lacks
abbrev pub is_next_in : Purpose → Facts → Work → Bool
is_next_in scan facts w = list_any (same_scan scan) (elim (outcome_of w.left) [ Badly ↦ [] | other ↦ flat_map (λ o. take 1 (missing facts.kept (build_scans o.kind o.rel))) w.opened ++ act_next facts w.left ])

-- a scan for an opened descriptor is owed
abbrev pub owes_build_in : Facts → Work → Bool
owes_build_in facts w = elim (outcome_of w.left) [ Badly ↦ false | other ↦ not (is_empty (builds_missing facts.kept w.opened)) ]

-- an accept of messages isn't over: a look, a fetch, or a scan for an opened descriptor is owed
abbrev pub accepts_in : Facts → Work → Option Command → Bool
accepts_in facts w None = not (is_empty (owed_after facts.due))
accepts_in facts w (Some command) = not (is_empty (owed_first_in facts command w ++ owed_after facts.due)) || owes_build_in facts w

-- after a fetch of so many messages a further look is owed that counts for no scan: no scan for a descriptor is owed, of one that is opened, or of the one that is opened next
abbrev pub counts_full : ℕ → Facts → Work → Bool
counts_full count facts w = (count == 32) && not (list_any is_build_scan (scans_owed_in facts w))

-- 1 if the running transaction started in this command
abbrev pub started_in : ℕ → Facts → ℕ
started_in number facts = option_map_or (λ t. elim (t.first == number) [ true ↦ 1 | false ↦ 0 ]) facts.running 0

-- there was a look for each scan and grant of the command, for the start of its transaction and for each full fetch that asks for one, and one more
abbrev pub has_looked_in : Facts → Work → Bool
has_looked_in facts w = nat_lt (w.tally.scans + w.tally.grants + started_in w.number facts + w.tally.full) w.tally.looks
