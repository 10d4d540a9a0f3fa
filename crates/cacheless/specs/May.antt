-- What is lacking, as the code searches for it.
use Rattle.std.specs.Prelude.{◌≡◌, ℕ, Bool, true, false, not, List, ◌&&◌, ◌||◌, is_some, nat_lt, slice_get}
use Rattle.std.specs.Option.{option_map_or}
use Rattle.std.specs.List.{find}
use Rattle.base_types.specs.Scans.{same_scan, build_scans}
use Rattle.base_types.specs.declared.scan.Purpose.TheVariants as scans
use Rattle.ddl_effect.specs.Plans.{Plan, Done, Do, Lookup, Open, Search, Read, told_rests_on}
use Rattle.history_model.specs.Changing.{is_empty}
use Rattle.local_caches.specs.Kept.{Kept, is_kept}
use Rattle.cacheless.specs.Types.{Oid, Kind, Purpose, Command, Opening, Event, Mode}
use Rattle.cacheless.specs.declared.progress.Progress.{Progress}
use Rattle.cacheless.specs.Session.{Badly, outcome_of}
use Rattle.cacheless.specs.Owed.{act_owed, is_next_in, has_looked_in, is_free}
pub use Rattle.cacheless.specs.Rule.{names_relation}
use Rattle.cacheless.specs.Rule.{may_play, may_last, may_come, is_lock, is_unlock, may_lock, may_end, same_end, comes_next, is_free_to}
use Rattle.cacheless.specs.Ends.{End, next_of_commit, next_of_taking_back, next_of_end}
pub use Rattle.cacheless.specs.State.{owes_nothing}
use Rattle.cacheless.specs.State.{facts_at, work_at}

-- the counts are small enough to be summed
abbrev pub HasRoom : Progress → Type 0
HasRoom s = (nat_lt s.tally.looks 1152921504606846976 ≡ true) × (nat_lt s.tally.scans 1152921504606846976 ≡ true) × (nat_lt s.tally.grants 1152921504606846976 ≡ true) × (nat_lt s.tally.unlocks 1152921504606846976 ≡ true) × (nat_lt s.tally.fetches 1152921504606846976 ≡ true) × (nat_lt s.tally.full 1152921504606846976 ≡ true)

-- the scan is the first that a descriptor lacks
abbrev pub is_first_missing : Purpose → Kept → Kind → Oid → Bool
is_first_missing scan kept kind rel = option_map_or (same_scan scan) (find (λ d. not (is_kept kept d)) (build_scans kind rel)) false

-- the scan is this one, and isn't kept
abbrev pub is_missing : Purpose → Kept → Purpose → Bool
is_missing scan kept wanted = not (is_kept kept wanted) && same_scan scan wanted

-- the scan is the first that the next act or the answer lacks
abbrev pub is_next_of_act : Purpose → Kept → Plan → Bool
is_next_of_act scan kept (Do (Lookup name mode) rest) = is_missing scan kept (scans.RelName name)
is_next_of_act scan kept (Do (Search wanted) rest) = is_missing scan kept wanted
is_next_of_act scan kept (Done told) = option_map_or (is_missing scan kept) (told_rests_on told) false
is_next_of_act scan kept (Do (Open rel kind) rest) = is_first_missing scan kept kind rel
is_next_of_act scan kept plan = false

-- the command has failed
abbrev pub has_failed : Progress → Bool
has_failed s = elim (outcome_of (work_at s).left) [ Badly ↦ true | other ↦ false ]

-- an opened descriptor lacks a scan
abbrev pub lacks_opened : Kept → List Opening → Bool
lacks_opened kept opened = is_some (find (λ o. is_some (find (λ scan. not (is_kept kept scan)) (build_scans o.kind o.rel))) opened)

-- the next act lacks a scan for a descriptor
abbrev pub lacks_to_build : Kept → Plan → Bool
lacks_to_build kept (Do (Open rel kind) rest) = is_some (find (λ scan. not (is_kept kept scan)) (build_scans kind rel))
lacks_to_build kept (Do (Read scan) rest) = not (is_kept kept scan)
lacks_to_build kept plan = false

-- a scan has to come before the next act
abbrev pub lacks_any : Progress → Bool
lacks_any s = not (has_failed s) && (lacks_opened (facts_at s).kept s.opened || not (is_empty (act_owed (facts_at s) (work_at s).left)))

-- the rule's words by what the code holds
abbrev pub may_play_now : ℕ → Progress → Event → Bool
may_play_now next s event = may_come next (facts_at s) (slice_get s.commands s.finished) (work_at s) event

abbrev pub may_play_at : ℕ → Command → Progress → Event → Bool
may_play_at next command s event = may_play next (facts_at s) command (work_at s) event

abbrev pub may_last_at : Progress → Event → Bool
may_last_at s event = may_last (facts_at s) (work_at s) event

abbrev pub is_next_at : Purpose → Progress → Bool
is_next_at scan s = is_next_in scan (facts_at s) (work_at s)

abbrev pub has_looked_at : Progress → Bool
has_looked_at s = has_looked_in (facts_at s) (work_at s)

abbrev pub is_lock_at : Progress → Plan → Oid → Mode → Bool
is_lock_at s plan rel mode = is_lock (facts_at s) plan rel mode

abbrev pub is_unlock_at : Progress → Plan → Oid → Mode → Bool
is_unlock_at s plan rel mode = is_unlock (facts_at s) s.taken plan rel mode

abbrev pub may_lock_at : Command → Oid → Mode → Progress → Bool
may_lock_at command rel mode s = may_lock (facts_at s) command (work_at s) rel mode

abbrev pub may_unlock_at : Command → Oid → Mode → Progress → Bool
may_unlock_at command rel mode s = is_free (facts_at s) command (work_at s) && is_unlock (facts_at s) s.taken (work_at s).left rel mode

abbrev pub may_end_at : Command → Progress → Event → Bool
may_end_at command s event = may_end (facts_at s) command (work_at s) event

abbrev pub is_next_of_commit : ℕ → Progress → Event → Bool
is_next_of_commit first s event = same_end (next_of_commit (facts_at s) first) event

abbrev pub is_next_of_back : ℕ → Progress → Event → Bool
is_next_of_back from s event = same_end (next_of_taking_back (facts_at s) from) event

abbrev pub is_next_of_end : Progress → Event → End → Bool
is_next_of_end s event end = comes_next (next_of_end (facts_at s) end) event

abbrev pub owes_no_end : Command → Progress → End → Bool
owes_no_end command s end = is_free_to end (facts_at s) command (work_at s)
