-- The program's choice: what a backend does next, by the facts of its entries, its running command and what is left of it, and by what it notes.
use Rattle.std.specs.Prelude.{◌&&◌, ◌||◌, Bool, true, false, not, Option, Some, None, List, if◌then◌else◌}
use Rattle.std.specs.List.{find}
use Rattle.std.specs.Option.{option_map, option_and_then}
use Rattle.base_types.specs.Scans.{build_scans}
use Rattle.base_types.specs.declared.scan.Purpose.TheVariants as scans
use Rattle.event_kinds.specs.declared.entry.Event.TheVariants as events
use Rattle.ddl_effect.specs.Stages.{want_of}
use Rattle.ddl_effect.specs.declared.want.Want.{Want}
use Rattle.ddl_effect.specs.declared.want.Want.TheVariants as wants
use Rattle.history_model.specs.Changing.{is_empty}
use Rattle.local_caches.specs.Kept.{Kept, is_kept}
use Rattle.cacheless.specs.declared.progress.Due.TheVariants as dues
use Rattle.cacheless.specs.Facts.{Facts}
use Rattle.cacheless.specs.Session.{Badly, outcome_of}
use Rattle.cacheless.specs.Work.{Work}
use Rattle.cacheless.specs.Owed.{owed_first_in, is_free, is_quiet}
use Rattle.cacheless.specs.Ends.{end_of_all, end_left_in, next_of_end}
use Rattle.cacheless.specs.OnCourse.{is_absent}
use Rattle.cacheless.specs.Rule.{row_of_name}
use Rattle.cacheless.specs.State.{facts_at, work_at}
use Rattle.backend_core.specs.Types.{Oid, Mode, Kind, Purpose, Command, Event, Next, Frame, Backend}
use Rattle.backend_core.specs.declared.next.Next.TheVariants as nexts
use Rattle.backend_core.specs.Agrees.{command_at}
use Rattle.backend_core.specs.Frames.{top}
use Rattle.backend_core.specs.Words.{relation_named}

-- what is noted: whether the look for the next scan of the act is made, the rebuilds that are on their way, and whether messages came since the lookup began
pub record Noted : Type 0 where
  pub looked : Bool
  pub frames : List Frame
  pub told : Bool

-- by a backend
abbrev pub noted_of : Backend → Noted
noted_of s = record { looked = s.looked; frames = s.frames; told = s.told }

-- the first scan that a descriptor lacks
abbrev pub first_lacking : Kept → Kind → Oid → Option Purpose
first_lacking kept kind rel = find (λ scan. not (is_kept kept scan)) (build_scans kind rel)

-- a scan, and before it a look of its own: of a rebuild, or of the act
abbrev pub look_or_scan : Bool → Bool → Purpose → Next
look_or_scan rebuilds looked scan = elim looked [ true ↦ nexts.Scan scan rebuilds | false ↦ nexts.LookBeforeScan rebuilds ]

-- a lookup whose scan is kept: it unlocks what it has locked and doesn't find, locks what it finds, and looks before it says that there is none
abbrev pub next_by_name : Option Oid → Option Oid → Mode → Next
next_by_name (Some taken) found mode = nexts.Unlock taken mode
next_by_name None (Some rel) mode = nexts.Lock rel mode
next_by_name None None mode = nexts.LookBeforeAbsent

-- an entry of an end
abbrev pub as_next : Event → Option Next
as_next (events.Visible xid) = Some (nexts.Commit xid)
as_next (events.Publish count) = Some nexts.Publish
as_next (events.Gone from) = Some (nexts.TakeBack from)
as_next (events.Release from) = Some (nexts.Release from)
as_next event = None

-- the next entry of the command's end
abbrev pub next_by_end : Facts → Command → Work → Option Next
next_by_end facts command w = option_and_then as_next (end_left_in facts command w)

-- what the plan wants, or the scan that this lacks, and once it wants nothing the end
abbrev pub next_by_want : Facts → Command → Work → Bool → Want → Option Next
next_by_want facts command w looked (wants.Lookup name mode) = Some (if is_free facts command w then next_by_name w.taken (relation_named (row_of_name facts name)) mode else look_or_scan false looked (scans.RelName name))
next_by_want facts command w looked (wants.Search scan) = Some (look_or_scan false looked scan)
next_by_want facts command w looked (wants.Open rel kind) = option_map (look_or_scan false looked) (first_lacking facts.kept kind rel)
next_by_want facts command w looked (wants.Lock rel mode) = Some (nexts.Lock rel mode)
next_by_want facts command w looked wants.Write = Some nexts.Write
next_by_want facts command w looked (wants.Done (Some scan)) = if is_free facts command w then next_by_end facts command w else Some (look_or_scan false looked scan)
next_by_want facts command w looked (wants.Done None) = next_by_end facts command w
next_by_want facts command w looked want = None

-- the next scan of the rebuild on top
abbrev pub next_on_top : Facts → Frame → Option Next
next_on_top facts f = option_map (look_or_scan true f.looked) (first_lacking facts.kept f.opening.kind f.opening.rel)

-- in a command that hasn't failed: the rebuilds come first
abbrev pub next_if_going : Facts → Command → Work → Noted → Option Next
next_if_going facts command w noted = elim (top noted.frames) [ Some f ↦ next_on_top facts f | None ↦ next_by_want facts command w noted.looked (want_of w.left) ]

-- it has found no relation, but messages came since the lookup began, or since it looked whether some wait: it looks once more before it says so
abbrev pub looks_again : Facts → Work → Noted → Bool
looks_again facts w noted = is_absent w.left && is_quiet facts.due && (not noted.looked || noted.told)

-- where the last entry asks for nothing
abbrev pub next_if_free : Facts → Command → Work → Noted → Option Next
next_if_free facts command w noted = if not (is_empty (owed_first_in facts command w)) then Some nexts.Look else if looks_again facts w noted then Some nexts.LookBeforeAbsent else elim (outcome_of w.left) [ Badly ↦ next_by_end facts command w | other ↦ next_if_going facts command w noted ]

-- after the last command it takes back what its transaction holds still, and leaves
abbrev pub next_after_last : Facts → Option Next
next_after_last facts = elim (next_of_end facts (end_of_all facts)) [ Some event ↦ as_next event | None ↦ Some nexts.Leave ]

-- what comes next, if anything does
abbrev pub next_of : Facts → Option Command → Work → Noted → Option Next
next_of facts None w noted = next_after_last facts
next_of facts (Some command) w noted = elim facts.due [ dues.Look ↦ Some nexts.Look | dues.Fetch ↦ Some nexts.Fetch | due ↦ next_if_free facts command w noted ]

-- of a backend
abbrev pub next_at : Backend → Option Next
next_at s = next_of (facts_at s.progress) (command_at s) (work_at s.progress) (noted_of s)

-- it looks once more before it says that there is none
abbrev pub accepts_again : Backend → Bool
accepts_again s = looks_again (facts_at s.progress) (work_at s.progress) (noted_of s)
