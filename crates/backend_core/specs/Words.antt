-- What the program's choice says of a backend, beside how far it is.
use Rattle.std.specs.Prelude.{Bool, true, false, Option, Some, None, List, ◌&&◌, ◌||◌, not, is_none}
use Rattle.std.specs.Option.{option_map_or}
use Rattle.std.specs.List.{find, list_any}
use Rattle.base_types.specs.Scans.{same_scan, build_scans}
use Rattle.base_types.specs.declared.row.Row.TheVariants as rows
use Rattle.base_types.specs.declared.scan.Purpose.TheVariants as scans
use Rattle.inval_messages.specs.Messages.{covers}
use Rattle.ddl_effect.specs.Plans.{Plan, Fails, Do, Lookup, Open}
use Rattle.ddl_effect.specs.Stages.{plan_at}
use Rattle.cacheless.specs.State.{kept_at, is_kept, is_absent, row_sought}
use Rattle.backend_core.specs.Types.{Oid, Message, Purpose, Row, Opening, Life, Frame, Progress, Backend}
use Rattle.backend_core.specs.Frames.{unless, top, on_top, with_look, frames_fetched, frames_reset, frames_scanned}
use Rattle.backend_core.specs.declared.life.Life.TheVariants as lives

-- the backend has joined
abbrev pub has_joined : Life → Bool
has_joined lives.Unstarted = false
has_joined life = true

-- the backend has left
abbrev pub has_left : Life → Bool
has_left lives.Stopped = true
has_left life = false

-- a look was made for the next scan: of the rebuild on top, or of the next act
abbrev pub is_looked_for : Bool → Backend → Bool
is_looked_for true s = option_map_or (λ f. f.looked) (top s.frames) false
is_looked_for false s = s.looked

-- the relation of a row, if there is one and it is a relation's
abbrev pub relation_named : Option Row → Option Oid
relation_named (Some (rows.Class oid name kind fill)) = Some oid
relation_named given = None

-- the next act is a lookup that has found no relation, by a scan that serves, and holds no lock that it took
abbrev pub is_unfound : Progress → Plan → Bool
is_unfound s (Do (Lookup name mode) rest) = is_none s.taken && is_kept (kept_at s) (scans.RelName name) && is_none (relation_named (row_sought s name))
is_unfound s plan = false

-- so it has, or the command says so already
abbrev pub finds_none : Progress → Bool
finds_none s = is_absent (plan_at s.opens s.exec) || is_unfound s (plan_at s.opens s.exec)

-- the relation of the descriptor that is to be opened
abbrev pub relation_to_open : Plan → Option Oid
relation_to_open (Do (Open rel kind) rest) = Some rel
relation_to_open plan = None

-- the descriptor that is to be opened has made its first scan
abbrev pub has_begun : Progress → Bool
has_begun s = option_map_or (λ rel. is_kept (kept_at s) (scans.Class rel)) (relation_to_open (plan_at s.opens s.exec)) false

-- messages mark it: its first scan is made, and one of them is for its relation, so that the build starts over, with another look
abbrev pub marks_build : Progress → List Message → Bool
marks_build s messages = option_map_or (λ rel. is_kept (kept_at s) (scans.Class rel) && list_any (covers (scans.Class rel)) messages) (relation_to_open (plan_at s.opens s.exec)) false

-- the look for the next scan of the act counts still, after a fetch
abbrev pub looked_after : Backend → Bool → Bool → Bool
looked_after s unfound marked = s.looked && not unfound && not marked

-- messages came since the lookup began, after a fetch: one that had found no relation begins again; to one that looked before its scan they came, unless they mark the descriptor that is to be opened
abbrev pub told_after : Backend → Bool → Bool → Bool
told_after s unfound marked = (s.told || (s.looked && not marked)) && not unfound

-- the command has failed, but for a lookup that found no relation
abbrev pub has_error : Plan → Bool
has_error (Fails error) = true
has_error plan = false

-- the rebuilds after a fetch of messages: a command that has failed rebuilds nothing
abbrev pub frames_given : Backend → List Message → List Frame
frames_given s messages = unless (has_error (plan_at s.progress.opens s.progress.exec)) s.frames (frames_fetched (is_kept (kept_at s.progress)) s.progress.opened messages s.frames)

-- and after one of a reset
abbrev pub frames_reset_of : Backend → List Opening → List Frame
frames_reset_of s held = unless (has_error (plan_at s.progress.opens s.progress.exec)) s.frames (frames_reset (is_kept (kept_at s.progress)) held s.frames)

-- the rebuilds after a look, of the one on top or of the next act
abbrev pub frames_looked : Bool → List Frame → List Frame
frames_looked rebuilds frames = elim rebuilds [ true ↦ on_top with_look frames | false ↦ frames ]

-- the rebuilds after a scan, of the one on top or of the next act
abbrev pub frames_noted : Bool → (Purpose → Bool) → List Opening → List Frame → List Frame
frames_noted rebuilds has held frames = elim rebuilds [ true ↦ frames_scanned has held frames | false ↦ frames ]

-- by what is kept with it
abbrev pub frames_with_scan : Bool → Purpose → Backend → List Frame
frames_with_scan rebuilds scan s = frames_noted rebuilds (λ other. same_scan scan other || is_kept (kept_at s.progress) other) s.progress.opened s.frames

-- the next scan of the rebuild on top
abbrev pub scan_on_top : Backend → Option Purpose
scan_on_top s = elim (top s.frames) [ Some f ↦ find (λ scan. not (is_kept (kept_at s.progress) scan)) (build_scans f.opening.kind f.opening.rel) | None ↦ None ]
