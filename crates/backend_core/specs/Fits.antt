-- What the program's choice keeps of a session, by the facts of the backend's entries, the running command and the looks for the next scans.
use Rattle.std.specs.Prelude.{◌≡◌, ◌≤◌, ◌+◌, ◌*◌, ◌==◌, ◌&&◌, ⊤, ℕ, Bool, true, false, Option, Some, None, List, [], ◌∷◌, is_none, map, slice_get, not}
use Rattle.std.specs.Option.{option_map_or}
use Rattle.std.specs.List.{list_any}
use Rattle.base_types.specs.Scans.{same_oid}
use Rattle.base_types.specs.declared.scan.Purpose.TheVariants as scans
use Rattle.lock_modes.specs.Own.{is_own}
use Rattle.ddl_effect.specs.Plans.{Plan, Done, Absent, Do, Lookup, Lock, Open, Search, told_rests_on}
use Rattle.cacheless.specs.Facts.{Facts}
use Rattle.cacheless.specs.Session.{Session, Badly, opening_of, held_before, number_of, outcome_of}
use Rattle.cacheless.specs.Owed.{Owes, OwesLook, owed_after, started_in}
use Rattle.cacheless.specs.Settled.{opens_after}
use Rattle.cacheless.specs.State.{one_if, is_absent}
use Rattle.cacheless.specs.Suspects.{lacks, same_kind}
use Rattle.backend_core.specs.Types.{Oid, Command, OwnLock, Opening, Frame}
use Rattle.backend_core.specs.Frames.{IsStack}
use Rattle.backend_core.specs.Words.{relation_named, has_error}
use Rattle.local_caches.specs.Kept.{is_kept, rows_kept}
use Rattle.cacheless.specs.declared.progress.Due.{Due}
use Rattle.cacheless.specs.declared.progress.Due.TheVariants as dues

-- 1 if a look is owed in an accept of messages
abbrev pub looks_due : List Owes → ℕ
looks_due (OwesLook ∷ owed) = 1
looks_due owed = 0

-- how many looks the command owed for its scans, its grants and its transaction's start
abbrev pub looks_owed : Facts → Session → ℕ
looks_owed facts s = s.tally.scans + s.tally.grants + started_in (number_of s) facts

-- how many of the rebuilds have made the look for their next scan
abbrev pub looked_in : List Frame → ℕ
looked_in [] = 0
looked_in (f ∷ frames) = one_if f.looked + looked_in frames

-- 1 if the rebuild on top has, or the next act, where nothing is rebuilt
abbrev pub looked_on_top : Bool → List Frame → ℕ
looked_on_top looked [] = one_if looked
looked_on_top looked (f ∷ frames) = looked_on_top f.looked frames

-- 1 if messages came since a lookup began, or may have, where something is rebuilt
abbrev pub told_owed : Bool → List Frame → ℕ
told_owed told [] = one_if told
told_owed told (f ∷ frames) = 1

-- 1 once the command has come out well: then the messages of its own write may have put rebuilds on
abbrev pub came_well : Plan → ℕ
came_well (Done told) = 1
came_well plan = 0

-- its looks are as many as these, those that were made for next scans and its full fetches that ask for one, and no more than these, that for the scan that comes next and two for each fetch; where messages came since a lookup began, one more may be made, and so once the command has come out well, and once its release is made, unless its transaction started in it
pub record LooksFit (facts : Facts) (s : Session) (looked : Bool) (frames : List Frame) (told : Bool) : Type 0 where
  pub enough : s.tally.full + looks_owed facts s + one_if looked + looked_in frames ≤ s.tally.looks + looks_due (owed_after facts.due)
  pub within : s.tally.looks + looks_due (owed_after facts.due) + told_owed told frames ≤ 2 * s.tally.fetches + looks_owed facts s + looked_on_top looked frames + came_well s.left + one_if s.ended
  pub once : started_in (number_of s) facts + one_if s.ended ≤ 1

-- the lock that a lookup took, or a further one, is held by a grant of its command; a lookup that found no relation took none
abbrev pub TakesFit : ℕ → List OwnLock → Option Oid → Plan → Type 0
TakesFit number locks (Some rel) (Do (Lookup name mode) rest) = list_any (λ lock. is_own rel mode lock && (lock.command == number)) locks ≡ true
TakesFit number locks (Some taken) (Do (Lock rel mode) rest) = list_any (λ lock. is_own rel mode lock && (lock.command == number)) locks ≡ true
TakesFit number locks (Some rel) (Absent name) = ⊥
TakesFit number locks taken plan = ⊤

-- the next act, or the answer, lacks a scan
abbrev pub lacks_scan : Facts → Plan → Bool
lacks_scan facts (Do (Lookup name mode) rest) = not (is_kept facts.kept (scans.RelName name))
lacks_scan facts (Do (Search scan) rest) = not (is_kept facts.kept scan)
lacks_scan facts (Do (Open rel kind) rest) = lacks (is_kept facts.kept) (record { rel = rel; kind = kind })
lacks_scan facts (Done told) = option_map_or (λ scan. not (is_kept facts.kept scan)) (told_rests_on told) false
lacks_scan facts plan = false

-- the next act is a lookup that has found no relation, by a scan that is usable, and holds no lock that it took
abbrev pub finds_no_name : Facts → Option Oid → Plan → Bool
finds_no_name facts taken (Do (Lookup name mode) rest) = is_none taken && is_kept facts.kept (scans.RelName name) && is_none (relation_named (slice_get (rows_kept facts.kept (scans.RelName name)) 0))
finds_no_name facts taken plan = false

-- the last entry was a look
abbrev pub is_look : Due → Bool
is_look dues.Quiet = true
is_look dues.Fetch = true
is_look due = false

-- the last entry took writes back
abbrev pub is_gone_due : Due → Bool
is_gone_due (dues.Gone from) = true
is_gone_due due = false

-- what a look was made for: a scan that the next act lacks, a lookup that has found no relation, after which nothing else came and while nothing is rebuilt, or one that says so
pub data IsLookedFor (facts : Facts) (frames : List Frame) (taken : Option Oid) (plan : Plan) : Type 0 where
  Lacks : lacks_scan facts plan ≡ true → IsLookedFor facts frames taken plan
  Unfound : finds_no_name facts taken plan ≡ true → is_look facts.due ≡ true → frames ≡ [] → IsLookedFor facts frames taken plan
  Said : is_absent plan ≡ true → IsLookedFor facts frames taken plan

-- the descriptor that the next act opens isn't held yet, unless it is held as one of another kind
abbrev pub IsUnheld : List Opening → Plan → Type 0
IsUnheld held (Do (Open rel kind) rest) = list_any (λ o. same_oid rel o.rel && same_kind kind o.kind) held ≡ false
IsUnheld held plan = ⊤

-- the release of a command is made that found no relation
abbrev pub is_lost : Session → Bool
is_lost s = s.ended && is_absent s.left

-- what is held is kept whole: the command hasn't failed, for good or with its release, and nothing was taken back just now
abbrev pub keeps_whole : Facts → Session → Bool
keeps_whole facts s = not (is_gone_due facts.due) && not (is_lost s) && not (has_error s.left)

-- the rebuilds: while what is held is kept whole, they see to that; else there are none, and none in a command that has failed, or after the last one
pub record FramesFit (facts : Facts) (o : Option Command) (s : Session) (frames : List Frame) : Type 0 where
  pub stack : keeps_whole facts s ≡ true → IsStack (is_kept facts.kept) s.opened frames
  pub over : keeps_whole facts s ≡ false → frames ≡ []
  pub badly : outcome_of s.left ≡ Badly → frames ≡ []
  pub past : o ≡ None → frames ≡ []

-- what is so of no held descriptor is so of none of these
abbrev pub AreHeld : List Opening → List Opening → Type 0
AreHeld held those = (p : Opening → Bool) → list_any p held ≡ false → list_any p those ≡ false

-- until its release a command holds the descriptors that were held as it began, and after it those of the relations that stay open
pub record OpensFit (o : Option Command) (s : Session) : Type 0 where
  pub held : s.ended ≡ false → AreHeld s.opened (held_before s)
  pub over : s.ended ≡ true → (command : Command) → o ≡ Some command → s.opened ≡ map opening_of (opens_after command s)

-- what the choice keeps
pub record Fits (facts : Facts) (o : Option Command) (s : Session) (looked : Bool) (frames : List Frame) (told : Bool) : Type 0 where
  pub looks : LooksFit facts s looked frames told
  pub rebuilds : FramesFit facts o s frames
  pub past : o ≡ None → owed_after facts.due ≡ []
  pub relations : OpensFit o s
  pub sought : looked ≡ true → IsLookedFor facts frames s.taken s.left
  pub takes : TakesFit (number_of s) s.locks s.taken s.left
  pub unheld : looked ≡ true → IsUnheld s.opened s.left
