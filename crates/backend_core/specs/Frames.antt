-- The rebuilds of held descriptors that are on their way, the last one on top: what a message, a reset and a scan make of them. What is kept is given as a test of scans, and what is held as the descriptors that are open.
use Rattle.std.specs.Prelude.{◌≡◌, ◌-◌, ◌==◌, ◌&&◌, ◌⊎◌, ◌++◌, ◌∷◌, ⊤, Bool, true, false, not, Option, Some, None, List, [], fold, map, length, take, slice_get, slice_set, nat_le, nat_lt, if◌then◌else◌}
use Rattle.std.specs.List.{find, list_any, AllByRecursion}
use Rattle.base_types.specs.Scans.{same_oid}
use Rattle.base_types.specs.declared.scan.Purpose.TheVariants as scans
use Rattle.inval_messages.specs.declared.message.Message.TheVariants.{Cat, Rel}
use Rattle.cacheless.specs.Suspects.{lacks}
use Rattle.backend_core.specs.Types.{Oid, Purpose, Message, Opening, Frame}

-- a rebuild is of this relation
abbrev pub is_of : Oid → Frame → Bool
is_of rel f = same_oid rel f.opening.rel

-- a relation is being rebuilt
abbrev pub is_rebuilding : List Frame → Oid → Bool
is_rebuilding frames rel = list_any (is_of rel) frames

-- a reset goes on
abbrev pub is_resetting : List Frame → Bool
is_resetting frames = list_any (λ f. f.of_reset) frames

-- a rebuild starts over, if its first scan is made: then the look for its next scan doesn't count
abbrev pub restarted : (Purpose → Bool) → Frame → Frame
restarted has f = record f { looked = f.looked && not (has (scans.Class f.opening.rel)) }

-- so does that of this relation
abbrev pub told_if : (Purpose → Bool) → Oid → Frame → Frame
told_if has rel f = if is_of rel f then restarted has f else f

-- a rebuild that begins
abbrev pub new_frame : Opening → Bool → Frame
new_frame opening of_reset = record { opening = opening; looked = false; of_reset = of_reset }

-- one is put on, if there is one
abbrev pub with_new : Option Opening → Bool → List Frame → List Frame
with_new None of_reset frames = frames
with_new (Some o) of_reset frames = frames ++ new_frame o of_reset ∷ []

-- the rebuilds after a message for a relation: its rebuild starts over, or is put on, if the relation is held
abbrev pub frames_told : (Purpose → Bool) → List Opening → Oid → List Frame → List Frame
frames_told has held rel frames = elim (is_rebuilding frames rel) [ true ↦ map (told_if has rel) frames | false ↦ with_new (find (λ o. same_oid rel o.rel) held) false frames ]

-- and after any message
abbrev pub frames_by : (Purpose → Bool) → List Opening → List Frame → Message → List Frame
frames_by has held frames (Cat cache hash) = frames
frames_by has held frames (Rel rel) = frames_told has held rel frames

-- after messages, by what was kept before all of them
abbrev pub frames_after : (Purpose → Bool) → List Opening → List Message → List Frame → List Frame
frames_after has held messages frames = fold (frames_by has held) frames messages

-- the one on top
abbrev pub top : List Frame → Option Frame
top frames = slice_get frames (length frames - 1)

-- those below it
abbrev pub below : List Frame → List Frame
below frames = take (length frames - 1) frames

-- the one on top is changed
abbrev pub on_top : (Frame → Frame) → List Frame → List Frame
on_top change frames = elim (top frames) [ Some f ↦ slice_set frames (length frames - 1) (change f) | None ↦ frames ]

-- the look for its next scan is made
abbrev pub with_look : Frame → Frame
with_look f = record f { looked = true }

-- it is made at once, where it is so
abbrev pub looked_if : Bool → List Frame → List Frame
looked_if looks frames = elim looks [ true ↦ on_top with_look frames | false ↦ frames ]

-- they stay as they are, where that is so
abbrev pub unless : Bool → List Frame → List Frame → List Frame
unless stays frames now = elim stays [ true ↦ frames | false ↦ now ]

-- the rebuilds after a fetch: where a full one puts rebuilds on, the look that it asks for is the first of the one on top
abbrev pub frames_fetched : (Purpose → Bool) → List Opening → List Message → List Frame → List Frame
frames_fetched has held messages frames = looked_if ((length messages == 32) && nat_lt (length frames) (length (frames_after has held messages frames))) (frames_after has held messages frames)

-- what a reset has left: a held relation that isn't whole and isn't being rebuilt
abbrev pub is_left : (Purpose → Bool) → List Frame → Opening → Bool
is_left has frames o = lacks has o && not (is_rebuilding frames o.rel)

-- the one of lesser oid
abbrev pub lesser : Option Opening → Opening → Option Opening
lesser None o = Some o
lesser (Some best) o = if nat_le best.rel.0 o.rel.0 then Some best else Some o

-- the one of least oid
abbrev pub least_left : (Purpose → Bool) → List Frame → List Opening → Option Opening
least_left has frames held = fold (λ best o. if is_left has frames o then lesser best o else best) None held

-- it is put on
abbrev pub with_rest : (Purpose → Bool) → List Opening → List Frame → List Frame
with_rest has held frames = with_new (least_left has frames held) true frames

-- the rebuilds after a reset: each starts over whose first scan was made, and what is left begins
abbrev pub frames_reset : (Purpose → Bool) → List Opening → List Frame → List Frame
frames_reset has held frames = with_rest (λ scan. false) held (map (restarted has) frames)

-- one that is so, if it is
abbrev pub if_so : (Opening → Bool) → Option Opening → Option Opening
if_so p None = None
if_so p (Some o) = if p o then Some o else None

-- what a rebuild lacks still: its descriptor, or another one that is held of its relation
abbrev pub left_of : (Purpose → Bool) → List Opening → Frame → Option Opening
left_of has held f = elim (lacks has f.opening) [ true ↦ Some f.opening | false ↦ find (λ o. same_oid f.opening.rel o.rel && lacks has o) held ]

-- the rebuilds after a scan of this one, which was on top of these: it goes on, or it is done, and what a reset has left comes, if that put it on
abbrev pub scanned_on : (Purpose → Bool) → List Opening → List Frame → Frame → List Frame
scanned_on has held under f = elim (left_of has held f) [ Some o ↦ under ++ new_frame o f.of_reset ∷ [] | None ↦ elim f.of_reset [ true ↦ with_rest has held under | false ↦ under ] ]

-- the rebuilds after a scan of the one on top
abbrev pub frames_scanned : (Purpose → Bool) → List Opening → List Frame → List Frame
frames_scanned has held frames = elim (top frames) [ Some f ↦ scanned_on has held (below frames) f | None ↦ frames ]

-- a descriptor is among those that are held
abbrev pub IsAmong : List Opening → Opening → Type 0
IsAmong held o = (p : Opening → Bool) → p o ≡ true → list_any p held ≡ true

-- what a held descriptor lacks will be found: it lacks nothing, or its relation is being rebuilt, or a reset goes on
abbrev pub IsFound : (Purpose → Bool) → List Frame → Opening → Type 0
IsFound has frames o = (lacks has o ≡ false) ⊎ ((is_rebuilding frames o.rel ≡ true) ⊎ (is_resetting frames ≡ true))

-- a rebuild is of a held descriptor, which lacks a scan
pub record IsRebuilt (has : Purpose → Bool) (held : List Opening) (f : Frame) : Type 0 where
  pub among : IsAmong held f.opening
  pub lacking : lacks has f.opening ≡ true

-- no two rebuilds are of one relation
abbrev pub AreApart : List Frame → Type 0
AreApart [] = ⊤
AreApart (f ∷ frames) = (is_rebuilding frames f.opening.rel ≡ false) × AreApart frames

-- the rebuilds are those of held descriptors that lack scans, each once, and what they lack will be found
pub record IsStack (has : Purpose → Bool) (held : List Opening) (frames : List Frame) : Type 0 where
  pub found : (o : Opening) → IsAmong held o → IsFound has frames o
  pub each : AllByRecursion (IsRebuilt has held) frames
  pub once : AreApart frames
