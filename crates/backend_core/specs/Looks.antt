-- What a backend asks for next, and the looks that it makes while others may make entries.
use Rattle.std.specs.Prelude.{◌≡◌, ◌≢◌, ◌≤◌, ◌^◌, ◌+◌, ◌++◌, ◌∷◌, ℕ, Bool, true, false, List, [], length, map}
use Rattle.event_kinds.specs.declared.entry.Event.TheVariants as events
use Rattle.history_model.specs.MayFollow.{MayFollow, AllowsLook}
use Rattle.history_model.specs.Prefixes.{EachFrom}
use Rattle.seg_calls.specs.Calls.{entry_of, MayCall}
use Rattle.cacheless.specs.Plays.{IsNext}
use Rattle.cacheless.specs.State.{one_if}
use Rattle.backend_core.specs.Types.{Scenario, Entry, Next, Backend}
use Rattle.backend_core.specs.declared.life.Life.TheVariants as lives
use Rattle.backend_core.specs.declared.look_for.LookFor.{LookFor}
use Rattle.backend_core.specs.declared.look_for.LookFor.TheVariants as looks
use Rattle.backend_core.specs.declared.next.Next.TheVariants as nexts
use Rattle.backend_core.specs.declared.turns.HeldLook.{HeldLook}
use Rattle.backend_core.specs.declared.want.Want.{Want}
use Rattle.backend_core.specs.declared.want.Want.TheVariants as wants
use Rattle.backend_core.specs.Agrees.{IsPlayed, AgreesNow, AwaitsEntry, IsReady, Stands}
use Rattle.backend_core.specs.Halts.{AwaitsCommand}
use Rattle.backend_core.specs.Noted.{noted_of, noted_by, IsEntered, Settles}
use Rattle.backend_core.specs.Steps.{IsNextOf}

-- a look as the entry that comes next
abbrev pub next_of_look : LookFor → Next
next_of_look looks.Accept = nexts.Look
next_of_look (looks.Scan rebuilds) = nexts.LookBeforeScan rebuilds
next_of_look looks.Absent = nexts.LookBeforeAbsent

-- what an entry needs
abbrev pub want_of_next : Next → Want
want_of_next nexts.Look = wants.Look looks.Accept
want_of_next (nexts.LookBeforeScan rebuilds) = wants.Look (looks.Scan rebuilds)
want_of_next nexts.LookBeforeAbsent = wants.Look looks.Absent
want_of_next next = wants.Turn

-- the entry of a backend's look
abbrev pub look_of : Backend → Bool → Entry
look_of s some_wait = entry_of s.progress.id (s.progress.finished + 1) (events.Look some_wait)

-- a look that the script allows next, after which the backend agrees, before it goes on without entries
pub record LooksWell (scenario : Scenario) (seen : List Entry) (was : Backend) (some_wait : Bool) (now : Backend) : Type 0 where
  pub next : IsNext scenario seen (look_of was some_wait)
  pub agrees : AgreesNow scenario (seen ++ look_of was some_wait ∷ []) now
  pub goes : IsEntered scenario seen (seen ++ look_of was some_wait ∷ []) was.progress (events.Look some_wait) now.progress
  pub id : now.progress.id ≡ was.progress.id
  pub number : now.progress.finished ≡ was.progress.finished

-- the same in each history in which it is ready and that the look may follow
abbrev pub LooksWherever : Backend → Bool → Backend → Type 0
LooksWherever was some_wait now = (scenario : Scenario) (seen : List Entry) → IsReady scenario seen was → MayFollow seen (look_of was some_wait) → LooksWell scenario seen was some_wait now

-- a look notes what it is made for, whatever is before it
abbrev pub NotesLook : Backend → LookFor → Bool → Backend → Type 0
NotesLook was look some_wait now = (seen : List Entry) → noted_of now ≡ noted_by seen was (next_of_look look) (events.Look some_wait)

-- it has gone on as far as it can without an entry
pub record HasSettled (scenario : Scenario) (seen : List Entry) (was now : Backend) : Type 0 where
  pub waits : AwaitsEntry scenario seen now
  pub id : now.progress.id ≡ was.progress.id
  pub noted : Settles was now

-- the same in each history in which it agrees
abbrev pub SettlesWherever : Backend → Backend → Type 0
SettlesWherever was now = (scenario : Scenario) (seen : List Entry) → AgreesNow scenario seen was → HasSettled scenario seen was now

-- it has gone on to the end of its command, and is at the next one, or as far as it can
pub record GoesOver (scenario : Scenario) (seen : List Entry) (over : Bool) (was now : Backend) : Type 0 where
  pub agrees : AgreesNow scenario seen now
  pub waits : over ≡ false → AwaitsEntry scenario seen now
  pub command : over ≡ true → AwaitsCommand scenario seen now
  pub id : now.progress.id ≡ was.progress.id
  pub number : now.progress.finished ≡ was.progress.finished + one_if over
  pub noted : Settles was now

-- the same in each history in which it agrees
abbrev pub GoesWherever : Bool → Backend → Backend → Type 0
GoesWherever over was now = (scenario : Scenario) (seen : List Entry) → AgreesNow scenario seen was → GoesOver scenario seen over was now

-- a backend that is right: it stands in some history, which was played and isn't too long
pub record IsRight (s : Backend) : Type 0 where
  pub scenario : Scenario
  pub seen : List Entry
  pub stands : Stands scenario seen s
  pub played : IsPlayed scenario seen
  pub short : length seen ≤ 2 ^ 56

-- a backend that agrees with some history
pub record IsOnItsWay (s : Backend) : Type 0 where
  pub scenario : Scenario
  pub seen : List Entry
  pub agrees : AgreesNow scenario seen s

-- it needs a turn: to join, or for an entry that is no look
pub data NeedsTurn (s : Backend) : Type 0 where
  ToJoin : s.life ≡ lives.Unstarted → NeedsTurn s
  ToEnter : s.life ≡ lives.Alive → (next : Next) → IsNextOf s next → want_of_next next ≡ wants.Turn → NeedsTurn s

-- what it asks for
abbrev pub Wants : Backend → Want → Type 0
Wants s (wants.Look look) = (s.life ≡ lives.Alive) × IsNextOf s (next_of_look look)
Wants s wants.Turn = NeedsTurn s
Wants s wants.Ended = s.life ≡ lives.Stopped

-- the look comes next in a history, which goes on to be played, and the backend agrees with it
pub record Looked (scenario : Scenario) (seen : List Entry) (was : Backend) (some_wait : Bool) (now : Backend) : Type 0 where
  pub id : now.progress.id ≡ was.progress.id
  pub number : now.progress.finished ≡ was.progress.finished
  pub call : MayCall scenario seen (look_of was some_wait)
  pub next : IsNext scenario seen (look_of was some_wait)
  pub played : IsPlayed scenario (seen ++ look_of was some_wait ∷ [])
  pub agrees : AgreesNow scenario (seen ++ look_of was some_wait ∷ []) now
  pub goes : IsEntered scenario seen (seen ++ look_of was some_wait ∷ []) was.progress (events.Look some_wait) now.progress

-- the same in each history in which it stands, that was played and allows the look
abbrev pub MakesLook : Backend → Bool → Backend → Type 0
MakesLook was some_wait now = (scenario : Scenario) (seen : List Entry) → Stands scenario seen was → IsPlayed scenario seen → AllowsLook seen was.progress.id some_wait → Looked scenario seen was some_wait now

-- a look leaves the backend in its command, whatever it said and whichever history it comes in
pub record StaysInCommand (was now : Backend) : Type 0 where
  pub id : now.progress.id ≡ was.progress.id
  pub number : now.progress.finished ≡ was.progress.finished
  pub life : now.life ≡ was.life

-- a look that is held back
abbrev pub held_look : Backend → Bool → HeldLook
held_look s some_wait = record { command = s.progress.finished + 1; some_wait = some_wait }

-- the entry of a look that a backend has held back
abbrev pub entry_held : ℕ → HeldLook → Entry
entry_held b look = entry_of b look.command (events.Look look.some_wait)

-- those of several
abbrev pub entries_of : ℕ → List HeldLook → List Entry
entries_of b held = map (entry_held b) held

-- a backend may call for these entries, in order
abbrev pub MayCallAll : Scenario → List Entry → List Entry → Type 0
MayCallAll scenario before entries = EachFrom (MayCall scenario) before entries

-- so many promised places are taken at most, of the backend's own, and none is promised
pub record TakesPlaces (had has : ℕ → ℕ) (b n : ℕ) : Type 0 where
  pub own : had b ≤ has b + n
  pub most : has b ≤ had b
  pub others : (a : ℕ) → a ≢ b → has a ≡ had a
