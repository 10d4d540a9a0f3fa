-- The seats of a run: a worker with its gate, and how its work ended.
use Rattle.std.specs.Prelude.{◌≡◌, ◌≤◌, ⊤, ℕ, ◌+◌, ◌^◌, length, true, false, List, [], ◌∷◌, ◌++◌, Option, Some, None, MatchOption, Result, Ok, Err, OnOk}
use Rattle.backend_core.specs.declared.backend.Backend.{Backend}
use Rattle.backend_core.specs.Agrees.{Stands}
use Rattle.backend_core.specs.Words.{has_joined, has_left}
use Rattle.event_kinds.specs.declared.entry.Entry.{Entry}
use Rattle.base_types.specs.Scenario.{Scenario, IsBackend}
use Rattle.ddl_effect.specs.Commands.{commands_of}
use Rattle.edge_io.specs.declared.gates.Asked.{Asked}
use Rattle.turn_table.specs.declared.pass.Pass.{Pass}
use Rattle.turn_table.specs.declared.turned.Turned.{Ghosts}
use Rattle.turn_table.specs.Passes.{IsPassOf, start_of, seen_by, room_of}
use Rattle.thread_run.specs.declared.refusal.RunRefusal.{RunRefusal}
use Rattle.thread_run.specs.declared.refusal.RunRefusal.TheVariants as refusals
use Rattle.thread_run.specs.declared.worker.Worker.{Worker}
use Rattle.thread_run.specs.declared.seats.Seat.{Seat}
use Rattle.thread_run.specs.Asks.{AsksBy}
use Rattle.thread_run.specs.Runs.{IsRunSoFar}
use Rattle.thread_run.specs.Scripts.{Play, HasAll}
use Rattle.thread_run.specs.Stops.{StopsBy}
use Rattle.thread_run.specs.Turns.{HasEnded}
use Rattle.thread_run.specs.Workers.{Table, IsAt, IsNewAt, HasAllAt}

-- it holds of each two elements at the same place of lists that are as long
abbrev pub AllPairs : {A B : Type 0} → (A → B → Type 0) → List A → List B → Type 0
AllPairs R [] [] = ⊤
AllPairs R (x ∷ xs) (y ∷ ys) = R x y × AllPairs R xs ys
AllPairs R xs ys = ⊥

-- what is read off each element, the last one first
abbrev pub from_last : {A B : Type 0} → (A → B) → List A → List B
from_last f [] = []
from_last f (x ∷ xs) = from_last f xs ++ f x ∷ []

module _ {of : Ghosts Play Entry Scenario} (table : Table) where
  -- a pass of the table before its first turn, and its backend, which stands in the history that the pass has seen
  pub record MaySit (pass : Pass Play Entry Scenario of) (backend : Backend) : Type 0 where
    pub of_table : IsPassOf table pass
    pub number : IsBackend (start_of table).whole.backends pass.number
    pub id : backend.progress.id ≡ pass.number
    pub stands : Stands (start_of table).whole (seen_by pass) backend
    pub new : has_joined backend.life ≡ false
    pub alive : has_left backend.life ≡ false
    pub run : IsRunSoFar (start_of table).whole (seen_by pass)
    pub short : length (seen_by pass) + 16 ≤ 2 ^ 56
    pub all : HasAll (start_of table).whole pass.number (room_of pass)

  -- a pass of the table, and its backend, which has left
  pub record HasDone (pass : Pass Play Entry Scenario of) (backend : Backend) : Type 0 where
    pub of_table : IsPassOf table pass
    pub ended : HasEnded (start_of table).whole pass.number (seen_by pass) backend
    pub all : HasAll (start_of table).whole pass.number (room_of pass)

-- a worker at the table, before its first turn
abbrev pub IsSeated : {G : Type 0} → Table → Seat G → Type 0
IsSeated table seat = MatchOption seat.worker ⊥ (λ w. IsAt table w × IsNewAt table w)

-- a worker after its work, by how that ended: it has left where it ended well, and where its gate stopped it, unless memory was refused in its last turn
pub record WorkEnded (table : Table) (end : Result (Unit {0}) RunRefusal) (w : Worker) : Type 0 where
  pub at : IsAt table w
  pub ended : OnOk end (HasEnded (start_of table).whole w.pass.number (seen_by w.pass) w.backend × HasAllAt table w)
  pub halted : end ≡ Err refusals.Stopped → w.halt_refused ≡ false → has_left w.backend.life ≡ true

-- a seat after its worker's work
abbrev pub HasWorked : {G : Type 0} → Table → Seat G → Type 0
HasWorked table seat = MatchOption seat.worker ⊥ (WorkEnded table seat.end)

-- the number of the worker
abbrev pub number_in : Option Worker → ℕ
number_in None = 0
number_in (Some w) = w.pass.number

abbrev pub number_of : {G : Type 0} → Seat G → ℕ
number_of seat = number_in seat.worker

-- one end, unless another came before it that isn't well
abbrev pub first_end : Result (Unit {0}) RunRefusal → Result (Unit {0}) RunRefusal → Result (Unit {0}) RunRefusal
first_end (Ok done) next = next
first_end (Err refusal) next = Err refusal

-- how the work of all ended, the last one first: the first end that isn't well
abbrev pub end_of : {G : Type 0} → List (Seat G) → Result (Unit {0}) RunRefusal
end_of [] = Ok tt
end_of (x ∷ xs) = first_end (end_of xs) x.end

-- each gate stopped just where its worker's work ended so
abbrev pub StopsTogether : {G : Type 0} → (G → ℕ) → List (Seat G) → List (Seat G) → Type 0
StopsTogether stops [] [] = ⊤
StopsTogether stops (x ∷ xs) (y ∷ ys) = StopsBy (stops x.gate) (stops y.gate) y.end × StopsTogether stops xs ys
StopsTogether stops xs ys = ⊥

-- each gate was asked for the commands of its seat's backend, by how its work ended
abbrev pub AskedTogether : {G : Type 0} → Scenario → (G → List Asked) → List (Seat G) → List (Seat G) → Type 0
AskedTogether script asked [] [] = ⊤
AskedTogether script asked (x ∷ xs) (y ∷ ys) = AsksBy y.end (number_of x) (length (commands_of script (number_of x))) (asked x.gate) (asked y.gate) × AskedTogether script asked xs ys
AskedTogether script asked xs ys = ⊥
