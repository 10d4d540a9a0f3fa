-- A worker at its table.
use Rattle.std.specs.Prelude.{◌≡◌, ◌≤◌, ◌<◌, ◌+◌, ◌++◌, ◌^◌, ◌⊎◌, ℕ, Bool, true, false, List, [], ◌∷◌, length, Result, Ok, OnOk, IfOk}
use Rattle.base_types.specs.Scenario.{Scenario, IsBackend}
use Rattle.base_types.specs.declared.memory.NoMemory.{NoMemory}
use Rattle.edge_io.specs.declared.gates.Asked.{Asked}
use Rattle.event_kinds.specs.declared.entry.Entry.{Entry}
use Rattle.history_model.specs.Log.{is_waiting}
use Rattle.thread_run.specs.Scripts.{Play, HasAll}
use Rattle.turn_table.specs.declared.table.TurnTable.{TurnTable}
use Rattle.turn_table.specs.Histories.{Follows}
use Rattle.turn_table.specs.Passes.{IsPassOf, start_of, seen_by, room_of, was_told}
use Rattle.backend_core.specs.declared.backend.Backend.{Backend}
use Rattle.backend_core.specs.declared.look_for.LookFor.{LookFor}
use Rattle.backend_core.specs.declared.want.Want.TheVariants as wants
use Rattle.backend_core.specs.Agrees.{Stands}
use Rattle.backend_core.specs.Looks.{held_look, MakesLook, NeedsTurn, Wants}
use Rattle.backend_core.specs.Words.{has_joined, has_left}
use Rattle.thread_run.specs.declared.worker.Worker.{Worker}
use Rattle.thread_run.specs.Asks.{StopsBefore}
use Rattle.thread_run.specs.AskedBefore.{GoesAsked}
use Rattle.thread_run.specs.Runs.{IsRunSoFar}
use Rattle.thread_run.specs.Turns.{backend_of, EntersInTurn}

abbrev pub Table : Type 0
Table = TurnTable Play Entry Scenario

-- its pass is of the table, and of a backend of the script
pub record IsAt (table : Table) (w : Worker) : Type 0 where
  pub of : IsPassOf table w.pass
  pub backend : IsBackend (start_of table).whole.backends w.pass.number

-- the script that is played has all commands of its backend, whoever was halted
abbrev pub HasAllAt : Table → Worker → Type 0
HasAllAt table w = HasAll (start_of table).whole w.pass.number (room_of w.pass)

-- it is the backend of its pass, and stands in the history that it has seen
pub record IsNewAt (table : Table) (w : Worker) : Type 0 where
  pub id : w.backend.progress.id ≡ w.pass.number
  pub stands : Stands (start_of table).whole (seen_by w.pass) w.backend
  pub new : has_joined w.backend.life ≡ false
  pub alive : has_left w.backend.life ≡ false
  pub held : w.held.items ≡ []
  pub run : IsRunSoFar (start_of table).whole (seen_by w.pass)
  pub short : length (seen_by w.pass) + 16 ≤ 2 ^ 56
  pub all : HasAllAt table w

-- a history begins with what was seen
pub record Extends (seen now : List Entry) : Type 0 where
  pub more : List Entry
  pub is : now ≡ seen ++ more

-- it has the same seat still, and has seen what it had seen, and maybe more
pub record Goes (table : Table) (was now : Worker) : Type 0 where
  pub at : IsAt table now
  pub number : now.pass.number ≡ was.pass.number
  pub seen : Extends (seen_by was.pass) (seen_by now.pass)

-- it has looked by its word, and has taken no turn: the look says what the word said of a history that it has seen with it, which has no entry of its own more; it is held back after the others; and whether they are to be handed over, as it said yes, or no more than they can be held back
pub record HasLooked (was now : Worker) (hands_over : Bool) : Type 0 where
  pub some_wait : Bool
  pub number : now.pass.number ≡ was.pass.number
  pub room : room_of now.pass ≡ room_of was.pass
  pub seen : Follows backend_of was.pass.number (seen_by was.pass) (seen_by now.pass)
  pub told : was_told now.pass ≡ some_wait
  pub no : some_wait ≡ false → is_waiting (seen_by now.pass) was.pass.number ≡ false
  pub makes : MakesLook was.backend some_wait now.backend
  pub stays : (now.backend.progress.finished ≡ was.backend.progress.finished) × (now.backend.progress.id ≡ was.pass.number)
  pub joined : has_joined now.backend.life ≡ true
  pub held : now.held.items ≡ was.held.items ++ held_look was.backend some_wait ∷ []
  pub hands : hands_over ≡ true → (some_wait ≡ true) ⊎ (length was.held.items + 1 ≡ 16)
  pub keeps : hands_over ≡ false → (some_wait ≡ false) × (length was.held.items + 1 < 16)

-- it has taken a turn, of which it enters no more than it had to, and holds no look back
pub record TakesTurn (enters : Bool) (was now : Worker) : Type 0 where
  pub opened : List Entry
  pub seen : Follows backend_of was.pass.number (seen_by was.pass) opened
  pub enters_in : EntersInTurn enters was.pass.number was.held.items opened (seen_by now.pass)
  pub held : now.held.items ≡ []

-- a look: it takes no turn for it, unless the looks are to be handed over, and then enters these and nothing else
pub data MakesALook (was now : Worker) (result : Result Bool NoMemory) : Type 0 where
  HoldsBack : HasLooked was now false → result ≡ Ok false → MakesALook was now result
  HandsOver : (looked : Worker) → HasLooked was looked true → OnOk result (TakesTurn false looked now) → IfOk result (λ over. GoesAsked looked.pass.number over looked.backend now.backend) → MakesALook was now result

-- what it does next: a look, which takes no turn of itself; or a turn, where it needs one, which leaves it at its next command or in the same one; or it has left
pub data DoesNext (was now : Worker) (result : Result Bool NoMemory) : Type 0 where
  Looks : (look : LookFor) → Wants was.backend (wants.Look look) → MakesALook was now result → DoesNext was now result
  Turns : NeedsTurn was.backend → OnOk result (TakesTurn true was now) → IfOk result (λ over. GoesAsked was.pass.number over was.backend now.backend) → DoesNext was now result
  HasLeft : has_left was.backend.life ≡ true → now ≡ was → DoesNext was now result

-- a step that ended well: a look, a turn, or none where it had left; its pass and the looks that it holds back are as these left them, and where it has left it did nothing after them
pub record HasStepped (was now : Worker) : Type 0 where
  pub after : Worker
  pub over : Bool
  pub does : DoesNext was after (Ok over)
  pub pass : now.pass ≡ after.pass
  pub held : now.held.items ≡ after.held.items
  pub left : has_left now.backend.life ≡ true → now ≡ after

-- its gate stopped it before one of its commands, after the first so many, and it has finished none from that on, unless memory was refused in its last turn
pub record WasStopped {G : Type 0} (stops : G → ℕ) (asked : G → List Asked) (b first : ℕ) (old new : G) (w : Worker) : Type 0 where
  pub finished : ℕ
  pub before : StopsBefore stops asked b first finished old new
  pub most : w.halt_refused ≡ false → w.backend.progress.finished ≤ finished
