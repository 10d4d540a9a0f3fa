-- What `run` asks the gates that it is lent.
use Rattle.std.specs.Prelude.{◌≡◌, ℕ, Bool, true, false, ⊤, Option, Result, Ok, Err, List}
use Rattle.std.specs.List.{range_with_len}
use Rattle.edge_io.specs.declared.gates.Asked.{Asked}
use Rattle.cacheless.specs.declared.check_kind.CheckKind.TheVariants as kinds
use Rattle.thread_run.specs.Asks.{AskedEach}
use Rattle.catsync_top.specs.declared.arguments.Word.TheVariants as words
use Rattle.catsync_top.specs.declared.status.Status.{Status}
use Rattle.catsync_top.specs.declared.status.Status.TheVariants as statuses
use Rattle.catsync_top.specs.Top.{HasRead}

-- whether the backends were run, by how the call ended: to their ends, or until one was stopped
abbrev pub is_of_run : Status → Bool
is_of_run statuses.Done = true
is_of_run statuses.WriteFault = true
is_of_run statuses.Stopped = true
is_of_run status = false

-- how the run ended then
abbrev pub run_end : Status → Result ⊤ ⊤
run_end statuses.Done = Ok tt
run_end statuses.WriteFault = Ok tt
run_end status = Err tt

-- the gate at each backend's place was asked for it alone, before each of its commands in order and after the last one, or up to some of them where the run failed, and the gates after these nothing; or all nothing, as no backend was run
pub data HasAsked (status : Status) (left rest : Option (List ℕ)) (old new : List (List Asked)) : Type 0 where
  AsRun : (is : HasRead (words.Output kinds.Run) left rest) → AskedEach (run_end status) is.reading.script (range_with_len 1 is.reading.script.backends) old new → HasAsked status left rest old new
  Unasked : is_of_run status ≡ false → new ≡ old → HasAsked status left rest old new
