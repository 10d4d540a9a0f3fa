-- A worker as it takes its seat, and as it leaves it.
use Rattle.std.proofs.Common.{◌≡◌, [], true, false, sym, subst, Result, Ok, Err, OnOk}
use Rattle.turn_table.specs.Passes.{start_of, seen_by}
use Rattle.thread_run.specs.declared.refusal.RunRefusal.{RunRefusal}
use Rattle.thread_run.specs.declared.refusal.RunRefusal.TheVariants as refusals
use Rattle.backend_core.specs.Words.{has_left}
use Rattle.thread_run.specs.declared.worker.Worker.{Worker}
use Rattle.thread_run.specs.Turns.{HasEnded}
use Rattle.thread_run.specs.Seats.{MaySit, HasDone, WorkEnded}
use Rattle.thread_run.specs.Workers.{Table, IsAt, IsNewAt, HasAllAt, Goes}

-- a worker whose pass may sit, before its first turn
pub sits : (table : Table) (w : Worker) → w.held.items ≡ [] → MaySit table w.pass w.backend → IsAt table w × IsNewAt table w
sits table w none may = (record { of = may.of_table; backend = may.number }, record { id = may.id; stands = may.stands; new = may.new; alive = may.alive; held = none; run = may.run; short = may.short; all = may.all })

-- a worker that has left
has_done : (table : Table) (w : Worker) → IsAt table w → HasEnded (start_of table).whole w.pass.number (seen_by w.pass) w.backend × HasAllAt table w → HasDone table w.pass w.backend
has_done table w at ended = record { of_table = at.of; ended = ended.0; all = ended.1 }

pub done_at : (table : Table) (w : Worker) (end : Result (Unit {0}) RunRefusal) → WorkEnded table end w → OnOk end (HasDone table w.pass w.backend)
done_at table w (Ok done) worked = has_done table w worked.at worked.ended
done_at table w (Err refusal) worked = tt

-- what a worker's whole work leaves
pub work_ended : (table : Table) (was now : Worker) (end : Result (Unit {0}) RunRefusal) → Goes table was now → OnOk end (HasEnded (start_of table).whole was.pass.number (seen_by now.pass) now.backend × HasAllAt table now) → (end ≡ Err refusals.Stopped → now.halt_refused ≡ false → has_left now.backend.life ≡ true) → WorkEnded table end now
work_ended table was now end goes ended halted = record {
  at = goes.at;
  ended = subst (λ n. OnOk end (HasEnded (start_of table).whole n (seen_by now.pass) now.backend × HasAllAt table now)) (sym goes.number) ended;
  halted = halted;
}
