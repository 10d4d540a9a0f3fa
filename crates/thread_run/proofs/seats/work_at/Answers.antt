use Rattle.thread_run.proofs.Seating.{work_ended}
use Rattle.thread_run.proofs.seats.work_at.Goals as goal

pub returns-clause-worked : goal.returns-clause-worked
returns-clause-worked g c = work_ended c.args.table.now c.in-Some.worker c.work-worker.result.0 c.work-worker.result.1 c.work-worker.ensures.goes c.work-worker.ensures.ended c.work-worker.ensures.halted
