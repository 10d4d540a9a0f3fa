use Rattle.std.proofs.Common.{Some, None}
use Rattle.ddl_effect.specs.declared.exec.Exec.TheVariants.{Failing}
use Rattle.cacheless.specs.declared.progress.Due.TheVariants.{Nothing}
use Rattle.cacheless.specs.State.{FailsWith}
use Rattle.cacheless.proofs.Lacking.{with_known}
use Rattle.cacheless.proofs.progress.Progress.fail.Goals as goal

pub returns : goal.returns
returns c =
    let s = c.args.self.now in
    with_known (FailsWith c.args.error s) (record s { exec = Failing c.args.error; due = Nothing; running = Some c.begun.result; locks = c.clear_all.new.self; answer = None }) _
    (record { locks = c.clear_all.ensures.items; is = λ i. record s { exec = Failing c.args.error; due = Nothing; running = Some (c.begun.ensures i); locks = c.clear_all.new.self; answer = None } })
