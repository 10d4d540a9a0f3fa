use Rattle.std.proofs.Common.{◌∙◌, refl, subst, arith}
use Rattle.std.specs.List.{All}
use Rattle.edge_io.specs.Taken.{Grows, GrowsByFront}
use Rattle.out_text.specs.Typed.{IsTyped, IsLine}
use Rattle.cacheless.specs.declared.check_kind.CheckKind.TheVariants as kinds
use Rattle.catsync_top.specs.declared.arguments.Word.TheVariants as words
use Rattle.catsync_top.specs.Gates.{AsRun}
use Rattle.catsync_top.proofs.Gates.{asked_well, asked_some}
use Rattle.catsync_top.proofs.Inputs.{has_read}
use Rattle.catsync_top.proofs.Written.{has_run}
use Rattle.catsync_top.proofs.running.run_script.Goals as goal

pub returns-in-Ok-put_output-clause-done : goal.returns-in-Ok-put_output-clause-done
returns-in-Ok-put_output-clause-done g c =
    let run = c.in-Ok-run.ensures.run in
    λ _. has_run kinds.Run _ _ _ _ Grows _ _ _ _ _ _ _ c.in-Ok.ensures.bytes (grind arith) c.deref.ensures.value c.in-Ok-read_script.ensures
    (record { history = c.in-Ok-run.ran.entries; allowed = run.allowed; interleaved = tt; complete = run.stopped; text_is = rw (c.as_slice.ensures, c.as_slice-2.ensures, run.lines_are) refl })
    tt run.sound run.spelled (subst (All IsTyped) c.as_slice.ensures c.put_output.ensures.typed.0) (subst (All IsLine) (c.as_slice-2.ensures ∙ run.lines_are) c.put_output.ensures.typed.1) c.in-Ok-run.ensures.sessions run.lines_are c.in-Ok-run.ensures.stand c.in-Ok-run.ensures.coherent c.into_vec.ensures c.in-Ok-put_output.ensures.bytes

pub returns-clause-write_front : goal.returns-clause-write_front
returns-clause-write_front g c =
    let run = c.in-Ok-run.ensures.run in
    λ _. has_run kinds.Run _ _ _ _ GrowsByFront _ _ _ _ _ _ _ c.in-Ok.ensures.bytes (grind arith) c.deref.ensures.value c.in-Ok-read_script.ensures
    (record { history = c.in-Ok-run.ran.entries; allowed = run.allowed; interleaved = tt; complete = run.stopped; text_is = rw (c.as_slice.ensures, c.as_slice-2.ensures, run.lines_are) refl })
    tt run.sound run.spelled (subst (All IsTyped) c.as_slice.ensures c.put_output.ensures.typed.0) (subst (All IsLine) (c.as_slice-2.ensures ∙ run.lines_are) c.put_output.ensures.typed.1) c.in-Ok-run.ensures.sessions run.lines_are c.in-Ok-run.ensures.stand c.in-Ok-run.ensures.coherent c.into_vec.ensures c.in-Err.ensures.bytes

pub returns-in-Err-Stopped-clause-stopped_read : goal.returns-in-Err-Stopped-clause-stopped_read
returns-in-Err-Stopped-clause-stopped_read g c =
    λ _. has_read (words.Output kinds.Run) _ _ c.in-Ok.input.items c.deref.result.now (record { script = c.in-Ok-read_script.read.script; rest_at = c.in-Ok-read_script.read.rest_at }) c.in-Ok.ensures.bytes (grind arith) c.deref.ensures.value c.in-Ok-read_script.ensures

pub returns-in-Ok-put_output-clause-asked : goal.returns-in-Ok-put_output-clause-asked
returns-in-Ok-put_output-clause-asked g c =
    AsRun (has_read (words.Output kinds.Run) _ _ c.in-Ok.input.items c.deref.result.now (record { script = c.in-Ok-read_script.read.script; rest_at = c.in-Ok-read_script.read.rest_at }) c.in-Ok.ensures.bytes (grind arith) c.deref.ensures.value c.in-Ok-read_script.ensures)
    (asked_well c.in-Ok-run.ran c.in-Ok-read_script.read.script _ _ _ c.in-Ok-run.ensures.asked)

pub returns-clause-asked : goal.returns-clause-asked
returns-clause-asked g c =
    AsRun (has_read (words.Output kinds.Run) _ _ c.in-Ok.input.items c.deref.result.now (record { script = c.in-Ok-read_script.read.script; rest_at = c.in-Ok-read_script.read.rest_at }) c.in-Ok.ensures.bytes (grind arith) c.deref.ensures.value c.in-Ok-read_script.ensures)
    (asked_well c.in-Ok-run.ran c.in-Ok-read_script.read.script _ _ _ c.in-Ok-run.ensures.asked)

pub returns-in-Err-Stopped-clause-asked : goal.returns-in-Err-Stopped-clause-asked
returns-in-Err-Stopped-clause-asked g c =
    AsRun (has_read (words.Output kinds.Run) _ _ c.in-Ok.input.items c.deref.result.now (record { script = c.in-Ok-read_script.read.script; rest_at = c.in-Ok-read_script.read.rest_at }) c.in-Ok.ensures.bytes (grind arith) c.deref.ensures.value c.in-Ok-read_script.ensures)
    (asked_some c.before.before.in-Err-Stopped.field-0 c.in-Ok-read_script.read.script _ _ _ c.in-Err-Stopped.ensures.asked)

pub returns-in-Err-NoMemory-run-clause-asked : goal.returns-in-Err-NoMemory-run-clause-asked
returns-in-Err-NoMemory-run-clause-asked g c =
    AsRun (has_read (words.Output kinds.Run) _ _ c.in-Ok.input.items c.deref.result.now (record { script = c.in-Ok-read_script.read.script; rest_at = c.in-Ok-read_script.read.rest_at }) c.in-Ok.ensures.bytes (grind arith) c.deref.ensures.value c.in-Ok-read_script.ensures)
    (asked_some c.before.before.in-Err-NoMemory-run.field-0 c.in-Ok-read_script.read.script _ _ _ c.in-Err-NoMemory-run.ensures.asked)
