use Rattle.std.proofs.Common.{◌∙◌, sym, ap, subst, length, arith}
use Rattle.edge_io.specs.Taken.{Grows, GrowsByFront}
use Rattle.check_tool.specs.Verdicts.{IsVerdict}
use Rattle.script_text.specs.Grammar.{script_of}
use Rattle.script_text.specs.declared.fault.Rest.TheVariants.{Given}
use Rattle.catsync_top.proofs.Checked.{has_found, has_differed}
use Rattle.catsync_top.proofs.checking.check_output.Goals as goal

pub returns-in-Ok-Differs-clause-differs : goal.returns-in-Ok-Differs-clause-differs
returns-in-Ok-Differs-clause-differs g c =
    has_differed c.args.kind _ _ c.in-Ok.input.items c.deref-2.result.now (record { script = c.in-Ok-read_script.read.script; rest_at = c.in-Ok-read_script.read.rest_at }) c.len-2.result c.min.result _ c.in-Ok.ensures.bytes (grind arith) c.deref-2.ensures.value (ap (script_of Given) (c.deref-2.ensures.value ∙ sym c.deref.ensures.value) ∙ c.in-Ok-read_script.ensures)
    (c.len-2.ensures ∙ sym c.deref-2.ensures.len ∙ ap length c.deref-2.ensures.value) c.min.ensures (subst (IsVerdict _ _ _) c.in-Ok-Differs.field-0-is c.in-Ok-Differs.ensures)

pub returns-in-Ok-put_checked-clause-done : goal.returns-in-Ok-put_checked-clause-done
returns-in-Ok-put_checked-clause-done g c =
    λ _. has_found c.args.kind _ _ _ _ Grows c.in-Ok.input.items c.deref-2.result.now (record { script = c.in-Ok-read_script.read.script; rest_at = c.in-Ok-read_script.read.rest_at }) c.len-2.result c.min.result _ c.in-Ok.ensures.bytes (grind arith) c.deref-2.ensures.value (ap (script_of Given) (c.deref-2.ensures.value ∙ sym c.deref.ensures.value) ∙ c.in-Ok-read_script.ensures)
    (c.len-2.ensures ∙ sym c.deref-2.ensures.len ∙ ap length c.deref-2.ensures.value) c.min.ensures (subst (IsVerdict _ _ _) c.in-Ok-Output.field-0-is c.in-Ok-Output.ensures) c.in-Ok-put_checked.ensures.bytes

pub returns-clause-write_front : goal.returns-clause-write_front
returns-clause-write_front g c =
    λ _. has_found c.args.kind _ _ _ _ GrowsByFront c.in-Ok.input.items c.deref-2.result.now (record { script = c.in-Ok-read_script.read.script; rest_at = c.in-Ok-read_script.read.rest_at }) c.len-2.result c.min.result _ c.in-Ok.ensures.bytes (grind arith) c.deref-2.ensures.value (ap (script_of Given) (c.deref-2.ensures.value ∙ sym c.deref.ensures.value) ∙ c.in-Ok-read_script.ensures)
    (c.len-2.ensures ∙ sym c.deref-2.ensures.len ∙ ap length c.deref-2.ensures.value) c.min.ensures (subst (IsVerdict _ _ _) c.in-Ok-Output.field-0-is c.in-Ok-Output.ensures) c.in-Err-put_checked.ensures.bytes
