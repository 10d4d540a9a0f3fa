use Rattle.std.proofs.Common.{◌+◌, ◌∙◌, sym, ap, subst, take, length, replicate, false, arith}
use Rattle.std.proofs.lemmas.List.{with_items_is}
use Rattle.base_types.specs.Scenario.{IsBackend}
use Rattle.check_tool.specs.Turning.{TellStopped}
use Rattle.check_tool.proofs.Interleavings.{AreTold, told_none, told_more, as_run}
use Rattle.check_tool.proofs.interleaved.as_run.Goals as goal

pub loop-e-init : goal.loop-e-init
loop-e-init c = told_none c.args.script.now c.in_ok-stopped.stopped.items (c.in_ok-stopped.ensures ∙ ap (λ n. replicate n false) c.backends.ensures.value)

pub note-requires : goal.note-requires
note-requires c =
    subst (λ n. IsBackend n c.e-item.result.backend) (sym (ap length c.deref_mut.ensures.value ∙ c.loop-e.invariant.count))
    (subst (λ e. IsBackend c.args.script.now.backends e.backend) (sym c.e-item.is) (c.requires c.loop-e.e-index c.e-item.result c.loop-e-test.true))

pub loop-e-preserved : goal.loop-e-preserved
loop-e-preserved c =
    subst (AreTold c.args.script.now (take (c.loop-e.e-index + 1) c.args.entries.now)) (sym (with_items_is c.loop-e.stopped c.note.new.stopped (c.note.ensures.count ∙ c.deref_mut.ensures.len)))
    (told_more c.args.script.now c.args.entries.now c.loop-e.e-index c.e-item.result _ c.loop-e.stopped.items c.note.new.stopped c.loop-e-test.true c.e-item.is c.loop-e.invariant
    (λ seen tell. c.note.ensures.tell seen (subst (TellStopped seen) (sym c.deref_mut.ensures.value) tell))
    (c.note.ensures.count ∙ ap length c.deref_mut.ensures.value))

pub returns-clause-come : goal.returns-clause-come
returns-clause-come c =
    as_run c.args.script.now c.args.entries.now c.loop-e.e-index c.loop-e.stopped.items c.deref.result.now c.first_running.result (omega (arith, c.loop-e-test.false)) c.loop-e.invariant c.deref.ensures.value c.first_running.ensures.first
