use Rattle.std.proofs.Common.{◌≡◌, ◌<◌, ◌+◌, List, get_or, refl, subst, sym, arith}
use Rattle.base_types.specs.declared.command.Command.{Command}
use Rattle.ddl_effect.specs.Commands.{commands_of}
use Rattle.by_backend.proofs.LeftLists.{left_next, left_fewer}
use Rattle.history_lines.proofs.NewSessions.{Begins, begins_none, begins_more, follows_none}
use Rattle.history_lines.proofs.answering.new_sessions.Goals as goal

pub loop-number-preserved : goal.loop-number-preserved
loop-number-preserved c =
    let within : c.loop-number.number < c.args.script.now.backends = omega (arith, c.loop-number-test.true, c.backends-number-end.ensures.value) in
    let read : c.replace-commands.result ≡ get_or c.loop-number.lists.items c.loop-number.number c.replace-commands.result =
    subst (λ (x : List Command). x ≡ get_or c.loop-number.lists.items c.loop-number.number x) (sym {A = List Command} c.replace-commands.ensures.value) c.index_mut.ensures.value in
    let copies : c.replace-commands.result ≡ commands_of c.args.script.now (c.loop-number.number + 1) =
    left_next c.args.script.now c.loop-number.number c.loop-number.lists.items c.replace-commands.result c.loop-number.invariant.left within read in
    record {
      begins = subst (λ ss. Begins c.args.script.now ss (c.loop-number.number + 1)) (sym c.in_ok-push.ensures.items)
          (begins_more c.args.script.now c.loop-number.sessions.items c.loop-number.number c.in_ok-new.field-0 c.replace-commands.result
          c.backends-number-end.ensures.kept.commands copies c.loop-number.invariant.begins within c.in_ok-new.ensures);
      left = left_fewer c.args.script.now c.loop-number.number c.loop-number.lists.items _ c.replace-commands.new.dest c.loop-number.invariant.left refl;
    }

pub returns : goal.returns
returns c = λ ledger reads. follows_none c.args.script.now c.loop-number.sessions.items c.loop-number.number ledger c.backends-number-end.ensures.kept (omega (arith, c.loop-number-test.false, c.loop-number.auto.number-end, c.backends-number-end.ensures.value)) c.loop-number.invariant.begins reads

pub loop-number-init : goal.loop-number-init
loop-number-init c = record {
  begins = rw c.new-sessions.ensures.items (begins_none c.args.script.now);
  left = record { count = c.in_ok-lists.ensures.count; each = λ i from. c.in_ok-lists.ensures.each i };
}
