use Rattle.std.proofs.Common.{◌∙◌, ◌<◌, ◌++◌, ap, subst, length, get_or, arith, []}
use Rattle.history_model.proofs.ListSteps.{flat_map_next, all_done}
use Rattle.history_lines.specs.AllowedNext.{lines_held}
use Rattle.history_lines.specs.Types.{Session}
use Rattle.history_lines.proofs.answering.Held.answer.Goals as goal

pub loop-session-preserved : goal.loop-session-preserved
loop-session-preserved c =
    let all = c.deref-session-items.ensures.value in
    c.in_ok-push_copies.ensures.ok ∙ ap (λ l. c.loop-session.lines.items ++ l) c.as_slice.ensures
    ∙ flat_map_next (λ (s : Session). s.lines) [] c.args.self.now.sessions.items c.loop-session.session-index c.session-item.result _ c.loop-session.lines.items (subst (λ l. c.loop-session.session-index < length l) all c.loop-session-test.true)
    (c.session-item.is ∙ ap (λ l. get_or l c.loop-session.session-index c.session-item.result) all) c.loop-session.invariant

pub returns-clause-lines : goal.returns-clause-lines
returns-clause-lines c = c.from_vec.ensures ∙ all_done lines_held c.args.self.now.sessions.items c.loop-session.session-index c.loop-session.lines.items (omega (arith, c.loop-session-test.false)) c.loop-session.invariant
