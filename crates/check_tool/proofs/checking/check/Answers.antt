use Rattle.std.proofs.Common.{◌≡◌, ◌∙◌, ◌++◌, sym, ap, subst, codes, drop, length, true, false, arith}
use Rattle.std.specs.List.{All}
use Rattle.std.proofs.lemmas.List.{take_rest}
use Rattle.event_kinds.specs.Entries.{IsLine}
use Rattle.event_kinds.specs.Texts.{lines_text}
use Rattle.check_tool.specs.Reached.{HaveReached}
use Rattle.check_tool.proofs.Verdicts.{is_output, differs_at}
use Rattle.check_tool.proofs.checking.check.Goals.{else-is_at_end-via-then-is_at_end+else-are_lines, else-is_at_end-via-else-is_at_end}
use Rattle.check_tool.proofs.checking.check.Goals as goal

pub returns-then-are_lines : goal.returns-then-are_lines
returns-then-are_lines c =
    is_output c.args.kind c.args.script.now c.args.output.now c.in_ok-leading.leading.entries.items (drop c.in_ok-leading.leading.size c.args.output.now) c.in_ok-far.far.entries c.in_ok-far.far.due c.in_ok-far.far.lines c.in_ok-leading.ensures.leads
    (subst (λ entries. HaveReached c.args.kind c.args.script.now entries c.in_ok-far.far.entries c.in_ok-far.far.due c.in_ok-far.far.lines) c.deref.ensures.value c.in_ok-far.ensures) (let end = c.is_at_end.ensures.0 c.if-is_at_end.true in (end.0 ∙ c.len.ensures ∙ sym c.deref.ensures.len ∙ ap length c.deref.ensures.value, end.1)) (subst (All IsLine) c.as_slice.ensures (c.are_lines.ensures.typed c.if-are_lines.true))
    (sym (take_rest c.args.output.now c.in_ok-leading.leading.size) ∙ c.are_lines.ensures.same.0 c.if-are_lines.true ∙ ap (λ lines. lines_text lines ++ codes "end\n") c.as_slice.ensures)

pub returns : goal.returns
returns c =
    differs_at c.args.kind c.args.script.now c.args.output.now c.in_ok-leading.leading.entries.items (drop c.in_ok-leading.leading.size c.args.output.now) c.in_ok-far.far.entries c.in_ok-far.far.due c.in_ok-far.far.lines c.in_ok-leading.ensures.leads
    (subst (λ entries. HaveReached c.args.kind c.args.script.now entries c.in_ok-far.far.entries c.in_ok-far.far.due c.in_ok-far.far.lines) c.deref.ensures.value c.in_ok-far.ensures)
    (omega arith)
    (elim c.else-is_at_end.branch [
      | else-is_at_end-via-then-is_at_end+else-are_lines w ↦ λ end same.
          let never : false ≡ true = sym w.if-are_lines.false ∙ w.are_lines.ensures.same.1 (take_rest c.args.output.now c.in_ok-leading.leading.size ∙ same ∙ ap (λ lines. lines_text lines ++ codes "end\n") (sym w.as_slice.ensures)) in
          absurd cc
      | else-is_at_end-via-else-is_at_end w ↦ λ end same. let never : false ≡ true = sym w.if-is_at_end.false ∙ c.is_at_end.ensures.1 (end.0 ∙ ap length (sym c.deref.ensures.value) ∙ c.deref.ensures.len ∙ sym c.len.ensures, end.1) in absurd cc
    ])
