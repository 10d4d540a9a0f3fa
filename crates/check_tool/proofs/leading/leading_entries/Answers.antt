use Rattle.std.proofs.Common.{arith, ap, subst, length, drop, length-drop}
use Rattle.std.proofs.lemmas.List.{take_rest}
use Rattle.check_tool.specs.Leading.{HasNoEntryFirst, HasEntryFirst}
use Rattle.check_tool.proofs.FirstLines.{read_none, read_more, read_leads, read_leads_all}
use Rattle.check_tool.proofs.leading.leading_entries.Goals as goal

pub lines-init : goal.lines-init
lines-init c = rw c.new-entries.ensures.items (read_none c.args.text.now)

pub lines-preserved : goal.lines-preserved
lines-preserved c =
    let first : HasEntryFirst (drop c.lines.size c.args.text.now) c.in-Some.first.entry c.in-Some.first.size =
    subst (λ left. HasEntryFirst left c.in-Some.first.entry c.in-Some.first.size) (take_rest c.args.text.now c.lines.size) (rw c.in-Some.is at c.in_ok-first.ensures) in
    rw c.in_ok-push-in-Some.ensures.items (read_more c.args.text.now c.lines.entries.items c.lines.size c.in-Some.first.entry c.in-Some.first.size c.lines.invariant first)

pub returns-in-None-clause-leads : goal.returns-in-None-clause-leads
returns-in-None-clause-leads c = read_leads c.args.text.now c.lines.entries.items c.lines.size c.lines.invariant
    (subst HasNoEntryFirst (take_rest c.args.text.now c.lines.size) (rw c.in-None.is at c.in_ok-first.ensures))

pub returns-clause-leads : goal.returns-clause-leads
returns-clause-leads c = read_leads_all c.args.text.now c.lines.entries.items c.lines.size c.lines.invariant (omega (arith, c.lines-test.false))

pub returns-clause-within : goal.returns-clause-within
returns-clause-within c = c.lines.invariant.within

pub overflow_add-size : goal.overflow_add-size
overflow_add-size c =
    let first = rw c.in-Some.is at c.in_ok-first.ensures in
    omega (arith, first.within, ap length (take_rest c.args.text.now c.lines.size), length-drop c.lines.size c.args.text.now, c.lines.invariant.within)

pub lines-smaller : goal.lines-smaller
lines-smaller c =
    let first = rw c.in-Some.is at c.in_ok-first.ensures in
    omega (arith, first.some, first.within, ap length (take_rest c.args.text.now c.lines.size), length-drop c.lines.size c.args.text.now, c.lines-test.true)
