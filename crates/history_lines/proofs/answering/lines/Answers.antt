use Rattle.std.proofs.Common.{◌+◌, length, take, sym, ap, subst, arith}
use Rattle.std.specs.Bool.{Decides}
use Rattle.std.proofs.lemmas.List.{length-take-le}
use Rattle.history_lines.specs.AllowedNext.{IsAllowedNext, lines_held}
use Rattle.history_lines.proofs.Following.{held_before, follows_next, ends_here, ends_whole, is_answered}
use Rattle.history_lines.proofs.answering.lines.Goals as goal

pub may_enter-requires : goal.may_enter-requires
may_enter-requires c = held_before c.args.script.now c.args.entries.now c.loop-at.at c.loop-at.held.ledger c.loop-at.held.sessions.items c.if-entries-ge-MOST_ENTRIES.false c.loop-at-test.true c.loop-at.invariant

pub enter-requires : goal.enter-requires
enter-requires c = record {
  held = held_before c.args.script.now c.args.entries.now c.loop-at.at c.loop-at.held.ledger c.loop-at.held.sessions.items c.if-entries-ge-MOST_ENTRIES.false c.loop-at-test.true c.loop-at.invariant;
  allowed = (c.in_ok-may_come.ensures.decides c.args.script.now (take c.loop-at.at c.args.entries.now) c.loop-at.invariant c.size.ensures).0 c.if-not-may_come.false;
}

pub returns-then-not-may_come : goal.returns-then-not-may_come
returns-then-not-may_come c = is_answered c.args.script.now c.args.entries.now c.loop-at.at (lines_held c.loop-at.held.sessions.items) c.answer.result c.answer.ensures.entries c.answer.ensures.lines
    (λ given are. ends_here c.args.script.now c.args.entries.now c.loop-at.at c.index-entries-at.result _ c.loop-at.held.ledger c.loop-at.held.sessions.items given c.loop-at-test.true c.index-entries-at.is c.loop-at.invariant
    (subst (λ t. Decides t (IsAllowedNext c.args.script.now (take c.loop-at.at c.args.entries.now) c.index-entries-at.result)) c.if-not-may_come.true (c.in_ok-may_come.ensures.decides c.args.script.now (take c.loop-at.at c.args.entries.now) c.loop-at.invariant c.size.ensures)) are)

pub loop-at-preserved : goal.loop-at-preserved
loop-at-preserved c = follows_next c.args.script.now c.args.entries.now c.loop-at.at c.index-entries-at.result _ c.enter.new.self.ledger c.enter.new.self.sessions.items c.loop-at-test.true c.index-entries-at.is
    (c.in_ok-enter.ensures c.args.script.now (take c.loop-at.at c.args.entries.now) c.loop-at.invariant (ap (λ n. n + 1) (sym (length-take-le c.loop-at.at c.args.entries.now (omega (arith, c.loop-at-test.true))))) (((c.in_ok-may_come.ensures.decides c.args.script.now (take c.loop-at.at c.args.entries.now) c.loop-at.invariant c.size.ensures).0) c.if-not-may_come.false))

pub returns : goal.returns
returns c = is_answered c.args.script.now c.args.entries.now (length c.args.entries.now) (lines_held c.loop-at.held.sessions.items) c.answer-2.result c.answer-2.ensures.entries c.answer-2.ensures.lines
    (λ given are. ends_whole c.args.script.now c.args.entries.now c.loop-at.at c.loop-at.held.ledger c.loop-at.held.sessions.items given c.loop-at-test.false c.loop-at.invariant are)
