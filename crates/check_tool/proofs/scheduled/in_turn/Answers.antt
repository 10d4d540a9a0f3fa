use Rattle.std.proofs.Common.{◌≡◌, ◌+◌, ◌∙◌, sym, ap, subst, take, length, replicate, true, false, IfSome, arith}
use Rattle.std.proofs.lemmas.List.{with_items_is}
use Rattle.base_types.specs.Scenario.{IsBackend}
use Rattle.check_tool.specs.Turning.{TellStopped}
use Rattle.check_tool.proofs.Schedule.{Follows, follows_none, follows_more, follows_here, follows_whole, turn_in_order}
use Rattle.check_tool.proofs.scheduled.in_turn.Goals as goal

pub loop-at-init : goal.loop-at-init
loop-at-init c = follows_none c.args.script.now c.in_ok-stopped.stopped.items (c.in_ok-stopped.ensures ∙ ap (λ n. replicate n false) c.backends.ensures.value)

pub returns-then-not-is_turn_of : goal.returns-then-not-is_turn_of
returns-then-not-is_turn_of c =
    follows_here c.args.script.now c.args.entries.now c.loop-at.at c.index-entries-at.result _ c.first_running-turn.result c.loop-at-test.true c.index-entries-at.is c.loop-at.invariant.follows
    (turn_in_order c.args.script.now (take c.loop-at.at c.args.entries.now) c.loop-at.stopped.items c.deref.result.now c.first_running-turn.result c.requires c.loop-at.invariant c.deref.ensures.value c.first_running-turn.ensures.first)
    (λ own. let never : false ≡ true = sym c.if-not-is_turn_of.true ∙ c.is_turn_of.ensures.1 own in absurd cc)

pub loop-at-preserved : goal.loop-at-preserved
loop-at-preserved c =
    subst (Follows c.args.script.now (take (c.loop-at.at + 1) c.args.entries.now)) (sym (with_items_is c.loop-at.stopped c.note.new.stopped (c.note.ensures.count ∙ c.deref_mut.ensures.len)))
    (follows_more c.args.script.now c.args.entries.now c.loop-at.at c.index-entries-at.result _ c.loop-at.stopped.items c.note.new.stopped c.first_running-turn.result c.loop-at-test.true c.index-entries-at.is c.loop-at.invariant
    (turn_in_order c.args.script.now (take c.loop-at.at c.args.entries.now) c.loop-at.stopped.items c.deref.result.now c.first_running-turn.result c.requires c.loop-at.invariant c.deref.ensures.value c.first_running-turn.ensures.first)
    (c.is_turn_of.ensures.0 c.if-not-is_turn_of.false)
    (λ seen tell. c.note.ensures.tell seen (subst (TellStopped seen) (sym c.deref_mut.ensures.value) tell))
    (c.note.ensures.count ∙ ap length c.deref_mut.ensures.value))

pub returns : goal.returns
returns c =
    follows_whole c.args.script.now c.args.entries.now c.loop-at.at c.first_running.result (omega (arith, c.loop-at-test.false)) c.loop-at.invariant.follows
    (turn_in_order c.args.script.now (take c.loop-at.at c.args.entries.now) c.loop-at.stopped.items c.deref-2.result.now c.first_running.result c.requires c.loop-at.invariant c.deref-2.ensures.value c.first_running.ensures.first)

pub note-requires : goal.note-requires
note-requires c =
    subst (λ n. IsBackend n c.index-entries-at.result.backend) (ap length c.deref.ensures.value ∙ sym (ap length c.deref_mut.ensures.value))
    (subst (λ turn. IfSome turn (IsBackend (length c.deref.result.now))) (c.is_turn_of.ensures.0 c.if-not-is_turn_of.false) c.first_running-turn.ensures.range)
