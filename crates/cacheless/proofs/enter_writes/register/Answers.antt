use Rattle.std.proofs.Common.{◌<◌, ◌∙◌, [], ◌∷◌, ◌++◌, ap, sym, refl, subst, length, arith}
use Rattle.std.specs.List.{AllByRecursion}
use Rattle.inval_messages.specs.Lists.{Written}
use Rattle.command_lists.specs.Lists.{command_ended, new_list, with_messages}
use Rattle.command_lists.proofs.Writes.{ended-all}
use Rattle.command_lists.proofs.WriteRegistered.{registering_starts, registering_begins, registering_order, registering_more, registering_ends}
use Rattle.cacheless.proofs.enter_writes.register.Goals as goal

pub loop-message-init : goal.loop-message-init
loop-message-init c = registering_starts (command_ended c.args.lists.now.lists) c.args.command (length c.args.messages.now) c.args.messages.now c.reserve.new.self c.begin_command.new.self refl (c.in_ok-reserve.ensures.lists ∙ c.end_command.ensures.lists) c.in_ok-reserve.ensures.ok c.begin_command.ensures.lists c.begin_command.ensures.spare

pub register-requires-clause-place : goal.register-requires-clause-place
register-requires-clause-place c = omega (arith, c.loop-message.invariant.spare, c.loop-message-test.true)

pub register-requires-clause-order : goal.register-requires-clause-order
register-requires-clause-order c = registering_order _ _ _ _ _ (subst (λ l. AllByRecursion (λ (list : Written). list.command < c.args.command) l) (sym (ended-all c.args.lists.now.lists)) c.requires.order) c.loop-message.invariant

pub loop-message-preserved : goal.loop-message-preserved
loop-message-preserved c = registering_more _ _ _ _ _ _ _ c.loop-message-test.true c.register.ensures.lists c.register.ensures.spare c.loop-message.invariant

pub begin_command-requires-clause-order : goal.begin_command-requires-clause-order
begin_command-requires-clause-order c = registering_begins (command_ended c.args.lists.now.lists) c.reserve.new.self.lists c.args.command refl (c.in_ok-reserve.ensures.lists ∙ c.end_command.ensures.lists)
    (subst (λ l. AllByRecursion (λ (list : Written). list.command < c.args.command) l) (sym (ended-all c.args.lists.now.lists)) c.requires.order)

pub returns : goal.returns
returns c = record { lists = registering_ends (command_ended c.args.lists.now.lists) _ _ c.args.messages.now _ _ _ c.loop-message.invariant (omega (arith, c.loop-message-test.false)) c.end_command-2.ensures.lists ∙ ap (λ l. l ++ with_messages c.args.messages.now (new_list c.args.command) ∷ []) (ended-all c.args.lists.now.lists) }
