use Rattle.std.proofs.Common.{◌∙◌, ◌&&◌, ap, Some}
use Rattle.ddl_effect.specs.Opens.{has_open}
use Rattle.txn_blocks.specs.declared.transaction.RunningTransaction.{RunningTransaction}
use Rattle.cacheless.specs.Session.{held_in}
use Rattle.cacheless.specs.State.{locks_accepted}
use Rattle.cacheless.proofs.Entries.EntryCodes.{write_code}
use Rattle.cacheless.proofs.progress.Progress.enter_write.Goals as goal

pub returns-clause-holds : goal.returns-clause-holds
returns-clause-holds c = write_code c.args.self.now c.args.xid c.args.messages.now c.args.made _ _ _ _ _ _ _ c.lock_new.new.locks _ (c.with_xid.ensures ∙ ap (λ (o : RunningTransaction). record o { xid = Some c.args.xid }) c.begun.ensures) c.requires.wants c.in_ok-register.ensures.lists (c.in_ok-unpin_others.ensures.kept ∙ c.execute.ensures.kept) (λ rel. c.in_ok-unpin_others.ensures.pins rel ∙ (λ i. has_open rel (c.as_slice-2.ensures i) && c.execute.ensures.pins rel i)) (c.in_ok-give.ensures.plan c.args.self.now.opens) (c.in_ok-self.ensures ∙ ap (held_in c.args.self.now.blocks.block) c.as_slice.ensures) c.lock_new.ensures (c.accept.ensures ∙ ap (λ t. locks_accepted t c.lock_new.new.locks.items) c.is_in_acceptance-accepting.ensures)

pub invariant_of-self-in-Break-branch-2 : goal.invariant_of-self-in-Break-branch-2
invariant_of-self-in-Break-branch-2 c = record { known = c.forget.ensures _ _ }

pub invariant_of-self-in-Break-branch-3 : goal.invariant_of-self-in-Break-branch-3
invariant_of-self-in-Break-branch-3 c = record { known = c.forget.ensures _ _ }

pub invariant_of-self-in-Break-branch-4 : goal.invariant_of-self-in-Break-branch-4
invariant_of-self-in-Break-branch-4 c = record { known = c.forget.ensures _ _ }

pub returns-clause-kept : goal.returns-clause-kept
returns-clause-kept c = c.in_ok-unpin_others.ensures.kept ∙ c.execute.ensures.kept

pub invariant_of-self-2 : goal.invariant_of-self-2
invariant_of-self-2 c = record { known = c.find.ensures }
