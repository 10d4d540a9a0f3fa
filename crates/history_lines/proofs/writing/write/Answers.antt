use Rattle.std.proofs.Common.{◌∙◌}
use Rattle.history_lines.proofs.TakenWrites.{written_takes, write_takes, made_new}
use Rattle.history_lines.proofs.writing.write.Goals as goal

pub returns-clause-takes : goal.returns-clause-takes
returns-clause-takes c = write_takes c.enter_write.result c.args.ledger.now c.args.progress.now c.enter_write.new.self c.args.xid c.args.items.now c.deref.result.now c.relation_made.result
    (λ seen reads. c.deref.ensures.value ∙ c.in_ok-messages.ensures.written seen reads) c.relation_made.ensures
    (written_takes c.enter_write.result c.args.progress.now c.enter_write.new.self c.args.xid c.deref.result.now c.relation_made.result c.enter_write.ensures.answer c.enter_write.ensures.holds)

pub relation_made-requires : goal.relation_made-requires
relation_made-requires c = c.requires.may.one

pub enter_write-requires-clause-wants : goal.enter_write-requires-clause-wants
enter_write-requires-clause-wants c = c.requires.may.wants

pub enter_write-requires-clause-order : goal.enter_write-requires-clause-order
enter_write-requires-clause-order c = c.requires.may.order

pub enter_write-requires-clause-new : goal.enter_write-requires-clause-new
enter_write-requires-clause-new c = made_new c.args.progress.now c.args.items.now c.relation_made.result c.requires.may c.relation_made.ensures
