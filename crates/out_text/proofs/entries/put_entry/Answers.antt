use Rattle.std.proofs.Common.{rules, refl}
use Rattle.std.proofs.lemmas.Result.{err_from_is_err_and}
use Rattle.edge_io.proofs.Gathering.{front_of_failed, sent_behind}
use Rattle.event_kinds.specs.Texts.{ended, entry_text}
use Rattle.out_text.proofs.entries.put_entry.Goals as goal

pub returns-in_err-gather_entry-clause-bytes : goal.returns-in_err-gather_entry-clause-bytes
returns-in_err-gather_entry-clause-bytes g c =
    let failed = err_from_is_err_and c.from_residual.result c.from_residual.ensures.1 in
    front_of_failed g.K.Sink.taken _ _ _ _ _ c.gather_entry.result _ _ _ (ended (entry_text c.args.entry.now)) c.new-out.ensures.held (search rules) refl c.in_err-gather_entry.was failed.1 c.gather_entry.ensures.bytes (search rules)

pub returns-clause-bytes : goal.returns-clause-bytes
returns-clause-bytes g c =
    sent_behind g.K.Sink.taken _ _ _ _ _ _ c.gather_entry.result _ c.flush.result (ended (entry_text c.args.entry.now)) c.new-out.ensures.held (search rules) refl c.in_ok-gather_entry.was c.gather_entry.ensures.bytes c.flush.ensures.bytes c.flush.ensures.ok (search rules)
