use Rattle.std.proofs.Common.{rules, refl}
use Rattle.std.proofs.lemmas.Result.{err_from_is_err_and}
use Rattle.edge_io.proofs.Gathering.{front_of_failed, sent_behind}
use Rattle.event_kinds.specs.Texts.{ended, line_text}
use Rattle.out_text.proofs.lines.put_line.Goals as goal

pub returns-in_err-gather_line-clause-bytes : goal.returns-in_err-gather_line-clause-bytes
returns-in_err-gather_line-clause-bytes g c =
    let failed = err_from_is_err_and c.from_residual.result c.from_residual.ensures.1 in
    front_of_failed g.K.Sink.taken _ _ _ _ _ c.gather_line.result _ _ _ (ended (line_text c.args.line.now)) c.new-out.ensures.held (search rules) refl c.in_err-gather_line.was failed.1 c.gather_line.ensures.bytes (search rules)

pub returns-clause-bytes : goal.returns-clause-bytes
returns-clause-bytes g c =
    sent_behind g.K.Sink.taken _ _ _ _ _ _ c.gather_line.result _ c.flush.result (ended (line_text c.args.line.now)) c.new-out.ensures.held (search rules) refl c.in_ok-gather_line.was c.gather_line.ensures.bytes c.flush.ensures.bytes c.flush.ensures.ok (search rules)
