use Rattle.std.proofs.Common.{rules, refl}
use Rattle.std.proofs.lemmas.Result.{err_from_is_err_and}
use Rattle.edge_io.proofs.Gathering.{front_of_failed, sent_behind}
use Rattle.event_kinds.specs.Texts.{text_of}
use Rattle.out_text.proofs.output.write_output.Goals as goal

pub returns-in_err-gather_output-clause-bytes : goal.returns-in_err-gather_output-clause-bytes
returns-in_err-gather_output-clause-bytes g c =
    let failed = err_from_is_err_and c.from_residual.result c.from_residual.ensures.1 in
    front_of_failed g.K.Sink.taken _ _ _ _ _ c.gather_output.result _ _ _ (text_of c.args.history.now c.args.lines.now) c.new-out.ensures.held (search rules) refl c.in_err-gather_output.was failed.1 c.gather_output.ensures.bytes (search rules)

pub returns-clause-bytes : goal.returns-clause-bytes
returns-clause-bytes g c =
    sent_behind g.K.Sink.taken _ _ _ _ _ _ c.gather_output.result _ c.flush.result (text_of c.args.history.now c.args.lines.now) c.new-out.ensures.held (search rules) refl c.in_ok-gather_output.was c.gather_output.ensures.bytes c.flush.ensures.bytes c.flush.ensures.ok (search rules)
