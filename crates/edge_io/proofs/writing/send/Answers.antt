use Rattle.std.proofs.lemmas.List.{take_rest}
use Rattle.std.proofs.lemmas.Result.{err_from_is_err_and}
use Rattle.std.proofs.Common.{arith, ◌∙◌}
use Rattle.edge_io.proofs.Sending.{part_more, part_front}
use Rattle.edge_io.proofs.writing.send.Goals as goal

pub returns-in_err-at-clause-bytes : goal.returns-in_err-at-clause-bytes
returns-in_err-at-clause-bytes g c =
    let failed = err_from_is_err_and c.from_residual.result c.from_residual.ensures.1 in
    rw failed.1 (part_front _ _ _ c.args.text.now c.text.at c.text.invariant.sent c.in_err-at.ensures.bytes)

pub text-preserved : goal.text-preserved
text-preserved g c =
    let taken = rw take_rest at c.in_ok-at.ensures.bytes in
    record {
      within = grind arith;
      sent = part_more _ _ _ c.args.text.now c.text.at c.in_ok-at.field-0 c.text.invariant.sent taken;
      steady = c.in_ok-at.ensures.cause.steady ∙ c.text.invariant.steady;
    }
