use Rattle.std.proofs.Common.{◌∙◌, refl, arith}
use Rattle.std.proofs.lemmas.List.{take_rest}
use Rattle.std.proofs.lemmas.Result.{err_from_is_err_and}
use Rattle.edge_io.proofs.Sending.{grows_by_none, part_more}
use Rattle.edge_io.proofs.Gathering.{stood_at_first, stood_then, gathers_front}
use Rattle.edge_io.proofs.gathered.GatheringSink.send.Goals as goal

pub text-init : goal.text-init
text-init g c = record { within = omega arith; stood = stood_at_first _; sent = grows_by_none _; steady = refl }

pub returns-in_err-at-clause-bytes : goal.returns-in_err-at-clause-bytes
returns-in_err-at-clause-bytes g c =
    let failed = err_from_is_err_and c.from_residual.result c.from_residual.ensures.1 in
    gathers_front _ _ _ c.from_residual.result failed.0 c.args.text.now c.text.at failed.1 c.text.invariant.stood c.in_err-at.ensures.stood c.text.invariant.sent c.in_err-at.ensures.bytes

pub text-preserved : goal.text-preserved
text-preserved g c =
    let taken = rw take_rest at c.in_ok-at.ensures.bytes in
    record {
      within = grind arith;
      stood = stood_then _ _ _ c.text.invariant.stood c.in_ok-at.ensures.stood;
      sent = part_more _ _ _ c.args.text.now c.text.at c.in_ok-at.field-0 c.text.invariant.sent taken;
      steady = c.in_ok-at.ensures.cause.steady ∙ c.text.invariant.steady;
    }
