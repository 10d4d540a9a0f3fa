use Rattle.std.proofs.Common.{◌≡◌, refl}
use Rattle.std.proofs.lemmas.Result.{err_from_is_err_and}
use Rattle.event_kinds.specs.Texts.{line_head}
use Rattle.out_text.proofs.Gathered.{second_gathered, first_not_gathered}
use Rattle.out_text.proofs.lines.gather_line_text.Goals as goal

pub returns-in_err-send-clause-bytes : goal.returns-in_err-send-clause-bytes
returns-in_err-send-clause-bytes g c =
    let line = c.args.line.now in
    let is : c.as_bytes.result.now ≡ line_head line = cc in
    let sent = rw is at c.send.ensures.bytes in
    let failed = err_from_is_err_and c.from_residual.result c.from_residual.ensures.1 in
    first_not_gathered _ _ _ c.from_residual.result _ _ (line_head line) line.text _ refl c.in_err-send.was failed.1 sent

pub returns-clause-bytes : goal.returns-clause-bytes
returns-clause-bytes g c =
    let line = c.args.line.now in
    let is : c.as_bytes.result.now ≡ line_head line = cc in
    let sent = rw is at c.send.ensures.bytes in
    let rest = rw c.as_bytes-2.ensures.text at c.send-2.ensures.bytes in
    second_gathered _ _ _ _ _ c.send-2.result (line_head line) line.text _ refl c.in_ok-send.was sent rest
