use Rattle.std.proofs.Common.{◌≡◌}
use Rattle.std.proofs.lemmas.Result.{err_from_is_err_and}
use Rattle.event_kinds.specs.Texts.{entry_head, changes_of, changes_text}
use Rattle.event_kinds.proofs.Changes.{entry_parts}
use Rattle.out_text.proofs.Gathered.{second_gathered, first_not_gathered}
use Rattle.out_text.proofs.entries.gather_entry_text.Goals as goal

pub returns-in_err-send-clause-bytes : goal.returns-in_err-send-clause-bytes
returns-in_err-send-clause-bytes g c =
    let entry = c.args.entry.now in
    let is : c.as_bytes.result.now ≡ entry_head entry = cc in
    let sent = rw is at c.send.ensures.bytes in
    let failed = err_from_is_err_and c.from_residual.result c.from_residual.ensures.1 in
    first_not_gathered _ _ _ c.from_residual.result _ _ (entry_head entry) (changes_text (changes_of entry.event)) _ (entry_parts entry) c.in_err-send.was failed.1 sent

pub returns-clause-bytes : goal.returns-clause-bytes
returns-clause-bytes g c =
    let entry = c.args.entry.now in
    let is : c.as_bytes.result.now ≡ entry_head entry = cc in
    let sent = rw is at c.send.ensures.bytes in
    let rest = rw c.changes_in.ensures at c.gather_changes.ensures.bytes in
    second_gathered _ _ _ _ _ c.gather_changes.result (entry_head entry) (changes_text (changes_of entry.event)) _ (entry_parts entry) c.in_ok-send.was sent rest
