use Rattle.std.proofs.Common.{◌≡◌, ◌∙◌, Some, sym, ap}
use Rattle.std.specs.Option.{option_copied, option_and_then}
use Rattle.std.specs.List.{find}
use Rattle.base_types.specs.Scans.{same_scan}
use Rattle.base_types.specs.Fields.{read_by}
use Rattle.rel_desc.specs.KeptRows.{value_in}
use Rattle.local_caches.specs.Descriptors.{parts_of}
use Rattle.local_caches.proofs.Texts.{text_among}
use Rattle.local_caches.proofs.descriptors.Descriptors.value.Goals as goal

pub returns-in-Some : goal.returns-in-Some
returns-in-Some c =
    let found : find (λ part. same_scan part.scan (read_by c.args.field c.args.rel)) (parts_of c.args.self.now c.args.rel) ≡ Some c.in-Some.part.now = sym (rw (c.parts.ensures, c.read_by.ensures) at c.part_of.ensures) ∙ ap option_copied c.in-Some.is in
    (rw c.as_slice.ensures at c.value_in.ensures) ∙ sym (ap (option_and_then (λ part. value_in part.texts c.args.field)) found) ∙ text_among (parts_of c.args.self.now c.args.rel) c.args.rel c.args.field
