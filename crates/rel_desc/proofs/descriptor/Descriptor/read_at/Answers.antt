use Rattle.std.proofs.Common.{◌≡◌, true, ◌∙◌, sym}
use Rattle.base_types.specs.Fields.{has_field}
use Rattle.rel_desc.specs.Descriptors.{kind_of}
use Rattle.rel_desc.proofs.Built.{place_if, has_place_shown, built_seen}
use Rattle.rel_desc.proofs.descriptor.Descriptor.read_at.Goals as goal

pub returns-then-has_field-clause-has : goal.returns-then-has_field-clause-has
returns-then-has_field-clause-has c =
    let has : has_field (kind_of c.self.inside.scans) c.args.field ≡ true = sym (rw c.kind.ensures at c.has_field.ensures) ∙ c.if-has_field.true in
    has_place_shown c.args.self.now c.args.field c.place.result (built_seen c.args.self.now c.self.inside.scans c.self.view_is c.self.invariant)
    (place_if c.args.self.now c.self.inside.scans c.args.field c.place.result c.self.view_is has c.place.ensures)
