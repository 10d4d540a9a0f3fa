-- The texts that are kept of the fields of a relation.
use Rattle.std.proofs.Common.{◌≡◌, ◌∙◌, ℕ, Bool, true, false, Option, Some, List, [], ◌∷◌, cond, refl, ap}
use Rattle.std.specs.Option.{option_map, option_and_then}
use Rattle.std.specs.List.{find}
use Rattle.base_types.specs.declared.field.Field.{Field}
use Rattle.base_types.specs.declared.field.Field.TheVariants as fields
use Rattle.base_types.specs.Scans.{same_scan}
use Rattle.base_types.specs.Fields.{field_text, read_by}
use Rattle.base_types.proofs.SameScan.{same_scan-true}
use Rattle.rel_desc.specs.KeptRows.{value_in, values_read}
use Rattle.rel_desc.proofs.KeptRows.{value_found}
use Rattle.local_caches.specs.Types.{Oid}
use Rattle.local_caches.specs.declared.part.Part.{Part}
use Rattle.local_caches.specs.Homes.{home_of}
use Rattle.local_caches.specs.Parts.{part_kept, read_part}
use Rattle.local_caches.specs.declared.home.Home.TheVariants as homes

-- what a scan that reads a field gave lies with the descriptor of its relation
read_home : (rel : Oid) (field : Field) → home_of (read_by field rel) ≡ homes.Rel rel
read_home rel fields.Name = refl
read_home rel fields.Columns = refl
read_home rel fields.Defaults = refl
read_home rel fields.Statistics = refl
read_home rel fields.Fillfactor = refl
read_home rel fields.Constraints = refl
read_home rel fields.Referenced = refl
read_home rel fields.Indexes = refl
read_home rel fields.Triggers = refl
read_home rel fields.Of = refl
read_home rel fields.Valid = refl

-- the scan that reads a field has its text
text_in : (part : Part) (rel : Oid) (field : Field) → same_scan part.scan (read_by field rel) ≡ true → value_in part.texts field ≡ Some (field_text field rel part.rows)
text_in part rel field is =
    let of = same_scan-true part.scan (read_by field rel) is in
    ap (λ texts. value_in texts field) (part.made rel (ap home_of of ∙ read_home rel field) ∙ ap (λ scan. values_read rel scan part.rows) of) ∙ value_found rel field part.rows

-- the text of a field is found exactly where the scan is that reads it
pub text_among : (parts : List Part) (rel : Oid) (field : Field) → option_and_then (λ part. value_in part.texts field) (find (λ part. same_scan part.scan (read_by field rel)) parts) ≡ option_map (λ read. field_text field rel read.rows) (part_kept parts (read_by field rel))
text_among [] rel field = refl
text_among (part ∷ parts) rel field = by (same_scan part.scan (read_by field rel)) refl (text_among parts rel field)
  where
    text : Option Part → Option (List ℕ)
    text found = option_and_then (λ p. value_in p.texts field) found

    by : (t : Bool) → same_scan part.scan (read_by field rel) ≡ t → text (find (λ p. same_scan p.scan (read_by field rel)) parts) ≡ option_map (λ read. field_text field rel read.rows) (part_kept parts (read_by field rel))
        → text (cond t (Some part) (find (λ p. same_scan p.scan (read_by field rel)) parts)) ≡ option_map (λ read. field_text field rel read.rows) (option_map read_part (cond t (Some part) (find (λ p. same_scan p.scan (read_by field rel)) parts)))
    by true is later = text_in part rel field is
    by false is later = later
