-- Laws of the rows of several scans in one list: what they are together, one scan more, and the part and the value of a field.
use Rattle.std.proofs.Common.{◌≡◌, suc, ◌+◌, ◌≤◌, Bool, true, false, Some, List, [], ◌∷◌, ◌++◌, length, take, drop, refl, ap, sym, subst, ◌∙◌, arith, length-drop, length-append}
use Rattle.std.specs.Prelude.{map}
use Rattle.std.specs.Option.{option_map, option_and_then}
use Rattle.std.specs.List.{flat_map}
use Rattle.std.proofs.lemmas.List.{take_all, take-append-drop, take-append-le, drop-append-le, nil_from_length, map-append}
use Rattle.rel_desc.specs.Types.{Oid, Field, Purpose, Row, Part}
use Rattle.base_types.specs.declared.field.Field.TheVariants as fields
use Rattle.base_types.specs.Scans.{same_scan}
use Rattle.base_types.specs.Fields.{field_text, read_by}
use Rattle.base_types.proofs.SameScan.{same_scan-true}
use Rattle.rel_desc.specs.Descriptors.{KeptScan, Described, rows_of, with_scan, kept_for}
use Rattle.rel_desc.specs.KeptRows.{kept_in, counted, values_read, value_in, part_for, IsKept}

-- the rows of the parts together are all rows
pub rows_kept : (parts : List Part) (given : List Row) → length given ≡ counted parts → flat_map (λ k. k.rows) (kept_in parts given) ≡ given
rows_kept [] given whole = sym (nil_from_length given whole)
rows_kept (part ∷ parts) given whole =
    let rest : length (drop part.count given) ≡ counted parts = omega (arith, length-drop part.count given) in
    ap (λ later. take part.count given ++ later) (rows_kept parts (drop part.count given) rest) ∙ take-append-drop part.count given

-- as many scans as parts
pub length-kept_in : (parts : List Part) (given : List Row) → length (kept_in parts given) ≡ length parts
length-kept_in [] given = refl
length-kept_in (part ∷ parts) given = ap suc (length-kept_in parts (drop part.count given))

-- a last part has the last rows
pub kept_more : (parts : List Part) (given more : List Row) (part : Part) → length given ≡ counted parts → part.count ≡ length more
    → kept_in (parts ++ part ∷ []) (given ++ more) ≡ kept_in parts given ++ record { scan = part.scan; rows = more; at = part.at } ∷ []
kept_more [] given more part whole count =
    let none : given ≡ [] = nil_from_length given whole in
    let all : take part.count more ≡ more = take_all part.count more (omega arith) in
    rw (none, all) refl
kept_more (p ∷ parts) given more part whole count =
    let within : p.count ≤ length given = omega arith in
    let rest : length (drop p.count given) ≡ counted parts = omega (arith, length-drop p.count given) in
    rw (take-append-le p.count given more within, drop-append-le p.count given more within)
    (ap (λ later. record { scan = p.scan; rows = take p.count given; at = p.at } ∷ later) (kept_more parts (drop p.count given) more part rest count))

counted_more : (parts : List Part) (part : Part) → counted (parts ++ part ∷ []) ≡ counted parts + part.count
counted_more [] part = omega arith
counted_more (p ∷ parts) part = let later = counted_more parts part in omega arith

-- one part more, with its rows and its values
pub still_kept : (rel : Oid) (parts : List Part) (given more : List Row) (part : Part) → IsKept rel parts given
    → part.count ≡ length more → part.values ≡ values_read rel part.scan more → IsKept rel (parts ++ part ∷ []) (given ++ more)
still_kept rel parts given more part kept count values = record {
  whole = omega (arith, kept.whole, length-append given more, counted_more parts part);
  values = map-append (λ p. p.values) parts (part ∷ []) ∙ both_more ∙ sym (map-append (λ k. values_read rel k.scan k.rows) (kept_in parts given) (last ∷ []))
      ∙ ap (map (λ k. values_read rel k.scan k.rows)) (sym (kept_more parts given more part kept.whole count));
}
  where
    last : KeptScan
    last = record { scan = part.scan; rows = more; at = part.at }

    both_more : map (λ p. p.values) parts ++ part.values ∷ [] ≡ map (λ k. values_read rel k.scan k.rows) (kept_in parts given) ++ values_read rel part.scan more ∷ []
    both_more = rw (kept.values, values) refl

-- the value of a field among those that its scan reads
pub value_found : (rel : Oid) (field : Field) (given : List Row) → value_in (values_read rel (read_by field rel) given) field ≡ Some (field_text field rel given)
value_found rel fields.Name given = refl
value_found rel fields.Columns given = refl
value_found rel fields.Defaults given = refl
value_found rel fields.Statistics given = refl
value_found rel fields.Fillfactor given = refl
value_found rel fields.Constraints given = refl
value_found rel fields.Referenced given = refl
value_found rel fields.Indexes given = refl
value_found rel fields.Triggers given = refl
value_found rel fields.Of given = refl
value_found rel fields.Valid given = refl

-- by whether the first part is the one that is sought
value_step : (rel : Oid) (field : Field) (part : Part) (parts : List Part) (given : List Row) (t : Bool) → same_scan part.scan (read_by field rel) ≡ t
    → part.values ≡ values_read rel part.scan (take part.count given)
    → option_and_then (λ p. value_in p.values field) (part_for parts (read_by field rel)) ≡ option_map (λ k. field_text field rel k.rows) (kept_for (kept_in parts (drop part.count given)) (read_by field rel))
    → option_and_then (λ p. value_in p.values field) (part_for (part ∷ parts) (read_by field rel)) ≡ option_map (λ k. field_text field rel k.rows) (kept_for (kept_in (part ∷ parts) given) (read_by field rel))
value_step rel field part parts given true is first later = rw is (rw (first, same_scan-true part.scan (read_by field rel) is) (value_found rel field (take part.count given)))
value_step rel field part parts given false is first later = rw is later

-- the value of a field in the part of its scan is its text over the rows of the scan
pub value_kept : (rel : Oid) (field : Field) (parts : List Part) (given : List Row) → map (λ p. p.values) parts ≡ map (λ k. values_read rel k.scan k.rows) (kept_in parts given)
    → option_and_then (λ p. value_in p.values field) (part_for parts (read_by field rel)) ≡ option_map (λ k. field_text field rel k.rows) (kept_for (kept_in parts given) (read_by field rel))
value_kept rel field [] given values = refl
value_kept rel field (part ∷ parts) given values =
    value_step rel field part parts given (same_scan part.scan (read_by field rel)) refl (cc) (value_kept rel field parts (drop part.count given) (cc))

place_step : (scan : Purpose) (part : Part) (parts : List Part) (given : List Row) (t : Bool) → same_scan part.scan scan ≡ t
    → option_map (λ p. p.at) (part_for parts scan) ≡ option_map (λ k. k.at) (kept_for (kept_in parts (drop part.count given)) scan)
    → option_map (λ p. p.at) (part_for (part ∷ parts) scan) ≡ option_map (λ k. k.at) (kept_for (kept_in (part ∷ parts) given) scan)
place_step scan part parts given true is later = rw is refl
place_step scan part parts given false is later = rw is later

-- the place in the part of a scan is that of the scan
pub place_kept : (scan : Purpose) (parts : List Part) (given : List Row) → option_map (λ p. p.at) (part_for parts scan) ≡ option_map (λ k. k.at) (kept_for (kept_in parts given) scan)
place_kept scan [] given = refl
place_kept scan (part ∷ parts) given = place_step scan part parts given (same_scan part.scan scan) refl (place_kept scan parts (drop part.count given))

-- what is kept, seen from outside: all rows
pub all_rows : (d : Described) (rel : Oid) (parts : List Part) (given : List Row) → record { rel = rel; kept = kept_in parts given } ≡ d → IsKept rel parts given → given ≡ rows_of d
all_rows d rel parts given is kept = subst (λ (e : Described). given ≡ rows_of e) is (sym (rows_kept parts given kept.whole))

-- the value of a field
pub value_seen : (d : Described) (rel : Oid) (field : Field) (parts : List Part) (given : List Row) → record { rel = rel; kept = kept_in parts given } ≡ d → IsKept rel parts given
    → option_and_then (λ p. value_in p.values field) (part_for parts (read_by field rel)) ≡ option_map (λ k. field_text field d.rel k.rows) (kept_for d.kept (read_by field d.rel))
value_seen d rel field parts given is kept =
    subst (λ (e : Described). option_and_then (λ p. value_in p.values field) (part_for parts (read_by field rel)) ≡ option_map (λ k. field_text field e.rel k.rows) (kept_for e.kept (read_by field e.rel)))
    is (value_kept rel field parts given kept.values)

-- the place of a field
pub place_seen : (d : Described) (rel : Oid) (field : Field) (parts : List Part) (given : List Row) → record { rel = rel; kept = kept_in parts given } ≡ d
    → option_map (λ p. p.at) (part_for parts (read_by field rel)) ≡ option_map (λ k. k.at) (kept_for d.kept (read_by field d.rel))
place_seen d rel field parts given is =
    subst (λ (e : Described). option_map (λ p. p.at) (part_for parts (read_by field rel)) ≡ option_map (λ k. k.at) (kept_for e.kept (read_by field e.rel)))
    is (place_kept (read_by field rel) parts given)

-- one scan more
pub pushed : (d : Described) (rel : Oid) (parts : List Part) (given more : List Row) (part : Part) → record { rel = rel; kept = kept_in parts given } ≡ d → IsKept rel parts given → part.count ≡ length more
    → record { rel = rel; kept = kept_in (parts ++ part ∷ []) (given ++ more) } ≡ with_scan d part.scan more part.at
pushed d rel parts given more part is kept count =
    subst (λ (e : Described). record { rel = rel; kept = kept_in (parts ++ part ∷ []) (given ++ more) } ≡ with_scan e part.scan more part.at)
    is (ap (described rel) (kept_more parts given more part kept.whole count))
  where
    described : Oid → List KeptScan → Described
    described r kept = record { rel = r; kept = kept }
