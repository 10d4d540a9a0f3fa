-- A build goes on scan by scan, and is done just where it wants none.
use Rattle.std.proofs.Common.{◌≡◌, ℕ, zero, suc, ◌≤◌, Bool, true, false, cond, ◌||◌, Option, Some, None, List, [], ◌∷◌, ◌++◌, length, take, refl, ap, sym, subst, ◌∙◌, arith, eq-eqb, Bor}
use Rattle.std.specs.Prelude.{map, slice_get, is_some, IsSomeAnd, OnOk, OnErr, Result, Ok, Err, ◌==◌, ◌↔◌, if◌then◌else◌}
use Rattle.std.specs.Option.{option_map, option_copied}
use Rattle.std.specs.List.{find, list_any, flat_map, AllByRecursion}
use Rattle.std.proofs.lemmas.List.{take_all, map-append, length-map}
use Rattle.rel_desc.specs.Types.{Oid, Kind, Field, Purpose, Row}
use Rattle.base_types.specs.declared.kind.Kind.TheVariants.{Table, Index}
use Rattle.base_types.specs.declared.row.Row.TheVariants as rows
use Rattle.base_types.specs.declared.field.Field.TheVariants as fields
use Rattle.base_types.specs.declared.scan.Purpose.TheVariants.{Class}
use Rattle.base_types.specs.Scans.{build_scans, same_scan}
use Rattle.base_types.specs.Fields.{has_field, read_by, field_text}
use Rattle.base_types.proofs.SameScan.{same_scan-true}
use Rattle.rel_desc.specs.Descriptors.{KeptScan, Described, kind_in, kind_of, unread, wanted, with_scan, is_own_row, IsGiven, IsBegun, IsBuilt, kept_for, reader_of, field_of, place_of}

kind_first : (row : Row) (a b : List Row) → kind_in (row ∷ a) ≡ kind_in (row ∷ b)
kind_first (rows.Class oid name kind fill) a b = refl
kind_first row a b = refl

-- what comes after a relation's own row says nothing of its kind
kind_kept : (given a b : List Row) → length given ≡ 1 → kind_in (given ++ a) ≡ kind_in (given ++ b)
kind_kept [] a b one = absurd (omega arith)
kind_kept (row ∷ rest) a b one = kind_first row (rest ++ a) (rest ++ b)

-- each kind's first scan is that of its own row
first_scan : (kind : Kind) (rel : Oid) (n : ℕ) (scan : Purpose) (others : List Purpose) → scan ∷ others ≡ take (suc n) (build_scans kind rel) → scan ≡ Class rel
first_scan Table rel n scan others is = cc
first_scan Index rel n scan others is = cc

one_scan : (kind : Kind) (rel : Oid) (scan : Purpose) → scan ≡ Class rel → scan ∷ [] ≡ take 1 (build_scans kind rel)
one_scan Table rel scan is = rw is refl
one_scan Index rel scan is = rw is refl

take_next : {X : Type 0} (xs : List X) (n : ℕ) (x : X) → slice_get xs n ≡ Some x → take (suc n) xs ≡ take n xs ++ x ∷ []
take_next [] n x at = absurd (cc)
take_next (y ∷ xs) zero x at = let e : y ≡ x = cc in rw e refl
take_next (y ∷ xs) (suc n) x at = ap (λ l. y ∷ l) (take_next xs n x at)

length_next : {X : Type 0} (xs : List X) (x : X) → length (xs ++ x ∷ []) ≡ suc (length xs)
length_next [] x = refl
length_next (y ∷ xs) x = ap suc (length_next xs x)

all_next : {X : Type 0} (P : X → Type 0) (xs : List X) (x : X) → AllByRecursion P xs → P x → AllByRecursion P (xs ++ x ∷ [])
all_next P [] x all one = (one, tt)
all_next P (y ∷ xs) x all one = (all.0, all_next P xs x all.1 one)

more_scans : (kept : List KeptScan) (last : KeptScan) (scans : List Purpose) → map (λ k. k.scan) kept ≡ take (length kept) scans → slice_get scans (length kept) ≡ Some last.scan
    → map (λ k. k.scan) (kept ++ last ∷ []) ≡ take (length (kept ++ last ∷ [])) scans
more_scans kept last scans is at =
    map-append (λ k. k.scan) kept (last ∷ []) ∙ ap (λ l. l ++ last.scan ∷ []) is ∙ sym (take_next scans (length kept) last.scan at) ∙ ap (λ n. take n scans) (sym (length_next kept last))

begun_by : (rel : Oid) (kept : List KeptScan) (last : KeptScan) → IsBegun (record { rel = rel; kept = kept }) → wanted (record { rel = rel; kept = kept }) ≡ Some last.scan → IsGiven last.scan last.rows
    → IsBegun (record { rel = rel; kept = kept ++ last ∷ [] })
begun_by rel [] last begun at given = record {
  scans = let is : last.scan ≡ Class rel = cc in one_scan (kind_in (last.rows ++ [])) rel last.scan is;
  given = (given, tt);
}
begun_by rel (k ∷ kept) last begun at given = record {
  scans = subst (λ (kind : Kind). map (λ k. k.scan) (k ∷ kept ++ last ∷ []) ≡ take (length (k ∷ kept ++ last ∷ [])) (build_scans kind rel)) (kind_kept k.rows later later_too one)
      (more_scans (k ∷ kept) last (build_scans (kind_in (k.rows ++ later)) rel) begun.scans at);
  given = all_next (λ k. IsGiven k.scan k.rows) (k ∷ kept) last begun.given given;
}
  where
    later : List Row
    later = flat_map (λ k. k.rows) kept

    later_too : List Row
    later_too = flat_map (λ k. k.rows) (kept ++ last ∷ [])

    own : k.scan ≡ Class rel
    own = first_scan (kind_in (k.rows ++ later)) rel (length kept) k.scan (map (λ k. k.scan) kept) begun.scans

    one : length k.rows ≡ 1
    one = begun.given.0.one (ap is_own_row own)

-- a build goes on by the scan that it wants
pub begun_more : (d : Described) (scan : Purpose) (given : List Row) (at : ℕ) → IsBegun d → wanted d ≡ Some scan → IsGiven scan given → IsBegun (with_scan d scan given at)
begun_more d scan given at begun wants is = begun_by d.rel d.kept (record { scan = scan; rows = given; at = at }) begun wants is

-- a relation of which nothing was read is begun
pub begun_unread : (rel : Oid) → IsBegun (unread rel)
begun_unread rel = record { scans = refl; given = tt }

past_end : {X : Type 0} (xs : List X) (n : ℕ) → slice_get xs n ≡ None → length xs ≤ n
past_end [] n is = omega arith
past_end (x ∷ xs) zero is = absurd (cc)
past_end (x ∷ xs) (suc n) is = let later = past_end xs n is in omega arith

none_past : {X : Type 0} (xs : List X) (n : ℕ) → length xs ≤ n → slice_get xs n ≡ None
none_past [] n h = refl
none_past (x ∷ xs) zero h = absurd (omega arith)
none_past (x ∷ xs) (suc n) h = none_past xs n (omega arith)

-- a build that wants no scan has made them all
pub built_at_end : (d : Described) → IsBegun d → wanted d ≡ None → IsBuilt d
built_at_end d begun none = record {
  scans = begun.scans ∙ take_all (length d.kept) (build_scans (kind_of d) d.rel) (past_end (build_scans (kind_of d) d.rel) (length d.kept) none);
  given = begun.given;
}

-- a build that has made them all wants none
pub none_wanted : (d : Described) → IsBuilt d → wanted d ≡ None
none_wanted d built =
    let long : length (build_scans (kind_of d) d.rel) ≤ length d.kept = omega (arith, ap length built.scans, length-map d.kept (λ k. k.scan)) in
    none_past (build_scans (kind_of d) d.rel) (length d.kept) long

-- a build wants none just where it has made them all
pub wants_end : (d : Described) → IsBegun d → (wanted d ≡ None) ↔ IsBuilt d
wants_end d begun = (built_at_end d begun, none_wanted d)

found_step : (t later : Bool) (k : KeptScan) (found : Option KeptScan) → is_some found ≡ later → is_some (cond t (Some k) found) ≡ (t || later)
found_step true later k found is = refl
found_step false later k found is = is

-- a scan is found where it is among those that were made
found_among : (kept : List KeptScan) (scan : Purpose) → is_some (kept_for kept scan) ≡ list_any (λ s. same_scan s scan) (map (λ k. k.scan) kept)
found_among [] scan = refl
found_among (k ∷ kept) scan = found_step (same_scan k.scan scan) (list_any (λ s. same_scan s scan) (map (λ k. k.scan) kept)) k (kept_for kept scan) (found_among kept scan)

itself : (rel : Oid) → (rel.0 == rel.0) ≡ true
itself rel = eq-eqb rel.0 rel.0 refl

-- each field of a kind is read by one of its scans
read_among : (kind : Kind) (field : Field) (rel : Oid) → has_field kind field ≡ true → list_any (λ s. same_scan s (read_by field rel)) (build_scans kind rel) ≡ true
read_among Table fields.Name rel h = rw (itself rel) refl
read_among Table fields.Columns rel h = rw (itself rel) refl
read_among Table fields.Defaults rel h = rw (itself rel) refl
read_among Table fields.Statistics rel h = rw (itself rel) refl
read_among Table fields.Fillfactor rel h = rw (itself rel) refl
read_among Table fields.Constraints rel h = rw (itself rel) refl
read_among Table fields.Referenced rel h = rw (itself rel) refl
read_among Table fields.Indexes rel h = rw (itself rel) refl
read_among Table fields.Triggers rel h = rw (itself rel) refl
read_among Index fields.Name rel h = rw (itself rel) refl
read_among Index fields.Of rel h = rw (itself rel) refl
read_among Index fields.Valid rel h = rw (itself rel) refl
read_among kind field rel h = absurd (cc)

found_if : (t : Bool) (found : Option KeptScan) → (t ≡ true → is_some found ≡ true) → is_some (if t then found else None) ≡ t
found_if true found h = h refl
found_if false found h = refl

-- a descriptor has a field just where its kind has it
pub has_reader : (d : Described) (field : Field) → IsBuilt d → is_some (reader_of d field) ≡ has_field (kind_of d) field
has_reader d field built =
    found_if (has_field (kind_of d) field) (kept_for d.kept (read_by field d.rel))
    (λ has. found_among d.kept (read_by field d.rel) ∙ ap (list_any (λ s. same_scan s (read_by field d.rel))) built.scans ∙ read_among (kind_of d) field d.rel has)

is_some-map : {X Y : Type 0} (f : X → Y) (o : Option X) → is_some (option_map f o) ≡ is_some o
is_some-map f None = refl
is_some-map f (Some x) = refl

is_some-copied : {X : Type 0} (o : Option (Bor X)) → is_some o ≡ is_some (option_copied o)
is_some-copied None = refl
is_some-copied (Some x) = refl

-- what a descriptor shows of a field is there just where its kind has it
pub has_field_shown : (d : Described) (field : Field) (shown : Option (Bor (List ℕ))) → IsBuilt d → option_copied shown ≡ field_of d field → is_some shown ≡ has_field (kind_of d) field
has_field_shown d field shown built is =
    is_some-copied shown ∙ ap is_some is ∙ is_some-map (λ k. field_text field d.rel k.rows) (reader_of d field) ∙ has_reader d field built

-- and so is its place
pub has_place_shown : (d : Described) (field : Field) (shown : Option ℕ) → IsBuilt d → shown ≡ place_of d field → is_some shown ≡ has_field (kind_of d) field
has_place_shown d field shown built is = ap is_some is ∙ is_some-map (λ k. k.at) (reader_of d field) ∙ has_reader d field built

-- a build after a scan that was taken, or for which there was no memory
pub begun_taken : {T E : Type 0} (r : Result T E) (now d new : Described) (scan : Purpose) (given : List Row) (at : ℕ) → d ≡ now → IsBegun d → Some scan ≡ wanted now
    → IsSomeAnd (wanted now) (λ s. IsGiven s given) → OnOk r (new ≡ with_scan d scan given at) → OnErr r (new ≡ d) → IsBegun new
begun_taken (Ok x) now d new scan given at is begun want asked ok err =
    let fits : IsGiven scan given = subst (λ (o : Option Purpose). IsSomeAnd o (λ s. IsGiven s given)) (sym want) asked in
    subst IsBegun (sym ok) (begun_more d scan given at begun (ap wanted is ∙ sym want) fits)
begun_taken (Err e) now d new scan given at is begun want asked ok err = subst IsBegun (sym err) begun

-- the text that the scan gives is that of the field, where the kind has the field
pub field_if : (now d : Described) (field : Field) (text : Option (List ℕ)) → d ≡ now → has_field (kind_of d) field ≡ true
    → text ≡ option_map (λ k. field_text field d.rel k.rows) (kept_for d.kept (read_by field d.rel)) → text ≡ field_of now field
field_if now d field text is has found =
    subst (λ (e : Described). text ≡ field_of e field) is (found ∙ ap (λ (t : Bool). option_map (λ k. field_text field d.rel k.rows) (if t then kept_for d.kept (read_by field d.rel) else None)) (sym has))

-- and so is the place
pub place_if : (now d : Described) (field : Field) (place : Option ℕ) → d ≡ now → has_field (kind_of d) field ≡ true
    → place ≡ option_map (λ k. k.at) (kept_for d.kept (read_by field d.rel)) → place ≡ place_of now field
place_if now d field place is has found =
    subst (λ (e : Described). place ≡ place_of e field) is (found ∙ ap (λ (t : Bool). option_map (λ k. k.at) (if t then kept_for d.kept (read_by field d.rel) else None)) (sym has))

-- a descriptor is built, seen from outside
pub built_seen : (now d : Described) → d ≡ now → IsBuilt d → IsBuilt now
built_seen now d is built = subst IsBuilt is built

found_passes : {X : Type 0} (test : X → Bool) (xs : List X) (x : X) → find test xs ≡ Some x → test x ≡ true
found_passes test [] x is = absurd (cc)
found_passes test (y ∷ xs) x is = found_by (test y) refl is (found_passes test xs x)
  where
    found_by : (t : Bool) → test y ≡ t → cond t (Some y) (find test xs) ≡ Some x → (find test xs ≡ Some x → test x ≡ true) → test x ≡ true
    found_by true passes first later = let e : y ≡ x = cc in subst (λ z. test z ≡ true) e passes
    found_by false fails first later = later first

-- the scan that read a field is the one that reads it
pub reader_scan : (d : Described) (field : Field) (k : KeptScan) → reader_of d field ≡ Some k → k.scan ≡ read_by field d.rel
reader_scan d field k is = by_kind (has_field (kind_of d) field) is
  where
    by_kind : (t : Bool) → (if t then kept_for d.kept (read_by field d.rel) else None) ≡ Some k → k.scan ≡ read_by field d.rel
    by_kind true found = same_scan-true k.scan (read_by field d.rel) (found_passes (λ k. same_scan k.scan (read_by field d.rel)) d.kept k found)
    by_kind false found = absurd (cc)
