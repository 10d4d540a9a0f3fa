-- A scan asks for some of the rows that are seen; its answer is of those alone.
use Rattle.std.proofs.Common.{◌≡◌, ◌∙◌, ◌⊎◌, inl, inr, ℕ, Bool, true, false, List, [], ◌∷◌, ◌||◌, refl, sym, ap, subst, map, filter, fold}
use Rattle.std.specs.List.{AllByRecursion, list_all}
use Rattle.std.specs.Str.{bytes_eq}
use Rattle.std.proofs.lemmas.Slice.Eq.{bytes_eq-Decides}
use Rattle.std.proofs.lemmas.Bool.{eqb-true, or_cases, and_parts}
use Rattle.base_types.specs.declared.ids.Oid.{Oid}
use Rattle.base_types.specs.declared.row.Row.{Row}
use Rattle.base_types.specs.declared.row.Row.TheVariants as rows
use Rattle.base_types.specs.declared.row.ConKind.TheVariants as kinds
use Rattle.base_types.specs.declared.scan.Purpose.{Purpose}
use Rattle.base_types.specs.declared.scan.Purpose.TheVariants as scans
use Rattle.base_types.specs.Scans.{same_oid, selects, scan_of, put_in_order}
use Rattle.row_visibility.specs.declared.version.Version.{Version}
use Rattle.history_model.specs.Covered.{scans_of}

-- the rows that a scan asks for of the versions that pass a test
abbrev pub asked : Purpose → (Version → Bool) → List Version → List Row
asked scan seen versions = filter (selects scan) (map (λ v. v.row) (filter seen versions))

abbrev pub asked_first : Bool → Bool → Row → List Row → List Row
asked_first true true row rest = row ∷ rest
asked_first seen wanted row rest = rest

pub asked-more : (scan : Purpose) (seen : Version → Bool) (v : Version) (vs : List Version) → asked scan seen (v ∷ vs) ≡ asked_first (seen v) (selects scan v.row) v.row (asked scan seen vs)
asked-more scan seen v vs = by_tests (seen v) (selects scan v.row) refl refl
  where
    by_tests : (s w : Bool) → seen v ≡ s → selects scan v.row ≡ w → asked scan seen (v ∷ vs) ≡ asked_first s w v.row (asked scan seen vs)
    by_tests true true is wanted = simp is (simp wanted)
    by_tests true false is wanted = simp is (simp wanted)
    by_tests false w is wanted = simp is

pub first_same : (s t w : Bool) (row : Row) (xs ys : List Row) → (w ≡ true → s ≡ t) → xs ≡ ys → asked_first s w row xs ≡ asked_first t w row ys
first_same true true true row xs ys same rest = ap (λ zs. row ∷ zs) rest
first_same true false true row xs ys same rest = absurd (let e : true ≡ false = same refl in cc)
first_same false true true row xs ys same rest = absurd (let e : false ≡ true = same refl in cc)
first_same false false true row xs ys same rest = rest
first_same true true false row xs ys same rest = rest
first_same true false false row xs ys same rest = rest
first_same false true false row xs ys same rest = rest
first_same false false false row xs ys same rest = rest

-- two tests that agree on the versions that the scan asks for
pub asked-same : (scan : Purpose) (f g : Version → Bool) (vs : List Version) → AllByRecursion (λ v. selects scan v.row ≡ true → f v ≡ g v) vs → asked scan f vs ≡ asked scan g vs
asked-same scan f g [] same = refl
asked-same scan f g (v ∷ vs) same = asked-more scan f v vs ∙ first_same (f v) (g v) (selects scan v.row) v.row (asked scan f vs) (asked scan g vs) same.0 (asked-same scan f g vs same.1) ∙ sym (asked-more scan g v vs)

-- a scan's answer goes by what is asked of the versions alone
pub answer-same : (scan : Purpose) (f g : Version → Bool) (vs : List Version) → AllByRecursion (λ v. selects scan v.row ≡ true → f v ≡ g v) vs
    → scan_of scan (map (λ v. v.row) (filter f vs)) ≡ scan_of scan (map (λ v. v.row) (filter g vs))
answer-same scan f g vs same = ap (fold (put_in_order scan) []) (asked-same scan f g vs same)

pub bytes_same : (xs ys : List ℕ) → bytes_eq xs ys ≡ true → xs ≡ ys
bytes_same xs ys is = (bytes_eq-Decides xs ys).0 is

pub oid_eq : (a b : Oid) → same_oid a b ≡ true → a ≡ b
oid_eq a b is = let e : a.0 ≡ b.0 = eqb-true a.0 b.0 is in ap {B = Oid} (λ n. record { 0 = n }) e

-- a scan that asks for a row is among the scans that give it
pub scan_in : (P : Purpose → Bool) (d : Purpose) (row : Row) → selects d row ≡ true → list_all P (scans_of row) ≡ true → P d ≡ true
scan_in P (scans.RelName name) (rows.Class oid own kind fill) is all = subst (λ x. P (scans.RelName x) ≡ true) (bytes_same own name is) (and_parts (P (scans.RelName own)) _ all).0
scan_in P (scans.RelOid rel) (rows.Class oid own kind fill) is all = subst (λ x. P (scans.RelOid x) ≡ true) (oid_eq oid rel is) (and_parts (P (scans.RelOid oid)) _ (and_parts (P (scans.RelName own)) _ all).1).0
scan_in P (scans.Class rel) (rows.Class oid own kind fill) is all = subst (λ x. P (scans.Class x) ≡ true) (oid_eq oid rel is) (and_parts (P (scans.Class oid)) _ (and_parts (P (scans.RelOid oid)) _ (and_parts (P (scans.RelName own)) _ all).1).1).0
scan_in P (scans.AttName rel name) (rows.Att of num own col_type stat live) is all =
    let parts = and_parts (same_oid of rel) (bytes_eq own name) is in
    subst (λ x. P (scans.AttName x name) ≡ true) (oid_eq of rel parts.0) (subst (λ x. P (scans.AttName of x) ≡ true) (bytes_same own name parts.1) (and_parts (P (scans.AttName of own)) _ all).0)
scan_in P (scans.AttList rel) (rows.Att of num own col_type stat live) is all = subst (λ x. P (scans.AttList x) ≡ true) (oid_eq of rel is) (and_parts (P (scans.AttList of)) _ (and_parts (P (scans.AttName of own)) _ all).1).0
scan_in P (scans.Attribute rel) (rows.Att of num own col_type stat live) is all = subst (λ x. P (scans.Attribute x) ≡ true) (oid_eq of rel is) (and_parts (P (scans.Attribute of)) _ (and_parts (P (scans.AttList of)) _ (and_parts (P (scans.AttName of own)) _ all).1).1).0
scan_in P (scans.AttrDef rel) (rows.Def oid of num word) is all = subst (λ x. P (scans.AttrDef x) ≡ true) (oid_eq of rel is) (and_parts (P (scans.AttrDef of)) _ all).0
scan_in P (scans.Index rel) (rows.Ind index table state nums) is all = subst (λ x. P (scans.Index x) ≡ true) (oid_eq table rel is) (and_parts (P (scans.Index table)) _ all).0
scan_in P (scans.IndexRow rel) (rows.Ind index table state nums) is all = subst (λ x. P (scans.IndexRow x) ≡ true) (oid_eq index rel is) (and_parts (P (scans.IndexRow index)) _ (and_parts (P (scans.Index table)) _ all).1).0
scan_in P (scans.Constraint rel) (rows.Con oid of own valid (kinds.Foreign num refrel refnum)) is all = by_side (or_cases (same_oid of rel) (same_oid refrel rel) is)
  where
    by_side : (same_oid of rel ≡ true) ⊎ (same_oid refrel rel ≡ true) → P (scans.Constraint rel) ≡ true
    by_side (inl own') = subst (λ x. P (scans.Constraint x) ≡ true) (oid_eq of rel own') (and_parts (P (scans.Constraint of)) _ all).0
    by_side (inr refers) = subst (λ x. P (scans.Constraint x) ≡ true) (oid_eq refrel rel refers) (and_parts (P (scans.Constraint refrel)) _ (and_parts (P (scans.Constraint of)) _ all).1).0
scan_in P (scans.Constraint rel) (rows.Con oid of own valid (kinds.Check text)) is all = subst (λ x. P (scans.Constraint x) ≡ true) (oid_eq of rel (only (same_oid of rel) is)) (and_parts (P (scans.Constraint of)) _ all).0
  where
    only : (t : Bool) → (t || false) ≡ true → t ≡ true
    only true h = refl
    only false h = h
scan_in P (scans.Trigger rel) (rows.Trg oid of own on) is all = subst (λ x. P (scans.Trigger x) ≡ true) (oid_eq of rel is) (and_parts (P (scans.Trigger of)) _ all).0
scan_in P d row is all = absurd (cc)
