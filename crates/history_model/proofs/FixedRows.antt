-- What a change under a weak mode leaves of a row.
use Rattle.std.proofs.Common.{◌≡◌, ◌∙◌, ℕ, Bool, true, false, Option, None, List, [], ◌==◌, ◌&&◌, refl, ap, negsuc, ℤ}
use Rattle.std.specs.Str.{bytes_eq}
use Rattle.std.specs.Ordering.{int_eq}
use Rattle.std.specs.Option.{option_eq}
use Rattle.std.proofs.lemmas.Bool.{eqb-true, and_parts}
use Rattle.base_types.specs.declared.ids.Oid.{Oid}
use Rattle.base_types.specs.declared.row.Row.{Row}
use Rattle.base_types.specs.declared.kind.Kind.{Kind}
use Rattle.base_types.specs.declared.col_type.ColType.{ColType}
use Rattle.base_types.specs.declared.kind.Kind.TheVariants.{Table, Index}
use Rattle.base_types.specs.declared.col_type.ColType.TheVariants as types
use Rattle.base_types.specs.declared.row.Row.TheVariants as rows
use Rattle.base_types.specs.Words.{kind_word, type_word, live_word}
use Rattle.base_types.specs.Scans.{same_oid}
use Rattle.history_model.specs.Changing.{name_allowed}
use Rattle.history_model.proofs.Asking.{bytes_same, oid_eq}

-- the name of a relation, but for that of an index, which a weak mode may change
abbrev pub firm_name : Kind → List ℕ → List ℕ
firm_name Table own = own
firm_name Index own = []

-- a row but for what a weak mode may change: a relation's fillfactor, an index's name, a column's statistics target
abbrev pub fixed : Row → Row
fixed (rows.Class oid own kind fill) = rows.Class oid (firm_name kind own) kind None
fixed (rows.Att rel num own col_type stat live) = rows.Att rel num own col_type (negsuc 0) live
fixed row = row

-- a weak mode may change something of the row
abbrev pub is_loose : Row → Bool
is_loose (rows.Class oid own kind fill) = true
is_loose (rows.Att rel num own col_type stat live) = true
is_loose row = false

kind_same : (a b : Kind) → bytes_eq (kind_word a) (kind_word b) ≡ true → a ≡ b
kind_same Table Table is = refl
kind_same Index Index is = refl
kind_same a b is = absurd (cc)

live_same : (a b : Bool) → bytes_eq (live_word a) (live_word b) ≡ true → a ≡ b
live_same true true is = refl
live_same false false is = refl
live_same a b is = absurd (cc)

type_same : (a b : ColType) → bytes_eq (type_word a) (type_word b) ≡ true → a ≡ b
type_same types.Bool types.Bool is = refl
type_same types.Int2 types.Int2 is = refl
type_same types.Int4 types.Int4 is = refl
type_same types.Int8 types.Int8 is = refl
type_same types.Text types.Text is = refl
type_same types.Bytea types.Bytea is = refl
type_same types.Date types.Date is = refl
type_same types.Timestamptz types.Timestamptz is = refl
type_same a b is = absurd (cc)

firm_same : (k : Kind) (own name : List ℕ) → name_allowed k own name ≡ name → firm_name k own ≡ firm_name k name
firm_same Table own name same = same
firm_same Index own name same = refl

pub class_fixed : (a b : Oid) (own name : List ℕ) (k l : Kind) (fill fill' : Option ℕ) → (same_oid a b && bytes_eq (name_allowed k own name) name && bytes_eq (kind_word k) (kind_word l) && option_eq (λ x y. x == y) fill fill') ≡ true
    → rows.Class a (firm_name k own) k None ≡ rows.Class b (firm_name l name) l None
class_fixed a b own name k l fill fill' is =
    let p = and_parts (same_oid a b && bytes_eq (name_allowed k own name) name && bytes_eq (kind_word k) (kind_word l)) (option_eq (λ x y. x == y) fill fill') is in
    let q = and_parts (same_oid a b && bytes_eq (name_allowed k own name) name) (bytes_eq (kind_word k) (kind_word l)) p.0 in
    let r = and_parts (same_oid a b) (bytes_eq (name_allowed k own name) name) q.0 in
    ap (λ o. rows.Class o (firm_name k own) k None) (oid_eq a b r.0) ∙ ap (λ n. rows.Class b n k None) (firm_same k own name (bytes_same (name_allowed k own name) name r.1)) ∙ ap (λ x. rows.Class b (firm_name x name) x None) (kind_same k l q.1)

pub column_fixed : (a b : Oid) (n m : ℕ) (own name : List ℕ) (s t : ColType) (stat stat' : ℤ) (l l' : Bool)
    → (same_oid a b && (n == m) && bytes_eq own name && bytes_eq (type_word s) (type_word t) && int_eq stat stat' && bytes_eq (live_word l) (live_word l')) ≡ true → rows.Att a n own s (negsuc 0) l ≡ rows.Att b m name t (negsuc 0) l'
column_fixed a b n m own name s t stat stat' l l' is =
    let p = and_parts (same_oid a b && (n == m) && bytes_eq own name && bytes_eq (type_word s) (type_word t) && int_eq stat stat') (bytes_eq (live_word l) (live_word l')) is in
    let q = and_parts (same_oid a b && (n == m) && bytes_eq own name && bytes_eq (type_word s) (type_word t)) (int_eq stat stat') p.0 in
    let r = and_parts (same_oid a b && (n == m) && bytes_eq own name) (bytes_eq (type_word s) (type_word t)) q.0 in
    let u = and_parts (same_oid a b && (n == m)) (bytes_eq own name) r.0 in
    let v = and_parts (same_oid a b) (n == m) u.0 in
    ap (λ o. rows.Att o n own s (negsuc 0) l) (oid_eq a b v.0) ∙ ap (λ k. rows.Att b k own s (negsuc 0) l) (eqb-true n m v.1) ∙ ap (λ x. rows.Att b m x s (negsuc 0) l) (bytes_same own name u.1)
    ∙ ap (λ x. rows.Att b m name x (negsuc 0) l) (type_same s t r.1) ∙ ap (λ x. rows.Att b m name t (negsuc 0) x) (live_same l l' p.1)
