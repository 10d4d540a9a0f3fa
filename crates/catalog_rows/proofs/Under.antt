-- Where a row is listed: at the place of its key, and at those of the scans that ask for it, each once.
use Rattle.std.proofs.Common.{◌≡◌, ◌==◌, ◌||◌, ◌&&◌, ◌∙◌, ℕ, Bool, if◌then◌else◌, true, false, Some, None, List, [], nat_eq, eqb-true, eq-eqb, sym, ap, refl, rules, arith}
use Rattle.std.specs.Cmp.{IsEquivalence}
use Rattle.std.specs.Cmp.Lexicographic.{pointwise}
use Rattle.std.specs.Cmp.Rules.{comparing}
use Rattle.std.specs.Ordering.{on, eq_of_both}
use Rattle.std.specs.Str.{bytes_eq}
use Rattle.std.proofs.lemmas.Bool.{and_parts}
use Rattle.base_types.specs.declared.row.ConKind.{ConKind}
use Rattle.base_types.specs.declared.row.ConKind.TheVariants as kinds
use Rattle.base_types.specs.declared.row.Row.TheVariants as rows
use Rattle.base_types.specs.declared.row_key.RowKey.TheVariants as keys
use Rattle.base_types.specs.declared.scan.Purpose.TheVariants as scans
use Rattle.base_types.specs.RowKeys.{key_of, same_key}
use Rattle.base_types.specs.Scans.{same_oid, selects, refers_to}
use Rattle.catalog_rows.specs.Types.{Oid, Row, RowKey, Purpose}
use Rattle.catalog_rows.specs.Store.{is_named}
use Rattle.catalog_rows.specs.declared.place.Place.{Place}
use Rattle.catalog_rows.specs.Places.{kind_number, same_place, key_place, scan_place, relation_place, owner_place, other_place, referred_place, is_place, is_under}

pub place_laws : IsEquivalence (eq_of_both (on (λ (p : Place). kind_number p.kind) nat_eq) (eq_of_both (on (λ p. p.name) (pointwise nat_eq)) (eq_of_both (on (λ p. p.column) nat_eq) (on (λ p. p.oid) nat_eq))))
place_laws = search (comparing, rules)

or_none : (x : Bool) → x ≡ (x || (false || false))
or_none false = refl
or_none true = refl

and_none : (x : Bool) → x ≡ (x && true)
and_none false = refl
and_none true = refl

and_swap : (x y : Bool) → (x && y) ≡ (y && x)
and_swap false false = refl
and_swap false true = refl
and_swap true false = refl
and_swap true true = refl

mid_none : (x : Bool) → x ≡ (false || (x || false))
mid_none false = refl
mid_none true = refl

referred : (of rel : Oid) (what : ConKind) → (same_oid of rel || refers_to what rel) ≡ (false || (same_oid of rel || is_place (referred_place of what) (scan_place (scans.Constraint rel))))
referred of rel (kinds.Check text) = refl
referred of rel (kinds.Foreign num refrel refnum) = by (same_oid of refrel) refl
  where
    one : same_oid of refrel ≡ true → (t : Bool) → same_oid of rel ≡ t → (same_oid of rel || same_oid refrel rel) ≡ (same_oid of rel || false)
    one same true is = ap (λ t. t || same_oid refrel rel) is ∙ sym (ap (λ t. t || false) is)
    one same false is = ap (λ n. same_oid of rel || (n == rel.0)) (sym (eqb-true of.0 refrel.0 same)) ∙ ap (λ t. t || t) is ∙ sym (ap (λ t. t || false) is)

    by : (t : Bool) → same_oid of refrel ≡ t → (same_oid of rel || refers_to (kinds.Foreign num refrel refnum) rel) ≡ (false || (same_oid of rel || is_place (referred_place of (kinds.Foreign num refrel refnum)) (scan_place (scans.Constraint rel))))
    by true same = one same (same_oid of rel) refl ∙ sym (ap (λ t. same_oid of rel || is_place (if t then None else Some (scan_place (scans.Constraint refrel))) (scan_place (scans.Constraint rel))) same)
    by false other = sym (ap (λ t. same_oid of rel || is_place (if t then None else Some (scan_place (scans.Constraint refrel))) (scan_place (scans.Constraint rel))) other)

not_referred : (of : Oid) (what : ConKind) (place : Place) → nat_eq 9 (kind_number place.kind) ≡ false → is_place (referred_place of what) place ≡ false
not_referred of (kinds.Check text) place other = refl
not_referred of (kinds.Foreign num refrel refnum) place other = by (same_oid of refrel) refl
  where
    by : (t : Bool) → same_oid of refrel ≡ t → is_place (referred_place of (kinds.Foreign num refrel refnum)) place ≡ false
    by true same = ap (λ t. is_place (if t then None else Some (scan_place (scans.Constraint refrel))) place) same
    by false apart = ap (λ t. is_place (if t then None else Some (scan_place (scans.Constraint refrel))) place) apart ∙ ap (λ t. t && (pointwise nat_eq [] place.name && ((0 == place.column) && (refrel.0 == place.oid)))) other

-- a scan asks for the rows that are listed at its place
pub selects_under : (purpose : Purpose) (row : Row) → selects purpose row ≡ is_under (scan_place purpose) row
selects_under (scans.RelName name) (rows.Class oid own kind fill) = and_none (bytes_eq own name)
selects_under (scans.RelOid rel) (rows.Class oid own kind fill) = or_none (same_oid oid rel)
selects_under (scans.Class rel) (rows.Class oid own kind fill) = or_none (same_oid oid rel)
selects_under (scans.AttName rel name) (rows.Att of num own col_type stat live) = and_swap (same_oid of rel) (bytes_eq own name)
selects_under (scans.AttList rel) (rows.Att of num own col_type stat live) = mid_none (same_oid of rel)
selects_under (scans.Attribute rel) (rows.Att of num own col_type stat live) = mid_none (same_oid of rel)
selects_under (scans.AttrDef rel) (rows.Def oid of num word) = mid_none (same_oid of rel)
selects_under (scans.Constraint rel) (rows.Con oid of own valid what) = referred of rel what
selects_under (scans.Index rel) (rows.Ind index table state nums) = mid_none (same_oid table rel)
selects_under (scans.IndexRow rel) (rows.Ind index table state nums) = or_none (same_oid index rel)
selects_under (scans.Trigger rel) (rows.Trg oid of own runs) = mid_none (same_oid of rel)
selects_under (scans.RelName name) (rows.Con oid of own valid what) = sym (not_referred of what (scan_place (scans.RelName name)) refl)
selects_under (scans.RelOid rel) (rows.Con oid of own valid what) = sym (not_referred of what (scan_place (scans.RelOid rel)) refl)
selects_under (scans.Class rel) (rows.Con oid of own valid what) = sym (not_referred of what (scan_place (scans.Class rel)) refl)
selects_under (scans.AttName rel name) (rows.Con oid of own valid what) = sym (not_referred of what (scan_place (scans.AttName rel name)) refl)
selects_under (scans.AttList rel) (rows.Con oid of own valid what) = sym (not_referred of what (scan_place (scans.AttList rel)) refl)
selects_under (scans.Attribute rel) (rows.Con oid of own valid what) = sym (not_referred of what (scan_place (scans.Attribute rel)) refl)
selects_under (scans.AttrDef rel) (rows.Con oid of own valid what) = sym (not_referred of what (scan_place (scans.AttrDef rel)) refl)
selects_under (scans.Index rel) (rows.Con oid of own valid what) = sym (not_referred of what (scan_place (scans.Index rel)) refl)
selects_under (scans.IndexRow rel) (rows.Con oid of own valid what) = sym (not_referred of what (scan_place (scans.IndexRow rel)) refl)
selects_under (scans.Trigger rel) (rows.Con oid of own valid what) = sym (not_referred of what (scan_place (scans.Trigger rel)) refl)
selects_under purpose row = refl

-- a place is one with itself
place_itself : (place : Place) → same_place place place ≡ true
place_itself = place_laws.refl

-- a row is listed at the place of its key
own_under : (row : Row) (place : Place) → place ≡ key_place (key_of row) → is_under place row ≡ true
own_under row place is = ap (λ p. is_under p row) is ∙ ap (λ b. b || (is_place (owner_place row) (key_place (key_of row)) || is_place (other_place row) (key_place (key_of row)))) (place_itself (key_place (key_of row)))

-- one key has one place
same_key_place : (a b : RowKey) → same_key a b ≡ true → key_place a ≡ key_place b
same_key_place (keys.Class a) (keys.Class b) same = ap (λ n. key_place (keys.Class (record { 0 = n }))) (eqb-true a.0 b.0 same)
same_key_place (keys.Att a num) (keys.Att b other) same =
    let parts = and_parts (a.0 == b.0) (num == other) same in
    ap (λ n. key_place (keys.Att (record { 0 = n }) num)) (eqb-true a.0 b.0 parts.0) ∙ ap (λ n. key_place (keys.Att b n)) (eqb-true num other parts.1)
same_key_place (keys.Def a) (keys.Def b) same = ap (λ n. key_place (keys.Def (record { 0 = n }))) (eqb-true a.0 b.0 same)
same_key_place (keys.Ind a) (keys.Ind b) same = ap (λ n. key_place (keys.Ind (record { 0 = n }))) (eqb-true a.0 b.0 same)
same_key_place (keys.Con a) (keys.Con b) same = ap (λ n. key_place (keys.Con (record { 0 = n }))) (eqb-true a.0 b.0 same)
same_key_place (keys.Trg a) (keys.Trg b) same = ap (λ n. key_place (keys.Trg (record { 0 = n }))) (eqb-true a.0 b.0 same)
same_key_place a b same = let never : false ≡ true = same in absurd (cc)

pub key_under : (key : RowKey) (row : Row) → same_key (key_of row) key ≡ true → is_under (key_place key) row ≡ true
key_under key row same = own_under row (key_place key) (sym (same_key_place (key_of row) key same))

-- a relation with a name is listed at the place of the name
pub name_under : (name : List ℕ) (row : Row) → is_named name row ≡ true → is_under (relation_place name) row ≡ true
name_under name (rows.Class oid own kind fill) is = sym (and_none (bytes_eq own name)) ∙ is
name_under name row is = let never : false ≡ true = is in absurd (cc)

-- at most one of two places is a third one
kind_of : (p place : Place) → same_place p place ≡ true → kind_number p.kind ≡ kind_number place.kind
kind_of p place is = eqb-true (kind_number p.kind) (kind_number place.kind) (and_parts (kind_number p.kind == kind_number place.kind) _ is).0

oid_of : (p place : Place) → same_place p place ≡ true → p.oid ≡ place.oid
oid_of p place is =
    let behind = (and_parts (kind_number p.kind == kind_number place.kind) _ is).1 in
    eqb-true p.oid place.oid (and_parts (p.column == place.column) (p.oid == place.oid) (and_parts (pointwise nat_eq p.name place.name) _ behind).1).1

not_both : (x y : Bool) → (x ≡ true → y ≡ true → ⊥) → (x && y) ≡ false
not_both false y never = refl
not_both true false never = refl
not_both true true never = absurd (never refl refl)

no_owner : (x : Bool) → (x && false) ≡ false
no_owner false = refl
no_owner true = refl

other_kinds : (p q place : Place) → (kind_number p.kind ≡ kind_number q.kind → ⊥) → (same_place p place && same_place q place) ≡ false
other_kinds p q place apart = not_both (same_place p place) (same_place q place) (λ a b. apart (kind_of p place a ∙ sym (kind_of q place b)))

other_oid : (p q place : Place) → (p.oid ≡ q.oid → ⊥) → (same_place p place && same_place q place) ≡ false
other_oid p q place apart = not_both (same_place p place) (same_place q place) (λ a b. apart (oid_of p place a ∙ sym (oid_of q place b)))

pub owner_apart : (row : Row) (place : Place) → (same_place (key_place (key_of row)) place && is_place (owner_place row) place) ≡ false
owner_apart (rows.Class oid own kind fill) place = no_owner _
owner_apart (rows.Att of num own col_type stat live) place = other_kinds (key_place (keys.Att of num)) (scan_place (scans.Attribute of)) place (λ e. absurd (omega (arith, e)))
owner_apart (rows.Def oid of num word) place = other_kinds (key_place (keys.Def oid)) (scan_place (scans.AttrDef of)) place (λ e. absurd (omega (arith, e)))
owner_apart (rows.Ind index table state nums) place = other_kinds (key_place (keys.Ind index)) (scan_place (scans.Index table)) place (λ e. absurd (omega (arith, e)))
owner_apart (rows.Con oid of own valid what) place = other_kinds (key_place (keys.Con oid)) (scan_place (scans.Constraint of)) place (λ e. absurd (omega (arith, e)))
owner_apart (rows.Trg oid of own runs) place = other_kinds (key_place (keys.Trg oid)) (scan_place (scans.Trigger of)) place (λ e. absurd (omega (arith, e)))

referred_apart : (p : Place) (of : Oid) (what : ConKind) (place : Place) → (kind_number p.kind ≡ 9 → ⊥) → (same_place p place && is_place (referred_place of what) place) ≡ false
referred_apart p of (kinds.Check text) place apart = no_owner _
referred_apart p of (kinds.Foreign num refrel refnum) place apart = by (same_oid of refrel) refl
  where
    by : (t : Bool) → same_oid of refrel ≡ t → (same_place p place && is_place (referred_place of (kinds.Foreign num refrel refnum)) place) ≡ false
    by true same = ap (λ t. same_place p place && is_place (if t then None else Some (scan_place (scans.Constraint refrel))) place) same ∙ no_owner _
    by false other = ap (λ t. same_place p place && is_place (if t then None else Some (scan_place (scans.Constraint refrel))) place) other ∙ other_kinds p (scan_place (scans.Constraint refrel)) place apart

pub other_apart : (row : Row) (place : Place) → (same_place (key_place (key_of row)) place && is_place (other_place row) place) ≡ false
other_apart (rows.Class oid own kind fill) place = other_kinds (key_place (keys.Class oid)) (relation_place own) place (λ e. absurd (omega (arith, e)))
other_apart (rows.Att of num own col_type stat live) place = other_kinds (key_place (keys.Att of num)) (scan_place (scans.AttName of own)) place (λ e. absurd (omega (arith, e)))
other_apart (rows.Def oid of num word) place = no_owner _
other_apart (rows.Ind index table state nums) place = no_owner _
other_apart (rows.Con oid of own valid what) place = referred_apart (key_place (keys.Con oid)) of what place (λ e. absurd (omega (arith, e)))
other_apart (rows.Trg oid of own runs) place = no_owner _

referred_other : (of : Oid) (what : ConKind) (place : Place) → (same_place (scan_place (scans.Constraint of)) place && is_place (referred_place of what) place) ≡ false
referred_other of (kinds.Check text) place = no_owner _
referred_other of (kinds.Foreign num refrel refnum) place = by (same_oid of refrel) refl
  where
    by : (t : Bool) → same_oid of refrel ≡ t → (same_place (scan_place (scans.Constraint of)) place && is_place (referred_place of (kinds.Foreign num refrel refnum)) place) ≡ false
    by true same = ap (λ t. same_place (scan_place (scans.Constraint of)) place && is_place (if t then None else Some (scan_place (scans.Constraint refrel))) place) same ∙ no_owner _
    by false other = ap (λ t. same_place (scan_place (scans.Constraint of)) place && is_place (if t then None else Some (scan_place (scans.Constraint refrel))) place) other
        ∙ other_oid (scan_place (scans.Constraint of)) (scan_place (scans.Constraint refrel)) place (λ e. let never : true ≡ false = sym (eq-eqb of.0 refrel.0 e) ∙ other in absurd (cc))

pub owner_other : (row : Row) (place : Place) → (is_place (owner_place row) place && is_place (other_place row) place) ≡ false
owner_other (rows.Class oid own kind fill) place = refl
owner_other (rows.Att of num own col_type stat live) place = other_kinds (scan_place (scans.Attribute of)) (scan_place (scans.AttName of own)) place (λ e. absurd (omega (arith, e)))
owner_other (rows.Def oid of num word) place = no_owner _
owner_other (rows.Ind index table state nums) place = no_owner _
owner_other (rows.Con oid of own valid what) place = referred_other of what place
owner_other (rows.Trg oid of own runs) place = no_owner _
