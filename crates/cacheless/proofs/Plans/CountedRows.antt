-- What plans make of a table's constraints goes by what counts of them for it: whether a foreign key of another table is known to hold doesn't.
use Rattle.std.proofs.Common.{◌≡◌, ◌∙◌, ◌||◌, ◌&&◌, ℕ, Bool, true, false, Some, List, [], ◌∷◌, ◌++◌, cond, fold, refl, sym, ap, map}
use Rattle.std.specs.List.{find, list_any, flat_map}
use Rattle.std.specs.Str.{bytes_eq}
use Rattle.std.proofs.Math.Bool.{and-true}
use Rattle.std.proofs.lemmas.Bool.{and_parts}
use Rattle.base_types.specs.RowKeys.{key_of}
use Rattle.base_types.specs.Scans.{same_oid}
use Rattle.base_types.specs.declared.change.Change.TheVariants.{Delete}
use Rattle.base_types.specs.declared.row.ConKind.TheVariants as demands
use Rattle.base_types.specs.declared.row.Row.TheVariants as rows
use Rattle.base_types.specs.declared.scan.Purpose.TheVariants as scans
use Rattle.ddl_effect.specs.Commands.{removing, referred_by, with_relation, referred, is_of_other, is_own_named, uses_column}
use Rattle.history_model.specs.Covered.{counted_for}
use Rattle.cacheless.specs.Types.{Oid, Row}

-- as constraints count for a relation
abbrev pub counted_of : Oid → List Row → List Row
counted_of rel given = map (counted_for (scans.Constraint rel)) given

-- what is made of each row is made of it as it counts
pub same_each : {X : Type 0} (f : Row → X) (rel : Oid) → ((row : Row) → f (counted_for (scans.Constraint rel) row) ≡ f row) → (given : List Row) → map f given ≡ map f (counted_of rel given)
same_each f rel same [] = refl
same_each f rel same (row ∷ given) = λ i. sym (same row) i ∷ same_each f rel same given i

pub same_flat : {X : Type 0} (f : Row → List X) (rel : Oid) → ((row : Row) → f (counted_for (scans.Constraint rel) row) ≡ f row) → (given : List Row) → flat_map f given ≡ flat_map f (counted_of rel given)
same_flat f rel same [] = refl
same_flat f rel same (row ∷ given) = λ i. sym (same row) i ++ same_flat f rel same given i

pub same_any : (p : Row → Bool) (rel : Oid) → ((row : Row) → p (counted_for (scans.Constraint rel) row) ≡ p row) → (given : List Row) → list_any p given ≡ list_any p (counted_of rel given)
same_any p rel same [] = refl
same_any p rel same (row ∷ given) = λ i. sym (same row) i || same_any p rel same given i

-- its key, the relation to which it refers, whose it is, and whether it has a column
key_counted : (rel : Oid) (row : Row) → key_of (counted_for (scans.Constraint rel) row) ≡ key_of row
key_counted rel (rows.Con oid of own valid (demands.Foreign num refrel refnum)) = refl
key_counted rel (rows.Con oid of own valid (demands.Check text)) = refl
key_counted rel row = refl

referred_counted : (rel : Oid) (row : Row) → referred_by (counted_for (scans.Constraint rel) row) ≡ referred_by row
referred_counted rel (rows.Con oid of own valid (demands.Foreign num refrel refnum)) = refl
referred_counted rel (rows.Con oid of own valid (demands.Check text)) = refl
referred_counted rel row = refl

other_counted : (rel : Oid) (row : Row) → is_of_other rel (counted_for (scans.Constraint rel) row) ≡ is_of_other rel row
other_counted rel (rows.Con oid of own valid (demands.Foreign num refrel refnum)) = refl
other_counted rel (rows.Con oid of own valid (demands.Check text)) = refl
other_counted rel row = refl

uses_counted : (rel : Oid) (num : ℕ) (row : Row) → uses_column rel num (counted_for (scans.Constraint rel) row) ≡ uses_column rel num row
uses_counted rel num (rows.Con oid of own valid (demands.Foreign own_num refrel refnum)) = refl
uses_counted rel num (rows.Con oid of own valid (demands.Check text)) = refl
uses_counted rel num row = refl

pub removing_counted : (rel : Oid) (given : List Row) → removing given ≡ removing (counted_of rel given)
removing_counted rel given = same_each (λ row. Delete (key_of row)) rel (λ row. ap Delete (key_counted rel row)) given

pub referred_rows : (rel : Oid) (given : List Row) → referred given ≡ referred (counted_of rel given)
referred_rows rel given = ap (fold with_relation []) (same_flat referred_by rel (referred_counted rel) given)

pub others_counted : (rel : Oid) (given : List Row) → list_any (is_of_other rel) given ≡ list_any (is_of_other rel) (counted_of rel given)
others_counted rel given = same_any (is_of_other rel) rel (other_counted rel) given

pub using_counted : (rel : Oid) (num : ℕ) (given : List Row) → list_any (uses_column rel num) given ≡ list_any (uses_column rel num) (counted_of rel given)
using_counted rel num given = same_any (uses_column rel num) rel (uses_counted rel num) given

-- a table's own constraint counts as it is
named_counted : (rel : Oid) (name : List ℕ) (row : Row) → is_own_named rel name (counted_for (scans.Constraint rel) row) ≡ is_own_named rel name row
named_counted rel name (rows.Con oid of own valid (demands.Foreign num refrel refnum)) = refl
named_counted rel name (rows.Con oid of own valid (demands.Check text)) = refl
named_counted rel name row = refl

own_counted : (rel : Oid) (name : List ℕ) (row : Row) → is_own_named rel name row ≡ true → counted_for (scans.Constraint rel) row ≡ row
own_counted rel name (rows.Con oid of own valid (demands.Foreign num refrel refnum)) is =
    ap (λ v. rows.Con oid of own v (demands.Foreign num refrel refnum)) (ap (λ t. valid && t) (and_parts (same_oid of rel) (bytes_eq own name) is).0 ∙ and-true valid)
own_counted rel name (rows.Con oid of own valid (demands.Check text)) is = refl
own_counted rel name row is = refl

pub own_found : (rel : Oid) (name : List ℕ) (given : List Row) → find (is_own_named rel name) given ≡ find (is_own_named rel name) (counted_of rel given)
own_found rel name [] = refl
own_found rel name (row ∷ given) = by_test (is_own_named rel name row) refl (own_found rel name given) ∙ ap (λ t. cond t (Some (counted_for (scans.Constraint rel) row)) (find (is_own_named rel name) (counted_of rel given))) (sym (named_counted rel name row))
  where
    by_test : (t : Bool) → is_own_named rel name row ≡ t → find (is_own_named rel name) given ≡ find (is_own_named rel name) (counted_of rel given)
        → cond t (Some row) (find (is_own_named rel name) given) ≡ cond t (Some (counted_for (scans.Constraint rel) row)) (find (is_own_named rel name) (counted_of rel given))
    by_test true is more = ap Some (sym (own_counted rel name row is))
    by_test false is more = more
