-- What has a text keeps one: rows, keys and drafts of which plans are made, and what goes on after a lookup or a read.
use Rattle.std.proofs.Common.{◌≡◌, ◌≤◌, ℕ, ℤ, negsuc, Bool, true, false, not, Option, Some, None, List, [], ◌∷◌, ◌++◌, ◌&&◌, inl, inr, refl, nat_le, int_lt, nat_abs, arith}
use Rattle.std.specs.Prelude.{IfSome, FitsSigned, cond, fold}
use Rattle.std.specs.Int.{w32, int_min}
use Rattle.std.specs.List.{AllByRecursion, find, flat_map, position_or_len, list_any}
use Rattle.std.proofs.lemmas.Bool.{and_parts, leb-true}
use Rattle.std.proofs.lemmas.Int.{fits_signed_from_abs}
use Rattle.base_types.specs.Commands.{IsShortNumber}
use Rattle.base_types.specs.Names.{IsName, IsAnyName, dropped_name}
use Rattle.base_types.specs.RowKeys.{key_of}
use Rattle.base_types.specs.Scans.{same_oid}
use Rattle.base_types.specs.declared.change.Change.{Change}
use Rattle.base_types.specs.declared.dropped.TheConstants.{MOST_COLUMNS}
use Rattle.base_types.specs.declared.row.ConKind.TheVariants as kinds
use Rattle.base_types.specs.declared.row.Row.TheVariants as rows
use Rattle.event_kinds.specs.Entries.{IsNumber, IsRow, IsKey}
use Rattle.ddl_effect.specs.Plans.{Plan}
use Rattle.ddl_effect.specs.Commands.{if_passes, found, looking_up, opening, writing, forcing, if_closed, altering, altering_index, locking_all, column_there, column_free, with_column, without_column, column_number, deleting, removing, is_table, is_index}
use Rattle.ddl_effect.specs.Commands.{name_dropped, as_dropped, with_name, with_stat, most_stat, with_fill, with_own_name, referred_by, with_relation, referred, index_of, dropped_index, oid_before, put_by_oid, by_oid}
use Rattle.ddl_effect.specs.Opens.{has_open}
use Rattle.history_model.proofs.Every.{every-append}
use Rattle.history_model.proofs.InOrder.{every_inserted}
use Rattle.cacheless.specs.Types.{Oid, Mode, Kind, Row, Draft, CommandError, OpenRelation}
use Rattle.cacheless.specs.Typed.{IsOid, AreTypedRows, IsTypedChange, IsTypedDraft, IsTypedPlan}

-- what holds of each holds of the one that is found
pub found_each : {X : Type 0} (P : X → Type 0) (p : X → Bool) (xs : List X) → AllByRecursion P xs → IfSome (find p xs) P
found_each P p [] all = tt
found_each {X} P p (x ∷ xs) all = by_test (p x) (found_each P p xs all.1)
  where
    by_test : (t : Bool) → IfSome (find p xs) P → IfSome (cond t (Some x) (find p xs)) P
    by_test true rest = all.0
    by_test false rest = rest

-- ---- rows

pub key_typed : (row : Row) → IsRow row → IsKey (key_of row)
key_typed (rows.Class oid name kind fill) is = is.0
key_typed (rows.Att rel num name col_type stat live) is = (is.0, is.1)
key_typed (rows.Def oid rel num word) is = is.0
key_typed (rows.Ind index table state nums) is = is.0
key_typed (rows.Con oid rel name valid what) is = is.0
key_typed (rows.Trg oid rel name on) is = is.0

pub number_typed : (row : Row) → IsRow row → IsNumber (column_number row)
number_typed (rows.Att rel num name col_type stat live) is = is.1
number_typed row is = omega arith

dropped_typed : (num : ℕ) (own : List ℕ) → IsAnyName own → IsAnyName (name_dropped num own)
dropped_typed num own is = by_test (nat_le 1 num && nat_le num MOST_COLUMNS) refl
  where
    by_test : (t : Bool) → (nat_le 1 num && nat_le num MOST_COLUMNS) ≡ t → IsAnyName (cond t (dropped_name num) own)
    by_test true few = let parts = and_parts (nat_le 1 num) (nat_le num MOST_COLUMNS) few in inr (num, record { some = leb-true 1 num parts.0; most = leb-true num MOST_COLUMNS parts.1; is = refl })
    by_test false few = is

pub as_dropped_typed : (row : Row) → IsRow row → IsRow (as_dropped row)
as_dropped_typed (rows.Att rel num own col_type stat live) is = (is.0, is.1, dropped_typed num own is.2, is.3)
as_dropped_typed (rows.Class oid name kind fill) is = is
as_dropped_typed (rows.Def oid rel num word) is = is
as_dropped_typed (rows.Ind index table state nums) is = is
as_dropped_typed (rows.Con oid rel name valid what) is = is
as_dropped_typed (rows.Trg oid rel name on) is = is

pub with_name_typed : (to : List ℕ) (row : Row) → IsName to → IsRow row → IsRow (with_name to row)
with_name_typed to (rows.Att rel num own col_type stat live) named is = (is.0, is.1, inl named, is.3)
with_name_typed to (rows.Class oid name kind fill) named is = is
with_name_typed to (rows.Def oid rel num word) named is = is
with_name_typed to (rows.Ind index table state nums) named is = is
with_name_typed to (rows.Con oid rel name valid what) named is = is
with_name_typed to (rows.Trg oid rel name on) named is = is

pub with_own_name_typed : (to : List ℕ) (row : Row) → IsName to → IsRow row → IsRow (with_own_name to row)
with_own_name_typed to (rows.Class oid own kind fill) named is = (is.0, inl named, is.2)
with_own_name_typed to (rows.Att rel num name col_type stat live) named is = is
with_own_name_typed to (rows.Def oid rel num word) named is = is
with_own_name_typed to (rows.Ind index table state nums) named is = is
with_own_name_typed to (rows.Con oid rel name valid what) named is = is
with_own_name_typed to (rows.Trg oid rel name on) named is = is

pub with_fill_typed : (fill : ℕ) (row : Row) → IsNumber fill → IsRow row → IsRow (with_fill fill row)
with_fill_typed fill (rows.Class oid own kind old) short is = (is.0, is.1, short)
with_fill_typed fill (rows.Att rel num name col_type stat live) short is = is
with_fill_typed fill (rows.Def oid rel num word) short is = is
with_fill_typed fill (rows.Ind index table state nums) short is = is
with_fill_typed fill (rows.Con oid rel name valid what) short is = is
with_fill_typed fill (rows.Trg oid rel name on) short is = is

pub with_stat_typed : (stat : ℤ) (row : Row) → FitsSigned w32 stat → IsRow row → IsRow (with_stat stat row)
with_stat_typed stat (rows.Att rel num own col_type old live) fits is = (is.0, is.1, is.2, fits)
with_stat_typed stat (rows.Class oid name kind fill) fits is = is
with_stat_typed stat (rows.Def oid rel num word) fits is = is
with_stat_typed stat (rows.Ind index table state nums) fits is = is
with_stat_typed stat (rows.Con oid rel name valid what) fits is = is
with_stat_typed stat (rows.Trg oid rel name on) fits is = is

-- a statistics target of nine digits at most, or the greatest
pub target_fits : (stat : ℤ) → IsShortNumber (nat_abs stat) → FitsSigned w32 (int_min stat most_stat)
target_fits stat short = by_test (int_lt most_stat stat)
  where
    by_test : (t : Bool) → FitsSigned w32 (cond t most_stat stat)
    by_test true = fits_signed_from_abs w32 most_stat (omega arith)
    by_test false = fits_signed_from_abs w32 stat (omega (arith, short))

-- a new table's, and a new column's
pub new_fits : FitsSigned w32 (negsuc 0)
new_fits = fits_signed_from_abs w32 (negsuc 0) (omega arith)

-- ---- changes

pub deleting_typed : (o : Option Row) → IfSome o IsRow → AllByRecursion IsTypedChange (deleting o)
deleting_typed None is = tt
deleting_typed (Some row) is = (key_typed row is, tt)

pub removing_typed : (given : List Row) → AreTypedRows given → AllByRecursion IsTypedChange (removing given)
removing_typed [] all = tt
removing_typed (row ∷ given) all = (key_typed row all.0, removing_typed given all.1)

index_dropped : (row : Row) → IsRow row → AllByRecursion IsTypedChange (dropped_index row)
index_dropped (rows.Ind index table state nums) is = (is.0, (is.0, tt))
index_dropped (rows.Class oid name kind fill) is = tt
index_dropped (rows.Att rel num name col_type stat live) is = tt
index_dropped (rows.Def oid rel num word) is = tt
index_dropped (rows.Con oid rel name valid what) is = tt
index_dropped (rows.Trg oid rel name on) is = tt

pub indexes_dropped : (given : List Row) → AreTypedRows given → AllByRecursion IsTypedChange (flat_map dropped_index given)
indexes_dropped [] all = tt
indexes_dropped (row ∷ given) all = every-append IsTypedChange (dropped_index row) (flat_map dropped_index given) (index_dropped row all.0) (indexes_dropped given all.1)

put_typed : (given more : List Row) → AreTypedRows given → AreTypedRows more → AreTypedRows (fold put_by_oid given more)
put_typed given [] all also = all
put_typed given (row ∷ more) all also = put_typed (put_by_oid given row) more (every_inserted IsRow given (position_or_len (oid_before row) given) row all also.0) also.1

pub by_oid_typed : (given : List Row) → AreTypedRows given → AreTypedRows (by_oid given)
by_oid_typed given all = put_typed [] given tt all

-- ---- relations

pub index_oids : (given : List Row) → AreTypedRows given → AllByRecursion IsOid (flat_map index_of given)
index_oids [] all = tt
index_oids (row ∷ given) all = every-append IsOid (index_of row) (flat_map index_of given) (of row all.0) (index_oids given all.1)
  where
    of : (r : Row) → IsRow r → AllByRecursion IsOid (index_of r)
    of (rows.Ind index table state nums) is = (is.0, tt)
    of (rows.Class oid name kind fill) is = tt
    of (rows.Att rel num name col_type stat live) is = tt
    of (rows.Def oid rel num word) is = tt
    of (rows.Con oid rel name valid what) is = tt
    of (rows.Trg oid rel name on) is = tt

pub referred_typed : (row : Row) → IsRow row → AllByRecursion IsOid (referred_by row)
referred_typed (rows.Con oid rel own valid (kinds.Foreign num refrel refnum)) is = (is.3.1, tt)
referred_typed (rows.Con oid rel own valid (kinds.Check text)) is = tt
referred_typed (rows.Class oid name kind fill) is = tt
referred_typed (rows.Att rel num name col_type stat live) is = tt
referred_typed (rows.Def oid rel num word) is = tt
referred_typed (rows.Ind index table state nums) is = tt
referred_typed (rows.Trg oid rel name on) is = tt

with_relation_typed : (rels : List Oid) (rel : Oid) → AllByRecursion IsOid rels → IsOid rel → AllByRecursion IsOid (with_relation rels rel)
with_relation_typed rels rel all is = by_test (list_any (same_oid rel) rels)
  where
    by_test : (t : Bool) → AllByRecursion IsOid (cond t rels (rels ++ rel ∷ []))
    by_test true = all
    by_test false = every-append IsOid rels (rel ∷ []) all (is, tt)

relations_typed : (rels more : List Oid) → AllByRecursion IsOid rels → AllByRecursion IsOid more → AllByRecursion IsOid (fold with_relation rels more)
relations_typed rels [] all also = all
relations_typed rels (rel ∷ more) all also = relations_typed (with_relation rels rel) more (with_relation_typed rels rel all also.0) also.1

all_referred : (given : List Row) → AreTypedRows given → AllByRecursion IsOid (flat_map referred_by given)
all_referred [] all = tt
all_referred (row ∷ given) all = every-append IsOid (referred_by row) (flat_map referred_by given) (referred_typed row all.0) (all_referred given all.1)

pub referred_oids : (given : List Row) → AreTypedRows given → AllByRecursion IsOid (referred given)
referred_oids given all = relations_typed [] (flat_map referred_by given) tt (all_referred given all)

-- ---- plans

pub passes_typed : (t : Bool) (error : CommandError) (plan : Plan) → (t ≡ true → IsTypedPlan plan) → IsTypedPlan (if_passes t error plan)
passes_typed true error plan typed = typed refl
passes_typed false error plan typed = tt

pub closed_typed : (opens : List OpenRelation) (rel : Oid) (plan : Plan) → IsTypedPlan plan → IsTypedPlan (if_closed opens rel plan)
closed_typed opens rel plan typed = passes_typed (not (has_open rel opens)) _ plan (λ is. typed)

pub writing_typed : (draft : Draft) → IsTypedDraft draft → IsTypedPlan (writing draft)
writing_typed draft typed = (typed, λ given all. tt)

pub forcing_typed : (changes : List Change) (forced : List Oid) (new_oids : ℕ) → AllByRecursion IsTypedChange changes → AllByRecursion IsOid forced → new_oids ≤ 1 → IsTypedPlan (forcing changes forced new_oids)
forcing_typed changes forced new_oids all also few = writing_typed (record { changes = changes; forced = forced; new_oids = new_oids }) (record { changes = all; forced = also; new = few })

pub found_typed : (name : List ℕ) (rest : Oid → Kind → Plan) → ((rel : Oid) (kind : Kind) → IsOid rel → IsTypedPlan (rest rel kind)) → (given : List Row) → AreTypedRows given → IsTypedPlan (found name rest given)
found_typed name rest typed [] all = tt
found_typed name rest typed (rows.Class oid own kind fill ∷ more) all = typed oid kind all.0.0
found_typed name rest typed (rows.Att rel num own col_type stat live ∷ more) all = tt
found_typed name rest typed (rows.Def oid rel num word ∷ more) all = tt
found_typed name rest typed (rows.Ind index table state nums ∷ more) all = tt
found_typed name rest typed (rows.Con oid rel own valid what ∷ more) all = tt
found_typed name rest typed (rows.Trg oid rel own on ∷ more) all = tt

pub looking_up_typed : (name : List ℕ) (mode : Mode) (rest : Oid → Kind → Plan) → IsName name → ((rel : Oid) (kind : Kind) → IsOid rel → IsTypedPlan (rest rel kind)) → IsTypedPlan (looking_up name mode rest)
looking_up_typed name mode rest named typed = (inl named, found_typed name rest typed)

pub altering_typed : (opens : List OpenRelation) (name : List ℕ) (rest : Oid → Plan) → ((rel : Oid) → IsOid rel → IsTypedPlan (rest rel)) → (rel : Oid) (kind : Kind) → IsOid rel → IsTypedPlan (altering opens name rest rel kind)
altering_typed opens name rest typed rel kind is = passes_typed (is_table kind) _ _ (λ table. closed_typed opens rel (opening rel kind (rest rel)) (is, λ given all. typed rel is))

pub altering_index_typed : (opens : List OpenRelation) (name : List ℕ) (rest : Oid → Plan) → ((rel : Oid) → IsOid rel → IsTypedPlan (rest rel)) → (rel : Oid) (kind : Kind) → IsOid rel → IsTypedPlan (altering_index opens name rest rel kind)
altering_index_typed opens name rest typed rel kind is = passes_typed (is_index kind) _ _ (λ index. closed_typed opens rel (opening rel kind (rest rel)) (is, λ given all. typed rel is))

pub locking_all_typed : (opens : List OpenRelation) (rels : List Oid) (draft : Draft) → AllByRecursion IsOid rels → IsTypedDraft draft → IsTypedPlan (locking_all opens rels draft)
locking_all_typed opens [] draft all typed = writing_typed draft typed
locking_all_typed opens (rel ∷ rels) draft all typed = (all.0, λ given rows. closed_typed opens rel (locking_all opens rels draft) (locking_all_typed opens rels draft all.1 typed))

there_typed : (column : List ℕ) (rest : Row → Plan) → ((row : Row) → IsRow row → IsTypedPlan (rest row)) → (given : List Row) → AreTypedRows given → IsTypedPlan (column_there column rest given)
there_typed column rest typed [] all = tt
there_typed column rest typed (row ∷ more) all = typed row all.0

pub with_column_typed : (rel : Oid) (column : List ℕ) (rest : Row → Plan) → IsOid rel → IsName column → ((row : Row) → IsRow row → IsTypedPlan (rest row)) → IsTypedPlan (with_column rel column rest)
with_column_typed rel column rest is named typed = ((is, inl named), there_typed column rest typed)

free_typed : (column : List ℕ) (plan : Plan) → IsTypedPlan plan → (given : List Row) → AreTypedRows given → IsTypedPlan (column_free column plan given)
free_typed column plan typed [] all = typed
free_typed column plan typed (row ∷ more) all = tt

pub without_column_typed : (rel : Oid) (column : List ℕ) (plan : Plan) → IsOid rel → IsName column → IsTypedPlan plan → IsTypedPlan (without_column rel column plan)
without_column_typed rel column plan is named typed = ((is, inl named), free_typed column plan typed)
