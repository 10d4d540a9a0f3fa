-- The plans of commands on constraints, triggers, indexes and defaults, and those that lock further relations, are plans under locks.
use Rattle.std.proofs.Common.{◌≡◌, inl, inr, ℕ, Bool, true, false, Option, Some, None, List, [], ◌∷◌, ◌++◌, refl, ap, subst, map, cond, fold, length, not, arith}
use Rattle.std.specs.Prelude.{if◌then◌else◌}
use Rattle.std.specs.List.{AllByRecursion, find, list_any, flat_map}
use Rattle.base_types.specs.RowKeys.{key_of}
use Rattle.base_types.specs.Scans.{same_oid}
use Rattle.base_types.specs.declared.change.Change.TheVariants.{Replace, Delete}
use Rattle.base_types.specs.declared.kind.Kind.TheVariants.{Table, Index}
use Rattle.base_types.specs.declared.mode.Mode.TheVariants.{ShareUpdateExclusive, Share, ShareRowExclusive}
use Rattle.base_types.specs.declared.row.ConKind.TheVariants as demands
use Rattle.base_types.specs.declared.row.Row.TheVariants as rows
use Rattle.base_types.specs.declared.row_key.RowKey.TheVariants as keys
use Rattle.base_types.specs.declared.scan.Purpose.TheVariants as scans
use Rattle.command_answers.specs.declared.error.CommandError.TheVariants as errors
use Rattle.ddl_effect.specs.Plans.{Plan}
use Rattle.ddl_effect.specs.Commands.{if_passes, opening, writing, locking_all, reading, with_column, dropping, drop_unindexed, drop_unreferred, drop_found, drop_column, uses_column, column_number, defaulting, default_found, set_default}
use Rattle.ddl_effect.specs.Commands.{removing, by_oid, dropped_index, dropped_table, referred_by, with_relation, referred, index_of, dropping_table, drop_triggers, drop_defaults, drop_indexes, drop_constraints, drop_table, is_of_other, renaming_table, rename_table, altering_index, looking_up, is_table}
use Rattle.ddl_effect.specs.Commands.{is_own_named, if_constraint, if_no_constraint, constraint_there, constraint_free, with_constraint, without_constraint, adding_check, add_check, adding_foreign, referring_to, referring, foreign_named, add_foreign, validating, validate_constraint, dropping_constraint, drop_constraint}
use Rattle.ddl_effect.specs.Commands.{is_trigger, if_trigger, if_no_trigger, trigger_there, trigger_free, same_state, unless_so, switching, set_trigger, adding_trigger, create_trigger, numbered_too, numbering, is_index_width, create_index, dropping_index, drop_index}
use Rattle.ddl_effect.specs.declared.foreign_key.ForeignKey.{ForeignKey}
use Rattle.ddl_effect.specs.Opens.{has_open}
use Rattle.history_model.specs.Covered.{counted_for}
use Rattle.history_model.specs.Changing.{relations_of}
use Rattle.history_model.proofs.Every.{every-weaker, every-append, SomeOf, some-left, some-right}
use Rattle.cacheless.specs.Types.{Oid, Mode, AccessExclusive, Kind, Row, Purpose, OpenRelation, Draft}
use Rattle.cacheless.specs.OpenedReads.{is_of_opened}
use Rattle.cacheless.proofs.Plans.CountedRows.{counted_of, removing_counted, referred_rows, others_counted, using_counted, own_found}
use Rattle.cacheless.proofs.Plans.Formers.{on_found, on_opened, of_one, f_passes, f_looking, f_opening, f_writing, f_column, f_reading}
use Rattle.cacheless.proofs.Plans.StillUnder.{every_sides}
use Rattle.cacheless.proofs.Plans.UnderLocks.{KeepsRows, IsKeptBy, Footing, at_first, with_lock, with_found, with_rows, Follows}

-- rows that are read as far as they count
f_counted : (on : Footing) (scan : Purpose) (rest : List Row → Plan) → is_of_opened scan on.opened ≡ true → SomeOf (KeepsRows scan) on.locked → ((given : List Row) → rest given ≡ rest (map (counted_for scan) given)) → ((given : List Row) → Follows (with_rows given on) (rest given)) → Follows on (reading scan rest)
f_counted on scan rest of some by follows = (inr (inl (some, by)), follows, of)

-- a relation that a row names which was read
abbrev IsNamedIn : List Oid → Oid → Type 0
IsNamedIn named rel = SomeOf (λ o. o ≡ rel) named

-- further locks, and then a write
f_locking_all : (on : Footing) (opens : List OpenRelation) (rels : List Oid) (draft : Draft) → AllByRecursion (IsNamedIn on.named) rels → AllByRecursion (IsKeptBy on.locked) on.opened → Follows on (locking_all opens rels draft)
f_locking_all on opens [] draft named kept = f_writing on draft kept
f_locking_all on opens (rel ∷ rels) draft named kept = (
  λ given. refl,
  f_passes (with_lock rel AccessExclusive on) (not (has_open rel opens)) (errors.InUse rel) (locking_all opens rels draft) (f_locking_all (with_lock rel AccessExclusive on) opens rels draft named.1
      (every-weaker (IsKeptBy on.locked) (IsKeptBy (on.locked ++ record { rel = rel; mode = AccessExclusive } ∷ [])) (λ o some. some-left (KeepsRows (scans.Class o.rel)) on.locked (record { rel = rel; mode = AccessExclusive } ∷ []) some) on.opened kept)),
  named.0,
)

-- the relations to which foreign keys refer are named by them
named_left : (named more rels : List Oid) → AllByRecursion (IsNamedIn named) rels → AllByRecursion (IsNamedIn (named ++ more)) rels
named_left named more rels all = every-weaker (IsNamedIn named) (IsNamedIn (named ++ more)) (λ rel some. some-left (λ o. o ≡ rel) named more some) rels all

named_right : (named more rels : List Oid) → AllByRecursion (IsNamedIn more) rels → AllByRecursion (IsNamedIn (named ++ more)) rels
named_right named more rels all = every-weaker (IsNamedIn more) (IsNamedIn (named ++ more)) (λ rel some. some-right (λ o. o ≡ rel) named more some) rels all

one_referred : (row : Row) → AllByRecursion (IsNamedIn (relations_of row)) (referred_by row)
one_referred (rows.Con oid rel own valid (demands.Foreign num refrel refnum)) = (inr (inl refl), tt)
one_referred (rows.Con oid rel own valid (demands.Check text)) = tt
one_referred row = tt

one_indexed : (row : Row) → AllByRecursion (IsNamedIn (relations_of row)) (index_of row)
one_indexed (rows.Ind index table state nums) = (inl refl, tt)
one_indexed row = tt

each_named : (f : Row → List Oid) → ((row : Row) → AllByRecursion (IsNamedIn (relations_of row)) (f row)) → (given : List Row) → AllByRecursion (IsNamedIn (flat_map relations_of given)) (flat_map f given)
each_named f one [] = tt
each_named f one (row ∷ given) = every-append (IsNamedIn (relations_of row ++ flat_map relations_of given)) (f row) (flat_map f given)
    (named_left (relations_of row) (flat_map relations_of given) (f row) (one row)) (named_right (relations_of row) (flat_map relations_of given) (flat_map f given) (each_named f one given))

once_named : (P : Oid → Type 0) (rels : List Oid) (rel : Oid) → AllByRecursion P rels → P rel → AllByRecursion P (with_relation rels rel)
once_named P rels rel all is = by_test (list_any (same_oid rel) rels)
  where
    by_test : (t : Bool) → AllByRecursion P (if t then rels else rels ++ rel ∷ [])
    by_test true = all
    by_test false = every-append P rels (rel ∷ []) all (is, tt)

all_once : (P : Oid → Type 0) (rels more : List Oid) → AllByRecursion P rels → AllByRecursion P more → AllByRecursion P (fold with_relation rels more)
all_once P rels [] all also = all
all_once P rels (rel ∷ more) all also = all_once P (with_relation rels rel) more (once_named P rels rel all also.0) also.1

referred_named : (given : List Row) → AllByRecursion (IsNamedIn (flat_map relations_of given)) (referred given)
referred_named given = all_once (IsNamedIn (flat_map relations_of given)) [] (flat_map referred_by given) tt (each_named referred_by one_referred given)

-- a table that is altered under AccessExclusive, whatever rows were read of it
kept_table : (rel : Oid) → AllByRecursion (IsKeptBy (on_opened rel Table AccessExclusive).locked) (on_opened rel Table AccessExclusive).opened
kept_table rel = (inl (refl, refl), tt)

-- rows of it
table_reading : (rel : Oid) (named : List Oid) (scan : Purpose) (rest : List Row → Plan) → ((row : Row) → counted_for scan row ≡ row) → is_of_opened scan (record { rel = rel; kind = Table } ∷ []) ≡ true → KeepsRows scan (record { rel = rel; mode = AccessExclusive })
    → ((given : List Row) → Follows (record (on_opened rel Table AccessExclusive) { named = named ++ flat_map relations_of given }) (rest given)) → Follows (record (on_opened rel Table AccessExclusive) { named = named }) (reading scan rest)
table_reading rel named scan rest plain of keeps follows = f_reading (record (on_opened rel Table AccessExclusive) { named = named }) scan rest plain of (inl keeps) follows

-- `drop table`
pub drop_table_follows : (opens : List OpenRelation) (name : List ℕ) (rel : Oid) → Follows (on_opened rel Table AccessExclusive) (drop_table opens name rel)
drop_table_follows opens name rel = f_counted (on_opened rel Table AccessExclusive) (scans.Constraint rel) (drop_constraints opens name rel) (of_one rel Table (scans.Constraint rel) (3, omega arith, refl)) (inl (refl, refl)) same
    (λ constraints. f_passes (with_rows constraints (on_opened rel Table AccessExclusive)) (not (list_any (is_of_other rel) constraints)) (errors.Depends name) (reading (scans.Index rel) (drop_indexes opens rel constraints)) (further constraints))
  where
    same : (given : List Row) → drop_constraints opens name rel given ≡ drop_constraints opens name rel (counted_of rel given)
    same given = λ i. if_passes (not (others_counted rel given i)) (errors.Depends name) (reading (scans.Index rel) (λ indexes. reading (scans.AttrDef rel) (λ defaults. reading (scans.Trigger rel) (λ triggers. reading (scans.Attribute rel) (λ columns.
        locking_all opens (referred_rows rel given i ++ flat_map index_of indexes) (record {
          changes = flat_map dropped_index indexes ++ removing_counted rel given i ++ removing (by_oid defaults) ++ removing (by_oid triggers) ++ removing columns ++ Delete (keys.Class rel) ∷ [];
          forced = referred_rows rel given i;
          new_oids = 0;
        }))))))

    named : List Row → List Oid
    named given = flat_map relations_of given

    further : (constraints : List Row) → Follows (with_rows constraints (on_opened rel Table AccessExclusive)) (reading (scans.Index rel) (drop_indexes opens rel constraints))
    further constraints =
        table_reading rel (named constraints) (scans.Index rel) (drop_indexes opens rel constraints) (λ row. refl) (of_one rel Table (scans.Index rel) (4, omega arith, refl)) (refl, refl) (λ indexes.
        table_reading rel (named constraints ++ named indexes) (scans.AttrDef rel) (drop_defaults opens rel constraints indexes) (λ row. refl) (of_one rel Table (scans.AttrDef rel) (2, omega arith, refl)) (refl, refl) (λ defaults.
        table_reading rel ((named constraints ++ named indexes) ++ named defaults) (scans.Trigger rel) (drop_triggers opens rel constraints indexes defaults) (λ row. refl) (of_one rel Table (scans.Trigger rel) (5, omega arith, refl)) (refl, refl) (λ triggers.
        table_reading rel (((named constraints ++ named indexes) ++ named defaults) ++ named triggers) (scans.Attribute rel) (dropping_table opens rel constraints indexes defaults triggers) (λ row. refl) (of_one rel Table (scans.Attribute rel) (1, omega arith, refl)) (refl, refl) (λ columns.
        f_locking_all (record (on_opened rel Table AccessExclusive) { named = (((named constraints ++ named indexes) ++ named defaults) ++ named triggers) ++ named columns }) opens (referred constraints ++ flat_map index_of indexes) (dropped_table rel constraints indexes defaults triggers columns)
        (named_left _ (named columns) _ (named_left _ (named triggers) _ (named_left _ (named defaults) _ (every-append (IsNamedIn (named constraints ++ named indexes)) (referred constraints) (flat_map index_of indexes)
        (named_left (named constraints) (named indexes) (referred constraints) (referred_named constraints)) (named_right (named constraints) (named indexes) (flat_map index_of indexes) (each_named index_of one_indexed indexes))))))
        (kept_table rel)))))

-- `drop column`
pub drop_column_follows : (column : List ℕ) (rel : Oid) → Follows (on_opened rel Table AccessExclusive) (drop_column column rel)
drop_column_follows column rel = f_column (on_opened rel Table AccessExclusive) rel column (drop_found column rel) (inl (refl, refl))
    (λ row. f_counted (on_opened rel Table AccessExclusive) (scans.Constraint rel) (drop_unreferred column rel row) (of_one rel Table (scans.Constraint rel) (3, omega arith, refl)) (inl (refl, refl)) (same row)
    (λ constraints. f_passes (with_rows constraints (on_opened rel Table AccessExclusive)) (not (list_any (uses_column rel (column_number row)) constraints)) (errors.ColumnUsed column) (reading (scans.Index rel) (drop_unindexed column rel row))
    (table_reading rel (flat_map relations_of constraints) (scans.Index rel) (drop_unindexed column rel row) (λ other. refl) (of_one rel Table (scans.Index rel) (4, omega arith, refl)) (refl, refl)
    (λ indexes. f_passes (record (on_opened rel Table AccessExclusive) { named = flat_map relations_of constraints ++ flat_map relations_of indexes }) (not (list_any (uses_column rel (column_number row)) indexes)) (errors.ColumnUsed column) (reading (scans.AttrDef rel) (dropping row))
    (table_reading rel (flat_map relations_of constraints ++ flat_map relations_of indexes) (scans.AttrDef rel) (dropping row) (λ other. refl) (of_one rel Table (scans.AttrDef rel) (2, omega arith, refl)) (refl, refl) (λ defaults. (λ given. refl, kept_table rel)))))))
  where
    same : (row : Row) (given : List Row) → drop_unreferred column rel row given ≡ drop_unreferred column rel row (counted_of rel given)
    same row given = λ i. if_passes (not (using_counted rel (column_number row) given i)) (errors.ColumnUsed column) (reading (scans.Index rel) (drop_unindexed column rel row))

-- `set default`
pub set_default_follows : (column word : List ℕ) (rel : Oid) → Follows (on_opened rel Table AccessExclusive) (set_default column word rel)
set_default_follows column word rel = f_column (on_opened rel Table AccessExclusive) rel column (default_found word rel) (inl (refl, refl))
    (λ row. table_reading rel [] (scans.AttrDef rel) (defaulting word rel row) (λ other. refl) (of_one rel Table (scans.AttrDef rel) (2, omega arith, refl)) (refl, refl) (λ defaults. (λ given. refl, kept_table rel)))

-- constraints of a table by their names, in a mode that keeps constraints
f_named : (on : Footing) (name : List ℕ) (rest : Row → Plan) (o : Option Row) → ((row : Row) → Follows on (rest row)) → Follows on (if_constraint name rest o)
f_named on name rest None follows = tt
f_named on name rest (Some row) follows = follows row

f_unnamed : (on : Footing) (name : List ℕ) (plan : Plan) (o : Option Row) → Follows on plan → Follows on (if_no_constraint name plan o)
f_unnamed on name plan None follows = follows
f_unnamed on name plan (Some row) follows = tt

f_constraint : (rel : Oid) (mode : Mode) (name : List ℕ) (rest : Row → Plan) → KeepsRows (scans.Constraint rel) (record { rel = rel; mode = mode }) → ((given : List Row) (row : Row) → find (is_own_named rel name) given ≡ Some row → Follows (with_rows given (on_opened rel Table mode)) (rest row))
    → Follows (on_opened rel Table mode) (with_constraint rel name rest)
f_constraint rel mode name rest keeps follows = f_counted (on_opened rel Table mode) (scans.Constraint rel) (constraint_there rel name rest) (of_one rel Table (scans.Constraint rel) (3, omega arith, refl)) (inl keeps) (λ given. ap (if_constraint name rest) (own_found rel name given))
    (λ given. by_found given (find (is_own_named rel name) given) (follows given))
  where
    by_found : (given : List Row) (o : Option Row) → ((row : Row) → o ≡ Some row → Follows (with_rows given (on_opened rel Table mode)) (rest row)) → Follows (with_rows given (on_opened rel Table mode)) (if_constraint name rest o)
    by_found given None further = tt
    by_found given (Some row) further = further row refl

f_no_constraint : (rel : Oid) (mode : Mode) (name : List ℕ) (plan : Plan) → KeepsRows (scans.Constraint rel) (record { rel = rel; mode = mode }) → ((given : List Row) → Follows (with_rows given (on_opened rel Table mode)) plan) → Follows (on_opened rel Table mode) (without_constraint rel name plan)
f_no_constraint rel mode name plan keeps follows = f_counted (on_opened rel Table mode) (scans.Constraint rel) (constraint_free rel name plan) (of_one rel Table (scans.Constraint rel) (3, omega arith, refl)) (inl keeps) (λ given. ap (if_no_constraint name plan) (own_found rel name given))
    (λ given. f_unnamed (with_rows given (on_opened rel Table mode)) name plan (find (is_own_named rel name) given) (follows given))

-- `add constraint .. check`
pub add_check_follows : (name text : List ℕ) (valid : Bool) (rel : Oid) → Follows (on_opened rel Table AccessExclusive) (add_check name text valid rel)
add_check_follows name text valid rel = f_no_constraint rel AccessExclusive name (adding_check name text valid rel) (refl, refl) (λ given. (λ wrote. refl, kept_table rel))

-- `add constraint .. foreign key`: both tables are locked in ShareRowExclusive
pub add_foreign_follows : (key : ForeignKey) (rel : Oid) → Follows (on_opened rel Table ShareRowExclusive) (add_foreign key rel)
add_foreign_follows key rel = f_no_constraint rel ShareRowExclusive key.constraint (foreign_named key rel) (refl, refl)
    (λ given. f_column (with_rows given (on_opened rel Table ShareRowExclusive)) rel key.column (referring key rel) (inl (refl, refl))
    (λ row. f_looking (with_rows given (on_opened rel Table ShareRowExclusive)) key.refers ShareRowExclusive (referring_to key rel row) (at_other given row)))
  where
    at_other : (given : List Row) (row : Row) (other : Oid) (kind : Kind) → Follows (with_found other kind ShareRowExclusive (with_rows given (on_opened rel Table ShareRowExclusive))) (referring_to key rel row other kind)
    at_other given row other kind = f_passes (with_found other kind ShareRowExclusive (with_rows given (on_opened rel Table ShareRowExclusive))) (is_table kind) (errors.NotTable key.refers) (with_column other key.ref_column (adding_foreign key rel row other))
        (f_column (with_found other kind ShareRowExclusive (with_rows given (on_opened rel Table ShareRowExclusive))) other key.ref_column (adding_foreign key rel row other) (inr (inl (refl, refl))) (λ there. (λ wrote. refl, (inl (refl, refl), tt))))

-- `validate constraint`
pub validate_follows : (name : List ℕ) (rel : Oid) → Follows (on_opened rel Table ShareUpdateExclusive) (validate_constraint name rel)
validate_follows name rel = f_constraint rel ShareUpdateExclusive name (validating rel) (refl, refl) (λ given row is. of given row)
  where
    of : (given : List Row) (row : Row) → Follows (with_rows given (on_opened rel Table ShareUpdateExclusive)) (validating rel row)
    of given (rows.Con oid of' own false what) = (λ wrote. refl, (inl (refl, refl), tt))
    of given (rows.Con oid of' own true what) = tt
    of given row = tt

-- what is found is one of them
found_among : (p : Row → Bool) (f : Row → List Oid) (P : Oid → Type 0) (given : List Row) (row : Row) → find p given ≡ Some row → AllByRecursion P (flat_map f given) → AllByRecursion P (f row)
found_among p f P [] row is all = absurd (cc is)
found_among p f P (x ∷ given) row is all = by_test (p x) is (found_among p f P given row)
  where
    both : AllByRecursion P (f x) × AllByRecursion P (flat_map f given)
    both = every_sides P (f x) (flat_map f given) all

    by_test : (t : Bool) → cond t (Some x) (find p given) ≡ Some row → (find p given ≡ Some row → AllByRecursion P (flat_map f given) → AllByRecursion P (f row)) → AllByRecursion P (f row)
    by_test true here more = let same : x ≡ row = cc here in subst (λ r. AllByRecursion P (f r)) same both.0
    by_test false there more = more there both.1

-- `drop constraint`
pub drop_constraint_follows : (opens : List OpenRelation) (name : List ℕ) (rel : Oid) → Follows (on_opened rel Table AccessExclusive) (drop_constraint opens name rel)
drop_constraint_follows opens name rel = f_constraint rel AccessExclusive name (dropping_constraint opens rel) (refl, refl)
    (λ given row is. f_locking_all (with_rows given (on_opened rel Table AccessExclusive)) opens (referred_by row) (record { changes = Delete (key_of row) ∷ []; forced = rel ∷ referred_by row; new_oids = 0 }) (found_among (is_own_named rel name) referred_by (IsNamedIn (flat_map relations_of given)) given row is (each_named referred_by one_referred given)) (kept_table rel))

-- triggers
trigger_kept : (rel : Oid) → AllByRecursion (IsKeptBy (on_opened rel Table ShareRowExclusive).locked) (on_opened rel Table ShareRowExclusive).opened
trigger_kept rel = (inl (refl, refl), tt)

f_triggers : (rel : Oid) (rest : List Row → Plan) → ((given : List Row) → Follows (with_rows given (on_opened rel Table ShareRowExclusive)) (rest given)) → Follows (on_opened rel Table ShareRowExclusive) (reading (scans.Trigger rel) rest)
f_triggers rel rest follows = f_reading (on_opened rel Table ShareRowExclusive) (scans.Trigger rel) rest (λ row. refl) (of_one rel Table (scans.Trigger rel) (5, omega arith, refl)) (inl (refl, refl)) follows

pub set_trigger_follows : (name : List ℕ) (on : Bool) (rel : Oid) → Follows (on_opened rel Table ShareRowExclusive) (set_trigger name on rel)
set_trigger_follows name on rel = f_triggers rel (trigger_there name (switching rel on)) (λ given. by_found given (find (is_trigger name) given))
  where
    unless : (given : List Row) (so : Bool) (draft : Draft) → Follows (with_rows given (on_opened rel Table ShareRowExclusive)) (unless_so so (writing draft))
    unless given true draft = tt
    unless given false draft = (λ wrote. refl, trigger_kept rel)

    of : (given : List Row) (row : Row) → Follows (with_rows given (on_opened rel Table ShareRowExclusive)) (switching rel on row)
    of given (rows.Trg oid of' own was) = unless given (same_state was on) (record { changes = Replace (rows.Trg oid of' own on) ∷ []; forced = rel ∷ []; new_oids = 0 })
    of given row = tt

    by_found : (given : List Row) (o : Option Row) → Follows (with_rows given (on_opened rel Table ShareRowExclusive)) (if_trigger name (switching rel on) o)
    by_found given None = tt
    by_found given (Some row) = of given row

pub create_trigger_follows : (name : List ℕ) (rel : Oid) → Follows (on_opened rel Table ShareRowExclusive) (create_trigger name rel)
create_trigger_follows name rel = f_triggers rel (trigger_free name (adding_trigger name rel)) (λ given. by_found given (find (is_trigger name) given))
  where
    by_found : (given : List Row) (o : Option Row) → Follows (with_rows given (on_opened rel Table ShareRowExclusive)) (if_no_trigger name (adding_trigger name rel) o)
    by_found given None = (λ wrote. refl, trigger_kept rel)
    by_found given (Some row) = tt

-- indexes: Share doesn't keep out those who make others, but all who change columns
numbering_follows : (name : List ℕ) (rel : Oid) (columns : List (List ℕ)) (nums : List ℕ) → Follows (on_opened rel Table Share) (numbering name rel columns nums)
numbering_follows name rel [] nums = (λ wrote. refl, (inl (refl, refl), tt))
numbering_follows name rel (column ∷ columns) nums = f_column (on_opened rel Table Share) rel column (numbered_too (numbering name rel columns) nums) (inl (refl, refl)) (λ row. numbering_follows name rel columns (nums ++ column_number row ∷ []))

pub create_index_follows : (name : List ℕ) (columns : List (List ℕ)) (rel : Oid) → Follows (on_opened rel Table Share) (create_index name columns rel)
create_index_follows name columns rel = f_passes (on_opened rel Table Share) (is_index_width (length columns)) errors.TooManyColumns (numbering name rel columns []) (numbering_follows name rel columns [])

pub drop_index_follows : (opens : List OpenRelation) (rel : Oid) → Follows (on_opened rel Index AccessExclusive) (drop_index opens rel)
drop_index_follows opens rel = f_reading (on_opened rel Index AccessExclusive) (scans.IndexRow rel) (dropping_index opens rel) (λ row. refl) (of_one rel Index (scans.IndexRow rel) (1, omega arith, refl)) (inl (refl, refl)) of
  where
    of : (given : List Row) → Follows (with_rows given (on_opened rel Index AccessExclusive)) (dropping_index opens rel given)
    of [] = tt
    of (rows.Ind index table state nums ∷ more) = f_locking_all (with_rows (rows.Ind index table state nums ∷ more) (on_opened rel Index AccessExclusive)) opens (table ∷ []) (record { changes = Delete (keys.Ind rel) ∷ Delete (keys.Class rel) ∷ []; forced = table ∷ []; new_oids = 0 }) (inr (inl refl), tt) (inl (refl, refl), tt)
    of (row ∷ more) = tt

pub rename_index_follows : (to : List ℕ) (rel : Oid) → Follows (on_opened rel Index ShareUpdateExclusive) (rename_table to rel)
rename_index_follows to rel = f_reading (on_opened rel Index ShareUpdateExclusive) (scans.Class rel) (renaming_table to) (λ row. refl) (of_one rel Index (scans.Class rel) (0, omega arith, refl)) (inl (refl, refl)) of
  where
    of : (given : List Row) → Follows (with_rows given (on_opened rel Index ShareUpdateExclusive)) (renaming_table to given)
    of [] = tt
    of (row ∷ more) = (λ wrote. refl, (inl (refl, refl), tt))

-- an alteration of an index, after its lookup
pub f_altering_index : (opens : List OpenRelation) (name : List ℕ) (mode : Mode) (further : Oid → Plan) → ((rel : Oid) → Follows (on_opened rel Index mode) (further rel)) → Follows at_first (looking_up name mode (altering_index opens name further))
f_altering_index opens name mode further follows = f_looking at_first name mode (altering_index opens name further) of
  where
    of : (rel : Oid) (kind : Kind) → Follows (on_found rel kind mode) (altering_index opens name further rel kind)
    of rel Table = tt
    of rel Index = f_passes (on_found rel Index mode) (not (has_open rel opens)) (errors.InUse rel) (opening rel Index (further rel)) (f_opening (on_found rel Index mode) rel Index (further rel) (inl refl) (follows rel))
