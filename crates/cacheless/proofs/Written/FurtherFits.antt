-- What commands write of defaults, constraints, triggers, indexes and whole tables may be written.
use Rattle.cacheless.specs.State.{relation_made}
use Rattle.std.proofs.Common.{◌≡◌, ◌∙◌, ℕ, Bool, true, false, Option, Some, None, List, [], ◌∷◌, ◌++◌, refl, ap, subst, map, length, not, arith}
use Rattle.std.specs.List.{find, list_any, flat_map}
use Rattle.std.specs.Option.{option_to_list}
use Rattle.std.proofs.lemmas.Bool.{and_parts, not-true}
use Rattle.base_types.specs.RowKeys.{key_of}
use Rattle.base_types.specs.Scans.{same_oid}
use Rattle.base_types.specs.declared.change.Change.TheVariants.{Insert, Replace, Delete}
use Rattle.base_types.specs.declared.index_state.IndexState.{IndexState}
use Rattle.base_types.specs.declared.index_state.IndexState.TheVariants as states
use Rattle.base_types.specs.declared.kind.Kind.{Kind}
use Rattle.base_types.specs.declared.kind.Kind.TheVariants.{Table, Index}
use Rattle.base_types.specs.declared.mode.Mode.TheVariants.{ShareUpdateExclusive, Share, ShareRowExclusive}
use Rattle.base_types.specs.declared.row.ConKind.{ConKind}
use Rattle.base_types.specs.declared.row.ConKind.TheVariants as demands
use Rattle.base_types.specs.declared.row.Row.TheVariants as rows
use Rattle.base_types.specs.declared.row_key.RowKey.TheVariants as keys
use Rattle.base_types.specs.declared.scan.Purpose.TheVariants as scans
use Rattle.command_answers.specs.declared.error.CommandError.TheVariants as errors
use Rattle.event_kinds.specs.declared.entry.Item.TheVariants as forms
use Rattle.ddl_effect.specs.Plans.{Plan}
use Rattle.ddl_effect.specs.declared.foreign_key.ForeignKey.{ForeignKey}
use Rattle.ddl_effect.specs.Parts.{first_new, reading, with_column, column_number, deleting, forcing}
use Rattle.ddl_effect.specs.Columns.{is_default_of, defaulting, default_found, set_default}
use Rattle.ddl_effect.specs.Constraints.{is_own_named, if_constraint, if_no_constraint, constraint_there, constraint_free, with_constraint, without_constraint, adding_check, add_check, adding_foreign, referring_to, referring, foreign_named, add_foreign, validating, validate_constraint, dropping_constraint, drop_constraint}
use Rattle.ddl_effect.specs.Triggers.{is_trigger, if_trigger, if_no_trigger, trigger_there, trigger_free, same_state, unless_so, switching, set_trigger, adding_trigger, create_trigger}
use Rattle.ddl_effect.specs.Indexes.{numbered_too, numbering, is_index_width, create_index, dropping_index, drop_index}
use Rattle.ddl_effect.specs.Tables.{is_of_other, referred_by, referred, index_of, dropped_table, dropping_table, drop_triggers, drop_defaults, drop_indexes, drop_constraints, drop_table}
use Rattle.ddl_effect.specs.Drawing.{drawn_oid}
use Rattle.history_model.specs.Drawn.{next_oid}
use Rattle.history_model.specs.Sound.{IsSound}
use Rattle.history_model.specs.Versions.{rows_of}
use Rattle.history_model.proofs.Asking.{oid_eq}
use Rattle.history_model.proofs.DrawnKeys.{IsDrawn, seen_drawn}
use Rattle.history_model.proofs.Every.{every-parts}
use Rattle.history_model.proofs.GivenRows.{given_seen}
use Rattle.history_model.proofs.InOrder.{IsIn}
use Rattle.cacheless.specs.Facts.{Facts}
use Rattle.cacheless.specs.Types.{Oid, AccessExclusive, Row, OpenRelation}
use Rattle.cacheless.proofs.WholeIndexes.{IsOwnOf}
use Rattle.cacheless.proofs.Written.ComesTo.{Writer, now_of, Holds, Sees, ComesTo, wrote, passed, read_then, relation_found, Altered, column_is_there, all_locked}
use Rattle.cacheless.proofs.Written.DraftFits.{Fits, deletes, parts_fit_draft, undrawn_oid, put_items, first_drawn}
use Rattle.cacheless.proofs.Written.IndexWrites.{index_alters, index_goes}
use Rattle.cacheless.proofs.Written.NewRows.{oid_drawn, default_alters, check_alters, foreign_alters, trigger_alters}
use Rattle.cacheless.proofs.Written.PutRows.{valid_alters, switch_alters}
use Rattle.cacheless.proofs.Written.RowsGone.{constraint_alters}
use Rattle.cacheless.proofs.Written.SeenRows.{IsGiven, first_given, found_given, found_holds, found_passes}
use Rattle.cacheless.proofs.Written.TableDropped.{DropsTable, gone as rows_gone, table_goes, table_changes}

-- the oid of a relation that is seen is no number of a draft's new oid
table_undrawn : (w : Writer) (rel : Oid) (name : List ℕ) (kind : Kind) (fill : Option ℕ) → IsSound w.history → Sees w (rows.Class rel name kind fill) → drawn_oid (next_oid w.history) 1 rel ≡ rel
table_undrawn w rel name kind fill sound seen =
    let drawn : IsDrawn (next_oid w.history) rel = seen_drawn w.history w.backend (rows.Class rel name kind fill) sound seen in
    undrawn_oid (next_oid w.history) 1 rel (omega (arith, drawn.0))

-- `set default`
pub defaulted_column : (w : Writer) (c : ℕ) (facts : Facts) (column word : List ℕ) → IsSound w.history → Altered w AccessExclusive Table (set_default column word) → Fits w c facts
defaulted_column w c facts column word sound a =
    let there = column_is_there w a.found a.rel column (default_found word a.rel) a.comes in
    let num : ℕ = column_number there.row in
    let old : Option Row = find (is_default_of num) (now_of w (scans.AttrDef a.rel)) in
    let is = wrote w a.found (record { changes = deleting old ++ Insert (rows.Def first_new a.rel num word) ∷ []; forced = a.rel ∷ []; new_oids = 1 }) (read_then w a.found (scans.AttrDef a.rel) (defaulting word a.rel there.row) there.comes) in
    parts_fit_draft w c facts 1 (option_to_list old) (Insert (rows.Def first_new a.rel num word) ∷ []) (a.rel ∷ []) (forms.Add (rows.Def (oid_drawn w.history) a.rel num word) ∷ []) None (is ∙ ap (λ l. record { changes = l ++ Insert (rows.Def first_new a.rel num word) ∷ []; forced = a.rel ∷ []; new_oids = 1 }) (deletes old))
    (λ i. forms.Add (rows.Def (first_drawn (next_oid w.history) i) (table_undrawn w a.rel a.name Table a.fill sound a.seen i) num word) ∷ []) (λ rel first. none_after old num rel)
    (default_alters w.history w.backend w.opened a.rel num word old sound a.has (found_given (IsGiven w.history w.backend (scans.AttrDef a.rel)) (is_default_of num) (now_of w (scans.AttrDef a.rel)) (given_seen w.history w.backend (scans.AttrDef a.rel))))
  where
    none_after : (o : Option Row) (num : ℕ) (rel : Oid) → relation_made (map (λ row. Delete (key_of row)) (option_to_list o) ++ Insert (rows.Def first_new a.rel num word) ∷ []) rel ≡ None
    none_after None num rel = refl
    none_after (Some row) num rel = refl

-- a constraint's name is free
no_constraint : (w : Writer) (found : List (Option Oid)) (rel : Oid) (name : List ℕ) (plan : Plan) → ComesTo w found (without_constraint rel name plan) → ComesTo w found plan
no_constraint w found rel name plan c = of (find (is_own_named rel name) (now_of w (scans.Constraint rel))) (read_then w found (scans.Constraint rel) (constraint_free rel name plan) c)
  where
    of : (o : Option Row) → ComesTo w found (if_no_constraint name plan o) → ComesTo w found plan
    of None to = to
    of (Some row) to = absurd (cc (to.effect))

-- or it is there
record ConstraintThere (w : Writer) (found : List (Option Oid)) (rel : Oid) (name : List ℕ) (further : Row → Plan) : Type 0 where
  row : Row
  given : IsGiven w.history w.backend (scans.Constraint rel) row
  own : is_own_named rel name row ≡ true
  comes : ComesTo w found (further row)

has_constraint : (w : Writer) (found : List (Option Oid)) (rel : Oid) (name : List ℕ) (further : Row → Plan) → ComesTo w found (with_constraint rel name further) → ConstraintThere w found rel name further
has_constraint w found rel name further c = of (find (is_own_named rel name) (now_of w (scans.Constraint rel))) refl (read_then w found (scans.Constraint rel) (constraint_there rel name further) c)
  where
    of : (o : Option Row) → find (is_own_named rel name) (now_of w (scans.Constraint rel)) ≡ o → ComesTo w found (if_constraint name further o) → ConstraintThere w found rel name further
    of None is to = absurd (cc (to.effect))
    of (Some row) is to = record {
      row = row;
      given = found_holds (IsGiven w.history w.backend (scans.Constraint rel)) (is_own_named rel name) row (now_of w (scans.Constraint rel)) (given_seen w.history w.backend (scans.Constraint rel)) is;
      own = found_passes (is_own_named rel name) row (now_of w (scans.Constraint rel)) is;
      comes = to;
    }

-- `add constraint .. check`
pub added_check : (w : Writer) (c : ℕ) (facts : Facts) (name text : List ℕ) (valid : Bool) → IsSound w.history → Altered w AccessExclusive Table (add_check name text valid) → Fits w c facts
added_check w c facts name text valid sound a =
    parts_fit_draft w c facts 1 [] (Insert (rows.Con first_new a.rel name valid (demands.Check text)) ∷ []) (a.rel ∷ []) (forms.Add (rows.Con (oid_drawn w.history) a.rel name valid (demands.Check text)) ∷ []) None
    (wrote w a.found (record { changes = Insert (rows.Con first_new a.rel name valid (demands.Check text)) ∷ []; forced = a.rel ∷ []; new_oids = 1 }) (no_constraint w a.found a.rel name (adding_check name text valid a.rel) a.comes))
    (λ i. forms.Add (rows.Con (first_drawn (next_oid w.history) i) (table_undrawn w a.rel a.name Table a.fill sound a.seen i) name valid (demands.Check text)) ∷ []) (λ rel first. refl)
    (check_alters w.history w.backend w.opened a.rel name valid text sound a.has)

-- `add constraint .. foreign key`
referred_table : (w : Writer) (found : List (Option Oid)) (key : ForeignKey) (rel : Oid) (row : Row) (other : Oid) (kind : Kind) → ComesTo w found (referring_to key rel row other kind) → (kind ≡ Table) × ComesTo w found (with_column other key.ref_column (adding_foreign key rel row other))
referred_table w found key rel row other Table c = (refl, c)
referred_table w found key rel row other Index c = absurd (cc (c.effect))

pub added_foreign : (w : Writer) (c : ℕ) (facts : Facts) (key : ForeignKey) → IsSound w.history → Altered w ShareRowExclusive Table (add_foreign key) → Fits w c facts
added_foreign w c facts key sound a =
    let own = column_is_there w a.found a.rel key.column (referring key a.rel) (no_constraint w a.found a.rel key.constraint (foreign_named key a.rel) a.comes) in
    let other = relation_found w a.found key.refers ShareRowExclusive (referring_to key a.rel own.row) own.comes in
    let table = referred_table w other.found key a.rel own.row other.rel other.kind other.comes in
    let there = column_is_there w other.found other.rel key.ref_column (adding_foreign key a.rel own.row other.rel) table.1 in
    let what : ConKind = demands.Foreign (column_number own.row) other.rel (column_number there.row) in
    parts_fit_draft w c facts 1 [] (Insert (rows.Con first_new a.rel key.constraint key.valid what) ∷ []) (other.rel ∷ []) (forms.Add (rows.Con (oid_drawn w.history) a.rel key.constraint key.valid what) ∷ []) None
    (wrote w other.found (record { changes = Insert (rows.Con first_new a.rel key.constraint key.valid what) ∷ []; forced = other.rel ∷ []; new_oids = 1 }) there.comes)
    (λ i. forms.Add (rows.Con (first_drawn (next_oid w.history) i) (table_undrawn w a.rel a.name Table a.fill sound a.seen i) key.constraint key.valid what) ∷ []) (λ rel first. refl)
    (foreign_alters w.history w.backend w.opened a.rel other.rel key.constraint key.valid (column_number own.row) (column_number there.row) sound a.has other.has)

-- `validate constraint`
validated : (w : Writer) (c : ℕ) (facts : Facts) (found : List (Option Oid)) (rel : Oid) (name : List ℕ) (row : Row) → IsSound w.history → Holds w rel ShareUpdateExclusive → IsGiven w.history w.backend (scans.Constraint rel) row → is_own_named rel name row ≡ true → ComesTo w found (validating rel row) → Fits w c facts
validated w c facts found rel name (rows.Con oid of own false what) sound has given named comes =
    let same : of ≡ rel = oid_eq of rel (and_parts (same_oid of rel) _ named).0 in
    let is = wrote w found (record { changes = Replace (rows.Con oid of own true what) ∷ []; forced = rel ∷ []; new_oids = 0 }) comes in
    parts_fit_draft w c facts 0 [] (Replace (rows.Con oid rel own true what) ∷ []) (rel ∷ []) (forms.Put (rows.Con oid rel own true what) ∷ []) None (is ∙ ap (λ o. record { changes = Replace (rows.Con oid o own true what) ∷ []; forced = rel ∷ []; new_oids = 0 }) same)
    (put_items (next_oid w.history) (rows.Con oid rel own true what)) (λ o first. refl) (valid_alters w.history w.backend w.opened oid rel own what sound has (subst (λ o. IsIn (rows.Con oid o own false what) (rows_of w.history w.backend)) same given.0))
validated w c facts found rel name row sound has given named comes = absurd (cc (comes.effect))

pub validated_constraint : (w : Writer) (c : ℕ) (facts : Facts) (name : List ℕ) → IsSound w.history → Altered w ShareUpdateExclusive Table (validate_constraint name) → Fits w c facts
validated_constraint w c facts name sound a =
    let there = has_constraint w a.found a.rel name (validating a.rel) a.comes in
    validated w c facts a.found a.rel name there.row sound a.has there.given there.own there.comes

-- `drop constraint`
pub dropped_constraint : (w : Writer) (c : ℕ) (facts : Facts) (opens : List OpenRelation) (name : List ℕ) → IsSound w.history → Altered w AccessExclusive Table (drop_constraint opens name) → Fits w c facts
dropped_constraint w c facts opens name sound a =
    let there = has_constraint w a.found a.rel name (dropping_constraint opens a.rel) a.comes in
    let locked = all_locked w a.found opens (referred_by there.row) (record { changes = Delete (key_of there.row) ∷ []; forced = a.rel ∷ referred_by there.row; new_oids = 0 }) there.comes in
    parts_fit_draft w c facts 0 (there.row ∷ []) [] (a.rel ∷ referred_by there.row) [] None locked.0 refl (λ rel first. refl)
    (constraint_alters w.history w.backend w.opened a.rel name there.row sound a.has locked.1 there.given there.own)

-- a trigger is there
record TriggerThere (w : Writer) (found : List (Option Oid)) (rel : Oid) (further : Row → Plan) : Type 0 where
  row : Row
  given : IsGiven w.history w.backend (scans.Trigger rel) row
  comes : ComesTo w found (further row)

has_trigger : (w : Writer) (found : List (Option Oid)) (rel : Oid) (name : List ℕ) (further : Row → Plan) → ComesTo w found (reading (scans.Trigger rel) (trigger_there name further)) → TriggerThere w found rel further
has_trigger w found rel name further c = of (find (is_trigger name) (now_of w (scans.Trigger rel))) refl (read_then w found (scans.Trigger rel) (trigger_there name further) c)
  where
    of : (o : Option Row) → find (is_trigger name) (now_of w (scans.Trigger rel)) ≡ o → ComesTo w found (if_trigger name further o) → TriggerThere w found rel further
    of None is to = absurd (cc (to.effect))
    of (Some row) is to = record {
      row = row;
      given = found_holds (IsGiven w.history w.backend (scans.Trigger rel)) (is_trigger name) row (now_of w (scans.Trigger rel)) (given_seen w.history w.backend (scans.Trigger rel)) is;
      comes = to;
    }

-- `enable trigger` and `disable trigger`
not_so : (w : Writer) (found : List (Option Oid)) (so : Bool) (plan : Plan) → ComesTo w found (unless_so so plan) → ComesTo w found plan
not_so w found true plan c = absurd (cc (c.effect))
not_so w found false plan c = c

switched : (w : Writer) (c : ℕ) (facts : Facts) (found : List (Option Oid)) (rel : Oid) (on : Bool) (row : Row) → IsSound w.history → Holds w rel ShareRowExclusive → IsGiven w.history w.backend (scans.Trigger rel) row → ComesTo w found (switching rel on row) → Fits w c facts
switched w c facts found rel on (rows.Trg oid of own was) sound has given comes =
    let same : of ≡ rel = oid_eq of rel given.1 in
    let is = wrote w found (record { changes = Replace (rows.Trg oid of own on) ∷ []; forced = rel ∷ []; new_oids = 0 }) (not_so w found (same_state was on) (forcing (Replace (rows.Trg oid of own on) ∷ []) (rel ∷ []) 0) comes) in
    parts_fit_draft w c facts 0 [] (Replace (rows.Trg oid rel own on) ∷ []) (rel ∷ []) (forms.Put (rows.Trg oid rel own on) ∷ []) None (is ∙ ap (λ o. record { changes = Replace (rows.Trg oid o own on) ∷ []; forced = rel ∷ []; new_oids = 0 }) same)
    (put_items (next_oid w.history) (rows.Trg oid rel own on)) (λ o first. refl) (switch_alters w.history w.backend w.opened oid rel own was on sound has (subst (λ o. IsIn (rows.Trg oid o own was) (rows_of w.history w.backend)) same given.0))
switched w c facts found rel on row sound has given comes = absurd (cc (comes.effect))

pub switched_trigger : (w : Writer) (c : ℕ) (facts : Facts) (name : List ℕ) (on : Bool) → IsSound w.history → Altered w ShareRowExclusive Table (set_trigger name on) → Fits w c facts
switched_trigger w c facts name on sound a =
    let there = has_trigger w a.found a.rel name (switching a.rel on) a.comes in
    switched w c facts a.found a.rel on there.row sound a.has there.given there.comes

-- `create trigger`
no_trigger : (w : Writer) (found : List (Option Oid)) (rel : Oid) (name : List ℕ) (plan : Plan) → ComesTo w found (reading (scans.Trigger rel) (trigger_free name plan)) → ComesTo w found plan
no_trigger w found rel name plan c = of (find (is_trigger name) (now_of w (scans.Trigger rel))) (read_then w found (scans.Trigger rel) (trigger_free name plan) c)
  where
    of : (o : Option Row) → ComesTo w found (if_no_trigger name plan o) → ComesTo w found plan
    of None to = to
    of (Some row) to = absurd (cc (to.effect))

pub created_trigger : (w : Writer) (c : ℕ) (facts : Facts) (name : List ℕ) → IsSound w.history → Altered w ShareRowExclusive Table (create_trigger name) → Fits w c facts
created_trigger w c facts name sound a =
    parts_fit_draft w c facts 1 [] (Insert (rows.Trg first_new a.rel name true) ∷ []) (a.rel ∷ []) (forms.Add (rows.Trg (oid_drawn w.history) a.rel name true) ∷ []) None
    (wrote w a.found (record { changes = Insert (rows.Trg first_new a.rel name true) ∷ []; forced = a.rel ∷ []; new_oids = 1 }) (no_trigger w a.found a.rel name (adding_trigger name a.rel) a.comes))
    (λ i. forms.Add (rows.Trg (first_drawn (next_oid w.history) i) (table_undrawn w a.rel a.name Table a.fill sound a.seen i) name true) ∷ []) (λ rel first. refl)
    (trigger_alters w.history w.backend w.opened a.rel name sound a.has)

-- `create index`, whatever its columns
numbered : (w : Writer) (c : ℕ) (facts : Facts) (found : List (Option Oid)) (rel : Oid) (name own : List ℕ) (fill : Option ℕ) (columns : List (List ℕ)) (nums : List ℕ) → IsSound w.history → Holds w rel Share → Sees w (rows.Class rel own Table fill) → ComesTo w found (numbering name rel columns nums) → Fits w c facts
numbered w c facts found rel name own fill [] nums sound has seen comes =
    let drawn : IsDrawn (next_oid w.history) rel = seen_drawn w.history w.backend (rows.Class rel own Table fill) sound seen in
    parts_fit_draft w c facts 1 [] (Insert (rows.Class first_new name Index None) ∷ Insert (rows.Ind first_new rel states.Valid nums) ∷ []) (rel ∷ []) (forms.Add (rows.Class (oid_drawn w.history) name Index None) ∷ forms.Add (rows.Ind (oid_drawn w.history) rel states.Valid nums) ∷ []) (Some (oid_drawn w.history))
    (wrote w found (record { changes = Insert (rows.Class first_new name Index None) ∷ Insert (rows.Ind first_new rel states.Valid nums) ∷ []; forced = rel ∷ []; new_oids = 1 }) comes)
    (λ i. forms.Add (rows.Class (first_drawn (next_oid w.history) i) name Index None) ∷ forms.Add (rows.Ind (first_drawn (next_oid w.history) i) (table_undrawn w rel own Table fill sound seen i) states.Valid nums) ∷ [])
    (λ o first. λ i. Some (record { 0 = first i })) (index_alters w.history w.backend w.opened rel name nums sound has drawn.1)
numbered w c facts found rel name own fill (column ∷ columns) nums sound has seen comes =
    let there = column_is_there w found rel column (numbered_too (numbering name rel columns) nums) comes in
    numbered w c facts found rel name own fill columns (nums ++ column_number there.row ∷ []) sound has seen there.comes

pub created_index : (w : Writer) (c : ℕ) (facts : Facts) (name : List ℕ) (columns : List (List ℕ)) → IsSound w.history → Altered w Share Table (create_index name columns) → Fits w c facts
created_index w c facts name columns sound a =
    let test = passed w a.found (is_index_width (length columns)) errors.TooManyColumns (numbering name a.rel columns []) a.comes in
    numbered w c facts a.found a.rel name a.name a.fill columns [] sound a.has a.seen test.1

-- `drop index`
index_dropped : (w : Writer) (c : ℕ) (facts : Facts) (found : List (Option Oid)) (opens : List OpenRelation) (rel : Oid) (name : List ℕ) (fill : Option ℕ) (given : List Row) → IsSound w.history → Holds w rel AccessExclusive → Sees w (rows.Class rel name Index fill)
    → now_of w (scans.IndexRow rel) ≡ given → ComesTo w found (dropping_index opens rel given) → Fits w c facts
index_dropped w c facts found opens rel name fill (rows.Ind index table state nums ∷ more) sound has seen are comes =
    let given = first_given w.history w.backend (scans.IndexRow rel) (rows.Ind index table state nums) more are in
    let same : index ≡ rel = oid_eq index rel given.1 in
    let locked = all_locked w found opens (table ∷ []) (record { changes = Delete (keys.Ind rel) ∷ Delete (keys.Class rel) ∷ []; forced = table ∷ []; new_oids = 0 }) comes in
    parts_fit_draft w c facts 0 (rows.Ind rel table state nums ∷ rows.Class rel name Index fill ∷ []) [] (table ∷ []) [] None locked.0 refl (λ o first. refl)
    (index_goes w.history w.backend w.opened rel table name fill state nums sound has locked.1.0 (subst (λ o. IsIn (rows.Ind o table state nums) (rows_of w.history w.backend)) same given.0) seen)
index_dropped w c facts found opens rel name fill given sound has seen are comes = absurd (cc (comes.effect))

pub dropped_index : (w : Writer) (c : ℕ) (facts : Facts) (opens : List OpenRelation) → IsSound w.history → Altered w AccessExclusive Index (drop_index opens) → Fits w c facts
dropped_index w c facts opens sound a = index_dropped w c facts a.found opens a.rel a.name a.fill (now_of w (scans.IndexRow a.rel)) sound a.has a.seen refl (read_then w a.found (scans.IndexRow a.rel) (dropping_index opens a.rel) a.comes)

-- `drop table`
pub removed_table : (w : Writer) (c : ℕ) (facts : Facts) (opens : List OpenRelation) (name : List ℕ) → IsSound w.history → ((index table : Oid) (state : IndexState) (nums : List ℕ) → Sees w (rows.Ind index table state nums) → IsOwnOf index (rows_of w.history w.backend))
    → Altered w AccessExclusive Table (drop_table opens name) → Fits w c facts
removed_table w c facts opens name sound law a =
    let first = passed w a.found (not (list_any (is_of_other rel) constraints)) (errors.Depends name) (reading (scans.Index rel) (drop_indexes opens rel constraints)) (read_then w a.found (scans.Constraint rel) (drop_constraints opens name rel) a.comes) in
    let read = read_then w a.found (scans.Attribute rel) (dropping_table opens rel constraints indexes defaults triggers) (read_then w a.found (scans.Trigger rel) (drop_triggers opens rel constraints indexes defaults)
    (read_then w a.found (scans.AttrDef rel) (drop_defaults opens rel constraints indexes) (read_then w a.found (scans.Index rel) (drop_indexes opens rel constraints) first.1))) in
    let locked = all_locked w a.found opens (referred constraints ++ flat_map index_of indexes) (dropped_table rel constraints indexes defaults triggers columns) read in
    let both = every-parts (λ o. Holds w o AccessExclusive) (referred constraints) (flat_map index_of indexes) locked.1 in
    let drops : DropsTable w.history w.backend rel a.name a.fill = record { sound = sound; has = a.has; seen = a.seen; law = law; own = not-true (list_any (is_of_other rel) constraints) first.0; others = both.0; locked = both.1 } in
    parts_fit_draft w c facts 0 (rows_gone w.history w.backend w.opened rel a.name a.fill drops) [] (referred constraints) [] None
    (locked.0 ∙ ap (λ l. record { changes = l; forced = referred constraints; new_oids = 0 }) (table_changes w.history w.backend w.opened rel a.name a.fill drops)) refl (λ o is. none_first (rows_gone w.history w.backend w.opened rel a.name a.fill drops) o)
    (table_goes w.history w.backend w.opened rel a.name a.fill drops)
  where
    rel : Oid
    rel = a.rel

    constraints : List Row
    constraints = now_of w (scans.Constraint a.rel)

    indexes : List Row
    indexes = now_of w (scans.Index a.rel)

    defaults : List Row
    defaults = now_of w (scans.AttrDef a.rel)

    triggers : List Row
    triggers = now_of w (scans.Trigger a.rel)

    columns : List Row
    columns = now_of w (scans.Attribute a.rel)

    none_first : (gone : List Row) (o : Oid) → relation_made (map (λ row. Delete (key_of row)) gone ++ []) o ≡ None
    none_first [] o = refl
    none_first (row ∷ gone) o = refl
