-- How many acts a command has left.
use Rattle.std.proofs.Common.{◌≡◌, ◌<◌, ◌≤◌, ◌∙◌, ℕ, zero, suc, Bool, true, false, not, Option, Some, None, List, [], ◌∷◌, ◌&&◌, nat_le, nat_lt, int_lt, map, length, negsuc, refl, ap, sym, arith}
use Rattle.std.specs.Prelude.{⊤}
use Rattle.std.specs.List.{list_any, find}
use Rattle.base_types.specs.declared.command.Command.TheVariants as commands
use Rattle.base_types.specs.declared.row.Row.TheVariants as rows
use Rattle.base_types.specs.declared.row.ConKind.TheVariants as kinds
use Rattle.command_answers.specs.declared.error.CommandError.{CommandError}
use Rattle.ddl_effect.specs.Types.{Oid, Kind, Field, Told, Row, Command, Draft, OpenRelation}
use Rattle.ddl_effect.specs.declared.told.Told.TheVariants as tells
use Rattle.ddl_effect.specs.Plans.{Plan, Done, Fails, Absent, Do}
use Rattle.base_types.specs.declared.dropped.TheConstants.{MOST_COLUMNS}
use Rattle.base_types.specs.Fields.{has_field}
use Rattle.command_answers.specs.declared.error.CommandError.TheVariants as errors
use Rattle.std.proofs.lemmas.Bool.Decides.{nat_tests}
use Rattle.ddl_effect.specs.Opens.{has_open, latest_open}
use Rattle.ddl_effect.specs.Commands.{plan_of, writing, first_twice, new_table, if_passes, found, is_table, is_index, altering, altering_index, locking_all, column_there, column_free, column_number, uses_column, is_own_named, is_trigger, same_state, unless_so, if_no_column, filling, renaming_table, telling_column, peeking, closing, dropping_index, referred_by, is_index_width, if_constraint, if_no_constraint, if_trigger, if_no_trigger, switching, validating, numbering, numbered_too}
use Rattle.ddl_effect.specs.Replays.{after_all, step_of}
use Rattle.ddl_effect.specs.Courses.{is_act}
use Rattle.ddl_effect.proofs.Replays.{after_done, after_fails, after_absent}

-- at most so many acts are left
abbrev pub IsWithin : ℕ → Plan → Type 0
IsWithin zero (Do act rest) = ⊥
IsWithin (suc n) (Do act rest) = (given : List Row) → IsWithin n (rest given)
IsWithin n plan = ⊤

out_is_out : (given : List (List Row)) (plan : Plan) → after_all given plan ≡ plan → is_act (step_of plan) ≡ false → is_act (step_of (after_all given plan)) ≡ true → ⊥
out_is_out given plan stays out is = let no : false ≡ true = sym out ∙ sym (ap (λ p. is_act (step_of p)) stays) ∙ is in cc no

-- a plan that is at an act has done fewer acts
pub within_act : (n : ℕ) (plan : Plan) (given : List (List Row)) → IsWithin n plan → is_act (step_of (after_all given plan)) ≡ true → length given < n
within_act zero (Do act rest) given within is = absurd within
within_act (suc n) (Do act rest) [] within is = omega arith
within_act (suc n) (Do act rest) (rows ∷ given) within is = let less : length given < n = within_act n (rest rows) given (within rows) is in omega arith
within_act n (Done told) given within is = absurd (out_is_out given (Done told) (after_done given told) refl is)
within_act n (Fails error) given within is = absurd (out_is_out given (Fails error) (after_fails given error) refl is)
within_act n (Absent name) given within is = absurd (out_is_out given (Absent name) (after_absent given name) refl is)

pub w_passes : (n : ℕ) (passes : Bool) (error : CommandError) (plan : Plan) → IsWithin n plan → IsWithin n (if_passes passes error plan)
w_passes n true error plan within = within
w_passes zero false error plan within = tt
w_passes (suc n) false error plan within = tt

pub w_found : (n : ℕ) (name : List ℕ) (rest : Oid → Kind → Plan) → ((rel : Oid) (kind : Kind) → IsWithin n (rest rel kind)) → (given : List Row) → IsWithin n (found name rest given)
w_found n name rest within (rows.Class oid own kind fill ∷ more) = within oid kind
w_found zero name rest within [] = tt
w_found (suc n) name rest within [] = tt
w_found zero name rest within (row ∷ more) = tt
w_found (suc n) name rest within (row ∷ more) = tt

pub w_altering : (n : ℕ) (opens : List OpenRelation) (name : List ℕ) (rest : Oid → Plan) → ((rel : Oid) → IsWithin n (rest rel)) → (rel : Oid) (kind : Kind) → IsWithin (suc n) (altering opens name rest rel kind)
w_altering n opens name rest within rel kind = w_passes (suc n) (is_table kind) _ _ (w_passes (suc n) (not (has_open rel opens)) _ _ (λ given. within rel))

pub w_altering_index : (n : ℕ) (opens : List OpenRelation) (name : List ℕ) (rest : Oid → Plan) → ((rel : Oid) → IsWithin n (rest rel)) → (rel : Oid) (kind : Kind) → IsWithin (suc n) (altering_index opens name rest rel kind)
w_altering_index n opens name rest within rel kind = w_passes (suc n) (is_index kind) _ _ (w_passes (suc n) (not (has_open rel opens)) _ _ (λ given. within rel))

pub w_there : (n : ℕ) (column : List ℕ) (rest : Row → Plan) → ((row : Row) → IsWithin n (rest row)) → (given : List Row) → IsWithin n (column_there column rest given)
w_there zero column rest within [] = tt
w_there (suc n) column rest within [] = tt
w_there n column rest within (row ∷ more) = within row

pub w_free : (n : ℕ) (column : List ℕ) (plan : Plan) → IsWithin n plan → (given : List Row) → IsWithin n (column_free column plan given)
w_free n column plan within [] = within
w_free zero column plan within (row ∷ more) = tt
w_free (suc n) column plan within (row ∷ more) = tt

w_done : (n : ℕ) (told : Told) → IsWithin n (Done told)
w_done zero told = tt
w_done (suc n) told = tt

pub w_locking : (n : ℕ) (opens : List OpenRelation) (rels : List Oid) (draft : Draft) → length rels < n → IsWithin n (locking_all opens rels draft)
w_locking zero opens rels draft few = absurd (omega (arith, few))
w_locking (suc n) opens [] draft few = λ given. w_done n tells.Ok
w_locking (suc n) opens (rel ∷ rels) draft few = λ given. w_passes n (not (has_open rel opens)) _ _ (w_locking n opens rels draft (omega (arith, few)))

pub w_numbering : (n : ℕ) (name : List ℕ) (rel : Oid) (columns : List (List ℕ)) (nums : List ℕ) → length columns < n → IsWithin n (numbering name rel columns nums)
w_numbering zero name rel columns nums few = absurd (omega (arith, few))
w_numbering (suc zero) name rel [] nums few = λ given. tt
w_numbering (suc (suc n)) name rel [] nums few = λ given. tt
w_numbering (suc n) name rel (column ∷ columns) nums few = λ given. w_there n column (numbered_too (numbering name rel columns) nums) (λ row. w_numbering n name rel columns _ (omega (arith, few))) given

w_none : (n : ℕ) (name : List ℕ) (plan : Plan) (o : Option Row) → IsWithin n plan → IsWithin n (if_no_constraint name plan o)
w_none n name plan None within = within
w_none zero name plan (Some row) within = tt
w_none (suc n) name plan (Some row) within = tt

w_constraint : (n : ℕ) (name : List ℕ) (rest : Row → Plan) (o : Option Row) → ((row : Row) → IsWithin n (rest row)) → IsWithin n (if_constraint name rest o)
w_constraint zero name rest None within = tt
w_constraint (suc n) name rest None within = tt
w_constraint n name rest (Some row) within = within row

w_trigger : (n : ℕ) (name : List ℕ) (rest : Row → Plan) (o : Option Row) → ((row : Row) → IsWithin n (rest row)) → IsWithin n (if_trigger name rest o)
w_trigger zero name rest None within = tt
w_trigger (suc n) name rest None within = tt
w_trigger n name rest (Some row) within = within row

w_no_trigger : (n : ℕ) (name : List ℕ) (plan : Plan) (o : Option Row) → IsWithin n plan → IsWithin n (if_no_trigger name plan o)
w_no_trigger n name plan None within = within
w_no_trigger zero name plan (Some row) within = tt
w_no_trigger (suc n) name plan (Some row) within = tt

w_filling : (fill : ℕ) (given : List Row) → IsWithin 37 (filling fill given)
w_filling fill [] = tt
w_filling fill (row ∷ more) = λ given. tt

w_renaming : (to : List ℕ) (given : List Row) → IsWithin 37 (renaming_table to given)
w_renaming to [] = tt
w_renaming to (row ∷ more) = λ given. tt

w_validating : (rel : Oid) (row : Row) → IsWithin 37 (validating rel row)
w_validating rel (rows.Con oid of own false what) = λ given. tt
w_validating rel (rows.Con oid of own true what) = tt
w_validating rel row = tt

w_unless : (so : Bool) (plan : Plan) → IsWithin 37 plan → IsWithin 37 (unless_so so plan)
w_unless true plan within = tt
w_unless false plan within = within

w_switching : (rel : Oid) (on : Bool) (row : Row) → IsWithin 37 (switching rel on row)
w_switching rel on (rows.Trg oid of own was) = w_unless (same_state was on) _ (λ given. tt)
w_switching rel on row = tt

w_telling : (column : List ℕ) (given : List Row) → IsWithin 38 (telling_column column given)
w_telling column [] = tt
w_telling column (rows.Att rel num own col_type stat live ∷ more) = tt
w_telling column (row ∷ more) = tt

w_unrepeated : (o : Option (List ℕ)) (plan : Plan) → IsWithin 40 plan → IsWithin 40 (if_no_column o plan)
w_unrepeated None plan within = within
w_unrepeated (Some name) plan within = tt

w_peeking : (name : List ℕ) (field : Option Field) (o : Option OpenRelation) → IsWithin 40 (peeking name field o)
w_peeking name field None = tt
w_peeking name None (Some o) = tt
w_peeking name (Some field) (Some o) = w_passes 40 (has_field o.kind field) _ _ tt

w_closing : (name : List ℕ) (o : Option OpenRelation) → IsWithin 40 (closing name o)
w_closing name None = tt
w_closing name (Some o) = tt

w_dropping_index : (opens : List OpenRelation) (rel : Oid) (given : List Row) → IsWithin 37 (dropping_index opens rel given)
w_dropping_index opens rel [] = tt
w_dropping_index opens rel (rows.Ind index table state nums ∷ more) = w_locking 37 opens (table ∷ []) _ (omega arith)
w_dropping_index opens rel (row ∷ more) = tt

one_referred : (row : Row) → length (referred_by row) ≤ 1
one_referred (rows.Con oid rel own valid (kinds.Foreign num refrel refnum)) = omega arith
one_referred row = omega arith

w_width : (name : List ℕ) (columns : List (List ℕ)) (rel : Oid) (t : Bool) → is_index_width (length columns) ≡ t → IsWithin 38 (if_passes t errors.TooManyColumns (numbering name rel columns []))
w_width name columns rel false is = tt
w_width name columns rel true is = w_numbering 38 name rel columns [] (grind (arith, nat_tests))

-- the command drops a table
abbrev pub drops_table : Command → Bool
drops_table (commands.DropTable name) = true
drops_table command = false

pub few_acts : (opens : List OpenRelation) (command : Command) → drops_table command ≡ false → IsWithin 40 (plan_of opens command)
few_acts opens commands.Begin is = tt
few_acts opens commands.Commit is = tt
few_acts opens commands.Rollback is = tt
few_acts opens (commands.Savepoint name) is = tt
few_acts opens (commands.Release name) is = tt
few_acts opens (commands.RollbackTo name) is = tt
few_acts opens (commands.Show name None) is = w_found 39 name _ (λ rel kind. λ given. tt)
few_acts opens (commands.Show name (Some field)) is = w_found 39 name _ (λ rel kind. w_passes 39 (has_field kind field) _ _ (λ given. tt))
few_acts opens (commands.Columns name) is = w_found 39 name _ (λ rel kind. w_passes 39 (is_table kind) _ _ (λ given. tt))
few_acts opens (commands.Column name column) is = w_found 39 name _ (λ rel kind. w_passes 39 (is_table kind) _ _ (w_telling column))
few_acts opens (commands.Regclass oid) is = λ given. tt
few_acts opens (commands.LockTable name mode) is = w_found 39 name _ (λ rel kind. w_passes 39 (is_table kind) _ _ tt)
few_acts opens (commands.CreateTable name columns) is = w_passes 40 (nat_le (length columns) MOST_COLUMNS) errors.TooManyColumns (if_no_column (first_twice [] (map (λ c. c.name) columns)) (writing (new_table name columns))) (w_unrepeated (first_twice [] (map (λ c. c.name) columns)) (writing (new_table name columns)) (λ given. tt))
few_acts opens (commands.DropTable name) is = absurd (cc)
few_acts opens (commands.RenameTable name to) is = w_found 39 name _ (w_altering 38 opens name _ (λ rel. w_renaming to))
few_acts opens (commands.AddColumn name column col_type) is = w_found 39 name _ (w_altering 38 opens name _ (λ rel. w_free 37 column _ (λ columns. w_passes 36 (nat_lt (length columns) MOST_COLUMNS) _ _ (λ given. tt))))
few_acts opens (commands.DropColumn name column) is = w_found 39 name _ (w_altering 38 opens name _ (λ rel. w_there 37 column _ (λ row. λ constraints. w_passes 36 (not (list_any (uses_column rel (column_number row)) constraints)) _ _ (λ indexes. w_passes 35 (not (list_any (uses_column rel (column_number row)) indexes)) _ _ (λ defaults. λ given. tt)))))
few_acts opens (commands.RenameColumn name column to) is = w_found 39 name _ (w_altering 38 opens name _ (λ rel. w_there 37 column _ (λ row. w_free 36 to _ (λ given. tt))))
few_acts opens (commands.SetStatistics name column stat) is = w_found 39 name _ (w_altering 38 opens name _ (λ rel. w_passes 38 (not (int_lt stat (negsuc 0))) _ _ (w_there 37 column _ (λ row. λ given. tt))))
few_acts opens (commands.SetFillfactor name fill) is = w_found 39 name _ (w_altering 38 opens name _ (λ rel. w_passes 38 (nat_le 10 fill && nat_le fill 100) _ _ (w_filling fill)))
few_acts opens (commands.OpenRel name) is = w_found 39 name _ (λ rel kind. λ given. tt)
few_acts opens (commands.Peek name field) is = w_peeking name field (latest_open name opens)
few_acts opens (commands.CloseRel name) is = w_closing name (latest_open name opens)
few_acts opens (commands.SetDefault name column word) is = w_found 39 name _ (w_altering 38 opens name _ (λ rel. w_there 37 column _ (λ row. λ defaults. λ given. tt)))
few_acts opens (commands.AddCheck name constraint text valid) is = w_found 39 name _ (w_altering 38 opens name _ (λ rel. λ constraints. w_none 37 constraint _ (find (is_own_named rel constraint) constraints) (λ given. tt)))
few_acts opens (commands.AddForeign name constraint column refers ref_column valid) is = w_found 39 name _ (w_altering 38 opens name _ (λ rel. λ constraints. w_none 37 constraint _ (find (is_own_named rel constraint) constraints) (w_there 36 column _ (λ row. w_found 35 refers _ (λ other kind. w_passes 35 (is_table kind) _ _ (w_there 34 ref_column _ (λ there. λ given. tt)))))))
few_acts opens (commands.ValidateConstraint name constraint) is = w_found 39 name _ (w_altering 38 opens name _ (λ rel. λ constraints. w_constraint 37 constraint _ (find (is_own_named rel constraint) constraints) (w_validating rel)))
few_acts opens (commands.DropConstraint name constraint) is = w_found 39 name _ (w_altering 38 opens name _ (λ rel. λ constraints. w_constraint 37 constraint _ (find (is_own_named rel constraint) constraints) (λ row. w_locking 37 opens (referred_by row) _ (omega (arith, one_referred row)))))
few_acts opens (commands.SetTrigger name trigger on) is = w_found 39 name _ (w_altering 38 opens name _ (λ rel. λ triggers. w_trigger 37 trigger _ (find (is_trigger trigger) triggers) (w_switching rel on)))
few_acts opens (commands.CreateTrigger name trigger) is = w_found 39 name _ (w_altering 38 opens name _ (λ rel. λ triggers. w_no_trigger 37 trigger _ (find (is_trigger trigger) triggers) (λ given. tt)))
few_acts opens (commands.CreateIndex name on_table columns) is = w_found 39 on_table _ (w_altering 38 opens on_table _ (λ rel. w_width name columns rel (is_index_width (length columns)) refl))
few_acts opens (commands.DropIndex name) is = w_found 39 name _ (w_altering_index 38 opens name _ (λ rel. w_dropping_index opens rel))
few_acts opens (commands.RenameIndex name to) is = w_found 39 name _ (w_altering_index 38 opens name _ (λ rel. w_renaming to))
