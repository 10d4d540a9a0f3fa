-- The forms of commands, over the tokens of a line after the colon.
use Rattle.std.specs.Prelude.{◌≡◌, ℕ, Bool, true, false, Option, Some, None, List, [], ◌∷◌, ◌++◌, option_map, codes, if◌then◌else◌}
use Rattle.std.specs.List.{find}
use Rattle.std.specs.Str.{bytes_eq}
use Rattle.std.specs.Option.{option_or}
use Rattle.base_types.specs.declared.command.Command.{Command}
use Rattle.base_types.specs.declared.command.Command.TheVariants.{Begin, Commit, Rollback, Savepoint, Release, RollbackTo, Show, Columns, Column, Regclass, LockTable, OpenRel, Peek, CloseRel, CreateTable, DropTable, RenameTable, AddColumn, DropColumn, RenameColumn, SetDefault, SetStatistics, SetFillfactor, AddCheck, AddForeign, ValidateConstraint, DropConstraint, SetTrigger, CreateTrigger, CreateIndex, DropIndex, RenameIndex}
use Rattle.base_types.specs.declared.command.NewColumn.{NewColumn}
use Rattle.base_types.specs.declared.mode.Mode.{Mode}
use Rattle.base_types.specs.Words.{modes}
use Rattle.base_types.specs.declared.field.Field.{Field}
use Rattle.script_text.specs.Tokens.{◌>>=◌, said, after, taken, is_end, ends, done}
use Rattle.script_text.specs.Operands.{number_of, stat_of, plain_name_of, word_of, check_text_of, type_of, field_of, lock_words}

-- the name after these words, and the tokens after it
abbrev pub name_after : List ℕ → List (List ℕ) → Option (List ℕ × List (List ℕ))
name_after text ts = after text plain_name_of ts

-- these words, a name, and the end
unfoldable pub one_name : List ℕ → List (List ℕ) → Option (List ℕ)
one_name text ts = do
  name ← name_after text ts
  done [] name.1 name.0

-- these words, a name, further words and a name, and the tokens after them
unfoldable pub names_after : List ℕ → List ℕ → List (List ℕ) → Option ((List ℕ × List ℕ) × List (List ℕ))
names_after text further ts = do
  first ← name_after text ts
  second ← name_after further first.1
  Some ((first.0, second.0), second.1)

-- these words, a name, further words, a name, and the end
unfoldable pub two_names : List ℕ → List ℕ → List (List ℕ) → Option (List ℕ × List ℕ)
two_names text further ts = do
  names ← names_after text further ts
  done [] names.1 names.0

-- begin, commit, rollback
unfoldable pub bare_command : List (List ℕ) → Option Command
bare_command ts = if ends (codes "begin") ts then Some Begin
    else if ends (codes "commit") ts then Some Commit
    else if ends (codes "rollback") ts then Some Rollback
    else None

-- commands of savepoints; the word `savepoint` may be left out but for the first
unfoldable pub savepoint_command : List (List ℕ) → Option Command
savepoint_command ts = option_or (option_map Savepoint (one_name (codes "savepoint") ts))
    (option_or (option_map Release (one_name (codes "release") ts))
    (option_or (option_map Release (one_name (codes "release savepoint") ts))
    (option_or (option_map RollbackTo (one_name (codes "rollback to") ts))
    (option_map RollbackTo (one_name (codes "rollback to savepoint") ts)))))

-- the other commands with one name
unfoldable pub name_command : List (List ℕ) → Option Command
name_command ts = option_or (option_map Columns (one_name (codes "columns") ts))
    (option_or (option_map OpenRel (one_name (codes "open") ts))
    (option_or (option_map CloseRel (one_name (codes "close") ts))
    (option_or (option_map DropTable (one_name (codes "drop table") ts))
    (option_map DropIndex (one_name (codes "drop index") ts)))))

-- nothing, or a field
unfoldable pub optional_field : List (List ℕ) → Option (Option Field)
optional_field ts = if is_end ts then Some None else do
  field ← taken field_of ts
  done [] field.1 (Some field.0)

-- these words, a name, and a field or none
unfoldable pub shown_after : List ℕ → List (List ℕ) → Option (List ℕ × Option Field)
shown_after text ts = do
  name ← name_after text ts
  field ← optional_field name.1
  Some (name.0, field)

-- show and peek
unfoldable pub show_command : List (List ℕ) → Option Command
show_command ts = option_or (option_map (λ s. Show s.0 s.1) (shown_after (codes "show") ts)) (option_map (λ s. Peek s.0 s.1) (shown_after (codes "peek") ts))

-- commands of a table and one more name
unfoldable pub table_command : List (List ℕ) → Option Command
table_command ts = option_or (option_map (λ n. Column n.0 n.1) (two_names (codes "column") [] ts))
    (option_or (option_map (λ n. RenameTable n.0 n.1) (two_names (codes "alter table") (codes "rename to") ts))
    (option_or (option_map (λ n. DropColumn n.0 n.1) (two_names (codes "alter table") (codes "drop column") ts))
    (option_or (option_map (λ n. ValidateConstraint n.0 n.1) (two_names (codes "alter table") (codes "validate constraint") ts))
    (option_map (λ n. DropConstraint n.0 n.1) (two_names (codes "alter table") (codes "drop constraint") ts)))))

-- commands of triggers and the renaming of an index
unfoldable pub pair_command : List (List ℕ) → Option Command
pair_command ts = option_or (option_map (λ n. SetTrigger n.0 n.1 true) (two_names (codes "alter table") (codes "enable trigger") ts))
    (option_or (option_map (λ n. SetTrigger n.0 n.1 false) (two_names (codes "alter table") (codes "disable trigger") ts))
    (option_or (option_map (λ n. CreateTrigger n.1 n.0) (two_names (codes "create trigger") (codes "on") ts))
    (option_map (λ n. RenameIndex n.0 n.1) (two_names (codes "alter index") (codes "rename to") ts))))

-- regclass OID
unfoldable pub regclass_command : List (List ℕ) → Option Command
regclass_command ts = do
  oid ← after (codes "regclass") (number_of 9) ts
  done [] oid.1 (Regclass (record { 0 = oid.0 }))

-- a lock mode by its words, and the end
unfoldable pub lock_mode : List (List ℕ) → Option Mode
lock_mode ts = find (λ mode. ends (lock_words mode) ts) modes

-- lock table NAME in MODE mode
unfoldable pub lock_command : List (List ℕ) → Option Command
lock_command ts = do
  name ← name_after (codes "lock table") ts
  mode ← lock_mode name.1
  Some (LockTable name.0 mode)

-- alter table NAME add column NAME TYPE
unfoldable pub add_column_command : List (List ℕ) → Option Command
add_column_command ts = do
  names ← names_after (codes "alter table") (codes "add column") ts
  col_type ← taken type_of names.1
  done [] col_type.1 (AddColumn names.0.0 names.0.1 col_type.0)

-- alter table NAME rename column NAME to NAME
unfoldable pub rename_column_command : List (List ℕ) → Option Command
rename_column_command ts = do
  names ← names_after (codes "alter table") (codes "rename column") ts
  to ← name_after (codes "to") names.1
  done [] to.1 (RenameColumn names.0.0 names.0.1 to.0)

-- alter table NAME alter column NAME set default WORD
unfoldable pub default_command : List (List ℕ) → Option Command
default_command ts = do
  names ← names_after (codes "alter table") (codes "alter column") ts
  word ← after (codes "set default") word_of names.1
  done [] word.1 (SetDefault names.0.0 names.0.1 word.0)

-- alter table NAME alter column NAME set statistics STAT
unfoldable pub statistics_command : List (List ℕ) → Option Command
statistics_command ts = do
  names ← names_after (codes "alter table") (codes "alter column") ts
  stat ← after (codes "set statistics") stat_of names.1
  done [] stat.1 (SetStatistics names.0.0 names.0.1 stat.0)

-- alter table NAME set (fillfactor = NUMBER)
unfoldable pub fillfactor_command : List (List ℕ) → Option Command
fillfactor_command ts = do
  name ← name_after (codes "alter table") ts
  fill ← after (codes "set (fillfactor =") (number_of 9) name.1
  done (codes ")") fill.1 (SetFillfactor name.0 fill.0)

-- the tokens up to a closing parenthesis as one text, and the tokens after it
unfoldable pub enclosed : List (List ℕ) → Option (List ℕ × List (List ℕ))
enclosed [] = None
enclosed (t ∷ ts) = if bytes_eq t (codes ")") then Some ([], ts) else option_map (λ r. (t ++ r.0, r.1)) (enclosed ts)

-- the same, where it is the text of a check
unfoldable pub enclosed_text : List (List ℕ) → Option (List ℕ × List (List ℕ))
enclosed_text ts = do
  inside ← enclosed ts
  text ← check_text_of inside.0
  Some (text, inside.1)

-- nothing for a constraint that is valid at once, or `not valid`
unfoldable pub validity : List (List ℕ) → Option Bool
validity ts = if is_end ts then Some true else done (codes "not valid") ts false

-- check (TEXT), and whether it is valid at once
unfoldable pub check_part : List (List ℕ) → Option (List ℕ × Bool)
check_part ts = do
  rest ← said (codes "check (") ts
  text ← enclosed_text rest
  valid ← validity text.1
  Some (text.0, valid)

-- alter table NAME add constraint NAME check (TEXT)
unfoldable pub check_command : List (List ℕ) → Option Command
check_command ts = do
  names ← names_after (codes "alter table") (codes "add constraint") ts
  what ← check_part names.1
  Some (AddCheck names.0.0 names.0.1 what.0 what.1)

-- (NAME), and whether it is valid at once
unfoldable pub referred_part : List (List ℕ) → Option (List ℕ × Bool)
referred_part ts = do
  ref_column ← name_after (codes "(") ts
  rest ← said (codes ")") ref_column.1
  valid ← validity rest
  Some (ref_column.0, valid)

-- foreign key (NAME) references NAME (NAME), and whether it is valid at once
unfoldable pub key_part : List (List ℕ) → Option (List ℕ × List ℕ × List ℕ × Bool)
key_part ts = do
  key ← names_after (codes "foreign key (") (codes ") references") ts
  referred ← referred_part key.1
  Some (key.0.0, key.0.1, referred.0, referred.1)

-- alter table NAME add constraint NAME foreign key (NAME) references NAME (NAME)
unfoldable pub foreign_command : List (List ℕ) → Option Command
foreign_command ts = do
  names ← names_after (codes "alter table") (codes "add constraint") ts
  key ← key_part names.1
  Some (AddForeign names.0.0 names.0.1 key.0 key.1 key.2 key.3)

-- an item of a list, alone at a closing parenthesis and the end, and with the others at a comma
abbrev pub items_after : {X : Type 0} → X → List ℕ → List (List ℕ) → Option (List X) → Option (List X)
items_after item mark ts others = if bytes_eq mark (codes ",") then option_map (λ items. item ∷ items) others else if bytes_eq mark (codes ")") then (if is_end ts then Some (item ∷ []) else None) else None

-- what is taken of a list at a time: an item, and whether others follow; no item where there is no list
abbrev pub Item : {X : Type 0} → (List (List ℕ) → Option (List X)) → List (List ℕ) → List (List ℕ) → Option (X × Bool) → Type 0
Item all old new None = all old ≡ None
Item all old new (Some (x, true)) = all old ≡ option_map (λ xs. x ∷ xs) (all new)
Item all old new (Some (x, false)) = all old ≡ Some (x ∷ [])

-- columns with commas between them, up to a closing parenthesis and the end
unfoldable pub columns_at : List (List ℕ) → Option (List NewColumn)
columns_at [] = None
columns_at (a ∷ []) = None
columns_at (a ∷ b ∷ []) = None
columns_at (a ∷ b ∷ mark ∷ ts) = do
  name ← plain_name_of a
  col_type ← type_of b
  items_after (record { name = name; col_type = col_type }) mark ts (columns_at ts)

-- (NAME TYPE, ..), or empty parentheses
unfoldable pub enclosed_columns : List (List ℕ) → Option (List NewColumn)
enclosed_columns ts = if ends (codes "()") ts then Some [] else do
  rest ← said (codes "(") ts
  columns_at rest

-- create table NAME (NAME TYPE, ..), or with empty parentheses
unfoldable pub create_table_command : List (List ℕ) → Option Command
create_table_command ts = do
  name ← name_after (codes "create table") ts
  columns ← enclosed_columns name.1
  Some (CreateTable name.0 columns)

-- names with commas between them, up to a closing parenthesis and the end
unfoldable pub names_at : List (List ℕ) → Option (List (List ℕ))
names_at [] = None
names_at (a ∷ []) = None
names_at (a ∷ mark ∷ ts) = do
  name ← plain_name_of a
  items_after name mark ts (names_at ts)

-- (NAME, ..)
unfoldable pub enclosed_names : List (List ℕ) → Option (List (List ℕ))
enclosed_names ts = do
  rest ← said (codes "(") ts
  names_at rest

-- create index NAME on NAME (NAME, ..)
unfoldable pub create_index_command : List (List ℕ) → Option Command
create_index_command ts = do
  names ← names_after (codes "create index") (codes "on") ts
  columns ← enclosed_names names.1
  Some (CreateIndex names.0.0 names.0.1 columns)

-- the commands that take no memory; in groups, so that the check meets a few forms at a time
unfoldable pub short_command : List (List ℕ) → Option Command
short_command ts = option_or (bare_command ts)
    (option_or (savepoint_command ts)
    (option_or (name_command ts)
    (option_or (show_command ts)
    (option_or (table_command ts)
    (option_or (pair_command ts)
    (option_or (regclass_command ts)
    (lock_command ts)))))))

-- the alterations of a table with operands of their own
unfoldable pub alter_command : List (List ℕ) → Option Command
alter_command ts = option_or (add_column_command ts)
    (option_or (rename_column_command ts)
    (option_or (default_command ts)
    (option_or (statistics_command ts)
    (option_or (fillfactor_command ts)
    (option_or (check_command ts)
    (foreign_command ts))))))

-- the commands with a list
unfoldable pub long_command : List (List ℕ) → Option Command
long_command ts = option_or (create_table_command ts) (create_index_command ts)

-- the command of these tokens
unfoldable pub command_of : List (List ℕ) → Option Command
command_of ts = option_or (short_command ts) (option_or (alter_command ts) (long_command ts))
