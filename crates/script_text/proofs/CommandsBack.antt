-- What is read of the tokens of a command's pieces is that command, and a line may be made of its pieces.
use Rattle.std.proofs.Common.{◌≡◌, ◌≤◌, ◌<◌, ℕ, ℤ, nat_abs, Bool, true, false, ◌&&◌, Option, Some, None, List, [], ◌∷◌, ◌++◌, length, nat_le, codes, refl, subst, arith}
use Rattle.std.specs.List.{AllByRecursion, flat_map, list_all}
use Rattle.std.specs.Str.{bytes_eq}
use Rattle.std.proofs.lemmas.Bool.Decides.{nat_tests}
use Rattle.std.proofs.lemmas.Slice.Eq.{bytes_eq-Decides}
use Rattle.base_types.specs.Names.{IsName, IsWord, IsText, is_word_byte, is_text_byte, name_fault, short_fault}
use Rattle.base_types.specs.Words.{type_word, field_word}
use Rattle.base_types.specs.Commands.{IsCommand, IsNonEmpty}
use Rattle.base_types.specs.declared.command.Command.{Command}
use Rattle.base_types.specs.declared.command.Command.TheVariants.{Begin, Commit, Rollback, Savepoint, Release, RollbackTo, Show, Columns, Column, Regclass, LockTable, OpenRel, Peek, CloseRel, CreateTable, DropTable, RenameTable, AddColumn, DropColumn, RenameColumn, SetDefault, SetStatistics, SetFillfactor, AddCheck, AddForeign, ValidateConstraint, DropConstraint, SetTrigger, CreateTrigger, CreateIndex, DropIndex, RenameIndex}
use Rattle.base_types.specs.declared.command.NewColumn.{NewColumn}
use Rattle.base_types.specs.declared.mode.Mode.{Mode}
use Rattle.base_types.specs.declared.mode.Mode.TheVariants.{AccessShare, RowShare, RowExclusive, ShareUpdateExclusive, Share, ShareRowExclusive, Exclusive, AccessExclusive}
use Rattle.base_types.specs.declared.col_type.ColType.{ColType}
use Rattle.base_types.specs.declared.col_type.ColType.TheVariants as types
use Rattle.base_types.specs.declared.field.Field.{Field}
use Rattle.base_types.specs.declared.field.Field.TheVariants as fields
use Rattle.script_text.specs.Tokens.{tokens, is_end}
use Rattle.script_text.specs.Operands.{if_none, plain_name_of, word_of, check_text_of, type_of, field_of, lock_words}
use Rattle.script_text.specs.Commands.{columns_at, names_at, command_of}
use Rattle.script_text.specs.Spelling.{command_pieces, column_pieces, name_pieces, valid_pieces, shown_pieces, trigger_words, listed}
use Rattle.script_text.proofs.OnLiterals.{command_forms}
use Rattle.script_text.proofs.Clean.{is_clean, IsPiece}
use Rattle.script_text.proofs.TokenLaws.{each_byte, name_token, name_piece, word_token, word_piece, text_piece, number_token, number_piece, stat_token, stat_piece, enclosed_tokens, number_back, stat_back}

-- what is read of a command's pieces is the command
abbrev ReadsBack : Command → Type 0
ReadsBack c = command_of (flat_map tokens (command_pieces c)) ≡ Some c

-- ---- single tokens

faultless : {F : Type 0} (fault : Option F) (text : List ℕ) → fault ≡ None → if_none fault text ≡ Some text
faultless fault text e = rw e refl

name_back : (name : List ℕ) → IsName name → plain_name_of name ≡ Some name
unfolding plain_name_of
name_back name h = faultless (name_fault name) name h

word_back : (word : List ℕ) → IsWord word → word_of word ≡ Some word
unfolding word_of
word_back word h = faultless (short_fault is_word_byte word) word h

text_back : (text : List ℕ) → IsText text → check_text_of text ≡ Some text
unfolding check_text_of
text_back text h = faultless (short_fault is_text_byte text) text h

type_back : (t : ColType) → (tokens (type_word t) ≡ type_word t ∷ []) × (type_of (type_word t) ≡ Some t)
unfolding tokens type_of
type_back types.Bool = (refl, refl)
type_back types.Int2 = (refl, refl)
type_back types.Int4 = (refl, refl)
type_back types.Int8 = (refl, refl)
type_back types.Text = (refl, refl)
type_back types.Bytea = (refl, refl)
type_back types.Date = (refl, refl)
type_back types.Timestamptz = (refl, refl)

field_back : (f : Field) → (tokens (field_word f) ≡ field_word f ∷ []) × (field_of (field_word f) ≡ Some f) × (bytes_eq (field_word f) (codes ";") ≡ false)
unfolding tokens field_of
field_back fields.Name = (refl, refl, refl)
field_back fields.Columns = (refl, refl, refl)
field_back fields.Defaults = (refl, refl, refl)
field_back fields.Statistics = (refl, refl, refl)
field_back fields.Fillfactor = (refl, refl, refl)
field_back fields.Constraints = (refl, refl, refl)
field_back fields.Referenced = (refl, refl, refl)
field_back fields.Indexes = (refl, refl, refl)
field_back fields.Triggers = (refl, refl, refl)
field_back fields.Of = (refl, refl, refl)
field_back fields.Valid = (refl, refl, refl)

-- a name is no closing parenthesis
not_closing_by : (name : List ℕ) (same : Bool) → bytes_eq name (codes ")") ≡ same → IsName name → same ≡ false
not_closing_by name false e h = refl
not_closing_by name true e h = let is : name ≡ codes ")" = (bytes_eq-Decides name (codes ")")).0 e in let paren : IsName (codes ")") = subst IsName is h in absurd cc

not_closing : (name : List ℕ) → IsName name → bytes_eq name (codes ")") ≡ false
not_closing name h = not_closing_by name (bytes_eq name (codes ")")) refl h

-- ---- commands of names alone

bare_back : ReadsBack Begin × ReadsBack Commit × ReadsBack Rollback
unfolding command_forms
bare_back = (refl, refl, refl)

one_back : (name : List ℕ) → IsName name
    → ReadsBack (Savepoint name) × ReadsBack (Release name) × ReadsBack (RollbackTo name) × ReadsBack (Columns name) × ReadsBack (OpenRel name) × ReadsBack (CloseRel name) × ReadsBack (DropTable name) × ReadsBack (DropIndex name)
unfolding command_forms
one_back name h = rw (name_token name h, name_back name h) (refl, refl, refl, refl, refl, refl, refl, refl)

two_back : (name other : List ℕ) → IsName name → IsName other
    → ReadsBack (Column name other) × ReadsBack (RenameTable name other) × ReadsBack (DropColumn name other) × ReadsBack (ValidateConstraint name other) × ReadsBack (DropConstraint name other)
unfolding command_forms
two_back name other h k = rw (name_token name h, name_token other k, name_back name h, name_back other k) (refl, refl, refl, refl, refl)

pair_back : (name other : List ℕ) → IsName name → IsName other
    → ReadsBack (SetTrigger name other true) × ReadsBack (SetTrigger name other false) × ReadsBack (RenameIndex name other)
unfolding command_forms
pair_back name other h k = rw (name_token name h, name_token other k, name_back name h, name_back other k) (refl, refl, refl)

trigger_back : (name trigger : List ℕ) → IsName name → IsName trigger → ReadsBack (CreateTrigger name trigger)
unfolding command_forms
trigger_back name trigger h k = rw (name_token name h, name_token trigger k, name_back trigger k, name_back name h) refl

-- ---- commands with a field, a lock mode or a number

shown_back : (name : List ℕ) (field : Option Field) → IsName name → ReadsBack (Show name field) × ReadsBack (Peek name field)
unfolding command_forms
shown_back name None h = rw (name_token name h, name_back name h) (refl, refl)
shown_back name (Some f) h = let field = field_back f in rw (name_token name h, field.0, name_back name h, field.2, field.1) (refl, refl)

lock_back : (name : List ℕ) (mode : Mode) → IsName name → ReadsBack (LockTable name mode)
unfolding command_forms
lock_back name AccessShare h = rw (name_token name h, name_back name h) refl
lock_back name RowShare h = rw (name_token name h, name_back name h) refl
lock_back name RowExclusive h = rw (name_token name h, name_back name h) refl
lock_back name ShareUpdateExclusive h = rw (name_token name h, name_back name h) refl
lock_back name Share h = rw (name_token name h, name_back name h) refl
lock_back name ShareRowExclusive h = rw (name_token name h, name_back name h) refl
lock_back name Exclusive h = rw (name_token name h, name_back name h) refl
lock_back name AccessExclusive h = rw (name_token name h, name_back name h) refl

regclass_back : (oid : ℕ) → oid < 1000000000 → ReadsBack (Regclass (record { 0 = oid }))
unfolding command_forms
regclass_back oid h = rw (number_token oid, number_back oid h) refl

-- ---- alterations of a table

add_column_back : (name column : List ℕ) (t : ColType) → IsName name → IsName column → ReadsBack (AddColumn name column t)
unfolding command_forms
add_column_back name column t h k = rw (name_token name h, name_token column k, (type_back t).0, name_back name h, name_back column k, (type_back t).1) refl

rename_column_back : (name column to : List ℕ) → IsName name → IsName column → IsName to → ReadsBack (RenameColumn name column to)
unfolding command_forms
rename_column_back name column to h k l = rw (name_token name h, name_token column k, name_token to l, name_back name h, name_back column k, name_back to l) refl

default_back : (name column word : List ℕ) → IsName name → IsName column → IsWord word → ReadsBack (SetDefault name column word)
unfolding command_forms
default_back name column word h k l = rw (name_token name h, name_token column k, word_token word l, name_back name h, name_back column k, word_back word l) refl

statistics_back : (name column : List ℕ) (stat : ℤ) → IsName name → IsName column → nat_abs stat < 1000000000 → ReadsBack (SetStatistics name column stat)
unfolding command_forms
statistics_back name column stat h k l = rw (name_token name h, name_token column k, stat_token stat, name_back name h, name_back column k, stat_back stat l) refl

fillfactor_back : (name : List ℕ) (fill : ℕ) → IsName name → fill < 1000000000 → ReadsBack (SetFillfactor name fill)
unfolding command_forms
fillfactor_back name fill h k = rw (name_token name h, number_token fill, name_back name h, number_back fill k) refl

check_back : (name constraint text : List ℕ) (valid : Bool) → IsName name → IsName constraint → IsText text → ReadsBack (AddCheck name constraint text valid)
unfolding command_forms
check_back name constraint text true h k l = rw (name_token name h, name_token constraint k, name_back name h, name_back constraint k, enclosed_tokens text [] l, text_back text l) refl
check_back name constraint text false h k l = rw (name_token name h, name_token constraint k, name_back name h, name_back constraint k, enclosed_tokens text (codes "not" ∷ codes "valid" ∷ []) l, text_back text l) refl

foreign_back : (name constraint column refers ref_column : List ℕ) (valid : Bool) → IsName name → IsName constraint → IsName column → IsName refers → IsName ref_column → ReadsBack (AddForeign name constraint column refers ref_column valid)
unfolding command_forms
foreign_back name constraint column refers ref_column true h k l m n = rw (name_token name h, name_token constraint k, name_token column l, name_token refers m, name_token ref_column n, name_back name h, name_back constraint k, name_back column l, name_back refers m, name_back ref_column n) refl
foreign_back name constraint column refers ref_column false h k l m n = rw (name_token name h, name_token constraint k, name_token column l, name_token refers m, name_token ref_column n, name_back name h, name_back constraint k, name_back column l, name_back refers m, name_back ref_column n) refl

-- ---- commands with a list

-- the tokens after the name of a list's first column, and after a list's first name
abbrev after_column : NewColumn → List NewColumn → List (List ℕ)
after_column column columns = flat_map tokens (type_word column.col_type ∷ flat_map (λ c. codes "," ∷ column_pieces c) columns ++ codes ")" ∷ [])

abbrev after_name : List (List ℕ) → List (List ℕ)
after_name names = flat_map tokens (flat_map (λ n. codes "," ∷ name_pieces n) names ++ codes ")" ∷ [])

columns_back : (column : NewColumn) (columns : List NewColumn) → IsName column.name → AllByRecursion (λ c. IsName c.name) columns → columns_at (column.name ∷ after_column column columns) ≡ Some (column ∷ columns)
unfolding tokens columns_at is_end
columns_back column [] h k = let type = type_back column.col_type in rw (type.0, name_back column.name h, type.1) refl
columns_back column (c ∷ columns) h k = let type = type_back column.col_type in rw (type.0, name_token c.name k.0, name_back column.name h, type.1, columns_back c columns k.0 k.1) refl

names_back : (name : List ℕ) (names : List (List ℕ)) → IsName name → AllByRecursion IsName names → names_at (name ∷ after_name names) ≡ Some (name ∷ names)
unfolding tokens names_at is_end
names_back name [] h k = rw (name_back name h) refl
names_back name (n ∷ names) h k = rw (name_token n k.0, name_back name h, names_back n names k.0 k.1) refl

created : (name first : List ℕ) (ts : List (List ℕ)) (columns : List NewColumn) → plain_name_of name ≡ Some name → bytes_eq first (codes ")") ≡ false → columns_at (first ∷ ts) ≡ Some columns
    → command_of (codes "create" ∷ codes "table" ∷ name ∷ codes "(" ∷ first ∷ ts) ≡ Some (CreateTable name columns)
unfolding command_forms
created name first ts columns h k read = rw (h, k, read) refl

indexed : (name on_table : List ℕ) (ts columns : List (List ℕ)) → plain_name_of name ≡ Some name → plain_name_of on_table ≡ Some on_table → names_at ts ≡ Some columns
    → command_of (codes "create" ∷ codes "index" ∷ name ∷ codes "on" ∷ on_table ∷ codes "(" ∷ ts) ≡ Some (CreateIndex name on_table columns)
unfolding command_forms
indexed name on_table ts columns h k read = rw (h, k, read) refl

no_columns_back : (name : List ℕ) → IsName name → ReadsBack (CreateTable name [])
unfolding command_forms listed
no_columns_back name h = rw (name_token name h, name_back name h) refl

table_back : (name : List ℕ) (columns : List NewColumn) → IsName name → AllByRecursion (λ c. IsName c.name) columns → ReadsBack (CreateTable name columns)
unfolding tokens listed
table_back name [] h k = no_columns_back name h
table_back name (c ∷ columns) h k = rw (name_token name h, name_token c.name k.0) (created name c.name (after_column c columns) (c ∷ columns) (name_back name h) (not_closing c.name k.0) (columns_back c columns k.0 k.1))

index_back : (name on_table : List ℕ) (columns : List (List ℕ)) → IsName name → IsName on_table → IsNonEmpty columns → AllByRecursion IsName columns → ReadsBack (CreateIndex name on_table columns)
unfolding tokens listed
index_back name on_table [] h k some l = absurd some
index_back name on_table (n ∷ columns) h k some l = rw (name_token name h, name_token on_table k, name_token n l.0) (indexed name on_table (n ∷ after_name columns) (n ∷ columns) (name_back name h) (name_back on_table k) (names_back n columns l.0 l.1))

-- the command of its own pieces' tokens
pub command_back : (c : Command) → IsCommand c → command_of (flat_map tokens (command_pieces c)) ≡ Some c
command_back Begin h = bare_back.0
command_back Commit h = bare_back.1
command_back Rollback h = bare_back.2
command_back (Savepoint name) h = (one_back name h).0
command_back (Release name) h = (one_back name h).1
command_back (RollbackTo name) h = (one_back name h).2
command_back (Show name field) h = (shown_back name field h).0
command_back (Columns name) h = (one_back name h).3
command_back (Column name column) h = (two_back name column h.0 h.1).0
command_back (Regclass oid) h = regclass_back oid.0 h
command_back (LockTable name mode) h = lock_back name mode h
command_back (OpenRel name) h = (one_back name h).4
command_back (Peek name field) h = (shown_back name field h).1
command_back (CloseRel name) h = (one_back name h).5
command_back (CreateTable name columns) h = table_back name columns h.0 h.1
command_back (DropTable name) h = (one_back name h).6
command_back (RenameTable name to) h = (two_back name to h.0 h.1).1
command_back (AddColumn name column col_type) h = add_column_back name column col_type h.0 h.1
command_back (DropColumn name column) h = (two_back name column h.0 h.1).2
command_back (RenameColumn name column to) h = rename_column_back name column to h.0 h.1 h.2
command_back (SetDefault name column word) h = default_back name column word h.0 h.1 h.2
command_back (SetStatistics name column stat) h = statistics_back name column stat h.0 h.1 h.2
command_back (SetFillfactor name fill) h = fillfactor_back name fill h.0 h.1
command_back (AddCheck name constraint text valid) h = check_back name constraint text valid h.0 h.1 h.2
command_back (AddForeign name constraint column refers ref_column valid) h = foreign_back name constraint column refers ref_column valid h.0 h.1 h.2 h.3 h.4
command_back (ValidateConstraint name constraint) h = (two_back name constraint h.0 h.1).3
command_back (DropConstraint name constraint) h = (two_back name constraint h.0 h.1).4
command_back (SetTrigger name trigger true) h = (pair_back name trigger h.0 h.1).0
command_back (SetTrigger name trigger false) h = (pair_back name trigger h.0 h.1).1
command_back (CreateTrigger name trigger) h = trigger_back name trigger h.0 h.1
command_back (CreateIndex name on_table columns) h = index_back name on_table columns h.0 h.1 h.2 h.3
command_back (DropIndex name) h = (one_back name h).7
command_back (RenameIndex name to) h = (pair_back name to h.0 h.1).2

-- ---- pieces

-- a text that a test finds to be a piece
abbrev may_stand : List ℕ → Bool
may_stand text = nat_le 1 (length text) && list_all is_clean text

found : (some clean : Bool) → some && clean ≡ true → (some ≡ true) × (clean ≡ true)
found true clean h = (refl, h)
found false clean h = absurd cc

is_some : (n : ℕ) → nat_le 1 n ≡ true → 1 ≤ n
is_some n h = grind (arith, nat_tests)

fixed : (text : List ℕ) → may_stand text ≡ true → IsPiece text
fixed text h = let parts = found (nat_le 1 (length text)) (list_all is_clean text) h in (is_some (length text) parts.0, each_byte is_clean (λ b. is_clean b ≡ true) (λ b e. e) text parts.1)

all_of_both : {X : Type 0} (P : X → Type 0) (xs ys : List X) → AllByRecursion P xs → AllByRecursion P ys → AllByRecursion P (xs ++ ys)
all_of_both P [] ys h k = k
all_of_both P (x ∷ xs) ys h k = (h.0, all_of_both P xs ys h.1 k)

type_piece : (t : ColType) → IsPiece (type_word t)
type_piece types.Bool = fixed (codes "bool") refl
type_piece types.Int2 = fixed (codes "int2") refl
type_piece types.Int4 = fixed (codes "int4") refl
type_piece types.Int8 = fixed (codes "int8") refl
type_piece types.Text = fixed (codes "text") refl
type_piece types.Bytea = fixed (codes "bytea") refl
type_piece types.Date = fixed (codes "date") refl
type_piece types.Timestamptz = fixed (codes "timestamptz") refl

field_piece : (f : Field) → IsPiece (field_word f)
field_piece fields.Name = fixed (codes "name") refl
field_piece fields.Columns = fixed (codes "columns") refl
field_piece fields.Defaults = fixed (codes "defaults") refl
field_piece fields.Statistics = fixed (codes "statistics") refl
field_piece fields.Fillfactor = fixed (codes "fillfactor") refl
field_piece fields.Constraints = fixed (codes "constraints") refl
field_piece fields.Referenced = fixed (codes "referenced") refl
field_piece fields.Indexes = fixed (codes "indexes") refl
field_piece fields.Triggers = fixed (codes "triggers") refl
field_piece fields.Of = fixed (codes "of") refl
field_piece fields.Valid = fixed (codes "valid") refl

mode_piece : (m : Mode) → IsPiece (lock_words m)
mode_piece AccessShare = fixed (lock_words AccessShare) refl
mode_piece RowShare = fixed (lock_words RowShare) refl
mode_piece RowExclusive = fixed (lock_words RowExclusive) refl
mode_piece ShareUpdateExclusive = fixed (lock_words ShareUpdateExclusive) refl
mode_piece Share = fixed (lock_words Share) refl
mode_piece ShareRowExclusive = fixed (lock_words ShareRowExclusive) refl
mode_piece Exclusive = fixed (lock_words Exclusive) refl
mode_piece AccessExclusive = fixed (lock_words AccessExclusive) refl

trigger_piece : (on : Bool) → IsPiece (trigger_words on)
trigger_piece true = fixed (codes "enable trigger") refl
trigger_piece false = fixed (codes "disable trigger") refl

valid_clean : (valid : Bool) → AllByRecursion IsPiece (valid_pieces valid)
valid_clean true = tt
valid_clean false = (fixed (codes "not valid") refl, tt)

shown_clean : (words name : List ℕ) (field : Option Field) → IsPiece words → IsName name → AllByRecursion IsPiece (shown_pieces words name field)
shown_clean words name None piece h = (piece, (name_piece name h, tt))
shown_clean words name (Some f) piece h = (piece, (name_piece name h, (field_piece f, tt)))

-- a list with its closing parenthesis
more_columns_clean : (columns : List NewColumn) → AllByRecursion (λ c. IsName c.name) columns → AllByRecursion IsPiece (flat_map (λ c. codes "," ∷ column_pieces c) columns)
more_columns_clean [] h = tt
more_columns_clean (c ∷ columns) h = (fixed (codes ",") refl, (name_piece c.name h.0, (type_piece c.col_type, more_columns_clean columns h.1)))

columns_clean : (columns : List NewColumn) → AllByRecursion (λ c. IsName c.name) columns → AllByRecursion IsPiece (listed column_pieces columns ++ codes ")" ∷ [])
unfolding listed
columns_clean [] h = (fixed (codes ")") refl, tt)
columns_clean (c ∷ columns) h = (name_piece c.name h.0, (type_piece c.col_type, all_of_both IsPiece (flat_map (λ d. codes "," ∷ column_pieces d) columns) (codes ")" ∷ []) (more_columns_clean columns h.1) (fixed (codes ")") refl, tt)))

more_names_clean : (names : List (List ℕ)) → AllByRecursion IsName names → AllByRecursion IsPiece (flat_map (λ n. codes "," ∷ name_pieces n) names)
more_names_clean [] h = tt
more_names_clean (n ∷ names) h = (fixed (codes ",") refl, (name_piece n h.0, more_names_clean names h.1))

names_clean : (names : List (List ℕ)) → AllByRecursion IsName names → AllByRecursion IsPiece (listed name_pieces names ++ codes ")" ∷ [])
unfolding listed
names_clean [] h = (fixed (codes ")") refl, tt)
names_clean (n ∷ names) h = (name_piece n h.0, all_of_both IsPiece (flat_map (λ m. codes "," ∷ name_pieces m) names) (codes ")" ∷ []) (more_names_clean names h.1) (fixed (codes ")") refl, tt))

-- a line may be made of the pieces of a command
pub pieces_clean : (c : Command) → IsCommand c → AllByRecursion IsPiece (command_pieces c)
pieces_clean Begin h = (fixed (codes "begin") refl, tt)
pieces_clean Commit h = (fixed (codes "commit") refl, tt)
pieces_clean Rollback h = (fixed (codes "rollback") refl, tt)
pieces_clean (Savepoint name) h = (fixed (codes "savepoint") refl, (name_piece name h, tt))
pieces_clean (Release name) h = (fixed (codes "release") refl, (name_piece name h, tt))
pieces_clean (RollbackTo name) h = (fixed (codes "rollback to") refl, (name_piece name h, tt))
pieces_clean (Show name field) h = shown_clean (codes "show") name field (fixed (codes "show") refl) h
pieces_clean (Columns name) h = (fixed (codes "columns") refl, (name_piece name h, tt))
pieces_clean (Column name column) h = (fixed (codes "column") refl, (name_piece name h.0, (name_piece column h.1, tt)))
pieces_clean (Regclass oid) h = (fixed (codes "regclass") refl, (number_piece oid.0, tt))
pieces_clean (LockTable name mode) h = (fixed (codes "lock table") refl, (name_piece name h, (mode_piece mode, tt)))
pieces_clean (OpenRel name) h = (fixed (codes "open") refl, (name_piece name h, tt))
pieces_clean (Peek name field) h = shown_clean (codes "peek") name field (fixed (codes "peek") refl) h
pieces_clean (CloseRel name) h = (fixed (codes "close") refl, (name_piece name h, tt))
pieces_clean (CreateTable name columns) h = (fixed (codes "create table") refl, (name_piece name h.0, (fixed (codes "(") refl, columns_clean columns h.1)))
pieces_clean (DropTable name) h = (fixed (codes "drop table") refl, (name_piece name h, tt))
pieces_clean (RenameTable name to) h = (fixed (codes "alter table") refl, (name_piece name h.0, (fixed (codes "rename to") refl, (name_piece to h.1, tt))))
pieces_clean (AddColumn name column col_type) h = (fixed (codes "alter table") refl, (name_piece name h.0, (fixed (codes "add column") refl, (name_piece column h.1, (type_piece col_type, tt)))))
pieces_clean (DropColumn name column) h = (fixed (codes "alter table") refl, (name_piece name h.0, (fixed (codes "drop column") refl, (name_piece column h.1, tt))))
pieces_clean (RenameColumn name column to) h = (fixed (codes "alter table") refl, (name_piece name h.0, (fixed (codes "rename column") refl, (name_piece column h.1, (fixed (codes "to") refl, (name_piece to h.2, tt))))))
pieces_clean (SetDefault name column word) h = (fixed (codes "alter table") refl, (name_piece name h.0, (fixed (codes "alter column") refl, (name_piece column h.1, (fixed (codes "set default") refl, (word_piece word h.2, tt))))))
pieces_clean (SetStatistics name column stat) h = (fixed (codes "alter table") refl, (name_piece name h.0, (fixed (codes "alter column") refl, (name_piece column h.1, (fixed (codes "set statistics") refl, (stat_piece stat, tt))))))
pieces_clean (SetFillfactor name fill) h = (fixed (codes "alter table") refl, (name_piece name h.0, (fixed (codes "set (fillfactor =") refl, (number_piece fill, (fixed (codes ")") refl, tt)))))
pieces_clean (AddCheck name constraint text valid) h = (fixed (codes "alter table") refl, (name_piece name h.0, (fixed (codes "add constraint") refl, (name_piece constraint h.1, (fixed (codes "check (") refl, (text_piece text h.2, (fixed (codes ")") refl, valid_clean valid)))))))
pieces_clean (AddForeign name constraint column refers ref_column valid) h = (fixed (codes "alter table") refl, (name_piece name h.0, (fixed (codes "add constraint") refl, (name_piece constraint h.1, (fixed (codes "foreign key (") refl, (name_piece column h.2, (fixed (codes ") references") refl, (name_piece refers h.3, (fixed (codes "(") refl, (name_piece ref_column h.4, (fixed (codes ")") refl, valid_clean valid)))))))))))
pieces_clean (ValidateConstraint name constraint) h = (fixed (codes "alter table") refl, (name_piece name h.0, (fixed (codes "validate constraint") refl, (name_piece constraint h.1, tt))))
pieces_clean (DropConstraint name constraint) h = (fixed (codes "alter table") refl, (name_piece name h.0, (fixed (codes "drop constraint") refl, (name_piece constraint h.1, tt))))
pieces_clean (SetTrigger name trigger on) h = (fixed (codes "alter table") refl, (name_piece name h.0, (trigger_piece on, (name_piece trigger h.1, tt))))
pieces_clean (CreateTrigger name trigger) h = (fixed (codes "create trigger") refl, (name_piece trigger h.1, (fixed (codes "on") refl, (name_piece name h.0, tt))))
pieces_clean (CreateIndex name on_table columns) h = (fixed (codes "create index") refl, (name_piece name h.0, (fixed (codes "on") refl, (name_piece on_table h.1, (fixed (codes "(") refl, names_clean columns h.3)))))
pieces_clean (DropIndex name) h = (fixed (codes "drop index") refl, (name_piece name h, tt))
pieces_clean (RenameIndex name to) h = (fixed (codes "alter index") refl, (name_piece name h.0, (fixed (codes "rename to") refl, (name_piece to h.1, tt))))
