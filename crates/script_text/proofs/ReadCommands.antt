-- What is read of tokens is a command that a script may hold.
use Rattle.std.proofs.Common.{◌≡◌, ◌<◌, ◌^◌, ℕ, pos, neg_ℤ, nat_abs, zero, suc, Bool, true, false, cond, not, ◌||◌, ◌==◌, Option, Some, None, List, [], ◌∷◌, length, codes, nat_lt, Result, Ok, Err, refl, sym, subst}
use Rattle.std.specs.List.{AllByRecursion, list_all}
use Rattle.std.specs.Option.{IfSome, option_map, option_or}
use Rattle.std.specs.Result.{IfOk}
use Rattle.std.specs.Str.{bytes_eq}
use Rattle.std.proofs.lemmas.Option.{none-some, same_Some}
use Rattle.base_types.specs.Names.{IsName, IsWord, IsText, is_digit, number_of_digits, is_word_byte, is_text_byte, name_fault, short_fault}
use Rattle.base_types.specs.Commands.{IsCommand, IsShortNumber, IsNonEmpty}
use Rattle.base_types.specs.declared.command.Command.{Command}
use Rattle.base_types.specs.declared.command.Command.TheVariants.{Begin, Commit, Rollback, Savepoint, Release, RollbackTo, Show, Columns, Column, Peek, OpenRel, CloseRel, DropTable, DropIndex, RenameTable, DropColumn, ValidateConstraint, DropConstraint, SetTrigger, CreateTrigger, RenameIndex}
use Rattle.base_types.specs.declared.command.NewColumn.{NewColumn}
use Rattle.script_text.specs.Tokens.{◌>>=◌, said, taken, after, is_end, ends, done}
use Rattle.script_text.specs.Operands.{number_of, stat_of, if_none, plain_name_of, word_of, check_text_of, type_of}
use Rattle.script_text.specs.Commands.{name_after, one_name, names_after, two_names, optional_field, shown_after, bare_command, savepoint_command, name_command, show_command, table_command, pair_command, regclass_command, lock_mode, lock_command, add_column_command, rename_column_command, default_command, statistics_command, fillfactor_command, enclosed, enclosed_text, validity, check_part, check_command, referred_part, key_part, foreign_command, items_after, columns_at, enclosed_columns, create_table_command, names_at, enclosed_names, create_index_command, short_command, alter_command, long_command}
use Rattle.script_text.proofs.DigitBounds.{few_digits, at_most}

-- what holds of all that a reading gives
record Gives {A : Type 0} (read : Option A) (P : A → Type 0) : Type 0 where
  pub each : (x : A) → read ≡ Some x → P x

nothing : {A : Type 0} (P : A → Type 0) → Gives None P
nothing P = record { each = λ x e. absurd (none-some x e) }

given : {A : Type 0} (x : A) (P : A → Type 0) → P x → Gives (Some x) P
given x P h = record { each = λ y e. subst P (same_Some x y e) h }

-- where a reading knows what another gave
then_from : {A B : Type 0} {o : Option A} {f : A → Option B} {Q : A → Type 0} {P : B → Type 0} → Gives o Q → ((x : A) → Q x → Gives (f x) P) → Gives (o >>= f) P
then_from {o = None} {P = P} first h = nothing P
then_from {o = Some x} first h = h x (first.each x refl)

then_each : {A B : Type 0} (o : Option A) {f : A → Option B} {P : B → Type 0} → ((x : A) → Gives (f x) P) → Gives (o >>= f) P
then_each None {P = P} h = nothing P
then_each (Some x) h = h x

mapped : {A B : Type 0} {o : Option A} {Q : A → Type 0} (f : A → B) (P : B → Type 0) → Gives o Q → ((x : A) → Q x → P (f x)) → Gives (option_map f o) P
mapped {o = None} f P first h = nothing P
mapped {o = Some x} f P first h = given (f x) P (h x (first.each x refl))

weaker : {A : Type 0} {o : Option A} {Q : A → Type 0} (P : A → Type 0) → Gives o Q → ((x : A) → Q x → P x) → Gives o P
weaker P first h = record { each = λ x e. h x (first.each x e) }

either : {A : Type 0} {o p : Option A} {P : A → Type 0} → Gives o P → Gives p P → Gives (option_or o p) P
either {o = None} h k = k
either {o = Some x} h k = h

one_of : {A : Type 0} (b : Bool) {o p : Option A} {P : A → Type 0} → Gives o P → Gives p P → Gives (cond b o p) P
one_of true h k = h
one_of false h k = k

chosen : {A : Type 0} (b : Bool) (x : A) (P : A → Type 0) → P x → Gives (cond b (Some x) None) P
chosen b x P h = one_of b (given x P h) (nothing P)

-- a text that is read has no fault
faultless_by : {F : Type 0} (fault : List ℕ → Option F) (text : List ℕ) (found : Option F) → fault text ≡ found → Gives (if_none found text) (λ t. fault t ≡ None)
faultless_by fault text None e = given text _ e
faultless_by fault text (Some f) e = nothing _

name_read : (text : List ℕ) → Gives (plain_name_of text) IsName
unfolding plain_name_of
name_read text = faultless_by name_fault text (name_fault text) refl

word_read : (text : List ℕ) → Gives (word_of text) IsWord
unfolding word_of
word_read text = faultless_by (short_fault is_word_byte) text (short_fault is_word_byte text) refl

text_read : (text : List ℕ) → Gives (check_text_of text) IsText
unfolding check_text_of
text_read text = faultless_by (short_fault is_text_byte) text (short_fault is_text_byte text) refl

accepted : (empty long digits : Bool) → empty || long || not digits ≡ false → (long ≡ false) × (digits ≡ true)
accepted false false true h = (refl, refl)
accepted false false false h = absurd cc
accepted false true digits h = absurd cc
accepted true long digits h = absurd cc

number_by : (most : ℕ) (text : List ℕ) (refused : Bool) → (length text == 0) || nat_lt most (length text) || not (list_all is_digit text) ≡ refused → Gives (cond refused None (Some (number_of_digits text))) (λ n. n < 10 ^ most)
number_by most text true e = nothing _
number_by most text false e =
    let parts = accepted (length text == 0) (nat_lt most (length text)) (list_all is_digit text) e in
    given _ _ (few_digits text most (at_most (length text) most parts.0) parts.1)

-- a number is below the power of ten of its digits
number_read : (most : ℕ) (text : List ℕ) → Gives (number_of most text) (λ n. n < 10 ^ most)
unfolding number_of
number_read most text = number_by most text ((length text == 0) || nat_lt most (length text) || not (list_all is_digit text)) refl

-- a number of nine digits at most, and its opposite
abs_of : (n : ℕ) → n < 1000000000 → nat_abs (pos n) < 1000000000
abs_of n h = h

abs_of_opposite : (n : ℕ) → n < 1000000000 → nat_abs (neg_ℤ (pos n)) < 1000000000
abs_of_opposite zero h = h
abs_of_opposite (suc n) h = h

stat_by : (text bytes : List ℕ) (minus : Bool) → Gives (cond minus (option_map (λ n. neg_ℤ (pos n)) (number_of 9 bytes)) (option_map (λ n. pos n) (number_of 9 text))) (λ z. IsShortNumber (nat_abs z))
stat_by text bytes minus = one_of minus (mapped _ _ (number_read 9 bytes) abs_of_opposite) (mapped _ _ (number_read 9 text) abs_of)

stat_read : (text : List ℕ) → Gives (stat_of text) (λ z. IsShortNumber (nat_abs z))
unfolding stat_of
stat_read [] = nothing _
stat_read (byte ∷ bytes) = stat_by (byte ∷ bytes) bytes (byte == 45)

-- the token after words
taken_read : {X : Type 0} (of : List ℕ → Option X) (P : X → Type 0) → ((text : List ℕ) → Gives (of text) P) → (ts : List (List ℕ)) → Gives (taken of ts) (λ r. P r.0)
taken_read of P each [] = nothing _
taken_read of P each (t ∷ ts) = mapped (λ x. (x, ts)) (λ r. P r.0) (each t) (λ x h. h)

after_read : {X : Type 0} (of : List ℕ → Option X) (P : X → Type 0) → ((text : List ℕ) → Gives (of text) P) → (text : List ℕ) (ts : List (List ℕ)) → Gives (after text of ts) (λ r. P r.0)
unfolding after
after_read of P each text ts = then_each (said text ts) (taken_read of P each)

name_after_read : (text : List ℕ) (ts : List (List ℕ)) → Gives (name_after text ts) (λ r. IsName r.0)
name_after_read text ts = after_read plain_name_of IsName name_read text ts

done_read : {X : Type 0} (text : List ℕ) (ts : List (List ℕ)) (x : X) (P : X → Type 0) → P x → Gives (done text ts x) P
done_read text ts x P h = chosen (ends text ts) x P h

one_read : (text : List ℕ) (ts : List (List ℕ)) → Gives (one_name text ts) IsName
unfolding one_name
one_read text ts = then_from (name_after_read text ts) (λ r h. done_read [] r.1 r.0 IsName h)

abbrev AreNames : List ℕ × List ℕ → Type 0
AreNames names = IsName names.0 × IsName names.1

names_read : (text further : List ℕ) (ts : List (List ℕ)) → Gives (names_after text further ts) (λ r. AreNames r.0)
unfolding names_after
names_read text further ts = then_from (name_after_read text ts) (λ r h. then_from (name_after_read further r.1) (λ s k. given _ _ (h, k)))

two_read : (text further : List ℕ) (ts : List (List ℕ)) → Gives (two_names text further ts) AreNames
unfolding two_names
two_read text further ts = then_from (names_read text further ts) (λ r h. done_read [] r.1 r.0 AreNames h)

-- a command of one name, and one of two
of_one : (text : List ℕ) (command : List ℕ → Command) (ts : List (List ℕ)) → ((name : List ℕ) → IsName name → IsCommand (command name)) → Gives (option_map command (one_name text ts)) IsCommand
of_one text command ts made = mapped command IsCommand (one_read text ts) made

of_two : (text further : List ℕ) (command : List ℕ × List ℕ → Command) (ts : List (List ℕ)) → ((names : List ℕ × List ℕ) → AreNames names → IsCommand (command names)) → Gives (option_map command (two_names text further ts)) IsCommand
of_two text further command ts made = mapped command IsCommand (two_read text further ts) made

bare_read : (ts : List (List ℕ)) → Gives (bare_command ts) IsCommand
unfolding bare_command
bare_read ts = one_of (ends (codes "begin") ts) (given Begin IsCommand tt) (one_of (ends (codes "commit") ts) (given Commit IsCommand tt) (one_of (ends (codes "rollback") ts) (given Rollback IsCommand tt) (nothing IsCommand)))

savepoint_read : (ts : List (List ℕ)) → Gives (savepoint_command ts) IsCommand
unfolding savepoint_command
savepoint_read ts =
    either (of_one (codes "savepoint") Savepoint ts (λ n h. h))
    (either (of_one (codes "release") Release ts (λ n h. h))
    (either (of_one (codes "release savepoint") Release ts (λ n h. h))
    (either (of_one (codes "rollback to") RollbackTo ts (λ n h. h))
    (of_one (codes "rollback to savepoint") RollbackTo ts (λ n h. h)))))

named_read : (ts : List (List ℕ)) → Gives (name_command ts) IsCommand
unfolding name_command
named_read ts =
    either (of_one (codes "columns") Columns ts (λ n h. h))
    (either (of_one (codes "open") OpenRel ts (λ n h. h))
    (either (of_one (codes "close") CloseRel ts (λ n h. h))
    (either (of_one (codes "drop table") DropTable ts (λ n h. h))
    (of_one (codes "drop index") DropIndex ts (λ n h. h)))))

shown_read : (text : List ℕ) (ts : List (List ℕ)) → Gives (shown_after text ts) (λ s. IsName s.0)
unfolding shown_after
shown_read text ts = then_from (name_after_read text ts) (λ r h. then_each (optional_field r.1) (λ field. given _ _ h))

show_read : (ts : List (List ℕ)) → Gives (show_command ts) IsCommand
unfolding show_command
show_read ts =
    either (mapped (λ s. Show s.0 s.1) IsCommand (shown_read (codes "show") ts) (λ s h. h))
    (mapped (λ s. Peek s.0 s.1) IsCommand (shown_read (codes "peek") ts) (λ s h. h))

table_read : (ts : List (List ℕ)) → Gives (table_command ts) IsCommand
unfolding table_command
table_read ts =
    either (of_two (codes "column") [] (λ n. Column n.0 n.1) ts (λ n h. h))
    (either (of_two (codes "alter table") (codes "rename to") (λ n. RenameTable n.0 n.1) ts (λ n h. h))
    (either (of_two (codes "alter table") (codes "drop column") (λ n. DropColumn n.0 n.1) ts (λ n h. h))
    (either (of_two (codes "alter table") (codes "validate constraint") (λ n. ValidateConstraint n.0 n.1) ts (λ n h. h))
    (of_two (codes "alter table") (codes "drop constraint") (λ n. DropConstraint n.0 n.1) ts (λ n h. h)))))

pair_read : (ts : List (List ℕ)) → Gives (pair_command ts) IsCommand
unfolding pair_command
pair_read ts =
    either (of_two (codes "alter table") (codes "enable trigger") (λ n. SetTrigger n.0 n.1 true) ts (λ n h. h))
    (either (of_two (codes "alter table") (codes "disable trigger") (λ n. SetTrigger n.0 n.1 false) ts (λ n h. h))
    (either (of_two (codes "create trigger") (codes "on") (λ n. CreateTrigger n.1 n.0) ts (λ n h. (h.1, h.0)))
    (of_two (codes "alter index") (codes "rename to") (λ n. RenameIndex n.0 n.1) ts (λ n h. h))))

regclass_read : (ts : List (List ℕ)) → Gives (regclass_command ts) IsCommand
unfolding regclass_command
regclass_read ts = then_from (after_read (number_of 9) IsShortNumber (number_read 9) (codes "regclass") ts) (λ r h. done_read [] r.1 _ IsCommand h)

lock_read : (ts : List (List ℕ)) → Gives (lock_command ts) IsCommand
unfolding lock_command
lock_read ts = then_from (name_after_read (codes "lock table") ts) (λ r h. then_each (lock_mode r.1) (λ mode. given _ IsCommand h))

short_read : (ts : List (List ℕ)) → Gives (short_command ts) IsCommand
unfolding short_command
short_read ts = either (bare_read ts) (either (savepoint_read ts) (either (named_read ts) (either (show_read ts) (either (table_read ts) (either (pair_read ts) (either (regclass_read ts) (lock_read ts)))))))

add_column_read : (ts : List (List ℕ)) → Gives (add_column_command ts) IsCommand
unfolding add_column_command
add_column_read ts = then_from (names_read (codes "alter table") (codes "add column") ts) (λ r h. then_each (taken type_of r.1) (λ t. done_read [] t.1 _ IsCommand h))

rename_column_read : (ts : List (List ℕ)) → Gives (rename_column_command ts) IsCommand
unfolding rename_column_command
rename_column_read ts = then_from (names_read (codes "alter table") (codes "rename column") ts) (λ r h. then_from (name_after_read (codes "to") r.1) (λ to k. done_read [] to.1 _ IsCommand (h.0, h.1, k)))

default_read : (ts : List (List ℕ)) → Gives (default_command ts) IsCommand
unfolding default_command
default_read ts = then_from (names_read (codes "alter table") (codes "alter column") ts) (λ r h. then_from (after_read word_of IsWord word_read (codes "set default") r.1) (λ w k. done_read [] w.1 _ IsCommand (h.0, h.1, k)))

statistics_read : (ts : List (List ℕ)) → Gives (statistics_command ts) IsCommand
unfolding statistics_command
statistics_read ts = then_from (names_read (codes "alter table") (codes "alter column") ts) (λ r h. then_from (after_read stat_of (λ z. IsShortNumber (nat_abs z)) stat_read (codes "set statistics") r.1) (λ z k. done_read [] z.1 _ IsCommand (h.0, h.1, k)))

fillfactor_read : (ts : List (List ℕ)) → Gives (fillfactor_command ts) IsCommand
unfolding fillfactor_command
fillfactor_read ts = then_from (name_after_read (codes "alter table") ts) (λ r h. then_from (after_read (number_of 9) IsShortNumber (number_read 9) (codes "set (fillfactor =") r.1) (λ n k. done_read (codes ")") n.1 _ IsCommand (h, k)))

enclosed_read : (ts : List (List ℕ)) → Gives (enclosed_text ts) (λ r. IsText r.0)
unfolding enclosed_text
enclosed_read ts = then_each (enclosed ts) (λ inside. then_from (text_read inside.0) (λ text h. given _ _ h))

check_part_read : (ts : List (List ℕ)) → Gives (check_part ts) (λ r. IsText r.0)
unfolding check_part
check_part_read ts = then_each (said (codes "check (") ts) (λ rest. then_from (enclosed_read rest) (λ text h. then_each (validity text.1) (λ valid. given _ _ h)))

check_read : (ts : List (List ℕ)) → Gives (check_command ts) IsCommand
unfolding check_command
check_read ts = then_from (names_read (codes "alter table") (codes "add constraint") ts) (λ r h. then_from (check_part_read r.1) (λ what k. given _ IsCommand (h.0, h.1, k)))

referred_read : (ts : List (List ℕ)) → Gives (referred_part ts) (λ r. IsName r.0)
unfolding referred_part
referred_read ts = then_from (name_after_read (codes "(") ts) (λ r h. then_each (said (codes ")") r.1) (λ rest. then_each (validity rest) (λ valid. given _ _ h)))

key_read : (ts : List (List ℕ)) → Gives (key_part ts) (λ k. IsName k.0 × IsName k.1 × IsName k.2)
unfolding key_part
key_read ts = then_from (names_read (codes "foreign key (") (codes ") references") ts) (λ r h. then_from (referred_read r.1) (λ s k. given _ _ (h.0, h.1, k)))

foreign_read : (ts : List (List ℕ)) → Gives (foreign_command ts) IsCommand
unfolding foreign_command
foreign_read ts = then_from (names_read (codes "alter table") (codes "add constraint") ts) (λ r h. then_from (key_read r.1) (λ key k. given _ IsCommand (h.0, h.1, k.0, k.1, k.2)))

alter_read : (ts : List (List ℕ)) → Gives (alter_command ts) IsCommand
unfolding alter_command
alter_read ts = either (add_column_read ts) (either (rename_column_read ts) (either (default_read ts) (either (statistics_read ts) (either (fillfactor_read ts) (either (check_read ts) (foreign_read ts))))))

-- what holds of an item and of the others holds of the list, which isn't empty
items_read : {X : Type 0} (item : X) (mark : List ℕ) (ts : List (List ℕ)) (others : Option (List X)) (P : X → Type 0) → P item → Gives others (λ xs. IsNonEmpty xs × AllByRecursion P xs)
    → Gives (items_after item mark ts others) (λ xs. IsNonEmpty xs × AllByRecursion P xs)
items_read item mark ts others P here more =
    one_of (bytes_eq mark (codes ",")) (mapped (λ xs. item ∷ xs) _ more (λ xs h. (tt, (here, h.1))))
    (one_of (bytes_eq mark (codes ")")) (chosen (is_end ts) (item ∷ []) (λ xs. IsNonEmpty xs × AllByRecursion P xs) (tt, (here, tt))) (nothing _))

columns_read : (ts : List (List ℕ)) → Gives (columns_at ts) (λ xs. IsNonEmpty xs × AllByRecursion (λ (column : NewColumn). IsName column.name) xs)
unfolding columns_at
columns_read [] = nothing _
columns_read (a ∷ []) = nothing _
columns_read (a ∷ b ∷ []) = nothing _
columns_read (a ∷ b ∷ mark ∷ ts) = then_from (name_read a) (λ name h. then_each (type_of b) (λ t. items_read _ mark ts (columns_at ts) (λ (column : NewColumn). IsName column.name) h (columns_read ts)))

enclosed_columns_read : (ts : List (List ℕ)) → Gives (enclosed_columns ts) (λ xs. AllByRecursion (λ (column : NewColumn). IsName column.name) xs)
unfolding enclosed_columns
enclosed_columns_read ts = one_of (ends (codes "()") ts) (given [] _ tt) (then_each (said (codes "(") ts) (λ rest. weaker _ (columns_read rest) (λ xs h. h.1)))

create_table_read : (ts : List (List ℕ)) → Gives (create_table_command ts) IsCommand
unfolding create_table_command
create_table_read ts = then_from (name_after_read (codes "create table") ts) (λ r h. then_from (enclosed_columns_read r.1) (λ xs k. given _ IsCommand (h, k)))

listed_read : (ts : List (List ℕ)) → Gives (names_at ts) (λ xs. IsNonEmpty xs × AllByRecursion IsName xs)
unfolding names_at
listed_read [] = nothing _
listed_read (a ∷ []) = nothing _
listed_read (a ∷ mark ∷ ts) = then_from (name_read a) (λ name h. items_read name mark ts (names_at ts) IsName h (listed_read ts))

enclosed_names_read : (ts : List (List ℕ)) → Gives (enclosed_names ts) (λ xs. IsNonEmpty xs × AllByRecursion IsName xs)
unfolding enclosed_names
enclosed_names_read ts = then_each (said (codes "(") ts) listed_read

create_index_read : (ts : List (List ℕ)) → Gives (create_index_command ts) IsCommand
unfolding create_index_command
create_index_read ts = then_from (names_read (codes "create index") (codes "on") ts) (λ r h. then_from (enclosed_names_read r.1) (λ xs k. given _ IsCommand (h.0, h.1, k.0, k.1)))

long_read : (ts : List (List ℕ)) → Gives (long_command ts) IsCommand
unfolding long_command
long_read ts = either (create_table_read ts) (create_index_read ts)

-- what the three groups of commands give is a command that a script may hold
pub short_made : (ts : List (List ℕ)) (c : Command) → short_command ts ≡ Some c → IsCommand c
short_made ts c same = (short_read ts).each c same

pub alter_made : (ts : List (List ℕ)) (c : Command) → alter_command ts ≡ Some c → IsCommand c
alter_made ts c same = (alter_read ts).each c same

pub long_made : {E : Type 0} (ts : List (List ℕ)) (found : Result (Option Command) E) → IfOk found (λ read. read ≡ long_command ts) → IfOk found (λ read. IfSome read IsCommand)
long_made ts (Err e) h = tt
long_made ts (Ok None) h = tt
long_made ts (Ok (Some c)) h = (long_read ts).each c (sym h)
