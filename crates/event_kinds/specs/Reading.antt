-- How an entry's line is read.
use Rattle.std.specs.Prelude.{ℕ, ℤ, pos, negsuc, zero, suc, Bool, true, false, not, ◌&&◌, ◌||◌, ◌==◌, nat_lt, nat_le, ◌^◌, Option, Some, None, is_none, List, [], ◌∷◌, length, take, drop, ◌-◌, codes, decimal, if◌then◌else◌}
use Rattle.std.specs.List.{find}
use Rattle.std.specs.Str.{bytes_eq}
use Rattle.base_types.specs.Names.{is_digit, is_word_byte, is_text_byte, short_fault, name_fault, number_of_digits, dropped_name}
use Rattle.base_types.specs.Words.{mode_word, kind_word, type_word, state_word, valid_word, live_word, on_word, modes, col_types}
use Rattle.event_kinds.specs.Events.{Mode, Kind, ColType, IndexState, ConKind, Row, RowKey, Purpose, Item, Event, Entry}
use Rattle.base_types.specs.declared.kind.Kind.TheVariants.{Table, Index}
use Rattle.base_types.specs.declared.index_state.IndexState.TheVariants.{Neither, Valid}
use Rattle.base_types.specs.declared.row.ConKind.TheVariants as kinds
use Rattle.base_types.specs.declared.row.Row.TheVariants as rows
use Rattle.base_types.specs.declared.row_key.RowKey.TheVariants as keys
use Rattle.base_types.specs.declared.scan.Purpose.TheVariants as scans
use Rattle.event_kinds.specs.declared.entry.Item.TheVariants as items
use Rattle.event_kinds.specs.declared.entry.Event.TheVariants as events
use Rattle.event_kinds.specs.Readers.{◌>>=◌, Reader, field_at, pair_at, then_at, as_at, check_at, none_at, or_at, choose_at, more_at}

-- a byte that is no blank, comma, parenthesis or line's end
abbrev pub in_token : ℕ → Bool
in_token byte = not ((byte == 32) || (byte == 44) || (byte == 40) || (byte == 41) || (byte == 10))

-- the number of four bytes that is written so
unfoldable pub number_of : List ℕ → Option ℕ
number_of text = if bytes_eq (decimal (number_of_digits text)) text && nat_lt (number_of_digits text) (2 ^ 32) then Some (number_of_digits text) else None

-- the digits of a dropped column's number, where the text is such a name
abbrev pub shown_digits : List ℕ → List ℕ
shown_digits text = take (length text - 8 - 19) (drop 19 text)

-- the text is a dropped column's name
unfoldable pub is_dropped_name : List ℕ → Bool
is_dropped_name text = nat_lt 0 (number_of_digits (shown_digits text)) && nat_le (number_of_digits (shown_digits text)) 1600 && bytes_eq text (dropped_name (number_of_digits (shown_digits text)))

-- a name that a column may have
unfoldable pub any_name_of : List ℕ → Option (List ℕ)
any_name_of text = if is_none (name_fault text) || is_dropped_name text then Some text else None

-- the word of a default
unfoldable pub word_of : List ℕ → Option (List ℕ)
word_of text = if is_none (short_fault is_word_byte text) then Some text else None

-- the text of a check
unfoldable pub check_text_of : List ℕ → Option (List ℕ)
check_text_of text = if is_none (short_fault is_text_byte text) then Some text else None

-- the kinds of a relation
abbrev pub kinds_listed : List Kind
kinds_listed = Table ∷ Index ∷ []

-- the states of an index
abbrev pub states : List IndexState
states = Neither ∷ Valid ∷ []

-- the truth values
abbrev pub flags : List Bool
flags = true ∷ false ∷ []

-- the value of a list that has this word
abbrev pub worded : {X : Type 0} → (X → List ℕ) → List X → List ℕ → Option X
worded word xs text = find (λ x. bytes_eq (word x) text) xs

-- a number
unfoldable pub number_at : Reader ℕ
number_at = field_at in_token number_of

-- a number that any byte but a digit ends
unfoldable pub digits_at : Reader ℕ
digits_at = field_at is_digit number_of

-- a name
unfoldable pub name_at : Reader (List ℕ)
name_at = field_at in_token any_name_of

-- the word of a default
unfoldable pub word_at : Reader (List ℕ)
word_at = field_at in_token word_of

-- the text of a check
unfoldable pub text_at : Reader (List ℕ)
text_at = field_at in_token check_text_of

-- a lock mode
unfoldable pub mode_at : Reader Mode
mode_at = field_at in_token (worded mode_word modes)

-- a table or an index
unfoldable pub kind_at : Reader Kind
kind_at = field_at in_token (worded kind_word kinds_listed)

-- the type of a column
unfoldable pub type_at : Reader ColType
type_at = field_at in_token (worded type_word col_types)

-- the state of an index
unfoldable pub state_at : Reader IndexState
state_at = field_at in_token (worded state_word states)

-- a truth value by its letter
unfoldable pub flag_at : (Bool → List ℕ) → Reader Bool
flag_at word = field_at in_token (worded word flags)

-- a number below 0 by its size
abbrev pub minus : ℕ → ℤ
minus zero = pos 0
minus (suc n) = negsuc n

-- a number that may be below 0
unfoldable pub signed_at : Reader ℤ
signed_at = or_at (codes "-") (as_at minus (check_at (λ n. nat_lt 0 n && nat_le n (2 ^ 31)) number_at)) (as_at (λ n. pos n) (check_at (λ n. nat_lt n (2 ^ 31)) number_at))

-- a fillfactor, or a dash
unfoldable pub fill_at : Reader (Option ℕ)
fill_at = or_at (codes "-") (none_at None) (as_at (λ n. Some n) number_at)

-- column numbers with a `+` between them
unfoldable pub nums_at : Reader (List ℕ)
nums_at = as_at (λ p. p.0 ∷ p.1) (pair_at digits_at (more_at (codes "+") digits_at 31))

-- a part and a comma
abbrev pub then_comma : {X : Type 0} → Reader X → Reader X
then_comma f = then_at f (codes ",")

-- a part and a parenthesis
abbrev pub then_paren : {X : Type 0} → Reader X → Reader X
then_paren f = then_at f (codes ")")

-- a part and a blank
abbrev pub then_blank : {X : Type 0} → Reader X → Reader X
then_blank f = then_at f (codes " ")

-- ---- rows

-- the row of `pg_class` with these columns
abbrev pub class_of : ℕ × (List ℕ × (Kind × Option ℕ)) → Row
class_of t = rows.Class (record { 0 = t.0 }) t.1.0 t.1.1.0 t.1.1.1

-- the row of `pg_attribute` with these columns
abbrev pub att_of : ℕ × (ℕ × (List ℕ × (ColType × (ℤ × Bool)))) → Row
att_of t = rows.Att (record { 0 = t.0 }) t.1.0 t.1.1.0 t.1.1.1.0 t.1.1.1.1.0 t.1.1.1.1.1

-- the row of `pg_attrdef` with these columns
abbrev pub def_of : ℕ × (ℕ × (ℕ × List ℕ)) → Row
def_of t = rows.Def (record { 0 = t.0 }) (record { 0 = t.1.0 }) t.1.1.0 t.1.1.1

-- the row of `pg_index` with these columns
abbrev pub ind_of : ℕ × (ℕ × (IndexState × List ℕ)) → Row
ind_of t = rows.Ind (record { 0 = t.0 }) (record { 0 = t.1.0 }) t.1.1.0 t.1.1.1

-- the row of `pg_constraint` with these columns
abbrev pub con_of : ℕ × (ℕ × (List ℕ × (Bool × ConKind))) → Row
con_of t = rows.Con (record { 0 = t.0 }) (record { 0 = t.1.0 }) t.1.1.0 t.1.1.1.0 t.1.1.1.1

-- the row of `pg_trigger` with these columns
abbrev pub trg_of : ℕ × (ℕ × (List ℕ × Bool)) → Row
trg_of t = rows.Trg (record { 0 = t.0 }) (record { 0 = t.1.0 }) t.1.1.0 t.1.1.1

-- a check and whether it is known to hold
abbrev pub check_of : Bool × List ℕ → Bool × ConKind
check_of t = (t.0, kinds.Check t.1)

-- a foreign key and whether it is known to hold
abbrev pub foreign_of : Bool × (ℕ × (ℕ × ℕ)) → Bool × ConKind
foreign_of t = (t.0, kinds.Foreign t.1.0 (record { 0 = t.1.1.0 }) t.1.1.1)

-- what comes after `class(`
unfoldable pub class_at : Reader Row
class_at = as_at class_of (pair_at (then_comma number_at) (pair_at (then_comma name_at) (pair_at (then_comma kind_at) (then_paren fill_at))))

-- what comes after `att(`
unfoldable pub att_at : Reader Row
att_at = as_at att_of (pair_at (then_comma number_at) (pair_at (then_comma number_at) (pair_at (then_comma name_at) (pair_at (then_comma type_at) (pair_at (then_comma signed_at) (then_paren (flag_at live_word)))))))

-- what comes after `def(`
unfoldable pub def_at : Reader Row
def_at = as_at def_of (pair_at (then_comma number_at) (pair_at (then_comma number_at) (pair_at (then_comma number_at) (then_paren word_at))))

-- what comes after `ind(`
unfoldable pub ind_at : Reader Row
ind_at = as_at ind_of (pair_at (then_comma number_at) (pair_at (then_comma number_at) (pair_at (then_comma state_at) (then_paren nums_at))))

-- what comes after `c,` in a constraint
unfoldable pub check_con_at : Reader (Bool × ConKind)
check_con_at = as_at check_of (pair_at (then_comma (flag_at valid_word)) text_at)

-- what comes after `f,` in a constraint
unfoldable pub foreign_con_at : Reader (Bool × ConKind)
foreign_con_at = as_at foreign_of (pair_at (then_comma (flag_at valid_word)) (pair_at (then_comma number_at) (pair_at (then_comma number_at) number_at)))

-- the ways to go on for what_at
abbrev pub what_cases : List (List ℕ × Reader (Bool × ConKind))
what_cases = (codes "c,", check_con_at) ∷ (codes "f,", foreign_con_at) ∷ []

-- what a constraint demands
unfoldable pub what_at : Reader (Bool × ConKind)
what_at = choose_at what_cases

-- what comes after `con(`
unfoldable pub con_at : Reader Row
con_at = as_at con_of (pair_at (then_comma number_at) (pair_at (then_comma number_at) (pair_at (then_comma name_at) (then_paren what_at))))

-- what comes after `trg(`
unfoldable pub trg_at : Reader Row
trg_at = as_at trg_of (pair_at (then_comma number_at) (pair_at (then_comma number_at) (pair_at (then_comma name_at) (then_paren (flag_at on_word)))))

-- the ways to go on for row_at
abbrev pub row_cases : List (List ℕ × Reader Row)
row_cases = (codes "class(", class_at) ∷ (codes "att(", att_at) ∷ (codes "def(", def_at) ∷ (codes "ind(", ind_at) ∷ (codes "con(", con_at) ∷ (codes "trg(", trg_at) ∷ []

-- a row
unfoldable pub row_at : Reader Row
row_at = choose_at row_cases

-- the key of a row of `pg_class`
abbrev pub key_class_of : ℕ → RowKey
key_class_of n = keys.Class (record { 0 = n })

-- the key of a row of `pg_attribute`
abbrev pub key_att_of : ℕ × ℕ → RowKey
key_att_of t = keys.Att (record { 0 = t.0 }) t.1

-- the key of a row of `pg_attrdef`
abbrev pub key_def_of : ℕ → RowKey
key_def_of n = keys.Def (record { 0 = n })

-- the key of a row of `pg_index`
abbrev pub key_ind_of : ℕ → RowKey
key_ind_of n = keys.Ind (record { 0 = n })

-- the key of a row of `pg_constraint`
abbrev pub key_con_of : ℕ → RowKey
key_con_of n = keys.Con (record { 0 = n })

-- the key of a row of `pg_trigger`
abbrev pub key_trg_of : ℕ → RowKey
key_trg_of n = keys.Trg (record { 0 = n })

-- the ways to go on for key_at
abbrev pub key_cases : List (List ℕ × Reader RowKey)
key_cases = (codes "class(", as_at key_class_of (then_paren number_at)) ∷ (codes "att(", as_at key_att_of (pair_at (then_comma number_at) (then_paren number_at))) ∷ (codes "def(", as_at key_def_of (then_paren number_at)) ∷ (codes "ind(", as_at key_ind_of (then_paren number_at)) ∷ (codes "con(", as_at key_con_of (then_paren number_at)) ∷ (codes "trg(", as_at key_trg_of (then_paren number_at)) ∷ []

-- a row's key
unfoldable pub key_at : Reader RowKey
key_at = choose_at key_cases

-- ---- changes

-- the change that forces a message
abbrev pub force_of : ℕ → Item
force_of n = items.Force (record { 0 = n })

-- the ways to go on for item_at
abbrev pub item_cases : List (List ℕ × Reader Item)
item_cases = (codes "+", as_at items.Add row_at) ∷ (codes "=", as_at items.Put row_at) ∷ (codes "-", as_at items.Remove key_at) ∷ (codes "!", as_at force_of number_at) ∷ []

-- a change
unfoldable pub item_at : Reader Item
item_at = choose_at item_cases

-- a change before others
abbrev pub with_item : Item × List Item → List Item
with_item p = p.0 ∷ p.1

-- as many changes as there are
unfoldable pub rest_items_at : Reader (List Item)
rest_items_at bytes = more_at (codes " ") item_at (length bytes) bytes

-- the ways to go on for items_at
abbrev pub items_cases : List (List ℕ × Reader (List Item))
items_cases = (codes " ", as_at with_item (pair_at item_at rest_items_at)) ∷ []

-- changes, at least one, a blank before each
unfoldable pub items_at : Reader (List Item)
items_at = choose_at items_cases

-- ---- scans

-- the scan of a relation by its oid
abbrev pub rel_oid_of : ℕ → Purpose
rel_oid_of n = scans.RelOid (record { 0 = n })

-- the scan of a column by its name
abbrev pub att_name_of : ℕ × List ℕ → Purpose
att_name_of t = scans.AttName (record { 0 = t.0 }) t.1

-- the scan of all columns, by name
abbrev pub att_list_of : ℕ → Purpose
att_list_of n = scans.AttList (record { 0 = n })

-- the scan of a relation's own row
abbrev pub class_scan_of : ℕ → Purpose
class_scan_of n = scans.Class (record { 0 = n })

-- the scan of all columns, by number
abbrev pub attribute_of : ℕ → Purpose
attribute_of n = scans.Attribute (record { 0 = n })

-- the scan of defaults
abbrev pub attr_def_of : ℕ → Purpose
attr_def_of n = scans.AttrDef (record { 0 = n })

-- the scan of constraints
abbrev pub constraint_of : ℕ → Purpose
constraint_of n = scans.Constraint (record { 0 = n })

-- the scan of a table's indexes
abbrev pub index_of : ℕ → Purpose
index_of n = scans.Index (record { 0 = n })

-- the scan of triggers
abbrev pub trigger_of : ℕ → Purpose
trigger_of n = scans.Trigger (record { 0 = n })

-- the scan of an index's own row
abbrev pub index_row_of : ℕ → Purpose
index_row_of n = scans.IndexRow (record { 0 = n })

-- a scan of one relation's constraints
unfoldable pub constraint_scan_at : Reader Purpose
constraint_scan_at = choose_at ((codes "constraint ", as_at constraint_of number_at) ∷ [])

-- a scan of one table's indexes, triggers or constraints, or of an index's own row
unfoldable pub object_scan_at : Reader Purpose
object_scan_at = or_at (codes "index ") (as_at index_of number_at) (or_at (codes "trigger ") (as_at trigger_of number_at) (or_at (codes "indexrow ") (as_at index_row_of number_at) constraint_scan_at))

-- a scan of one relation's rows
unfoldable pub relation_scan_at : Reader Purpose
relation_scan_at = or_at (codes "attlist ") (as_at att_list_of number_at) (or_at (codes "class ") (as_at class_scan_of number_at) (or_at (codes "attribute ") (as_at attribute_of number_at) (or_at (codes "attrdef ") (as_at attr_def_of number_at) object_scan_at)))

-- a scan
unfoldable pub purpose_at : Reader Purpose
purpose_at = or_at (codes "relname ") (as_at scans.RelName name_at) (or_at (codes "reloid ") (as_at rel_oid_of number_at) (or_at (codes "attname ") (as_at att_name_of (pair_at (then_blank number_at) name_at)) relation_scan_at))

-- ---- events

-- a lock, granted or held by another
abbrev pub lock_event_of : ℕ × (Mode × Option (ℕ × Mode)) → Event
lock_event_of (rel, (mode, None)) = events.LockOk (record { 0 = rel }) mode
lock_event_of (rel, (mode, Some held)) = events.LockHeld (record { 0 = rel }) mode held.0 held.1

-- a lock released
abbrev pub unlock_event_of : ℕ × Mode → Event
unlock_event_of t = events.Unlock (record { 0 = t.0 }) t.1

-- a scan and how many rows came
abbrev pub scan_event_of : Purpose × ℕ → Event
scan_event_of t = events.Scan t.0 t.1

-- a write of changes
abbrev pub write_event_of : ℕ × List Item → Event
write_event_of t = events.Write (record { 0 = t.0 }) t.1

-- a clash with a row, or with a running transaction
abbrev pub clash_event_of : List ℕ × (Bool × ℕ) → Event
clash_event_of (name, (true, n)) = events.ClashRow name (record { 0 = n })
clash_event_of (name, (false, n)) = events.ClashRunning name (record { 0 = n })

-- a transaction committed
abbrev pub visible_of : ℕ → Event
visible_of n = events.Visible (record { 0 = n })

-- a row has the name
abbrev pub of_row : ℕ → Bool × ℕ
of_row n = (true, n)

-- a running transaction has the name
abbrev pub of_running : ℕ → Bool × ℕ
of_running n = (false, n)

-- a fetch, after its word
unfoldable pub fetch_at : Reader Event
fetch_at = or_at (codes "reset") (none_at events.FetchReset) (as_at events.Fetch number_at)

-- the ways to go on for holder_at
abbrev pub holder_cases : List (List ℕ × Reader (Option (ℕ × Mode)))
holder_cases = (codes "ok", none_at None) ∷ (codes "held ", as_at Some (pair_at (then_blank number_at) mode_at)) ∷ []

-- whether a lock was granted, or who holds it
unfoldable pub holder_at : Reader (Option (ℕ × Mode))
holder_at = choose_at holder_cases

-- a lock, after its word
unfoldable pub lock_event_at : Reader Event
lock_event_at = as_at lock_event_of (pair_at (then_blank number_at) (pair_at (then_blank mode_at) holder_at))

-- the ways to go on for owner_at
abbrev pub owner_cases : List (List ℕ × Reader (Bool × ℕ))
owner_cases = (codes "row ", as_at of_row number_at) ∷ (codes "running ", as_at of_running number_at) ∷ []

-- what has a name that was refused
unfoldable pub owner_at : Reader (Bool × ℕ)
owner_at = choose_at owner_cases

-- the ways to go on for number_event_at
abbrev pub number_event_cases : List (List ℕ × Reader Event)
number_event_cases = (codes "visible ", as_at visible_of number_at) ∷ (codes "publish ", as_at events.Publish number_at) ∷ (codes "release ", as_at events.Release number_at) ∷ (codes "gone ", as_at events.Gone number_at) ∷ (codes "fail", none_at events.Fail) ∷ (codes "stop", none_at events.Stop) ∷ []

-- an event whose text is a word and a number, or that ends something
unfoldable pub number_event_at : Reader Event
number_event_at = choose_at number_event_cases

-- an event whose text is one word, or a word and a number
unfoldable pub short_event_at : Reader Event
short_event_at = or_at (codes "start") (none_at events.Start) (or_at (codes "look yes") (none_at (events.Look true)) (or_at (codes "look no") (none_at (events.Look false)) (or_at (codes "fetch ") fetch_at number_event_at)))

-- a lock released, after its word
unfoldable pub unlock_event_at : Reader Event
unlock_event_at = as_at unlock_event_of (pair_at (then_blank number_at) mode_at)

-- a scan, after its word
unfoldable pub scan_event_at : Reader Event
scan_event_at = as_at scan_event_of (pair_at (then_at purpose_at (codes " rows ")) number_at)

-- a write, after its word
unfoldable pub write_event_at : Reader Event
write_event_at = as_at write_event_of (pair_at number_at items_at)

-- a clash, after its word
unfoldable pub clash_event_at : Reader Event
clash_event_at = as_at clash_event_of (pair_at (then_blank name_at) owner_at)

-- an event
unfoldable pub event_at : Reader Event
event_at = or_at (codes "lock ") lock_event_at (or_at (codes "unlock ") unlock_event_at (or_at (codes "scan ") scan_event_at (or_at (codes "write ") write_event_at (or_at (codes "clash ") clash_event_at short_event_at))))

-- ---- entries

-- the entry of a backend, a command and an event
abbrev pub placed_of : ℕ × (ℕ × Event) → Entry
placed_of t = record { backend = t.0; command = t.1.0; event = t.1.1 }

-- an entry, after the letter of its line
unfoldable pub placed_at : Reader Entry
placed_at = as_at placed_of (pair_at (then_blank number_at) (pair_at (then_blank number_at) event_at))

-- nothing is left
abbrev pub ends_here : {X : Type 0} → X × List ℕ → Option X
ends_here (x, []) = Some x
ends_here (x, (byte ∷ bytes)) = None

-- the one way for entry_at
abbrev pub entry_cases : List (List ℕ × Reader Entry)
entry_cases = (codes "h ", placed_at) ∷ []

-- the entry of a whole line
unfoldable pub entry_at : List ℕ → Option Entry
entry_at bytes = choose_at entry_cases bytes >>= ends_here
