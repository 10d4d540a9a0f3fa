-- The tests of rows and items decide whether they are equal.
use Rattle.std.proofs.Common.{◌≡◌, ◌∙◌, ◌==◌, ◌&&◌, ℕ, Bool, true, false, Option, Some, None, List, [], ◌∷◌, refl, sym, ap, if◌then◌else◌, codes}
use Rattle.std.specs.Bool.{Decides}
use Rattle.std.specs.Option.{option_eq}
use Rattle.std.specs.Ordering.{int_eq}
use Rattle.std.specs.Str.{bytes_eq}
use Rattle.std.proofs.lemmas.Bool.{eq-eqb, eqb-true}
use Rattle.std.proofs.lemmas.Bool.Decides.{Decides-eqb, Decides-int_eq}
use Rattle.std.proofs.lemmas.Slice.Eq.{bytes_eq-Decides}
use Rattle.base_types.specs.RowKeys.{same_key}
use Rattle.base_types.specs.Scans.{same_oid}
use Rattle.base_types.specs.Words.{kind_word, type_word, state_word, live_word, valid_word, on_word}
use Rattle.base_types.specs.declared.col_type.ColType.{ColType}
use Rattle.base_types.specs.declared.col_type.ColType.TheVariants as types
use Rattle.base_types.specs.declared.index_state.IndexState.{IndexState}
use Rattle.base_types.specs.declared.index_state.IndexState.TheVariants.{Neither, Valid}
use Rattle.base_types.specs.declared.kind.Kind.TheVariants.{Table, Index}
use Rattle.base_types.specs.declared.row.ConKind.{ConKind}
use Rattle.base_types.specs.declared.row.ConKind.TheVariants as demands
use Rattle.base_types.specs.declared.row.Row.TheVariants as rows
use Rattle.base_types.specs.declared.row_key.RowKey.{RowKey}
use Rattle.base_types.specs.declared.row_key.RowKey.TheVariants as keys
use Rattle.event_kinds.specs.declared.entry.Item.TheVariants as items
use Rattle.history_model.specs.Covered.{same_demand, same_row}
use Rattle.history_model.proofs.Asking.{oid_eq}
use Rattle.history_model.proofs.Decided.{both_decide, decided_by}
use Rattle.cacheless.specs.Types.{Oid, Kind, Row, Item}
use Rattle.cacheless.specs.SameItems.{same_item, same_items}

pub oid_decides : (a b : Oid) → Decides (same_oid a b) (a ≡ b)
oid_decides a b = (oid_eq a b, λ is. eq-eqb a.0 b.0 (ap (λ o. o.0) is))

-- what a word spells
spelled_by : {X : Type 0} (word : X → List ℕ) (read : List ℕ → X) → ((x : X) → read (word x) ≡ x) → (a b : X) → Decides (bytes_eq (word a) (word b)) (a ≡ b)
spelled_by word read again a b = (λ is. sym (again a) ∙ ap read ((bytes_eq-Decides (word a) (word b)).0 is) ∙ again b, λ is. (bytes_eq-Decides (word a) (word b)).1 (ap word is))

kind_of : List ℕ → Kind
kind_of word = if bytes_eq word (codes "r") then Table else Index

kind_again : (kind : Kind) → kind_of (kind_word kind) ≡ kind
unfolding kind_of
kind_again Table = refl
kind_again Index = refl

type_of : List ℕ → ColType
type_of word = if bytes_eq word (codes "bool") then types.Bool else if bytes_eq word (codes "int2") then types.Int2 else if bytes_eq word (codes "int4") then types.Int4 else if bytes_eq word (codes "int8") then types.Int8 else if bytes_eq word (codes "text") then types.Text else if bytes_eq word (codes "bytea") then types.Bytea else if bytes_eq word (codes "date") then types.Date else types.Timestamptz

type_again : (col_type : ColType) → type_of (type_word col_type) ≡ col_type
unfolding type_of
type_again types.Bool = refl
type_again types.Int2 = refl
type_again types.Int4 = refl
type_again types.Int8 = refl
type_again types.Text = refl
type_again types.Bytea = refl
type_again types.Date = refl
type_again types.Timestamptz = refl

state_of : List ℕ → IndexState
state_of word = if bytes_eq word (codes "n") then Neither else Valid

state_again : (state : IndexState) → state_of (state_word state) ≡ state
unfolding state_of
state_again Neither = refl
state_again Valid = refl

live_of : List ℕ → Bool
live_of word = bytes_eq word (live_word true)

live_again : (live : Bool) → live_of (live_word live) ≡ live
unfolding live_of
live_again true = refl
live_again false = refl

valid_of : List ℕ → Bool
valid_of word = bytes_eq word (valid_word true)

valid_again : (valid : Bool) → valid_of (valid_word valid) ≡ valid
unfolding valid_of
valid_again true = refl
valid_again false = refl

on_of : List ℕ → Bool
on_of word = bytes_eq word (on_word true)

on_again : (on : Bool) → on_of (on_word on) ≡ on
unfolding on_of
on_again true = refl
on_again false = refl

fill_decides : (a b : Option ℕ) → Decides (option_eq (λ x y. x == y) a b) (a ≡ b)
fill_decides None None = (λ is. refl, λ is. refl)
fill_decides None (Some y) = (λ is. absurd (cc), λ is. absurd (cc))
fill_decides (Some x) None = (λ is. absurd (cc), λ is. absurd (cc))
fill_decides (Some x) (Some y) = (λ is. ap Some (eqb-true x y is), λ is. eq-eqb x y (cc is))

demand_decides : (a b : ConKind) → Decides (same_demand a b) (a ≡ b)
demand_decides (demands.Check text) (demands.Check other) = decided_by (bytes_eq text other) (bytes_eq-Decides text other) (ap demands.Check) (λ is. cc is)
demand_decides (demands.Foreign num refrel refnum) (demands.Foreign num' refrel' refnum') = decided_by _
    (both_decide ((num == num') && same_oid refrel refrel') (refnum == refnum') (both_decide (num == num') (same_oid refrel refrel') (Decides-eqb num num') (oid_decides refrel refrel')) (Decides-eqb refnum refnum'))
    (λ is i. demands.Foreign (is.0.0 i) (is.0.1 i) (is.1 i)) (λ is. ((cc is, cc is), cc is))
demand_decides (demands.Check text) (demands.Foreign num refrel refnum) = (λ is. absurd (cc), λ is. absurd (cc))
demand_decides (demands.Foreign num refrel refnum) (demands.Check text) = (λ is. absurd (cc), λ is. absurd (cc))

-- two rows are equal
pub row_decides : (a b : Row) → Decides (same_row a b) (a ≡ b)
row_decides (rows.Class oid name kind fill) (rows.Class oid' name' kind' fill') = decided_by _ (both_decide ((same_oid oid oid') && (bytes_eq name name') && (bytes_eq (kind_word kind) (kind_word kind'))) (option_eq (λ x y. x == y) fill fill') (both_decide ((same_oid oid oid') && (bytes_eq name name')) (bytes_eq (kind_word kind) (kind_word kind')) (both_decide (same_oid oid oid') (bytes_eq name name') (oid_decides oid oid') (bytes_eq-Decides name name')) (spelled_by kind_word kind_of kind_again kind kind')) (fill_decides fill fill')) (λ is i. rows.Class (is.0.0.0 i) (is.0.0.1 i) (is.0.1 i) (is.1 i)) (λ is. (((cc is, cc is), cc is), cc is))
row_decides (rows.Att rel num name col_type stat live) (rows.Att rel' num' name' col_type' stat' live') = decided_by _ (both_decide ((same_oid rel rel') && (num == num') && (bytes_eq name name') && (bytes_eq (type_word col_type) (type_word col_type')) && (int_eq stat stat')) (bytes_eq (live_word live) (live_word live')) (both_decide ((same_oid rel rel') && (num == num') && (bytes_eq name name') && (bytes_eq (type_word col_type) (type_word col_type'))) (int_eq stat stat') (both_decide ((same_oid rel rel') && (num == num') && (bytes_eq name name')) (bytes_eq (type_word col_type) (type_word col_type')) (both_decide ((same_oid rel rel') && (num == num')) (bytes_eq name name') (both_decide (same_oid rel rel') (num == num') (oid_decides rel rel') (Decides-eqb num num')) (bytes_eq-Decides name name')) (spelled_by type_word type_of type_again col_type col_type')) (Decides-int_eq stat stat')) (spelled_by live_word live_of live_again live live')) (λ is i. rows.Att (is.0.0.0.0.0 i) (is.0.0.0.0.1 i) (is.0.0.0.1 i) (is.0.0.1 i) (is.0.1 i) (is.1 i)) (λ is. (((((cc is, cc is), cc is), cc is), cc is), cc is))
row_decides (rows.Def oid rel num word) (rows.Def oid' rel' num' word') = decided_by _ (both_decide ((same_oid oid oid') && (same_oid rel rel') && (num == num')) (bytes_eq word word') (both_decide ((same_oid oid oid') && (same_oid rel rel')) (num == num') (both_decide (same_oid oid oid') (same_oid rel rel') (oid_decides oid oid') (oid_decides rel rel')) (Decides-eqb num num')) (bytes_eq-Decides word word')) (λ is i. rows.Def (is.0.0.0 i) (is.0.0.1 i) (is.0.1 i) (is.1 i)) (λ is. (((cc is, cc is), cc is), cc is))
row_decides (rows.Ind index table state nums) (rows.Ind index' table' state' nums') = decided_by _ (both_decide ((same_oid index index') && (same_oid table table') && (bytes_eq (state_word state) (state_word state'))) (bytes_eq nums nums') (both_decide ((same_oid index index') && (same_oid table table')) (bytes_eq (state_word state) (state_word state')) (both_decide (same_oid index index') (same_oid table table') (oid_decides index index') (oid_decides table table')) (spelled_by state_word state_of state_again state state')) (bytes_eq-Decides nums nums')) (λ is i. rows.Ind (is.0.0.0 i) (is.0.0.1 i) (is.0.1 i) (is.1 i)) (λ is. (((cc is, cc is), cc is), cc is))
row_decides (rows.Con oid rel name valid what) (rows.Con oid' rel' name' valid' what') = decided_by _ (both_decide ((same_oid oid oid') && (same_oid rel rel') && (bytes_eq name name') && (bytes_eq (valid_word valid) (valid_word valid'))) (same_demand what what') (both_decide ((same_oid oid oid') && (same_oid rel rel') && (bytes_eq name name')) (bytes_eq (valid_word valid) (valid_word valid')) (both_decide ((same_oid oid oid') && (same_oid rel rel')) (bytes_eq name name') (both_decide (same_oid oid oid') (same_oid rel rel') (oid_decides oid oid') (oid_decides rel rel')) (bytes_eq-Decides name name')) (spelled_by valid_word valid_of valid_again valid valid')) (demand_decides what what')) (λ is i. rows.Con (is.0.0.0.0 i) (is.0.0.0.1 i) (is.0.0.1 i) (is.0.1 i) (is.1 i)) (λ is. ((((cc is, cc is), cc is), cc is), cc is))
row_decides (rows.Trg oid rel name on) (rows.Trg oid' rel' name' on') = decided_by _ (both_decide ((same_oid oid oid') && (same_oid rel rel') && (bytes_eq name name')) (bytes_eq (on_word on) (on_word on')) (both_decide ((same_oid oid oid') && (same_oid rel rel')) (bytes_eq name name') (both_decide (same_oid oid oid') (same_oid rel rel') (oid_decides oid oid') (oid_decides rel rel')) (bytes_eq-Decides name name')) (spelled_by on_word on_of on_again on on')) (λ is i. rows.Trg (is.0.0.0 i) (is.0.0.1 i) (is.0.1 i) (is.1 i)) (λ is. (((cc is, cc is), cc is), cc is))
row_decides (rows.Class oid name kind fill) (rows.Att rel' num' name' col_type' stat' live') = (λ is. absurd (cc), λ is. absurd (cc))
row_decides (rows.Class oid name kind fill) (rows.Def oid' rel' num' word') = (λ is. absurd (cc), λ is. absurd (cc))
row_decides (rows.Class oid name kind fill) (rows.Ind index' table' state' nums') = (λ is. absurd (cc), λ is. absurd (cc))
row_decides (rows.Class oid name kind fill) (rows.Con oid' rel' name' valid' what') = (λ is. absurd (cc), λ is. absurd (cc))
row_decides (rows.Class oid name kind fill) (rows.Trg oid' rel' name' on') = (λ is. absurd (cc), λ is. absurd (cc))
row_decides (rows.Att rel num name col_type stat live) (rows.Class oid' name' kind' fill') = (λ is. absurd (cc), λ is. absurd (cc))
row_decides (rows.Att rel num name col_type stat live) (rows.Def oid' rel' num' word') = (λ is. absurd (cc), λ is. absurd (cc))
row_decides (rows.Att rel num name col_type stat live) (rows.Ind index' table' state' nums') = (λ is. absurd (cc), λ is. absurd (cc))
row_decides (rows.Att rel num name col_type stat live) (rows.Con oid' rel' name' valid' what') = (λ is. absurd (cc), λ is. absurd (cc))
row_decides (rows.Att rel num name col_type stat live) (rows.Trg oid' rel' name' on') = (λ is. absurd (cc), λ is. absurd (cc))
row_decides (rows.Def oid rel num word) (rows.Class oid' name' kind' fill') = (λ is. absurd (cc), λ is. absurd (cc))
row_decides (rows.Def oid rel num word) (rows.Att rel' num' name' col_type' stat' live') = (λ is. absurd (cc), λ is. absurd (cc))
row_decides (rows.Def oid rel num word) (rows.Ind index' table' state' nums') = (λ is. absurd (cc), λ is. absurd (cc))
row_decides (rows.Def oid rel num word) (rows.Con oid' rel' name' valid' what') = (λ is. absurd (cc), λ is. absurd (cc))
row_decides (rows.Def oid rel num word) (rows.Trg oid' rel' name' on') = (λ is. absurd (cc), λ is. absurd (cc))
row_decides (rows.Ind index table state nums) (rows.Class oid' name' kind' fill') = (λ is. absurd (cc), λ is. absurd (cc))
row_decides (rows.Ind index table state nums) (rows.Att rel' num' name' col_type' stat' live') = (λ is. absurd (cc), λ is. absurd (cc))
row_decides (rows.Ind index table state nums) (rows.Def oid' rel' num' word') = (λ is. absurd (cc), λ is. absurd (cc))
row_decides (rows.Ind index table state nums) (rows.Con oid' rel' name' valid' what') = (λ is. absurd (cc), λ is. absurd (cc))
row_decides (rows.Ind index table state nums) (rows.Trg oid' rel' name' on') = (λ is. absurd (cc), λ is. absurd (cc))
row_decides (rows.Con oid rel name valid what) (rows.Class oid' name' kind' fill') = (λ is. absurd (cc), λ is. absurd (cc))
row_decides (rows.Con oid rel name valid what) (rows.Att rel' num' name' col_type' stat' live') = (λ is. absurd (cc), λ is. absurd (cc))
row_decides (rows.Con oid rel name valid what) (rows.Def oid' rel' num' word') = (λ is. absurd (cc), λ is. absurd (cc))
row_decides (rows.Con oid rel name valid what) (rows.Ind index' table' state' nums') = (λ is. absurd (cc), λ is. absurd (cc))
row_decides (rows.Con oid rel name valid what) (rows.Trg oid' rel' name' on') = (λ is. absurd (cc), λ is. absurd (cc))
row_decides (rows.Trg oid rel name on) (rows.Class oid' name' kind' fill') = (λ is. absurd (cc), λ is. absurd (cc))
row_decides (rows.Trg oid rel name on) (rows.Att rel' num' name' col_type' stat' live') = (λ is. absurd (cc), λ is. absurd (cc))
row_decides (rows.Trg oid rel name on) (rows.Def oid' rel' num' word') = (λ is. absurd (cc), λ is. absurd (cc))
row_decides (rows.Trg oid rel name on) (rows.Ind index' table' state' nums') = (λ is. absurd (cc), λ is. absurd (cc))
row_decides (rows.Trg oid rel name on) (rows.Con oid' rel' name' valid' what') = (λ is. absurd (cc), λ is. absurd (cc))

-- two keys are one
pub key_decides : (a b : RowKey) → Decides (same_key a b) (a ≡ b)
key_decides (keys.Class a) (keys.Class b) = decided_by (same_oid a b) (oid_decides a b) (ap keys.Class) (λ is. cc is)
key_decides (keys.Def a) (keys.Def b) = decided_by (same_oid a b) (oid_decides a b) (ap keys.Def) (λ is. cc is)
key_decides (keys.Ind a) (keys.Ind b) = decided_by (same_oid a b) (oid_decides a b) (ap keys.Ind) (λ is. cc is)
key_decides (keys.Con a) (keys.Con b) = decided_by (same_oid a b) (oid_decides a b) (ap keys.Con) (λ is. cc is)
key_decides (keys.Trg a) (keys.Trg b) = decided_by (same_oid a b) (oid_decides a b) (ap keys.Trg) (λ is. cc is)
key_decides (keys.Att a num) (keys.Att b other) = decided_by _ (both_decide (same_oid a b) (num == other) (oid_decides a b) (Decides-eqb num other)) (λ is i. keys.Att (is.0 i) (is.1 i)) (λ is. (cc is, cc is))
key_decides (keys.Class a) (keys.Def b) = (λ is. absurd (cc), λ is. absurd (cc))
key_decides (keys.Class a) (keys.Ind b) = (λ is. absurd (cc), λ is. absurd (cc))
key_decides (keys.Class a) (keys.Con b) = (λ is. absurd (cc), λ is. absurd (cc))
key_decides (keys.Class a) (keys.Trg b) = (λ is. absurd (cc), λ is. absurd (cc))
key_decides (keys.Class a) (keys.Att b other) = (λ is. absurd (cc), λ is. absurd (cc))
key_decides (keys.Def a) (keys.Class b) = (λ is. absurd (cc), λ is. absurd (cc))
key_decides (keys.Def a) (keys.Ind b) = (λ is. absurd (cc), λ is. absurd (cc))
key_decides (keys.Def a) (keys.Con b) = (λ is. absurd (cc), λ is. absurd (cc))
key_decides (keys.Def a) (keys.Trg b) = (λ is. absurd (cc), λ is. absurd (cc))
key_decides (keys.Def a) (keys.Att b other) = (λ is. absurd (cc), λ is. absurd (cc))
key_decides (keys.Ind a) (keys.Class b) = (λ is. absurd (cc), λ is. absurd (cc))
key_decides (keys.Ind a) (keys.Def b) = (λ is. absurd (cc), λ is. absurd (cc))
key_decides (keys.Ind a) (keys.Con b) = (λ is. absurd (cc), λ is. absurd (cc))
key_decides (keys.Ind a) (keys.Trg b) = (λ is. absurd (cc), λ is. absurd (cc))
key_decides (keys.Ind a) (keys.Att b other) = (λ is. absurd (cc), λ is. absurd (cc))
key_decides (keys.Con a) (keys.Class b) = (λ is. absurd (cc), λ is. absurd (cc))
key_decides (keys.Con a) (keys.Def b) = (λ is. absurd (cc), λ is. absurd (cc))
key_decides (keys.Con a) (keys.Ind b) = (λ is. absurd (cc), λ is. absurd (cc))
key_decides (keys.Con a) (keys.Trg b) = (λ is. absurd (cc), λ is. absurd (cc))
key_decides (keys.Con a) (keys.Att b other) = (λ is. absurd (cc), λ is. absurd (cc))
key_decides (keys.Trg a) (keys.Class b) = (λ is. absurd (cc), λ is. absurd (cc))
key_decides (keys.Trg a) (keys.Def b) = (λ is. absurd (cc), λ is. absurd (cc))
key_decides (keys.Trg a) (keys.Ind b) = (λ is. absurd (cc), λ is. absurd (cc))
key_decides (keys.Trg a) (keys.Con b) = (λ is. absurd (cc), λ is. absurd (cc))
key_decides (keys.Trg a) (keys.Att b other) = (λ is. absurd (cc), λ is. absurd (cc))
key_decides (keys.Att a num) (keys.Class b) = (λ is. absurd (cc), λ is. absurd (cc))
key_decides (keys.Att a num) (keys.Def b) = (λ is. absurd (cc), λ is. absurd (cc))
key_decides (keys.Att a num) (keys.Ind b) = (λ is. absurd (cc), λ is. absurd (cc))
key_decides (keys.Att a num) (keys.Con b) = (λ is. absurd (cc), λ is. absurd (cc))
key_decides (keys.Att a num) (keys.Trg b) = (λ is. absurd (cc), λ is. absurd (cc))

-- two items are equal
pub item_decides : (a b : Item) → Decides (same_item a b) (a ≡ b)
item_decides (items.Add row) (items.Add other) = decided_by (same_row row other) (row_decides row other) (ap items.Add) (λ is. cc is)
item_decides (items.Put row) (items.Put other) = decided_by (same_row row other) (row_decides row other) (ap items.Put) (λ is. cc is)
item_decides (items.Remove key) (items.Remove other) = decided_by (same_key key other) (key_decides key other) (ap items.Remove) (λ is. cc is)
item_decides (items.Force rel) (items.Force other) = decided_by (same_oid rel other) (oid_decides rel other) (ap items.Force) (λ is. cc is)
item_decides (items.Add row) (items.Put other) = (λ is. absurd (cc), λ is. absurd (cc))
item_decides (items.Add row) (items.Remove other) = (λ is. absurd (cc), λ is. absurd (cc))
item_decides (items.Add row) (items.Force other) = (λ is. absurd (cc), λ is. absurd (cc))
item_decides (items.Put row) (items.Add other) = (λ is. absurd (cc), λ is. absurd (cc))
item_decides (items.Put row) (items.Remove other) = (λ is. absurd (cc), λ is. absurd (cc))
item_decides (items.Put row) (items.Force other) = (λ is. absurd (cc), λ is. absurd (cc))
item_decides (items.Remove key) (items.Add other) = (λ is. absurd (cc), λ is. absurd (cc))
item_decides (items.Remove key) (items.Put other) = (λ is. absurd (cc), λ is. absurd (cc))
item_decides (items.Remove key) (items.Force other) = (λ is. absurd (cc), λ is. absurd (cc))
item_decides (items.Force rel) (items.Add other) = (λ is. absurd (cc), λ is. absurd (cc))
item_decides (items.Force rel) (items.Put other) = (λ is. absurd (cc), λ is. absurd (cc))
item_decides (items.Force rel) (items.Remove other) = (λ is. absurd (cc), λ is. absurd (cc))

-- two lists of items are equal
pub items_decide : (xs ys : List Item) → Decides (same_items xs ys) (xs ≡ ys)
items_decide [] [] = (λ is. refl, λ is. refl)
items_decide [] (y ∷ ys) = (λ is. absurd (cc), λ is. absurd (cc))
items_decide (x ∷ xs) [] = (λ is. absurd (cc), λ is. absurd (cc))
items_decide (x ∷ xs) (y ∷ ys) = decided_by (same_item x y && same_items xs ys) (both_decide (same_item x y) (same_items xs ys) (item_decides x y) (items_decide xs ys)) (λ is i. is.0 i ∷ is.1 i) (λ is. (cc is, cc is))
