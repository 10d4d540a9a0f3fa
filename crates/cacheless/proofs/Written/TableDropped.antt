-- What `drop table` writes may be written: all rows of the table go, with its columns and with both rows of each of its indexes.
use Rattle.std.proofs.Common.{◌≡◌, ◌≤◌, ◌<◌, ◌∙◌, ◌+◌, ◌⊎◌, inl, inr, ℕ, Bool, true, false, Option, Some, None, List, [], ◌∷◌, ◌++◌, ◌||◌, not, refl, sym, ap, subst, map, fold, length, append_assoc, append-nil, arith}
use Rattle.std.specs.Prelude.{⊤, if◌then◌else◌}
use Rattle.std.specs.List.{AllByRecursion, flat_map, list_any, position_or_len}
use Rattle.std.specs.Option.{option_to_list}
use Rattle.std.proofs.lemmas.Bool.{or_left, or_right}
use Rattle.std.proofs.lemmas.List.{map-append}
use Rattle.base_types.specs.RowKeys.{key_of, are_distinct_keys}
use Rattle.base_types.specs.Scans.{same_oid}
use Rattle.base_types.specs.declared.change.Change.{Change}
use Rattle.base_types.specs.declared.change.Change.TheVariants.{Delete}
use Rattle.base_types.specs.declared.index_state.IndexState.{IndexState}
use Rattle.base_types.specs.declared.kind.Kind.TheVariants.{Table, Index}
use Rattle.base_types.specs.declared.row.ConKind.TheVariants as demands
use Rattle.base_types.specs.declared.row.Row.TheVariants as rows
use Rattle.base_types.specs.declared.row_key.RowKey.{RowKey}
use Rattle.base_types.specs.declared.row_key.RowKey.TheVariants as keys
use Rattle.base_types.specs.declared.scan.Purpose.TheVariants as scans
use Rattle.inval_messages.specs.declared.message.Message.{Message}
use Rattle.inval_messages.specs.declared.message.Message.TheVariants.{Rel}
use Rattle.inval_messages.specs.Changes.{cats_of}
use Rattle.lock_modes.specs.Grants.{holds}
use Rattle.ddl_effect.specs.Tables.{is_of_other, referred_by, with_relation, referred, index_of, dropped_index, oid_before, put_by_oid, by_oid, dropped_table}
use Rattle.history_model.specs.Held.{held_of}
use Rattle.history_model.specs.Sound.{IsSound}
use Rattle.history_model.specs.Sent.{messages_written}
use Rattle.history_model.specs.Versions.{rows_of, row_with, answer_of}
use Rattle.history_model.proofs.Asking.{oid_eq}
use Rattle.history_model.proofs.DistinctKeys.{HaveTwoKeys, given_keys, keys_distinct}
use Rattle.history_model.proofs.Every.{every, every-weaker, every-append, every-both, some-left, some-right, every-flat, none-any}
use Rattle.history_model.proofs.GivenRows.{given_seen}
use Rattle.history_model.proofs.InOrder.{IsIn, of_in, any_in, every_self, every_inserted, pair_inserted}
use Rattle.history_model.proofs.Seen.{Pairwise, pair-push}
use Rattle.cacheless.specs.Types.{Oid, AccessExclusive, Row, Entry, Item, Opening}
use Rattle.cacheless.specs.TableWrites.{takes_relation, takes_whole, is_next_column, CallsApart, takes_index_row, is_of_index, goes_together}
use Rattle.cacheless.proofs.WholeIndexes.{IsOwnOf}
use Rattle.cacheless.proofs.Written.FitToWrite.{taking, all_pass, sent_itself}
use Rattle.cacheless.proofs.Written.IndexWrites.{index_row_may_go, class_may_go}
use Rattle.cacheless.proofs.Written.SeenRows.{IsGiven, seen_is_old}
use Rattle.cacheless.proofs.Written.WrittenParts.{items_in, every_part, MayGo, parts_fit, parts_called, MayAlter, parts_alter, IsTold, rel_told, forced_told, gone_in, gone_sent, sent_told, one_covered, two_covered, same_told}

-- the relations to which foreign keys refer are each among those that are told
stays_referred : (r : Oid) (rels given : List Oid) → IsIn r rels → IsIn r (fold with_relation rels given)
stays_referred r rels [] there = there
stays_referred r rels (rel ∷ given) there = stays_referred r (with_relation rels rel) given (of (list_any (same_oid rel) rels))
  where
    of : (t : Bool) → IsIn r (if t then rels else rels ++ rel ∷ [])
    of true = there
    of false = some-left (λ x. r ≡ x) rels (rel ∷ []) there

is_among : (rel : Oid) (rels : List Oid) → list_any (same_oid rel) rels ≡ true → IsIn rel rels
is_among rel [] is = absurd (cc)
is_among rel (r ∷ rels) is = of (same_oid rel r) refl is (is_among rel rels)
  where
    of : (t : Bool) → same_oid rel r ≡ t → (t || list_any (same_oid rel) rels) ≡ true → (list_any (same_oid rel) rels ≡ true → IsIn rel rels) → (rel ≡ r) ⊎ IsIn rel rels
    of true same some later = inl (oid_eq rel r same)
    of false other some later = inr (later some)

now_referred : (rel : Oid) (rels : List Oid) → IsIn rel (with_relation rels rel)
now_referred rel rels = of (list_any (same_oid rel) rels) refl
  where
    of : (t : Bool) → list_any (same_oid rel) rels ≡ t → IsIn rel (if t then rels else rels ++ rel ∷ [])
    of true there = is_among rel rels there
    of false other = some-right (λ x. rel ≡ x) rels (rel ∷ []) (inl refl)

all_referred : (rels given : List Oid) → AllByRecursion (λ r. IsIn r (fold with_relation rels given)) given
all_referred rels [] = tt
all_referred rels (rel ∷ given) = (stays_referred rel (with_relation rels rel) given (now_referred rel rels), all_referred (with_relation rels rel) given)

refer_told : (constraints : List Row) → AllByRecursion (λ row. AllByRecursion (λ r. IsIn r (referred constraints)) (referred_by row)) constraints
refer_told constraints = every-flat (λ r. IsIn r (referred constraints)) referred_by constraints (all_referred [] (flat_map referred_by constraints))

-- rows by their oids are the same rows
every_by_oid : (P : Row → Type 0) (given rows : List Row) → AllByRecursion P given → AllByRecursion P rows → AllByRecursion P (fold put_by_oid given rows)
every_by_oid P given [] all also = all
every_by_oid P given (row ∷ rows) all also = every_by_oid P (put_by_oid given row) rows (every_inserted P given (position_or_len (oid_before row) given) row all also.0) also.1

pair_by_oid : (R : Row → Row → Type 0) → ((row other : Row) → R row other → R other row) → (given rows : List Row) → Pairwise R given → AllByRecursion (λ row. AllByRecursion (R row) given) rows → Pairwise R rows → Pairwise R (fold put_by_oid given rows)
pair_by_oid R back given [] pairs apart also = pairs
pair_by_oid R back given (row ∷ rows) pairs apart also =
    pair_by_oid R back (put_by_oid given row) rows (pair_inserted R back given (position_or_len (oid_before row) given) row pairs apart.0)
    (every-weaker (λ x. AllByRecursion (R x) given × R row x) (λ x. AllByRecursion (R x) (put_by_oid given row))
    (λ x h. every_inserted (R x) given (position_or_len (oid_before row) given) row h.0 (back row x h.1)) rows
    (every-both (λ x. AllByRecursion (R x) given) (R row) rows apart.1 also.0)) also.1

pair_append : {X : Type 0} (R : X → X → Type 0) (xs ys : List X) → Pairwise R xs → Pairwise R ys → AllByRecursion (λ x. AllByRecursion (R x) ys) xs → Pairwise R (xs ++ ys)
pair_append R [] ys one two cross = two
pair_append R (x ∷ xs) ys one two cross = (every-append (R x) xs ys one.0 cross.0, pair_append R xs ys one.1 two cross.1)

two_keys_back : (row other : Row) → HaveTwoKeys row other → HaveTwoKeys other row
two_keys_back row other two same = two (sym same)

-- where the rows of a catalog stand among those of others
abbrev rank : RowKey → ℕ
rank (keys.Ind index) = 0
rank (keys.Class oid) = 1
rank (keys.Att rel num) = 2
rank (keys.Trg oid) = 3
rank (keys.Def oid) = 4
rank (keys.Con oid) = 5

-- rows of higher rank before others have other keys
ranked : (k : ℕ) (xs ys : List Row) → AllByRecursion (λ x. rank (key_of x) ≡ k) xs → AllByRecursion (λ y. rank (key_of y) < k) ys → Pairwise HaveTwoKeys xs → Pairwise HaveTwoKeys ys → Pairwise HaveTwoKeys (xs ++ ys) × AllByRecursion (λ z. rank (key_of z) < k + 1) (xs ++ ys)
ranked k xs ys at below one two = (
  pair_append HaveTwoKeys xs ys one two (every-weaker (λ x. rank (key_of x) ≡ k) (λ x. AllByRecursion (HaveTwoKeys x) ys)
      (λ x is. every-weaker (λ y. rank (key_of y) < k) (HaveTwoKeys x) (λ y less same. absurd (omega (arith, is, less, ap rank same))) ys below) xs at),
  every-append (λ z. rank (key_of z) < k + 1) xs ys (every-weaker (λ x. rank (key_of x) ≡ k) (λ x. rank (key_of x) < k + 1) (λ x is. omega (arith, is)) xs at)
      (every-weaker (λ y. rank (key_of y) < k) (λ y. rank (key_of y) < k + 1) (λ y less. omega (arith, less)) ys below),
)

-- the rows of an index: its row, and its own as a relation
abbrev index_rows : List Entry → ℕ → Row → List Row
index_rows before b (rows.Ind index table state nums) = rows.Ind index table state nums ∷ option_to_list (row_with before b (keys.Class index))
index_rows before b row = []

-- an index of the table of which both rows are seen, and that is locked
record WholeIndex (before : List Entry) (b : ℕ) (rel : Oid) (row : Row) : Type 0 where
  index : Oid
  state : IndexState
  nums : List ℕ
  name : List ℕ
  fill : Option ℕ
  is : row ≡ rows.Ind index rel state nums
  seen : IsIn (rows.Ind index rel state nums) (rows_of before b)
  own : IsIn (rows.Class index name Index fill) (rows_of before b)
  has : holds (held_of before) b index AccessExclusive ≡ true
  are : index_rows before b row ≡ rows.Ind index rel state nums ∷ rows.Class index name Index fill ∷ []

whole_index : (before : List Entry) (b : ℕ) (rel : Oid) (row : Row) → IsSound before → IsGiven before b (scans.Index rel) row → AllByRecursion (λ o. holds (held_of before) b o AccessExclusive ≡ true) (index_of row)
    → ((index table : Oid) (state : IndexState) (nums : List ℕ) → IsIn (rows.Ind index table state nums) (rows_of before b) → IsOwnOf index (rows_of before b)) → WholeIndex before b rel row
whole_index before b rel (rows.Ind index table state nums) sound given locked law =
    let own = law index table state nums given.0 in
    let same : table ≡ rel = oid_eq table rel given.1 in
    record {
      index = index;
      state = state;
      nums = nums;
      name = own.name;
      fill = own.fill;
      is = ap (λ o. rows.Ind index o state nums) same;
      seen = subst (λ o. IsIn (rows.Ind index o state nums) (rows_of before b)) same given.0;
      own = own.there;
      has = locked.0;
      are = (λ i. rows.Ind index (same i) state nums ∷ option_to_list (seen_is_old before b (taking (rows.Class index own.name Index own.fill)) (rows.Class index own.name Index own.fill) sound refl own.there i));
    }
whole_index before b rel row sound given locked law = absurd (cc given.1)

-- a row with neither key of another index has none of the keys of other indexes
apart_from : (before : List Entry) (b : ℕ) (rel index : Oid) (x : Row) → ((other : Oid) → (index ≡ other → ⊥) → (key_of x ≡ keys.Ind other → ⊥) × (key_of x ≡ keys.Class other → ⊥)) → (more : List Row) → AllByRecursion (WholeIndex before b rel) more
    → AllByRecursion (λ row. keys.Ind index ≡ key_of row → ⊥) more → AllByRecursion (HaveTwoKeys x) (flat_map (index_rows before b) more)
apart_from before b rel index x differs [] whole two = tt
apart_from before b rel index x differs (row ∷ more) whole two =
    let w : WholeIndex before b rel row = whole.0 in
    let apart : (key_of x ≡ keys.Ind w.index → ⊥) × (key_of x ≡ keys.Class w.index → ⊥) = differs w.index (λ same. two.0 (ap keys.Ind same ∙ sym (ap key_of w.is))) in
    subst (λ l. AllByRecursion (HaveTwoKeys x) (l ++ flat_map (index_rows before b) more)) (sym w.are) (apart.0, (apart.1, apart_from before b rel index x differs more whole.1 two.1))

-- no two rows of indexes have one key
indexes_two_keys : (before : List Entry) (b : ℕ) (rel : Oid) (indexes : List Row) → AllByRecursion (WholeIndex before b rel) indexes → Pairwise HaveTwoKeys indexes → Pairwise HaveTwoKeys (flat_map (index_rows before b) indexes)
indexes_two_keys before b rel [] whole pairs = tt
indexes_two_keys before b rel (row ∷ indexes) whole pairs = subst (λ l. Pairwise HaveTwoKeys (l ++ flat_map (index_rows before b) indexes)) (sym w.are) (
  ((λ same. absurd (cc same)), apart_from before b rel w.index ind (λ other two. ((λ same. two (let e : w.index ≡ other = cc same in e)), (λ same. absurd (cc same)))) indexes whole.1 others),
  (
    apart_from before b rel w.index own (λ other two. ((λ same. absurd (cc same)), (λ same. two (let e : w.index ≡ other = cc same in e)))) indexes whole.1 others,
    indexes_two_keys before b rel indexes whole.1 pairs.1,
  ),
)
  where
    w : WholeIndex before b rel row
    w = whole.0

    ind : Row
    ind = rows.Ind w.index rel w.state w.nums

    own : Row
    own = rows.Class w.index w.name Index w.fill

    others : AllByRecursion (λ other. keys.Ind w.index ≡ key_of other → ⊥) indexes
    others = every-weaker (HaveTwoKeys row) (λ other. keys.Ind w.index ≡ key_of other → ⊥) (λ other two same. two (ap key_of w.is ∙ same)) indexes pairs.0

-- they have the two lowest ranks
index_ranks : (before : List Entry) (b : ℕ) (rel : Oid) (indexes : List Row) → AllByRecursion (WholeIndex before b rel) indexes → AllByRecursion (λ x. rank (key_of x) < 2) (flat_map (index_rows before b) indexes)
index_ranks before b rel [] whole = tt
index_ranks before b rel (row ∷ indexes) whole = subst (λ l. AllByRecursion (λ x. rank (key_of x) < 2) (l ++ flat_map (index_rows before b) indexes)) (sym (whole.0.are)) (omega arith, (omega arith, index_ranks before b rel indexes whole.1))

-- an index isn't its table
index_no_table : (before : List Entry) (b : ℕ) (rel : Oid) (name : List ℕ) (fill : Option ℕ) (indexes : List Row) → IsSound before → IsIn (rows.Class rel name Table fill) (rows_of before b) → AllByRecursion (WholeIndex before b rel) indexes
    → AllByRecursion (λ x. HaveTwoKeys x (rows.Class rel name Table fill)) (flat_map (index_rows before b) indexes)
index_no_table before b rel name fill [] sound seen whole = tt
index_no_table before b rel name fill (row ∷ indexes) sound seen whole = subst (λ l. AllByRecursion (λ x. HaveTwoKeys x own) (l ++ flat_map (index_rows before b) indexes)) (sym w.are)
    ((λ same. absurd (cc same)), ((λ same. other (let e : w.index ≡ rel = cc same in e)), index_no_table before b rel name fill indexes sound seen whole.1))
  where
    w : WholeIndex before b rel row
    w = whole.0

    own : Row
    own = rows.Class rel name Table fill

    other : w.index ≡ rel → ⊥
    other same = let both : Some (rows.Class w.index w.name Index w.fill) ≡ Some own = sym (seen_is_old before b (taking own) (rows.Class w.index w.name Index w.fill) sound (ap (λ o. Some (keys.Class o)) (sym same)) w.own) ∙ seen_is_old before b (taking own) own sound refl seen in absurd (cc both)

-- a row that goes: it may, and with it goes what must
record Goes (before : List Entry) (b : ℕ) (items : List Item) (row : Row) : Type 0 where
  may : MayGo before b (messages_written before b items) row
  whole : takes_whole items (taking row) ≡ true
  together : goes_together before b items (taking row) ≡ true

-- both rows of each index go
indexes_go : (before : List Entry) (b : ℕ) (rel : Oid) (gone : List Row) (forced : List Oid) (indexes : List Row) → IsSound before → holds (held_of before) b rel AccessExclusive ≡ true → IsTold (messages_written before b (items_in gone [] forced)) rel → AllByRecursion (WholeIndex before b rel) indexes
    → ((row : Row) → IsIn row (flat_map (index_rows before b) indexes) → IsIn row gone) → AllByRecursion (Goes before b (items_in gone [] forced)) (flat_map (index_rows before b) indexes)
indexes_go before b rel gone forced [] sound has told whole into = tt
indexes_go before b rel gone forced (row ∷ indexes) sound has told whole into = subst (λ l. AllByRecursion (Goes before b items) (l ++ flat_map (index_rows before b) indexes)) (sym w.are) (
  record {
    may = index_row_may_go before b gone [] forced w.index rel w.state w.nums sound w.seen one w.has has told;
    whole = refl;
    together = any_in (takes_relation w.index) (taking own) items (gone_in gone [] forced own two) (same_told w.index);
  },
  (
    record {
      may = class_may_go before b gone [] forced w.index w.name Index w.fill sound w.own two w.has;
      whole = refl;
      together = or_right (not (is_of_index (row_with before b (keys.Class w.index)))) _ (any_in (takes_index_row w.index) (taking ind) items (gone_in gone [] forced ind one) (same_told w.index));
    },
    indexes_go before b rel gone forced indexes sound has told whole.1 (λ other there. into other (some-right (λ x. other ≡ x) (index_rows before b row) (flat_map (index_rows before b) indexes) there)),
  ),
)
  where
    items : List Item
    items = items_in gone [] forced

    w : WholeIndex before b rel row
    w = whole.0

    ind : Row
    ind = rows.Ind w.index rel w.state w.nums

    own : Row
    own = rows.Class w.index w.name Index w.fill

    one : IsIn ind gone
    one = into ind (subst (λ l. IsIn ind (l ++ flat_map (index_rows before b) indexes)) (sym w.are) (inl refl))

    two : IsIn own gone
    two = into own (subst (λ l. IsIn own (l ++ flat_map (index_rows before b) indexes)) (sym w.are) (inr (inl refl)))

told_of : (of rel : Oid) → of ≡ rel → same_oid rel of ≡ true
told_of of rel same = ap (same_oid rel) same ∙ same_told rel

held_on : (before : List Entry) (b : ℕ) (of rel : Oid) → of ≡ rel → holds (held_of before) b rel AccessExclusive ≡ true → holds (held_of before) b of AccessExclusive ≡ true
held_on before b of rel same has = ap (λ o. holds (held_of before) b o AccessExclusive) same ∙ has

-- the table's defaults and triggers go, which are told with it
default_goes : (before : List Entry) (b : ℕ) (rel : Oid) (items : List Item) (row : Row) → holds (held_of before) b rel AccessExclusive ≡ true → IsTold (messages_written before b items) rel → IsGiven before b (scans.AttrDef rel) row → Goes before b items row × (rank (key_of row) ≡ 4)
default_goes before b rel items (rows.Def oid of num word) has told given = (
  record {
    may = record { seen = given.0; locked = (held_on before b of rel (oid_eq of rel given.1) has, tt); told = one_covered (messages_written before b items) (scans.AttrDef of) (told (scans.AttrDef of) (told_of of rel (oid_eq of rel given.1))) };
    whole = refl;
    together = refl;
  },
  refl,
)
default_goes before b rel items row has told given = absurd (cc given.1)

trigger_goes : (before : List Entry) (b : ℕ) (rel : Oid) (items : List Item) (row : Row) → holds (held_of before) b rel AccessExclusive ≡ true → IsTold (messages_written before b items) rel → IsGiven before b (scans.Trigger rel) row → Goes before b items row × (rank (key_of row) ≡ 3)
trigger_goes before b rel items (rows.Trg oid of name on) has told given = (
  record {
    may = record { seen = given.0; locked = (held_on before b of rel (oid_eq of rel given.1) has, tt); told = one_covered (messages_written before b items) (scans.Trigger of) (told (scans.Trigger of) (told_of of rel (oid_eq of rel given.1))) };
    whole = refl;
    together = refl;
  },
  refl,
)
trigger_goes before b rel items row has told given = absurd (cc given.1)

not_false : (t : Bool) → not t ≡ false → t ≡ true
not_false true is = refl
not_false false is = absurd (cc is)

-- so do its constraints, and each table to which one refers is told and locked
pub constraint_may_go : (before : List Entry) (b : ℕ) (rel : Oid) (messages : List Message) (row : Row) → holds (held_of before) b rel AccessExclusive ≡ true → IsTold messages rel → IsGiven before b (scans.Constraint rel) row → is_of_other rel row ≡ false
    → AllByRecursion (λ o. (holds (held_of before) b o AccessExclusive ≡ true) × IsTold messages o) (referred_by row) → MayGo before b messages row
constraint_may_go before b rel messages (rows.Con oid of name valid (demands.Check text)) has told given own others = record {
  seen = given.0;
  locked = (held_on before b of rel (oid_eq of rel (not_false (same_oid of rel) own)) has, tt);
  told = one_covered messages (scans.Constraint of) (told (scans.Constraint of) (told_of of rel (oid_eq of rel (not_false (same_oid of rel) own))));
}
constraint_may_go before b rel messages (rows.Con oid of name valid (demands.Foreign num refrel refnum)) has told given own others = record {
  seen = given.0;
  locked = (held_on before b of rel (oid_eq of rel (not_false (same_oid of rel) own)) has, (others.0.0, tt));
  told = two_covered messages (scans.Constraint of) (scans.Constraint refrel) (told (scans.Constraint of) (told_of of rel (oid_eq of rel (not_false (same_oid of rel) own)))) (others.0.1 (scans.Constraint refrel) (same_told refrel));
}
constraint_may_go before b rel messages row has told given own others = absurd (cc given.1)

constraint_goes : (before : List Entry) (b : ℕ) (rel : Oid) (items : List Item) (row : Row) → IsGiven before b (scans.Constraint rel) row → MayGo before b (messages_written before b items) row → Goes before b items row × (rank (key_of row) ≡ 5)
constraint_goes before b rel items (rows.Con oid of name valid what) given may = (record { may = may; whole = refl; together = refl }, refl)
constraint_goes before b rel items row given may = absurd (cc given.1)

-- and its columns
column_goes : (before : List Entry) (b : ℕ) (rel : Oid) (gone : List Row) (forced : List Oid) (row : Row) → IsSound before → holds (held_of before) b rel AccessExclusive ≡ true → list_any (takes_relation rel) (items_in gone [] forced) ≡ true → IsGiven before b (scans.Attribute rel) row → IsIn row gone
    → Goes before b (items_in gone [] forced) row
column_goes before b rel gone forced (rows.Att of num name col_type stat live) sound has whole given there = record {
  may = record {
    seen = given.0;
    locked = (held_on before b of rel (oid_eq of rel given.1) has, tt);
    told = sent_told (messages_written before b (items_in gone [] forced)) (rows.Att of num name col_type stat live)
        (gone_sent before b (items_in gone [] forced) (rows.Att of num name col_type stat live) sound given.0 (gone_in gone [] forced (rows.Att of num name col_type stat live) there)) (sent_itself of Table (rows.Att of num name col_type stat live) refl);
  };
  whole = ap (λ o. list_any (takes_relation o) (items_in gone [] forced)) (oid_eq of rel given.1) ∙ whole;
  together = refl;
}
column_goes before b rel gone forced row sound has whole given there = absurd (cc given.1)

column_ranks : (before : List Entry) (b : ℕ) (rel : Oid) (row : Row) → IsGiven before b (scans.Attribute rel) row → rank (key_of row) ≡ 2
column_ranks before b rel (rows.Att of num name col_type stat live) given = refl
column_ranks before b rel row given = absurd (cc given.1)

-- the changes that take rows away
abbrev pub deleted : List Row → List Change
deleted given = map (λ row. Delete (key_of row)) given

indexes_gone : (before : List Entry) (b : ℕ) (rel : Oid) (indexes : List Row) → AllByRecursion (WholeIndex before b rel) indexes → flat_map dropped_index indexes ≡ deleted (flat_map (index_rows before b) indexes)
indexes_gone before b rel [] whole = refl
indexes_gone before b rel (row ∷ indexes) whole =
    let w : WholeIndex before b rel row = whole.0 in
    (λ i. dropped_index (w.is i) ++ flat_map dropped_index indexes)
    ∙ ap (λ l. Delete (keys.Ind w.index) ∷ Delete (keys.Class w.index) ∷ l) (indexes_gone before b rel indexes whole.1)
    ∙ ap (λ l. deleted (l ++ flat_map (index_rows before b) indexes)) (sym w.are)

some_in : (item : Item) (items : List Item) → IsIn item items → 0 < length items
some_in item [] there = absurd there
some_in item (x ∷ items) there = omega arith

-- what is known where `drop table` is about to write: the table is seen and locked, no constraint of another table refers to it, and the tables to which its own refer are locked, and its indexes
pub record DropsTable (before : List Entry) (b : ℕ) (rel : Oid) (name : List ℕ) (fill : Option ℕ) : Type 0 where
  pub sound : IsSound before
  pub has : holds (held_of before) b rel AccessExclusive ≡ true
  pub seen : IsIn (rows.Class rel name Table fill) (rows_of before b)
  pub law : (index table : Oid) (state : IndexState) (nums : List ℕ) → IsIn (rows.Ind index table state nums) (rows_of before b) → IsOwnOf index (rows_of before b)
  pub own : list_any (is_of_other rel) (answer_of before b (scans.Constraint rel)) ≡ false
  pub others : AllByRecursion (λ o. holds (held_of before) b o AccessExclusive ≡ true) (referred (answer_of before b (scans.Constraint rel)))
  pub locked : AllByRecursion (λ o. holds (held_of before) b o AccessExclusive ≡ true) (flat_map index_of (answer_of before b (scans.Index rel)))

module _ (before : List Entry) (b : ℕ) (opened : List Opening) (rel : Oid) (name : List ℕ) (fill : Option ℕ) (drops : DropsTable before b rel name fill) where
  abbrev class : Row
  class = rows.Class rel name Table fill

  abbrev indexes : List Row
  indexes = answer_of before b (scans.Index rel)

  abbrev constraints : List Row
  constraints = answer_of before b (scans.Constraint rel)

  abbrev defaults : List Row
  defaults = by_oid (answer_of before b (scans.AttrDef rel))

  abbrev triggers : List Row
  triggers = by_oid (answer_of before b (scans.Trigger rel))

  abbrev columns : List Row
  columns = answer_of before b (scans.Attribute rel)

  abbrev parts : List Row
  parts = flat_map (index_rows before b) indexes

  abbrev rest : List Row
  rest = constraints ++ (defaults ++ (triggers ++ columns))

  -- all rows that go
  abbrev pub gone : List Row
  gone = (parts ++ rest) ++ class ∷ []

  abbrev pub forced : List Oid
  forced = referred constraints

  abbrev pub items : List Item
  items = items_in gone [] forced

  whole : AllByRecursion (WholeIndex before b rel) indexes
  whole = every-weaker (λ row. IsGiven before b (scans.Index rel) row × AllByRecursion (λ o. holds (held_of before) b o AccessExclusive ≡ true) (index_of row)) (WholeIndex before b rel) (λ row both. whole_index before b rel row drops.sound both.0 both.1 drops.law) indexes
      (every-both (IsGiven before b (scans.Index rel)) (λ row. AllByRecursion (λ o. holds (held_of before) b o AccessExclusive ≡ true) (index_of row)) indexes (given_seen before b (scans.Index rel)) (every-flat (λ o. holds (held_of before) b o AccessExclusive ≡ true) index_of indexes drops.locked))

  last_in : IsIn class gone
  last_in = some-right (λ x. class ≡ x) (parts ++ rest) (class ∷ []) (inl refl)

  class_told : IsTold (messages_written before b items) rel
  class_told = rel_told (messages_written before b items) (cats_of (Some class) None) (Some (Rel rel)) rel refl (gone_sent before b items class drops.sound drops.seen (gone_in gone [] forced class last_in))

  table_taken : list_any (takes_relation rel) items ≡ true
  table_taken = any_in (takes_relation rel) (taking class) items (gone_in gone [] forced class last_in) (same_told rel)

  referred_told : AllByRecursion (λ row. AllByRecursion (λ o. (holds (held_of before) b o AccessExclusive ≡ true) × IsTold (messages_written before b items) o) (referred_by row)) constraints
  referred_told = every-weaker (λ row. AllByRecursion (λ r. IsIn r forced) (referred_by row)) (λ row. AllByRecursion (λ o. (holds (held_of before) b o AccessExclusive ≡ true) × IsTold (messages_written before b items) o) (referred_by row))
      (λ row. every-weaker (λ r. IsIn r forced) (λ o. (holds (held_of before) b o AccessExclusive ≡ true) × IsTold (messages_written before b items) o)
      (λ r there. (of_in (λ o. holds (held_of before) b o AccessExclusive ≡ true) r forced drops.others there, forced_told before b gone [] forced r there)) (referred_by row)) constraints (refer_told constraints)

  -- of the constraints, defaults, triggers and columns
  constraints_go : AllByRecursion (λ row. Goes before b items row × (rank (key_of row) ≡ 5)) constraints
  constraints_go = every-weaker (λ row. (IsGiven before b (scans.Constraint rel) row × (is_of_other rel row ≡ false)) × AllByRecursion (λ o. (holds (held_of before) b o AccessExclusive ≡ true) × IsTold (messages_written before b items) o) (referred_by row)) (λ row. Goes before b items row × (rank (key_of row) ≡ 5))
      (λ row all. constraint_goes before b rel items row all.0.0 (constraint_may_go before b rel (messages_written before b items) row drops.has class_told all.0.0 all.0.1 all.1)) constraints
      (every-both (λ row. IsGiven before b (scans.Constraint rel) row × (is_of_other rel row ≡ false)) (λ row. AllByRecursion (λ o. (holds (held_of before) b o AccessExclusive ≡ true) × IsTold (messages_written before b items) o) (referred_by row)) constraints
      (every-both (IsGiven before b (scans.Constraint rel)) (λ row. is_of_other rel row ≡ false) constraints (given_seen before b (scans.Constraint rel)) (none-any (is_of_other rel) constraints drops.own)) referred_told)

  defaults_go : AllByRecursion (λ row. Goes before b items row × (rank (key_of row) ≡ 4)) defaults
  defaults_go = every_by_oid (λ row. Goes before b items row × (rank (key_of row) ≡ 4)) [] (answer_of before b (scans.AttrDef rel)) tt
      (every-weaker (IsGiven before b (scans.AttrDef rel)) (λ row. Goes before b items row × (rank (key_of row) ≡ 4)) (λ row. default_goes before b rel items row drops.has class_told) (answer_of before b (scans.AttrDef rel)) (given_seen before b (scans.AttrDef rel)))

  triggers_go : AllByRecursion (λ row. Goes before b items row × (rank (key_of row) ≡ 3)) triggers
  triggers_go = every_by_oid (λ row. Goes before b items row × (rank (key_of row) ≡ 3)) [] (answer_of before b (scans.Trigger rel)) tt
      (every-weaker (IsGiven before b (scans.Trigger rel)) (λ row. Goes before b items row × (rank (key_of row) ≡ 3)) (λ row. trigger_goes before b rel items row drops.has class_told) (answer_of before b (scans.Trigger rel)) (given_seen before b (scans.Trigger rel)))

  rest_in : (row : Row) → IsIn row rest → IsIn row gone
  rest_in row there = some-left (λ x. row ≡ x) (parts ++ rest) (class ∷ []) (some-right (λ x. row ≡ x) parts rest there)

  columns_go : AllByRecursion (Goes before b items) columns
  columns_go = every-weaker (λ row. IsGiven before b (scans.Attribute rel) row × IsIn row columns) (Goes before b items)
      (λ row both. column_goes before b rel gone forced row drops.sound drops.has table_taken both.0 (rest_in row (some-right (λ x. row ≡ x) constraints (defaults ++ (triggers ++ columns)) (some-right (λ x. row ≡ x) defaults (triggers ++ columns) (some-right (λ x. row ≡ x) triggers columns both.1))))) columns
      (every-both (IsGiven before b (scans.Attribute rel)) (λ row. IsIn row columns) columns (given_seen before b (scans.Attribute rel)) (every_self columns))

  class_goes : Goes before b items class
  class_goes = record {
    may = class_may_go before b gone [] forced rel name Table fill drops.sound drops.seen last_in drops.has;
    whole = refl;
    together = or_left (not (is_of_index (row_with before b (keys.Class rel)))) (list_any (takes_index_row rel) items) (ap (λ o. not (is_of_index o)) (seen_is_old before b (taking class) class drops.sound refl drops.seen));
  }

  abbrev goes_of : (k : ℕ) (given : List Row) → AllByRecursion (λ row. Goes before b items row × (rank (key_of row) ≡ k)) given → AllByRecursion (Goes before b items) given
  goes_of k given = every-weaker (λ row. Goes before b items row × (rank (key_of row) ≡ k)) (Goes before b items) (λ row both. both.0) given

  abbrev ranks_of : (k : ℕ) (given : List Row) → AllByRecursion (λ row. Goes before b items row × (rank (key_of row) ≡ k)) given → AllByRecursion (λ row. rank (key_of row) ≡ k) given
  ranks_of k given = every-weaker (λ row. Goes before b items row × (rank (key_of row) ≡ k)) (λ row. rank (key_of row) ≡ k) (λ row both. both.1) given

  all_go : AllByRecursion (Goes before b items) gone
  all_go = every-append (Goes before b items) (parts ++ rest) (class ∷ [])
      (every-append (Goes before b items) parts rest (indexes_go before b rel gone forced indexes drops.sound drops.has class_told whole (λ row there. some-left (λ x. row ≡ x) (parts ++ rest) (class ∷ []) (some-left (λ x. row ≡ x) parts rest there)))
      (every-append (Goes before b items) constraints (defaults ++ (triggers ++ columns)) (goes_of 5 constraints constraints_go)
      (every-append (Goes before b items) defaults (triggers ++ columns) (goes_of 4 defaults defaults_go) (every-append (Goes before b items) triggers columns (goes_of 3 triggers triggers_go) columns_go)))) (class_goes, tt)

  column_rank : AllByRecursion (λ row. rank (key_of row) ≡ 2) columns
  column_rank = every-weaker (IsGiven before b (scans.Attribute rel)) (λ row. rank (key_of row) ≡ 2) (column_ranks before b rel) columns (given_seen before b (scans.Attribute rel))

  by_oid_keys : (given : List Row) → Pairwise HaveTwoKeys given → Pairwise HaveTwoKeys (by_oid given)
  by_oid_keys given pairs = pair_by_oid HaveTwoKeys two_keys_back [] given tt (every (λ row. ⊤) (λ row. tt) given) pairs

  trigger_keys : Pairwise HaveTwoKeys (triggers ++ columns) × AllByRecursion (λ z. rank (key_of z) < 4) (triggers ++ columns)
  trigger_keys = ranked 3 triggers columns (ranks_of 3 triggers triggers_go) (every-weaker (λ row. rank (key_of row) ≡ 2) (λ row. rank (key_of row) < 3) (λ row is. omega (arith, is)) columns column_rank)
      (by_oid_keys (answer_of before b (scans.Trigger rel)) (given_keys before b (scans.Trigger rel) drops.sound)) (given_keys before b (scans.Attribute rel) drops.sound)

  default_keys : Pairwise HaveTwoKeys (defaults ++ (triggers ++ columns)) × AllByRecursion (λ z. rank (key_of z) < 5) (defaults ++ (triggers ++ columns))
  default_keys = ranked 4 defaults (triggers ++ columns) (ranks_of 4 defaults defaults_go) trigger_keys.1 (by_oid_keys (answer_of before b (scans.AttrDef rel)) (given_keys before b (scans.AttrDef rel) drops.sound)) trigger_keys.0

  rest_keys : Pairwise HaveTwoKeys rest
  rest_keys = (ranked 5 constraints (defaults ++ (triggers ++ columns)) (ranks_of 5 constraints constraints_go) default_keys.1 (given_keys before b (scans.Constraint rel) drops.sound) default_keys.0).0

  at_least : (k : ℕ) (given : List Row) → 2 ≤ k → AllByRecursion (λ row. rank (key_of row) ≡ k) given → AllByRecursion (λ row. 2 ≤ rank (key_of row)) given
  at_least k given more = every-weaker (λ row. rank (key_of row) ≡ k) (λ row. 2 ≤ rank (key_of row)) (λ row is. omega (arith, is, more)) given

  rest_ranks : AllByRecursion (λ row. 2 ≤ rank (key_of row)) rest
  rest_ranks = every-append (λ row. 2 ≤ rank (key_of row)) constraints (defaults ++ (triggers ++ columns)) (at_least 5 constraints (omega arith) (ranks_of 5 constraints constraints_go))
      (every-append (λ row. 2 ≤ rank (key_of row)) defaults (triggers ++ columns) (at_least 4 defaults (omega arith) (ranks_of 4 defaults defaults_go))
      (every-append (λ row. 2 ≤ rank (key_of row)) triggers columns (at_least 3 triggers (omega arith) (ranks_of 3 triggers triggers_go)) (at_least 2 columns (omega arith) column_rank)))

  -- no two of them have one key
  gone_keys : Pairwise HaveTwoKeys gone
  gone_keys = pair-push HaveTwoKeys (parts ++ rest) class
      (pair_append HaveTwoKeys parts rest (indexes_two_keys before b rel indexes whole (given_keys before b (scans.Index rel) drops.sound)) rest_keys
      (every-weaker (λ x. rank (key_of x) < 2) (λ x. AllByRecursion (HaveTwoKeys x) rest) (λ x low. every-weaker (λ y. 2 ≤ rank (key_of y)) (HaveTwoKeys x) (λ y high same. absurd (omega (arith, low, high, ap rank same))) rest rest_ranks) parts (index_ranks before b rel indexes whole)))
      (every-append (λ x. HaveTwoKeys x class) parts rest (index_no_table before b rel name fill indexes drops.sound drops.seen whole)
      (every-weaker (λ y. 2 ≤ rank (key_of y)) (λ y. HaveTwoKeys y class) (λ y high same. absurd (omega (arith, high, ap rank same))) rest rest_ranks))

  -- so they may all go
  pub table_goes : MayAlter before b opened 0 None items
  table_goes = parts_alter before b opened 0 None gone [] forced
      (parts_fit before b 0 gone [] forced drops.sound refl (ap are_distinct_keys (append-nil (map key_of gone)) ∙ keys_distinct gone gone_keys)
      (every-weaker (Goes before b items) (MayGo before b (messages_written before b items)) (λ row g. g.may) gone all_go) tt)
      (record {
        whole = all_pass (takes_whole items) items (every_part (λ item. takes_whole items item ≡ true) gone [] forced (every-weaker (Goes before b items) (λ row. takes_whole items (taking row) ≡ true) (λ row g. g.whole) gone all_go) tt (λ o. refl));
        columns = all_pass (is_next_column before b items) items (every_part (λ item. is_next_column before b items item ≡ true) gone [] forced (every (λ row. is_next_column before b items (taking row) ≡ true) (λ row. refl) gone) tt (λ o. refl));
        called = every_part (CallsApart before b) gone [] forced (every (λ row. CallsApart before b (taking row)) (λ row. tt) gone) tt (λ o. tt);
        apart = parts_called gone [] forced tt;
      })
      (record { together = all_pass (goes_together before b items) items (every_part (λ item. goes_together before b items item ≡ true) gone [] forced (every-weaker (Goes before b items) (λ row. goes_together before b items (taking row) ≡ true) (λ row g. g.together) gone all_go) tt (λ o. refl)) })
      tt (λ facts read own is. is) (λ c. refl) (some_in (taking class) items (gone_in gone [] forced class last_in))

  -- and that is what the command writes
  pub table_changes : (dropped_table rel constraints indexes (answer_of before b (scans.AttrDef rel)) (answer_of before b (scans.Trigger rel)) columns).changes ≡ deleted gone ++ []
  table_changes =
      ap (λ l. l ++ deleted constraints ++ deleted defaults ++ deleted triggers ++ deleted columns ++ Delete (keys.Class rel) ∷ []) (indexes_gone before b rel indexes whole)
      ∙ simp (append_assoc, map-append {A = Row} {B = Change}, append-nil {A = Change})
