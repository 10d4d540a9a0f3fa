-- A change of a row of pg_class or pg_attribute has a message for each scan that gives the old row or the new one.
use Rattle.std.proofs.Common.{◌≡◌, ◌∙◌, ◌⊎◌, inl, inr, ℕ, ℤ, Bool, true, false, Option, Some, None, List, [], ◌∷◌, ◌++◌, ◌==◌, ◌&&◌, ◌||◌, cond, refl, ap, subst, eqb-true, eq-eqb}
use Rattle.std.specs.Str.{bytes_eq}
use Rattle.std.specs.List.{list_any}
use Rattle.std.specs.Option.{option_and_then, option_map_or, option_to_list}
use Rattle.std.proofs.lemmas.Bool.{or_left, or_right}
use Rattle.std.proofs.lemmas.List.Folds.{list_any-append}
use Rattle.std.proofs.lemmas.Slice.Eq.{bytes_eq-Decides}
use Rattle.base_types.specs.CacheKeys.{cache_number}
use Rattle.base_types.specs.Scans.{same_oid, selects}
use Rattle.base_types.specs.declared.kind.Kind.{Kind}
use Rattle.base_types.specs.declared.col_type.ColType.{ColType}
use Rattle.base_types.specs.declared.key.KeyPart.TheVariants as parts
use Rattle.base_types.specs.declared.index_state.IndexState.{IndexState}
use Rattle.base_types.specs.declared.row.ConKind.TheVariants as kinds
use Rattle.base_types.specs.declared.row.Row.TheVariants as rows
use Rattle.base_types.specs.declared.scan.Purpose.TheVariants as scans
use Rattle.inval_messages.specs.Types.{Oid, ConKind, Row, Purpose, CacheId, RelName, RelOid, AttName, KeyPart, Message, Cat, Rel}
use Rattle.inval_messages.specs.Messages.{message_for, same_message, covers}
use Rattle.inval_messages.specs.Changes.{cat_for, rel_for, old_then_new, cats_at, cats_of, rels_of, messages_of}

both : (x y : Bool) → (x && y) ≡ true → (x ≡ true) × (y ≡ true)
both true y is = (refl, is)
both false y is = absurd (cc)

same_oid-true : (a b : Oid) → same_oid a b ≡ true → a ≡ b
same_oid-true a b is = let e : a.0 ≡ b.0 = eqb-true a.0 b.0 is in ap (λ n. record { 0 = n }) e

same_cache-true : (a b : CacheId) → (cache_number a == cache_number b) ≡ true → a ≡ b
same_cache-true RelName RelName is = refl
same_cache-true RelOid RelOid is = refl
same_cache-true AttName AttName is = refl
same_cache-true a b is = absurd (cc)

-- two messages that are one by the test are the same
pub same_message-true : (a b : Message) → same_message a b ≡ true → a ≡ b
same_message-true (Cat a m) (Cat b n) is =
    let parts = both (cache_number a == cache_number b) (m == n) is in
    ap (λ c. Cat c m) (same_cache-true a b parts.0) ∙ ap (Cat b) (eqb-true m n parts.1)
same_message-true (Rel a) (Rel b) is = ap Rel (same_oid-true a b is)
same_message-true a b is = absurd (cc)

-- a message is one with itself
pub same_message-itself : (m : Message) → same_message m m ≡ true
same_message-itself (Cat cache hash) = rw (eq-eqb (cache_number cache) (cache_number cache) refl, eq-eqb hash hash refl) refl
same_message-itself (Rel rel) = eq-eqb rel.0 rel.0 refl

-- there is a message, and it passes the test
abbrev pub does : (Message → Bool) → Option Message → Bool
does p message = option_map_or p message false

any-listed : (p : Message → Bool) (message : Option Message) → does p message ≡ true → list_any p (option_to_list message) ≡ true
any-listed p None some = some
any-listed p (Some m) some = or_left (p m) false some

any-old : (p : Message → Bool) (old new : Option Message) → does p old ≡ true → list_any p (old_then_new old new) ≡ true
any-old p None new some = absurd (cc)
any-old p (Some old) None some = or_left (p old) _ some
any-old p (Some old) (Some new) some = or_left (p old) _ some

any-new : (p : Message → Bool) (old new : Option Message) → does p new ≡ true → list_any p (old_then_new old new) ≡ true
any-new p None new some = any-listed p new some
any-new p (Some old) None some = absurd (cc)
any-new p (Some old) (Some new) some = by_test (same_message old new) refl
  where
    by_test : (same : Bool) → same_message old new ≡ same → (p old || list_any p (cond same [] (new ∷ []))) ≡ true
    by_test true one = or_left (p old) _ (ap p (same_message-true old new one) ∙ some)
    by_test false other = or_right (p old) _ (or_left (p new) _ some)

any-cache : (p : Message → Bool) (cache : CacheId) (old new : Option Row) → list_any p (cats_at cache old new) ≡ true → list_any p (cats_of old new) ≡ true
any-cache p cache old new some = list_any-append p (names ++ oids) columns ∙ by_cache cache some
  where
    names : List Message
    names = cats_at RelName old new

    oids : List Message
    oids = cats_at RelOid old new

    columns : List Message
    columns = cats_at AttName old new

    by_cache : (c : CacheId) → list_any p (cats_at c old new) ≡ true → (list_any p (names ++ oids) || list_any p columns) ≡ true
    by_cache RelName here = or_left (list_any p (names ++ oids)) _ (list_any-append p names oids ∙ or_left (list_any p names) _ here)
    by_cache RelOid here = or_left (list_any p (names ++ oids)) _ (list_any-append p names oids ∙ or_right (list_any p names) _ here)
    by_cache AttName here = or_right (list_any p (names ++ oids)) _ here

-- a constraint is a foreign key
abbrev pub is_foreign : ConKind → Bool
is_foreign (kinds.Check text) = false
is_foreign (kinds.Foreign num refrel refnum) = true

-- the row's own messages are for the scan: for defaults, triggers, checks, the indexes of a table and the relation that a foreign key refers to the writers force one
abbrev pub sends_itself : Purpose → Row → Bool
sends_itself (scans.AttrDef rel) row = false
sends_itself (scans.Trigger rel) row = false
sends_itself (scans.Index rel) row = false
sends_itself (scans.Constraint rel) (rows.Con oid of own valid what) = same_oid of rel && is_foreign what
sends_itself scan row = true

-- a message of the row covers the scan: the one of a cache, or the one for its relation
abbrev pub IsCovered : Purpose → Row → Type 0
IsCovered scan row = ((cache : CacheId) × (does (covers scan) (cat_for cache row) ≡ true)) ⊎ (does (covers scan) (rel_for row) ≡ true)

cat_covers : (cache : CacheId) (a b : List KeyPart) → a ≡ b → same_message (message_for cache a) (message_for cache b) ≡ true
cat_covers cache a b is = subst (λ key. same_message (message_for cache a) (message_for cache key) ≡ true) is (same_message-itself (message_for cache a))

same_name : (a b : List ℕ) → bytes_eq a b ≡ true → a ≡ b
same_name a b is = (bytes_eq-Decides a b).0 is

class_covered : (scan : Purpose) (oid : Oid) (name : List ℕ) (kind : Kind) (fill : Option ℕ) → selects scan (rows.Class oid name kind fill) ≡ true → IsCovered scan (rows.Class oid name kind fill)
class_covered (scans.RelName n) oid name kind fill is = inl (RelName, cat_covers RelName _ _ (ap (λ own. parts.Name own ∷ []) (same_name name n is)))
class_covered (scans.RelOid rel) oid name kind fill is = inl (RelOid, cat_covers RelOid _ _ (ap (λ own. parts.Oid own ∷ []) (same_oid-true oid rel is)))
class_covered (scans.Class rel) oid name kind fill is = inr is
class_covered scan oid name kind fill is = absurd (cc)

att_covered : (scan : Purpose) (of : Oid) (num : ℕ) (name : List ℕ) (col_type : ColType) (stat : ℤ) (live : Bool) → selects scan (rows.Att of num name col_type stat live) ≡ true → IsCovered scan (rows.Att of num name col_type stat live)
att_covered (scans.AttName rel n) of num name col_type stat live is =
    let both_are = both (same_oid of rel) (bytes_eq name n) is in
    inl (AttName, cat_covers AttName _ _ (ap (λ own. parts.Oid own ∷ parts.Name name ∷ []) (same_oid-true of rel both_are.0) ∙ ap (λ own. parts.Oid rel ∷ parts.Name own ∷ []) (same_name name n both_are.1)))
att_covered (scans.AttList rel) of num name col_type stat live is = inl (AttName, refl)
att_covered (scans.Attribute rel) of num name col_type stat live is = inr is
att_covered scan of num name col_type stat live is = absurd (cc)

ind_covered : (scan : Purpose) (index table : Oid) (state : IndexState) (nums : List ℕ) → selects scan (rows.Ind index table state nums) ≡ true → sends_itself scan (rows.Ind index table state nums) ≡ true → IsCovered scan (rows.Ind index table state nums)
ind_covered (scans.IndexRow rel) index table state nums is itself = inr is
ind_covered (scans.Index rel) index table state nums is itself = absurd (cc)
ind_covered scan index table state nums is itself = absurd (cc)

foreign_covered : (scan : Purpose) (oid of : Oid) (own : List ℕ) (valid : Bool) (num : ℕ) (refrel : Oid) (refnum : ℕ) → selects scan (rows.Con oid of own valid (kinds.Foreign num refrel refnum)) ≡ true
    → sends_itself scan (rows.Con oid of own valid (kinds.Foreign num refrel refnum)) ≡ true → IsCovered scan (rows.Con oid of own valid (kinds.Foreign num refrel refnum))
foreign_covered (scans.Constraint rel) oid of own valid num refrel refnum is itself = inr (both (same_oid of rel) true itself).0
foreign_covered scan oid of own valid num refrel refnum is itself = absurd (cc)

check_covered : (scan : Purpose) (oid of : Oid) (own : List ℕ) (valid : Bool) (text : List ℕ) → selects scan (rows.Con oid of own valid (kinds.Check text)) ≡ true
    → sends_itself scan (rows.Con oid of own valid (kinds.Check text)) ≡ true → IsCovered scan (rows.Con oid of own valid (kinds.Check text))
check_covered (scans.Constraint rel) oid of own valid text is itself = absurd (let e : false ≡ true = (both (same_oid of rel) false itself).1 in cc)
check_covered scan oid of own valid text is itself = absurd (cc)

def_covered : (scan : Purpose) (oid of : Oid) (num : ℕ) (word : List ℕ) → selects scan (rows.Def oid of num word) ≡ true → sends_itself scan (rows.Def oid of num word) ≡ true → IsCovered scan (rows.Def oid of num word)
def_covered (scans.AttrDef rel) oid of num word is itself = absurd (cc)
def_covered scan oid of num word is itself = absurd (cc)

trg_covered : (scan : Purpose) (oid of : Oid) (own : List ℕ) (on : Bool) → selects scan (rows.Trg oid of own on) ≡ true → sends_itself scan (rows.Trg oid of own on) ≡ true → IsCovered scan (rows.Trg oid of own on)
trg_covered (scans.Trigger rel) oid of own on is itself = absurd (cc)
trg_covered scan oid of own on is itself = absurd (cc)

-- a scan that gives a row is covered by a message of the row
pub row_covered : (scan : Purpose) (row : Row) → selects scan row ≡ true → sends_itself scan row ≡ true → IsCovered scan row
row_covered scan (rows.Class oid name kind fill) is itself = class_covered scan oid name kind fill is
row_covered scan (rows.Att of num name col_type stat live) is itself = att_covered scan of num name col_type stat live is
row_covered scan (rows.Ind index table state nums) is itself = ind_covered scan index table state nums is itself
row_covered scan (rows.Con oid of own valid (kinds.Foreign num refrel refnum)) is itself = foreign_covered scan oid of own valid num refrel refnum is itself
row_covered scan (rows.Con oid of own valid (kinds.Check text)) is itself = check_covered scan oid of own valid text is itself
row_covered scan (rows.Def oid of num word) is itself = def_covered scan oid of num word is itself
row_covered scan (rows.Trg oid of own on) is itself = trg_covered scan oid of own on is itself

in_parts : (p : Message → Bool) (cats rels : List Message) → (list_any p cats ≡ true) ⊎ (list_any p rels ≡ true) → list_any p (cats ++ rels) ≡ true
in_parts p cats rels (inl cat) = list_any-append p cats rels ∙ or_left (list_any p cats) (list_any p rels) cat
in_parts p cats rels (inr rel) = list_any-append p cats rels ∙ or_right (list_any p cats) (list_any p rels) rel

-- a scan that gives the new row of a change is covered by a message of the change
pub new_covered : (scan : Purpose) (old : Option Row) (new : Row) → selects scan new ≡ true → sends_itself scan new ≡ true → list_any (covers scan) (messages_of old (Some new)) ≡ true
new_covered scan old new is itself = in_parts (covers scan) (cats_of old (Some new)) (rels_of old (Some new)) (part (row_covered scan new is itself))
  where
    part : IsCovered scan new → (list_any (covers scan) (cats_of old (Some new)) ≡ true) ⊎ (list_any (covers scan) (rels_of old (Some new)) ≡ true)
    part (inl cat) = inl (any-cache (covers scan) cat.0 old (Some new) (any-new (covers scan) (option_and_then (cat_for cat.0) old) (cat_for cat.0 new) cat.1))
    part (inr rel) = inr (any-listed (covers scan) (rel_for new) rel)

-- a scan that gives the old row of a change is covered by a message of the change, where the new row, if there is one, tells the same relation
pub old_covered : (scan : Purpose) (old : Row) (new : Option Row) → rels_of (Some old) new ≡ rels_of (Some old) None → selects scan old ≡ true → sends_itself scan old ≡ true → list_any (covers scan) (messages_of (Some old) new) ≡ true
old_covered scan old new same is itself = in_parts (covers scan) (cats_of (Some old) new) (rels_of (Some old) new) (part (row_covered scan old is itself))
  where
    part : IsCovered scan old → (list_any (covers scan) (cats_of (Some old) new) ≡ true) ⊎ (list_any (covers scan) (rels_of (Some old) new) ≡ true)
    part (inl cat) = inl (any-cache (covers scan) cat.0 (Some old) new (any-old (covers scan) (cat_for cat.0 old) (option_and_then (cat_for cat.0) new) cat.1))
    part (inr rel) = inr (ap (list_any (covers scan)) same ∙ any-listed (covers scan) (rel_for old) rel)

-- of tables and columns a change always has them
pub class_sends_itself : (scan : Purpose) (oid : Oid) (name : List ℕ) (kind : Kind) (fill : Option ℕ) → selects scan (rows.Class oid name kind fill) ≡ true → sends_itself scan (rows.Class oid name kind fill) ≡ true
class_sends_itself (scans.RelName n) oid name kind fill is = refl
class_sends_itself (scans.RelOid rel) oid name kind fill is = refl
class_sends_itself (scans.Class rel) oid name kind fill is = refl
class_sends_itself scan oid name kind fill is = absurd (cc)

pub att_sends_itself : (scan : Purpose) (of : Oid) (num : ℕ) (name : List ℕ) (col_type : ColType) (stat : ℤ) (live : Bool) → selects scan (rows.Att of num name col_type stat live) ≡ true → sends_itself scan (rows.Att of num name col_type stat live) ≡ true
att_sends_itself (scans.AttName rel n) of num name col_type stat live is = refl
att_sends_itself (scans.AttList rel) of num name col_type stat live is = refl
att_sends_itself (scans.Attribute rel) of num name col_type stat live is = refl
att_sends_itself scan of num name col_type stat live is = absurd (cc)
