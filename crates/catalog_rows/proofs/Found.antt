-- The versions that are looked for are among the listed ones, and the store is what its slots say.
use Rattle.std.proofs.Common.{◌≡◌, ◌∙◌, ◌&&◌, ◌==◌, ◌⊎◌, inl, inr, ℕ, Bool, true, false, Result, Ok, Err, IfOk, Vec, Option, Some, None, List, is_some, slice_get, ◌++◌, length, fold, take, map, find, filter, filter_map, sym, ap}
use Rattle.std.specs.Option.{option_map, option_map_or}
use Rattle.std.specs.Global.{Global}
use Rattle.std.proofs.lemmas.Bool.{and_parts, or_cases, or_left, or_right}
use Rattle.base_types.specs.declared.memory.NoMemory.{NoMemory}
use Rattle.base_types.specs.RowKeys.{key_of, same_key}
use Rattle.row_visibility.specs.Seen.{seen_by, sees_version}
use Rattle.catalog_rows.specs.Types.{Xid, Row, RowKey, Purpose, Change, Stamp, Version, Reader}
use Rattle.catalog_rows.specs.Store.{Store, has_committed, row_of_key, rows_with_key, has_user, is_user, is_user_stamp, is_running_other, rows_of_scan, is_named, is_claimed, counts, clash_by, clash_of, after_write, after_undo, with_place, is_back}
use Rattle.catalog_rows.specs.Places.{key_place, scan_place, relation_place}
use Rattle.catalog_rows.specs.Slots.{version_numbered, versions_in, numbers_in, slot_back, new_slots, after_slots}
use Rattle.catalog_rows.specs.Index.{is_dead, Serves}
use Rattle.catalog_rows.proofs.EndedEach.{versions_written, slots_written, numbers_written}
use Rattle.catalog_rows.proofs.Given.{given, get-map}
use Rattle.catalog_rows.proofs.Serving.{given_served, served, find_served, alive_sees, alive_counts, alive_claimed}
use Rattle.catalog_rows.proofs.Grown.{take_front}
use Rattle.catalog_rows.proofs.TakenBack.{versions_left, slots_left, numbers_left}
use Rattle.catalog_rows.proofs.Under.{key_under, name_under}

-- a store with these slots
abbrev pub store_of : List (Option Version) → List Bool → Store
store_of slots committed = record { versions = versions_in slots; numbers = numbers_in slots; written = length slots; committed = committed }

-- the rows of a scan
pub rows_found : (store : Store) (purpose : Purpose) (reader : Reader) (slots : List (Option Version)) (committed : List Bool) (list : List ℕ) → store ≡ store_of slots committed → Serves committed slots (scan_place purpose) list
    → given purpose (sees_version (has_committed committed) reader) (filter_map (version_numbered slots) list) ≡ rows_of_scan store purpose reader
rows_found store purpose reader slots committed list is_store serves =
    given_served committed slots purpose list (sees_version (has_committed committed) reader) (alive_sees committed reader) serves ∙ sym (ap (λ (s : Store). rows_of_scan s purpose reader) is_store)

-- the row of a key
pub row_found : (store : Store) (key : RowKey) (reader : Reader) (slots : List (Option Version)) (committed : List Bool) (list : List ℕ) (found : Option Version) → store ≡ store_of slots committed → Serves committed slots (key_place key) list
    → found ≡ find (λ v. sees_version (has_committed committed) reader v && same_key (key_of v.row) key) (filter_map (version_numbered slots) list) → option_map {U = Row} (λ v. v.row) found ≡ row_of_key store key reader
row_found store key reader slots committed list found is_store serves first =
    ap (option_map {U = Row} (λ v. v.row))
    (first ∙ find_served committed slots (key_place key) list (λ v. sees_version (has_committed committed) reader v && same_key (key_of v.row) key)
    (λ v asked. let parts = and_parts (sees_version (has_committed committed) reader v) (same_key (key_of v.row) key) asked in (alive_sees committed reader v parts.0, key_under key v.row parts.1)) serves)
    ∙ sym (ap (λ (s : Store). row_of_key s key reader) is_store)

-- the first version of a relation with a name that passes a test, which no dead one does
named_found : (test : Version → Bool) (name : List ℕ) (slots : List (Option Version)) (committed : List Bool) (list : List ℕ) → ((v : Version) → test v ≡ true → is_dead committed v ≡ false) → Serves committed slots (relation_place name) list
    → find (λ v. is_named name v.row && test v) (filter_map (version_numbered slots) list) ≡ find (λ v. is_named name v.row && test v) (versions_in slots)
named_found test name slots committed list alive serves =
    find_served committed slots (relation_place name) list (λ v. is_named name v.row && test v) (λ v asked. let parts = and_parts (is_named name v.row) (test v) asked in (alive v parts.1, name_under name v.row parts.0)) serves

pub clash_found : (store : Store) (own : Option Xid) (name : List ℕ) (slots : List (Option Version)) (committed : List Bool) (list : List ℕ) → store ≡ store_of slots committed → Serves committed slots (relation_place name) list
    → clash_by committed own (find (λ v. is_named name v.row && is_claimed committed own v) (filter_map (version_numbered slots) list)) (find (λ v. is_named name v.row && seen_by (counts committed own) v) (filter_map (version_numbered slots) list))
    ≡ clash_of store own name
clash_found store own name slots committed list is_store serves =
    (λ i. clash_by committed own (named_found (is_claimed committed own) name slots committed list (alive_claimed committed own) serves i) (named_found (seen_by (counts committed own)) name slots committed list (alive_counts committed own) serves i))
    ∙ sym (ap (λ (s : Store). clash_of s own name) is_store)

-- the rows of a key
pub row_at_found : (store : Store) (key : RowKey) (reader : Reader) (slots : List (Option Version)) (committed : List Bool) (list : List ℕ) (index : ℕ) (found : Option Version) → store ≡ store_of slots committed → Serves committed slots (key_place key) list
    → found ≡ slice_get (filter (λ v. sees_version (has_committed committed) reader v && same_key (key_of v.row) key) (filter_map (version_numbered slots) list)) index → option_map {U = Row} (λ v. v.row) found ≡ slice_get (rows_with_key store key reader) index
row_at_found store key reader slots committed list index found is_store serves at =
    ap (option_map {U = Row} (λ v. v.row))
    (at ∙ ap (λ (vs : List Version). slice_get vs index) (served committed slots (key_place key) list (λ v. sees_version (has_committed committed) reader v && same_key (key_of v.row) key)
    (λ v asked. let parts = and_parts (sees_version (has_committed committed) reader v) (same_key (key_of v.row) key) asked in (alive_sees committed reader v parts.0, key_under key v.row parts.1)) serves))
    ∙ sym (get-map (λ (v : Version). v.row) (filter (λ v. sees_version (has_committed committed) reader v && same_key (key_of v.row) key) (versions_in slots)) index)
    ∙ sym (ap (λ (s : Store). slice_get (rows_with_key s key reader) index) is_store)

-- who uses a version claims it
user_claims : (committed : List Bool) (own : Option Xid) (user : Xid) (v : Version) → is_user committed own user v ≡ true → is_claimed committed own v ≡ true
user_claims committed own user v uses = by (or_cases (is_user_stamp committed own user v.by) _ uses)
  where
    ender : (o : Option Stamp) → option_map_or (is_user_stamp committed own user) o false ≡ true → option_map_or (is_running_other committed own) o false ≡ true
    ender None is = is
    ender (Some s) is = (and_parts (is_running_other committed own s) (s.xid.0 == user.0) is).0

    by : (is_user_stamp committed own user v.by ≡ true) ⊎ (option_map_or (is_user_stamp committed own user) v.ended false ≡ true) → is_claimed committed own v ≡ true
    by (inl wrote) = or_left (is_running_other committed own v.by) _ (and_parts (is_running_other committed own v.by) (v.by.xid.0 == user.0) wrote).0
    by (inr ended) = or_right (is_running_other committed own v.by) _ (ender v.ended ended)

-- the first version of a relation with a name that a transaction uses
pub user_found : (store : Store) (own : Option Xid) (name : List ℕ) (user : Xid) (slots : List (Option Version)) (committed : List Bool) (list : List ℕ) → store ≡ store_of slots committed → Serves committed slots (relation_place name) list
    → is_some (find (λ v. is_named name v.row && is_user committed own user v) (filter_map (version_numbered slots) list)) ≡ has_user store own name user
user_found store own name user slots committed list is_store serves =
    ap is_some (named_found (is_user committed own user) name slots committed list (λ v uses. alive_claimed committed own v (user_claims committed own user v uses)) serves)
    ∙ sym (ap (λ (s : Store). has_user s own name user) is_store)

-- after a write
pub write_done : (slots grown after : List (Option Version)) (committed now : List Bool) (xid : Xid) (command : ℕ) (changes : List Change) (first : ℕ) → first ≡ length slots → grown ≡ slots ++ new_slots (record { xid = xid; command = command }) changes
    → after ≡ fold (after_slots committed (record { xid = xid; command = command })) (take first grown) changes → now ≡ with_place xid.0 committed → store_of after now ≡ after_write (store_of slots committed) xid command changes
write_done slots grown after committed now xid command changes first is parts made placed = λ i. record {
  versions = (ap versions_in all ∙ versions_written committed stamp slots changes) i;
  numbers = (ap numbers_in all ∙ numbers_written committed stamp slots changes) i;
  written = (ap length all ∙ slots_written committed stamp slots changes) i;
  committed = placed i;
}
  where
    stamp : Stamp
    stamp = record { xid = xid; command = command }

    all : after ≡ fold (after_slots committed stamp) slots changes
    all = made ∙ ap (λ xs. fold (after_slots committed stamp) xs changes) (ap (take first) parts ∙ take_front slots (new_slots stamp changes) first is)

-- after an undo
pub undo_done : (slots after : List (Option Version)) (committed : List Bool) (xid : Xid) (from : ℕ) → after ≡ map (slot_back (is_back xid from)) slots → store_of after committed ≡ after_undo (store_of slots committed) xid from
undo_done slots after committed xid from made = λ i. record {
  versions = (ap versions_in made ∙ versions_left (is_back xid from) slots) i;
  numbers = (ap numbers_in made ∙ numbers_left (is_back xid from) slots) i;
  written = (ap length made ∙ slots_left (is_back xid from) slots) i;
  committed = committed;
}

-- what is said of a scan's rows
pub if_ok_then : (result : Result (Vec Row Global) NoMemory) {given wanted : List Row} → IfOk result (λ rows. rows.items ≡ given) → given ≡ wanted → IfOk result (λ rows. rows.items ≡ wanted)
if_ok_then (Ok rows) is same = is ∙ same
if_ok_then (Err error) is same = tt
