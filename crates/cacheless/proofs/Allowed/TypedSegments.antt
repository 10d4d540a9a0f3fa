-- What the entries of a history leave is typed where each of them has a text.
use Rattle.std.proofs.Common.{◌≡◌, ℕ, Bool, true, false, not, List, [], ◌∷◌, ◌++◌, ◌==◌, refl, sym, subst}
use Rattle.std.specs.Prelude.{IfSome}
use Rattle.std.specs.List.{AllByRecursion, flat_map}
use Rattle.base_types.specs.declared.row.Row.TheVariants as rows
use Rattle.event_kinds.specs.Entries.{IsNumber, IsRow, IsItem, IsEvent, IsEntry}
use Rattle.event_kinds.specs.declared.entry.Event.TheVariants as events
use Rattle.event_kinds.specs.declared.entry.Item.TheVariants as items
use Rattle.inval_messages.specs.Lists.{Written}
use Rattle.lock_modes.specs.Grants.{is_lock, stays}
use Rattle.lock_modes.specs.declared.grant.Grant.{Grant}
use Rattle.history_model.specs.After.{segment_of}
use Rattle.history_model.specs.Grants.{granted_by}
use Rattle.history_model.specs.Held.{held_by, held_of}
use Rattle.history_model.specs.Read.{is_scan_of, rows_read}
use Rattle.history_model.specs.Segment.{ends_transaction}
use Rattle.history_model.specs.Sent.{lists_by, lists_of}
use Rattle.history_model.specs.Transactions.{running_transaction_of}
use Rattle.history_model.specs.Versions.{versions_of, versions_by, added_row, ends, is_back, answer_of}
use Rattle.history_model.proofs.DrawnRows.{given_each}
use Rattle.history_model.proofs.Every.{every, every-weaker, every-append, every-kept, every-both}
use Rattle.history_model.proofs.Reading.{versions_of-more, held_of-more, lists_of-own, lists_of-other, rows_read-own, rows_read-other}
use Rattle.history_model.proofs.Touched.{stamps-write, stamps-gone}
use Rattle.cacheless.specs.Types.{Row, Purpose, Item, Entry, Event}
use Rattle.cacheless.specs.Typed.{AreTypedRows, IsTypedStamp, IsTypedVersion, IsTypedGrant, LeavesTyped}

-- ---- versions

item_row : (item : Item) → IsItem item → IfSome (added_row item) IsRow
item_row (items.Add row) is = is
item_row (items.Put row) is = is
item_row (items.Remove key) is = tt
item_row (items.Force rel) is = tt

versions_typed : (history : List Entry) (b command : ℕ) (event : Event) → IsEvent event → AllByRecursion IsTypedVersion (versions_of history) → AllByRecursion IsTypedVersion (versions_by history b command event (versions_of history))
versions_typed history b command (events.Write xid changes) is all = stamps-write IsTypedStamp IsRow (segment_of history) b (record { xid = xid; command = command }) (λ row spelled. (is.0, spelled)) changes (versions_of history)
    (every-both (λ item. IfSome (added_row item) IsRow) (λ item. AllByRecursion (λ v. ends history b item v ≡ true → IsRow v.row) (versions_of history)) changes
    (every-weaker IsItem (λ item. IfSome (added_row item) IsRow) item_row changes is.1.1)
    (every (λ item. AllByRecursion (λ v. ends history b item v ≡ true → IsRow v.row) (versions_of history)) (λ item. every-weaker IsTypedVersion (λ v. ends history b item v ≡ true → IsRow v.row) (λ v held ended. held.0.1) (versions_of history) all) changes)) all
versions_typed history b command (events.Gone from) is all = stamps-gone IsTypedStamp IsTypedStamp (is_back history b from) (λ stamp row kept held. held) (versions_of history) all
versions_typed history b command event is all = all

-- the rows of the versions
pub rows_typed : (history : List Entry) → AllByRecursion IsTypedVersion (versions_of history) → AllByRecursion (λ v. IsRow v.row) (versions_of history)
rows_typed history all = every-weaker IsTypedVersion (λ v. IsRow v.row) (λ v held. held.0.1) (versions_of history) all

-- what a scan gives
pub answer_typed : (history : List Entry) (b : ℕ) (scan : Purpose) → AllByRecursion IsTypedVersion (versions_of history) → AreTypedRows (answer_of history b scan)
answer_typed history b scan all = given_each IsRow history b scan (rows_typed history all)

-- ---- grants

item_grants : (b command : ℕ) (item : Item) → IsNumber b → IsItem item → AllByRecursion IsTypedGrant (granted_by b command item)
item_grants b command (items.Add (rows.Class oid name kind fill)) own is = ((own, is.0), tt)
item_grants b command (items.Add (rows.Att rel num name col_type stat live)) own is = tt
item_grants b command (items.Add (rows.Def oid rel num word)) own is = tt
item_grants b command (items.Add (rows.Ind index table state nums)) own is = tt
item_grants b command (items.Add (rows.Con oid rel name valid what)) own is = tt
item_grants b command (items.Add (rows.Trg oid rel name on)) own is = tt
item_grants b command (items.Put row) own is = tt
item_grants b command (items.Remove key) own is = tt
item_grants b command (items.Force rel) own is = tt

new_grants : (b command : ℕ) (changes : List Item) → IsNumber b → AllByRecursion IsItem changes → AllByRecursion IsTypedGrant (flat_map (granted_by b command) changes)
new_grants b command [] own all = tt
new_grants b command (item ∷ changes) own all = every-append IsTypedGrant (granted_by b command item) (flat_map (granted_by b command) changes) (item_grants b command item own all.0) (new_grants b command changes own all.1)

grants_typed : (b command : ℕ) (event : Event) (held : List Grant) → IsNumber b → IsEvent event → AllByRecursion IsTypedGrant held → AllByRecursion IsTypedGrant (held_by b command event held)
grants_typed b command (events.LockOk rel mode) held own is all = every-append IsTypedGrant held (record { backend = b; command = command; rel = rel; mode = mode } ∷ []) all ((own, is), tt)
grants_typed b command (events.Unlock rel mode) held own is all = every-kept IsTypedGrant (λ g. not (is_lock b rel mode g)) held all
grants_typed b command (events.Write xid changes) held own is all = every-append IsTypedGrant held (flat_map (granted_by b command) changes) all (new_grants b command changes own is.1.1)
grants_typed b command (events.Release from) held own is all = every-kept IsTypedGrant (stays b from) held all
grants_typed b command event held own is all = all

-- ---- lists of messages

lists_typed : (history : List Entry) (b command : ℕ) (event : Event) (old : List Written) → IsNumber command → AllByRecursion (λ w. IsNumber w.command) old → AllByRecursion (λ w. IsNumber w.command) (lists_by history b command event old)
lists_typed history b command (events.Write xid changes) old is all = every-append (λ w. IsNumber w.command) old _ all (is, tt)
lists_typed history b command (events.Gone from) old is all = every-kept (λ w. IsNumber w.command) _ old all
lists_typed history b command (events.Release from) old is all = by_test (ends_transaction from (running_transaction_of history b))
  where
    by_test : (t : Bool) → AllByRecursion (λ w. IsNumber w.command) (elim t as (λ x. List Written) [ true ↦ [] | false ↦ old ])
    by_test true = tt
    by_test false = all
lists_typed history b command event old is all = all

-- ---- one more entry

pub leaves_more : (history : List Entry) (e : Entry) → IsEntry e → LeavesTyped history → LeavesTyped (history ++ e ∷ [])
leaves_more history e is leaves = record {
  versions = subst (AllByRecursion IsTypedVersion) (sym (versions_of-more history e)) (versions_typed history e.backend e.command e.event is.event leaves.versions);
  grants = subst (AllByRecursion IsTypedGrant) (sym (held_of-more history e)) (grants_typed e.backend e.command e.event (held_of history) is.backend is.event leaves.grants);
  lists = λ b. lists_at b (e.backend == b) refl;
  read = λ b scan. read_at b scan (e.backend == b) refl;
}
  where
    lists_at : (b : ℕ) (t : Bool) → (e.backend == b) ≡ t → AllByRecursion (λ w. IsNumber w.command) (lists_of (history ++ e ∷ []) b)
    lists_at b true own = subst (AllByRecursion (λ w. IsNumber w.command)) (sym (lists_of-own history e b own)) (lists_typed history b e.command e.event (lists_of history b) is.command (leaves.lists b))
    lists_at b false other = subst (AllByRecursion (λ w. IsNumber w.command)) (sym (lists_of-other history e b other)) (leaves.lists b)

    by_scan : (b : ℕ) (scan : Purpose) (t : Bool) → AreTypedRows (elim t as (λ x. List Row) [ true ↦ answer_of history b scan | false ↦ rows_read history b scan ])
    by_scan b scan true = answer_typed history b scan leaves.versions
    by_scan b scan false = leaves.read b scan

    read_at : (b : ℕ) (scan : Purpose) (t : Bool) → (e.backend == b) ≡ t → AreTypedRows (rows_read (history ++ e ∷ []) b scan)
    read_at b scan true own = subst AreTypedRows (sym (rows_read-own history e b scan own)) (by_scan b scan (is_scan_of scan e.event))
    read_at b scan false other = subst AreTypedRows (sym (rows_read-other history e b scan other)) (leaves.read b scan)

-- before the first entry
pub leaves_start : LeavesTyped []
leaves_start = record { versions = tt; grants = tt; lists = λ b. tt; read = λ b scan. tt }
