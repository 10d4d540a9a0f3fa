-- The versions of the rows of all catalogs: what a scan gives of them, and what a transaction changes.
use Rattle.std.specs.Prelude.{ℕ, Bool, true, false, not, Option, Some, None, List, [], ◌∷◌, ◌++◌, ◌+◌, ◌-◌, ◌==◌, ◌||◌, ◌&&◌, zero, suc, nat_le, map, filter, fold, length, replicate, slice_get, slice_set, unwrap_or, is_some, if◌then◌else◌}
use Rattle.std.specs.Option.{option_map, option_map_or}
use Rattle.std.specs.List.{find, flat_map}
use Rattle.std.specs.Str.{bytes_eq}
use Rattle.base_types.specs.RowKeys.{key_of, same_key}
use Rattle.base_types.specs.Scans.{scan_of, selects}
use Rattle.base_types.specs.declared.row.Row.TheVariants as rows
use Rattle.row_visibility.specs.Seen.{is_own, seen_by, sees_version}
use Rattle.catalog_rows.specs.Types.{Xid, Oid, Row, RowKey, Purpose, Change, Insert, Replace, Delete, Stamp, Version, Reader, Clash}
use Rattle.row_visibility.specs.declared.clash.Clash.TheVariants as clashes

-- the versions that no undo took back, in the order in which they were written, the number of each, how many were ever
-- written, and by Xid whether the transaction is committed
pub record Store : Type 0 where
  pub versions : List Version
  pub numbers : List ℕ
  pub written : ℕ
  pub committed : List Bool

-- nothing is written
abbrev pub no_rows : Store
no_rows = record { versions = []; numbers = []; written = 0; committed = [] }

-- the numbers of the versions that pass a test
abbrev pub numbers_where : (Version → Bool) → List Version → List ℕ → List ℕ
numbers_where test [] numbers = []
numbers_where test (v ∷ versions) [] = []
numbers_where test (v ∷ versions) (n ∷ numbers) = if test v then n ∷ numbers_where test versions numbers else numbers_where test versions numbers

-- the numbers of the versions whose rows a scan asks for
abbrev pub numbers_under : Store → Purpose → List ℕ
numbers_under store purpose = numbers_where (λ v. selects purpose v.row) store.versions store.numbers

-- the transaction is committed
abbrev pub has_committed : List Bool → ℕ → Bool
has_committed committed xid = unwrap_or (slice_get committed xid) false

-- the rows that a reader sees, in the order of writing
abbrev pub rows_seen : Store → Reader → List Row
rows_seen store reader = map (λ v. v.row) (filter (sees_version (has_committed store.committed) reader) store.versions)

-- what a scan gives a reader
abbrev pub rows_of_scan : Store → Purpose → Reader → List Row
rows_of_scan store purpose reader = scan_of purpose (rows_seen store reader)

-- the row of a key that a reader sees
abbrev pub row_of_key : Store → RowKey → Reader → Option Row
row_of_key store key reader = option_map (λ v. v.row) (find (λ v. sees_version (has_committed store.committed) reader v && same_key (key_of v.row) key) store.versions)

-- the rows with a key that a reader sees
abbrev pub rows_with_key : Store → RowKey → Reader → List Row
rows_with_key store key reader = map (λ v. v.row) (filter (λ v. sees_version (has_committed store.committed) reader v && same_key (key_of v.row) key) store.versions)

-- what counts for a writer: what is committed, and all that its own transaction did
abbrev pub counts : List Bool → Option Xid → Stamp → Bool
counts committed own stamp = has_committed committed stamp.xid.0 || is_own own stamp

-- the key of the row that a change ends
abbrev pub ended_key : Change → Option RowKey
ended_key (Insert row) = None
ended_key (Replace row) = Some (key_of row)
ended_key (Delete key) = Some key

-- the row that a change adds
abbrev pub added_row : Change → Option Row
added_row (Insert row) = Some row
added_row (Replace row) = Some row
added_row (Delete key) = None

-- a change of a transaction ends this version
abbrev pub is_ended : List Bool → Stamp → Change → Version → Bool
is_ended committed stamp change version = option_map_or (same_key (key_of version.row)) (ended_key change) false && seen_by (counts committed (Some stamp.xid)) version

-- a version, ended where a test says so
abbrev pub end_if : (Version → Bool) → Stamp → Version → Version
end_if test stamp version = elim (test version) [ true ↦ record { row = version.row; by = version.by; ended = Some stamp } | false ↦ version ]

-- the version of the row that a change adds, if it adds one
abbrev pub new_version : Stamp → Change → Option Version
new_version stamp change = option_map (λ row. record { row = row; by = stamp; ended = None }) (added_row change)

-- what there is, as a list
abbrev pub option_items : {X : Type 0} → Option X → List X
option_items None = []
option_items (Some x) = x ∷ []

-- the versions after a change
abbrev pub after_change : List Bool → Stamp → List Version → Change → List Version
after_change committed stamp versions change = map (end_if (is_ended committed stamp change) stamp) versions ++ option_items (new_version stamp change)

-- a place for the Xid, which isn't committed if it is new
abbrev pub with_place : ℕ → List Bool → List Bool
with_place xid committed = committed ++ replicate (xid + 1 - length committed) false

-- so many numbers, from this one on
abbrev pub numbers_from : ℕ → ℕ → List ℕ
numbers_from n zero = []
numbers_from n (suc count) = n ∷ numbers_from (n + 1) count

-- how many rows changes add
abbrev pub rows_added : List Change → ℕ
rows_added changes = length (flat_map (λ change. option_items (added_row change)) changes)

-- the store after all changes of a write
abbrev pub after_write : Store → Xid → ℕ → List Change → Store
after_write store xid command changes = record {
  versions = fold (after_change store.committed (record { xid = xid; command = command })) store.versions changes;
  numbers = store.numbers ++ numbers_from (store.written + 1) (rows_added changes);
  written = store.written + rows_added changes;
  committed = with_place xid.0 store.committed;
}

-- the store after a commit
abbrev pub after_commit : Store → Xid → Store
after_commit store xid = record { versions = store.versions; numbers = store.numbers; written = store.written; committed = slice_set store.committed xid.0 true }

-- done by the transaction in its commands of this number and above
abbrev pub is_back : Xid → ℕ → Stamp → Bool
is_back xid from stamp = (stamp.xid.0 == xid.0) && nat_le from stamp.command

-- a version whose end is taken back where a test says so
abbrev pub restored : (Stamp → Bool) → Version → Version
restored back version = record { row = version.row; by = version.by; ended = elim (option_map_or back version.ended false) [ true ↦ None | false ↦ version.ended ] }

-- the versions after the writes that a test names are taken back
abbrev pub taken_back : (Stamp → Bool) → List Version → List Version
taken_back back versions = map (restored back) (filter (λ v. not (back v.by)) versions)

-- the store after a transaction's writes in its commands of this number and above are taken back
abbrev pub after_undo : Store → Xid → ℕ → Store
after_undo store xid from = record {
  versions = taken_back (is_back xid from) store.versions;
  numbers = numbers_where (λ v. not (is_back xid from v.by)) store.versions store.numbers;
  written = store.written;
  committed = store.committed;
}

-- the row is that of a relation of this name
abbrev pub is_named : List ℕ → Row → Bool
is_named name (rows.Class oid own kind fill) = bytes_eq own name
is_named name row = false

-- another transaction, which still runs, left the stamp
abbrev pub is_running_other : List Bool → Option Xid → Stamp → Bool
is_running_other committed own stamp = not (counts committed own stamp)

-- another transaction, which still runs, wrote or ended the version
abbrev pub is_claimed : List Bool → Option Xid → Version → Bool
is_claimed committed own version = is_running_other committed own version.by || option_map_or (is_running_other committed own) version.ended false

-- the transaction with this Xid, another that still runs, left the stamp
abbrev pub is_user_stamp : List Bool → Option Xid → Xid → Stamp → Bool
is_user_stamp committed own user stamp = is_running_other committed own stamp && (stamp.xid.0 == user.0)

-- that transaction wrote or ended the version
abbrev pub is_user : List Bool → Option Xid → Xid → Version → Bool
is_user committed own user version = is_user_stamp committed own user version.by || option_map_or (is_user_stamp committed own user) version.ended false

-- that transaction has the name of a relation in use
abbrev pub has_user : Store → Option Xid → List ℕ → Xid → Bool
has_user store own name user = is_some (find (λ v. is_named name v.row && is_user store.committed own user v) store.versions)

-- the transaction that claims a version: its writer, or else the one that ended it
abbrev pub claimant_of : List Bool → Option Xid → Version → Xid
claimant_of committed own version = if is_running_other committed own version.by then version.by.xid else option_map_or (λ stamp. stamp.xid) version.ended version.by.xid

-- the first version of a relation of this name that a running transaction of another claims
abbrev pub claimed_version : Store → Option Xid → List ℕ → Option Version
claimed_version store own name = find (λ v. is_named name v.row && is_claimed store.committed own v) store.versions

-- the first version of a relation of this name that counts for the writer
abbrev pub standing_version : Store → Option Xid → List ℕ → Option Version
standing_version store own name = find (λ v. is_named name v.row && seen_by (counts store.committed own) v) store.versions

-- the relation of a row of pg_class
abbrev pub relation_of : Row → Option Oid
relation_of (rows.Class oid own kind fill) = Some oid
relation_of row = None

-- a clash with a row
abbrev pub row_clash : Option Version → Option Clash
row_clash None = None
row_clash (Some version) = option_map clashes.Row (relation_of version.row)

-- a clash with a transaction that claims a version, or else with a row
abbrev pub clash_by : List Bool → Option Xid → Option Version → Option Version → Option Clash
clash_by committed own (Some claimed) standing = Some (clashes.Running (claimant_of committed own claimed))
clash_by committed own None standing = row_clash standing

-- why a new relation may not have this name: a running transaction of another has it in use, or a row that counts has it
abbrev pub clash_of : Store → Option Xid → List ℕ → Option Clash
clash_of store own name = clash_by store.committed own (claimed_version store own name) (standing_version store own name)
