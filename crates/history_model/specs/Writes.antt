-- Which writes a history allows.
use Rattle.std.specs.Prelude.{ℕ, Bool, true, false, List, ◌≡◌, length}
use Rattle.std.specs.Option.{option_map_or}
use Rattle.std.specs.List.{flat_map, filter_map, list_all, range_with_len}
use Rattle.base_types.specs.RowKeys.{are_distinct_keys}
use Rattle.history_model.specs.Types.{Oid, Xid, RowKey, Item, Put, Entry}
use Rattle.history_model.specs.Transactions.{xid_for}
use Rattle.history_model.specs.Versions.{ended_key, old_row, row_with}
use Rattle.history_model.specs.Drawn.{drawn_by, made_by, next_oid}
use Rattle.history_model.specs.Names.{new_names}
use Rattle.history_model.specs.Covered.{covers_changes}
use Rattle.history_model.specs.Changing.{changed_key, same_kind, free_at, guarded_at, is_last_write}
use Rattle.history_model.specs.After.{segment_of, standing_of}

-- the backend sees a row with the key
abbrev pub has_row : List Entry → ℕ → RowKey → Bool
has_row history b key = option_map_or (λ row. true) (row_with history b key) false

-- neither a running transaction of another backend has the name in use, nor has a relation that the backend sees
abbrev pub is_free : List Entry → ℕ → List ℕ → Bool
is_free history b name = free_at (segment_of history) b name

-- a change is guarded: on each relation of its rows, but those that the write makes, the backend holds a mode that is enough for it
abbrev pub is_guarded : List Entry → ℕ → List Oid → Item → Bool
is_guarded before b made item = guarded_at (segment_of before) b made item (old_row before b item)

-- a change leaves the kind of a relation
abbrev pub keeps_kind : List Entry → ℕ → Item → Bool
keeps_kind before b (Put row) = option_map_or (λ old. same_kind old row) (old_row before b (Put row)) true
keeps_kind before b item = true

-- a write has its transaction's Xid or the next one, draws the next oids in order, changes no key twice, replaces and takes away rows that are seen, leaves the kinds of relations, is the only one of its command, has no new name that is in use and no change that isn't guarded, and covers each scan that it changes by a message
pub record IsWriteAllowed (before : List Entry) (b c : ℕ) (xid : Xid) (items : List Item) : Type 0 where
  pub xid_is : xid.0 ≡ xid_for before b
  pub oids : flat_map drawn_by items ≡ range_with_len (next_oid before) (length (flat_map drawn_by items))
  pub keys : are_distinct_keys (flat_map changed_key items) ≡ true
  pub there : list_all (has_row before b) (filter_map ended_key items) ≡ true
  pub kinds : list_all (keeps_kind before b) items ≡ true
  pub only : is_last_write (standing_of before b).wrote c ≡ false
  pub free : list_all (is_free before b) (new_names before b items) ≡ true
  pub guarded : list_all (is_guarded before b (flat_map made_by items)) items ≡ true
  pub covered : covers_changes before b c xid items ≡ true
