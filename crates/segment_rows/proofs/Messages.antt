-- The messages of a write, by the rows that are kept and by the segment.
use Rattle.std.proofs.Common.{◌≡◌, ℕ, None, Some, List, [], ◌∷◌, ◌++◌, refl, ap}
use Rattle.std.specs.List.{flat_map}
use Rattle.base_types.specs.RowKeys.{key_of}
use Rattle.inval_messages.specs.Changes.{messages_of}
use Rattle.catalog_rows.specs.Store.{Store, row_of_key}
use Rattle.history_model.specs.Segment.{Segment}
use Rattle.history_model.specs.Rows.{row_at}
use Rattle.history_model.specs.Messages.{cats_at, rels_at}
use Rattle.segment_rows.specs.Types.{RowKey, Item, Add, Put, Remove, Force, Reader}
use Rattle.segment_rows.specs.Words.{messages_at}

-- the messages of a write
item_same : (seg : Segment) (b : ℕ) (store : Store) (reader : Reader) → ((key : RowKey) → row_of_key store key reader ≡ row_at seg b key) → (item : Item) → messages_at store reader item ≡ cats_at seg b item ++ rels_at seg b item
item_same seg b store reader same (Add row) = refl
item_same seg b store reader same (Put row) = ap (λ old. messages_of old (Some row)) (same (key_of row))
item_same seg b store reader same (Remove key) = ap (λ old. messages_of old None) (same key)
item_same seg b store reader same (Force rel) = refl

pub messages_same : (seg : Segment) (b : ℕ) (store : Store) (reader : Reader) → ((key : RowKey) → row_of_key store key reader ≡ row_at seg b key) → (list : List Item) → flat_map (messages_at store reader) list ≡ flat_map (λ item. cats_at seg b item ++ rels_at seg b item) list
messages_same seg b store reader same [] = refl
messages_same seg b store reader same (item ∷ list) = λ i. item_same seg b store reader same item i ++ messages_same seg b store reader same list i
