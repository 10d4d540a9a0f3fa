-- The messages of a change of one row, by the old row, if there is one, and the new one, if there is one.
use Rattle.std.specs.Prelude.{Option, Some, None, List, [], ◌∷◌, ◌++◌, if◌then◌else◌}
use Rattle.std.specs.Option.{option_and_then, option_to_list}
use Rattle.base_types.specs.declared.key.KeyPart.TheVariants as parts
use Rattle.base_types.specs.declared.row.Row.TheVariants as rows
use Rattle.base_types.specs.declared.row.ConKind.TheVariants as kinds
use Rattle.inval_messages.specs.Types.{Oid, CacheId, RelName, RelOid, AttName, ConKind, Row, Message, Rel}
use Rattle.inval_messages.specs.Messages.{message_for, same_message}

-- the message for a row's key in a cache, if the cache is over the row's catalog
abbrev pub cat_for : CacheId → Row → Option Message
cat_for RelName (rows.Class oid name kind fill) = Some (message_for RelName (parts.Name name ∷ []))
cat_for RelOid (rows.Class oid name kind fill) = Some (message_for RelOid (parts.Oid oid ∷ []))
cat_for AttName (rows.Att rel num name col_type stat live) = Some (message_for AttName (parts.Oid rel ∷ parts.Name name ∷ []))
cat_for cache row = None

-- the old row's message, and after it the new row's where that is another
abbrev pub old_then_new : Option Message → Option Message → List Message
old_then_new None new = option_to_list new
old_then_new (Some old) None = old ∷ []
old_then_new (Some old) (Some new) = old ∷ (if same_message old new then [] else new ∷ [])

-- the messages of a change for one catalog cache
abbrev pub cats_at : CacheId → Option Row → Option Row → List Message
cats_at cache old new = old_then_new (option_and_then (cat_for cache) old) (option_and_then (cat_for cache) new)

-- the messages of a change for the catalog caches, cache by cache
abbrev pub cats_of : Option Row → Option Row → List Message
cats_of old new = cats_at RelName old new ++ cats_at RelOid old new ++ cats_at AttName old new

-- a constraint is read into the descriptor of its relation, which it alone tells where it is a foreign key
abbrev pub rel_for_constraint : Oid → ConKind → Option Message
rel_for_constraint rel (kinds.Check text) = None
rel_for_constraint rel (kinds.Foreign num refrel refnum) = Some (Rel rel)

-- the message for the relation whose descriptor is built of the row, where the row alone tells it
abbrev pub rel_for : Row → Option Message
rel_for (rows.Class oid name kind fill) = Some (Rel oid)
rel_for (rows.Att rel num name col_type stat live) = Some (Rel rel)
rel_for (rows.Ind index table state nums) = Some (Rel index)
rel_for (rows.Con oid rel name valid what) = rel_for_constraint rel what
rel_for row = None

-- the messages of a change for descriptors: both rows are of one relation, so the new row's does
abbrev pub rels_of : Option Row → Option Row → List Message
rels_of old (Some new) = option_to_list (rel_for new)
rels_of old None = option_to_list (option_and_then rel_for old)

-- all messages of a change
abbrev pub messages_of : Option Row → Option Row → List Message
messages_of old new = cats_of old new ++ rels_of old new
