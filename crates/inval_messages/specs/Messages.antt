-- Invalidation messages, and which scans a message covers.
use Rattle.std.specs.Prelude.{Bool, true, false, not, List, [], ◌∷◌, ◌==◌, ◌&&◌}
use Rattle.std.specs.List.{list_any}
use Rattle.base_types.specs.CacheKeys.{key_hash, cache_number}
use Rattle.base_types.specs.Scans.{same_oid}
use Rattle.base_types.specs.declared.key.KeyPart.TheVariants as parts
use Rattle.base_types.specs.declared.scan.Purpose.TheVariants as scans
use Rattle.inval_messages.specs.Types.{Purpose, CacheId, RelName, RelOid, AttName, KeyPart, Message, Cat, Rel}

-- the message for a key of a catalog cache
abbrev pub message_for : CacheId → List KeyPart → Message
message_for cache key = Cat cache (key_hash cache key)

-- two messages are one
abbrev pub same_message : Message → Message → Bool
same_message (Cat a m) (Cat b n) = (cache_number a == cache_number b) && (m == n)
same_message (Rel a) (Rel b) = same_oid a b
same_message a b = false

-- the message is for a cache
abbrev pub is_for_cache : CacheId → Message → Bool
is_for_cache cache (Cat own hash) = cache_number own == cache_number cache
is_for_cache cache (Rel rel) = false

-- the message is for a descriptor
abbrev pub is_for_descriptor : Message → Bool
is_for_descriptor (Cat cache hash) = false
is_for_descriptor (Rel rel) = true

-- the message covers the scan: what the scan gave may have changed
abbrev pub covers : Purpose → Message → Bool
covers (scans.RelName name) message = same_message message (message_for RelName (parts.Name name ∷ []))
covers (scans.RelOid rel) message = same_message message (message_for RelOid (parts.Oid rel ∷ []))
covers (scans.AttName rel name) message = same_message message (message_for AttName (parts.Oid rel ∷ parts.Name name ∷ []))
covers (scans.AttList rel) message = is_for_cache AttName message
covers (scans.Class rel) message = same_message message (Rel rel)
covers (scans.Attribute rel) message = same_message message (Rel rel)
covers (scans.AttrDef rel) message = same_message message (Rel rel)
covers (scans.Constraint rel) message = same_message message (Rel rel)
covers (scans.Index rel) message = same_message message (Rel rel)
covers (scans.Trigger rel) message = same_message message (Rel rel)
covers (scans.IndexRow rel) message = same_message message (Rel rel)

-- none of the messages covers the scan
abbrev pub is_spared : Purpose → List Message → Bool
is_spared scan messages = not (list_any (covers scan) messages)
