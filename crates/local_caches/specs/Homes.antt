-- Where it is kept what a scan gave, and which messages take it out of a catalog cache.
use Rattle.std.specs.Prelude.{Bool, true, false, [], ◌∷◌}
use Rattle.base_types.specs.declared.key.KeyPart.TheVariants as parts
use Rattle.base_types.specs.declared.scan.Purpose.TheVariants as scans
use Rattle.inval_messages.specs.Messages.{message_for, same_message, is_for_cache}
use Rattle.local_caches.specs.Types.{Purpose, RelName, RelOid, AttName, Message, Lookup, Home}
use Rattle.local_caches.specs.declared.home.Lookup.TheVariants as lookups
use Rattle.local_caches.specs.declared.home.Home.TheVariants as homes

-- where it is kept what a scan gave
abbrev pub home_of : Purpose → Home
home_of (scans.RelName name) = homes.Cat (lookups.Key RelName (parts.Name name ∷ []))
home_of (scans.RelOid rel) = homes.Cat (lookups.Key RelOid (parts.Oid rel ∷ []))
home_of (scans.AttName rel name) = homes.Cat (lookups.Key AttName (parts.Oid rel ∷ parts.Name name ∷ []))
home_of (scans.AttList rel) = homes.Cat (lookups.List (parts.Oid rel ∷ []))
home_of (scans.Class rel) = homes.Rel rel
home_of (scans.Attribute rel) = homes.Rel rel
home_of (scans.AttrDef rel) = homes.Rel rel
home_of (scans.Constraint rel) = homes.Rel rel
home_of (scans.Index rel) = homes.Rel rel
home_of (scans.Trigger rel) = homes.Rel rel
home_of (scans.IndexRow rel) = homes.Rel rel

-- it is looked up by a whole key, and not by the first part of one
abbrev pub is_whole_key : Lookup → Bool
is_whole_key (lookups.Key id key) = true
is_whole_key (lookups.List prefix) = false

-- the message takes out what a lookup finds
abbrev pub covers_lookup : Message → Lookup → Bool
covers_lookup message (lookups.Key id key) = same_message message (message_for id key)
covers_lookup message (lookups.List prefix) = is_for_cache AttName message
