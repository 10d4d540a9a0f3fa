-- What the catalog caches have together, by what is put into one of them.
use Rattle.std.proofs.Common.{◌≡◌, ◌≢◌, ◌∙◌, ℕ, List, None, sym, ap}
use Rattle.std.specs.Option.{option_map}
use Rattle.cat_cache.specs.Caches.{entry_of, list_of}
use Rattle.local_caches.specs.Types.{KeyPart, RelName, RelOid, AttName, Row, Lookup}
use Rattle.local_caches.specs.Reads.{read_in, read_listed}
use Rattle.local_caches.specs.Keyed.{PutsList}
use Rattle.local_caches.specs.CatCaches.{looked_up, HasAll, PutsLookup}
use Rattle.local_caches.specs.declared.home.Lookup.TheVariants as lookups
use Rattle.local_caches.specs.declared.cat_caches.CatCaches.{CatCaches}

-- where none has anything, no lookup finds anything
pub nothing_found : (c : CatCaches) → ((key : List KeyPart) → entry_of c.names key ≡ None) → ((key : List KeyPart) → entry_of c.oids key ≡ None) → ((key : List KeyPart) → entry_of c.columns key ≡ None) → ((prefix : List KeyPart) → list_of c.columns prefix ≡ None) → (lookup : Lookup) → looked_up c lookup ≡ None
unfolding looked_up
nothing_found c names oids columns lists (lookups.Key RelName key) = ap (option_map read_in) (names key)
nothing_found c names oids columns lists (lookups.Key RelOid key) = ap (option_map read_in) (oids key)
nothing_found c names oids columns lists (lookups.Key AttName key) = ap (option_map read_in) (columns key)
nothing_found c names oids columns lists (lookups.List prefix) = ap (option_map read_listed) (lists prefix)

-- the columns of a relation are listed now
pub put_columns : (old new : CatCaches) (prefix : List KeyPart) (rows : List Row) (place : ℕ) (lookup : Lookup) → lookup ≡ lookups.List prefix → PutsList old.columns new.columns prefix rows place → new.names ≡ old.names → new.oids ≡ old.oids → PutsLookup old new lookup rows place
unfolding looked_up
put_columns old new prefix rows place lookup is puts names oids = record { at = ap (looked_up new) is ∙ puts.at; others = by }
  where
    by : (other : Lookup) → other ≢ lookup → looked_up new other ≡ looked_up old other
    by (lookups.Key RelName k) differs = ap (λ c. option_map read_in (entry_of c k)) names
    by (lookups.Key RelOid k) differs = ap (λ c. option_map read_in (entry_of c k)) oids
    by (lookups.Key AttName k) differs = ap (option_map read_in) (puts.entries k)
    by (lookups.List p) differs = ap (option_map read_listed) (puts.others p (λ same. differs (ap lookups.List same ∙ sym is)))

-- each has what it had
pub same_found : (old new : CatCaches) → ((key : List KeyPart) → entry_of new.names key ≡ entry_of old.names key) → ((key : List KeyPart) → entry_of new.oids key ≡ entry_of old.oids key) → ((key : List KeyPart) → entry_of new.columns key ≡ entry_of old.columns key) → ((prefix : List KeyPart) → list_of new.columns prefix ≡ list_of old.columns prefix) → HasAll old new
unfolding looked_up
same_found old new names oids columns lists (lookups.Key RelName key) = ap (option_map read_in) (names key)
same_found old new names oids columns lists (lookups.Key RelOid key) = ap (option_map read_in) (oids key)
same_found old new names oids columns lists (lookups.Key AttName key) = ap (option_map read_in) (columns key)
same_found old new names oids columns lists (lookups.List prefix) = ap (option_map read_listed) (lists prefix)
