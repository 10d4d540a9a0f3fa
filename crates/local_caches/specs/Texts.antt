-- The texts that are kept of the fields which a scan reads.
use Rattle.std.specs.Prelude.{◌≡◌, List}
use Rattle.rel_desc.specs.declared.part.FieldValue.{FieldValue}
use Rattle.rel_desc.specs.KeptRows.{values_read}
use Rattle.local_caches.specs.Types.{Oid, Row, Purpose}
use Rattle.local_caches.specs.Homes.{home_of}
use Rattle.local_caches.specs.declared.home.Home.TheVariants as homes

-- these are the texts of the fields of the relation that the scan asks for, of the rows that it gave
abbrev pub AreTexts : Purpose → List Row → List FieldValue → Type 0
AreTexts scan given texts = (rel : Oid) → home_of scan ≡ homes.Rel rel → texts ≡ values_read rel scan given
