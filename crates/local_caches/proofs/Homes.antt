-- A home in a catalog cache is of one scan alone.
use Rattle.std.proofs.Common.{◌≡◌, ◌∙◌, Option, Some, None, [], ◌∷◌, sym, ap}
use Rattle.base_types.specs.declared.key.KeyPart.TheVariants as parts
use Rattle.base_types.specs.declared.scan.Purpose.TheVariants as scans
use Rattle.local_caches.specs.Types.{Purpose, RelName, RelOid, AttName, Lookup, Home}
use Rattle.local_caches.specs.Homes.{home_of}
use Rattle.local_caches.specs.declared.home.Lookup.TheVariants as lookups
use Rattle.local_caches.specs.declared.home.Home.TheVariants as homes

-- the scan whose home it is
abbrev scan_at : Home → Option Purpose
scan_at (homes.Cat (lookups.Key RelName (parts.Name name ∷ []))) = Some (scans.RelName name)
scan_at (homes.Cat (lookups.Key RelOid (parts.Oid rel ∷ []))) = Some (scans.RelOid rel)
scan_at (homes.Cat (lookups.Key AttName (parts.Oid rel ∷ parts.Name name ∷ []))) = Some (scans.AttName rel name)
scan_at (homes.Cat (lookups.List (parts.Oid rel ∷ []))) = Some (scans.AttList rel)
scan_at home = None

scan_back : (scan : Purpose) (lookup : Lookup) → home_of scan ≡ homes.Cat lookup → scan_at (homes.Cat lookup) ≡ Some scan
scan_back (scans.RelName name) lookup is = sym (ap scan_at is)
scan_back (scans.RelOid rel) lookup is = sym (ap scan_at is)
scan_back (scans.AttName rel name) lookup is = sym (ap scan_at is)
scan_back (scans.AttList rel) lookup is = sym (ap scan_at is)
scan_back scan lookup is = absurd (cc)

-- two scans with one home there are one
pub one_scan : (a b : Purpose) (lookup : Lookup) → home_of a ≡ homes.Cat lookup → home_of b ≡ homes.Cat lookup → a ≡ b
one_scan a b lookup here there = let same : Some a ≡ Some b = sym (scan_back a lookup here) ∙ scan_back b lookup there in cc
