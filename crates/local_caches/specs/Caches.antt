-- What the caches have of each scan.
use Rattle.std.specs.Prelude.{◌≡◌, Bool, Option, nat_lt}
use Rattle.local_caches.specs.Types.{Oid, Purpose, Home}
use Rattle.local_caches.specs.Kept.{Read, Kept}
use Rattle.local_caches.specs.Homes.{home_of}
use Rattle.local_caches.specs.CatCaches.{looked_up}
use Rattle.local_caches.specs.Parts.{part_kept}
use Rattle.local_caches.specs.Descriptors.{parts_of, pins_of}
use Rattle.local_caches.specs.declared.home.Home.TheVariants as homes
use Rattle.local_caches.specs.declared.local_caches.LocalCaches.{LocalCaches}

-- what is kept of a scan at its place
abbrev pub read_at : LocalCaches → Purpose → Home → Option Read
read_at c scan (homes.Cat lookup) = looked_up c.catalogs lookup
read_at c scan (homes.Rel rel) = part_kept (parts_of c.descriptors rel) scan

-- what is kept of each scan
unfoldable pub kept_of : LocalCaches → Kept
kept_of c = λ scan. read_at c scan (home_of scan)

-- a relation's descriptor is pinned
unfoldable pub is_pinned : LocalCaches → Oid → Bool
is_pinned c rel = nat_lt 0 (pins_of c.descriptors rel)

-- the same descriptors are pinned
abbrev pub KeepsPins : LocalCaches → LocalCaches → Type 0
KeepsPins old new = (rel : Oid) → is_pinned new rel ≡ is_pinned old rel
