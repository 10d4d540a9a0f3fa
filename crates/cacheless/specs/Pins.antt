-- Which descriptors a session has pinned.
use Rattle.std.specs.Prelude.{◌≡◌, ◌&&◌, ◌||◌, List}
use Rattle.ddl_effect.specs.Opens.{has_open}
use Rattle.local_caches.specs.Caches.{is_pinned}
use Rattle.local_caches.specs.declared.local_caches.LocalCaches.{LocalCaches}
use Rattle.cacheless.specs.Types.{Oid, OpenRelation, Opening}
use Rattle.cacheless.specs.declared.progress.Progress.{Progress}
use Rattle.cacheless.specs.Puts.{is_opened}

-- the relations that are open have their descriptors pinned, and so have those that are held, and no others
abbrev pub ArePinned : Progress → Type 0
ArePinned s = (rel : Oid) → is_pinned s.caches rel ≡ (has_open rel s.opens || is_opened s.opened rel)

-- beside what was pinned these are
abbrev pub PinsMore : LocalCaches → LocalCaches → List Opening → Type 0
PinsMore old new more = (rel : Oid) → is_pinned new rel ≡ (is_pinned old rel || is_opened more rel)

-- of what was pinned only these are left
abbrev pub PinsOnly : LocalCaches → LocalCaches → List OpenRelation → Type 0
PinsOnly old new opens = (rel : Oid) → is_pinned new rel ≡ (has_open rel opens && is_pinned old rel)
