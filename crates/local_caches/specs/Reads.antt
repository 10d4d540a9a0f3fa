-- What an entry of a cache says of a scan.
use Rattle.std.specs.Prelude.{[], ◌∷◌}
use Rattle.cat_cache.specs.Entries.{CatEntry, Positive, Negative, CatList}
use Rattle.local_caches.specs.Kept.{Read}
use Rattle.local_caches.specs.declared.given.Given.{Given}

-- what is lent
abbrev pub given : Given → Read
given lent = record { rows = lent.rows.now; at = lent.at }

-- what a positive or a negative entry says
abbrev pub read_in : CatEntry → Read
read_in (Positive r row at) = record { rows = row ∷ []; at = at }
read_in (Negative at) = record { rows = []; at = at }

-- what a list says
abbrev pub read_listed : CatList → Read
read_listed list = record { rows = list.rows; at = list.at }
