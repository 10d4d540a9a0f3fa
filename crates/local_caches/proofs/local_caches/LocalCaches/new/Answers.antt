use Rattle.std.proofs.Common.{◌≡◌, None, ap}
use Rattle.local_caches.specs.Types.{Purpose, Home}
use Rattle.local_caches.specs.Caches.{read_at, kept_of}
use Rattle.local_caches.specs.Parts.{part_kept}
use Rattle.local_caches.specs.Homes.{home_of}
use Rattle.local_caches.specs.declared.home.Home.TheVariants as homes
use Rattle.local_caches.proofs.local_caches.LocalCaches.new.Goals as goal

pub returns-clause-kept : goal.returns-clause-kept
unfolding kept_of
returns-clause-kept c = λ i scan. by_home scan (home_of scan) i
  where
    by_home : (scan : Purpose) (home : Home) → read_at (record { catalogs = c.in_ok-catalogs.catalogs; descriptors = c.new-2.result }) scan home ≡ None
    by_home scan (homes.Cat lookup) = c.in_ok-catalogs.ensures lookup
    by_home scan (homes.Rel rel) = ap (λ parts. part_kept parts scan) (c.new-2.ensures.parts rel)
