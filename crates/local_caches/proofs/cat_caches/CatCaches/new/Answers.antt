use Rattle.local_caches.proofs.Unpinned.{nothing_pinned}
use Rattle.local_caches.proofs.Catalogs.{nothing_found}
use Rattle.local_caches.proofs.cat_caches.CatCaches.new.Goals as goal

pub invariant_of-result : goal.invariant_of-result
invariant_of-result c = record {
  theirs = record { names_are = c.in_ok-names.ensures.id; oids_are = c.in_ok-oids.ensures.id; columns_are = c.in_ok-columns.ensures.id };
  pins = record { names_are = nothing_pinned _ c.in_ok-names.ensures.shown; oids_are = nothing_pinned _ c.in_ok-oids.ensures.shown; columns_are = nothing_pinned _ c.in_ok-columns.ensures.shown };
}

pub returns : goal.returns
returns c = nothing_found _ c.in_ok-names.ensures.entries c.in_ok-oids.ensures.entries c.in_ok-columns.ensures.entries c.in_ok-columns.ensures.lists
