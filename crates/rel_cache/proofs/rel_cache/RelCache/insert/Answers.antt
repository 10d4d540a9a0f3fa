use Rattle.std.proofs.Common.{◌∙◌, ap, refl, nat_eq}
use Rattle.std.specs.Map.{lookup}
use Rattle.rel_cache.specs.Caches.{held_of}
use Rattle.rel_cache.proofs.Agreeing.{stands}
use Rattle.rel_cache.proofs.Calls.{adding, unnamed_under}
use Rattle.rel_cache.proofs.Whole.{changes}
use Rattle.rel_cache.proofs.rel_cache.RelCache.insert.Goals as goal

pub invariant_of-self-in-Ok-add : goal.invariant_of-self-in-Ok-add
unfolding held_of
invariant_of-self-in-Ok-add g c =
    let cache = c.args.self.now in
    let l = adding cache.descriptors c.add.new.self cache.index c.put.new.index c.args.rel.0 c.in-Ok-add.at (record { rel = c.args.rel; value = c.args.value }) refl cache.indexed cache.placed c.requires c.in-Ok-add.ensures.unnamed c.in-Ok-add.ensures.entry
    c.put.ensures.at (λ k other. c.put.ensures.others k other ∙ ap (lookup (nat_eq k)) c.reserve.ensures.entries) in
    record { indexed = l.indexed; placed = l.placed }

pub returns-in-Ok-add-clause-held : goal.returns-in-Ok-add-clause-held
unfolding held_of
returns-in-Ok-add-clause-held g c =
    let cache = c.args.self.now in
    changes cache _ c.args.rel _ (adding cache.descriptors c.add.new.self cache.index c.put.new.index c.args.rel.0 c.in-Ok-add.at (record { rel = c.args.rel; value = c.args.value }) refl cache.indexed cache.placed c.requires c.in-Ok-add.ensures.unnamed c.in-Ok-add.ensures.entry
    c.put.ensures.at (λ k other. c.put.ensures.others k other ∙ ap (lookup (nat_eq k)) c.reserve.ensures.entries))

pub returns-in-Ok-add-clause-unnamed : goal.returns-in-Ok-add-clause-unnamed
unfolding held_of
returns-in-Ok-add-clause-unnamed g c = λ other under.
    let cache = c.args.self.now in
    unnamed_under cache.descriptors cache.index other.0 c.in-Ok-add.at (stands cache.descriptors cache.index other.0 c.in-Ok-add.at cache.indexed under) c.in-Ok-add.ensures.unnamed
