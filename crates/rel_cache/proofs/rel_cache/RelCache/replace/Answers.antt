use Rattle.std.proofs.Common.{◌≡◌, ◌≢◌, ℕ, nat_eq, true, subst}
use Rattle.std.specs.Option.{option_map}
use Rattle.indexmap.specs.IndexMap.{get}
use Rattle.rel_cache.specs.Caches.{held_of}
use Rattle.rel_cache.specs.Named.{with_mark}
use Rattle.rel_cache.proofs.Agreeing.{stands}
use Rattle.rel_cache.proofs.Calls.{renewing, own_relation}
use Rattle.rel_cache.proofs.Whole.{changes}
use Rattle.rel_cache.proofs.rel_cache.RelCache.replace.Goals as goal

pub invariant_of-self : goal.invariant_of-self
unfolding held_of
invariant_of-self g c =
    let cache = c.args.self.now in
    let rel = c.requires.0.0 in
    let after = c.set_valid.new.index in
    let s = stands cache.descriptors cache.index rel c.args.r.now cache.indexed c.requires.1 in
    let own = own_relation cache.descriptors cache.index rel c.args.r.now c.get.result.now s c.get.ensures in
    let l = renewing cache.descriptors c.replace-old.new.self cache.index after rel c.args.r.now (record { rel = c.get.result.now.rel; value = c.args.value }) own cache.indexed cache.placed s c.replace-old.ensures.entry
    (subst (λ n. get nat_eq after n ≡ option_map (with_mark true) (get nat_eq cache.index n)) own c.set_valid.ensures.at) (subst (λ n. (k : ℕ) → k ≢ n → get nat_eq after k ≡ get nat_eq cache.index k) own c.set_valid.ensures.others) in
    record { indexed = l.indexed; placed = l.placed }

pub returns-clause-held : goal.returns-clause-held
unfolding held_of
returns-clause-held g c = λ rel under.
    let cache = c.args.self.now in
    let after = c.set_valid.new.index in
    let s = stands cache.descriptors cache.index rel.0 c.args.r.now cache.indexed under in
    let own = own_relation cache.descriptors cache.index rel.0 c.args.r.now c.get.result.now s c.get.ensures in
    changes cache _ rel _ (renewing cache.descriptors c.replace-old.new.self cache.index after rel.0 c.args.r.now (record { rel = c.get.result.now.rel; value = c.args.value }) own cache.indexed cache.placed s c.replace-old.ensures.entry
    (subst (λ n. get nat_eq after n ≡ option_map (with_mark true) (get nat_eq cache.index n)) own c.set_valid.ensures.at) (subst (λ n. (k : ℕ) → k ≢ n → get nat_eq after k ≡ get nat_eq cache.index k) own c.set_valid.ensures.others))
