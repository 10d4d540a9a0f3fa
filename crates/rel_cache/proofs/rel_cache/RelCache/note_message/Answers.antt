use Rattle.std.proofs.Common.{◌≡◌, ◌∙◌, nat_eq, slice_index, sym, ap, subst}
use Rattle.std.proofs.lemmas.Bool.{eqb-true}
use Rattle.std.proofs.lemmas.List.Quantifiers.{position-Some}
use Rattle.std.specs.Option.{option_and_then}
use Rattle.indexmap.specs.IndexMap.{keys}
use Rattle.rel_cache.specs.Descriptors.{need, told}
use Rattle.rel_cache.specs.Caches.{held_of, ChangesHeld, relation_at}
use Rattle.rel_cache.proofs.Whole.{by_number}
use Rattle.rel_cache.proofs.rel_cache.RelCache.note_message.Goals as goal

pub returns-clause-result : goal.returns-clause-result
unfolding held_of
returns-clause-result g c =
    let cache = c.args.self.now in
    let at : slice_index (keys cache.index) c.in-Some.place ≡ c.args.rel.0 = sym (eqb-true c.args.rel.0 (slice_index (keys cache.index) c.in-Some.place) (position-Some (nat_eq c.args.rel.0) (keys cache.index) c.in-Some.place 0 (sym c.in-Some.ensures.index)).1) in
    c.note_at.ensures.result ∙ ap (λ o. need (held_of cache o)) (by_number (relation_at cache c.in-Some.place) c.args.rel at)

pub returns-clause-held : goal.returns-clause-held
unfolding held_of
returns-clause-held g c =
    let cache = c.args.self.now in
    let at : slice_index (keys cache.index) c.in-Some.place ≡ c.args.rel.0 = sym (eqb-true c.args.rel.0 (slice_index (keys cache.index) c.in-Some.place) (position-Some (nat_eq c.args.rel.0) (keys cache.index) c.in-Some.place 0 (sym c.in-Some.ensures.index)).1) in
    subst (λ o. ChangesHeld cache c.note_at.new.self o (option_and_then told (held_of cache o))) (by_number (relation_at cache c.in-Some.place) c.args.rel at) c.note_at.ensures.held
