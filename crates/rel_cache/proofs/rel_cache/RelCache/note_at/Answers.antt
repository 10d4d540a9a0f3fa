use Rattle.std.proofs.Common.{◌∙◌, sym, ap, is_some, arith}
use Rattle.std.proofs.lemmas.Bool.{ne_eqb}
use Rattle.rel_cache.specs.Caches.{held_of}
use Rattle.rel_cache.proofs.Agreeing.{stands_at}
use Rattle.rel_cache.proofs.Messages.{notes_pinned, notes_free}
use Rattle.rel_cache.proofs.Whole.{changes, at_some}
use Rattle.rel_cache.proofs.rel_cache.RelCache.note_at.Goals as goal

pub pins-requires : goal.pins-requires
unfolding held_of
pins-requires g c = ap is_some (stands_at c.args.self.now.descriptors c.args.self.now.index c.in-Some.rel.now c.in-Some.kept.now c.args.self.now.indexed c.in-Some.ensures.value).is

pub returns-then-pins-gt0-clause-result : goal.returns-then-pins-gt0-clause-result
unfolding held_of
returns-then-pins-gt0-clause-result g c =
    let cache = c.args.self.now in
    (notes_pinned cache.descriptors cache.descriptors cache.index c.set_valid.new.index c.args.place c.in-Some.rel.now c.pins.result c.in-Some.kept.now cache.indexed cache.placed (sym c.in-Some.ensures.entry) c.in-Some.ensures.value c.pins.ensures
    c.if-pins-gt0.true c.set_valid.ensures.at c.set_valid.ensures.others c.set_valid.ensures.keys).answers

pub returns-then-pins-gt0-clause-held : goal.returns-then-pins-gt0-clause-held
unfolding held_of
returns-then-pins-gt0-clause-held g c =
    let cache = c.args.self.now in
    changes cache _ _ _ (notes_pinned cache.descriptors cache.descriptors cache.index c.set_valid.new.index c.args.place c.in-Some.rel.now c.pins.result c.in-Some.kept.now cache.indexed cache.placed (sym c.in-Some.ensures.entry) c.in-Some.ensures.value c.pins.ensures
    c.if-pins-gt0.true c.set_valid.ensures.at c.set_valid.ensures.others c.set_valid.ensures.keys).leaves

pub returns-then-pins-gt0-clause-told : goal.returns-then-pins-gt0-clause-told
unfolding held_of
returns-then-pins-gt0-clause-told g c =
    let cache = c.args.self.now in
    (notes_pinned cache.descriptors cache.descriptors cache.index c.set_valid.new.index c.args.place c.in-Some.rel.now c.pins.result c.in-Some.kept.now cache.indexed cache.placed (sym c.in-Some.ensures.entry) c.in-Some.ensures.value c.pins.ensures
    c.if-pins-gt0.true c.set_valid.ensures.at c.set_valid.ensures.others c.set_valid.ensures.keys).told

pub invariant_of-self-2 : goal.invariant_of-self-2
unfolding held_of
invariant_of-self-2 g c =
    let cache = c.args.self.now in
    let out = c.swap_remove_index.ensures.entry ∙ sym c.in-Some.ensures.entry in
    let updates = at_some _ c.swap_remove_index.result _ out c.swap_remove_index.ensures.updates in
    let swapped = at_some _ c.swap_remove_index.result _ out c.swap_remove_index.ensures.entries in
    let n = (notes_free cache.descriptors c.mark_dead.new.self cache.index c.swap_remove_index.new.self c.args.place c.in-Some.rel.now c.pins.result c.in-Some.kept.now cache.indexed cache.placed c.requires (sym c.in-Some.ensures.entry)
    c.in-Some.ensures.value c.pins.ensures (omega (arith, c.if-pins-gt0.false)) c.mark_dead.ensures.entry updates.1 (λ k other. updates.2 k (ne_eqb c.in-Some.rel.now k (λ same. other (sym same)))) swapped) in
    record { indexed = n.leaves.indexed; placed = n.leaves.placed }

pub returns-clause-result : goal.returns-clause-result
unfolding held_of
returns-clause-result g c =
    let cache = c.args.self.now in
    let out = c.swap_remove_index.ensures.entry ∙ sym c.in-Some.ensures.entry in
    let updates = at_some _ c.swap_remove_index.result _ out c.swap_remove_index.ensures.updates in
    let swapped = at_some _ c.swap_remove_index.result _ out c.swap_remove_index.ensures.entries in
    (notes_free cache.descriptors c.mark_dead.new.self cache.index c.swap_remove_index.new.self c.args.place c.in-Some.rel.now c.pins.result c.in-Some.kept.now cache.indexed cache.placed c.requires (sym c.in-Some.ensures.entry)
    c.in-Some.ensures.value c.pins.ensures (omega (arith, c.if-pins-gt0.false)) c.mark_dead.ensures.entry updates.1 (λ k other. updates.2 k (ne_eqb c.in-Some.rel.now k (λ same. other (sym same)))) swapped).answers

pub returns-clause-held : goal.returns-clause-held
unfolding held_of
returns-clause-held g c =
    let cache = c.args.self.now in
    let out = c.swap_remove_index.ensures.entry ∙ sym c.in-Some.ensures.entry in
    let updates = at_some _ c.swap_remove_index.result _ out c.swap_remove_index.ensures.updates in
    let swapped = at_some _ c.swap_remove_index.result _ out c.swap_remove_index.ensures.entries in
    changes cache _ _ _ (notes_free cache.descriptors c.mark_dead.new.self cache.index c.swap_remove_index.new.self c.args.place c.in-Some.rel.now c.pins.result c.in-Some.kept.now cache.indexed cache.placed c.requires (sym c.in-Some.ensures.entry)
    c.in-Some.ensures.value c.pins.ensures (omega (arith, c.if-pins-gt0.false)) c.mark_dead.ensures.entry updates.1 (λ k other. updates.2 k (ne_eqb c.in-Some.rel.now k (λ same. other (sym same)))) swapped).leaves

pub returns-clause-told : goal.returns-clause-told
unfolding held_of
returns-clause-told g c =
    let cache = c.args.self.now in
    let out = c.swap_remove_index.ensures.entry ∙ sym c.in-Some.ensures.entry in
    let updates = at_some _ c.swap_remove_index.result _ out c.swap_remove_index.ensures.updates in
    let swapped = at_some _ c.swap_remove_index.result _ out c.swap_remove_index.ensures.entries in
    (notes_free cache.descriptors c.mark_dead.new.self cache.index c.swap_remove_index.new.self c.args.place c.in-Some.rel.now c.pins.result c.in-Some.kept.now cache.indexed cache.placed c.requires (sym c.in-Some.ensures.entry)
    c.in-Some.ensures.value c.pins.ensures (omega (arith, c.if-pins-gt0.false)) c.mark_dead.ensures.entry updates.1 (λ k other. updates.2 k (ne_eqb c.in-Some.rel.now k (λ same. other (sym same)))) swapped).told
