use Rattle.std.proofs.Common.{◌≡◌, ◌<◌, true, false, is_some, ◌∙◌, ◌++◌, ◌∷◌, [], sym, ap, subst}
use Rattle.std.specs.List.{list_any}
use Rattle.base_types.specs.Scans.{same_oid}
use Rattle.rel_cache.specs.Caches.{held_of}
use Rattle.local_caches.specs.Descriptors.{has_descriptor, parts_of, pins_of}
use Rattle.local_caches.specs.Parts.{pins_held}
use Rattle.local_caches.proofs.Pins.{few_pins, times_some, is_there, is_absent, opened_parts, opened_pinned, opened_pins}
use Rattle.local_caches.proofs.descriptors.Descriptors.pin.Goals as goal

pub returns-then-is_among-clause-pinned : goal.returns-then-is_among-clause-pinned
unfolding has_descriptor pins_of
returns-then-is_among-clause-pinned c = λ there.
    let noted = ap (list_any (λ other. same_oid other c.args.rel)) (sym c.deref.ensures.value) ∙ sym c.is_among.ensures ∙ c.if-is_among.true in
    subst (λ n. 0 < n) (sym (c.args.self.now.pins c.args.rel)) (times_some c.args.rel c.args.self.now.pinned.items noted)

pub open-requires : goal.open-requires
open-requires c = few_pins c.args.self.now.relations c.args.self.now.pinned.items c.args.rel c.args.self.now.pins (ap (list_any (λ other. same_oid other c.args.rel)) (sym c.deref.ensures.value) ∙ sym c.is_among.ensures ∙ c.if-is_among.false)

pub invariant_of-self-in-Valid : goal.invariant_of-self-in-Valid
invariant_of-self-in-Valid c =
    let there = is_there (held_of c.args.self.now.relations c.args.rel) c.open.result c.open.ensures.result c.in-Valid.is in
    record {
      pins = opened_pins c.args.self.now.relations c.open.new.self c.args.rel c.args.self.now.pinned.items _ c.args.self.now.pins there c.open.ensures.held (c.push_reserved.ensures.items ∙ ap (λ xs. xs ++ c.args.rel ∷ []) c.reserve.ensures.items);
    }

pub returns-in-Valid : goal.returns-in-Valid
unfolding has_descriptor parts_of pins_of
returns-in-Valid c =
    let there = is_there (held_of c.args.self.now.relations c.args.rel) c.open.result c.open.ensures.result c.in-Valid.is in
    record {
      parts = opened_parts c.args.self.now.relations c.open.new.self c.args.rel c.open.ensures.held;
      pinned = λ has. opened_pinned c.args.self.now.relations c.open.new.self c.args.rel there c.open.ensures.held;
      others = λ other differs. ap pins_held (c.open.ensures.held.others other differs);
      err = tt;
    }

pub returns-in-Unknown-clause-parts : goal.returns-in-Unknown-clause-parts
unfolding parts_of
returns-in-Unknown-clause-parts c = opened_parts c.args.self.now.relations c.open.new.self c.args.rel c.open.ensures.held

pub returns-in-Unknown-clause-pinned : goal.returns-in-Unknown-clause-pinned
unfolding has_descriptor pins_of
returns-in-Unknown-clause-pinned c = λ has.
    let never : false ≡ true = sym (ap is_some (is_absent (held_of c.args.self.now.relations c.args.rel) c.open.result c.open.ensures.result c.in-Unknown.is)) ∙ has in
    absurd (cc)

pub returns-in-Unknown-clause-others : goal.returns-in-Unknown-clause-others
unfolding pins_of
returns-in-Unknown-clause-others c = λ other differs. ap pins_held (c.open.ensures.held.others other differs)
