use Rattle.std.proofs.Common.{◌∙◌, sym, subst}
use Rattle.local_caches.proofs.Pins.{IsOneLess, taken_out, has_pin, is_held, closed_pins}
use Rattle.local_caches.proofs.descriptors.Descriptors.unpin_at.Goals as goal

pub close-requires : goal.close-requires
close-requires c =
    let old = c.args.self.now in
    (c.args.rel, sym c.reference.ensures ∙ c.in-Some.is, has_pin old.relations old.pinned.items _ c.args.rel old.pins (taken_out c.args.rel old.pinned.items c.args.at c.requires))

pub invariant_of-self : goal.invariant_of-self
invariant_of-self c =
    let old = c.args.self.now in
    record {
      pins = closed_pins old.relations c.close.new.self c.args.rel old.pinned.items c.remove.new.self.items old.pins (subst (IsOneLess c.args.rel old.pinned.items) (sym c.remove.ensures.by_index.2) (taken_out c.args.rel old.pinned.items c.args.at c.requires))
          (c.close.ensures.held c.args.rel (sym c.reference.ensures ∙ c.in-Some.is));
    }

pub invariant_of-self-in_default : goal.invariant_of-self-in_default
invariant_of-self-in_default c =
    let old = c.args.self.now in
    absurd (is_held old.relations old.pinned.items _ c.args.rel old.pins (taken_out c.args.rel old.pinned.items c.args.at c.requires) (sym c.reference.ensures ∙ c.in_default.is))
