use Rattle.std.proofs.Common.{◌∙◌, ℕ, refl, sym, ap}
use Rattle.std.specs.Option.{option_map}
use Rattle.lock_modes.specs.Types.{Mode}
use Rattle.lock_modes.proofs.Room.{room_for_none}
use Rattle.lock_modes.proofs.Excluding.{exclude_front, exclude_cleared, exclude_granted, granted_exclude}
use Rattle.lock_modes.proofs.Conflicts.{holds_there, conflict_there}
use Rattle.lock_modes.proofs.lock_table.LockTable.request.Goals as goal

pub returns-then-is_held-clause-answers : goal.returns-then-is_held-clause-answers
returns-then-is_held-clause-answers c = rw (← c.self.view_is) (record {
  held = sym (holds_there _ _ _ c.get.result.now c.args.backend c.args.rel c.args.mode _ c.self.invariant.holds c.get.ensures c.is_held.ensures) ∙ c.if-is_held.true;
  same = refl;
})

pub returns-in-Some-clause-answers : goal.returns-in-Some-clause-answers
returns-in-Some-clause-answers c = rw (← c.self.view_is) (record {
  unheld = sym (holds_there _ _ _ c.get.result.now c.args.backend c.args.rel c.args.mode _ c.self.invariant.holds c.get.ensures c.is_held.ensures) ∙ c.if-is_held.false;
  first = ap (option_map {U = ℕ × Mode} (λ other. (other.backend, other.mode))) (sym (conflict_there _ _ _ c.get-2.result.now c.args.backend c.args.rel c.args.mode _ c.self.invariant.holds c.get-2.ensures c.first_in_the_way.ensures) ∙ c.in-Some.is);
  same = refl;
})

pub returns-clause-answers : goal.returns-clause-answers
returns-clause-answers c = rw (← c.self.view_is) (record {
  unheld = sym (holds_there _ _ _ c.get.result.now c.args.backend c.args.rel c.args.mode _ c.self.invariant.holds c.get.ensures c.is_held.ensures) ∙ c.if-is_held.false;
  free = sym (conflict_there _ _ _ c.get-2.result.now c.args.backend c.args.rel c.args.mode _ c.self.invariant.holds c.get-2.ensures c.first_in_the_way.ensures) ∙ c.in_default.is;
  more = c.add.ensures.all;
})

pub returns-in_default-reserve-clause-answers : goal.returns-in_default-reserve-clause-answers
returns-in_default-reserve-clause-answers c = rw (← c.self.view_is) (record {
  unheld = sym (holds_there _ _ _ c.get.result.now c.args.backend c.args.rel c.args.mode _ c.self.invariant.holds c.get.ensures c.is_held.ensures) ∙ c.if-is_held.false;
  free = sym (conflict_there _ _ _ c.get-2.result.now c.args.backend c.args.rel c.args.mode _ c.self.invariant.holds c.get-2.ensures c.first_in_the_way.ensures) ∙ c.in_default.is;
  same = refl;
})

pub invariant_of-self : goal.invariant_of-self
invariant_of-self c = record { holds = c.self.invariant.holds; room = room_for_none _ _ _ c.clear.ensures.items; exclude = exclude_cleared _ _ _ c.clear.ensures.items c.self.invariant.exclude }

pub returns-then-is_held-clause-exclude : goal.returns-then-is_held-clause-exclude
returns-then-is_held-clause-exclude c = exclude_front _ _ c.self.invariant.exclude

pub invariant_of-self-in-Some : goal.invariant_of-self-in-Some
invariant_of-self-in-Some c = record { holds = c.self.invariant.holds; room = room_for_none _ _ _ c.clear.ensures.items; exclude = exclude_cleared _ _ _ c.clear.ensures.items c.self.invariant.exclude }

pub returns-in-Some-clause-exclude : goal.returns-in-Some-clause-exclude
returns-in-Some-clause-exclude c = exclude_front _ _ c.self.invariant.exclude

pub invariant_of-self-in_default-reserve : goal.invariant_of-self-in_default-reserve
invariant_of-self-in_default-reserve c = record { holds = c.reserve.ensures.same _ c.self.invariant.holds; room = room_for_none _ _ _ c.clear.ensures.items; exclude = exclude_cleared _ _ _ c.clear.ensures.items c.self.invariant.exclude }

pub returns-in_default-reserve-clause-exclude : goal.returns-in_default-reserve-clause-exclude
returns-in_default-reserve-clause-exclude c = exclude_front _ _ c.self.invariant.exclude

pub invariant_of-self-2 : goal.invariant_of-self-2
invariant_of-self-2 c = record {
  holds = c.add.ensures.holds;
  room = room_for_none _ _ _ c.clear.ensures.items;
  exclude = exclude_granted _ _ _ _ (record { backend = c.args.backend; command = c.args.command; rel = c.args.rel; mode = c.args.mode }) c.clear.ensures.items c.add.ensures.all
      (sym (holds_there _ _ _ c.get.result.now c.args.backend c.args.rel c.args.mode _ c.self.invariant.holds c.get.ensures c.is_held.ensures) ∙ c.if-is_held.false)
      (sym (conflict_there _ _ _ c.get-2.result.now c.args.backend c.args.rel c.args.mode _ c.self.invariant.holds c.get-2.ensures c.first_in_the_way.ensures) ∙ c.in_default.is) c.self.invariant.exclude;
}

pub returns-clause-exclude : goal.returns-clause-exclude
returns-clause-exclude c = granted_exclude _ _ _ (record { backend = c.args.backend; command = c.args.command; rel = c.args.rel; mode = c.args.mode }) c.add.ensures.all
    (sym (holds_there _ _ _ c.get.result.now c.args.backend c.args.rel c.args.mode _ c.self.invariant.holds c.get.ensures c.is_held.ensures) ∙ c.if-is_held.false)
    (sym (conflict_there _ _ _ c.get-2.result.now c.args.backend c.args.rel c.args.mode _ c.self.invariant.holds c.get-2.ensures c.first_in_the_way.ensures) ∙ c.in_default.is) c.self.invariant.exclude
