use Rattle.std.proofs.Common.{◌≡◌, ◌-◌, ◌∙◌, Some, None, length, take, sym, ap, subst, rules}
use Rattle.ddl_effect.specs.Taken.{Taken}
use Rattle.ddl_effect.specs.Courses.{plan_left, left_again}
use Rattle.ddl_effect.proofs.Giving.{back_course, again_by, absent_at, not_absent, found_same}
use Rattle.ddl_effect.proofs.course.Course.search_again.Goals as goal

pub invariant_of-self : goal.invariant_of-self
invariant_of-self c =
    let cut : c.pop.new.self.items ≡ take (length c.self.inside.given.items - 1) c.self.inside.given.items = search rules in
    let none : c.take.new.self ≡ None = search rules in
    let was : c.self.inside.before ≡ Some c.in-Some.before = search rules in
    rw (cut, none) (back_course record { opens = c.self.inside.opens.items; command = c.self.inside.command; given = c.self.inside.given.items } c.in-Some.before (rw was at c.self.invariant.before))

pub returns-in_default : goal.returns-in_default
returns-in_default c = subst (λ t. plan_left t ≡ left_again t) c.self.view_is
    (sym (found_same c.self.inside.given.items _ (not_absent (plan_left record { opens = c.self.inside.opens.items; command = c.self.inside.command; given = c.self.inside.given.items }) c.self.inside.step c.self.invariant.step c.in_default.not-Absent)))

pub returns-in-Some : goal.returns-in-Some
returns-in-Some c =
    let taken : Taken = record { opens = c.self.inside.opens.items; command = c.self.inside.command; given = c.self.inside.given.items } in
    let cut : c.pop.new.self.items ≡ take (length c.self.inside.given.items - 1) c.self.inside.given.items = search rules in
    let was : c.self.inside.before ≡ Some c.in-Some.before = search rules in
    ap (λ g. plan_left record { opens = c.self.inside.opens.items; command = c.self.inside.command; given = g }) cut
    ∙ sym (again_by taken c.in-Some.before (absent_at (plan_left taken) c.in-Absent.field-0 (c.self.invariant.step ∙ c.in-Absent.is)) (rw was at c.self.invariant.before))
    ∙ ap left_again c.self.view_is
