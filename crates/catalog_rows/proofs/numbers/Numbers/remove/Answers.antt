use Rattle.std.proofs.Common.{◌∙◌, ◌==◌, ◌-◌, ℕ, List, length, take, not, filter, rules, ap}
use Rattle.catalog_rows.proofs.Ascending.{popped}
use Rattle.catalog_rows.proofs.Retained.{retained}
use Rattle.catalog_rows.proofs.numbers.Numbers.remove.Goals as goal

pub returns-then-is_last : goal.returns-then-is_last
returns-then-is_last c =
    popped c.args.self.now c.pop.new.self.items c.args.number c.requires (c.pop.ensures.rest ∙ ap (λ (l : List ℕ). take (length l - 1) l) c.self.view_is) (c.is_last.ensures.yes c.if-is_last.true)

pub returns-else-is_last : goal.returns-else-is_last
returns-else-is_last c = retained _ _ _ (λ x b g y k. search rules) _ _ c.retain.ensures.filtered ∙ ap (filter (λ n. not (n == c.args.number))) c.self.view_is
