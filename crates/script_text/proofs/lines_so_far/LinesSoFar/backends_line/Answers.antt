use Rattle.std.proofs.Common.{◌≡◌, ◌∙◌, ap}
use Rattle.base_types.specs.Scenario.{Scenario}
use Rattle.script_text.specs.Grammar.{Draft}
use Rattle.script_text.proofs.DraftLimits.{backends_kept}
use Rattle.script_text.proofs.lines_so_far.LinesSoFar.backends_line.Goals as goal

pub invariant_of-self : goal.invariant_of-self
invariant_of-self c =
    let d = c.self.inside in
    let asked : Scenario = record { size = d.size; from = d.from; backends = d.backends; commands = d.commands; steps = d.steps } in
    let none : asked.backends ≡ 0 = ap (λ (now : Draft). now.asked.backends) c.self.view_is ∙ c.requires in
    (c.self.invariant.0, backends_kept asked c.in-Some.backends none c.in-Some.ensures.within.1 c.self.invariant.1)
