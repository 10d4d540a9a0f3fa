use Rattle.std.proofs.Common.{◌≡◌, ◌∙◌, ap, replicate, arith}
use Rattle.make_script.specs.Scripts.{step_line}
use Rattle.make_script.proofs.making.steps.Goals as goal

pub returns : goal.returns
returns c =
    let all : c.lines._line ≡ 4000 = omega arith in
    c.from_vec.ensures ∙ c.lines.invariant.are ∙ ap (λ n. replicate n step_line) all
