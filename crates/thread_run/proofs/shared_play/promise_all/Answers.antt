use Rattle.std.proofs.Common.{◌∙◌, refl, arith}
use Rattle.thread_run.proofs.CutRuns.{places_more}
use Rattle.thread_run.proofs.shared_play.promise_all.Goals as goal

pub promising-init : goal.promising-init
promising-init g c = record { script = refl; history = refl; places = record { have = λ b is. absurd (omega (arith, is.0, is.1)); none = λ b past. c.requires.none b } }

pub promising-preserved : goal.promising-preserved
promising-preserved g c = let i = c.promising.invariant in let p = c.in_ok-promise.ensures.promises in
    record { script = c.in_ok-promise.ensures.script ∙ i.script; history = p.entries ∙ i.history; places = places_more _ _ _ _ i.places refl p.ok p.others }
