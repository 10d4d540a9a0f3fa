use Rattle.std.proofs.Common.{◌≡◌, ◌∙◌, ap, refl, sym}
use Rattle.std.specs.Str.{bytes_eq}
use Rattle.ddl_effect.proofs.LatestOpen.{finds_there, finds_past, finds_last}
use Rattle.ddl_effect.proofs.opens.latest_place.Goals as goal
use Rattle.ddl_effect.proofs.opens.latest_place.Goals.{then-eq, else-eq}

pub loop-at-init : goal.loop-at-init
loop-at-init c = record { so = refl; within = tt }

pub loop-at-preserved : goal.loop-at-preserved
loop-at-preserved c =
    let named : c.eq.result ≡ bytes_eq c.args.name.now c.index-opens-at.result.name = c.eq.ensures ∙ ap (λ l. bytes_eq l c.as_bytes-in-loop-at.result.now) c.as_bytes.ensures.text ∙ ap (bytes_eq c.args.name.now) c.as_bytes-in-loop-at.ensures.text in
    elim c.if-eq.branch [
      | then-eq w ↦ finds_there _ _ c.loop-at.at c.loop-at.place c.if-eq.place c.index-opens-at.result c.loop-at-test.true c.index-opens-at.is (sym named ∙ w.if-eq.true) w.place-is c.loop-at.invariant
      | else-eq w ↦ finds_past _ _ c.loop-at.at c.loop-at.place c.if-eq.place c.index-opens-at.result c.loop-at-test.true c.index-opens-at.is (sym named ∙ w.if-eq.false) w.place-is c.loop-at.invariant
    ]

pub returns-clause-place : goal.returns-clause-place
returns-clause-place c = finds_last _ _ c.loop-at.at _ c.loop-at-test.false c.loop-at.invariant

pub returns-clause-within : goal.returns-clause-within
returns-clause-within c = c.loop-at.invariant.within
