use Rattle.std.proofs.Common.{◌∙◌, ◌++◌, ◌∷◌, [], List, Option, Some, None, refl, ap, sym, length}
use Rattle.history_model.proofs.ListSteps.{given_at, none_at}
use Rattle.cacheless.specs.Types.{OpenRelation, Opening}
use Rattle.cacheless.proofs.opens.opens_one_more.Goals.{in-Some+in_ok-push, in_default}
use Rattle.cacheless.proofs.opens.opens_one_more.Goals as goal

pub returns : goal.returns
returns c =
    let with_one = λ (o : Option Opening). elim o as (λ x. List OpenRelation) [ Some o ↦ c.args.opens.now ++ record { name = c.args.name; rel = o.rel; kind = o.kind; command = c.args.number } ∷ [] | None ↦ c.args.opens.now ] in
    let before = c.in_ok-after.ensures in
    elim c.match-get.branch [
      | in-Some+in_ok-push w ↦ w.after-is ∙ w.in_ok-push.ensures.ok ∙ ap (λ l. l ++ record { name = c.args.name; rel = w.in-Some.o.now.rel; kind = w.in-Some.o.now.kind; command = c.args.number } ∷ []) before
          ∙ sym (ap with_one (given_at c.args.opened.now c.args.opened.now (length c.args.opens.now) w.in-Some.o.now refl (w.in-Some.ensures.lookup.3).0 w.in-Some.ensures.lookup.1))
      | in_default w ↦ w.after-is ∙ before ∙ sym (ap with_one (none_at c.args.opened.now c.args.opened.now (length c.args.opens.now) refl w.in_default.ensures.lookup.0))
    ]
