use Rattle.std.proofs.Common.{◌<◌, ◌∙◌, ◌∷◌, ◌++◌, [], IsSomeAnd, sym, ap, subst, arith}
use Rattle.std.specs.Option.{option_map}
use Rattle.local_caches.proofs.OfDescriptors.{begins, keeps_held}
use Rattle.local_caches.proofs.parts.begin.Goals as goal

pub close-requires : goal.close-requires
close-requires c =
    let at = c.in-Ok.ensures.held.at in
    (c.args.rel, ap (option_map (λ h. h.at)) at, subst (λ o. IsSomeAnd o (λ h. 0 < h.pins)) (sym at) (omega arith))

pub returns-clause-ok : goal.returns-clause-ok
returns-clause-ok c =
    begins c.args.relations.now c.insert.new.self c.close.new.self c.args.rel c.in-Ok.r c.args.part c.push.new.self c.requires (c.in_ok-push.ensures.ok ∙ ap (λ parts. parts ++ c.args.part ∷ []) c.new-parts.ensures) c.in-Ok.ensures.held (c.close.ensures.held c.args.rel (ap (option_map (λ h. h.at)) c.in-Ok.ensures.held.at))

pub returns-in_default-clause-err : goal.returns-in_default-clause-err
returns-in_default-clause-err c = keeps_held c.args.relations.now c.insert.new.self c.in_default.ensures.same
