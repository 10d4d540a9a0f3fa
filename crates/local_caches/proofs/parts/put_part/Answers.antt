use Rattle.std.proofs.Common.{◌∙◌, ◌∷◌, ◌++◌, [], sym, ap, subst}
use Rattle.std.proofs.lemmas.Result.{on_ok_weaker, on_err_weaker}
use Rattle.local_caches.proofs.OfDescriptors.{Renews, still_under, renews, keeps_parts, none_held}
use Rattle.local_caches.proofs.parts.put_part.Goals as goal

pub replace-requires : goal.replace-requires
replace-requires c = (c.args.rel, still_under c.args.relations.now c.take_parts-parts.new.relations c.args.rel c.in-Some.r _ c.take_parts-parts.ensures.held (sym c.reference.ensures ∙ c.in-Some.is))

pub returns-clause-err : goal.returns-clause-err
returns-clause-err c =
    let under = sym c.reference.ensures ∙ c.in-Some.is in
    let again = still_under c.args.relations.now c.take_parts-parts.new.relations c.args.rel c.in-Some.r _ c.take_parts-parts.ensures.held under in
    let it = renews c.args.relations.now c.take_parts-parts.new.relations c.replace.new.self c.args.rel c.in-Some.r _ under c.take_parts-parts.ensures.held (c.replace.ensures.held c.args.rel again) in
    on_err_weaker c.push-added.result
    (λ same. record {
      parts = keeps_parts c.args.relations.now c.replace.new.self c.args.rel (subst (λ parts. Renews c.args.relations.now c.replace.new.self c.args.rel parts) (same ∙ c.take_parts-parts.ensures.parts) it);
      pins = it.pins;
    }) c.push-added.ensures.err

pub begin-requires : goal.begin-requires
begin-requires c = none_held c.args.relations.now c.args.rel (sym c.reference.ensures ∙ c.in_default.is)

pub returns-clause-ok : goal.returns-clause-ok
returns-clause-ok c =
    let under = sym c.reference.ensures ∙ c.in-Some.is in
    let again = still_under c.args.relations.now c.take_parts-parts.new.relations c.args.rel c.in-Some.r _ c.take_parts-parts.ensures.held under in
    let it = renews c.args.relations.now c.take_parts-parts.new.relations c.replace.new.self c.args.rel c.in-Some.r _ under c.take_parts-parts.ensures.held (c.replace.ensures.held c.args.rel again) in
    on_ok_weaker c.push-added.result (λ added. record { at = it.at ∙ added ∙ ap (λ parts. parts ++ c.args.part ∷ []) c.take_parts-parts.ensures.parts; others = it.others; pins = it.pins }) c.push-added.ensures.ok
