use Rattle.std.proofs.Common.{◌∙◌, ◌&&◌, Some, None, refl, sym, ap, cond}
use Rattle.std.proofs.lemmas.Bool.{eq-eqb}
use Rattle.base_types.specs.Scans.{same_oid}
use Rattle.history_model.proofs.ListSteps.{given_at}
use Rattle.local_caches.specs.Caches.{kept_of}
use Rattle.local_caches.specs.Kept.{is_kept}
use Rattle.cacheless.specs.Suspects.{lacks}
use Rattle.backend_core.specs.Frames.{if_so}
use Rattle.backend_core.proofs.rebuilds.lacking_at.Goals as goal

pub returns-in_default : goal.returns-in_default
returns-in_default c =
    sym (ap (if_so (λ o. same_oid c.args.rel o.rel && lacks (is_kept (kept_of c.args.caches.now)) o)) (given_at c.args.found.now c.args.found.now c.args.at c.in-Some.o.now refl (c.in-Some.ensures.lookup.3).0 c.in-Some.ensures.lookup.1)
    ∙ (λ i. cond (eq-eqb c.args.rel.0 c.in-Some.o.now.rel.0 c.if-rel-o.true i && (sym c.lacks_scan.ensures ∙ c.if-lacks_scan.false) i) (Some c.in-Some.o.now) None))

pub returns-in-Some : goal.returns-in-Some
returns-in-Some c =
    sym (ap (if_so (λ o. same_oid c.args.rel o.rel && lacks (is_kept (kept_of c.args.caches.now)) o)) (given_at c.args.found.now c.args.found.now c.args.at c.in-Some.o.now refl (c.in-Some.ensures.lookup.3).0 c.in-Some.ensures.lookup.1)
    ∙ (λ i. cond (eq-eqb c.args.rel.0 c.in-Some.o.now.rel.0 c.if-rel-o.true i && (sym c.lacks_scan.ensures ∙ c.if-lacks_scan.true) i) (Some c.in-Some.o.now) None))
