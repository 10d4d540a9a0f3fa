use Rattle.std.proofs.Common.{◌∙◌, sym, rules, tests, nat_lt}
use Rattle.std.proofs.lemmas.List.Sorted.{IsPartitionPoint-from_clause}
use Rattle.local_caches.specs.Caches.{kept_of}
use Rattle.local_caches.specs.Kept.{is_kept}
use Rattle.cacheless.specs.Suspects.{lacks}
use Rattle.backend_core.specs.Types.{Opening}
use Rattle.backend_core.proofs.Stacking.OfRelation.{ascend_parts, sought_there}
use Rattle.backend_core.proofs.rebuilds.lacking_noted.Goals as goal

pub returns : goal.returns
returns c =
    let point = IsPartitionPoint-from_clause (λ (o : Opening). nat_lt o.rel.0 c.args.rel.0) _ _ c.partition_point-at.ensures.partitioned (ascend_parts c.args.rel.0 c.args.found.now c.requires) (λ a r q k. search (rules, tests)) in
    c.lacking_at.ensures ∙ sym (sought_there c.args.rel (lacks (is_kept (kept_of c.args.caches.now))) c.args.found.now c.partition_point-at.result c.requires point)
