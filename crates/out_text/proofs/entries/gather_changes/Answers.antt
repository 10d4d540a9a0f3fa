use Rattle.std.proofs.Common.{◌<◌, ◌++◌, codes, length, arith, refl, rules, subst, ◌∙◌}
use Rattle.std.proofs.lemmas.Result.{err_from_is_err_and}
use Rattle.std.proofs.lemmas.List.Elements.{All-more}
use Rattle.event_kinds.specs.Entries.{IsItem}
use Rattle.event_kinds.specs.Texts.{item_text}
use Rattle.out_text.proofs.Gathered.{none_so_far, one_more, next_not_gathered}
use Rattle.out_text.proofs.entries.gather_changes.Goals as goal

pub loop-change-init : goal.loop-change-init
loop-change-init g c = record { so_far = none_so_far _; steady = refl; typed = search rules }

pub returns-in_err-gather_change-clause-bytes : goal.returns-in_err-gather_change-clause-bytes
returns-in_err-gather_change-clause-bytes g c =
    let failed = err_from_is_err_and c.from_residual.result c.from_residual.ensures.1 in
    let within : c.loop-change.change-index < length c.args.changes.now = omega arith in
    next_not_gathered (λ item. codes " " ++ item_text item) c.args.changes.now c.loop-change.change-index _ _ _ _ _ _ c.from_residual.result _ within c.change-item.is c.loop-change.invariant.so_far c.in_err-gather_change.was failed.1 c.gather_change.ensures.bytes

pub loop-change-preserved : goal.loop-change-preserved
loop-change-preserved g c =
    let within : c.loop-change.change-index < length c.args.changes.now = omega arith in
    record {
      so_far = one_more (λ item. codes " " ++ item_text item) c.args.changes.now c.loop-change.change-index _ _ _ _ _ _ within c.change-item.is c.loop-change.invariant.so_far c.in_ok-gather_change.was c.gather_change.ensures.bytes;
      steady = c.in_ok-gather_change.ensures.cause.steady ∙ c.loop-change.invariant.steady;
      typed = All-more IsItem c.args.changes.now c.loop-change.change-index _ within c.loop-change.invariant.typed (subst IsItem c.change-item.is c.in_ok-gather_change.ensures.typed);
    }
