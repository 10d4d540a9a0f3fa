use Rattle.std.proofs.Common.{◌<◌, ◌++◌, codes, length, take, subst, arith}
use Rattle.std.proofs.lemmas.Result.{err_from_is_err_and}
use Rattle.std.proofs.lemmas.List.Elements.{All-more}
use Rattle.base_types.proofs.Added.{adding_more, extends_more, first_not_added}
use Rattle.event_kinds.specs.Entries.{IsItem}
use Rattle.event_kinds.specs.Texts.{changes_text, item_text}
use Rattle.event_kinds.proofs.entry_text.add_changes.Goals as goal

pub returns-in_err-add_change-clause-text : goal.returns-in_err-add_change-clause-text
returns-in_err-add_change-clause-text c =
    let failed = err_from_is_err_and c.from_residual.result c.from_residual.ensures.1 in
    first_not_added _ _ c.from_residual.result _ _ failed.1 (extends_more _ c.loop-change.out.items _ (changes_text (take c.loop-change.change-index c.args.changes.now)) c.loop-change.invariant.text c.in_err-add_change.ensures.text)

pub loop-change-preserved : goal.loop-change-preserved
loop-change-preserved c =
    let within : c.loop-change.change-index < length c.args.changes.now = omega arith in
    record {
      text = adding_more (λ item. codes " " ++ item_text item) c.args.changes.now c.loop-change.change-index _ _ _ _ within c.change-item.is c.loop-change.invariant.text c.in_ok-add_change.ensures.text;
      spelled = All-more IsItem c.args.changes.now c.loop-change.change-index _ within c.loop-change.invariant.spelled (subst IsItem c.change-item.is c.in_ok-add_change.ensures.spelled);
    }
