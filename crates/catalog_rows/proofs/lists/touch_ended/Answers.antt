use Rattle.std.proofs.Common.{◌≡◌, true, get_or, refl, sym, subst}
use Rattle.std.proofs.lemmas.List.{take_all}
use Rattle.catalog_rows.specs.Index.{ends_at}
use Rattle.catalog_rows.specs.Slots.{IsIn}
use Rattle.catalog_rows.proofs.Touched.{noted_next}
use Rattle.catalog_rows.proofs.lists.touch_ended.Goals as goal

pub loop-number-preserved : goal.loop-number-preserved
loop-number-preserved c = record {
  grows = λ x j is. c.touch_if_ended.ensures.grows x j (c.loop-number.invariant.grows x j is);
  has = noted_next c.args.list.now c.loop-number.number-index (get_or c.args.list.now c.loop-number.number-index 0) 0 c.args.stamp.xid.0 (λ i. ends_at c.args.committed.now c.args.stamp c.args.change.now c.args.slots.now i ≡ true)
      c.loop-number.touched.items c.touch_if_ended.new.touched.items c.loop-number-test.true refl c.touch_if_ended.ensures.grows c.in_ok-touch_if_ended.ensures.ok c.loop-number.invariant.has;
}

pub returns-in_err-touch_if_ended-clause-grows : goal.returns-in_err-touch_if_ended-clause-grows
returns-in_err-touch_if_ended-clause-grows c = λ x j is. c.touch_if_ended.ensures.grows x j (c.loop-number.invariant.grows x j is)

pub returns-clause-ok : goal.returns-clause-ok
returns-clause-ok c = λ i is ends. c.loop-number.invariant.has i (subst (IsIn i) (sym (take_all c.loop-number.number-index c.args.list.now c.loop-number-test.false)) is) ends
