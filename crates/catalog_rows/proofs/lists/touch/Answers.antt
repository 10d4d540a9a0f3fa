use Rattle.std.proofs.Common.{◌<◌, ◌∙◌, [], ◌∷◌, ◌++◌, length, ap, sym, subst, arith}
use Rattle.catalog_rows.specs.Index.{own_at}
use Rattle.catalog_rows.specs.Slots.{IsIn}
use Rattle.catalog_rows.proofs.Touched.{own_at-push, set_grows, noted, noted_has}
use Rattle.catalog_rows.proofs.lists.touch.Goals as goal

pub returns-in_err-push-clause-grows : goal.returns-in_err-push-clause-grows
returns-in_err-push-clause-grows c = λ x other is. subst (IsIn other) (ap (λ own. own_at own x) (sym c.in_err-push.ensures.items)) (c.loop-more.invariant.grows x other is)

pub loop-more-preserved : goal.loop-more-preserved
loop-more-preserved c = record {
  grows = λ x other is. subst (IsIn other)
      (sym (own_at-push c.loop-more.touched.items x) ∙ ap (λ own. own_at (c.loop-more.touched.items ++ own ∷ []) x) (sym c.new.ensures) ∙ ap (λ own. own_at own x) (sym c.in_ok-push.ensures.items))
      (c.loop-more.invariant.grows x other is);
  more = omega (arith, c.in_ok-push.ensures.len, c.loop-more.invariant.more);
}

pub returns-clause-grows : goal.returns-clause-grows
returns-clause-grows c =
    let within : c.args.xid.0 < length c.loop-more.touched.items = omega (arith, c.loop-more.touched.ok) in
    λ x other is. set_grows c.loop-more.touched.items c.args.xid.0 c.push-2.new.self within
    (noted c.loop-more.touched.items c.args.xid.0 c.index_mut.result.now c.push-2.new.self c.args.number c.push-2.result within c.index_mut.ensures.value c.push-2.ensures.ok c.push-2.ensures.err) x other
    (c.loop-more.invariant.grows x other is)

pub returns-clause-ok : goal.returns-clause-ok
returns-clause-ok c =
    let within : c.args.xid.0 < length c.loop-more.touched.items = omega (arith, c.loop-more.touched.ok) in
    noted_has c.loop-more.touched.items c.args.xid.0 c.index_mut.result.now c.push-2.new.self c.args.number c.push-2.result within c.push-2.ensures.ok
