use Rattle.std.proofs.Common.{◌≡◌, ℕ, true, take}
use Rattle.catalog_rows.specs.Index.{own_at, ends_at}
use Rattle.catalog_rows.specs.Slots.{IsIn}
use Rattle.catalog_rows.proofs.lists.touch_ended.Given as goal

abbrev pub invariant-loop-number : goal.invariant-loop-number
invariant-loop-number l = record {
  grows : (x j : ℕ) → IsIn j (own_at l.fn.touched.items x) → IsIn j (own_at l.touched.items x);
  has : (i : ℕ) → IsIn i (take l.number-index l.list) → ends_at l.committed l.stamp l.change l.slots i ≡ true → IsIn i (own_at l.touched.items l.stamp.xid.0);
}
