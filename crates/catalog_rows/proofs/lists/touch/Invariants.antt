use Rattle.std.proofs.Common.{◌≡◌, ◌+◌, ℕ, vec_len}
use Rattle.catalog_rows.specs.Index.{own_at}
use Rattle.catalog_rows.specs.Slots.{IsIn}
use Rattle.catalog_rows.proofs.lists.touch.Given as goal

abbrev pub invariant-loop-more : goal.invariant-loop-more
invariant-loop-more l = record {
  grows : (x other : ℕ) → IsIn other (own_at l.fn.touched.items x) → IsIn other (own_at l.touched.items x);
  more : vec_len l.touched ≡ vec_len l.fn.touched + l.more;
}
