use Rattle.std.proofs.Common.{◌∙◌, ◌++◌, ◌+◌, replicate, sum, ap, sym, arith}
use Rattle.shared_seg.proofs.PromiseSums.{sum_of_zeros}
use Rattle.shared_seg.proofs.places.Places.new.Goals as goal

pub invariant_of-result : goal.invariant_of-result
invariant_of-result c = record {
  counted = sym (ap sum (c.add_none.ensures ∙ ap (λ l. l ++ replicate (c.args.backends + 1) 0) (c.in_ok-reserve.ensures.items ∙ c.new-promised.ensures.items)) ∙ sum_of_zeros (c.args.backends + 1));
  fits = omega (arith, c.new.ensures.len);
  short = omega (arith, c.new.ensures.len);
}
