use Rattle.std.proofs.Common.{◌∙◌, ◌+◌, ◌++◌, None, replicate, length, sum, ap, arith}
use Rattle.sinval_ring.specs.Queues.{empty_queue}
use Rattle.shared_seg.specs.Places.{promised_in}
use Rattle.shared_seg.proofs.PromiseSums.{none_promised, sum_of_zeros}
use Rattle.shared_seg.proofs.Queue.{shared_start_at}
use Rattle.shared_seg.proofs.shared.Shared.new.Goals as goal

pub invariant_of-result-2 : goal.invariant_of-result-2
invariant_of-result-2 c =
    shared_start_at _ c.args.script.now c.backends-backends.result _ _ _ _ _ _ c.backends-backends.ensures.kept c.backends-backends.ensures.value c.of.ensures c.in_ok-places.ensures.0 c.in_ok-places.ensures.1 c.new-2.ensures c.new-3.ensures.held
    (c.add_slots.ensures ∙ ap (λ l. l ++ replicate (c.backends-backends.result + 1) None) (c.in_ok-reserve.ensures.items ∙ c.new-transactions.ensures.items))
    (c.in_ok-queue.ensures ∙ (λ i. empty_queue (c.size.ensures i) (c.backends-backends.ensures.value i) (c.from.ensures i)))

pub returns-clause-promised : goal.returns-clause-promised
returns-clause-promised c = λ b. ap (λ l. promised_in l b) c.in_ok-places.ensures.1 ∙ none_promised (c.backends-backends.result + 1) b

pub invariant_of-result : goal.invariant_of-result
invariant_of-result c = (omega (arith, ap length c.in_ok-places.ensures.0, ap sum c.in_ok-places.ensures.1, sum_of_zeros (c.backends-backends.result + 1)), tt)
