use Rattle.std.proofs.Common.{◌∙◌, ◌≡◌, ◌≤◌, ◌<◌, ◌-◌, ◌/◌, ◌++◌, length, take, drop, map, IfSome, refl, ap, sym, subst, arith}
use Rattle.sinval_ring.specs.Readers.{is_below, unmarked}
use Rattle.sinval_ring.specs.Cleanups.{swept, furthest, threshold_of, bits_of, wrap_at}
use Rattle.sinval_ring.specs.Queues.{Queue, reader_of, IsKeptFor}
use Rattle.sinval_ring.specs.Cleaning.{cleaned, must_clean}
use Rattle.sinval_ring.specs.RingParts.{wrapped_queue, IsSound}
use Rattle.sinval_ring.proofs.Sound.{least_of-le, cleaned_lapses, cleaned_kept, cleaned_once}
use Rattle.sinval_ring.proofs.Sweeping.{furthest-within}
use Rattle.sinval_ring.proofs.Counting.{Cleans}
use Rattle.sinval_ring.proofs.Keeping.{Wraps, wrap_most, view_cleaned, keeps_cleaned, answer_cleaned, whole_slice}
use Rattle.sinval_ring.proofs.ring.Ring.clean.Goals as goal

pub mark-requires : goal.mark-requires
mark-requires c = subst (λ o. IfSome o (λ b. b < length c.sweep.new.readers)) (sym c.furthest_back-signal.ensures) (furthest-within c.saturating_sub.result c.sweep.new.readers)

pub overflow_sub-max : goal.overflow_sub-max
overflow_sub-max c = subst (λ n. n ≤ c.self.inside.max) (sym c.least_position-least.ensures) (least_of-le c.self.inside.max c.sweep.new.readers)

pub overflow_sub-max-2 : goal.overflow_sub-max-2
overflow_sub-max-2 c = omega (arith, c.wrap_at-wrap.ensures, wrap_most c.size-size.result c.least_position-least.result, c.least_position-least.ensures, least_of-le c.self.inside.max c.sweep.new.readers)

cleans : (c : goal.After-self-1) → Cleans c.self.inside.window.size c.self.inside.max c.args.min_free c.self.inside.readers.items c.saturating_sub-low.result c.sweep.new.readers c.mark.new.readers c.least_position-least.result c.next_threshold.result c.furthest_back-signal.result
cleans c = record {
  limit = omega arith;
  sweep = c.sweep.ensures ∙ ap (map (swept c.saturating_sub-low.result)) c.as_mut_slice-readers.ensures.value;
  position = c.least_position-least.ensures;
  start = c.next_threshold.ensures ∙ ap (λ n. threshold_of n (c.self.inside.max - c.least_position-least.result)) c.size-size.ensures;
  call = c.furthest_back-signal.ensures ∙ ap (λ n. furthest n c.sweep.new.readers) (c.saturating_sub.ensures ∙ ap (λ n. c.self.inside.max - n / 2) c.size-size.ensures);
  mark = c.mark.ensures;
}

wraps : (c : goal.After-self-1) → Wraps c.self.inside.window.size c.self.inside.max c.least_position-least.result c.mark.new.readers c.wrap_at-wrap.result (c.self.inside.max - c.wrap_at-wrap.result) (c.least_position-least.result - c.wrap_at-wrap.result)
    (take c.self.inside.readers.len (c.move_back.new.readers ++ drop (length c.move_back.new.readers) c.self.inside.readers.items))
wraps c = record {
  wrap = c.wrap_at-wrap.ensures ∙ ap (λ n. wrap_at n c.least_position-least.result) c.size-size.ensures;
  next = refl;
  begin = refl;
  move = whole_slice c.self.inside.readers.len c.self.inside.readers.items c.move_back.new.readers c.self.inside.readers.ok.0 (omega (arith, ap length c.as_mut_slice-readers.ensures.value)) ∙ c.move_back.ensures;
}

pub invariant_of-self : goal.invariant_of-self
invariant_of-self c =
    let r = c.self.inside in
    keeps_cleaned r.window r.first.value r.max r.min r.threshold r.readers.items c.args.min_free _ _ _ _ _ _ c.self.invariant (cleans c) _ _ _ _ (wraps c) c.requires

view : (c : goal.After-self-1) → wrapped_queue c.self.inside.window c.self.inside.first.value (c.self.inside.max - c.wrap_at-wrap.result) (c.least_position-least.result - c.wrap_at-wrap.result) c.next_threshold.result
    (take c.self.inside.readers.len (c.move_back.new.readers ++ drop (length c.move_back.new.readers) c.self.inside.readers.items)) ≡ cleaned c.args.self.now c.args.min_free
view c =
    let r = c.self.inside in
    view_cleaned r.window r.first.value r.max r.min r.threshold r.readers.items c.args.min_free _ _ _ _ _ _ c.self.invariant (cleans c) _ _ _ _ (wraps c) _ c.self.view_is

pub returns-clause-queue : goal.returns-clause-queue
returns-clause-queue c = view c

pub returns-clause-answer : goal.returns-clause-answer
returns-clause-answer c =
    let r = c.self.inside in
    answer_cleaned r.window r.first.value r.max r.min r.threshold r.readers.items c.args.min_free _ _ _ _ _ _ c.self.invariant (cleans c) _ c.bits_below-reset.result c.self.view_is
    (c.bits_below-reset.ensures ∙ ap (λ l. bits_of (map (is_below c.saturating_sub-low.result) (drop 1 l))) c.as_mut_slice-readers.ensures.value)

pub returns-clause-lapped : goal.returns-clause-lapped
returns-clause-lapped c = λ b. ap (λ (q : Queue). unmarked (reader_of q b)) (view c) ∙ cleaned_lapses c.args.self.now c.args.min_free b

sound : (c : goal.After-self-1) → IsSound c.args.self.now
sound c = subst IsSound c.self.view_is c.self.invariant.counts.sound

pub returns-clause-kept : goal.returns-clause-kept
returns-clause-kept c = λ b. subst (λ (q : Queue). IsKeptFor q c.args.min_free (reader_of q b)) (sym (view c)) (cleaned_kept c.args.self.now c.args.min_free (sound c) b)

pub returns-clause-done : goal.returns-clause-done
returns-clause-done c = ap (λ (q : Queue). must_clean q c.args.min_free) (view c) ∙ cleaned_once c.args.self.now c.args.min_free c.requires (sound c)
