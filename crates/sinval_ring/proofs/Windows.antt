-- The last messages stay the last ones.
use Rattle.std.proofs.Common.{◌≡◌, ◌+◌, ◌-◌, ◌∙◌, ℕ, List, [], ◌∷◌, ◌++◌, length, take, drop, Some, sym, ap, arith, length-append, length-drop, get_or}
use Rattle.std.specs.List.{slice_get}
use Rattle.std.proofs.lemmas.List.{drop-drop, drop-append-le, get_or-drop}
use Rattle.std.proofs.lemmas.Option.{slice_get_within, get_or_from_slice_get}
use Rattle.circular_buffer.specs.Buffer.{Buffer, buffer, keep_last}
use Rattle.sinval_ring.proofs.Sweeping.{take_next}

module _ {X : Type 0} where
  -- of the last ones and more the last are those of all
  keep_last-more : (n : ℕ) (log more : List X) → keep_last n (keep_last n log ++ more) ≡ keep_last n (log ++ more)
  keep_last-more n log more =
      ap (drop (length (keep_last n log ++ more) - n)) (sym (drop-append-le (length log - n) log more (omega arith)))
      ∙ drop-drop (length (keep_last n log ++ more) - n) (length log - n) (log ++ more)
      ∙ ap (λ k. drop k (log ++ more)) (omega (arith, length-append (keep_last n log) more, length-drop (length log - n) log, length-append log more))

  -- so it is in a buffer
  pub window_keeps : (old new : Buffer X) (log after more : List X) → old.items ≡ keep_last old.capacity log → new ≡ buffer (keep_last old.capacity (old.items ++ more)) old.capacity → after ≡ log ++ more
      → new.items ≡ keep_last new.capacity after
  window_keeps old new log after more was is log_is =
      ap (λ (b : Buffer X). b.items) is ∙ ap (λ l. keep_last old.capacity (l ++ more)) was ∙ keep_last-more old.capacity log more
      ∙ (λ i. keep_last ((ap (λ (b : Buffer X). b.capacity) (sym is)) i) (sym log_is i))

  -- one more is copied
  pub copied_next : (xs copied now : List X) (from i : ℕ) (x : X) → copied ≡ take i (drop from xs) → slice_get xs (from + i) ≡ Some x → now ≡ copied ++ x ∷ [] → now ≡ take (i + 1) (drop from xs)
  copied_next xs copied now from i x was found is =
      is ∙ (λ j. was j ++ next j ∷ []) ∙ sym (take_next (drop from xs) i x (omega (arith, length-drop from xs, slice_get_within xs (from + i) x found)))
    where
      next : x ≡ get_or (drop from xs) i x
      next = sym (get_or_from_slice_get xs (from + i) x x found) ∙ sym (get_or-drop from xs i x)
