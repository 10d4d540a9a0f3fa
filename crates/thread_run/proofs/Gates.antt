-- The gates of a run: some are lent to seats, and put back.
use Rattle.std.proofs.Common.{◌≡◌, ◌≤◌, ◌-◌, ◌∙◌, ℕ, List, [], ◌∷◌, ◌++◌, length, map, take, drop, refl, sym, ap, subst, arith, Result}
use Rattle.std.proofs.lemmas.List.{length-append, map-append, take-append-drop, length-take-le, take_at, drop_at}
use Rattle.base_types.specs.Scenario.{Scenario}
use Rattle.thread_run.specs.declared.refusal.RunRefusal.{RunRefusal}
use Rattle.thread_run.specs.declared.seats.Seat.{Seat}
use Rattle.edge_io.specs.declared.gates.Asked.{Asked}
use Rattle.thread_run.specs.Asks.{AskedEach}
use Rattle.thread_run.specs.Seats.{StopsTogether, AskedTogether, from_last, number_of, end_of}
use Rattle.thread_run.specs.Stops.{StopTogether}
use Rattle.thread_run.proofs.Asking.{each_beside, each_together}
use Rattle.thread_run.proofs.Lists.{length_from_last, map_from_last}
use Rattle.thread_run.proofs.Stopping.{stop_together, stop_beside}

-- what was lent as a slice of a whole list is the whole list again
pub whole : {A : Type 0} (now old : List A) (n : ℕ) → n ≡ length old → length now ≡ length old → take n (now ++ drop (length now) old) ≡ now
whole now old n len same = take_at now (drop (length now) old) n (same ∙ sym len)

-- one list cut at two places, with as many elements behind each
same_cut : {A : Type 0} (a b c d : List A) → a ++ b ≡ c ++ d → length b ≡ length d → (a ≡ c) × (b ≡ d)
same_cut [] b [] d same len = (refl, same)
same_cut [] b (y ∷ c) d same len = let all = ap length same in absurd (omega (arith, all, len, length-append c d))
same_cut (x ∷ a) b [] d same len = let all = ap length same in absurd (omega (arith, all, len, length-append a b))
same_cut (x ∷ a) b (y ∷ c) d same len =
    let first : x ≡ y = cc in
    let others : a ++ b ≡ c ++ d = cc in
    let rest = same_cut a b c d others len in
    (cc, rest.1)

-- no gate is missing
pub gates_enough : {G : Type 0} (n : ℕ) (rest later : List G) (now : List (Seat G)) → length now ≡ n → later ≡ rest ++ from_last (λ s. s.gate) now → n ≤ length later
gates_enough n rest later now many is = let all = ap length is in omega (arith, all, many, length-append rest (from_last (λ s. s.gate) now), length_from_last (λ s. s.gate) now)

-- the first so many gates go behind the others, are lent, are put back there, and come to the front again: what is read off all of them
module _ {G : Type 0} (n m : ℕ) (gates turned rest later back : List G) (lent now : List (Seat G)) (few : n ≤ length gates) (turn : turned ≡ drop n gates ++ take n gates) (lends : rest ++ from_last (λ s. s.gate) lent ≡ turned) (many : length lent ≡ n) (as_many : length now ≡ n)
    (put : later ≡ rest ++ from_last (λ s. s.gate) now) (m_is : m ≡ length later) (comes : back ≡ drop (m - n) later ++ take (m - n) later) where
  read : {A : Type 0} (f : G → A) (seats : List (Seat G)) (others : List G) → map f (from_last (λ s. s.gate) seats ++ others) ≡ from_last (λ s. f s.gate) seats ++ map f others
  read f seats others = map-append f (from_last (λ s. s.gate) seats) others ∙ ap (λ l. l ++ map f others) (map_from_last f (λ s. s.gate) seats)

  cut : (rest ≡ drop n gates) × (from_last (λ s. s.gate) lent ≡ take n gates)
  cut = same_cut rest (from_last (λ s. s.gate) lent) (drop n gates) (take n gates) (lends ∙ turn) (length_from_last (λ s. s.gate) lent ∙ many ∙ sym (length-take-le n gates few))

  front : length rest ≡ m - n
  front = let all = ap length put in omega (arith, all, m_is, as_many, length-append rest (from_last (λ s. s.gate) now), length_from_last (λ s. s.gate) now)

  gates_before : {A : Type 0} (f : G → A) → map f gates ≡ from_last (λ s. f s.gate) lent ++ map f rest
  gates_before f = ap (map f) (sym (take-append-drop n gates) ∙ ap (λ l. l ++ drop n gates) (sym cut.1) ∙ ap (λ l. from_last (λ s. s.gate) lent ++ l) (sym cut.0)) ∙ read f lent rest

  gates_after : {A : Type 0} (f : G → A) → map f back ≡ from_last (λ s. f s.gate) now ++ map f rest
  gates_after f = ap (map f) (comes ∙ ap (λ l. drop (m - n) l ++ take (m - n) l) put ∙ ap (λ l. l ++ take (m - n) (rest ++ from_last (λ s. s.gate) now)) (drop_at rest (from_last (λ s. s.gate) now) (m - n) front)
      ∙ ap (λ l. from_last (λ s. s.gate) now ++ l) (take_at rest (from_last (λ s. s.gate) now) (m - n) front)) ∙ read f now rest

  -- what the counts of all say of how the work ended
  pub gates_back : (stops : G → ℕ) (result : Result (Unit {0}) RunRefusal) → StopsTogether stops lent now → result ≡ end_of now → StopTogether (map stops gates) (map stops back) result
  gates_back stops result together ends =
      subst (λ l. StopTogether l (map stops back) result) (sym (gates_before stops)) (subst (λ l. StopTogether (from_last (λ s. stops s.gate) lent ++ map stops rest) l result) (sym (gates_after stops))
      (stop_beside (from_last (λ s. stops s.gate) lent) (from_last (λ s. stops s.gate) now) (map stops rest) result
      (subst (StopTogether (from_last (λ s. stops s.gate) lent) (from_last (λ s. stops s.gate) now)) (sym ends) (stop_together stops lent now together))))

  -- and what they were asked
  pub gates_asked : (script : Scenario) (asked : G → List Asked) (numbers : List ℕ) (result : Result (Unit {0}) RunRefusal) → AskedTogether script asked lent now → from_last number_of lent ≡ numbers → result ≡ end_of now → AskedEach result script numbers (map asked gates) (map asked back)
  gates_asked script asked numbers result together are ends = subst (λ r. AskedEach r script numbers (map asked gates) (map asked back)) (sym ends) (subst (λ k. AskedEach (end_of now) script k (map asked gates) (map asked back)) are
      (subst (λ l. AskedEach (end_of now) script (from_last number_of lent) l (map asked back)) (sym (gates_before asked)) (subst (λ l. AskedEach (end_of now) script (from_last number_of lent) (from_last (λ s. asked s.gate) lent ++ map asked rest) l) (sym (gates_after asked))
      (each_beside (end_of now) script (from_last number_of lent) (from_last (λ s. asked s.gate) lent) (from_last (λ s. asked s.gate) now) (map asked rest) (length_from_last (λ s. asked s.gate) lent ∙ sym (length_from_last number_of lent)) (each_together script asked lent now together)))))
