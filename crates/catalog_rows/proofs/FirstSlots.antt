-- The first slots, after others were added or taken off.
use Rattle.std.proofs.Common.{◌≡◌, ◌+◌, ◌-◌, ◌∙◌, ℕ, List, ◌++◌, length, take, ap, arith}
use Rattle.std.proofs.lemmas.List.{take_all, take-take, take-append-le, length-take-le}

-- what is added isn't among them
pub first_kept : {X : Type 0} (n : ℕ) (old more new : List X) → n ≡ length old → new ≡ old ++ more → take n new ≡ old
first_kept n old more new is grown = ap (take n) grown ∙ take-append-le n old more (omega (arith, is)) ∙ take_all n old (omega (arith, is))

-- one more is taken off
pub one_off : {X : Type 0} (n turn size : ℕ) (old now new : List X) → n ≡ length old → size ≡ length now → now ≡ take (n - turn) old → new ≡ take (size - 1) now → new ≡ take (n - (turn + 1)) old
one_off n turn size old now new is has before off =
    let left : size ≡ n - turn = has ∙ ap length before ∙ length-take-le (n - turn) old (omega (arith, is)) in
    let fewer : size - 1 ≡ n - (turn + 1) = omega (arith, left) in
    off ∙ ap (take (size - 1)) before ∙ take-take (size - 1) (n - turn) old (omega (arith, left)) ∙ ap (λ k. take k old) fewer
