-- Why entries and promised places are few: the places of the backends up to any number are some of all.
use Rattle.std.proofs.Common.{◌≡◌, ◌≤◌, ◌+◌, ◌^◌, ℕ, List, [], ◌∷◌, zero, suc, sum, length, refl, arith}
use Rattle.std.proofs.lemmas.List.Sums.{sum_by-append}
use Rattle.event_kinds.specs.declared.entry.Entry.{Entry}
use Rattle.seg_calls.specs.Calls.{all_promised}
use Rattle.shared_seg.specs.Places.{promised_in}

promised_after : (place : ℕ) (promised : List ℕ) (n : ℕ) → all_promised (promised_in (place ∷ promised)) (suc n) ≡ all_promised (promised_in promised) n + promised_in promised 0
promised_after place promised zero = omega arith
promised_after place promised (suc n) = omega (arith, promised_after place promised n)

none_of-empty : (n : ℕ) → all_promised (promised_in []) n ≡ 0
none_of-empty zero = refl
none_of-empty (suc n) = omega (arith, none_of-empty n)

all_promised-le : (promised : List ℕ) (n : ℕ) → all_promised (promised_in promised) n + promised_in promised 0 ≤ sum promised
all_promised-le [] n = omega (arith, none_of-empty n)
all_promised-le (place ∷ promised) zero = omega (arith, sum_by-append (λ n. n) (place ∷ []) promised)
all_promised-le (place ∷ promised) (suc n) = omega (arith, promised_after place promised n, all_promised-le promised n, sum_by-append (λ n. n) (place ∷ []) promised)

-- so entries and promised places are few
pub all_short : (history : List Entry) (promised : List ℕ) (backends : ℕ) → length history + sum promised ≤ 2 ^ 56 → length history + all_promised (promised_in promised) backends ≤ 2 ^ 56
all_short history promised backends short = omega (arith, short, all_promised-le promised backends)
