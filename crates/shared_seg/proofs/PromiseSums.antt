-- How many places are promised, to one backend and to all, where one of them is taken or promised anew.
use Rattle.std.proofs.Common.{◌≡◌, ◌≤◌, ◌<◌, ◌+◌, ◌-◌, ◌∙◌, ℕ, List, sum, length, get_or, slice_set, replicate, arith, sym}
use Rattle.std.proofs.lemmas.List.Sums.{get_or-le-sum_by, sum_by-set}
use Rattle.std.proofs.lemmas.List.Folds.{sum_by-replicate}
use Rattle.std.proofs.lemmas.List.{get_or_default}
use Rattle.std.proofs.lemmas.Option.{unwrap_or-slice_get}
use Rattle.shared_seg.specs.Places.{promised_in}
use Rattle.shared_seg.proofs.Start.{all_same}

-- a promise as code reads it
pub promised_at : (promised : List ℕ) (b n : ℕ) → b < length promised → n ≡ get_or promised b n → n ≡ promised_in promised b
promised_at promised b n within is = is ∙ get_or_default promised b n 0 within ∙ sym (unwrap_or-slice_get promised b 0)

-- a promise is one of all
pub promised_in-le : (promised : List ℕ) (b : ℕ) → b < length promised → promised_in promised b ≤ sum promised
promised_in-le promised b within = omega (arith, unwrap_or-slice_get promised b 0, get_or-le-sum_by (λ n. n) promised b 0 within)

-- with one place less for a backend there is one less of all
pub sum-taken : (promised : List ℕ) (b : ℕ) → b < length promised → 0 < promised_in promised b → sum (slice_set promised b (promised_in promised b - 1)) + 1 ≡ sum promised
sum-taken promised b within place = omega (arith, unwrap_or-slice_get promised b 0, sum_by-set (λ n. n) promised b (promised_in promised b - 1) 0 within)

-- with a promise changed the sum has the new one for the old
pub sum-changed : (promised : List ℕ) (b n had : ℕ) → b < length promised → had ≡ get_or promised b had → sum (slice_set promised b n) + had ≡ sum promised + n
sum-changed promised b n had within is = omega (arith, is ∙ get_or_default promised b had 0 within, sum_by-set (λ n. n) promised b n 0 within)

-- the sum of no promises
pub sum_of_zeros : (n : ℕ) → sum (replicate n 0) ≡ 0
sum_of_zeros n = omega (arith, sum_by-replicate (λ n. n) n 0)

-- no places are promised where all numbers are 0
pub none_promised : (n b : ℕ) → promised_in (replicate n 0) b ≡ 0
none_promised n b = unwrap_or-slice_get (replicate n 0) b 0 ∙ all_same n b 0
