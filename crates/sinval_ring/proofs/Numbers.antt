-- Positions as numbers and as counts.
use Rattle.std.proofs.Common.{◌≡◌, ◌≤◌, ◌<◌, ◌+◌, ◌-◌, ◌∙◌, ◌&&◌, ℕ, Bool, true, false, cond, nat_lt, Option, Some, None, List, [], ◌∷◌, map, get_or, set, zero, suc, refl, sym, ap, arith}
use Rattle.std.proofs.lemmas.Bool.{lt-ltb, ltb-true, le-ltb, ltb-false}
use Rattle.std.proofs.lemmas.List.{map-set}
use Rattle.std.proofs.Math.ListN.{get_or-map}
use Rattle.sinval_ring.specs.declared.call.Call.{Call}
use Rattle.sinval_ring.specs.Readers.{Reader, Inactive, At, Reset, is_below, count_at, counted, numbered, IsFrom, after_fetch, signaled}
use Rattle.sinval_ring.specs.Cleanups.{called_by, called_from, furthest, least_by, least_of, swept, marked}

-- two comparisons that go the same way
pub lt-same : (a b m n : ℕ) → (a < b → m < n) → (b ≤ a → n ≤ m) → nat_lt a b ≡ nat_lt m n
lt-same a b m n there not = by_test (nat_lt a b) refl
  where
    by_test : (t : Bool) → nat_lt a b ≡ t → nat_lt a b ≡ nat_lt m n
    by_test true is = is ∙ sym (lt-ltb m n (there (ltb-true a b is)))
    by_test false is = is ∙ sym (le-ltb m n (not (ltb-false a b is)))

-- back and forth
pub counted_numbered : (c : ℕ) (reader : Reader) → counted c (numbered c reader) ≡ reader
counted_numbered c Inactive = refl
counted_numbered c (At position mark) = ap (λ n. At n mark) (omega arith)
counted_numbered c Reset = refl

pub all_counted : (c : ℕ) (readers : List Reader) → map (counted c) (map (numbered c) readers) ≡ readers
all_counted c [] = refl
all_counted c (reader ∷ rest) = λ i. counted_numbered c reader i ∷ all_counted c rest i

-- a reader that has gone back is the same one where all numbers have gone back as far
back_numbered : (gone by : ℕ) (reader : Reader) → IsFrom by reader → numbered (gone + by) (counted by reader) ≡ numbered gone reader
back_numbered gone by Inactive from = refl
back_numbered gone by (At position mark) from = ap (λ n. At n mark) (omega (arith, from))
back_numbered gone by Reset from = refl

pub all_back : (gone by : ℕ) (readers : List Reader) → ((b : ℕ) → IsFrom by (get_or readers b Inactive)) → map (numbered (gone + by)) (map (counted by) readers) ≡ map (numbered gone) readers
all_back gone by [] from = refl
all_back gone by (reader ∷ rest) from = λ i. back_numbered gone by reader (from zero) i ∷ all_back gone by rest (λ b. from (suc b)) i

-- a reader is below a number where it is below the count
is_below-numbered : (c low : ℕ) (reader : Reader) → is_below low (numbered c reader) ≡ is_below (low - c) reader
is_below-numbered c low Inactive = refl
is_below-numbered c low (At position mark) = lt-same (position + c) low position (low - c) (λ less. omega arith) (λ less. omega arith)
is_below-numbered c low Reset = refl

pub all_below : (c low : ℕ) (readers : List Reader) → map (is_below low) (map (numbered c) readers) ≡ map (is_below (low - c)) readers
all_below c low [] = refl
all_below c low (reader ∷ rest) = λ i. is_below-numbered c low reader i ∷ all_below c low rest i

-- and is swept there
swept-numbered : (c low : ℕ) (reader : Reader) → swept low (numbered c reader) ≡ numbered c (swept (low - c) reader)
swept-numbered c low reader = ap (λ t. cond t Reset (numbered c reader)) (is_below-numbered c low reader) ∙ by_test (is_below (low - c) reader)
  where
    by_test : (t : Bool) → cond t Reset (numbered c reader) ≡ numbered c (cond t Reset reader)
    by_test true = refl
    by_test false = refl

pub all_swept : (c low : ℕ) (readers : List Reader) → map (swept low) (map (numbered c) readers) ≡ map (numbered c) (map (swept (low - c)) readers)
all_swept c low [] = refl
all_swept c low (reader ∷ rest) = λ i. swept-numbered c low reader i ∷ all_swept c low rest i

-- the least number is that of the least count
least_by-numbered : (c least : ℕ) (reader : Reader) → least_by (least + c) (numbered c reader) ≡ least_by least reader + c
least_by-numbered c least Inactive = refl
least_by-numbered c least (At position mark) = omega arith
least_by-numbered c least Reset = refl

pub least_of-numbered : (c end : ℕ) (readers : List Reader) → least_of (end + c) (map (numbered c) readers) ≡ least_of end readers + c
least_of-numbered c end [] = refl
least_of-numbered c end (reader ∷ rest) = ap (λ n. least_of n (map (numbered c) rest)) (least_by-numbered c end reader) ∙ least_of-numbered c (least_by end reader) rest

-- who is called by numbers is called by counts
abbrev counted_call : ℕ → Call → Call
counted_call c call = record { backend = call.backend; below = call.below - c }

called_by-numbered : (c b : ℕ) (call : Call) (reader : Reader) → counted_call c (called_by b call (numbered c reader)) ≡ called_by b (counted_call c call) reader
called_by-numbered c b call Inactive = refl
called_by-numbered c b call Reset = refl
called_by-numbered c b call (At position true) = refl
called_by-numbered c b call (At position false) = by_test (nat_lt (position + c) call.below) (nat_lt position (call.below - c)) (is_below-numbered c call.below (At position false))
  where
    of_call : Option ℕ → ℕ → Call
    of_call backend below = record { backend = backend; below = below }

    back : (n : ℕ) → n + c - c ≡ n
    back n = omega arith

    by_test : (t u : Bool) → t ≡ u
        → counted_call c (cond t (record { backend = Some b; below = position + c }) call)
        ≡ cond u (record { backend = Some b; below = position }) (counted_call c call)
    by_test true true is = ap (λ n. of_call (Some b) n) (back position)
    by_test false false is = refl
    by_test true false is = cc
    by_test false true is = cc

called_from-numbered : (c b : ℕ) (call : Call) (readers : List Reader) → counted_call c (called_from b call (map (numbered c) readers)) ≡ called_from b (counted_call c call) readers
called_from-numbered c b call [] = refl
called_from-numbered c b call (reader ∷ rest) = called_from-numbered c (b + 1) (called_by b call (numbered c reader)) rest ∙ ap (λ x. called_from (b + 1) x rest) (called_by-numbered c b call reader)

pub furthest-numbered : (c bound : ℕ) (readers : List Reader) → furthest bound (map (numbered c) readers) ≡ furthest (bound - c) readers
furthest-numbered c bound readers = ap (λ (call : Call). call.backend) (called_from-numbered c 0 (record { backend = None; below = bound }) readers)

-- and marked
signaled-numbered : (c : ℕ) (reader : Reader) → signaled (numbered c reader) ≡ numbered c (signaled reader)
signaled-numbered c Inactive = refl
signaled-numbered c (At position mark) = refl
signaled-numbered c Reset = refl

pub marked-numbered : (c : ℕ) (backend : Option ℕ) (readers : List Reader) → marked backend (map (numbered c) readers) ≡ map (numbered c) (marked backend readers)
marked-numbered c None readers = refl
marked-numbered c (Some b) readers =
    ap (λ r. set (map (numbered c) readers) b (signaled r)) (get_or-map (numbered c) readers b Inactive)
    ∙ ap (set (map (numbered c) readers) b) (signaled-numbered c (get_or readers b Inactive))
    ∙ sym (map-set (numbered c) readers b (signaled (get_or readers b Inactive)))

-- a fetch goes on by as many
pub after_fetch-numbered : (c end : ℕ) (reader : Reader) → after_fetch (end + c) (numbered c reader) ≡ numbered c (after_fetch end reader)
after_fetch-numbered c end Inactive = refl
after_fetch-numbered c end Reset = refl
after_fetch-numbered c end (At position mark) = λ i. At (next i) (flag i)
  where
    next : position + c + count_at (end + c) (position + c) ≡ position + count_at end position + c
    next = omega arith

    more : nat_lt (position + c + count_at (end + c) (position + c)) (end + c) ≡ nat_lt (position + count_at end position) end
    more = lt-same (position + c + count_at (end + c) (position + c)) (end + c) (position + count_at end position) end (λ less. omega arith) (λ less. omega arith)

    flag : (mark && nat_lt (position + c + count_at (end + c) (position + c)) (end + c)) ≡ (mark && nat_lt (position + count_at end position) end)
    flag = ap (λ t. mark && t) more
