-- A cleanup goes over the readers one after the other.
use Rattle.std.proofs.Common.{◌≡◌, ◌≤◌, ◌<◌, ◌+◌, ◌*◌, ◌^◌, ◌∙◌, ℕ, Bool, true, false, cond, nat_lt, IfSome, Option, Some, None, List, [], ◌∷◌, ◌++◌, length, map, take, drop, get_or, set, suc, refl, sym, ap, subst, arith, add-one, take-suc, length-take, length-append, length-drop}
use Rattle.std.proofs.Math.Nat.{pow-suc}
use Rattle.std.proofs.Math.Pow.{pow_mono}
use Rattle.std.proofs.lemmas.List.{map-append, length-map, get_or_default}
use Rattle.std.proofs.lemmas.List.Edits.{map_over_more}
use Rattle.std.proofs.lemmas.List.Sums.{fold-append}
use Rattle.sinval_ring.specs.declared.call.Call.{Call}
use Rattle.sinval_ring.specs.Readers.{Reader, Inactive, At, Reset, is_below}
use Rattle.sinval_ring.specs.Cleanups.{called_by, called_from, furthest, least_by, least_of, swept, bits_of}

module _ {X : Type 0} where
  -- the first i + 1 are the first i and the next one
  pub take_next : (xs : List X) (i : ℕ) (d : X) → i < length xs → take (i + 1) xs ≡ take i xs ++ get_or xs i d ∷ []
  take_next xs i d within = ap (λ n. take n xs) (add-one i) ∙ take-suc xs i d within

-- one more reader may be called in place of those before
called_from-more : (b : ℕ) (call : Call) (readers : List Reader) (reader : Reader) → called_from b call (readers ++ reader ∷ []) ≡ called_by (b + length readers) (called_from b call readers) reader
called_from-more b call [] reader = ap (λ n. called_by n call reader) (omega arith)
called_from-more b call (r ∷ rest) reader = called_from-more (b + 1) (called_by b call r) rest reader ∙ ap (λ n. called_by n (called_from (b + 1) (called_by b call r) rest) reader) (omega arith)

pub called_next : (call made : Call) (readers : List Reader) (i : ℕ) (d : Reader) → i < length readers → called_from 0 call (take i readers) ≡ made → called_from 0 call (take (i + 1) readers) ≡ called_by i made (get_or readers i d)
called_next call made readers i d within was =
    ap (called_from 0 call) (take_next readers i d within) ∙ called_from-more 0 call (take i readers) (get_or readers i d)
    ∙ (λ j. called_by (length_taken j) (was j) (get_or readers i d))
  where
    length_taken : 0 + length (take i readers) ≡ i
    length_taken = omega (arith, length-take i readers)

-- and be the least
pub least_next : (end least : ℕ) (readers : List Reader) (i : ℕ) (d : Reader) → i < length readers → least ≡ least_of end (take i readers) → least_by least (get_or readers i d) ≡ least_of end (take (i + 1) readers)
least_next end least readers i d within was =
    ap (λ n. least_by n (get_or readers i d)) was ∙ sym (ap (least_of end) (take_next readers i d within) ∙ fold-append least_by end (take i readers) (get_or readers i d ∷ []))

-- one more flag is the next bit
bits_of-more : (flags : List Bool) (flag : Bool) → bits_of (flags ++ flag ∷ []) ≡ bits_of flags + bits_of (flag ∷ []) * 2 ^ length flags
bits_of-more [] true = refl
bits_of-more [] false = refl
bits_of-more (true ∷ flags) true = omega (arith, bits_of-more flags true, pow-suc 2 (length flags))
bits_of-more (true ∷ flags) false = omega (arith, bits_of-more flags false, pow-suc 2 (length flags))
bits_of-more (false ∷ flags) true = omega (arith, bits_of-more flags true, pow-suc 2 (length flags))
bits_of-more (false ∷ flags) false = omega (arith, bits_of-more flags false, pow-suc 2 (length flags))

-- so many flags are less than so many bits
pub bits_of-small : (flags : List Bool) → bits_of flags < 2 ^ length flags
bits_of-small [] = omega arith
bits_of-small (true ∷ flags) = omega (arith, bits_of-small flags, pow-suc 2 (length flags))
bits_of-small (false ∷ flags) = omega (arith, bits_of-small flags, pow-suc 2 (length flags))

-- the next flag of the readers is the next bit
pub bits_next : (low bits : ℕ) (readers : List Reader) (i : ℕ) (d : Reader) → i < length readers → bits ≡ bits_of (map (is_below low) (take i readers))
    → bits_of (map (is_below low) (take (i + 1) readers)) ≡ bits + bits_of (is_below low (get_or readers i d) ∷ []) * 2 ^ i
bits_next low bits readers i d within was =
    ap (λ l. bits_of (map (is_below low) l)) (take_next readers i d within)
    ∙ ap bits_of (map-append (is_below low) (take i readers) (get_or readers i d ∷ []))
    ∙ bits_of-more (map (is_below low) (take i readers)) (is_below low (get_or readers i d))
    ∙ (λ j. sym was j + bits_of (is_below low (get_or readers i d) ∷ []) * 2 ^ flag_count j)
  where
    flag_count : length (map (is_below low) (take i readers)) ≡ i
    flag_count = omega (arith, length-map (take i readers) (is_below low), length-take i readers)

-- 64 of them fit
pub bits_fit : (low bits : ℕ) (readers : List Reader) (i : ℕ) → i < length readers → length readers ≤ 64 → bits ≡ bits_of (map (is_below low) (take i readers)) → bits + 2 ^ i < 2 ^ 64
bits_fit low bits readers i within few was =
    let small = bits_of-small (map (is_below low) (take i readers)) in
    let flag_count : length (map (is_below low) (take i readers)) ≡ i = omega (arith, length-map (take i readers) (is_below low), length-take i readers) in
    let less : bits < 2 ^ i = subst (λ n. bits < 2 ^ n) flag_count (subst (λ n. n < 2 ^ length (map (is_below low) (take i readers))) (sym was) small) in
    omega (arith, less, pow-suc 2 i, pow_mono (within_63 within few))
  where
    within_63 : i < length readers → length readers ≤ 64 → suc i ≤ 64
    within_63 within few = omega arith

more-within : (b n : ℕ) (o : Option ℕ) → b ≤ n → IfSome o (λ a. a < b) → IfSome o (λ a. a < n)
more-within b n None less was = tt
more-within b n (Some a) less was = omega arith

called_by-within : (b : ℕ) (call : Call) (reader : Reader) → IfSome call.backend (λ a. a < b) → IfSome (called_by b call reader).backend (λ a. a < b + 1)
called_by-within b call Inactive was = more-within b (b + 1) call.backend (omega arith) was
called_by-within b call Reset was = more-within b (b + 1) call.backend (omega arith) was
called_by-within b call (At position true) was = more-within b (b + 1) call.backend (omega arith) was
called_by-within b call (At position false) was = by_test (nat_lt position call.below)
  where
    by_test : (t : Bool) → IfSome (cond t (record { backend = Some b; below = position }) call).backend (λ a. a < b + 1)
    by_test true = omega arith
    by_test false = more-within b (b + 1) call.backend (omega arith) was

called_from-within : (b : ℕ) (call : Call) (readers : List Reader) → IfSome call.backend (λ a. a < b) → IfSome (called_from b call readers).backend (λ a. a < b + length readers)
called_from-within b call [] was = more-within b (b + 0) call.backend (omega arith) was
called_from-within b call (reader ∷ rest) was =
    more-within (b + 1 + length rest) (b + suc (length rest)) (called_from (b + 1) (called_by b call reader) rest).backend (omega arith)
    (called_from-within (b + 1) (called_by b call reader) rest (called_by-within b call reader was))

-- who is signaled is one of the readers
pub furthest-within : (bound : ℕ) (readers : List Reader) → IfSome (furthest bound readers) (λ b. b < length readers)
furthest-within bound readers = more-within (0 + length readers) (length readers) (furthest bound readers) (omega arith) (called_from-within 0 (record { backend = None; below = bound }) readers tt)

same_default : (xs : List Reader) (i : ℕ) (d : Reader) → i < length xs → get_or xs i d ≡ get_or xs i (get_or xs i d)
same_default xs i d within = get_or_default xs i d (get_or xs i d) within

-- the list keeps its length
now_long : (low : ℕ) (readers now : List Reader) (i : ℕ) → i < length readers → now ≡ map (swept low) (take i readers) ++ drop i readers → i < length now
now_long low readers now i within was =
    omega (arith, ap length was, length-append (map (swept low) (take i readers)) (drop i readers), length-map (take i readers) (swept low), length-take i readers, length-drop i readers)

-- a reader that is swept in its place
pub swept_next : (low : ℕ) (readers now : List Reader) (i : ℕ) (d : Reader) → i < length readers → now ≡ map (swept low) (take i readers) ++ drop i readers → is_below low (get_or now i d) ≡ true
    → set now i Reset ≡ map (swept low) (take (i + 1) readers) ++ drop (i + 1) readers
swept_next low readers now i d within was below =
    ap (λ t. set now i (cond t Reset (get_or now i d))) (sym below) ∙ map_over_more (swept low) readers now i (get_or now i d) within was (same_default now i d (omega (arith, now_long low readers now i within was)))

-- and one that stays
pub unswept_next : (low : ℕ) (readers now : List Reader) (i : ℕ) (d : Reader) → i < length readers → now ≡ map (swept low) (take i readers) ++ drop i readers → is_below low (get_or now i d) ≡ false
    → set now i (get_or now i d) ≡ map (swept low) (take (i + 1) readers) ++ drop (i + 1) readers
unswept_next low readers now i d within was below =
    ap (λ t. set now i (cond t Reset (get_or now i d))) (sym below) ∙ map_over_more (swept low) readers now i (get_or now i d) within was (same_default now i d (omega (arith, now_long low readers now i within was)))
