-- What the lines of a script's text say, by their tokens.
use Rattle.std.proofs.Common.{◌≡◌, ◌<◌, ◌≤◌, ◌^◌, ◌+◌, ◌*◌, ℕ, zero, suc, Bool, true, false, ◌&&◌, ◌||◌, ◌==◌, cond, inl, inr, nat_le, Ok, Some, List, [], ◌∷◌, ◌++◌, length, codes, decimal, refl, ap, ◌∙◌, arith, sum_by}
use Rattle.std.specs.Prelude.{nat_lt}
use Rattle.std.specs.Str.{bytes_eq}
use Rattle.std.specs.List.{AllByRecursion, flat_map, list_all}
use Rattle.std.proofs.Math.Nat.{pow-le-pow_right}
use Rattle.std.proofs.lemmas.Bool.{and_parts, or_cases, cases_lt}
use Rattle.std.proofs.lemmas.Bool.Decides.{nat_tests}
use Rattle.std.proofs.lemmas.List.Sums.{sum_by-cons}
use Rattle.base_types.specs.Names.{is_digit}
use Rattle.base_types.specs.Scenario.{IsQueueSize, IsBackend, AreTurns, step_count}
use Rattle.base_types.specs.declared.command.Command.{Command}
use Rattle.base_types.specs.declared.command.Turns.{Turns}
use Rattle.script_text.specs.Tokens.{tokens, after_words, after}
use Rattle.script_text.specs.Operands.{number_within}
use Rattle.script_text.specs.Commands.{command_of}
use Rattle.script_text.specs.LineForms.{is_size, size_of, first_of, from_part, ring_of, backends_of, all_turns, backend_of, count_part, steps_of, addressed}
use Rattle.script_text.specs.Grammar.{Draft, empty_draft, with_ring, with_backends, with_steps, with_command, with_end, ring_line, backends_line, steps_line, command_line, body_line, tokens_line}
use Rattle.script_text.specs.Spelling.{turns_pieces, from_pieces}
use Rattle.script_text.proofs.TokenLaws.{number_token, decimal_digits, digits_back, number_back}
use Rattle.script_text.proofs.TokenLengths.{is_zero}
use Rattle.script_text.proofs.StepItems.{first_turns}

-- ---- numbers

pub not_zero : (n : ℕ) → 1 ≤ n → (n == 0) ≡ false
not_zero n some = grind (arith, nat_tests)

within_tests : (least most n : ℕ) → least ≤ n → n ≤ most → (nat_le least n ≡ true) × (nat_le n most ≡ true)
within_tests least most n low high = (grind (arith, nat_tests), grind (arith, nat_tests))

-- a number within bounds is read as what it is
within_back : (least most n : ℕ) → least ≤ n → n ≤ most → most < 1000000000 → number_within least most (decimal n) ≡ Some n
unfolding number_within
within_back least most n low high few = let tests = within_tests least most n low high in rw (number_back n (omega arith), tests.0, tests.1) refl

digit_not : (d b : ℕ) → is_digit d ≡ true → is_digit b ≡ false → (d == b) ≡ false
digit_not d b h k = grind (arith, nat_tests)

digits_not : (ds : List ℕ) (b : ℕ) (bs : List ℕ) → list_all is_digit ds ≡ true → is_digit b ≡ false → bytes_eq ds (b ∷ bs) ≡ false
digits_not [] b bs h k = refl
digits_not (d ∷ ds) b bs h k = rw (digit_not d b (and_parts (is_digit d) (list_all is_digit ds) h).0 k) refl

-- a number is no word
no_word : (n b : ℕ) (bs : List ℕ) → is_digit b ≡ false → bytes_eq (decimal n) (b ∷ bs) ≡ false
no_word n b bs h = digits_not (decimal n) b bs (decimal_digits n) h

-- ---- the queue

-- each number below m passes
abbrev each_below : (ℕ → Bool) → ℕ → Bool
each_below p zero = true
each_below p (suc m) = p m && each_below p m

below_by : (p : ℕ → Bool) (m k : ℕ) (last : Bool) → (k == m) ≡ last → p m ≡ true → k < m + 1 → (k < m → p k ≡ true) → p k ≡ true
below_by p m k true e here lt more = let same : k ≡ m = grind (arith, nat_tests) in rw same here
below_by p m k false e here lt more = more (grind (arith, nat_tests))

below_passes : (p : ℕ → Bool) (m k : ℕ) → each_below p m ≡ true → k < m → p k ≡ true
below_passes p zero k h lt = absurd (omega arith)
below_passes p (suc m) k h lt = let parts = and_parts (p m) (each_below p m) h in below_by p m k (k == m) refl parts.0 (omega arith) (below_passes p m k parts.1)

-- the powers of two that are small, or that a queue may have
abbrev is_small_or_size : ℕ → Bool
is_small_or_size k = nat_lt (2 ^ k) 64 || is_size (2 ^ k)

few_powers : (k : ℕ) → 2 ^ k ≤ 4096 → k < 13
few_powers k h = elim (cases_lt k 13) [
  | inl few ↦ few
  | inr many ↦ let top : 2 ^ 13 ≤ 2 ^ k = pow-le-pow_right {n = 2} (omega arith) many in absurd (omega arith)
]

size_power : (k : ℕ) → 64 ≤ 2 ^ k → 2 ^ k ≤ 4096 → is_size (2 ^ k) ≡ true
size_power k low high = elim (or_cases (nat_lt (2 ^ k) 64) (is_size (2 ^ k)) (below_passes is_small_or_size 13 k refl (few_powers k high))) [
  | inl small ↦ absurd (grind (arith, nat_tests))
  | inr size ↦ size
]

size_cases : (n : ℕ) → IsQueueSize n → is_size n ≡ true
size_cases n h = rw h.is (size_power h.power (omega (arith, h.is, h.least)) (omega (arith, h.is, h.most)))

-- `ring` and its tokens
ring_tokens : (size : ℕ) → flat_map tokens (codes "ring" ∷ decimal size ∷ []) ≡ codes "ring" ∷ decimal size ∷ []
unfolding tokens
ring_tokens size = rw (number_token size) refl

ring_from_tokens : (size from : ℕ) → flat_map tokens (codes "ring" ∷ decimal size ∷ codes "from" ∷ decimal from ∷ []) ≡ codes "ring" ∷ decimal size ∷ codes "from" ∷ decimal from ∷ []
unfolding tokens
ring_from_tokens size from = rw (number_token size, number_token from) refl

size_back : (size : ℕ) → IsQueueSize size → size_of (decimal size) ≡ Some size
unfolding size_of
size_back size h = rw (number_back size (omega (arith, h.most)), size_cases size h) refl

below_test : (n bound : ℕ) → n < bound → nat_lt n bound ≡ true
below_test n bound h = grind (arith, nat_tests)

first_back : (size from : ℕ) → size ≤ 4096 → from < size * 262144 → first_of size (decimal from) ≡ Some from
unfolding first_of
first_back size from most below = rw (digits_back 10 from (omega arith) (omega arith) (omega arith), below_test from (size * 262144) below) refl

ring_by : (size : ℕ) (ds : List ℕ) → size_of ds ≡ Some size → tokens_line empty_draft (codes "ring" ∷ ds ∷ []) ≡ Ok (with_ring empty_draft (size, 0))
unfolding tokens_line ring_line ring_of after after_words from_part tokens
ring_by size ds e = rw e refl

ring_from_by : (size from : ℕ) (ds es : List ℕ) → size_of ds ≡ Some size → first_of size es ≡ Some from → tokens_line empty_draft (codes "ring" ∷ ds ∷ codes "from" ∷ es ∷ []) ≡ Ok (with_ring empty_draft (size, from))
unfolding tokens_line ring_line ring_of after after_words from_part tokens
ring_from_by size from ds es e f = rw (e, f) refl

ring_back_by : (size from : ℕ) (none : Bool) → (from == 0) ≡ none → IsQueueSize size → from < size * 262144 → tokens_line empty_draft (flat_map tokens (codes "ring" ∷ decimal size ∷ from_pieces from)) ≡ Ok (with_ring empty_draft (size, from))
ring_back_by size from true e h below =
    rw (is_zero from e) (ap (tokens_line empty_draft) (ring_tokens size) ∙ ring_by size (decimal size) (size_back size h))
ring_back_by size from false e h below =
    rw e (ap (tokens_line empty_draft) (ring_from_tokens size from) ∙ ring_from_by size from (decimal size) (decimal from) (size_back size h) (first_back size from h.most below))

-- the line of the queue
pub ring_back : (size from : ℕ) → IsQueueSize size → from < size * 262144 → tokens_line empty_draft (flat_map tokens (codes "ring" ∷ decimal size ∷ from_pieces from)) ≡ Ok (with_ring empty_draft (size, from))
ring_back size from h below = ring_back_by size from (from == 0) refl h below

-- ---- the backends

backends_by : (draft : Draft) (n : ℕ) (ds : List ℕ) → draft.asked.backends ≡ 0 → number_within 1 64 ds ≡ Some n → tokens_line draft (codes "backends" ∷ ds ∷ []) ≡ Ok (with_backends draft n)
unfolding tokens_line backends_line backends_of after after_words tokens
backends_by draft n ds none e = rw (none, e) refl

backends_tokens : (n : ℕ) → flat_map tokens (codes "backends" ∷ decimal n ∷ []) ≡ codes "backends" ∷ decimal n ∷ []
unfolding tokens
backends_tokens n = rw (number_token n) refl

-- the line of the backends
pub backends_back : (draft : Draft) (n : ℕ) → draft.asked.backends ≡ 0 → IsBackend 64 n → tokens_line draft (flat_map tokens (codes "backends" ∷ decimal n ∷ [])) ≡ Ok (with_backends draft n)
backends_back draft n none h = ap (tokens_line draft) (backends_tokens n) ∙ backends_by draft n (decimal n) none (within_back 1 64 n h.0 h.1 (omega arith))

-- ---- the lines after it

-- the end
pub end_back : (draft : Draft) → (draft.asked.backends == 0) ≡ false → draft.has_end ≡ false → tokens_line draft (flat_map tokens (codes "end" ∷ [])) ≡ Ok (with_end draft)
unfolding tokens_line body_line after_words tokens
end_back draft some open_yet = rw (some, open_yet) refl

command_by : (draft : Draft) (b : ℕ) (c : Command) (ds : List ℕ) (ts : List (List ℕ)) → (draft.asked.backends == 0) ≡ false → draft.has_end ≡ false → draft.asked.steps ≡ []
    → (bytes_eq ds (codes "ring") ≡ false) × (bytes_eq ds (codes "end") ≡ false) × (bytes_eq ds (codes "steps") ≡ false)
    → number_within 1 draft.asked.backends ds ≡ Some b → command_of ts ≡ Some c → nat_le 20000 (length draft.asked.commands) ≡ false
    → tokens_line draft (ds ∷ codes ":" ∷ ts) ≡ Ok (with_command draft b c)
unfolding tokens_line body_line command_line addressed after_words tokens
command_by draft b c ds ts some open_yet none words number command few =
    rw (words.0, some, words.1, words.2, number, none, command, few, open_yet) refl

command_tokens : (b : ℕ) (pieces : List (List ℕ)) → flat_map tokens (decimal b ∷ codes ":" ∷ pieces) ≡ decimal b ∷ codes ":" ∷ flat_map tokens pieces
unfolding tokens
command_tokens b pieces = rw (number_token b) refl

few_test : (n : ℕ) → n < 20000 → nat_le 20000 n ≡ false
few_test n h = grind (arith, nat_tests)

-- a command's line, where no steps came
pub placed_back : (draft : Draft) (b : ℕ) (c : Command) (pieces : List (List ℕ)) → draft.asked.backends ≤ 64 → IsBackend draft.asked.backends b → draft.has_end ≡ false → draft.asked.steps ≡ []
    → length draft.asked.commands < 20000 → command_of (flat_map tokens pieces) ≡ Some c → tokens_line draft (flat_map tokens (decimal b ∷ codes ":" ∷ pieces)) ≡ Ok (with_command draft b c)
placed_back draft b c pieces most h open_yet none few command =
    ap (tokens_line draft) (command_tokens b pieces)
    ∙ command_by draft b c (decimal b) (flat_map tokens pieces) (not_zero draft.asked.backends (omega (arith, h.0, h.1))) open_yet none (no_word b 114 (codes "ing") refl, no_word b 101 (codes "nd") refl, no_word b 115 (codes "teps") refl)
    (within_back 1 draft.asked.backends b h.0 h.1 (omega arith)) command (few_test (length draft.asked.commands) few)

-- ---- steps

item_back : (n b c : ℕ) (ds : List ℕ) (ts rest : List (List ℕ)) (turns : List Turns) → backend_of n ds ≡ Some b → count_part ts ≡ Some (c, rest) → all_turns n rest ≡ Some turns
    → all_turns n (ds ∷ ts) ≡ Some (record { backend = b; count = c } ∷ turns)
item_back n b c ds ts rest turns backend count others = first_turns n ds ts ∙ rw (backend, count, others) refl

one_tokens : (b : ℕ) (rest : List (List ℕ)) → flat_map tokens ((decimal b ∷ []) ++ rest) ≡ decimal b ∷ flat_map tokens rest
one_tokens b rest = rw (number_token b) refl

many_tokens : (b c : ℕ) (rest : List (List ℕ)) → flat_map tokens ((decimal b ∷ codes "*" ∷ decimal c ∷ []) ++ rest) ≡ decimal b ∷ codes "*" ∷ decimal c ∷ flat_map tokens rest
unfolding tokens
many_tokens b c rest = rw (number_token b, number_token c) refl

count_from : (b : ℕ) (ts : List (List ℕ)) → count_part (decimal b ∷ ts) ≡ Some (1, decimal b ∷ ts)
unfolding count_part
count_from b ts = rw (no_word b 42 [] refl) refl

alone_by : (b c : ℕ) (one : Bool) (rest : List (List ℕ)) → let ts = flat_map tokens (cond one (decimal b ∷ []) (decimal b ∷ codes "*" ∷ decimal c ∷ []) ++ rest) in count_part ts ≡ Some (1, ts)
alone_by b c true rest = rw (one_tokens b rest) (count_from b (flat_map tokens rest))
alone_by b c false rest = rw (many_tokens b c rest) (count_from b (codes "*" ∷ decimal c ∷ flat_map tokens rest))

-- other steps don't begin with a count
alone : (turns : List Turns) → let ts = flat_map tokens (flat_map turns_pieces turns) in count_part ts ≡ Some (1, ts)
unfolding count_part
alone [] = refl
alone (t ∷ turns) = alone_by t.backend t.count (t.count == 1) (flat_map turns_pieces turns)

count_many : (c : ℕ) (rest : List (List ℕ)) → 1 ≤ c → c ≤ 1000000 → count_part (codes "*" ∷ decimal c ∷ rest) ≡ Some (c, rest)
unfolding count_part
count_many c rest some few = rw (within_back 1 1000000 c some few (omega arith)) refl

is_one : (n : ℕ) → (n == 1) ≡ true → n ≡ 1
is_one n h = grind (arith, nat_tests)

item_by : (n b c : ℕ) (one : Bool) (turns : List Turns) → (c == 1) ≡ one → n ≤ 64 → IsBackend n b → 1 ≤ c → c ≤ 1000000 → all_turns n (flat_map tokens (flat_map turns_pieces turns)) ≡ Some turns
    → all_turns n (flat_map tokens (cond one (decimal b ∷ []) (decimal b ∷ codes "*" ∷ decimal c ∷ []) ++ flat_map turns_pieces turns)) ≡ Some (record { backend = b; count = c } ∷ turns)
item_by n b c true turns e most h some few others =
    let rest = flat_map turns_pieces turns in
    rw (one_tokens b rest, is_one c e) (item_back n b 1 (decimal b) (flat_map tokens rest) (flat_map tokens rest) turns (within_back 1 n b h.0 h.1 (omega arith)) (alone turns) others)
item_by n b c false turns e most h some few others =
    let rest = flat_map turns_pieces turns in
    rw (many_tokens b c rest) (item_back n b c (decimal b) (codes "*" ∷ decimal c ∷ flat_map tokens rest) (flat_map tokens rest) turns (within_back 1 n b h.0 h.1 (omega arith)) (count_many c (flat_map tokens rest) some few) others)

turns_back : (n : ℕ) (turns : List Turns) → n ≤ 64 → AllByRecursion (AreTurns n) turns → step_count turns ≤ 1000000 → all_turns n (flat_map tokens (flat_map turns_pieces turns)) ≡ Some turns
unfolding all_turns
turns_back n [] most h few = refl
turns_back n (t ∷ turns) most h few =
    let total = sum_by-cons (λ (t : Turns). t.count) t turns in
    item_by n t.backend t.count (t.count == 1) turns refl most h.0.0 h.0.1 (omega (arith, total)) (turns_back n turns most h.1 (omega (arith, total)))

steps_by : (draft : Draft) (ts : List (List ℕ)) (turns : List Turns) → (draft.asked.backends == 0) ≡ false → draft.has_end ≡ false → 1 ≤ length turns → all_turns draft.asked.backends ts ≡ Some turns
    → nat_lt 1000000 (sum_by step_count draft.asked.steps + step_count turns) ≡ false → tokens_line draft (codes "steps" ∷ ts) ≡ Ok (with_steps draft turns)
unfolding tokens_line body_line steps_line steps_of all_turns after_words tokens
steps_by draft [] [] some open_yet more read few = absurd (omega arith)
steps_by draft [] (t ∷ turns) some open_yet more read few = absurd cc
steps_by draft (t ∷ ts) turns some open_yet more read few = rw (some, read, few, open_yet) refl

steps_tokens : (pieces : List (List ℕ)) → flat_map tokens (codes "steps" ∷ pieces) ≡ codes "steps" ∷ flat_map tokens pieces
unfolding tokens
steps_tokens pieces = refl

most_test : (n : ℕ) → n ≤ 1000000 → nat_lt 1000000 n ≡ false
most_test n h = grind (arith, nat_tests)

-- a line of steps
pub steps_back : (draft : Draft) (turns : List Turns) → 1 ≤ draft.asked.backends → draft.asked.backends ≤ 64 → draft.has_end ≡ false → 1 ≤ length turns → AllByRecursion (AreTurns draft.asked.backends) turns
    → sum_by step_count draft.asked.steps + step_count turns ≤ 1000000 → tokens_line draft (flat_map tokens (codes "steps" ∷ flat_map turns_pieces turns)) ≡ Ok (with_steps draft turns)
steps_back draft turns some most open_yet more h few =
    ap (tokens_line draft) (steps_tokens (flat_map turns_pieces turns))
    ∙ steps_by draft (flat_map tokens (flat_map turns_pieces turns)) turns (not_zero draft.asked.backends some) open_yet more (turns_back draft.asked.backends turns most h (omega arith)) (most_test (sum_by step_count draft.asked.steps + step_count turns) few)
