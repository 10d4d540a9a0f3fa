-- Reading a list item by item, and a text token by token, as loops do.
use Rattle.std.proofs.Common.{◌≡◌, ◌<◌, ◌+◌, ℕ, true, false, ◌==◌, nat_lt, Option, Some, None, MatchOption, List, [], ◌∷◌, ◌++◌, length, length-append, append_assoc, codes, refl, sym, ap, ◌∙◌, arith}
use Rattle.std.specs.Option.{option_map}
use Rattle.std.specs.Str.{bytes_eq}
use Rattle.std.proofs.lemmas.List.{append-nil}
use Rattle.std.proofs.lemmas.Bool.Decides.{nat_tests}
use Rattle.script_text.specs.Tokens.{◌>>=◌}
use Rattle.script_text.specs.Operands.{check_text_of}
use Rattle.script_text.specs.Commands.{enclosed, enclosed_text}

-- the items so far, and those that are still to be read
abbrev pub with_items : {X : Type 0} → List X → Option (List X) → Option (List X)
with_items front read = option_map (λ xs. front ++ xs) read

-- the text so far, and what is still to be read
abbrev pub with_text : List ℕ → Option (List ℕ × List (List ℕ)) → Option (List ℕ × List (List ℕ))
with_text front read = option_map (λ x. (front ++ x.0, x.1)) read

joined : (front t : List ℕ) (read : Option (List ℕ × List (List ℕ))) → with_text front (option_map (λ r. (t ++ r.0, r.1)) read) ≡ with_text (front ++ t) read
joined front t None = refl
joined front t (Some x) = ap (λ (text : List ℕ). Some (text, x.1)) (simp append_assoc)

pub text_more : (front t : List ℕ) (ts : List (List ℕ)) (whole : Option (List ℕ × List (List ℕ))) → bytes_eq t (codes ")") ≡ false → with_text front (enclosed (t ∷ ts)) ≡ whole → with_text (front ++ t) (enclosed ts) ≡ whole
unfolding enclosed
text_more front t ts whole other so_far =
    let step : with_text front (enclosed (t ∷ ts)) ≡ with_text front (option_map (λ r. (t ++ r.0, r.1)) (enclosed ts)) = rw other refl in
    sym (joined front t (enclosed ts)) ∙ sym step ∙ so_far

pub text_ends : (front t : List ℕ) (ts : List (List ℕ)) (whole : Option (List ℕ × List (List ℕ))) → bytes_eq t (codes ")") ≡ true → with_text front (enclosed (t ∷ ts)) ≡ whole → whole ≡ Some (front, ts)
unfolding enclosed
text_ends front t ts whole closing so_far =
    let step : with_text front (enclosed (t ∷ ts)) ≡ Some (front ++ [], ts) = rw closing refl in
    sym so_far ∙ step ∙ ap (λ (text : List ℕ). Some (text, ts)) (append-nil front)

-- what is read of a text
abbrev pub as_text : Option (List ℕ × List (List ℕ)) → Option (List ℕ × List (List ℕ))
as_text read = read >>= λ inside. check_text_of inside.0 >>= λ text. Some (text, inside.1)

pub as_text_is : (ts : List (List ℕ)) → enclosed_text ts ≡ as_text (enclosed ts)
unfolding enclosed_text
as_text_is ts = refl

is_long : (n : ℕ) → 63 < n → ((n == 0) ≡ false) × (nat_lt 63 n ≡ true)
is_long n lt = (grind (arith, nat_tests), grind (arith, nat_tests))

long_text : (text : List ℕ) → 63 < length text → check_text_of text ≡ None
unfolding check_text_of
long_text text lt = let h = is_long (length text) lt in rw (h.0, h.1) refl

too_long_after : (front : List ℕ) (read : Option (List ℕ × List (List ℕ))) → 63 < length front → as_text (with_text front read) ≡ None
too_long_after front None lt = refl
too_long_after front (Some x) lt =
    let long : 63 < length (front ++ x.0) = simp length-append (omega arith) in
    rw (long_text (front ++ x.0) long) refl

pub too_long : (front t : List ℕ) (ts : List (List ℕ)) (whole : Option (List ℕ × List (List ℕ))) → bytes_eq t (codes ")") ≡ false → 63 < length front + length t → with_text front (enclosed (t ∷ ts)) ≡ whole → as_text whole ≡ None
too_long front t ts whole other lt so_far =
    let long : 63 < length (front ++ t) = simp length-append (omega arith) in
    ap as_text (sym (text_more front t ts whole other so_far)) ∙ too_long_after (front ++ t) (enclosed ts) long

pub unclosed : (front : List ℕ) (ts : List (List ℕ)) (whole : Option (List ℕ × List (List ℕ))) → ts ≡ [] → with_text front (enclosed ts) ≡ whole → as_text whole ≡ None
unfolding enclosed
unclosed front ts whole none so_far =
    let step : with_text front (enclosed ts) ≡ None = rw none refl in
    ap as_text (sym so_far ∙ step)

pub closed_text : (whole : Option (List ℕ × List (List ℕ))) (front : List ℕ) (rest : List (List ℕ)) (found : Option (List ℕ)) → whole ≡ Some (front, rest) → found ≡ check_text_of front
    → MatchOption found (as_text whole ≡ None) (λ x. as_text whole ≡ Some (x, rest))
closed_text whole front rest None e f = rw (e, sym f) refl
closed_text whole front rest (Some x) e f = rw (e, sym f) refl
