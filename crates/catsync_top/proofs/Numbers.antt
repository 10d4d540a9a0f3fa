-- The number of a script to make, read of an argument.
use Rattle.std.proofs.Common.{◌≡◌, ◌<◌, ◌≤◌, ◌∙◌, ◌⊎◌, inl, inr, ℕ, true, false, Option, Some, None, Result, Ok, Err, List, [], ◌∷◌, codes, decimal, sym, ap, subst, arith}
use Rattle.std.specs.Prelude.{MatchOption}
use Rattle.std.specs.Str.{bytes_eq}
use Rattle.std.specs.Str.Parse.{ParsesUnsigned}
use Rattle.std.proofs.lemmas.Fmt.{parse-decimal, decimal_injective}
use Rattle.std.proofs.lemmas.Slice.Eq.{bytes_eq-Decides}
use Rattle.catsync_top.specs.Top.{IsNumber, IsNoNumber, AskToMake, AskNoScript}

-- a text that is the number is parsed as it
parsed : {E : Type 0} (text : List ℕ) (r : Result ℕ E) (n : ℕ) → ParsesUnsigned 32 10 text r → IsNumber text n → r ≡ Ok n
parsed text r n parses h =
    let most : n ≤ 1000 = h.most in
    parse-decimal 32 n text r (omega arith) (omega arith) h.is parses

-- a text that isn't parsed is none
pub not_parsed : {E : Type 0} (text : List ℕ) (r : Result ℕ E) (e : E) → ParsesUnsigned 32 10 text r → r ≡ Err e → IsNoNumber text
not_parsed text r e parses failed = λ n h. let k = parsed text r n parses h in absurd cc

-- nor is one that is parsed as a number out of the range
pub out_of_range : {E : Type 0} (text : List ℕ) (r : Result ℕ E) (number : ℕ) → ParsesUnsigned 32 10 text r → r ≡ Ok number → (number < 1) ⊎ ((1 ≤ number) × (1000 < number)) → IsNoNumber text
out_of_range text r number parses read out = λ n h.
    let k = parsed text r n parses h in
    let same : number ≡ n = cc in
    let least : 1 ≤ n = h.least in
    let most : n ≤ 1000 = h.most in
    elim out [ inl low ↦ absurd (omega arith) | inr high ↦ absurd (omega arith) ]

-- nor one whose number is written otherwise
pub written_otherwise : {E : Type 0} (text digits : List ℕ) (r : Result ℕ E) (number : ℕ) → ParsesUnsigned 32 10 text r → r ≡ Ok number → digits ≡ decimal number → bytes_eq digits text ≡ false → IsNoNumber text
written_otherwise text digits r number parses read written other = λ n h.
    let k = parsed text r n parses h in
    let same : number ≡ n = cc in
    let alike : digits ≡ text = written ∙ ap decimal same ∙ sym h.is in
    let yes : bytes_eq digits text ≡ true = (bytes_eq-Decides digits text).1 alike in
    absurd cc

-- what an argument after `make` asks for
pub asked_after : (arguments : List (List ℕ)) (text : List ℕ) (found : Option ℕ) → arguments ≡ codes "make" ∷ text ∷ [] → MatchOption found (IsNoNumber text) (IsNumber text) → MatchOption found (AskNoScript arguments) (AskToMake arguments)
asked_after arguments text None are h = λ n ask.
    let same : ask.text ≡ text = let k = ask.are in cc in
    h n (subst (λ t. IsNumber t n) same ask.spelled)
asked_after arguments text (Some n) are h = record { text = text; are = are; spelled = h }

-- the arguments ask for one script at most
pub one_number : (arguments : List (List ℕ)) (m n : ℕ) → AskToMake arguments m → AskToMake arguments n → m ≡ n
one_number arguments m n first second =
    let same : first.text ≡ second.text = let k = first.are in let l = second.are in cc in
    let low : m ≤ 1000 = first.spelled.most in
    let high : n ≤ 1000 = second.spelled.most in
    decimal_injective m n (omega arith) (omega arith) (sym first.spelled.is ∙ same ∙ second.spelled.is)
