-- Lists of one word and of two.
use Rattle.std.proofs.Common.{◌≡◌, ◌≤◌, ◌<◌, ◌∙◌, ℕ, Bool, true, List, [], ◌∷◌, map, length, get_or, sym, ap, arith}
use Rattle.std.specs.Str.{bytes_eq}
use Rattle.std.proofs.lemmas.Slice.Eq.{bytes_eq-Decides}

-- a word that was compared
same_word : (seen wanted given : List ℕ) (same : Bool) → seen ≡ given → same ≡ bytes_eq seen wanted → same ≡ true → given ≡ wanted
same_word seen wanted given same read test is = sym read ∙ (bytes_eq-Decides seen wanted).0 (sym test ∙ is)

-- a list of two whose first word is the one that is wanted
pub first_asked : {X : Type 0} (text : X → List ℕ) (words : List X) (first second : X) (seen wanted seen' : List ℕ) (same : Bool) → 2 ≤ length words → length words < 3 → first ≡ get_or words 0 first → second ≡ get_or words 1 second
    → seen ≡ text first → same ≡ bytes_eq seen wanted → same ≡ true → seen' ≡ text second → map text words ≡ wanted ∷ seen' ∷ []
first_asked text [] first second seen wanted seen' same some few is is' read test yes-same read' = absurd (omega (arith, some))
first_asked text (x ∷ []) first second seen wanted seen' same some few is is' read test yes-same read' = absurd (omega (arith, some))
first_asked text (x ∷ y ∷ []) first second seen wanted seen' same some few is is' read test yes-same read' =
    ap (λ t. t ∷ text y ∷ []) (ap text (sym is) ∙ same_word seen wanted (text first) same read test yes-same) ∙ ap (λ t. wanted ∷ t ∷ []) (ap text (sym is') ∙ sym read')
first_asked text (x ∷ y ∷ z ∷ words) first second seen wanted seen' same some few is is' read test yes-same read' = absurd (omega (arith, few))
