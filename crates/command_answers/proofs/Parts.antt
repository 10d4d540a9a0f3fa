-- A text that was pushed in two parts.
use Rattle.std.proofs.Common.{◌≡◌, ℕ, List, ◌++◌, ap, ◌∙◌, append_assoc}

-- two texts that were pushed one after the other
pub pushed_twice : (old mid new first second : List ℕ) → mid ≡ old ++ first → new ≡ mid ++ second → new ≡ old ++ (first ++ second)
pushed_twice old mid new first second p q = q ∙ ap (λ l. l ++ second) p ∙ append_assoc old first second
