-- Words that are made right one by one, from seat 1 on.
use Rattle.std.proofs.Common.{◌≡◌, ◌≢◌, ℕ, ◌+◌, ◌<◌, ◌≤◌, Bool, true, false, List, [], ◌∷◌, ◌++◌, length, length-set, refl, sym, ap, ◌∙◌, subst, arith, append_assoc, append-nil, true≢false}
use mathlib.Core.Logic.{dite}
use native.Mathlib.Decide.{ℕ_discrete}
use Rattle.turn_table.specs.Histories.{Grew, OnlyOf}
use Rattle.turn_table.specs.Words.{bit, word_of, set_word, TellExactly}
use Rattle.turn_table.proofs.Lists.{word_here, word_else}

module _ {E : Type 0} (waiting : List E → ℕ → Bool) where
  -- the words below `next` are right for the history now, and the others still for that before
  pub record Telling (seats next : ℕ) (before now : List E) (words : List ℕ) : Type 0 where
    pub wide : length words ≡ seats
    pub told : (k : ℕ) → 0 < k → k < next → k ≤ seats → word_of words k ≡ bit (waiting now k)
    pub rest : (k : ℕ) → next ≤ k → 0 < k → k ≤ seats → word_of words k ≡ bit (waiting before k)

  pub begins : (seats : ℕ) (before now : List E) (words : List ℕ) → length words ≡ seats → TellExactly waiting before words → Telling seats 1 before now words
  begins seats before now words wide exact = record { wide = wide; told = λ k low high _. absurd (omega arith); rest = λ k _ low high. exact k low (subst (λ n. k ≤ n) (sym wide) high) }

  pub ends : (seats next : ℕ) (before now : List E) (words : List ℕ) → Telling seats next before now words → seats < next → TellExactly waiting now words
  ends seats next before now words t past k low high = let within : k ≤ seats = subst (λ n. k ≤ n) t.wide high in t.told k low (omega arith) within

  -- the word of `next` is set
  pub sets : (seats next n : ℕ) (before now : List E) (words words' : List ℕ) → Telling seats next before now words → 0 < next → next ≤ seats → words' ≡ set_word words next n → n ≡ bit (waiting now next)
      → Telling seats (next + 1) before now words'
  sets seats next n before now words words' t low high is right = let within : next ≤ length words = subst (λ m. next ≤ m) (sym t.wide) high in record {
    wide = ap (λ ws. length ws) is ∙ (length-set _ _ _ ∙ t.wide);
    told = λ k k₀ k₁ k₂. dite (ℕ_discrete k next)
        (λ e. ap (λ ws. word_of ws k) is ∙ (ap (word_of (set_word words next n)) e ∙ (word_here words next n low within ∙ (right ∙ ap (λ j. bit (waiting now j)) (sym e)))))
        (λ other. ap (λ ws. word_of ws k) is ∙ (word_else words next k n low k₀ other ∙ t.told k k₀ (omega arith) k₂));
    rest = λ k k₁ k₀ k₂. ap (λ ws. word_of ws k) is ∙ (word_else words next k n low k₀ (λ e. omega arith) ∙ t.rest k (omega arith) k₀ k₂);
  }

  -- the word of `next` stays
  pub skips : (seats next : ℕ) (before now : List E) (words : List ℕ) → Telling seats next before now words → waiting before next ≡ waiting now next → Telling seats (next + 1) before now words
  skips seats next before now words t same = record {
    wide = t.wide;
    told = λ k k₀ k₁ k₂. dite (ℕ_discrete k next) (λ e. t.rest k (omega (arith, e)) k₀ k₂ ∙ subst (λ j. bit (waiting before j) ≡ bit (waiting now j)) (sym e) (ap bit same)) (λ other. t.told k k₀ (omega arith) k₂);
    rest = λ k k₁ k₀ k₂. t.rest k (omega arith) k₀ k₂;
  }

  -- entries of others never end a seat's waiting
  module _ (owner : E → ℕ) (stays : (h : List E) (e : E) (seat : ℕ) → owner e ≢ seat → waiting h seat ≡ true → waiting (h ++ e ∷ []) seat ≡ true) where
    goes_on : (seat own : ℕ) (h rest : List E) → own ≢ seat → OnlyOf owner own rest → waiting h seat ≡ true → waiting (h ++ rest) seat ≡ true
    goes_on seat own h [] apart only was = subst (λ l. waiting l seat ≡ true) (sym (append-nil h)) was
    goes_on seat own h (e ∷ es) apart only was =
        subst (λ l. waiting l seat ≡ true) (append_assoc h (e ∷ []) es) (goes_on seat own (h ++ e ∷ []) es apart only.1 (stays h e seat (λ is. apart (sym only.0 ∙ is)) was))

    pub still_quiet : (seat own : ℕ) (before now : List E) → own ≢ seat → Grew owner own before now → waiting now seat ≡ false → waiting before seat ≡ false
    still_quiet seat own before now apart g quiet = by_cases (waiting before seat)
        (λ was. absurd (true≢false (sym (goes_on seat own before g.rest apart g.own was) ∙ (ap (λ l. waiting l seat) (sym g.grows) ∙ quiet))))
      where
        by_cases : (b : Bool) → (b ≡ true → b ≡ false) → b ≡ false
        by_cases true f = f refl
        by_cases false f = refl
