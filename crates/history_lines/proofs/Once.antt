-- What is answered of a list of entries is one thing.
use Rattle.std.proofs.Common.{◌≡◌, ◌≤◌, ◌<◌, ◌+◌, ◌∙◌, ◌++◌, ◌⊎◌, inl, inr, ℕ, true, false, List, take, drop, sym, ap, subst, arith}
use Rattle.std.proofs.Math.Dec.{leb}
use Rattle.std.proofs.lemmas.Bool.Decides.{leb_tells}
use Rattle.std.proofs.lemmas.List.{take-take, take-append-drop}
use Rattle.history_model.proofs.Prefixes.{EachEntry-prefix}
use Rattle.history_ledger.specs.Longest.{IsLongest}
use Rattle.cacheless.specs.Lines.{lines_of}
use Rattle.cacheless.specs.Output.{IsAllowed}
use Rattle.history_lines.specs.Answered.{IsAnswered}
use Rattle.history_lines.specs.Types.{Scenario, Entry, Line}

-- an allowed history's prefixes are allowed
pub allowed-prefix : (scenario : Scenario) (history rest : List Entry) → IsAllowed scenario (history ++ rest) → IsAllowed scenario history
allowed-prefix scenario history rest all = record {
  legal = EachEntry-prefix _ history rest all.legal;
  queue = EachEntry-prefix _ history rest all.queue;
  plays = EachEntry-prefix _ history rest all.plays;
  economical = EachEntry-prefix _ history rest all.economical;
}

-- no other prefix that is the longest is longer
not_longer : (scenario : Scenario) (entries : List Entry) (n m : ℕ) → IsLongest (IsAllowed scenario) entries n → IsLongest (IsAllowed scenario) entries m → n < m → ⊥
not_longer scenario entries n m short long less =
    short.most (omega (arith, less, long.within)) (allowed-prefix scenario (take (n + 1) entries) (drop (n + 1) (take m entries)) (subst (IsAllowed scenario) parts long.holds))
  where
    more : n + 1 ≤ m
    more = omega (arith, less)

    parts : take m entries ≡ take (n + 1) entries ++ drop (n + 1) (take m entries)
    parts = sym (take-append-drop (n + 1) (take m entries)) ∙ ap (λ front. front ++ drop (n + 1) (take m entries)) (take-take (n + 1) m entries more)

-- the number of entries and the lines are one
pub answered_once : (scenario : Scenario) (entries : List Entry) (n m : ℕ) (lines others : List Line) → IsAnswered scenario entries n lines → IsAnswered scenario entries m others → (n ≡ m) × (lines ≡ others)
answered_once scenario entries n m lines others one other = (same, one.lines_are ∙ ap (λ k. lines_of scenario (take k entries)) same ∙ sym other.lines_are)
  where
    by_order : ((leb n m ≡ true) × (n ≤ m)) ⊎ ((leb n m ≡ false) × (m < n)) → ((leb m n ≡ true) × (m ≤ n)) ⊎ ((leb m n ≡ false) × (n < m)) → n ≡ m
    by_order (inl up) (inl down) = omega (arith, up.1, down.1)
    by_order (inr over) down = absurd (not_longer scenario entries m n other.longest one.longest over.1)
    by_order (inl up) (inr over) = absurd (not_longer scenario entries n m one.longest other.longest over.1)

    same : n ≡ m
    same = by_order (leb_tells n m) (leb_tells m n)
