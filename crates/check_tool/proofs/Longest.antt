-- The longest prefixes of a list of entries of which something holds.
use Rattle.std.proofs.Common.{◌≡◌, ◌≤◌, ◌<◌, ◌+◌, ◌∙◌, ◌⊎◌, inl, inr, ℕ, true, false, List, [], ◌∷◌, ◌++◌, length, take, drop, get_or, sym, ap, subst, arith}
use Rattle.std.proofs.Math.Dec.{leb}
use Rattle.std.proofs.lemmas.Bool.Decides.{leb_tells}
use Rattle.std.proofs.lemmas.List.{take-take, take_all, take-append-drop, length-take-le}
use Rattle.history_model.specs.Prefixes.{EachEntry}
use Rattle.history_model.proofs.Prefixes.{EachEntry-more, EachEntry-prefix, EachEntry-rest}
use Rattle.history_model.proofs.ListSteps.{prefix_more}
use Rattle.history_ledger.specs.Longest.{IsLongest}
use Rattle.check_tool.specs.Types.{Entry}

-- what holds of each entry holds of one of them
pub each_at : (P : List Entry → Entry → Type 0) (entries : List Entry) (at : ℕ) (e d : Entry) → at < length entries → e ≡ get_or entries at d → EachEntry P entries → P (take at entries) e
each_at P entries at e d within is each =
    let prefix : EachEntry P (take (at + 1) entries) = EachEntry-prefix P (take (at + 1) entries) (drop (at + 1) entries) (subst (EachEntry P) (sym (take-append-drop (at + 1) entries)) each) in
    (EachEntry-rest P (take at entries) (e ∷ []) (subst (EachEntry P) (prefix_more entries at e d within is) prefix)).0

-- one more entry, of which it holds
pub each_next : (P : List Entry → Entry → Type 0) (entries : List Entry) (at : ℕ) (e d : Entry) → at < length entries → e ≡ get_or entries at d → EachEntry P (take at entries) → P (take at entries) e → EachEntry P (take (at + 1) entries)
each_next P entries at e d within is each here = subst (EachEntry P) (sym (prefix_more entries at e d within is)) (EachEntry-more P (take at entries) e each here)

-- the longest prefix ends where it doesn't hold of the next entry
pub longest_here : (P : List Entry → Entry → Type 0) (entries : List Entry) (at : ℕ) (e d : Entry) → at < length entries → e ≡ get_or entries at d → EachEntry P (take at entries) → (P (take at entries) e → ⊥) → IsLongest (EachEntry P) entries at
longest_here P entries at e d within is each never = record {
  within = omega (arith, within);
  holds = each;
  most = λ less more. never (EachEntry-rest P (take at entries) (e ∷ []) (subst (EachEntry P) (prefix_more entries at e d within is) more)).0;
}

-- the longest prefix is all
pub longest_all : (P : List Entry → Type 0) (entries : List Entry) (at : ℕ) → length entries ≤ at → P (take at entries) → IsLongest P entries (length entries)
longest_all P entries at past holds = record {
  within = omega arith;
  holds = subst P (take_all at entries past ∙ sym (take_all (length entries) entries (omega arith))) holds;
  most = λ less more. absurd (omega (arith, less));
}

-- a shorter prefix than one of which it holds
pub holds_shorter : (P : List Entry → Type 0) → ((history rest : List Entry) → P (history ++ rest) → P history) → (entries : List Entry) (n m : ℕ) → m ≤ n → P (take n entries) → P (take m entries)
holds_shorter P prefix entries n m less holds =
    prefix (take m entries) (drop m (take n entries)) (subst P (sym (take-append-drop m (take n entries)) ∙ ap (λ xs. xs ++ drop m (take n entries)) (take-take m n entries less)) holds)

-- the longest prefix of which both hold is the longest of the one within that of the other
pub longest_both : (P Q : List Entry → Type 0) → ((history rest : List Entry) → P (history ++ rest) → P history) → (entries : List Entry) (n m : ℕ) → IsLongest P entries n → IsLongest Q (take n entries) m
    → IsLongest (λ history. P history × Q history) entries m
longest_both P Q prefix entries n m first second = record {
  within = omega (arith, shorter, first.within);
  holds = (holds_shorter P prefix entries n m shorter first.holds, subst Q (take-take m n entries shorter) second.holds);
  most = λ less more. by_order (leb_tells (m + 1) n) less more.0 more.1;
}
  where
    size : length (take n entries) ≡ n
    size = length-take-le n entries first.within

    shorter : m ≤ n
    shorter = omega (arith, second.within, size)

    by_order : ((leb (m + 1) n ≡ true) × (m + 1 ≤ n)) ⊎ ((leb (m + 1) n ≡ false) × (n < m + 1)) → m < length entries → P (take (m + 1) entries) → Q (take (m + 1) entries) → ⊥
    by_order (inl less) room p q = second.most (omega (arith, less.1, size)) (subst Q (sym (take-take (m + 1) n entries less.1)) q)
    by_order (inr more) room p q =
        let same : m ≡ n = omega (arith, more.1, shorter) in
        first.most (omega (arith, room, same)) (subst (λ k. P (take (k + 1) entries)) same p)
