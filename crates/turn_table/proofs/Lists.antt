-- Lists of views, words and entries.
use Rattle.std.proofs.Common.{◌≡◌, ◌≢◌, ℕ, zero, suc, ◌+◌, ◌-◌, ◌<◌, ◌≤◌, Bool, List, [], ◌∷◌, ◌++◌, length, get_or, set, sym, refl, ap, ◌∙◌, subst, ⊎_elim, arith, append_assoc, append-nil, get_or-set_other, get_or-set_same, zero-le}
use Rattle.std.proofs.lemmas.List.{get_or_append_left, set-append_left, set-append_right}
use mathlib.Core.Option.{some, some-ne-none, some-injective}
use lib.ListN.{get_elem?}
use Rattle.atomic_table.proofs.Lists.{at_set}
use Rattle.turn_table.specs.Histories.{NoneOf, OnlyOf, Follows, Grew}
use Rattle.turn_table.specs.Words.{bit, word_of, set_word, TellExactly}
use Rattle.turn_table.specs.Kept.{total}
use Rattle.std.specs.List.{AllByRecursion}

module _ {A : Type 0} where
  pub set_there : (l : List A) (i : ℕ) (a x : A) → get_elem? l i ≡ some x → get_elem? (set l i a) i ≡ some a
  set_there [] i a x e = absurd (some-ne-none x (sym e))
  set_there (y ∷ ys) zero a x e = refl
  set_there (y ∷ ys) (suc i) a x e = set_there ys i a x e

  pub total_set : (f : A → ℕ) (l : List A) (i : ℕ) (x y : A) → get_elem? l i ≡ some x → total f (set l i y) + f x ≡ total f l + f y
  total_set f [] i x y e = absurd (some-ne-none x (sym e))
  total_set f (z ∷ zs) zero x y e = let same : f z ≡ f x = ap f (some-injective z x e) in omega arith
  total_set f (z ∷ zs) (suc i) x y e = let h = total_set f zs i x y e in omega arith

  pub total_snoc : (f : A → ℕ) (l : List A) (y : A) → total f (l ++ y ∷ []) ≡ total f l + f y
  total_snoc f [] y = omega arith
  total_snoc f (z ∷ zs) y = let h = total_snoc f zs y in omega arith

  pub total_le : (f h : A → ℕ) (l : List A) → ((i : ℕ) (x : A) → get_elem? l i ≡ some x → f x ≤ h x) → total f l ≤ total h l
  total_le f h [] below = zero-le
  total_le f h (z ∷ zs) below = let a = below zero z refl in let b = total_le f h zs (λ i x e. below (suc i) x e) in omega arith

  pub stay : (K : ℕ → A → Type 0) (vs : List A) (me : ℕ) (w : A) → K me w → ((j : ℕ) (d : A) → j ≢ me → get_elem? vs j ≡ some d → K j d)
      → (j : ℕ) (d : A) → get_elem? (set vs me w) j ≡ some d → K j d
  stay K vs me w mine others j d e = ⊎_elim (λ (t : (j ≡ me) × (w ≡ d)). subst (λ (x : ℕ × A). K x.0 x.1) (λ i. (sym t.0 i, t.1 i)) mine)
      (λ (t : (j ≢ me) × (get_elem? vs j ≡ some d)). others j d t.0 t.1) (at_set vs me j w d e)

  pub each_map : (P Q : A → Type 0) (l : List A) → ((x : A) → P x → Q x) → AllByRecursion P l → AllByRecursion Q l
  each_map P Q [] f p = tt
  each_map P Q (x ∷ xs) f p = (f x p.0, each_map P Q xs f p.1)

  pub each_append : (P : A → Type 0) (l m : List A) → AllByRecursion P l → AllByRecursion P m → AllByRecursion P (l ++ m)
  each_append P [] m p q = q
  each_append P (x ∷ xs) m p q = (p.0, each_append P xs m p.1 q)

  -- both facts at once
  pub each_and : (P Q R : A → Type 0) (l : List A) → ((x : A) → P x → Q x → R x) → AllByRecursion P l → AllByRecursion Q l → AllByRecursion R l
  each_and P Q R [] f p q = tt
  each_and P Q R (x ∷ xs) f p q = (f x p.0 q.0, each_and P Q R xs f p.1 q.1)

module _ {E : Type 0} (owner : E → ℕ) where
  pub none_append : (seat : ℕ) (l m : List E) → NoneOf owner seat l → NoneOf owner seat m → NoneOf owner seat (l ++ m)
  none_append seat [] m p q = q
  none_append seat (x ∷ xs) m p q = (p.0, none_append seat xs m p.1 q)

  pub none_only : (seat other : ℕ) (l : List E) → other ≢ seat → OnlyOf owner other l → NoneOf owner seat l
  none_only seat other [] apart p = tt
  none_only seat other (x ∷ xs) apart p = ((λ e. apart (sym p.0 ∙ e)), none_only seat other xs apart p.1)

  pub follows_same : (seat : ℕ) (h : List E) → Follows owner seat h h
  follows_same seat h = record { rest = []; grows = sym (append-nil h); others = tt }

  -- the history grew by entries of another seat
  pub follows_more : (seat other : ℕ) (seen h h' : List E) → other ≢ seat → Follows owner seat seen h → Grew owner other h h' → Follows owner seat seen h'
  follows_more seat other seen h h' apart f g = record {
    rest = f.rest ++ g.rest;
    grows = g.grows ∙ (ap (λ l. l ++ g.rest) f.grows ∙ append_assoc seen f.rest g.rest);
    others = none_append seat f.rest g.rest f.others (none_only seat other g.rest apart g.own);
  }

pub word_here : (ws : List ℕ) (k n : ℕ) → 0 < k → k ≤ length ws → word_of (set_word ws k n) k ≡ n
word_here ws k n low high = get_or-set_same ws (k - 1) n 0 (omega arith)

pub word_else : (ws : List ℕ) (k j n : ℕ) → 0 < k → 0 < j → j ≢ k → word_of (set_word ws k n) j ≡ word_of ws j
word_else ws k j n low low' apart = get_or-set_other ws (k - 1) (j - 1) n 0 (λ e. apart (omega arith))

-- the words of the table are two, then those of the seats, and then the bells
pub get_seat : (a b : ℕ) (ws bells : List ℕ) (k : ℕ) → 0 < k → k ≤ length ws → get_or (a ∷ b ∷ (ws ++ bells)) (k + 1) 0 ≡ word_of ws k
get_seat a b ws bells zero low high = absurd (omega arith)
get_seat a b ws bells (suc k) low high =
    let up : suc k + 1 ≡ suc (suc k) = omega arith in let down : suc k - 1 ≡ k = omega arith in rw (up, down) (get_or_append_left ws bells 0 k (omega arith))

pub set_seat : (a b : ℕ) (ws bells : List ℕ) (k n : ℕ) → 0 < k → k ≤ length ws → set (a ∷ b ∷ (ws ++ bells)) (k + 1) n ≡ a ∷ b ∷ (set_word ws k n ++ bells)
set_seat a b ws bells zero n low high = absurd (omega arith)
set_seat a b ws bells (suc k) n low high =
    let up : suc k + 1 ≡ suc (suc k) = omega arith in let down : suc k - 1 ≡ k = omega arith in rw (up, down) (ap (λ l. a ∷ b ∷ l) (set-append_left ws bells k n (omega arith)))

pub set_bell : (a b : ℕ) (ws bells : List ℕ) (i n : ℕ) → length ws + 2 ≤ i → (bells' : List ℕ) × (set (a ∷ b ∷ (ws ++ bells)) i n ≡ a ∷ b ∷ (ws ++ bells'))
set_bell a b ws bells zero n low = absurd (omega arith)
set_bell a b ws bells (suc zero) n low = absurd (omega arith)
set_bell a b ws bells (suc (suc i)) n low = (set bells (i - length ws) n, ap (λ l. a ∷ b ∷ l) (set-append_right ws bells (length ws) i n refl (omega arith)))

-- the same of the seats, counted otherwise
pub told_seats : {E : Type 0} (waiting : List E → ℕ → Bool) (history : List E) (words : List ℕ) (seats : ℕ) → length words ≡ seats → TellExactly waiting history words
    → (k : ℕ) → 0 < k → k ≤ seats → word_of words k ≡ bit (waiting history k)
told_seats waiting history words seats wide exact k low high = exact k low (subst (λ n. k ≤ n) (sym wide) high)

pub tells_seats : {E : Type 0} (waiting : List E → ℕ → Bool) (history : List E) (words : List ℕ) (seats : ℕ) → length words ≡ seats → ((k : ℕ) → 0 < k → k ≤ seats → word_of words k ≡ bit (waiting history k))
    → TellExactly waiting history words
tells_seats waiting history words seats wide exact k low high = exact k low (subst (λ n. k ≤ n) wide high)
