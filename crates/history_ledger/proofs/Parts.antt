-- The two parts of what a transaction sends, and what of them is left.
use Rattle.std.proofs.Common.{◌≡◌, ◌≤◌, ◌<◌, ◌+◌, ◌-◌, ◌∙◌, ◌++◌, ◌∷◌, [], ◌==◌, ℕ, Bool, true, false, List, zero, suc, length, drop, if◌then◌else◌, refl, sym, ap, subst, arith}
use Rattle.std.specs.Prelude.{nat_lt, nat_le}
use Rattle.std.proofs.lemmas.Bool.{lt-ltb, ltb-true, eq-eqb, ne_eqb, leb-true, leb-false}
use Rattle.std.proofs.lemmas.List.{length-append, length-drop}
use Rattle.inval_messages.specs.Lists.{Written, lists_from, cats_in, rels_in, sent_in, left_after, unsent_after}
use Rattle.inval_messages.specs.declared.message.Message.{Message}
use Rattle.command_lists.proofs.Writes.{from-first}
use Rattle.history_model.proofs.Every.{every}

-- from the first command on there are all lists
pub all_from : (lists : List Written) → lists_from 0 lists ≡ lists
all_from lists = from-first 0 lists (every (λ w. 0 ≤ w.command) (λ w. omega arith) lists)

drop_past : {X : Type 0} (xs ys : List X) (n : ℕ) → length xs ≤ n → drop (n - length xs) ys ≡ drop n (xs ++ ys)
drop_past [] ys n past = let same : n - 0 ≡ n = omega arith in ap (λ k. drop k ys) same
drop_past (x ∷ xs) ys zero past = absurd (omega (arith, past))
drop_past (x ∷ xs) ys (suc n) past = let same : suc n - length (x ∷ xs) ≡ n - length xs = omega arith in ap (λ k. drop k ys) same ∙ drop_past xs ys n (omega (arith, past))

-- the rest of the first part
pub unsent_first : (published : ℕ) (lists : List Written) (cats : List Message) → cats ≡ cats_in (lists_from 0 lists) → published < length cats → drop published cats ≡ unsent_after published lists
unsent_first published lists cats is less =
    let same : cats ≡ cats_in lists = is ∙ ap cats_in (all_from lists) in
    ap (drop published) same ∙ sym (ap (λ t. if t then drop published (cats_in lists) else drop published (cats_in lists ++ rels_in lists)) (lt-ltb published (length (cats_in lists)) (subst (λ l. published < length l) same less)))

-- or of the second
pub unsent_second : (published : ℕ) (lists : List Written) (cats rels : List Message) → cats ≡ cats_in (lists_from 0 lists) → rels ≡ rels_in (lists_from 0 lists) → length cats ≤ published → drop (published - length cats) rels ≡ unsent_after published lists
unsent_second published lists cats rels is is' past =
    let same : cats ≡ cats_in lists = is ∙ ap cats_in (all_from lists) in
    let same' : rels ≡ rels_in lists = is' ∙ ap rels_in (all_from lists) in
    drop_past cats rels published past ∙ (λ i. drop published (same i ++ same' i))
    ∙ sym (ap (λ t. if t then drop published (cats_in lists) else drop published (cats_in lists ++ rels_in lists)) (not_less published (length (cats_in lists)) (subst (λ l. length l ≤ published) same past)))
  where
    not_less : (m n : ℕ) → n ≤ m → nat_lt m n ≡ false
    not_less m n le = by_test (nat_lt m n) refl
      where
        by_test : (t : Bool) → nat_lt m n ≡ t → t ≡ false
        by_test true is = absurd (omega (arith, le, ltb-true m n is))
        by_test false is = refl

left_long : (published : ℕ) (lists : List Written) (cats rels : List Message) → cats ≡ cats_in (lists_from 0 lists) → rels ≡ rels_in (lists_from 0 lists) → length (left_after published lists) ≡ length cats + length rels - published
left_long published lists cats rels is is' =
    length-drop published (sent_in lists)
    ∙ ap (λ n. n - published) (length-append (cats_in lists) (rels_in lists) ∙ (λ i. length (sym (is ∙ ap cats_in (all_from lists)) i) + length (sym (is' ∙ ap rels_in (all_from lists)) i)))

-- nothing is left
pub all_sent : (published : ℕ) (lists : List Written) (cats rels : List Message) → cats ≡ cats_in (lists_from 0 lists) → rels ≡ rels_in (lists_from 0 lists) → length cats ≤ published
    → nat_le (length rels) (published - length cats) ≡ (length (left_after published lists) == 0)
all_sent published lists cats rels is is' past = by_test (nat_le (length rels) (published - length cats)) refl
  where
    long : length (left_after published lists) ≡ length cats + length rels - published
    long = left_long published lists cats rels is is'

    by_test : (t : Bool) → nat_le (length rels) (published - length cats) ≡ t → t ≡ (length (left_after published lists) == 0)
    by_test true le = sym (eq-eqb (length (left_after published lists)) 0 (omega (arith, long, past, leb-true (length rels) (published - length cats) le)))
    by_test false le = sym (ne_eqb (length (left_after published lists)) 0 (λ none. absurd (omega (arith, long, past, none, leb-false (length rels) (published - length cats) le))))

-- or something is
pub some_left : (published : ℕ) (lists : List Written) (cats : List Message) → cats ≡ cats_in (lists_from 0 lists) → published < length cats → false ≡ (length (left_after published lists) == 0)
some_left published lists cats is less =
    sym (ne_eqb (length (left_after published lists)) 0 (λ none. absurd (omega (arith, left_long published lists cats (rels_in (lists_from 0 lists)) is refl, less, none))))

pub not_past : (m n : ℕ) → n < m → nat_le m n ≡ false
not_past m n less = by_test (nat_le m n) refl
  where
    by_test : (t : Bool) → nat_le m n ≡ t → t ≡ false
    by_test true is = absurd (omega (arith, less, leb-true m n is))
    by_test false is = refl
