-- Which messages a publish sends.
use Rattle.std.proofs.Common.{◌≡◌, ◌≤◌, ◌+◌, ◌-◌, ◌∙◌, ℕ, Bool, true, false, List, [], ◌∷◌, ◌++◌, refl, sym, ap, length, drop, take, min, cond, arith, nat_le}
use Rattle.std.specs.Prelude.{nat_lt}
use Rattle.std.specs.List.{AllByRecursion}
use Rattle.std.proofs.lemmas.Bool.{leb-true, leb-false, ltb-true, false_from_ne_true}
use Rattle.std.proofs.lemmas.List.{take_min, take_rest, drop_all}
use Rattle.std.proofs.Math.Seq.{drop-append-add}
use Rattle.inval_messages.specs.Lists.{Written, lists_from, cats_in, rels_in, rest_of_parts, unsent_after}
use Rattle.command_lists.proofs.Writes.{from-first}
use Rattle.cacheless.specs.Types.{Message}
use Rattle.cacheless.specs.declared.progress.Progress.{Progress}
use Rattle.cacheless.specs.State.{lists_at}

drop_least : (xs : List Message) (k : ℕ) → drop (min k (length xs)) xs ≡ drop k xs
drop_least xs k = by_length (nat_le k (length xs)) refl
  where
    by_length : (t : Bool) → nat_le k (length xs) ≡ t → drop (min k (length xs)) xs ≡ drop k xs
    by_length true within = let same : min k (length xs) ≡ k = omega (arith, leb-true k (length xs) within) in ap (λ n. drop n xs) same
    by_length false past = let same : min k (length xs) ≡ length xs = omega (arith, leb-false k (length xs) past) in ap (λ n. drop n xs) same ∙ drop_all (length xs) xs (omega arith) ∙ sym (drop_all k xs (omega (arith, leb-false k (length xs) past)))

-- the rest of the second part, where all of the first is published
pub rest_second : (published n : ℕ) (cats rels : List Message) → length cats ≤ published → n ≡ min (published - length cats) (length rels) → take (length rels - n) (drop n rels) ≡ rest_of_parts published cats rels
rest_second published n cats rels after is =
    let more : length cats + (published - length cats) ≡ published = omega (arith, after) in
    take_rest rels n ∙ ap (λ k. drop k rels) is ∙ drop_least rels (published - length cats)
    ∙ sym (drop-append-add cats rels (published - length cats)) ∙ ap (λ k. drop k (cats ++ rels)) more
    ∙ sym (ap (λ t. cond t (drop published cats) (drop published (cats ++ rels))) (false_from_ne_true (nat_lt published (length cats)) (λ is. absurd (omega (arith, ltb-true published (length cats) is, after)))))

all_from : (lists : List Written) → AllByRecursion (λ w. 0 ≤ w.command) lists
all_from [] = tt
all_from (w ∷ lists) = (omega arith, all_from lists)

-- from the first command on there are all lists
pub all_lists_from : (lists : List Written) → lists_from 0 lists ≡ lists
all_lists_from lists = from-first 0 lists (all_from lists)

-- at most 64 of the rest
pub unpublished_is : (s : Progress) (published : ℕ) (cats rels rest : List Message) (n : ℕ) → cats ≡ cats_in (lists_from 0 (lists_at s)) → rels ≡ rels_in (lists_from 0 (lists_at s)) → rest ≡ rest_of_parts published cats rels
    → n ≡ min 64 (length rest) → take n rest ≡ take 64 (unsent_after published (lists_at s))
unpublished_is s published cats rels rest n cats_are rels_are rest_is n_is =
    ap (λ k. take k rest) n_is ∙ take_min 64 rest
    ∙ ap (take 64) (rest_is ∙ ap (λ l. rest_of_parts published l rels) (cats_are ∙ ap cats_in (all_lists_from (lists_at s))) ∙ ap (rest_of_parts published (cats_in (lists_at s))) (rels_are ∙ ap rels_in (all_lists_from (lists_at s))))
