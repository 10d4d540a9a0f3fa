-- The entries of a commit are as many as the places that are wanted for them.
use Rattle.std.proofs.Common.{◌≡◌, ◌<◌, ◌+◌, ◌-◌, ◌∙◌, ℕ, Bool, true, false, List, [], ◌++◌, refl, ap, length, drop, min, cond, nat_lt, arith, length-append, length-drop}
use Rattle.std.proofs.lemmas.Bool.{ltb-true, ltb-false}
use Rattle.inval_messages.specs.Lists.{lists_from, cats_in, rels_in, rest_of_parts}
use Rattle.cacheless.specs.State.{lists_at}
use Rattle.cacheless.proofs.Written.Unsent.{all_lists_from}
use Rattle.backend_core.specs.Types.{Message, Progress}
use Rattle.backend_core.specs.Places.{publishes_of, entries_of_commit}

-- the messages of all commands are those that the commit publishes
pub entries_are : (s : Progress) (cats rels : List Message) (c r : ℕ) → cats ≡ cats_in (lists_from 0 (lists_at s)) → rels ≡ rels_in (lists_from 0 (lists_at s)) → c ≡ publishes_of (length cats) → r ≡ publishes_of (length rels) → c + r + 2 ≡ entries_of_commit s
entries_are s cats rels c r cats_are rels_are c_is r_is =
    let of_cats = c_is ∙ ap (λ xs. publishes_of (length xs)) (cats_are ∙ ap cats_in (all_lists_from (lists_at s))) in
    let of_rels = r_is ∙ ap (λ xs. publishes_of (length xs)) (rels_are ∙ ap rels_in (all_lists_from (lists_at s))) in
    λ i. of_cats i + of_rels i + 2

-- how many publishes are left once so many messages are published
abbrev pub publishes_left : ℕ → List Message → List Message → ℕ
publishes_left published cats rels = publishes_of (length cats - published) + publishes_of (length rels - (published - length cats))

-- how many messages are left of the part that is published next
left_of_cats : (published : ℕ) (cats rels : List Message) → nat_lt published (length cats) ≡ true → length (rest_of_parts published cats rels) ≡ length cats - published
left_of_cats published cats rels within = ap (λ t. length (cond t (drop published cats) (drop published (cats ++ rels)))) within ∙ length-drop published cats

left_of_rels : (published : ℕ) (cats rels : List Message) → nat_lt published (length cats) ≡ false → length (rest_of_parts published cats rels) ≡ length cats + length rels - published
left_of_rels published cats rels past = ap (λ t. length (cond t (drop published cats) (drop published (cats ++ rels)))) past ∙ length-drop published (cats ++ rels) ∙ ap (λ k. k - published) (length-append cats rels)

-- a publish takes one of them
pub one_publish : (published n : ℕ) (cats rels : List Message) → n ≡ min 64 (length (rest_of_parts published cats rels)) → 0 < n → publishes_left published cats rels ≡ publishes_left (published + n) cats rels + 1
one_publish published n cats rels is some = by_part (nat_lt published (length cats)) refl
  where
    by_part : (t : Bool) → nat_lt published (length cats) ≡ t → publishes_left published cats rels ≡ publishes_left (published + n) cats rels + 1
    by_part true within = omega (arith, ltb-true published (length cats) within, left_of_cats published cats rels within, is, some)
    by_part false past = omega (arith, ltb-false published (length cats) past, left_of_rels published cats rels past, is, some)

-- and where nothing is left to publish none of them is
pub no_publish : (published : ℕ) (cats rels : List Message) → rest_of_parts published cats rels ≡ [] → publishes_left published cats rels ≡ 0
no_publish published cats rels none = by_part (nat_lt published (length cats)) refl
  where
    by_part : (t : Bool) → nat_lt published (length cats) ≡ t → publishes_left published cats rels ≡ 0
    by_part true within = omega (arith, ltb-true published (length cats) within, left_of_cats published cats rels within, ap length none)
    by_part false past = omega (arith, ltb-false published (length cats) past, left_of_rels published cats rels past, ap length none)
