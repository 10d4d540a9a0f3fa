-- The items of a line of steps.
use Rattle.std.proofs.Common.{◌≡◌, ℕ, Bool, true, false, Option, Some, None, List, [], ◌∷◌, refl, sym, ap, ◌∙◌}
use Rattle.std.specs.Option.{option_map}
use Rattle.base_types.specs.declared.command.Turns.{Turns}
use Rattle.script_text.specs.Tokens.{◌>>=◌}
use Rattle.script_text.specs.LineForms.{all_turns, with_turns, backend_of, count_of, count_part, is_times, none_left, NextTurns}
use Rattle.std.proofs.lemmas.List.{append-nil}
use Rattle.script_text.proofs.ItemByItem.{with_items}

-- an item, and then what reads the others
abbrev pub item_then : Option ℕ → Option (ℕ × List (List ℕ)) → (List (List ℕ) → Option (List Turns)) → Option (List Turns)
item_then backend count others = backend >>= λ b. count >>= λ c. option_map (λ turns. record { backend = b; count = c.0 } ∷ turns) (others c.1)

counted : (backend count : Option ℕ) (ts : List (List ℕ)) (all : List (List ℕ) → Option (List Turns)) → with_turns backend count (all ts) ≡ item_then backend (option_map (λ x. (x, ts)) count) all
counted None count ts all = refl
counted (Some b) None ts all = refl
counted (Some b) (Some c) ts all = refl

nothing : (backend : Option ℕ) (all : List (List ℕ) → Option (List Turns)) → None ≡ item_then backend None all
nothing None all = refl
nothing (Some b) all = refl

several : (n : ℕ) (b t c : List ℕ) (ts : List (List ℕ)) (times : Bool) → is_times t ≡ times → all_turns n (b ∷ t ∷ c ∷ ts) ≡ item_then (backend_of n b) (count_part (t ∷ c ∷ ts)) (all_turns n)
unfolding all_turns count_part
several n b t c ts true e = rw e (counted (backend_of n b) (count_of c) ts (all_turns n))
several n b t c ts false e = rw e refl

one_more : (n : ℕ) (b t : List ℕ) (times : Bool) → is_times t ≡ times → all_turns n (b ∷ t ∷ []) ≡ item_then (backend_of n b) (count_part (t ∷ [])) (all_turns n)
unfolding all_turns count_part
one_more n b t true e = rw e (nothing (backend_of n b) (all_turns n))
one_more n b t false e = rw e refl

pub first_turns : (n : ℕ) (b : List ℕ) (ts : List (List ℕ)) → all_turns n (b ∷ ts) ≡ item_then (backend_of n b) (count_part ts) (all_turns n)
unfolding all_turns count_part
first_turns n b [] = refl
first_turns n b (t ∷ []) = one_more n b t (is_times t) refl
first_turns n b (t ∷ c ∷ ts) = several n b t c ts (is_times t) refl

pub no_backend : (n : ℕ) (b : List ℕ) (old ts new : List (List ℕ)) → old ≡ b ∷ ts → backend_of n b ≡ None → NextTurns n old new None
no_backend n b old ts new e none = ap (all_turns n) e ∙ first_turns n b ts ∙ rw none refl

pub no_count : (n : ℕ) (b : List ℕ) (old ts new : List (List ℕ)) (backend : ℕ) → old ≡ b ∷ ts → backend_of n b ≡ Some backend → count_part ts ≡ None → NextTurns n old new None
no_count n b old ts new backend e some none = ap (all_turns n) e ∙ first_turns n b ts ∙ rw (some, none) refl

pub both : (n : ℕ) (b : List ℕ) (old ts new : List (List ℕ)) (backend count : ℕ) → old ≡ b ∷ ts → backend_of n b ≡ Some backend → count_part ts ≡ Some (count, new) → NextTurns n old new (Some (record { backend = backend; count = count }))
both n b old ts new backend count e some counted = ap (all_turns n) e ∙ first_turns n b ts ∙ rw (some, counted) refl

pub all_taken : (n : ℕ) (front : List Turns) (ts : List (List ℕ)) (whole : Option (List Turns)) → none_left ts ≡ true → with_items front (all_turns n ts) ≡ whole → Some front ≡ whole
unfolding all_turns
all_taken n front [] whole none so_far = ap Some (sym (append-nil front)) ∙ so_far
all_taken n front (t ∷ ts) whole none so_far = cc
