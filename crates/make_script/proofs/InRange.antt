-- A made script keeps the ranges and limits of scripts.
use Rattle.std.proofs.Common.{◌≡◌, ◌<◌, ◌≤◌, ◌+◌, ◌-◌, ◌++◌, ◌∙◌, ℕ, zero, suc, List, [], ◌∷◌, length, replicate, refl, ap, sym, subst, arith}
use Rattle.std.specs.List.{AllByRecursion}
use Rattle.std.proofs.lemmas.List.{append_assoc, append-nil}
use Rattle.std.proofs.lemmas.List.Elements.{All-replicate, recursion_from_All}
use Rattle.std.proofs.lemmas.List.Folds.{sum_by-replicate}
use Rattle.base_types.specs.Commands.{IsCommand}
use Rattle.base_types.specs.Scenario.{IsScript, IsBackend, AreTurns, step_count}
use Rattle.base_types.specs.declared.command.Placed.{Placed}
use Rattle.base_types.specs.declared.command.Turns.{Turns}
use Rattle.make_script.specs.Draws.{drawn, next}
use Rattle.make_script.specs.Scripts.{command_of, draw_after, placed_of, last_of, commands_after, step_line, made_script}
use Rattle.make_script.proofs.Digits.{below_ten, table_named, index_named, column_named}

-- what is drawn is below the bound
pub drawn_below : (k x : ℕ) → 0 < k → drawn k x < k
unfolding drawn
drawn_below k x some = omega arith

-- ---- one command

spelled : (kind table x : ℕ) → kind < 10 → table < 10 → IsCommand (command_of kind table x)
spelled kind table x few names =
    let t = table_named table names in
    let column = column_named (drawn 5 x) (let small : drawn 5 x < 5 = drawn_below 5 x (omega arith) in omega arith) in
    let target : drawn 100 x < 1000000000 = let small : drawn 100 x < 100 = drawn_below 100 x (omega arith) in omega arith in
    let fill : 10 + drawn 91 x < 1000000000 = let small : drawn 91 x < 91 = drawn_below 91 x (omega arith) in omega arith in
    below_ten (λ k. IsCommand (command_of k table x)) (t, (refl, (refl, tt))) t (t, column) (t, refl, target) (t, fill) (index_named table names, t, tt, (refl, tt)) (t, refl, column) t t t kind few

placed_spelled : (x : ℕ) → IsCommand (placed_of (draw_after x)).command
unfolding draw_after
placed_spelled x =
    let kind : drawn 10 (next (next x)) < 10 = drawn_below 10 (next (next x)) (omega arith) in
    let table : drawn 8 (next (next (next x))) < 8 = drawn_below 8 (next (next (next x))) (omega arith) in
    spelled (drawn 10 (next (next x))) (drawn 8 (next (next (next x)))) (next (next (next (next x)))) kind (omega arith)

placed_backend : (x : ℕ) → IsBackend 4 (placed_of (draw_after x)).backend
unfolding draw_after
placed_backend x = let small : drawn 4 (next x) < 4 = drawn_below 4 (next x) (omega arith) in (omega arith, omega arith)

-- ---- all commands

all_spelled : (n x : ℕ) → AllByRecursion (λ p. IsCommand p.command) (commands_after n x)
unfolding commands_after
all_spelled zero x = tt
all_spelled (suc n) x = (placed_spelled x, all_spelled n (last_of (draw_after x)))

all_placed : (n x : ℕ) → AllByRecursion (λ p. IsBackend 4 p.backend) (commands_after n x)
unfolding commands_after
all_placed zero x = tt
all_placed (suc n) x = (placed_backend x, all_placed n (last_of (draw_after x)))

counted : (n x : ℕ) → length (commands_after n x) ≡ n
unfolding commands_after
counted zero x = refl
counted (suc n) x = ap suc (counted n (last_of (draw_after x)))

-- ---- the script

pub in_range : (number : ℕ) → IsScript (made_script number)
unfolding made_script
in_range number = record {
  size = record { power = 6; is = refl; least = omega arith; most = omega arith };
  from = omega arith;
  backends = (omega arith, omega arith);
  commands = rw (counted 1000 number) (omega arith);
  placed = all_placed 1000 number;
  spelled = all_spelled 1000 number;
  turns = recursion_from_All (λ line. (1 ≤ length line) × AllByRecursion (AreTurns 4) line) (replicate 4000 step_line)
      (All-replicate (λ line. (1 ≤ length line) × AllByRecursion (AreTurns 4) line) 4000 step_line (omega arith, (((omega arith, omega arith), omega arith), (((omega arith, omega arith), omega arith), (((omega arith, omega arith), omega arith), (((omega arith, omega arith), omega arith), tt))))));
  steps = rw (sum_by-replicate step_count 4000 step_line) (omega arith);
}

-- ---- as a loop makes them

next_command : (n x : ℕ) → 0 < n → commands_after n x ≡ placed_of (draw_after x) ∷ commands_after (n - 1) (last_of (draw_after x))
unfolding commands_after
next_command zero x some = absurd (omega (arith, some))
next_command (suc n) x some = let less : suc n - 1 ≡ n = omega arith in rw less refl

-- one more command is one that was left
pub one_more : (n i x y : ℕ) (made whole : List Placed) (placed : Placed) → i < n → placed ≡ placed_of (draw_after x) → y ≡ last_of (draw_after x) → made ++ commands_after (n - i) x ≡ whole
    → (made ++ placed ∷ []) ++ commands_after (n - (i + 1)) y ≡ whole
one_more n i x y made whole placed more is moved so_far =
    let some : 0 < n - i = omega arith in
    let less : n - (i + 1) ≡ n - i - 1 = omega arith in
    append_assoc made (placed ∷ []) (commands_after (n - (i + 1)) y)
    ∙ rw (is, moved, less) (ap (λ (l : List Placed). made ++ l) (sym (next_command (n - i) x some)) ∙ so_far)

-- none is left in the end
pub all_made : (n i x : ℕ) (made whole : List Placed) → n ≤ i → made ++ commands_after (n - i) x ≡ whole → made ≡ whole
unfolding commands_after
all_made n i x made whole done so_far =
    let none : n - i ≡ 0 = omega arith in
    sym (append-nil made) ∙ subst (λ k. made ++ commands_after k x ≡ whole) none so_far

-- ---- as it is put together

pub made_of : (number : ℕ) (commands : List Placed) (steps : List (List Turns)) → commands ≡ commands_after 1000 number → steps ≡ replicate 4000 step_line
    → IsScript (record { size = 64; from = 0; backends = 4; commands = commands; steps = steps })
unfolding made_script
made_of number commands steps are lines = rw (are, lines) (in_range number)
