-- What is left of a script of which backends do no more than their first commands.
use Rattle.std.proofs.Common.{◌≡◌, ◌≤◌, ◌+◌, ◌∙◌, ◌==◌, ℕ, zero, suc, Bool, true, false, List, [], ◌∷◌, ◌++◌, cond, refl, sym, ap, subst, nat_lt, length, map, filter, take, arith}
use Rattle.std.specs.List.{AllByRecursion}
use Rattle.std.proofs.lemmas.Bool.{eqb-true, ltb-true, ltb-false}
use Rattle.std.proofs.lemmas.List.{take_all}
use Rattle.base_types.specs.Scenario.{Scenario, IsScript, IsBackend}
use Rattle.base_types.specs.declared.command.Command.{Command}
use Rattle.base_types.specs.declared.command.Placed.{Placed}
use Rattle.ddl_effect.specs.Commands.{commands_of}
use Rattle.backend_core.specs.Cuts.{cut_commands, cut, IsAlike}
use Rattle.backend_core.proofs.Cutting.Scripts.{cut_is}
use Rattle.thread_run.specs.declared.halted_at.HaltedAt.{HaltedAt}
use Rattle.thread_run.specs.Scripts.{cut_by, IsLeft}

pub backends_by : (cuts : List HaltedAt) (s : Scenario) → (cut_by cuts s).backends ≡ s.backends
backends_by [] s = refl
backends_by (at ∷ cuts) s = backends_by cuts (cut at.backend at.commands s)

-- one cut more
cut_more : (cuts : List HaltedAt) (at : HaltedAt) (s : Scenario) → cut_by (cuts ++ at ∷ []) s ≡ cut at.backend at.commands (cut_by cuts s)
cut_more [] at s = refl
cut_more (x ∷ cuts) at s = cut_more cuts at (cut x.backend x.commands s)

-- all of a script is left at first, and less after a cut
pub left_all : (whole part : Scenario) → part ≡ whole → IsLeft whole part
left_all whole part same = record { cuts = []; is = same }

pub left_less : (at : HaltedAt) (whole part less : Scenario) → IsLeft whole part → less ≡ cut at.backend at.commands part → IsLeft whole less
left_less at whole part less left is = record { cuts = left.cuts ++ at ∷ []; is = is ∙ ap (cut at.backend at.commands) left.is ∙ sym (cut_more left.cuts at whole) }

pub left_backends : (whole part : Scenario) → IsLeft whole part → part.backends ≡ whole.backends
left_backends whole part left = ap (λ s. s.backends) left.is ∙ backends_by left.cuts whole

take_fewer : {X : Type 0} (n : ℕ) (xs : List X) → length (take n xs) ≤ length xs
take_fewer {X} n [] = let empty : List X = [] in let none : length (take n empty) ≡ 0 = ap (λ (l : List X). length l) (take_all n [] (omega arith)) in omega (arith, none)
take_fewer zero (x ∷ xs) = omega arith
take_fewer (suc n) (x ∷ xs) = omega (arith, take_fewer n xs)

-- where no element is lost, none is taken away
take_same : {X : Type 0} (n : ℕ) (xs : List X) → length xs ≤ length (take n xs) → take n xs ≡ xs
take_same n [] most = take_all n [] (omega arith)
take_same zero (x ∷ xs) most = absurd (omega (arith, most))
take_same (suc n) (x ∷ xs) most = ap (λ l. x ∷ l) (take_same n xs (omega (arith, most)))

-- a cut leaves no backend more commands
fewer_cut : (b n a : ℕ) (s : Scenario) → length (commands_of (cut b n s) a) ≤ length (commands_of s a)
fewer_cut b n a s = by_test (a == b) refl
  where
    by_test : (t : Bool) → (a == b) ≡ t → length (commands_of (cut b n s) a) ≤ length (commands_of s a)
    by_test true own = subst (λ k. length (commands_of (cut b n s) k) ≤ length (commands_of s k)) (sym (eqb-true a b own)) (subst (λ l. length l ≤ length (commands_of s b)) (sym (cut_is b n s).own) (take_fewer n (commands_of s b)))
    by_test false other = omega (arith, ap length ((cut_is b n s).others a other))

fewer_by : (cuts : List HaltedAt) (s : Scenario) (a : ℕ) → length (commands_of (cut_by cuts s) a) ≤ length (commands_of s a)
fewer_by [] s a = omega arith
fewer_by (at ∷ cuts) s a = omega (arith, fewer_by cuts (cut at.backend at.commands s) a, fewer_cut at.backend at.commands a s)

-- a backend that loses no command by a cut has the same ones
same_cut : (b n a : ℕ) (s : Scenario) → length (commands_of s a) ≤ length (commands_of (cut b n s) a) → commands_of (cut b n s) a ≡ commands_of s a
same_cut b n a s most = by_test (a == b) refl
  where
    own_same : length (commands_of s b) ≤ length (commands_of (cut b n s) b) → commands_of (cut b n s) b ≡ commands_of s b
    own_same all = (cut_is b n s).own ∙ take_same n (commands_of s b) (subst (λ l. length (commands_of s b) ≤ length l) (cut_is b n s).own all)

    by_test : (t : Bool) → (a == b) ≡ t → commands_of (cut b n s) a ≡ commands_of s a
    by_test true own = let same : a ≡ b = eqb-true a b own in
        subst (λ k. commands_of (cut b n s) k ≡ commands_of s k) (sym same) (own_same (subst (λ k. length (commands_of s k) ≤ length (commands_of (cut b n s) k)) same most))
    by_test false other = (cut_is b n s).others a other

same_by : (cuts : List HaltedAt) (s : Scenario) (a : ℕ) → length (commands_of s a) ≤ length (commands_of (cut_by cuts s) a) → commands_of (cut_by cuts s) a ≡ commands_of s a
same_by [] s a most = refl
same_by (at ∷ cuts) s a most =
    let less : Scenario = cut at.backend at.commands s in
    let here : commands_of less a ≡ commands_of s a = same_cut at.backend at.commands a s (omega (arith, most, fewer_by cuts less a)) in
    same_by cuts less a (omega (arith, most, ap length here)) ∙ here

-- a script that has all commands of a backend says of it what the whole one says
pub left_alike : (whole part : Scenario) (b : ℕ) → IsLeft whole part → length (commands_of whole b) ≤ length (commands_of part b) → IsAlike b whole part
left_alike whole part b left most = record {
  backends = left_backends whole part left;
  commands = ap (λ s. commands_of s b) left.is ∙ same_by left.cuts whole b (omega (arith, most, ap (λ s. length (commands_of s b)) left.is));
}

-- the commands of a backend among placed ones
abbrev said_of : ℕ → List Placed → List Command
said_of b placed = map (λ p. p.command) (filter (λ p. p.backend == b) placed)

-- how many they are, with one more in front
said_own : (b : ℕ) (p : Placed) (rest : List Placed) → (p.backend == b) ≡ true → length (said_of b (p ∷ rest)) ≡ length (said_of b rest) + 1
said_own b p rest own = ap (λ t. length (map (λ q. q.command) (cond t (p ∷ filter (λ q. q.backend == b) rest) (filter (λ q. q.backend == b) rest)))) own ∙ omega arith

said_other : (b : ℕ) (p : Placed) (rest : List Placed) → (p.backend == b) ≡ false → length (said_of b (p ∷ rest)) ≡ length (said_of b rest)
said_other b p rest other = ap (λ t. length (map (λ q. q.command) (cond t (p ∷ filter (λ q. q.backend == b) rest) (filter (λ q. q.backend == b) rest)))) other

-- where a backend has no more commands than that, none is taken away
none_cut : (b n : ℕ) (placed : List Placed) → length (said_of b placed) ≤ n → cut_commands b n placed ≡ placed
none_cut b n [] few = refl
none_cut b zero (p ∷ rest) few = by_test (p.backend == b) refl (none_cut b zero rest)
  where
    by_test : (t : Bool) → (p.backend == b) ≡ t → (length (said_of b rest) ≤ 0 → cut_commands b zero rest ≡ rest) → cond t (cut_commands b zero rest) (p ∷ cut_commands b zero rest) ≡ p ∷ rest
    by_test true own later = absurd (omega (arith, few, said_own b p rest own))
    by_test false other later = ap (λ l. p ∷ l) (later (omega (arith, few, said_other b p rest other)))
none_cut b (suc n) (p ∷ rest) few = ap (λ l. p ∷ l) (by_test (p.backend == b) refl (none_cut b n rest) (none_cut b (suc n) rest))
  where
    by_test : (t : Bool) → (p.backend == b) ≡ t → (length (said_of b rest) ≤ n → cut_commands b n rest ≡ rest) → (length (said_of b rest) ≤ suc n → cut_commands b (suc n) rest ≡ rest) → cond t (cut_commands b n rest) (cut_commands b (suc n) rest) ≡ rest
    by_test true own fewer later = fewer (omega (arith, few, said_own b p rest own))
    by_test false other fewer later = later (omega (arith, few, said_other b p rest other))

-- a number that is no backend's has no command
none_said : (backends b : ℕ) (placed : List Placed) → AllByRecursion (λ p. IsBackend backends p.backend) placed → (IsBackend backends b → ⊥) → length (said_of b placed) ≡ 0
none_said backends b [] all none = refl
none_said backends b (p ∷ rest) all none = by_test (p.backend == b) refl (none_said backends b rest all.1 none)
  where
    by_test : (t : Bool) → (p.backend == b) ≡ t → length (said_of b rest) ≡ 0 → length (said_of b (p ∷ rest)) ≡ 0
    by_test true own later = absurd (none (subst (IsBackend backends) (eqb-true p.backend b own) all.0))
    by_test false other later = said_other b p rest other ∙ later

pub take_most : {X : Type 0} (n : ℕ) (xs : List X) → length (take n xs) ≤ n
take_most {X} n [] = let empty : List X = [] in let none : length (take n empty) ≡ 0 = ap (λ (l : List X). length l) (take_all n [] (omega arith)) in omega (arith, none)
take_most zero (x ∷ xs) = omega arith
take_most (suc n) (x ∷ xs) = omega (arith, take_most n xs)

-- a cut after all commands of a backend takes nothing away
same_script : (b n : ℕ) (s : Scenario) → AllByRecursion (λ p. IsBackend s.backends p.backend) s.commands → (IsBackend s.backends b → length (commands_of s b) ≤ length (commands_of (cut b n s) b)) → cut b n s ≡ s
same_script b n s placed most = ap (λ l. record s { commands = l }) (none_cut b n s.commands (by_test (nat_lt b 1) (nat_lt s.backends b) refl refl))
  where
    by_test : (t u : Bool) → nat_lt b 1 ≡ t → nat_lt s.backends b ≡ u → length (said_of b s.commands) ≤ n
    by_test true u low high = omega (arith, none_said s.backends b s.commands placed (λ is. omega (arith, ltb-true b 1 low, is.0)))
    by_test false true low high = omega (arith, none_said s.backends b s.commands placed (λ is. omega (arith, ltb-true s.backends b high, is.1)))
    by_test false false low high =
        let is : IsBackend s.backends b = (omega (arith, ltb-false b 1 low), omega (arith, ltb-false s.backends b high)) in
        omega (arith, most is, ap length (cut_is b n s).own, take_most n (commands_of s b))

nothing_cut : (cuts : List HaltedAt) (s : Scenario) → AllByRecursion (λ p. IsBackend s.backends p.backend) s.commands → ((b : ℕ) → IsBackend s.backends b → length (commands_of s b) ≤ length (commands_of (cut_by cuts s) b)) → cut_by cuts s ≡ s
nothing_cut [] s placed most = refl
nothing_cut (at ∷ cuts) s placed most =
    let less : Scenario = cut at.backend at.commands s in
    let same : less ≡ s = same_script at.backend at.commands s placed (λ is. omega (arith, most at.backend is, fewer_by cuts less at.backend)) in
    ap (cut_by cuts) same ∙ nothing_cut cuts s placed (λ b is. omega (arith, most b is, ap (λ x. length (commands_of (cut_by cuts x) b)) same))

-- where each backend has all its commands, the whole script is left
pub left_whole : (whole part : Scenario) → IsScript whole → IsLeft whole part → ((b : ℕ) → IsBackend whole.backends b → length (commands_of whole b) ≤ length (commands_of part b)) → part ≡ whole
left_whole whole part script left most = left.is ∙ nothing_cut left.cuts whole script.placed (λ b is. omega (arith, most b is, ap (λ s. length (commands_of s b)) left.is))

-- it has the same backends
pub left_backend : (whole part : Scenario) (b : ℕ) → IsLeft whole part → IsBackend whole.backends b → IsBackend part.backends b
left_backend whole part b left is = subst (λ n. IsBackend n b) (sym (left_backends whole part left)) is
