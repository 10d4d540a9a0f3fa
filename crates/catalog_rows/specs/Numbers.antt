-- Ascending numbers of versions.
use Rattle.std.specs.Prelude.{ℕ, Bool, not, List, [], ◌∷◌, ◌++◌, ◌<◌, ◌==◌, filter, if◌then◌else◌}
use Rattle.std.specs.List.{AllByRecursion}

-- each number is above the one before it
abbrev pub IsAscending : List ℕ → Type 0
IsAscending [] = Unit {0}
IsAscending (n ∷ numbers) = AllByRecursion (λ m. n < m) numbers × IsAscending numbers

-- a list with a number added at its end, if a test says so
abbrev pub added : Bool → ℕ → List ℕ → List ℕ
added here number numbers = numbers ++ (if here then number ∷ [] else [])

-- a list without a number, if a test says so
abbrev pub removed : Bool → ℕ → List ℕ → List ℕ
removed here number numbers = if here then filter (λ n. not (n == number)) numbers else numbers
