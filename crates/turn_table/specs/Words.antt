-- The words of the seats, from seat 1 on. A word is raised where it isn't 0.
use Rattle.std.specs.Prelude.{◌≡◌, ℕ, ◌-◌, ◌<◌, ◌≤◌, List, length, slice_index_or, slice_set, Bool, true, false}

-- a word that is raised, or lowered
abbrev pub bit : Bool → ℕ
bit true = 1
bit false = 0

-- the word of a seat
abbrev pub word_of : List ℕ → ℕ → ℕ
word_of words seat = slice_index_or words (seat - 1) 0

-- the words with that of a seat set to n
abbrev pub set_word : List ℕ → ℕ → ℕ → List ℕ
set_word words seat n = slice_set words (seat - 1) n

-- a word is raised exactly where something waits for its seat at this history
abbrev pub TellExactly : {E : Type 0} → (List E → ℕ → Bool) → List E → List ℕ → Type 0
TellExactly waiting history words = (seat : ℕ) → 0 < seat → seat ≤ length words → word_of words seat ≡ bit (waiting history seat)
