-- Texts that a line may be made of.
use Rattle.std.proofs.Common.{◌≡◌, ◌≤◌, ℕ, Bool, true, ◌&&◌, not, List, length}
use Rattle.std.specs.Prelude.{nat_le}
use Rattle.std.specs.List.{AllByRecursion}

-- a printable byte that is no capital
abbrev pub is_clean : ℕ → Bool
is_clean byte = nat_le 32 byte && nat_le byte 126 && not (nat_le 65 byte && nat_le byte 90)

-- a text of such bytes
abbrev pub IsClean : List ℕ → Type 0
IsClean text = AllByRecursion (λ b. is_clean b ≡ true) text

-- a text of such bytes, one or more
abbrev pub IsPiece : List ℕ → Type 0
IsPiece piece = (1 ≤ length piece) × AllByRecursion (λ b. is_clean b ≡ true) piece
