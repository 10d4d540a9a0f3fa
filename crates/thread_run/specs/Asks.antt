-- What a gate is asked for its backend: before each of its commands, and after the last one, with the number of that command.
use Rattle.std.specs.Prelude.{◌≡◌, ◌+◌, ℕ, zero, suc, List, [], ◌∷◌, ◌++◌, length, Result, Ok, Err}
use Rattle.base_types.specs.Scenario.{Scenario}
use Rattle.ddl_effect.specs.Commands.{commands_of}
use Rattle.edge_io.specs.declared.gates.Asked.{Asked}

-- whether this backend goes on to its command of this number
abbrev pub ask_of : ℕ → ℕ → Asked
ask_of b command = record { backend = b; command = command }

-- for so many commands after the first so many, in order
abbrev pub asks_after : ℕ → ℕ → ℕ → List Asked
asks_after b first zero = []
asks_after b first (suc n) = asks_after b first n ++ ask_of b (first + suc n) ∷ []

-- it was asked for each command after the first so many, up to this one, in order, and for nothing else
pub record AsksTo (b first upto : ℕ) (old new : List Asked) : Type 0 where
  pub count : ℕ
  pub upto_is : upto ≡ first + count
  pub asked : new ≡ old ++ asks_after b first count

-- the same, up to some command
pub record AsksSome (b first : ℕ) (old new : List Asked) : Type 0 where
  pub upto : ℕ
  pub asks : AsksTo b first upto old new

-- its gate stopped a backend before its command after so many: it was asked for each command after the first so many, up to that one, and stopped at the last question alone, after which it was asked nothing
pub record StopsBefore {G : Type 0} (stops : G → ℕ) (asked : G → List Asked) (b first finished : ℕ) (old new : G) : Type 0 where
  pub last : G
  pub asks : AsksTo b first finished (asked old) (asked last)
  pub steady : stops last ≡ stops old
  pub is : asked new ≡ asked last ++ ask_of b (finished + 1) ∷ []

-- by how its work ended: a gate was asked for each of so many commands, in order, and after the last one; where the work ended early, up to some of them
abbrev pub AsksBy : {T E : Type 0} → Result T E → ℕ → ℕ → List Asked → List Asked → Type 0
AsksBy (Ok done) b commands old new = AsksTo b 0 (commands + 1) old new
AsksBy (Err refusal) b commands old new = AsksSome b 0 old new

-- of the gates of backends with these numbers, in order, each was asked so for its own alone, and those after them nothing
abbrev pub AskedEach : {T E : Type 0} → Result T E → Scenario → List ℕ → List (List Asked) → List (List Asked) → Type 0
AskedEach result script [] xs ys = ys ≡ xs
AskedEach result script (n ∷ ns) (x ∷ xs) (y ∷ ys) = AsksBy result n (length (commands_of script n)) x y × AskedEach result script ns xs ys
AskedEach result script ns xs ys = ⊥
