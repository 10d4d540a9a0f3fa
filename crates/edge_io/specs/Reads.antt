-- What reading to the end gives.
use Rattle.std.specs.Prelude.{◌≡◌, ℕ, ◌+◌, ◌≤◌, List, length, Option, Result, Err}
use Rattle.std.specs.Io.KnownBytes.{Consumes, IsAtEnd}
use Rattle.edge_io.specs.Causes.{Rose}
use Rattle.edge_io.specs.declared.reading.TheConstants.{PIECE}
use Rattle.edge_io.specs.declared.reading.ReadRefusal.{ReadRefusal}
use Rattle.edge_io.specs.declared.reading.ReadRefusal.TheVariants as refusal

-- a text was read to the source's end, or until it had more bytes than a limit
pub record ReadsAll (old new : Option (List ℕ)) (limit : ℕ) (text : List ℕ) : Type 0 where
  pub consumed : Consumes old new text
  pub ended : length text ≤ limit → IsAtEnd new
  pub short : length text ≤ limit + PIECE

-- the count never falls; `Failed` comes only where it rose, and after any other answer it is as it was
pub record ReadHasCause {T : Type 0} (before now : ℕ) (result : Result T ReadRefusal) : Type 0 where
  pub later : before ≤ now
  pub failed : result ≡ Err refusal.Failed → Rose before now
  pub steady : (result ≡ Err refusal.Failed → ⊥) → now ≡ before
