-- Why work ends early, by the counts of gates.
use Rattle.std.specs.Prelude.{◌≡◌, ◌≤◌, ◌⊎◌, ⊤, ℕ, List, [], ◌∷◌, Result, Ok, Err, OnOk}
use Rattle.edge_io.specs.Causes.{Rose}
use Rattle.thread_run.specs.declared.refusal.RunRefusal.{RunRefusal}
use Rattle.thread_run.specs.declared.refusal.RunRefusal.TheVariants as refusals

-- a gate's count is as it was, unless the gate stopped the work
abbrev pub StopsBy : ℕ → ℕ → Result (Unit {0}) RunRefusal → Type 0
StopsBy before now (Ok done) = now ≡ before
StopsBy before now (Err refusals.NoMemory) = now ≡ before
StopsBy before now (Err refusals.Stopped) = (before ≤ now) × Rose before now

-- as many counts, of which none fell
abbrev pub NoneFell : List ℕ → List ℕ → Type 0
NoneFell [] [] = ⊤
NoneFell (x ∷ xs) (y ∷ ys) = (x ≤ y) × NoneFell xs ys
NoneFell xs ys = ⊥

-- one of them rose
abbrev pub OneRose : List ℕ → List ℕ → Type 0
OneRose (x ∷ xs) (y ∷ ys) = Rose x y ⊎ OneRose xs ys
OneRose xs ys = ⊥

-- what the counts of all gates say of how a run ended: none fell; where it ended well none changed, and where a gate stopped it one rose
pub record StopTogether (before now : List ℕ) (result : Result (Unit {0}) RunRefusal) : Type 0 where
  pub kept : NoneFell before now
  pub steady : OnOk result (now ≡ before)
  pub cause : result ≡ Err refusals.Stopped → OneRose before now
