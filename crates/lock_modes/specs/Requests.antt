-- What a request for a lock does.
use Rattle.std.specs.Prelude.{ℕ, true, false, Some, None, Result, Ok, Err, List, [], ◌∷◌, ◌++◌, ◌≡◌}
use Rattle.std.specs.Option.{option_map}
use Rattle.lock_modes.specs.Types.{Mode, Grant, Granted, New, Held, LockRefusal, Conflict, NoMemory}
use Rattle.lock_modes.specs.Grants.{holds, first_conflict}

-- the lock is granted: it wasn't held, and nobody is in its way
pub record Grants (old new : List Grant) (g : Grant) : Type 0 where
  pub unheld : holds old g.backend g.rel g.mode ≡ false
  pub free : first_conflict old g.backend g.rel g.mode ≡ None
  pub more : new ≡ old ++ g ∷ []

-- it was held already
pub record WasHeld (old new : List Grant) (g : Grant) : Type 0 where
  pub held : holds old g.backend g.rel g.mode ≡ true
  pub same : new ≡ old

-- it wasn't held, and this is the first holder in its way
pub record IsRefused (old new : List Grant) (g : Grant) (holder : ℕ) (mode : Mode) : Type 0 where
  pub unheld : holds old g.backend g.rel g.mode ≡ false
  pub first : option_map {U = ℕ × Mode} (λ other. (other.backend, other.mode)) (first_conflict old g.backend g.rel g.mode) ≡ Some (holder, mode)
  pub same : new ≡ old

-- it wasn't held, and nobody is in its way, but there is no memory
pub record RunsOut (old new : List Grant) (g : Grant) : Type 0 where
  pub unheld : holds old g.backend g.rel g.mode ≡ false
  pub free : first_conflict old g.backend g.rel g.mode ≡ None
  pub same : new ≡ old

-- what is held before and after a request for a lock
abbrev pub Requests : List Grant → List Grant → Grant → Result Granted LockRefusal → Type 0
Requests old new g (Ok New) = Grants old new g
Requests old new g (Ok Held) = WasHeld old new g
Requests old new g (Err (Conflict holder mode)) = IsRefused old new g holder mode
Requests old new g (Err NoMemory) = RunsOut old new g
