-- For how many of its commands the gate of a backend was asked, by where the backend is.
use Rattle.std.specs.Prelude.{◌≡◌, ◌+◌, ℕ, Bool, true, false, cond}
use Rattle.backend_core.specs.declared.backend.Backend.{Backend}
use Rattle.backend_core.specs.Words.{has_joined, has_left}

-- for how many of its commands the gate of a backend was asked: for those that it has finished, and, unless it is at its next command, for that which it is in
abbrev pub asked_before : Bool → Backend → ℕ
asked_before true s = s.progress.finished
asked_before false s = s.progress.finished + 1

-- a turn leaves a backend at the command after that which it was in, for which the gate is to be asked, or in the same one; one that joins is at its first, of which no gate was asked before; one that has left is at none
pub record GoesAsked (b : ℕ) (over : Bool) (was now : Backend) : Type 0 where
  pub id : now.progress.id ≡ b
  pub number : has_joined was.life ≡ true → asked_before over now ≡ was.progress.finished + 1
  pub first : has_joined was.life ≡ false → asked_before over now ≡ 0
  pub stays : over ≡ true → has_left now.life ≡ false

-- for how many of its commands the gate of a backend was asked between two of its turns: for none before it joins, then for those that it has finished and that which it is in
abbrev pub asked_so_far : Backend → ℕ
asked_so_far s = cond (has_joined s.life) (s.progress.finished + 1) 0
