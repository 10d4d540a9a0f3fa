-- Where commands are judged.
use Rattle.std.specs.Prelude.{◌≤◌, ℕ, All}
use Rattle.cacheless.specs.Session.{Session}

-- the places of a session are among so many entries
pub record ArePlaced (entries : ℕ) (s : Session) : Type 0 where
  pub finished : All (λ f. f.judged ≤ entries) s.finished
  pub judged : s.judged ≤ entries
  pub last : s.last ≤ entries
