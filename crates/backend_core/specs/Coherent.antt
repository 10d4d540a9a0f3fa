-- When what a backend has at hand is coherent with a history: what it has cached, and while it runs its open relations, their rebuilds and its locks.
use Rattle.std.specs.Prelude.{◌≡◌, ◌==◌, ℕ, true, false, Some, IfSome, List, [], take, map, filter}
use Rattle.history_model.specs.Versions.{answer_of}
use Rattle.history_model.specs.Read.{read_at, is_usable}
use Rattle.history_model.specs.Coming.{IsAccounted}
use Rattle.history_model.specs.Held.{held_of}
use Rattle.cacheless.specs.Facts.{facts_of}
use Rattle.cacheless.specs.Locks.{grant_of}
use Rattle.cacheless.specs.Session.{Session}
use Rattle.cacheless.specs.Sessions.{session_of}
use Rattle.cacheless.specs.State.{kept_at, is_kept}
use Rattle.cacheless.specs.Suspects.{lacks}
use Rattle.backend_core.specs.Types.{Scenario, Entry, Purpose, Read, Opening, Backend}
use Rattle.backend_core.specs.declared.life.Life.TheVariants as lives
use Rattle.backend_core.specs.Fits.{keeps_whole}
use Rattle.backend_core.specs.Frames.{IsAmong, IsStack}

-- what is kept of a scan: it stands at the backend's last such scan, and is what that gave; and a message that covers it is on its way, or it is the answer at each place since
pub record IsCoherentScan (seen : List Entry) (b : ℕ) (scan : Purpose) (read : Read) : Type 0 where
  pub at : read_at seen b scan ≡ Some read.at
  pub right : answer_of (take read.at seen) b scan ≡ read.rows
  pub accounted : IsAccounted seen b scan read.at read.rows

-- what is kept of scans is just what is usable: so a descriptor is whole just where all its scans are usable
pub record KeepsUsable (seen : List Entry) (s : Backend) : Type 0 where
  pub scans : (scan : Purpose) → is_kept (kept_at s.progress) scan ≡ is_usable seen s.progress.id scan
  pub descriptors : (o : Opening) → lacks (is_kept (kept_at s.progress)) o ≡ lacks (is_usable seen s.progress.id) o

-- the relations that are open, and the descriptors in use, are those of the session
pub record UsesSame (session : Session) (s : Backend) : Type 0 where
  pub opens : s.progress.opens ≡ session.opens
  pub opened : s.progress.opened ≡ session.opened

-- the locks are those of the session, each clear just where it is clear there, and are the backend's grants among all that are held
pub record HoldsLocks (seen : List Entry) (session : Session) (s : Backend) : Type 0 where
  pub locks : s.progress.locks.items ≡ session.locks
  pub grants : filter (λ g. g.backend == s.progress.id) (held_of seen) ≡ map (grant_of s.progress.id) s.progress.locks.items

-- the rebuilds: as long as what is in use is kept whole, what lacks a scan is being rebuilt, or a reset goes on that will find it, and nothing else is; so all is whole where nothing is rebuilt. Otherwise nothing is
pub record RebuildsAll (seen : List Entry) (session : Session) (s : Backend) : Type 0 where
  pub stack : keeps_whole (facts_of seen s.progress.id) session ≡ true → IsStack (is_usable seen s.progress.id) session.opened s.frames
  pub whole : keeps_whole (facts_of seen s.progress.id) session ≡ true → s.frames ≡ [] → (o : Opening) → IsAmong session.opened o → lacks (is_usable seen s.progress.id) o ≡ false
  pub over : keeps_whole (facts_of seen s.progress.id) session ≡ false → s.frames ≡ []

-- what a backend that has joined and hasn't left has at hand is that of its session
pub record IsCoherentSession (scenario : Scenario) (seen : List Entry) (s : Backend) : Type 0 where
  pub session : Session
  pub is : session_of scenario seen s.progress.id ≡ Some session
  pub keeps : KeepsUsable seen s
  pub uses : UsesSame session s
  pub holds : HoldsLocks seen session s
  pub rebuilds : RebuildsAll seen session s

-- a backend is coherent with a history: all that it keeps of scans is, whether it has joined or has left, and between these all that it has at hand
pub record IsCoherent (scenario : Scenario) (seen : List Entry) (s : Backend) : Type 0 where
  pub scans : (scan : Purpose) → IfSome (kept_at s.progress scan) (IsCoherentScan seen s.progress.id scan)
  pub running : s.life ≡ lives.Alive → IsCoherentSession scenario seen s
