-- How a lock table keeps its grants.
use Rattle.std.specs.Prelude.{ℕ, List, ◌≡◌, ◌≤◌, ◌<◌, ◌==◌, ◌++◌, filter, length, slice_index_or}
use Rattle.lock_modes.specs.Types.{Grant}
use Rattle.lock_modes.specs.Excluding.{DoExclude}
use Rattle.lock_modes.specs.GrantLists.{grants_at, room_at}
use Rattle.lock_modes.specs.declared.grant_lists.GrantLists.{GrantLists}

-- for each relation and each backend the grants of it, in order
pub record Holds (by_rel by_backend : GrantLists) (held : List Grant) : Type 0 where
  pub rels : (rel : ℕ) → grants_at by_rel rel ≡ filter (λ g. g.rel.0 == rel) held
  pub backends : (b : ℕ) → grants_at by_backend b ≡ filter (λ g. g.backend == b) held

-- room for so many grants at the relation and the backend of each of the first grants
pub record HasRoom (by_rel by_backend : GrantLists) (grants : List Grant) (first count : ℕ) : Type 0 where
  pub rels : (i : ℕ) (g : Grant) → i < first → g ≡ slice_index_or grants i g → count ≤ room_at by_rel g.rel.0
  pub backends : (i : ℕ) (g : Grant) → i < first → g ≡ slice_index_or grants i g → count ≤ room_at by_backend g.backend

-- so are all grants kept, with room for those that are prepared; they exclude each other
pub record Keeps (by_rel by_backend : GrantLists) (prepared held : List Grant) : Type 0 where
  pub holds : Holds by_rel by_backend held
  pub room : HasRoom by_rel by_backend prepared (length prepared) (length prepared)
  pub exclude : DoExclude (held ++ prepared)
