-- What is kept, and what is pinned, where messages are executed one by one.
use Rattle.std.proofs.Common.{◌≡◌, List}
use Rattle.local_caches.specs.Types.{Message}
use Rattle.local_caches.specs.Kept.{kept_spared}
use Rattle.local_caches.specs.Caches.{kept_of, KeepsPins}
use Rattle.local_caches.specs.declared.local_caches.LocalCaches.{LocalCaches}

-- these messages are executed
pub record HasExecuted (old new : LocalCaches) (messages : List Message) : Type 0 where
  pub kept : kept_of new ≡ kept_spared messages (kept_of old)
  pub pins : KeepsPins old new
