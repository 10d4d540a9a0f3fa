-- The transaction that a backend runs, if it runs one.
use Rattle.std.specs.Prelude.{ℕ, Bool, false, Option, Some, None, ◌==◌, if◌then◌else◌, unwrap_or}
use Rattle.std.specs.Option.{option_map_or}
use Rattle.txn_blocks.specs.Types.{RunningTransaction}

-- the transaction of an entry: the running one, or else one that begins with this command
abbrev pub begun_own : ℕ → Option RunningTransaction → RunningTransaction
begun_own number own = unwrap_or own (record { first = number; xid = None; published = 0; visible = false })

-- the transaction after a release, if it goes on
abbrev pub released_own : ℕ → RunningTransaction → Option RunningTransaction
released_own from own = if own.first == from then None else Some own

-- a release ends the transaction
abbrev pub ends_own : ℕ → Option RunningTransaction → Bool
ends_own from own = option_map_or (λ t. t.first == from) own false
