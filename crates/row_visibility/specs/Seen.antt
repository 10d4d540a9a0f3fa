-- Which versions of rows are seen (`HeapTupleSatisfiesMVCC`, heapam_visibility.c).
use Rattle.std.specs.Prelude.{ℕ, Bool, true, false, not, Option, ◌||◌, ◌&&◌, ◌==◌, nat_lt}
use Rattle.std.specs.Option.{option_map_or}
use Rattle.row_visibility.specs.Types.{Xid, Stamp, Version, Reader, StampState, Running, Committed}

-- the transaction is committed
abbrev pub is_committed : StampState → Bool
is_committed Running = false
is_committed Committed = true

-- the reader's own transaction did it
abbrev pub is_own : Option Xid → Stamp → Bool
is_own own stamp = option_map_or (λ xid. xid.0 == stamp.xid.0) own false

-- what a committed transaction did is seen, and what the reader's own did in earlier commands
abbrev pub sees_stamp : (ℕ → Bool) → Reader → Stamp → Bool
sees_stamp committed reader stamp = committed stamp.xid.0 || (is_own reader.xid stamp && nat_lt stamp.command reader.command)

-- a version is seen where its writer is seen and its ender isn't
abbrev pub seen_by : (Stamp → Bool) → Version → Bool
seen_by sees version = sees version.by && not (option_map_or sees version.ended false)

-- the reader sees the version
abbrev pub sees_version : (ℕ → Bool) → Reader → Version → Bool
sees_version committed reader version = seen_by (sees_stamp committed reader) version
