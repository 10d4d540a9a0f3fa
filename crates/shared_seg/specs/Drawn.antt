-- The Xid of a write.
use Rattle.std.specs.Prelude.{ℕ, Option, Some, None, ◌+◌}
use Rattle.base_types.specs.declared.ids.Xid.{Xid}

-- the transaction's own, or else the next one after the last
abbrev pub xid_drawn : Option Xid → ℕ → Xid
xid_drawn None last = record { 0 = last + 1 }
xid_drawn (Some xid) last = xid
