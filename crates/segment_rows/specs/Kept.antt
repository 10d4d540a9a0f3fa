-- What is kept of a segment: its rows, and the numbers that writes draw.
use Rattle.std.specs.Prelude.{◌≡◌, ◌≤◌, ◌<◌, ◌^◌, ◌-◌, ℕ, true, Option, Some, None, length}
use Rattle.std.specs.List.{AllByRecursion}
use Rattle.catalog_rows.specs.Store.{Store, has_committed}
use Rattle.history_model.specs.Segment.{Standing, Segment, runs_at}
use Rattle.history_model.proofs.Touched.{OfStamps}
use Rattle.segment_rows.specs.Types.{Xid, Reader, Stamp, Version, RunningTransaction}

-- what clauses see: the rows, the next oid and the last Xid
pub record RowsHeld : Type 0 where
  pub store : Store
  pub next_oid : ℕ
  pub last_xid : ℕ

-- the Xid of a transaction, if it has one
abbrev pub xid_in : Option RunningTransaction → Option Xid
xid_in None = None
xid_in (Some t) = t.xid

-- a backend with this Xid as a reader of rows: it sees all that its transaction wrote
abbrev pub reader_of : Option Xid → Reader
reader_of own = record { xid = own; command = 4294967295 }

abbrev pub reader_at : Standing → Reader
reader_at own = reader_of (xid_in own.running)

-- a stamp has a drawn Xid, and a command that has a successor
pub record IsDrawn (last : ℕ) (stamp : Stamp) : Type 0 where
  pub xid : stamp.xid.0 ≤ last
  pub command : stamp.command < 2 ^ 32 - 1

-- so have both stamps of a version
abbrev pub AreDrawn : ℕ → Version → Type 0
AreDrawn last v = OfStamps (λ stamp row. IsDrawn last stamp) v

-- the rows that are kept are a segment's
pub record KeepsRows (s : Segment) (rows : RowsHeld) : Type 0 where
  pub versions : rows.store.versions ≡ s.versions
  pub committed : (x : ℕ) → has_committed rows.store.committed x ≡ s.committed x
  pub places : (b x : ℕ) → runs_at s b x ≡ true → x < length rows.store.committed
  pub drawn : AllByRecursion (AreDrawn s.last_xid) s.versions
  pub next_oid_is : rows.next_oid ≡ s.next_oid
  pub last_xid_is : rows.last_xid ≡ s.last_xid
