-- What the laws need of each entry; that the histories which the commands make have it is shown beside them.
use Rattle.std.proofs.Common.{◌≡◌, ◌⊎◌, ℕ, Bool, true, false, None, List, []}
use Rattle.std.specs.Prelude.{⊤}
use Rattle.std.specs.List.{AllByRecursion}
use Rattle.std.specs.Option.{IfSome}
use Rattle.base_types.specs.declared.row.Row.{Row}
use Rattle.base_types.specs.declared.scan.Purpose.{Purpose}
use Rattle.base_types.specs.declared.row.Row.TheVariants as rows
use Rattle.base_types.specs.declared.scan.Purpose.TheVariants as scans
use Rattle.base_types.specs.Scans.{same_oid, selects}
use Rattle.event_kinds.specs.declared.entry.Entry.{Entry}
use Rattle.event_kinds.specs.declared.entry.Event.{Event}
use Rattle.event_kinds.specs.declared.entry.Event.TheVariants as events
use Rattle.event_kinds.specs.declared.entry.Item.{Item}
use Rattle.inval_messages.specs.declared.message.Message.{Message}
use Rattle.history_model.specs.Transactions.{running_transaction_of, is_visible, runs_as, xid_for}
use Rattle.history_model.specs.Versions.{versions_of, ends, added_row}
use Rattle.history_model.specs.Sent.{lists_of, ends_transaction, messages_written}
use Rattle.history_model.specs.Covered.{is_covered}

-- an item ends no version that a running transaction has ended
abbrev pub EndsOnce : List Entry → ℕ → Item → Type 0
EndsOnce before b item = AllByRecursion (λ v. ends before b item v ≡ true → IfSome v.ended (λ s. (other : ℕ) → runs_as before other s.xid.0 ≡ false)) (versions_of before)

-- a scan asks for a row, but for a foreign key not by the relation that it refers to
abbrev pub asks_own : Purpose → Row → Bool
asks_own (scans.Constraint rel) (rows.Con oid of name valid what) = same_oid of rel
asks_own d row = selects d row

-- it does so for each row that it asks for
abbrev pub IsPlain : Purpose → Type 0
IsPlain d = (row : Row) → selects d row ≡ true → asks_own d row ≡ true

-- a message covers each scan that asks for the row, but for a foreign key that by the relation that it refers to
abbrev pub CoversRow : List Message → Row → Type 0
CoversRow messages row = (d : Purpose) → asks_own d row ≡ true → is_covered messages d ≡ true

-- so it is with the row that an item adds, and with those of the versions that it ends
abbrev pub CoversItem : List Entry → ℕ → List Message → Item → Type 0
CoversItem before b messages item = IfSome (added_row item) (CoversRow messages) × AllByRecursion (λ v. ends before b item v ≡ true → CoversRow messages v.row) (versions_of before)

-- the messages of a write cover what it adds and ends
abbrev pub CoversLawfully : List Entry → ℕ → Event → Type 0
CoversLawfully before b (events.Write xid changes) = AllByRecursion (CoversItem before b (messages_written before b changes)) changes
CoversLawfully before b event = ⊤

-- by events
abbrev pub IsLawfulEvent : List Entry → ℕ → ℕ → Event → Type 0
IsLawfulEvent before b c events.Start = (running_transaction_of before b ≡ None) × (lists_of before b ≡ [])
IsLawfulEvent before b c (events.Write xid changes) = (is_visible (running_transaction_of before b) ≡ false) × (xid.0 ≡ xid_for before b) × AllByRecursion (EndsOnce before b) changes
IsLawfulEvent before b c (events.Visible xid) = (is_visible (running_transaction_of before b) ≡ false) × (runs_as before b xid.0 ≡ true)
IsLawfulEvent before b c (events.Gone from) = is_visible (running_transaction_of before b) ≡ false
IsLawfulEvent before b c (events.Release from) = ends_transaction from (running_transaction_of before b) ≡ true → (lists_of before b ≡ []) ⊎ (is_visible (running_transaction_of before b) ≡ true)
IsLawfulEvent before b c event = ⊤

abbrev pub IsLawful : List Entry → Entry → Type 0
IsLawful before e = IsLawfulEvent before e.backend e.command e.event
