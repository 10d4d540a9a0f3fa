-- Which entries have a text: numbers of four bytes, names as columns may have them, words and texts, and a write of something.
use Rattle.std.specs.Prelude.{◌≡◌, ℕ, List, ⊤, ◌<◌, ◌≤◌, ◌^◌, length, IfSome, FitsSigned}
use Rattle.std.specs.Int.{w32}
use Rattle.std.specs.List.{AllByRecursion}
use Rattle.base_types.specs.Names.{IsAnyName, IsInLine, IsWord, IsText}
use Rattle.event_kinds.specs.Events.{ConKind, Row, RowKey, Purpose, Item, Event, Entry, Line}
use Rattle.base_types.specs.declared.row.ConKind.TheVariants as kinds
use Rattle.base_types.specs.declared.row.Row.TheVariants as rows
use Rattle.base_types.specs.declared.row_key.RowKey.TheVariants as keys
use Rattle.base_types.specs.declared.scan.Purpose.TheVariants as scans
use Rattle.event_kinds.specs.Texts.{text_of}
use Rattle.event_kinds.specs.declared.entry.Item.TheVariants as items
use Rattle.event_kinds.specs.declared.entry.Event.TheVariants as events

-- a number of four bytes
abbrev pub IsNumber : ℕ → Type 0
IsNumber n = n < 2 ^ 32

-- the numbers of an index's columns
abbrev pub AreNums : List ℕ → Type 0
AreNums nums = (0 < length nums) × (length nums ≤ 32) × AllByRecursion IsNumber nums

-- what a constraint demands
abbrev pub IsConKind : ConKind → Type 0
IsConKind (kinds.Check text) = IsText text
IsConKind (kinds.Foreign num refrel refnum) = IsNumber num × IsNumber refrel.0 × IsNumber refnum

-- a row
abbrev pub IsRow : Row → Type 0
IsRow (rows.Class oid name kind fill) = IsNumber oid.0 × IsAnyName name × IfSome fill IsNumber
IsRow (rows.Att rel num name col_type stat live) = IsNumber rel.0 × IsNumber num × IsAnyName name × FitsSigned w32 stat
IsRow (rows.Def oid rel num word) = IsNumber oid.0 × IsNumber rel.0 × IsNumber num × IsWord word
IsRow (rows.Ind index table state nums) = IsNumber index.0 × IsNumber table.0 × AreNums nums
IsRow (rows.Con oid rel name valid what) = IsNumber oid.0 × IsNumber rel.0 × IsAnyName name × IsConKind what
IsRow (rows.Trg oid rel name on) = IsNumber oid.0 × IsNumber rel.0 × IsAnyName name

-- a row's key
abbrev pub IsKey : RowKey → Type 0
IsKey (keys.Class oid) = IsNumber oid.0
IsKey (keys.Att rel num) = IsNumber rel.0 × IsNumber num
IsKey (keys.Def oid) = IsNumber oid.0
IsKey (keys.Ind oid) = IsNumber oid.0
IsKey (keys.Con oid) = IsNumber oid.0
IsKey (keys.Trg oid) = IsNumber oid.0

-- a change of a write
abbrev pub IsItem : Item → Type 0
IsItem (items.Add row) = IsRow row
IsItem (items.Put row) = IsRow row
IsItem (items.Remove key) = IsKey key
IsItem (items.Force rel) = IsNumber rel.0

-- the changes of a write, at least one
abbrev pub AreItems : List Item → Type 0
AreItems changes = (0 < length changes) × AllByRecursion IsItem changes

-- a scan
abbrev pub IsPurpose : Purpose → Type 0
IsPurpose (scans.RelName name) = IsAnyName name
IsPurpose (scans.RelOid oid) = IsNumber oid.0
IsPurpose (scans.AttName rel name) = IsNumber rel.0 × IsAnyName name
IsPurpose (scans.AttList rel) = IsNumber rel.0
IsPurpose (scans.Class rel) = IsNumber rel.0
IsPurpose (scans.Attribute rel) = IsNumber rel.0
IsPurpose (scans.AttrDef rel) = IsNumber rel.0
IsPurpose (scans.Constraint rel) = IsNumber rel.0
IsPurpose (scans.Index rel) = IsNumber rel.0
IsPurpose (scans.Trigger rel) = IsNumber rel.0
IsPurpose (scans.IndexRow rel) = IsNumber rel.0

-- an event
abbrev pub IsEvent : Event → Type 0
IsEvent events.Start = ⊤
IsEvent (events.Look seen) = ⊤
IsEvent (events.Fetch count) = IsNumber count
IsEvent events.FetchReset = ⊤
IsEvent (events.LockOk rel mode) = IsNumber rel.0
IsEvent (events.LockHeld rel mode holder held) = IsNumber rel.0 × IsNumber holder
IsEvent (events.Unlock rel mode) = IsNumber rel.0
IsEvent (events.Scan purpose rows) = IsPurpose purpose × IsNumber rows
IsEvent (events.Write xid changes) = IsNumber xid.0 × AreItems changes
IsEvent (events.ClashRow name rel) = IsAnyName name × IsNumber rel.0
IsEvent (events.ClashRunning name xid) = IsAnyName name × IsNumber xid.0
IsEvent (events.Visible xid) = IsNumber xid.0
IsEvent (events.Publish count) = IsNumber count
IsEvent (events.Release from) = IsNumber from
IsEvent (events.Gone from) = IsNumber from
IsEvent events.Fail = ⊤
IsEvent events.Stop = ⊤

-- an event, but for the changes of a write
abbrev pub IsHead : Event → Type 0
IsHead (events.Write xid changes) = IsNumber xid.0
IsHead event = IsEvent event

-- a write changes something
abbrev pub HasChange : Event → Type 0
HasChange (events.Write xid changes) = 0 < length changes
HasChange event = ⊤

-- an entry
pub record IsEntry (entry : Entry) : Type 0 where
  pub backend : IsNumber entry.backend
  pub command : IsNumber entry.command
  pub event : IsEvent entry.event

-- an entry, but for the changes of a write
pub record IsEntryHead (entry : Entry) : Type 0 where
  pub backend : IsNumber entry.backend
  pub command : IsNumber entry.command
  pub event : IsHead entry.event

-- an answer line: numbers of four bytes, and a text without a line's end
pub record IsLine (line : Line) : Type 0 where
  pub backend : IsNumber line.backend
  pub command : IsNumber line.command
  pub text : IsInLine line.text

-- different pairs of a history and its answer lines have different texts
abbrev pub TextsDiffer : Type 0
TextsDiffer = (history other : List Entry) (lines others : List Line) → AllByRecursion IsEntry history → AllByRecursion IsEntry other → AllByRecursion IsLine lines → AllByRecursion IsLine others
    → text_of history lines ≡ text_of other others → (history ≡ other) × (lines ≡ others)
