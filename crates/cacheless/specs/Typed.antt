-- What an entry with a text is made of (`IsEntry` of event_kinds): the plans and the sessions by which a backend goes on, and what a history leaves.
use Rattle.std.specs.Prelude.{ℕ, List, ⊤, ◌≤◌, ◌+◌, length, IfSome}
use Rattle.std.specs.List.{AllByRecursion}
use Rattle.base_types.specs.Names.{IsAnyName}
use Rattle.base_types.specs.declared.ids.TheConstants.{FIRST_OID}
use Rattle.event_kinds.specs.Entries.{IsNumber, IsRow, IsKey, IsPurpose}
use Rattle.event_kinds.specs.Texts.{entries_text}
use Rattle.row_visibility.specs.declared.version.Stamp.{Stamp}
use Rattle.row_visibility.specs.declared.version.Version.{Version}
use Rattle.lock_modes.specs.declared.grant.Grant.{Grant}
use Rattle.ddl_effect.specs.Plans.{Act, Lookup, Open, Search, Read, Lock, Write, Plan, Done, Fails, Absent, Do, told_rests_on}
use Rattle.ddl_effect.specs.Types.{Change, Insert, Replace, Delete}
use Rattle.cacheless.specs.Types.{Oid, Row, Purpose, Draft, OpenRelation, Opening, Entry}
use Rattle.history_model.specs.Drawn.{next_oid}
use Rattle.history_model.specs.Held.{held_of}
use Rattle.history_model.specs.Read.{rows_read}
use Rattle.history_model.specs.Sent.{lists_of}
use Rattle.history_model.specs.Transactions.{last_xid}
use Rattle.history_model.specs.Versions.{versions_of}
use Rattle.local_caches.specs.Kept.{rows_kept}
use Rattle.cacheless.specs.Facts.{Facts}
use Rattle.cacheless.specs.Session.{Session}

-- an oid of four bytes
abbrev pub IsOid : Oid → Type 0
IsOid oid = IsNumber oid.0

-- rows that have texts
abbrev pub AreTypedRows : List Row → Type 0
AreTypedRows given = AllByRecursion IsRow given

-- a change that has a text, or is of a row that has one
abbrev pub IsTypedChange : Change → Type 0
IsTypedChange (Insert row) = IsRow row
IsTypedChange (Replace row) = IsRow row
IsTypedChange (Delete key) = IsKey key

-- a draft of such changes, which draws one new oid at most
pub record IsTypedDraft (draft : Draft) : Type 0 where
  pub changes : AllByRecursion IsTypedChange draft.changes
  pub forced : AllByRecursion IsOid draft.forced
  pub new : draft.new_oids ≤ 1

-- an act whose entries name what has a text
abbrev pub IsTypedAct : Act → Type 0
IsTypedAct (Lookup name mode) = IsAnyName name
IsTypedAct (Open rel kind) = IsOid rel
IsTypedAct (Search scan) = IsPurpose scan
IsTypedAct (Read scan) = IsPurpose scan
IsTypedAct (Lock rel mode) = IsOid rel
IsTypedAct (Write draft) = IsTypedDraft draft

-- a plan of such acts, as long as the rows that they give have texts
abbrev pub IsTypedPlan : Plan → Type 0
IsTypedPlan (Done told) = IfSome (told_rests_on told) IsPurpose
IsTypedPlan (Fails error) = ⊤
IsTypedPlan (Absent name) = ⊤
IsTypedPlan (Do act rest) = IsTypedAct act × ((given : List Row) → AreTypedRows given → IsTypedPlan (rest given))

-- what a backend may still rely on of scans has texts
abbrev pub AreKeptTyped : Facts → Type 0
AreKeptTyped facts = (scan : Purpose) → AreTypedRows (rows_kept facts.kept scan)

-- relations that are open, each with an oid of four bytes
abbrev pub AreOpenTyped : List OpenRelation → Type 0
AreOpenTyped opens = AllByRecursion (λ o. IsOid o.rel) opens

-- descriptors that are held, of such relations
abbrev pub AreHeldTyped : List Opening → Type 0
AreHeldTyped opened = AllByRecursion (λ o. IsOid o.rel) opened

-- a session that goes on by such plans, and holds such descriptors
pub record IsTypedSession (s : Session) : Type 0 where
  pub left : IsTypedPlan s.left
  pub sought : IsTypedPlan s.sought
  pub opens : AreOpenTyped s.opens
  pub opened : AreHeldTyped s.opened

-- the stamp has an Xid of four bytes, and the row a text
abbrev pub IsTypedStamp : Stamp → Row → Type 0
IsTypedStamp stamp row = IsNumber stamp.xid.0 × IsRow row

-- a version of which both stamps are so
abbrev pub IsTypedVersion : Version → Type 0
IsTypedVersion v = IsTypedStamp v.by v.row × IfSome v.ended (λ stamp. IsTypedStamp stamp v.row)

-- a grant to a backend with a number of four bytes, on such a relation
abbrev pub IsTypedGrant : Grant → Type 0
IsTypedGrant g = IsNumber g.backend × IsOid g.rel

-- the versions and grants that a history leaves are so; the writes that weren't taken back are of commands with numbers of four bytes, and what scans gave has texts
pub record LeavesTyped (history : List Entry) : Type 0 where
  pub versions : AllByRecursion IsTypedVersion (versions_of history)
  pub grants : AllByRecursion IsTypedGrant (held_of history)
  pub lists : (b : ℕ) → AllByRecursion (λ w. IsNumber w.command) (lists_of history b)
  pub read : (b : ℕ) (scan : Purpose) → AreTypedRows (rows_read history b scan)

-- a history has drawn no more oids and Xids, and leaves no more versions, than its entries' lines have bytes
pub record CountsBytes (history : List Entry) : Type 0 where
  pub oids : next_oid history ≤ FIRST_OID + length (entries_text history)
  pub xids : last_xid history ≤ length (entries_text history)
  pub rows : length (versions_of history) ≤ length (entries_text history)

-- a text whose bytes, and the oids before the first new one, are fewer than 2^32 together: any of 256 MiB is one
abbrev pub IsCountable : List ℕ → Type 0
IsCountable text = IsNumber (FIRST_OID + length text)
