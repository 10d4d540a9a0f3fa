-- The text of an entry is one line.
use Rattle.std.proofs.Common.{ℕ, Bool, true, false, List, [], ◌∷◌, ◌++◌, refl, codes, decimal}
use Rattle.std.specs.Fmt.{signed_decimal}
use Rattle.std.specs.List.{flat_map, AllByRecursion}
use Rattle.base_types.specs.Names.{IsInLine}
use Rattle.base_types.specs.Words.{mode_word, kind_word, type_word, state_word, valid_word, live_word, on_word, fill_text, nums_text}
use Rattle.base_types.specs.declared.kind.Kind.{Kind}
use Rattle.base_types.specs.declared.kind.Kind.TheVariants.{Table, Index}
use Rattle.base_types.specs.declared.row.ConKind.{ConKind}
use Rattle.base_types.specs.declared.row.ConKind.TheVariants as kinds
use Rattle.base_types.specs.declared.row.Row.{Row}
use Rattle.base_types.specs.declared.row.Row.TheVariants as rows
use Rattle.base_types.specs.declared.row_key.RowKey.{RowKey}
use Rattle.base_types.specs.declared.row_key.RowKey.TheVariants as keys
use Rattle.base_types.specs.declared.scan.Purpose.{Purpose}
use Rattle.base_types.specs.declared.scan.Purpose.TheVariants as scans
use Rattle.base_types.proofs.InLine.{decimal_in_line, signed_in_line, name_in_line, word_in_line, text_in_line, mode_in_line, type_in_line, state_in_line, valid_in_line, on_in_line, fill_in_line, nums_in_line, joined_in_line}
use Rattle.event_kinds.specs.declared.entry.Item.{Item}
use Rattle.event_kinds.specs.declared.entry.Item.TheVariants as items
use Rattle.event_kinds.specs.declared.entry.Event.TheVariants as events
use Rattle.event_kinds.specs.Entries.{IsConKind, IsRow, IsItem, IsPurpose, IsEvent, IsEntry}
use Rattle.event_kinds.specs.Texts.{con_text, row_text, key_text, item_text, purpose_text, event_text, place_text, entry_text}
use Rattle.check_tool.specs.Types.{Entry, Event}

-- ---- texts one after another

three : (a b c : List ℕ) → IsInLine a → IsInLine b → IsInLine c → IsInLine (a ++ b ++ c)
three a b c p q r = joined_in_line (a ++ b) c (joined_in_line a b p q) r

five : (a b c d e : List ℕ) → IsInLine a → IsInLine b → IsInLine c → IsInLine d → IsInLine e → IsInLine (a ++ b ++ c ++ d ++ e)
five a b c d e p q r s t = three (a ++ b ++ c) d e (three a b c p q r) s t

kind_in_line : (kind : Kind) → IsInLine (kind_word kind)
kind_in_line Table = refl
kind_in_line Index = refl

live_in_line : (live : Bool) → IsInLine (live_word live)
live_in_line true = refl
live_in_line false = refl

-- ---- rows, changes and scans

con_in_line : (valid : Bool) (what : ConKind) → IsConKind what → IsInLine (con_text valid what)
con_in_line valid (kinds.Check text) is = joined_in_line (codes "c," ++ valid_word valid ++ codes ",") text (three (codes "c,") (valid_word valid) (codes ",") refl (valid_in_line valid) refl) (text_in_line text is)
con_in_line valid (kinds.Foreign num refrel refnum) is =
    five (codes "f," ++ valid_word valid ++ codes "," ++ decimal num) (codes ",") (decimal refrel.0) (codes ",") (decimal refnum)
    (joined_in_line (codes "f," ++ valid_word valid ++ codes ",") (decimal num) (three (codes "f,") (valid_word valid) (codes ",") refl (valid_in_line valid) refl) (decimal_in_line num))
    refl (decimal_in_line refrel.0) refl (decimal_in_line refnum)

row_in_line : (row : Row) → IsRow row → IsInLine (row_text row)
row_in_line (rows.Class oid name kind fill) is =
    five (codes "class(" ++ decimal oid.0 ++ codes "," ++ name ++ codes ",") (kind_word kind) (codes ",") (fill_text fill) (codes ")")
    (five (codes "class(") (decimal oid.0) (codes ",") name (codes ",") refl (decimal_in_line oid.0) refl (name_in_line name is.1) refl)
    (kind_in_line kind) refl (fill_in_line fill) refl
row_in_line (rows.Att rel num name col_type stat live) is =
    five (codes "att(" ++ decimal rel.0 ++ codes "," ++ decimal num ++ codes "," ++ name ++ codes "," ++ type_word col_type ++ codes ",") (signed_decimal stat) (codes ",") (live_word live) (codes ")")
    (five (codes "att(" ++ decimal rel.0 ++ codes "," ++ decimal num ++ codes ",") name (codes ",") (type_word col_type) (codes ",")
    (five (codes "att(") (decimal rel.0) (codes ",") (decimal num) (codes ",") refl (decimal_in_line rel.0) refl (decimal_in_line num) refl)
    (name_in_line name is.2) refl (type_in_line col_type) refl)
    (signed_in_line stat) refl (live_in_line live) refl
row_in_line (rows.Def oid rel num word) is =
    five (codes "def(" ++ decimal oid.0 ++ codes "," ++ decimal rel.0 ++ codes ",") (decimal num) (codes ",") word (codes ")")
    (five (codes "def(") (decimal oid.0) (codes ",") (decimal rel.0) (codes ",") refl (decimal_in_line oid.0) refl (decimal_in_line rel.0) refl)
    (decimal_in_line num) refl (word_in_line word is.3) refl
row_in_line (rows.Ind index table state nums) is =
    five (codes "ind(" ++ decimal index.0 ++ codes "," ++ decimal table.0 ++ codes ",") (state_word state) (codes ",") (nums_text nums) (codes ")")
    (five (codes "ind(") (decimal index.0) (codes ",") (decimal table.0) (codes ",") refl (decimal_in_line index.0) refl (decimal_in_line table.0) refl)
    (state_in_line state) refl (nums_in_line nums) refl
row_in_line (rows.Con oid rel name valid what) is =
    five (codes "con(" ++ decimal oid.0 ++ codes "," ++ decimal rel.0 ++ codes ",") name (codes ",") (con_text valid what) (codes ")")
    (five (codes "con(") (decimal oid.0) (codes ",") (decimal rel.0) (codes ",") refl (decimal_in_line oid.0) refl (decimal_in_line rel.0) refl)
    (name_in_line name is.2) refl (con_in_line valid what is.3) refl
row_in_line (rows.Trg oid rel name on) is =
    five (codes "trg(" ++ decimal oid.0 ++ codes "," ++ decimal rel.0 ++ codes ",") name (codes ",") (on_word on) (codes ")")
    (five (codes "trg(") (decimal oid.0) (codes ",") (decimal rel.0) (codes ",") refl (decimal_in_line oid.0) refl (decimal_in_line rel.0) refl)
    (name_in_line name is.2) refl (on_in_line on) refl

key_in_line : (key : RowKey) → IsInLine (key_text key)
key_in_line (keys.Class oid) = three (codes "class(") (decimal oid.0) (codes ")") refl (decimal_in_line oid.0) refl
key_in_line (keys.Att rel num) = five (codes "att(") (decimal rel.0) (codes ",") (decimal num) (codes ")") refl (decimal_in_line rel.0) refl (decimal_in_line num) refl
key_in_line (keys.Def oid) = three (codes "def(") (decimal oid.0) (codes ")") refl (decimal_in_line oid.0) refl
key_in_line (keys.Ind oid) = three (codes "ind(") (decimal oid.0) (codes ")") refl (decimal_in_line oid.0) refl
key_in_line (keys.Con oid) = three (codes "con(") (decimal oid.0) (codes ")") refl (decimal_in_line oid.0) refl
key_in_line (keys.Trg oid) = three (codes "trg(") (decimal oid.0) (codes ")") refl (decimal_in_line oid.0) refl

item_in_line : (item : Item) → IsItem item → IsInLine (item_text item)
item_in_line (items.Add row) is = joined_in_line (codes "+") (row_text row) refl (row_in_line row is)
item_in_line (items.Put row) is = joined_in_line (codes "=") (row_text row) refl (row_in_line row is)
item_in_line (items.Remove key) is = joined_in_line (codes "-") (key_text key) refl (key_in_line key)
item_in_line (items.Force rel) is = joined_in_line (codes "!") (decimal rel.0) refl (decimal_in_line rel.0)

items_in_line : (changes : List Item) → AllByRecursion IsItem changes → IsInLine (flat_map (λ item. codes " " ++ item_text item) changes)
items_in_line [] are = refl
items_in_line (item ∷ changes) are = joined_in_line (codes " " ++ item_text item) (flat_map (λ x. codes " " ++ item_text x) changes) (joined_in_line (codes " ") (item_text item) refl (item_in_line item are.0)) (items_in_line changes are.1)

purpose_in_line : (purpose : Purpose) → IsPurpose purpose → IsInLine (purpose_text purpose)
purpose_in_line (scans.RelName name) is = joined_in_line (codes "relname ") name refl (name_in_line name is)
purpose_in_line (scans.RelOid oid) is = joined_in_line (codes "reloid ") (decimal oid.0) refl (decimal_in_line oid.0)
purpose_in_line (scans.AttName rel name) is = joined_in_line (codes "attname " ++ decimal rel.0 ++ codes " ") name (three (codes "attname ") (decimal rel.0) (codes " ") refl (decimal_in_line rel.0) refl) (name_in_line name is.1)
purpose_in_line (scans.AttList rel) is = joined_in_line (codes "attlist ") (decimal rel.0) refl (decimal_in_line rel.0)
purpose_in_line (scans.Class rel) is = joined_in_line (codes "class ") (decimal rel.0) refl (decimal_in_line rel.0)
purpose_in_line (scans.Attribute rel) is = joined_in_line (codes "attribute ") (decimal rel.0) refl (decimal_in_line rel.0)
purpose_in_line (scans.AttrDef rel) is = joined_in_line (codes "attrdef ") (decimal rel.0) refl (decimal_in_line rel.0)
purpose_in_line (scans.Constraint rel) is = joined_in_line (codes "constraint ") (decimal rel.0) refl (decimal_in_line rel.0)
purpose_in_line (scans.Index rel) is = joined_in_line (codes "index ") (decimal rel.0) refl (decimal_in_line rel.0)
purpose_in_line (scans.Trigger rel) is = joined_in_line (codes "trigger ") (decimal rel.0) refl (decimal_in_line rel.0)
purpose_in_line (scans.IndexRow rel) is = joined_in_line (codes "indexrow ") (decimal rel.0) refl (decimal_in_line rel.0)

-- ---- events and entries

event_in_line : (event : Event) → IsEvent event → IsInLine (event_text event)
event_in_line events.Start is = refl
event_in_line (events.Look true) is = refl
event_in_line (events.Look false) is = refl
event_in_line (events.Fetch count) is = joined_in_line (codes "fetch ") (decimal count) refl (decimal_in_line count)
event_in_line events.FetchReset is = refl
event_in_line (events.LockOk rel mode) is = five (codes "lock ") (decimal rel.0) (codes " ") (mode_word mode) (codes " ok") refl (decimal_in_line rel.0) refl (mode_in_line mode) refl
event_in_line (events.LockHeld rel mode holder held) is =
    three (codes "lock " ++ decimal rel.0 ++ codes " " ++ mode_word mode ++ codes " held " ++ decimal holder) (codes " ") (mode_word held)
    (joined_in_line (codes "lock " ++ decimal rel.0 ++ codes " " ++ mode_word mode ++ codes " held ") (decimal holder)
    (five (codes "lock ") (decimal rel.0) (codes " ") (mode_word mode) (codes " held ") refl (decimal_in_line rel.0) refl (mode_in_line mode) refl) (decimal_in_line holder))
    refl (mode_in_line held)
event_in_line (events.Unlock rel mode) is = joined_in_line (codes "unlock " ++ decimal rel.0 ++ codes " ") (mode_word mode) (three (codes "unlock ") (decimal rel.0) (codes " ") refl (decimal_in_line rel.0) refl) (mode_in_line mode)
event_in_line (events.Scan purpose count) is = joined_in_line (codes "scan " ++ purpose_text purpose ++ codes " rows ") (decimal count) (three (codes "scan ") (purpose_text purpose) (codes " rows ") refl (purpose_in_line purpose is.0) refl) (decimal_in_line count)
event_in_line (events.Write xid changes) is = three (codes "write ") (decimal xid.0) (flat_map (λ item. codes " " ++ item_text item) changes) refl (decimal_in_line xid.0) (items_in_line changes is.1.1)
event_in_line (events.ClashRow name rel) is = joined_in_line (codes "clash " ++ name ++ codes " row ") (decimal rel.0) (three (codes "clash ") name (codes " row ") refl (name_in_line name is.0) refl) (decimal_in_line rel.0)
event_in_line (events.ClashRunning name xid) is = joined_in_line (codes "clash " ++ name ++ codes " running ") (decimal xid.0) (three (codes "clash ") name (codes " running ") refl (name_in_line name is.0) refl) (decimal_in_line xid.0)
event_in_line (events.Visible xid) is = joined_in_line (codes "visible ") (decimal xid.0) refl (decimal_in_line xid.0)
event_in_line (events.Publish count) is = joined_in_line (codes "publish ") (decimal count) refl (decimal_in_line count)
event_in_line (events.Release from) is = joined_in_line (codes "release ") (decimal from) refl (decimal_in_line from)
event_in_line (events.Gone from) is = joined_in_line (codes "gone ") (decimal from) refl (decimal_in_line from)
event_in_line events.Fail is = refl
event_in_line events.Stop is = refl

-- no entry's text holds a line's end
pub entry_in_line : (e : Entry) → IsEntry e → IsInLine (entry_text e)
entry_in_line e is =
    three (codes "h ") (place_text e.backend e.command) (event_text e.event) refl
    (joined_in_line (decimal e.backend ++ codes " " ++ decimal e.command) (codes " ") (three (decimal e.backend) (codes " ") (decimal e.command) (decimal_in_line e.backend) refl (decimal_in_line e.command)) refl)
    (event_in_line e.event is.event)
