-- The text of each row, scan, event, entry and answer line.
use Rattle.std.specs.Prelude.{ℕ, Bool, true, false, List, [], ◌++◌, codes, decimal}
use Rattle.std.specs.Fmt.{signed_decimal}
use Rattle.std.specs.List.{flat_map}
use Rattle.event_kinds.specs.Events.{Oid, ConKind, Row, RowKey, Purpose, Item, Event, Entry, Line}
use Rattle.base_types.specs.declared.row.ConKind.TheVariants as kinds
use Rattle.base_types.specs.declared.row.Row.TheVariants as rows
use Rattle.base_types.specs.declared.row_key.RowKey.TheVariants as keys
use Rattle.base_types.specs.declared.scan.Purpose.TheVariants as scans
use Rattle.base_types.specs.Words.{mode_word, kind_word, type_word, state_word, valid_word, live_word, on_word, fill_text, nums_text}
use Rattle.event_kinds.specs.declared.entry.Item.TheVariants as items
use Rattle.event_kinds.specs.declared.entry.Event.TheVariants as events

-- the number of a relation or another object
abbrev pub oid_text : Oid → List ℕ
oid_text oid = decimal oid.0

-- what a constraint's row says after its name
abbrev pub con_text : Bool → ConKind → List ℕ
con_text valid (kinds.Check text) = codes "c," ++ valid_word valid ++ codes "," ++ text
con_text valid (kinds.Foreign num refrel refnum) = codes "f," ++ valid_word valid ++ codes "," ++ decimal num ++ codes "," ++ oid_text refrel ++ codes "," ++ decimal refnum

-- a row: its catalog's word, and its columns between parentheses
abbrev pub row_text : Row → List ℕ
row_text (rows.Class oid name kind fill) = codes "class(" ++ oid_text oid ++ codes "," ++ name ++ codes "," ++ kind_word kind ++ codes "," ++ fill_text fill ++ codes ")"
row_text (rows.Att rel num name col_type stat live) = codes "att(" ++ oid_text rel ++ codes "," ++ decimal num ++ codes "," ++ name ++ codes "," ++ type_word col_type ++ codes "," ++ signed_decimal stat ++ codes "," ++ live_word live ++ codes ")"
row_text (rows.Def oid rel num word) = codes "def(" ++ oid_text oid ++ codes "," ++ oid_text rel ++ codes "," ++ decimal num ++ codes "," ++ word ++ codes ")"
row_text (rows.Ind index table state nums) = codes "ind(" ++ oid_text index ++ codes "," ++ oid_text table ++ codes "," ++ state_word state ++ codes "," ++ nums_text nums ++ codes ")"
row_text (rows.Con oid rel name valid what) = codes "con(" ++ oid_text oid ++ codes "," ++ oid_text rel ++ codes "," ++ name ++ codes "," ++ con_text valid what ++ codes ")"
row_text (rows.Trg oid rel name on) = codes "trg(" ++ oid_text oid ++ codes "," ++ oid_text rel ++ codes "," ++ name ++ codes "," ++ on_word on ++ codes ")"

-- a row's key, written as the beginning of its row
abbrev pub key_text : RowKey → List ℕ
key_text (keys.Class oid) = codes "class(" ++ oid_text oid ++ codes ")"
key_text (keys.Att rel num) = codes "att(" ++ oid_text rel ++ codes "," ++ decimal num ++ codes ")"
key_text (keys.Def oid) = codes "def(" ++ oid_text oid ++ codes ")"
key_text (keys.Ind oid) = codes "ind(" ++ oid_text oid ++ codes ")"
key_text (keys.Con oid) = codes "con(" ++ oid_text oid ++ codes ")"
key_text (keys.Trg oid) = codes "trg(" ++ oid_text oid ++ codes ")"

-- a change of a write: `+` adds, `=` replaces, `-` removes, `!` forces a message
abbrev pub item_text : Item → List ℕ
item_text (items.Add row) = codes "+" ++ row_text row
item_text (items.Put row) = codes "=" ++ row_text row
item_text (items.Remove key) = codes "-" ++ key_text key
item_text (items.Force rel) = codes "!" ++ oid_text rel

-- a scan: its word and its key
abbrev pub purpose_text : Purpose → List ℕ
purpose_text (scans.RelName name) = codes "relname " ++ name
purpose_text (scans.RelOid oid) = codes "reloid " ++ oid_text oid
purpose_text (scans.AttName rel name) = codes "attname " ++ oid_text rel ++ codes " " ++ name
purpose_text (scans.AttList rel) = codes "attlist " ++ oid_text rel
purpose_text (scans.Class rel) = codes "class " ++ oid_text rel
purpose_text (scans.Attribute rel) = codes "attribute " ++ oid_text rel
purpose_text (scans.AttrDef rel) = codes "attrdef " ++ oid_text rel
purpose_text (scans.Constraint rel) = codes "constraint " ++ oid_text rel
purpose_text (scans.Index rel) = codes "index " ++ oid_text rel
purpose_text (scans.Trigger rel) = codes "trigger " ++ oid_text rel
purpose_text (scans.IndexRow rel) = codes "indexrow " ++ oid_text rel

-- an event
abbrev pub event_text : Event → List ℕ
event_text events.Start = codes "start"
event_text (events.Look true) = codes "look yes"
event_text (events.Look false) = codes "look no"
event_text (events.Fetch count) = codes "fetch " ++ decimal count
event_text events.FetchReset = codes "fetch reset"
event_text (events.LockOk rel mode) = codes "lock " ++ oid_text rel ++ codes " " ++ mode_word mode ++ codes " ok"
event_text (events.LockHeld rel mode holder held) = codes "lock " ++ oid_text rel ++ codes " " ++ mode_word mode ++ codes " held " ++ decimal holder ++ codes " " ++ mode_word held
event_text (events.Unlock rel mode) = codes "unlock " ++ oid_text rel ++ codes " " ++ mode_word mode
event_text (events.Scan purpose rows) = codes "scan " ++ purpose_text purpose ++ codes " rows " ++ decimal rows
event_text (events.Write xid changes) = codes "write " ++ decimal xid.0 ++ flat_map (λ item. codes " " ++ item_text item) changes
event_text (events.ClashRow name rel) = codes "clash " ++ name ++ codes " row " ++ oid_text rel
event_text (events.ClashRunning name xid) = codes "clash " ++ name ++ codes " running " ++ decimal xid.0
event_text (events.Visible xid) = codes "visible " ++ decimal xid.0
event_text (events.Publish count) = codes "publish " ++ decimal count
event_text (events.Release from) = codes "release " ++ decimal from
event_text (events.Gone from) = codes "gone " ++ decimal from
event_text events.Fail = codes "fail"
event_text events.Stop = codes "stop"

-- an event's text, but of a write what comes before its changes
abbrev pub event_head : Event → List ℕ
event_head (events.Write xid changes) = codes "write " ++ decimal xid.0
event_head event = event_text event

-- the changes of a write; any other event has none
abbrev pub changes_of : Event → List Item
changes_of (events.Write xid changes) = changes
changes_of event = []

-- the backend and the command of an entry or a line
abbrev pub place_text : ℕ → ℕ → List ℕ
place_text backend command = decimal backend ++ codes " " ++ decimal command ++ codes " "

-- an entry's line
abbrev pub entry_text : Entry → List ℕ
entry_text entry = codes "h " ++ place_text entry.backend entry.command ++ event_text entry.event

-- an entry's line, but of a write what comes before its changes
abbrev pub entry_head : Entry → List ℕ
entry_head entry = codes "h " ++ place_text entry.backend entry.command ++ event_head entry.event

-- changes, a blank before each
abbrev pub changes_text : List Item → List ℕ
changes_text changes = flat_map (λ item. codes " " ++ item_text item) changes

-- an answer line up to its text
abbrev pub line_head : Line → List ℕ
line_head line = codes "l " ++ place_text line.backend line.command

-- the answer line of a command
abbrev pub line_text : Line → List ℕ
line_text line = line_head line ++ line.text

-- a text as a line
abbrev pub ended : List ℕ → List ℕ
ended text = text ++ codes "\n"

-- the lines of a history
abbrev pub entries_text : List Entry → List ℕ
entries_text history = flat_map (λ entry. ended (entry_text entry)) history

-- the answer lines
abbrev pub lines_text : List Line → List ℕ
lines_text lines = flat_map (λ line. ended (line_text line)) lines

-- a history and its answer lines, and the line `end`
abbrev pub text_of : List Entry → List Line → List ℕ
text_of history lines = entries_text history ++ lines_text lines ++ codes "end\n"
