-- What the worked examples are made of.
use Rattle.std.proofs.Common.{ℕ, true, None, List, [], ◌∷◌, ◌+◌, ◌/◌, ◌%◌, map, negsuc}
use Rattle.std.specs.List.{range_with_len}
use Rattle.base_types.specs.Scenario.{Scenario}
use Rattle.base_types.specs.declared.ids.Oid.{Oid}
use Rattle.base_types.specs.declared.ids.Xid.{Xid}
use Rattle.base_types.specs.declared.col_type.ColType.TheVariants.{Int4}
use Rattle.base_types.specs.declared.command.Command.{Command}
use Rattle.base_types.specs.declared.command.Command.TheVariants.{CreateTable}
use Rattle.base_types.specs.declared.command.NewColumn.{NewColumn}
use Rattle.base_types.specs.declared.command.Placed.{Placed}
use Rattle.base_types.specs.declared.command.Turns.{Turns}
use Rattle.base_types.specs.declared.kind.Kind.TheVariants.{Table}
use Rattle.base_types.specs.declared.row.Row.TheVariants.{Class, Att}
use Rattle.event_kinds.specs.declared.entry.Entry.{Entry}
use Rattle.event_kinds.specs.declared.entry.Event.{Event}
use Rattle.event_kinds.specs.declared.entry.Item.{Item}
use Rattle.event_kinds.specs.declared.entry.Item.TheVariants.{Add}

abbrev pub oid : ℕ → Oid
oid n = record { 0 = n }

abbrev pub xid : ℕ → Xid
xid n = record { 0 = n }

abbrev pub entry : ℕ → ℕ → Event → Entry
entry b c event = record { backend = b; command = c; event = event }

abbrev pub placed : ℕ → Command → Placed
placed b command = record { backend = b; command = command }

abbrev pub turns : ℕ → ℕ → Turns
turns b count = record { backend = b; count = count }

abbrev pub script : ℕ → List Placed → List (List Turns) → Scenario
script backends commands steps = record { size = 4096; from = 0; backends = backends; commands = commands; steps = steps }

-- with the smallest queue
abbrev pub small_queue : ℕ → List Placed → List (List Turns) → Scenario
small_queue backends commands steps = record { size = 64; from = 0; backends = backends; commands = commands; steps = steps }

-- `create table NAME (COLUMN int4)`
abbrev pub creating : List ℕ → List ℕ → Command
creating name column = CreateTable name (record { name = column; col_type = Int4 } ∷ [])

-- the row of a new table
abbrev pub new_class : ℕ → List ℕ → Item
new_class rel name = Add (Class (oid rel) name Table None)

-- the row of a new table's first column
abbrev pub new_column : ℕ → List ℕ → Item
new_column rel column = Add (Att (oid rel) 1 column Int4 (negsuc 0) true)

-- the rows of a new table with one column
abbrev pub new_table : ℕ → List ℕ → List ℕ → List Item
new_table rel name column = new_class rel name ∷ new_column rel column ∷ []

-- names of columns, `aa` to `az`, `ba` and so on
abbrev pub column_name : ℕ → List ℕ
column_name n = (97 + n / 26) ∷ (97 + n % 26) ∷ []

-- so many columns
abbrev pub wide_columns : ℕ → List NewColumn
wide_columns count = map (λ n. record { name = column_name n; col_type = Int4 }) (range_with_len 0 count)

-- the rows of a new table with so many columns
abbrev pub wide_table : ℕ → List ℕ → ℕ → List Item
wide_table rel name count = new_class rel name ∷ map (λ n. Add (Att (oid rel) (n + 1) (column_name n) Int4 (negsuc 0) true)) (range_with_len 0 count)
