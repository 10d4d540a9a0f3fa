-- What commands on defaults, constraints, triggers and indexes come to, and a table dropped with all of these, by computation.
use Rattle.std.proofs.Common.{◌≡◌, ℕ, false, true, None, List, [], ◌∷◌, codes, negsuc, replicate, refl}
use Rattle.base_types.specs.Scans.{scan_of}
use Rattle.base_types.specs.declared.change.Change.{Change}
use Rattle.base_types.specs.declared.change.Change.TheVariants.{Insert, Replace, Delete}
use Rattle.base_types.specs.declared.col_type.ColType.TheVariants.{Int4, Text}
use Rattle.base_types.specs.declared.command.Command.{Command}
use Rattle.base_types.specs.declared.command.Command.TheVariants as commands
use Rattle.base_types.specs.declared.index_state.IndexState.TheVariants.{Valid}
use Rattle.base_types.specs.declared.kind.Kind.TheVariants.{Table, Index}
use Rattle.base_types.specs.declared.mode.Mode.TheVariants.{ShareUpdateExclusive, Share, ShareRowExclusive, AccessExclusive}
use Rattle.base_types.specs.declared.row.ConKind.TheVariants.{Check, Foreign}
use Rattle.base_types.specs.declared.row.Row.{Row}
use Rattle.base_types.specs.declared.row.Row.TheVariants.{Class, Att, Def, Ind, Con, Trg}
use Rattle.base_types.specs.declared.row_key.RowKey.TheVariants as keys
use Rattle.command_answers.specs.declared.error.CommandError.TheVariants as errors
use Rattle.ddl_effect.specs.declared.told.Told.TheVariants as tells
use Rattle.ddl_effect.specs.declared.want.Want.TheVariants as wants
use Rattle.ddl_effect.specs.Types.{Oid}
use Rattle.ddl_effect.specs.Drawing.{changes_of}
use Rattle.ddl_effect.specs.Effects.{Effect, Nothing, Refuses, Unknown, Writes, effect_of}
use Rattle.ddl_effect.specs.Constraints.{dropping_constraint}
use Rattle.ddl_effect.specs.Tables.{referred}
use Rattle.ddl_effect.specs.Commands.{plan_of, absent_error}
use Rattle.ddl_effect.specs.Stages.{want_of}
use Rattle.ddl_effect.proofs.Examples.{oid, opened}

-- a table `u`, to which a table `t` refers by its column `a`; `t` has a check, a reference to itself, two defaults, two triggers and an index on `b` and `a`
abbrev table_t : Row
table_t = Class (oid 16385) (codes "t") Table None

abbrev column_c : Row
column_c = Att (oid 16385) 3 (codes "c") Int4 (negsuc 0) true

abbrev check_k : Row
check_k = Con (oid 16390) (oid 16385) (codes "k") true (Check (codes "a>0"))

abbrev key_f : Row
key_f = Con (oid 16391) (oid 16385) (codes "f") false (Foreign 1 (oid 16384) 1)

abbrev key_s : Row
key_s = Con (oid 16392) (oid 16385) (codes "s") true (Foreign 3 (oid 16385) 2)

abbrev seen : List Row
seen =
    Class (oid 16384) (codes "u") Table None ∷ Att (oid 16384) 1 (codes "x") Int4 (negsuc 0) true ∷ Att (oid 16384) 2 (codes "z") Text (negsuc 0) true
    ∷ table_t ∷ Att (oid 16385) 1 (codes "a") Int4 (negsuc 0) true ∷ Att (oid 16385) 2 (codes "b") Text (negsuc 0) true ∷ column_c
    ∷ Def (oid 16386) (oid 16385) 3 (codes "seven") ∷ Def (oid 16388) (oid 16385) 1 (codes "two")
    ∷ Class (oid 16389) (codes "i") Index None ∷ Ind (oid 16389) (oid 16385) Valid (2 ∷ 1 ∷ [])
    ∷ key_s ∷ check_k ∷ key_f
    ∷ Trg (oid 16393) (oid 16385) (codes "h") true ∷ Trg (oid 16394) (oid 16385) (codes "g") false ∷ []

abbrev comes_to : Command → Effect
comes_to command = effect_of (λ scan. scan_of scan seen) (plan_of [] command)

-- what is written, and which relations are told beside their own rows
abbrev writes : List Change → List Oid → ℕ → Effect
writes changes forced new_oids = Writes (record { changes = changes; forced = forced; new_oids = new_oids })

-- the old default goes
pub default_set : comes_to (commands.SetDefault (codes "t") (codes "a") (codes "one")) ≡ writes (Delete (keys.Def (oid 16388)) ∷ Insert (Def (oid 1) (oid 16385) 1 (codes "one")) ∷ []) (oid 16385 ∷ []) 1
default_set = refl

pub first_default : comes_to (commands.SetDefault (codes "u") (codes "x") (codes "one")) ≡ writes (Insert (Def (oid 1) (oid 16384) 1 (codes "one")) ∷ []) (oid 16384 ∷ []) 1
first_default = refl

pub default_of_none : comes_to (commands.SetDefault (codes "u") (codes "a") (codes "one")) ≡ Refuses (errors.NoColumn (codes "a"))
default_of_none = refl

-- a column that an index or a foreign key uses, on whichever side, isn't dropped
pub indexed_column : comes_to (commands.DropColumn (codes "t") (codes "a")) ≡ Refuses (errors.ColumnUsed (codes "a"))
indexed_column = refl

pub referring_column : comes_to (commands.DropColumn (codes "t") (codes "c")) ≡ Refuses (errors.ColumnUsed (codes "c"))
referring_column = refl

pub referred_column : comes_to (commands.DropColumn (codes "u") (codes "x")) ≡ Refuses (errors.ColumnUsed (codes "x"))
referred_column = refl

-- constraints
pub check_added : comes_to (commands.AddCheck (codes "t") (codes "l") (codes "b>0") false) ≡ writes (Insert (Con (oid 1) (oid 16385) (codes "l") false (Check (codes "b>0"))) ∷ []) (oid 16385 ∷ []) 1
check_added = refl

pub check_exists : comes_to (commands.AddCheck (codes "t") (codes "f") (codes "b>0") true) ≡ Refuses (errors.ConstraintExists (codes "f"))
check_exists = refl

-- the name is another table's constraint's
pub check_of_other_name : comes_to (commands.AddCheck (codes "u") (codes "f") (codes "x>0") true) ≡ writes (Insert (Con (oid 1) (oid 16384) (codes "f") true (Check (codes "x>0"))) ∷ []) (oid 16384 ∷ []) 1
check_of_other_name = refl

-- the table to which it refers is told
pub key_added : comes_to (commands.AddForeign (codes "t") (codes "l") (codes "b") (codes "u") (codes "z") true) ≡ writes (Insert (Con (oid 1) (oid 16385) (codes "l") true (Foreign 2 (oid 16384) 2)) ∷ []) (oid 16384 ∷ []) 1
key_added = refl

pub key_to_itself : comes_to (commands.AddForeign (codes "u") (codes "l") (codes "x") (codes "u") (codes "z") false) ≡ writes (Insert (Con (oid 1) (oid 16384) (codes "l") false (Foreign 1 (oid 16384) 2)) ∷ []) (oid 16384 ∷ []) 1
key_to_itself = refl

-- the name is tested first, then the own column, the other table, and its column
pub key_exists : comes_to (commands.AddForeign (codes "t") (codes "k") (codes "q") (codes "v") (codes "z") true) ≡ Refuses (errors.ConstraintExists (codes "k"))
key_exists = refl

pub key_of_none : comes_to (commands.AddForeign (codes "t") (codes "l") (codes "q") (codes "v") (codes "z") true) ≡ Refuses (errors.NoColumn (codes "q"))
key_of_none = refl

pub key_to_unknown : comes_to (commands.AddForeign (codes "t") (codes "l") (codes "a") (codes "v") (codes "q") true) ≡ Unknown (codes "v")
key_to_unknown = refl

pub key_to_index : comes_to (commands.AddForeign (codes "t") (codes "l") (codes "a") (codes "i") (codes "q") true) ≡ Refuses (errors.NotTable (codes "i"))
key_to_index = refl

pub key_to_no_column : comes_to (commands.AddForeign (codes "t") (codes "l") (codes "a") (codes "u") (codes "q") true) ≡ Refuses (errors.NoColumn (codes "q"))
key_to_no_column = refl

-- its own table alone is told
pub key_validated : comes_to (commands.ValidateConstraint (codes "t") (codes "f")) ≡ writes (Replace (Con (oid 16391) (oid 16385) (codes "f") true (Foreign 1 (oid 16384) 1)) ∷ []) (oid 16385 ∷ []) 0
key_validated = refl

pub valid_already : comes_to (commands.ValidateConstraint (codes "t") (codes "k")) ≡ Nothing tells.Ok
valid_already = refl

-- a key that refers to the table isn't its own
pub validated_none : comes_to (commands.ValidateConstraint (codes "u") (codes "f")) ≡ Refuses (errors.NoConstraint (codes "f"))
validated_none = refl

pub check_dropped : comes_to (commands.DropConstraint (codes "t") (codes "k")) ≡ writes (Delete (keys.Con (oid 16390)) ∷ []) (oid 16385 ∷ []) 0
check_dropped = refl

-- both tables are told, and the other one is locked before
pub key_dropped : comes_to (commands.DropConstraint (codes "t") (codes "f")) ≡ writes (Delete (keys.Con (oid 16391)) ∷ []) (oid 16385 ∷ oid 16384 ∷ []) 0
key_dropped = refl

pub other_locked : want_of (dropping_constraint [] (oid 16385) key_f) ≡ wants.Lock (oid 16384) AccessExclusive
other_locked = refl

-- the session may not have it open, which is tested after its lock
pub other_in_use : effect_of (λ scan. scan_of scan seen) (plan_of (opened (codes "u") 16384 ∷ []) (commands.DropConstraint (codes "t") (codes "f"))) ≡ Refuses (errors.InUse (oid 16384))
other_in_use = refl

-- a table that refers to itself is told twice
pub own_key_dropped : comes_to (commands.DropConstraint (codes "t") (codes "s")) ≡ writes (Delete (keys.Con (oid 16392)) ∷ []) (oid 16385 ∷ oid 16385 ∷ []) 0
own_key_dropped = refl

pub dropped_none : comes_to (commands.DropConstraint (codes "u") (codes "f")) ≡ Refuses (errors.NoConstraint (codes "f"))
dropped_none = refl

-- triggers
pub trigger_enabled : comes_to (commands.SetTrigger (codes "t") (codes "g") true) ≡ writes (Replace (Trg (oid 16394) (oid 16385) (codes "g") true) ∷ []) (oid 16385 ∷ []) 0
trigger_enabled = refl

pub disabled_already : comes_to (commands.SetTrigger (codes "t") (codes "g") false) ≡ Nothing tells.Ok
disabled_already = refl

pub no_trigger : comes_to (commands.SetTrigger (codes "u") (codes "g") true) ≡ Refuses (errors.NoTrigger (codes "g"))
no_trigger = refl

pub trigger_created : comes_to (commands.CreateTrigger (codes "u") (codes "g")) ≡ writes (Insert (Trg (oid 1) (oid 16384) (codes "g") true) ∷ []) (oid 16384 ∷ []) 1
trigger_created = refl

pub trigger_exists : comes_to (commands.CreateTrigger (codes "t") (codes "g")) ≡ Refuses (errors.TriggerExists (codes "g"))
trigger_exists = refl

-- an index has its columns in the order in which they are written, and its two rows have one oid
pub index_created : comes_to (commands.CreateIndex (codes "m") (codes "t") (codes "c" ∷ codes "a" ∷ codes "c" ∷ []))
    ≡ writes (Insert (Class (oid 1) (codes "m") Index None) ∷ Insert (Ind (oid 1) (oid 16385) Valid (3 ∷ 1 ∷ 3 ∷ [])) ∷ []) (oid 16385 ∷ []) 1
index_created = refl

pub index_drawn : changes_of 16395 (record { changes = Insert (Class (oid 1) (codes "m") Index None) ∷ Insert (Ind (oid 1) (oid 16385) Valid (1 ∷ [])) ∷ []; forced = oid 16385 ∷ []; new_oids = 1 })
    ≡ Insert (Class (oid 16395) (codes "m") Index None) ∷ Insert (Ind (oid 16395) (oid 16385) Valid (1 ∷ [])) ∷ []
index_drawn = refl

-- each column is tested before the next, and how many there are before any
pub index_of_none : comes_to (commands.CreateIndex (codes "m") (codes "t") (codes "a" ∷ codes "q" ∷ codes "r" ∷ [])) ≡ Refuses (errors.NoColumn (codes "q"))
index_of_none = refl

pub too_wide : comes_to (commands.CreateIndex (codes "m") (codes "t") (replicate 33 (codes "q"))) ≡ Refuses errors.TooManyColumns
too_wide = refl

pub widest : comes_to (commands.CreateIndex (codes "m") (codes "t") (replicate 32 (codes "a")))
    ≡ writes (Insert (Class (oid 1) (codes "m") Index None) ∷ Insert (Ind (oid 1) (oid 16385) Valid (replicate 32 1)) ∷ []) (oid 16385 ∷ []) 1
widest = refl

pub index_on_index : comes_to (commands.CreateIndex (codes "m") (codes "i") (replicate 33 (codes "q"))) ≡ Refuses (errors.NotTable (codes "i"))
index_on_index = refl

-- the table of a dropped index is told
pub index_dropped : comes_to (commands.DropIndex (codes "i")) ≡ writes (Delete (keys.Ind (oid 16389)) ∷ Delete (keys.Class (oid 16389)) ∷ []) (oid 16385 ∷ []) 0
index_dropped = refl

pub table_in_use : effect_of (λ scan. scan_of scan seen) (plan_of (opened (codes "t") 16385 ∷ []) (commands.DropIndex (codes "i"))) ≡ Refuses (errors.InUse (oid 16385))
table_in_use = refl

pub not_index : comes_to (commands.DropIndex (codes "t")) ≡ Refuses (errors.NotIndex (codes "t"))
not_index = refl

-- an index that `drop index` doesn't find has an error of its own
pub no_index : absent_error (commands.DropIndex (codes "m")) (codes "m") 4 ≡ errors.NoIndex (codes "m") 4
no_index = refl

pub no_relation : absent_error (commands.RenameIndex (codes "m") (codes "n")) (codes "m") 4 ≡ errors.NoRelation (codes "m") 4
no_relation = refl

pub index_renamed : comes_to (commands.RenameIndex (codes "i") (codes "j")) ≡ writes (Replace (Class (oid 16389) (codes "j") Index None) ∷ []) [] 0
index_renamed = refl

pub table_renamed_as_index : comes_to (commands.RenameIndex (codes "t") (codes "j")) ≡ Refuses (errors.NotIndex (codes "t"))
table_renamed_as_index = refl

-- `drop table`: rows of a kind go by their oids, and each table to which it refers is told once, itself too, where its first key is
pub all_dropped : comes_to (commands.DropTable (codes "t"))
    ≡ writes
    (Delete (keys.Ind (oid 16389)) ∷ Delete (keys.Class (oid 16389)) ∷ Delete (keys.Con (oid 16390)) ∷ Delete (keys.Con (oid 16391)) ∷ Delete (keys.Con (oid 16392)) ∷ Delete (keys.Def (oid 16386)) ∷ Delete (keys.Def (oid 16388))
    ∷ Delete (keys.Trg (oid 16393)) ∷ Delete (keys.Trg (oid 16394)) ∷ Delete (keys.Att (oid 16385) 1) ∷ Delete (keys.Att (oid 16385) 2) ∷ Delete (keys.Att (oid 16385) 3) ∷ Delete (keys.Class (oid 16385)) ∷ [])
    (oid 16384 ∷ oid 16385 ∷ []) 0
all_dropped = refl

pub referred_to : comes_to (commands.DropTable (codes "u")) ≡ Refuses (errors.Depends (codes "u"))
referred_to = refl

-- a table is named once, by its first key
pub referred_once : referred (check_k ∷ key_s ∷ key_f ∷ key_s ∷ []) ≡ oid 16385 ∷ oid 16384 ∷ []
referred_once = refl

-- its further locks come after this test, each with its own
pub referred_in_use : effect_of (λ scan. scan_of scan seen) (plan_of (opened (codes "i") 16389 ∷ opened (codes "u") 16384 ∷ []) (commands.DropTable (codes "t"))) ≡ Refuses (errors.InUse (oid 16384))
referred_in_use = refl

-- the modes
pub modes : want_of (plan_of [] (commands.CreateIndex (codes "m") (codes "t") [])) ≡ wants.Lookup (codes "t") Share
modes = refl

pub key_locks : want_of (plan_of [] (commands.AddForeign (codes "t") (codes "l") (codes "b") (codes "u") (codes "z") true)) ≡ wants.Lookup (codes "t") ShareRowExclusive
key_locks = refl

pub validation_locks : want_of (plan_of [] (commands.ValidateConstraint (codes "t") (codes "f"))) ≡ wants.Lookup (codes "t") ShareUpdateExclusive
validation_locks = refl

pub trigger_locks : want_of (plan_of [] (commands.SetTrigger (codes "t") (codes "g") true)) ≡ wants.Lookup (codes "t") ShareRowExclusive
trigger_locks = refl

pub new_trigger_locks : want_of (plan_of [] (commands.CreateTrigger (codes "t") (codes "g"))) ≡ wants.Lookup (codes "t") ShareRowExclusive
new_trigger_locks = refl

pub dropped_index_locks : want_of (plan_of [] (commands.DropIndex (codes "i"))) ≡ wants.Lookup (codes "i") AccessExclusive
dropped_index_locks = refl

pub renamed_index_locks : want_of (plan_of [] (commands.RenameIndex (codes "i") (codes "j"))) ≡ wants.Lookup (codes "i") ShareUpdateExclusive
renamed_index_locks = refl

pub default_locks : want_of (plan_of [] (commands.SetDefault (codes "t") (codes "a") (codes "one"))) ≡ wants.Lookup (codes "t") AccessExclusive
default_locks = refl

pub check_locks : want_of (plan_of [] (commands.AddCheck (codes "t") (codes "l") (codes "b>0") false)) ≡ wants.Lookup (codes "t") AccessExclusive
check_locks = refl

pub dropped_constraint_locks : want_of (plan_of [] (commands.DropConstraint (codes "t") (codes "f"))) ≡ wants.Lookup (codes "t") AccessExclusive
dropped_constraint_locks = refl
