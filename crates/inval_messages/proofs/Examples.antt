-- Worked hashes and messages, by computation.
use Rattle.std.proofs.Common.{◌≡◌, ℕ, true, None, Some, List, [], ◌∷◌, codes, negsuc, refl}
use Rattle.std.specs.List.{flat_map}
use Rattle.base_types.specs.CacheKeys.{key_hash}
use Rattle.base_types.specs.declared.col_type.ColType.TheVariants.{Int4, Text}
use Rattle.base_types.specs.declared.kind.Kind.TheVariants.{Table}
use Rattle.base_types.specs.declared.key.KeyPart.TheVariants as parts
use Rattle.base_types.specs.declared.row.ConKind.TheVariants.{Check, Foreign}
use Rattle.base_types.specs.declared.row.Row.TheVariants.{Class, Att, Con, Def}
use Rattle.inval_messages.specs.Types.{Oid, Row, RelName, RelOid, AttName, Cat, Rel}
use Rattle.inval_messages.specs.Changes.{cats_of, rels_of}
use Rattle.inval_messages.specs.Lists.{Written, cats_in, rels_in, sent_in, once_more, rest_of_parts}

abbrev pub oid : ℕ → Oid
oid n = record { 0 = n }

-- two names of one hash
pub hash_of_an : key_hash RelName (parts.Name (codes "an") ∷ []) ≡ 4078
hash_of_an = refl

pub hash_of_c0 : key_hash RelName (parts.Name (codes "c0") ∷ []) ≡ 4078
hash_of_c0 = refl

-- a relation and a column's name
pub hash_of_column : key_hash AttName (parts.Oid (oid 16384) ∷ parts.Name (codes "a") ∷ []) ≡ 85949054
hash_of_column = refl

-- `t` with its columns `a int4` and `b text`
abbrev pub t_row : Row
t_row = Class (oid 16384) (codes "t") Table None

abbrev pub a_row : Row
a_row = Att (oid 16384) 1 (codes "a") Int4 (negsuc 0) true

abbrev pub b_row : Row
b_row = Att (oid 16384) 2 (codes "b") Text (negsuc 0) true

-- a new table of two columns: the table by name and by oid, and each column
pub cats_of_table : flat_map (λ row. cats_of None (Some row)) (t_row ∷ a_row ∷ b_row ∷ [])
    ≡ Cat RelName 147 ∷ Cat RelOid 1849026 ∷ Cat AttName 85949054 ∷ Cat AttName 85949055 ∷ []
cats_of_table = refl

-- and its relation, three times
pub rels_of_table : flat_map (λ row. rels_of None (Some row)) (t_row ∷ a_row ∷ b_row ∷ []) ≡ Rel (oid 16384) ∷ Rel (oid 16384) ∷ Rel (oid 16384) ∷ []
rels_of_table = refl

-- which is sent once
pub once_of_table : once_more (once_more (once_more [] (Rel (oid 16384))) (Rel (oid 16384))) (Rel (oid 16384)) ≡ Rel (oid 16384) ∷ []
once_of_table = refl

-- a table with another name: both names, and its oid once
pub cats_of_rename : cats_of (Some t_row) (Some (Class (oid 16384) (codes "u") Table None)) ≡ Cat RelName 147 ∷ Cat RelName 148 ∷ Cat RelOid 1849026 ∷ []
cats_of_rename = refl

-- names of one hash send it once
pub cats_of_equal_hashes : cats_of (Some (Class (oid 16384) (codes "an") Table None)) (Some (Class (oid 16384) (codes "c0") Table None)) ≡ Cat RelName 4078 ∷ Cat RelOid 1849026 ∷ []
cats_of_equal_hashes = refl

-- a column that goes away
pub cats_of_gone_column : cats_of (Some a_row) None ≡ Cat AttName 85949054 ∷ []
cats_of_gone_column = refl

pub rels_of_gone_column : rels_of (Some a_row) None ≡ Rel (oid 16384) ∷ []
rels_of_gone_column = refl

-- a foreign key sends its own relation alone, a check and a default send nothing
pub rels_of_foreign_key : rels_of None (Some (Con (oid 16386) (oid 16385) (codes "k") true (Foreign 1 (oid 16384) 1))) ≡ Rel (oid 16385) ∷ []
rels_of_foreign_key = refl

pub rels_of_check : rels_of None (Some (Con (oid 16386) (oid 16385) (codes "k") true (Check (codes "a>0")))) ≡ []
rels_of_check = refl

pub rels_of_default : rels_of None (Some (Def (oid 16386) (oid 16385) 1 (codes "0"))) ≡ []
rels_of_default = refl

-- two commands: what a commit sends, catalog parts before relation parts
abbrev pub two_commands : List Written
two_commands = record { command = 1; cats = Cat RelName 147 ∷ []; rels = Rel (oid 16384) ∷ [] } ∷ record { command = 3; cats = Cat AttName 85949054 ∷ []; rels = Rel (oid 16384) ∷ [] } ∷ []

pub sent_of_two_commands : sent_in two_commands ≡ Cat RelName 147 ∷ Cat AttName 85949054 ∷ Rel (oid 16384) ∷ Rel (oid 16384) ∷ []
sent_of_two_commands = refl

-- after the catalog parts the relation parts are left
pub rest_of_two_commands : rest_of_parts 2 (cats_in two_commands) (rels_in two_commands) ≡ Rel (oid 16384) ∷ Rel (oid 16384) ∷ []
rest_of_two_commands = refl
