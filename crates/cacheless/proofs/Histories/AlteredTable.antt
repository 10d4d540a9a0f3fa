-- A worked example: a backend has found a table, and holds no lock on it, while another sets the table's fillfactor. For the other, under its lock, no column has number 3.
use Rattle.std.proofs.Common.{◌≡◌, ◌++◌, inl, false, Some, None, List, [], ◌∷◌, codes, true, refl, ap, arith}
use Rattle.std.specs.Str.{bytes_eq}
use Rattle.base_types.specs.declared.kind.Kind.TheVariants.{Table}
use Rattle.base_types.specs.declared.mode.Mode.TheVariants.{ShareUpdateExclusive}
use Rattle.base_types.specs.declared.row.Row.TheVariants.{Class}
use Rattle.base_types.specs.declared.row_key.RowKey.TheVariants.{Att}
use Rattle.base_types.specs.declared.scan.Purpose.TheVariants as scans
use Rattle.event_kinds.specs.declared.entry.Entry.{Entry}
use Rattle.event_kinds.specs.declared.entry.Event.TheVariants.{Start, Look, Fetch, LockOk, Scan, Write, Visible, Publish, Release}
use Rattle.event_kinds.specs.declared.entry.Item.TheVariants.{Put}
use Rattle.history_model.specs.Prefixes.{EachEntry}
use Rattle.history_model.specs.Orderly.{has_key}
use Rattle.history_model.specs.Sound.{MayComeNext, IsSound}
use Rattle.history_model.proofs.Prefixes.{EachEntry-prefix}
use Rattle.cacheless.specs.TableWrites.{KeepsColumns, WritesColumns}
use Rattle.cacheless.proofs.Plans.Given.{oid, xid, entry, wide_table}
use Rattle.cacheless.proofs.WholeColumns.{whole_columns}

-- the second backend finds the table that the first has made
abbrev pub found : List Entry
found = entry 1 0 Start ∷ entry 2 0 Start ∷ entry 1 1 (Write (xid 1) (wide_table 16384 (codes "t") 2)) ∷ entry 1 1 (Visible (xid 1)) ∷ entry 1 1 (Publish 4) ∷ entry 1 1 (Publish 1) ∷ entry 1 1 (Release 1)
    ∷ entry 2 1 (Look true) ∷ entry 2 1 (Fetch 5) ∷ entry 2 1 (Scan (scans.RelName (codes "t")) 1) ∷ []

-- the first locks it
abbrev pub locked : List Entry
locked = entry 1 2 (LockOk (oid 16384) ShareUpdateExclusive) ∷ []

-- and sets its fillfactor
abbrev pub altered : List Entry
altered = entry 1 2 (Write (xid 2) (Put (Class (oid 16384) (codes "t") Table (Some 70)) ∷ [])) ∷ entry 1 2 (Visible (xid 2)) ∷ []

sound : IsSound (found ++ (locked ++ altered))
sound = search arith

names_differ : codes "aa" ≡ codes "ab" → ⊥
names_differ is = let both : true ≡ false = ap (bytes_eq (codes "aa")) is in cc both

table_kept : KeepsColumns (entry 1 0 Start ∷ entry 2 0 Start ∷ []) 1 (wide_table 16384 (codes "t") 2)
table_kept = record {
  whole = refl;
  columns = refl;
  called = ((tt, tt), ((inl refl, tt), ((inl refl, tt), tt)));
  apart = (((λ are. are), ((λ are. are), tt)), (((λ are. names_differ are.1), tt), (tt, tt)));
}

fill_kept : KeepsColumns (found ++ locked) 1 (Put (Class (oid 16384) (codes "t") Table (Some 70)) ∷ [])
fill_kept = record {
  whole = refl;
  columns = refl;
  called = ((tt, ((λ are. are), ((λ are. are), ((λ are. are), tt)))), tt);
  apart = (tt, tt);
}

columns : EachEntry WritesColumns (found ++ (locked ++ altered))
columns = (tt, (tt, (table_kept, (tt, (tt, (tt, (tt, (tt, (tt, (tt, (tt, (fill_kept, (tt, tt)))))))))))))

-- the first may add a column of number 3
pub third_free : has_key (found ++ locked) (Att (oid 16384) 3) ≡ false
third_free = (whole_columns (found ++ locked) 1 (oid 16384) (codes "t") Table (EachEntry-prefix MayComeNext (found ++ locked) altered sound) (EachEntry-prefix WritesColumns (found ++ locked) altered columns) (None, refl) (refl, (refl, (refl, (refl, tt))))).free
