-- A worked example: a backend has found a table, and holds no lock on it, while another drops it. The table is gone for the first, though the scan of its name still serves. What the drop writes is what the law says that it may write. A lock that is granted then is one on a table that is gone, which shows once its messages are fetched.
use Rattle.std.proofs.Common.{◌≡◌, ◌++◌, inl, inr, ℕ, true, false, None, List, [], ◌∷◌, codes, refl, arith}
use Rattle.base_types.specs.declared.index_state.IndexState.{IndexState}
use Rattle.base_types.specs.declared.kind.Kind.TheVariants.{Table}
use Rattle.base_types.specs.declared.mode.Mode.TheVariants.{AccessShare, AccessExclusive}
use Rattle.base_types.specs.declared.row.Row.TheVariants as rows
use Rattle.base_types.specs.declared.row_key.RowKey.TheVariants.{Class, Att}
use Rattle.base_types.specs.declared.scan.Purpose.TheVariants as scans
use Rattle.event_kinds.specs.declared.entry.Entry.{Entry}
use Rattle.event_kinds.specs.declared.entry.Event.TheVariants.{Look, Fetch, LockOk, Write, Visible, Publish, Release}
use Rattle.event_kinds.specs.declared.entry.Item.{Item}
use Rattle.event_kinds.specs.declared.entry.Item.TheVariants.{Add, Remove}
use Rattle.history_model.specs.Sound.{MayComeNext, IsSound}
use Rattle.history_model.specs.Read.{is_usable}
use Rattle.history_model.specs.Versions.{rows_of, answer_of}
use Rattle.history_model.proofs.InOrder.{IsIn}
use Rattle.history_model.proofs.Prefixes.{EachEntry-prefix}
use Rattle.cacheless.specs.TableWrites.{KeepsColumns, AreNamedApart}
use Rattle.cacheless.specs.Types.{Oid}
use Rattle.cacheless.proofs.Histories.AlteredTable.{found}
use Rattle.cacheless.proofs.Plans.Given.{oid, xid, entry}
use Rattle.cacheless.proofs.Written.TableDropped.{table_goes}
use Rattle.cacheless.proofs.Written.WrittenParts.{MayAlter}

-- the first backend locks the table that the second has found
abbrev pub locked : List Entry
locked = entry 1 2 (LockOk (oid 16384) AccessExclusive) ∷ []

-- what it writes
abbrev pub removed : List Item
removed = Remove (Att (oid 16384) 1) ∷ Remove (Att (oid 16384) 2) ∷ Remove (Class (oid 16384)) ∷ []

-- and drops it
abbrev pub dropped : List Entry
dropped = entry 1 2 (Write (xid 2) removed) ∷ entry 1 2 (Visible (xid 2)) ∷ []

sound : IsSound (found ++ (locked ++ dropped))
sound = search arith

-- the law says so of these items
pub may_drop : MayAlter (found ++ locked) 1 [] 0 None removed
may_drop = table_goes (found ++ locked) 1 [] (oid 16384) (codes "t") None (record {
  sound = EachEntry-prefix MayComeNext (found ++ locked) dropped sound;
  has = refl;
  seen = inl refl;
  law = λ index table state nums there. absurd (no_index index table state nums there);
  own = refl;
  others = tt;
  locked = tt;
})
  where
    no_index : (index table : Oid) (state : IndexState) (nums : List ℕ) → IsIn (rows.Ind index table state nums) (rows_of (found ++ locked) 1) → ⊥
    no_index index table state nums (inl same) = absurd (cc same)
    no_index index table state nums (inr (inl same)) = absurd (cc same)
    no_index index table state nums (inr (inr (inl same))) = absurd (cc same)
    no_index index table state nums (inr (inr (inr none))) = absurd none

-- the table is gone for the second backend
pub is_gone : answer_of (found ++ (locked ++ dropped)) 2 (scans.Class (oid 16384)) ≡ []
is_gone = refl

-- and the scan by which it has found the table still serves
pub still_serves : is_usable (found ++ (locked ++ dropped)) 2 (scans.RelName (codes "t")) ≡ true
still_serves = refl

-- a column may not be taken away alone
pub not_alone : KeepsColumns (found ++ locked) 1 (Remove (Att (oid 16384) 1) ∷ []) → ⊥
not_alone keeps = let both : false ≡ true = keeps.whole in cc both

-- nor may a write give one name to two relations
pub not_twice : AreNamedApart (Add (rows.Class (oid 16385) (codes "t") Table None) ∷ Add (rows.Class (oid 16386) (codes "t") Table None) ∷ []) → ⊥
not_twice apart = apart.0.0 refl

-- the first backend publishes the drop and lets the table go, and the second is granted the lock for which its lookup asks
abbrev pub granted : List Entry
granted = entry 1 2 (Publish 4) ∷ entry 1 2 (Publish 1) ∷ entry 1 2 (Release 2) ∷ entry 2 1 (LockOk (oid 16384) AccessShare) ∷ []

-- it fetches what was published
abbrev pub fetched : List Entry
fetched = entry 2 1 (Look true) ∷ entry 2 1 (Fetch 5) ∷ []

granted_sound : IsSound (found ++ (locked ++ (dropped ++ (granted ++ fetched))))
granted_sound = search arith

-- at the grant the scan still serves, though the table is gone
pub serves_at_grant : (is_usable (found ++ (locked ++ (dropped ++ granted))) 2 (scans.RelName (codes "t")) ≡ true) × (answer_of (found ++ (locked ++ (dropped ++ granted))) 2 (scans.Class (oid 16384)) ≡ [])
serves_at_grant = (refl, refl)

-- after the fetch it serves no longer: only a lookup that is repeated then finds out
pub serves_no_longer : is_usable (found ++ (locked ++ (dropped ++ (granted ++ fetched)))) 2 (scans.RelName (codes "t")) ≡ false
serves_no_longer = refl
