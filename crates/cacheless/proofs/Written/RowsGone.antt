-- What `drop constraint` writes may be written.
use Rattle.std.proofs.Common.{◌≡◌, inl, inr, ℕ, true, false, None, List, [], ◌∷◌, not, refl, ap, arith}
use Rattle.std.specs.List.{AllByRecursion}
use Rattle.std.specs.Str.{bytes_eq}
use Rattle.std.proofs.lemmas.Bool.{and_parts}
use Rattle.base_types.specs.Scans.{same_oid}
use Rattle.base_types.specs.declared.row.Row.TheVariants as rows
use Rattle.base_types.specs.declared.scan.Purpose.TheVariants as scans
use Rattle.lock_modes.specs.Grants.{holds}
use Rattle.ddl_effect.specs.Constraints.{is_own_named}
use Rattle.ddl_effect.specs.Tables.{is_of_other, referred_by}
use Rattle.history_model.specs.Held.{held_of}
use Rattle.history_model.specs.Sound.{IsSound}
use Rattle.history_model.specs.Sent.{messages_written}
use Rattle.history_model.proofs.Every.{every-weaker, every-both}
use Rattle.history_model.proofs.InOrder.{IsIn, every_self}
use Rattle.cacheless.specs.Types.{Oid, AccessExclusive, Row, Entry, Item, Opening}
use Rattle.cacheless.specs.TableWrites.{goes_together}
use Rattle.cacheless.proofs.Written.FitToWrite.{all_pass}
use Rattle.cacheless.proofs.Written.LeavingItems.{LeavesColumns, leave_keep}
use Rattle.cacheless.proofs.Written.NewRows.{HasOwnOid, own_leaves, own_together}
use Rattle.cacheless.proofs.Written.SeenRows.{IsGiven}
use Rattle.cacheless.proofs.Written.TableDropped.{constraint_may_go}
use Rattle.cacheless.proofs.Written.WrittenParts.{items_in, every_part, MayGo, parts_fit, MayAlter, parts_alter, IsTold, forced_told}

own_named : (rel : Oid) (name : List ℕ) (row : Row) → is_own_named rel name row ≡ true → HasOwnOid row × (is_of_other rel row ≡ false)
own_named rel name (rows.Con oid of own valid what) is = (tt, ap not (and_parts (same_oid of rel) (bytes_eq own name) is).0)
own_named rel name row is = absurd (cc is)

-- `drop constraint`: its relation is told, and of a foreign key the table to which it refers
pub constraint_alters : (before : List Entry) (b : ℕ) (opened : List Opening) (rel : Oid) (name : List ℕ) (row : Row) → IsSound before → holds (held_of before) b rel AccessExclusive ≡ true → AllByRecursion (λ o. holds (held_of before) b o AccessExclusive ≡ true) (referred_by row)
    → IsGiven before b (scans.Constraint rel) row → is_own_named rel name row ≡ true → MayAlter before b opened 0 None (items_in (row ∷ []) [] (rel ∷ referred_by row))
constraint_alters before b opened rel name row sound has others given named = parts_alter before b opened 0 None gone [] forced (parts_fit before b 0 gone [] forced sound refl refl (may, tt) tt)
    (leave_keep before b items (every_part LeavesColumns gone [] forced (own_leaves row (own_named rel name row named).0, tt) tt (λ o. tt)))
    (record { together = all_pass (goes_together before b items) items (every_part (λ item. goes_together before b items item ≡ true) gone [] forced (own_together before b items row (own_named rel name row named).0, tt) tt (λ o. refl)) })
    tt (λ facts read own is. is) (λ c. refl) (omega arith)
  where
    gone : List Row
    gone = row ∷ []

    forced : List Oid
    forced = rel ∷ referred_by row

    items : List Item
    items = items_in gone [] forced

    told : (o : Oid) → IsIn o forced → IsTold (messages_written before b items) o
    told o there = forced_told before b gone [] forced o there

    may : MayGo before b (messages_written before b items) row
    may = constraint_may_go before b rel (messages_written before b items) row has (told rel (inl refl)) given (own_named rel name row named).1
        (every-weaker (λ o. (holds (held_of before) b o AccessExclusive ≡ true) × IsIn o (referred_by row)) (λ o. (holds (held_of before) b o AccessExclusive ≡ true) × IsTold (messages_written before b items) o) (λ o both. (both.0, told o (inr both.1))) (referred_by row)
        (every-both (λ o. holds (held_of before) b o AccessExclusive ≡ true) (λ o. IsIn o (referred_by row)) (referred_by row) others (every_self (referred_by row))))
