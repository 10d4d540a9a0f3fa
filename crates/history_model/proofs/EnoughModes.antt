-- What a mode that is enough for a change tells of a row that the change names: under which modes such a row is changed.
use Rattle.std.proofs.Common.{◌≡◌, ◌⊎◌, inl, inr, ℕ, Bool, true, false, Option, Some, None, List, [], ◌∷◌, ◌||◌, if◌then◌else◌, refl, sym, subst}
use Rattle.std.specs.List.{AllByRecursion, list_any}
use Rattle.std.specs.Option.{IfSome}
use Rattle.std.proofs.lemmas.Bool.{eq-eqb, or_cases, or_right}
use Rattle.base_types.specs.declared.ids.Oid.{Oid}
use Rattle.base_types.specs.declared.mode.Mode.{Mode}
use Rattle.base_types.specs.declared.mode.Mode.TheVariants.{AccessShare, RowShare, RowExclusive, ShareUpdateExclusive, Share, ShareRowExclusive, Exclusive, AccessExclusive}
use Rattle.base_types.specs.declared.row.Row.{Row}
use Rattle.base_types.specs.declared.row.ConKind.TheVariants as demands
use Rattle.base_types.specs.declared.row.Row.TheVariants as rows
use Rattle.base_types.specs.Modes.{same_mode}
use Rattle.base_types.specs.RowKeys.{key_of}
use Rattle.base_types.specs.Scans.{same_oid}
use Rattle.event_kinds.specs.declared.entry.Item.{Item}
use Rattle.event_kinds.specs.declared.entry.Item.TheVariants as forms
use Rattle.lock_modes.specs.declared.grant.Grant.{Grant}
use Rattle.history_model.specs.Covered.{same_row}
use Rattle.history_model.specs.Orderly.{main_rel, is_apart}
use Rattle.history_model.specs.Changing.{relations_changed, is_validation, update_where, name_allowed, mode_to_add, mode_to_replace, mode_to_remove, weaker_mode, enough_with, modes_enough}
use Rattle.history_model.proofs.Every.{every-weaker, every, every-both}
use Rattle.history_model.proofs.Guards.{is_changing, is_exclusive, exclusive_changes, IsHeldIn, held_in-weaker, IsGuarded}

pub mode_is : (a b : Mode) → same_mode a b ≡ true → a ≡ b
mode_is AccessShare AccessShare is = refl
mode_is RowShare RowShare is = refl
mode_is RowExclusive RowExclusive is = refl
mode_is ShareUpdateExclusive ShareUpdateExclusive is = refl
mode_is Share Share is = refl
mode_is ShareRowExclusive ShareRowExclusive is = refl
mode_is Exclusive Exclusive is = refl
mode_is AccessExclusive AccessExclusive is = refl
mode_is a b is = absurd (cc)

-- the mode is enough for a change on a relation
abbrev pub is_enough : Option Row → Item → Oid → Mode → Bool
is_enough old item rel mode = list_any (same_mode mode) (modes_enough old item rel)

among_enough : (o : Option Mode) → list_any (same_mode AccessExclusive) (enough_with o) ≡ true
among_enough None = refl
among_enough (Some mode) = or_right (same_mode AccessExclusive mode) true refl

-- AccessExclusive always is
pub exclusive_enough : (old : Option Row) (item : Item) (rel : Oid) (mode : Mode) → is_exclusive mode ≡ true → is_enough old item rel mode ≡ true
exclusive_enough old item rel AccessExclusive is = among_enough (weaker_mode old item rel)
exclusive_enough old item rel mode is = absurd (cc)

-- a test that AccessExclusive passes, and the weaker mode that is enough if there is one, each that is enough passes
pub enough_passes : (test : Mode → Bool) (old : Option Row) (item : Item) (rel : Oid) → test AccessExclusive ≡ true → IfSome (weaker_mode old item rel) (λ mode. test mode ≡ true) → (mode : Mode) → is_enough old item rel mode ≡ true → test mode ≡ true
enough_passes test old item rel strong weaker mode is = by (weaker_mode old item rel) weaker is
  where
    one : (other : Mode) → test other ≡ true → same_mode mode other ≡ true → test mode ≡ true
    one other passes same = subst (λ m. test m ≡ true) (sym (mode_is mode other same)) passes

    last : (same_mode mode AccessExclusive || false) ≡ true → test mode ≡ true
    last here = by_place (or_cases (same_mode mode AccessExclusive) false here)
      where
        by_place : (same_mode mode AccessExclusive ≡ true) ⊎ (false ≡ true) → test mode ≡ true
        by_place (inl same) = one AccessExclusive strong same
        by_place (inr none) = absurd (cc)

    by : (o : Option Mode) → IfSome o (λ m. test m ≡ true) → list_any (same_mode mode) (enough_with o) ≡ true → test mode ≡ true
    by None held here = last here
    by (Some weak) held here = by_place (or_cases (same_mode mode weak) (same_mode mode AccessExclusive || false) here)
      where
        by_place : (same_mode mode weak ≡ true) ⊎ ((same_mode mode AccessExclusive || false) ≡ true) → test mode ≡ true
        by_place (inl same) = one weak held same
        by_place (inr there) = last there

-- a row is one that a change names: the row that it adds, or of a replaced or removed one the old one
abbrev pub IsNamed : Option Row → Item → Row → Type 0
IsNamed old (forms.Add new) row = (new ≡ row) × (is_apart new ≡ true)
IsNamed old (forms.Put new) row = (new ≡ row) ⊎ (old ≡ Some row)
IsNamed old (forms.Remove key) row = old ≡ Some row
IsNamed old (forms.Force rel) row = ⊥

-- the modes under which a row is changed, besides AccessExclusive: ShareUpdateExclusive, Share, ShareRowExclusive
abbrev pub under_update : Mode → Bool
under_update ShareUpdateExclusive = true
under_update AccessExclusive = true
under_update mode = false

abbrev pub under_share : Mode → Bool
under_share Share = true
under_share AccessExclusive = true
under_share mode = false

abbrev pub under_row : Mode → Bool
under_row ShareRowExclusive = true
under_row AccessExclusive = true
under_row mode = false

-- the relations on which whoever changes a row holds a lock, each with the modes of which it is one
abbrev pub kept_by : Row → List (Oid × (Mode → Bool))
kept_by (rows.Class oid name kind fill) = (oid, under_update) ∷ []
kept_by (rows.Att rel num name col_type stat live) = (rel, under_update) ∷ []
kept_by (rows.Def oid rel num word) = (rel, is_exclusive) ∷ []
kept_by (rows.Ind index table state nums) = (index, is_exclusive) ∷ (table, under_share) ∷ []
kept_by (rows.Con oid rel name valid what) = (rel, is_changing) ∷ []
kept_by (rows.Trg oid rel name on) = (rel, under_row) ∷ []

-- such a change is allowed under no weaker mode
abbrev AllowsIn : Option Row → Item → Row → Type 0
AllowsIn old item row = AllByRecursion (λ k. IfSome (weaker_mode old item k.0) (λ mode. k.1 mode ≡ true)) (kept_by row)

update_in : (test : Mode → Bool) (t : Bool) → test ShareUpdateExclusive ≡ true → IfSome (update_where t) (λ mode. test mode ≡ true)
update_in test true is = is
update_in test false is = tt

added_in : (row : Row) → is_apart row ≡ true → AllByRecursion (λ k. IfSome (mode_to_add row k.0) (λ mode. k.1 mode ≡ true)) (kept_by row)
added_in (rows.Class oid name kind fill) apart = (tt, tt)
added_in (rows.Att rel num name col_type stat live) apart = (tt, tt)
added_in (rows.Def oid rel num word) apart = (tt, tt)
added_in (rows.Ind index table state nums) apart = (own (same_oid table index) apart, (on (same_oid table table) (eq-eqb table.0 table.0 refl), tt))
  where
    own : (t : Bool) → (if t then false else true) ≡ true → IfSome (if t then Some Share else None) (λ mode. is_exclusive mode ≡ true)
    own true is = absurd (cc)
    own false is = tt

    on : (t : Bool) → t ≡ true → IfSome (if t then Some Share else None) (λ mode. under_share mode ≡ true)
    on true is = refl
    on false is = tt
added_in (rows.Con oid rel name valid (demands.Foreign num refrel refnum)) apart = (refl, tt)
added_in (rows.Con oid rel name valid (demands.Check text)) apart = (tt, tt)
added_in (rows.Trg oid rel name on) apart = (refl, tt)

abbrev ReplacesIn : Option Row → Row → Row → Type 0
ReplacesIn old new row = AllByRecursion (λ k. IfSome (mode_to_replace old new) (λ mode. k.1 mode ≡ true)) (kept_by row)

no_mode : (row : Row) → AllByRecursion (λ k. IfSome None (λ (mode : Mode). k.1 mode ≡ true)) (kept_by row)
no_mode row = every (λ k. IfSome None (λ (mode : Mode). k.1 mode ≡ true)) (λ k. tt) (kept_by row)

replaced_in : (old new : Row) → ReplacesIn (Some old) new old × ReplacesIn (Some old) new new
replaced_in (rows.Class oid own kind old) (rows.Class to name kind' fill) =
    let one = update_in under_update (same_row (rows.Class oid (name_allowed kind own name) kind fill) (rows.Class to name kind' fill)) refl in ((one, tt), (one, tt))
replaced_in (rows.Att rel num own col_type old live) (rows.Att to num' name col_type' stat live') =
    let one = update_in under_update (same_row (rows.Att rel num own col_type stat live) (rows.Att to num' name col_type' stat live')) refl in ((one, tt), (one, tt))
replaced_in (rows.Con oid rel own old what) (rows.Con to of name valid what') =
    let one = update_in is_changing (same_row (rows.Con oid rel own valid what) (rows.Con to of name valid what')) refl in ((one, tt), (one, tt))
replaced_in (rows.Trg oid rel own old) (rows.Trg to of name on) = ((refl, tt), (refl, tt))
replaced_in old new = (no_mode old, no_mode new)

removed_in : (row : Row) → AllByRecursion (λ k. IfSome (weaker_mode (Some row) (forms.Remove (key_of row)) k.0) (λ mode. k.1 mode ≡ true)) (kept_by row)
removed_in (rows.Trg oid rel name on) = (refl, tt)
removed_in row = no_mode row

allowed_in : (old : Option Row) (item : Item) (row : Row) → IsNamed old item row → AllowsIn old item row
allowed_in old (forms.Add new) row named = subst (λ r. AllByRecursion (λ k. IfSome (mode_to_add new k.0) (λ mode. k.1 mode ≡ true)) (kept_by r)) named.0 (added_in new named.1)
allowed_in None (forms.Put new) row named = no_mode row
allowed_in (Some old) (forms.Put new) row (inl is) = subst (ReplacesIn (Some old) new) is (replaced_in old new).1
allowed_in (Some old) (forms.Put new) row (inr is) = let same : old ≡ row = cc in subst (ReplacesIn (Some old) new) same (replaced_in old new).0
allowed_in None (forms.Remove key) row named = absurd (cc)
allowed_in (Some old) (forms.Remove key) row named = let same : old ≡ row = cc in subst (λ r. AllByRecursion (λ k. IfSome (mode_to_remove (Some old)) (λ mode. k.1 mode ≡ true)) (kept_by r)) same (removed_in old)
allowed_in old (forms.Force rel) row named = absurd named

kept_strong : (row : Row) → AllByRecursion (λ k. k.1 AccessExclusive ≡ true) (kept_by row)
kept_strong (rows.Class oid name kind fill) = (refl, tt)
kept_strong (rows.Att rel num name col_type stat live) = (refl, tt)
kept_strong (rows.Def oid rel num word) = (refl, tt)
kept_strong (rows.Ind index table state nums) = (refl, (refl, tt))
kept_strong (rows.Con oid rel name valid what) = (refl, tt)
kept_strong (rows.Trg oid rel name on) = (refl, tt)

-- what holds of each relation of a row that is changed holds of those on which a lock is held
pub kept_changed : (P : Oid → Type 0) (validated : Bool) (row : Row) → AllByRecursion P (relations_changed validated row) → AllByRecursion (λ k. P k.0) (kept_by row)
kept_changed P validated (rows.Class oid name kind fill) all = all
kept_changed P validated (rows.Att rel num name col_type stat live) all = all
kept_changed P validated (rows.Def oid rel num word) all = all
kept_changed P validated (rows.Ind index table state nums) all = all
kept_changed P true (rows.Con oid rel name valid (demands.Foreign num refrel refnum)) all = all
kept_changed P false (rows.Con oid rel name valid (demands.Foreign num refrel refnum)) all = (all.0, tt)
kept_changed P validated (rows.Con oid rel name valid (demands.Check text)) all = all
kept_changed P validated (rows.Trg oid rel name on) all = all

-- on each relation of a row that is changed a mode is held that is enough
abbrev pub IsHeldFor : List Grant → ℕ → ℕ → Option Row → Item → Row → Type 0
IsHeldFor held b c old item row = IsNamed old item row × AllByRecursion (λ rel. IsHeldIn (is_enough old item rel) held b c rel) (relations_changed (is_validation old item) row)

-- on each relation that keeps the row one of its modes is held
abbrev pub IsKept : List Grant → ℕ → ℕ → Row → Type 0
IsKept held b c row = AllByRecursion (λ k. IsHeldIn k.1 held b c k.0) (kept_by row)

-- so a row that a change names is kept
pub held_kept : (held : List Grant) (b c : ℕ) (old : Option Row) (item : Item) (row : Row) → IsHeldFor held b c old item row → IsKept held b c row
held_kept held b c old item row held_for =
    every-weaker (λ k. (IfSome (weaker_mode old item k.0) (λ mode. k.1 mode ≡ true) × (k.1 AccessExclusive ≡ true)) × IsHeldIn (is_enough old item k.0) held b c k.0) (λ k. IsHeldIn k.1 held b c k.0)
    (λ k h. held_in-weaker (is_enough old item k.0) k.1 (enough_passes k.1 old item k.0 h.0.1 h.0.0) held b c k.0 h.1) (kept_by row)
    (every-both (λ k. IfSome (weaker_mode old item k.0) (λ mode. k.1 mode ≡ true) × (k.1 AccessExclusive ≡ true)) (λ k. IsHeldIn (is_enough old item k.0) held b c k.0) (kept_by row)
    (every-both (λ k. IfSome (weaker_mode old item k.0) (λ mode. k.1 mode ≡ true)) (λ k. k.1 AccessExclusive ≡ true) (kept_by row) (allowed_in old item row held_for.0) (kept_strong row))
    (kept_changed (λ rel. IsHeldIn (is_enough old item rel) held b c rel) (is_validation old item) row held_for.1))

update_changing : (mode : Mode) → under_update mode ≡ true → is_changing mode ≡ true
update_changing ShareUpdateExclusive is = refl
update_changing AccessExclusive is = refl
update_changing mode is = absurd (cc)

row_changing : (mode : Mode) → under_row mode ≡ true → is_changing mode ≡ true
row_changing ShareRowExclusive is = refl
row_changing AccessExclusive is = refl
row_changing mode is = absurd (cc)

-- and on its own relation a mode is held that no two backends may hold
pub kept_guarded : (held : List Grant) (b c : ℕ) (row : Row) → IsKept held b c row → IsGuarded held b c (main_rel row)
kept_guarded held b c (rows.Class oid name kind fill) kept = held_in-weaker under_update is_changing update_changing held b c oid kept.0
kept_guarded held b c (rows.Att rel num name col_type stat live) kept = held_in-weaker under_update is_changing update_changing held b c rel kept.0
kept_guarded held b c (rows.Def oid rel num word) kept = held_in-weaker is_exclusive is_changing exclusive_changes held b c rel kept.0
kept_guarded held b c (rows.Ind index table state nums) kept = held_in-weaker is_exclusive is_changing exclusive_changes held b c index kept.0
kept_guarded held b c (rows.Con oid rel name valid what) kept = kept.0
kept_guarded held b c (rows.Trg oid rel name on) kept = held_in-weaker under_row is_changing row_changing held b c rel kept.0
