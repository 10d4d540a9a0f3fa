-- A relation with which a lookup ends is seen, with the kind that the name's scan gave, and a table with the name: where that scan still serves, the relation is locked in any mode and all locks are clear.
use Rattle.std.proofs.Common.{◌≡◌, ◌<◌, ◌∙◌, ◌⊎◌, inl, inr, ◌&&◌, ℕ, Bool, true, false, Option, Some, List, [], ◌∷◌, refl, ap, sym, subst, map}
use Rattle.std.specs.List.{AllByRecursion}
use Rattle.base_types.specs.declared.kind.Kind.TheVariants.{Table}
use Rattle.base_types.specs.declared.row.Row.TheVariants as rows
use Rattle.base_types.specs.declared.scan.Purpose.TheVariants as scans
use Rattle.base_types.specs.Scans.{selects}
use Rattle.lock_modes.specs.Own.{has_lock, cleared}
use Rattle.ddl_effect.specs.Plans.{Lookup, Plan}
use Rattle.history_model.specs.Drawn.{next_oid}
use Rattle.history_model.specs.Orderly.{main_rel}
use Rattle.history_model.specs.Sound.{IsSound}
use Rattle.history_model.specs.Prefixes.{EachEntry}
use Rattle.history_model.specs.Read.{rows_read, is_usable}
use Rattle.history_model.specs.Versions.{answer_of}
use Rattle.history_model.proofs.Asking.{bytes_same}
use Rattle.history_model.proofs.FirmByName.{found_firm}
use Rattle.history_model.proofs.Locked.{IsSeenOf, IsFirm, firm_seen, firm_table}
use Rattle.history_model.proofs.Observed.{IsDirty}
use Rattle.history_model.proofs.ReadRows.{read_asked, read_drawn}
use Rattle.cacheless.specs.Facts.{Facts}
use Rattle.cacheless.specs.Types.{Oid, Mode, AccessExclusive, Kind, Row, Entry, Scenario}
use Rattle.cacheless.specs.OnCourse.{GaveNow}
use Rattle.cacheless.specs.Work.{work_of}
use Rattle.cacheless.specs.Plays.{Plays}
use Rattle.cacheless.specs.Session.{Session}
use Rattle.cacheless.specs.Sessions.{session_of}
use Rattle.cacheless.specs.Settled.{if_locked, has_taken_no_other, has_accepted_in, looked_up_in}
use Rattle.cacheless.specs.TableWrites.{WritesNamesApart}
use Rattle.cacheless.proofs.OneName.{seen_by_name}
use Rattle.cacheless.proofs.Plans.ClearLocks.{lock_keeps_out, session_holds}
use Rattle.cacheless.proofs.KnownChanges.{changes_known}
use Rattle.cacheless.proofs.ProtectedFields.{AreKeptOut, kept_out, not_dirty}

-- the relation that the scan of a name gave had that name
read_named : (history : List Entry) (b : ℕ) (name : List ℕ) (rel : Oid) (own : List ℕ) (kind : Kind) (fill : Option ℕ) (more : List Row) → IsSound history → rows_read history b (scans.RelName name) ≡ rows.Class rel own kind fill ∷ more → own ≡ name
read_named history b name rel own kind fill more sound gave = bytes_same own name (subst (AllByRecursion (λ row. selects (scans.RelName name) row ≡ true)) gave (read_asked history b (scans.RelName name) sound)).0

-- of a sound history in which backends do what their commands say: a relation that the scan of a name gave first is seen with this kind, and with this name unless it is an index, where the scan still serves, and all who hold AccessExclusive are kept out of the relation by clear locks
pub found_kept : (scenario : Scenario) (history : List Entry) (b : ℕ) (name : List ℕ) (rel : Oid) (own : List ℕ) (kind : Kind) (fill : Option ℕ) (more : List Row) → IsSound history → Plays scenario history → AreKeptOut scenario history b rel (AccessExclusive ∷ [])
    → is_usable history b (scans.RelName name) ≡ true → rows_read history b (scans.RelName name) ≡ rows.Class rel own kind fill ∷ more → IsFirm history b rel name kind
found_kept scenario history b name rel own kind fill more sound plays out usable gave = of (found_firm history b name rel own kind fill more sound (changes_known scenario history sound plays) usable gave)
  where
    of : IsFirm history b rel own kind ⊎ IsDirty history b rel (AccessExclusive ∷ []) (scans.RelName name) → IsFirm history b rel name kind
    of (inl firm) = subst (λ n. IsFirm history b rel n kind) (read_named history b name rel own kind fill more sound gave) firm
    of (inr dirty) = absurd (not_dirty history b rel (AccessExclusive ∷ []) (scans.RelName name) (kept_out scenario history b rel (AccessExclusive ∷ []) sound plays out) dirty)

-- so it is seen with this kind
pub found_kept_out : (scenario : Scenario) (history : List Entry) (b : ℕ) (name : List ℕ) (rel : Oid) (own : List ℕ) (kind : Kind) (fill : Option ℕ) (more : List Row) → IsSound history → Plays scenario history → AreKeptOut scenario history b rel (AccessExclusive ∷ [])
    → is_usable history b (scans.RelName name) ≡ true → rows_read history b (scans.RelName name) ≡ rows.Class rel own kind fill ∷ more → IsSeenOf history b rel kind
found_kept_out scenario history b name rel own kind fill more sound plays out usable gave = firm_seen history b rel name kind (found_kept scenario history b name rel own kind fill more sound plays out usable gave)

-- and the name of a table gives it still, and nothing else, but for its fillfactor
pub name_kept : (scenario : Scenario) (history : List Entry) (b : ℕ) (name : List ℕ) (rel : Oid) (own : List ℕ) (fill : Option ℕ) (more : List Row) → IsSound history → EachEntry WritesNamesApart history → Plays scenario history
    → AreKeptOut scenario history b rel (AccessExclusive ∷ []) → is_usable history b (scans.RelName name) ≡ true → rows_read history b (scans.RelName name) ≡ rows.Class rel own Table fill ∷ more
    → (now : Option ℕ) × (answer_of history b (scans.RelName name) ≡ rows.Class rel name Table now ∷ [])
name_kept scenario history b name rel own fill more sound apart plays out usable gave =
    let seen = firm_table history b rel name (found_kept scenario history b name rel own Table fill more sound plays out usable gave) in (seen.0, seen_by_name history b rel name Table sound apart seen ∙ seen.1)

-- a lookup ends: its scan still serves, the relation that this gave is locked, if it gave one, and all locks are clear
pub lookup_ends : (scenario : Scenario) (history : List Entry) (b : ℕ) (s t : Session) (facts : Facts) (name : List ℕ) (mode : Mode) (rest : List Row → Plan) (given : List Row) → IsSound history → Plays scenario history → session_of scenario history b ≡ Some s → s.locks ≡ t.locks → map cleared t.locks ≡ t.locks
    → is_usable history b (scans.RelName name) ≡ true → looked_up_in facts (work_of t) mode (rows_read history b (scans.RelName name)) ≡ Some given → GaveNow history b (Lookup name mode) rest given
lookup_ends scenario history b s t facts name mode rest given sound plays is same clear usable gives = of (rows_read history b (scans.RelName name)) refl gives
  where
    Gave : List Row → Type 0
    Gave = GaveNow history b (Lookup name mode) rest

    if_ends : (u : Bool) (read : List Row) → if_locked u read ≡ Some given → Gave read → Gave given
    if_ends true read gives' gave = subst Gave (let same : read ≡ given = cc gives' in same) gave
    if_ends false read gives' gave = absurd (cc gives')

    of : (read : List Row) → rows_read history b (scans.RelName name) ≡ read → looked_up_in facts (work_of t) mode read ≡ Some given → Gave given
    of [] gave gives' = if_ends (has_accepted_in facts (work_of t)) [] gives' (record { locked = tt; drawn = tt; still = tt })
    of (rows.Class rel own kind fill ∷ more) gave gives' = by_lock (has_lock t.locks rel mode) refl gives'
      where
        by_lock : (u : Bool) → has_lock t.locks rel mode ≡ u → if_locked (u && has_taken_no_other t.taken rel) (rows.Class rel own kind fill ∷ []) ≡ Some given → Gave given
        by_lock true has gives'' =
            let holds = ap (λ l. has_lock l rel mode) same ∙ has in
            let seen = found_kept_out scenario history b name rel own kind fill more sound plays (lock_keeps_out scenario history b s rel mode is (subst (λ l. map cleared l ≡ l) (sym same) clear) holds) usable gave in
            if_ends (has_taken_no_other t.taken rel) (rows.Class rel own kind fill ∷ []) gives'' (record {
              locked = (session_holds scenario history b s sound is rel mode ∙ holds, tt);
              drawn = tt;
              still = record { name = seen.0; fill = seen.1.0; more = []; are = seen.1.1 };
            })
        by_lock false has gives'' = absurd (cc gives'')
    of (row ∷ more) gave gives' = if_ends (has_accepted_in facts (work_of t)) (row ∷ []) gives' (record { locked = tt; drawn = tt; still = tt })

-- the relation that a lookup asks to lock has a drawn oid, whether it is seen or not
pub asked_drawn : (history : List Entry) (b : ℕ) (name : List ℕ) (rel : Oid) (own : List ℕ) (kind : Kind) (fill : Option ℕ) (more : List Row) → IsSound history → rows_read history b (scans.RelName name) ≡ rows.Class rel own kind fill ∷ more → rel.0 < next_oid history
asked_drawn history b name rel own kind fill more sound gave = (subst (AllByRecursion (λ row. (main_rel row).0 < next_oid history)) gave (read_drawn history b (scans.RelName name) sound)).0
