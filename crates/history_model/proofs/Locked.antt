-- Under a lock that keeps out those who change a relation's rows, a backend's answers stay, and under any lock a relation that is seen is still seen.
use Rattle.std.proofs.Common.{◌≡◌, ◌∙◌, inl, inr, ℕ, Bool, true, false, Option, Some, None, List, [], ◌∷◌, ◌++◌, ◌==◌, ◌||◌, ◌&&◌, refl, sym, ap, subst, map, filter, fold}
use Rattle.std.specs.Prelude.{⊤}
use Rattle.std.specs.List.{AllByRecursion, list_any, list_all}
use Rattle.std.proofs.lemmas.Bool.{eqb-true, eq-eqb, and_parts, and_from}
use Rattle.base_types.specs.declared.ids.Oid.{Oid}
use Rattle.base_types.specs.declared.kind.Kind.{Kind}
use Rattle.base_types.specs.declared.kind.Kind.TheVariants.{Table}
use Rattle.base_types.specs.declared.mode.Mode.{Mode}
use Rattle.base_types.specs.declared.mode.Mode.TheVariants.{AccessShare, RowShare, RowExclusive, ShareUpdateExclusive, Share, ShareRowExclusive, Exclusive, AccessExclusive}
use Rattle.base_types.specs.declared.row.Row.{Row}
use Rattle.base_types.specs.declared.row.Row.TheVariants as rows
use Rattle.base_types.specs.declared.scan.Purpose.{Purpose}
use Rattle.base_types.specs.declared.scan.Purpose.TheVariants as scans
use Rattle.base_types.specs.Modes.{same_mode, mode_number, conflicting_modes, conflicts}
use Rattle.base_types.specs.Scans.{same_oid, selects, row_number, put_in_order}
use Rattle.event_kinds.specs.declared.entry.Entry.{Entry}
use Rattle.event_kinds.specs.declared.entry.Event.{Event}
use Rattle.event_kinds.specs.declared.entry.Event.TheVariants as events
use Rattle.lock_modes.specs.declared.grant.Grant.{Grant}
use Rattle.lock_modes.specs.Grants.{is_lock, holds}
use Rattle.history_model.specs.Prefixes.{EachFrom}
use Rattle.history_model.specs.Versions.{versions_of, sees, rows_of, answer_of}
use Rattle.history_model.specs.Covered.{counted_for}
use Rattle.history_model.specs.Held.{held_by, held_of}
use Rattle.history_model.specs.Read.{is_scan_of, rows_read}
use Rattle.history_model.specs.Sound.{MayComeNext, IsSound}
use Rattle.history_model.proofs.Prefixes.{EachEntry-more, EachEntry-prefix, EachEntry-rest, EachFrom-both, EachFrom-keeps}
use Rattle.history_model.proofs.Reading.{held_of-more as held-more, rows_read-own, rows_read-other}
use Rattle.history_model.proofs.Every.{every-weaker, any-weaker, some-weaker, some-filter}
use Rattle.history_model.proofs.Asking.{oid_eq}
use Rattle.history_model.proofs.Touched.{entry_of}
use Rattle.history_model.proofs.Guards.{any_with}
use Rattle.history_model.proofs.FixedRows.{firm_name, fixed}
use Rattle.history_model.proofs.Exclude.{Agree, AllAgree}
use Rattle.history_model.proofs.SparedGrants.{SparesGrants, grant_spared}
use Rattle.history_model.proofs.Granted.{lock_parts}
use Rattle.history_model.proofs.Seen.{Pairwise}
use Rattle.history_model.proofs.InOrder.{IsIn, Differ}
use Rattle.history_model.proofs.Ordered.{all_each, locks_exclude, one_version, one_seen}
use Rattle.history_model.proofs.Past.{none_in_way}
use Rattle.history_model.proofs.Answers.{other_answers, own_answers}
use Rattle.history_model.proofs.HeldRows.{IsChangedUnder, relation_kept, modes_of, changed_under, changed_more, unheld_visible}
use Rattle.history_model.proofs.MaskedScans.{asked_differ}
use Rattle.history_model.proofs.RowMasks.{fixed_mask}
use Rattle.history_model.proofs.WeakChanges.{plain_goes, class_apart, class_numbers, fixed_visible}
use Rattle.history_model.proofs.GivenRows.{given_seen}
use Rattle.history_model.proofs.Observed.{LeavesRead}

-- the modes under which rows are changed
abbrev pub changing_modes : List Mode
changing_modes = ShareUpdateExclusive ∷ Share ∷ ShareRowExclusive ∷ AccessExclusive ∷ []

-- a grant to the backend on the relation that conflicts with the mode
abbrev pub bars : ℕ → Oid → Mode → Grant → Bool
bars b rel mode g = (g.backend == b) && (same_oid g.rel rel && conflicts mode g.mode)

-- by a grant of its own the backend keeps others from holding the mode on the relation
abbrev pub IsBarred : List Grant → ℕ → Oid → Mode → Type 0
IsBarred held b rel mode = list_any (bars b rel mode) held ≡ true

-- and so for each of these modes
abbrev pub AreBarred : List Grant → ℕ → Oid → List Mode → Type 0
AreBarred held b rel modes = AllByRecursion (IsBarred held b rel) modes

-- a mode that is held bars those that it conflicts with
pub held_bars : (held : List Grant) (b : ℕ) (rel : Oid) (mode writer : Mode) → holds held b rel mode ≡ true → conflicts writer mode ≡ true → IsBarred held b rel writer
held_bars held b rel mode writer has clash = any-weaker (is_lock b rel mode) (bars b rel writer) of held has
  where
    of : (g : Grant) → is_lock b rel mode g ≡ true → bars b rel writer g ≡ true
    of g lock =
        let parts = lock_parts b rel mode g lock in
        let number : mode_number g.mode ≡ mode_number mode = eqb-true (mode_number g.mode) (mode_number mode) parts.2 in
        and_from (g.backend == b) (same_oid g.rel rel && conflicts writer g.mode) parts.0
        (and_from (same_oid g.rel rel) (conflicts writer g.mode) parts.1 (ap (λ n. list_any (λ m. n == mode_number m) (conflicting_modes writer)) number ∙ clash))

-- it bars each of these modes where it conflicts with each
pub held_bars_all : (held : List Grant) (b : ℕ) (rel : Oid) (mode : Mode) (modes : List Mode) → holds held b rel mode ≡ true → list_all (λ writer. conflicts writer mode) modes ≡ true → AreBarred held b rel modes
held_bars_all held b rel mode modes has clash =
    every-weaker (λ writer. conflicts writer mode ≡ true) (IsBarred held b rel) (λ writer one. held_bars held b rel mode writer has one) modes (all_each (λ writer. conflicts writer mode) modes clash)

all_conflict : (mode : Mode) → conflicts AccessExclusive mode ≡ true
all_conflict AccessShare = refl
all_conflict RowShare = refl
all_conflict RowExclusive = refl
all_conflict ShareUpdateExclusive = refl
all_conflict Share = refl
all_conflict ShareRowExclusive = refl
all_conflict Exclusive = refl
all_conflict AccessExclusive = refl

-- each mode bars AccessExclusive
pub held_bars_exclusive : (held : List Grant) (b : ℕ) (rel : Oid) (mode : Mode) → holds held b rel mode ≡ true → AreBarred held b rel (AccessExclusive ∷ [])
held_bars_exclusive held b rel mode has = (held_bars held b rel mode AccessExclusive has (all_conflict mode), tt)

barred_free : (held : List Grant) (b a : ℕ) (rel : Oid) (mode : Mode) → AllAgree held held → (a == b) ≡ false → IsBarred held b rel mode → holds held a rel mode ≡ false
barred_free held b a rel mode agree other barred = any_with (bars b rel mode) (λ g. AllByRecursion (Agree g) held) (holds held a rel mode ≡ false) of held barred agree
  where
    of : (g : Grant) → bars b rel mode g ≡ true → AllByRecursion (Agree g) held → holds held a rel mode ≡ false
    of g is agrees =
        let p = and_parts (g.backend == b) (same_oid g.rel rel && conflicts mode g.mode) is in
        let q = and_parts (same_oid g.rel rel) (conflicts mode g.mode) p.1 in
        none_in_way held g a rel mode agrees (oid_eq g.rel rel q.0) (subst (λ o. (a == o) ≡ false) (sym (eqb-true g.backend b p.0)) other) q.1

-- nobody else holds a mode that is barred
pub none_held : (held : List Grant) (b a : ℕ) (rel : Oid) (modes : List Mode) → AllAgree held held → (a == b) ≡ false → AreBarred held b rel modes → list_any (holds held a rel) modes ≡ false
none_held held b a rel [] agree other barred = refl
none_held held b a rel (mode ∷ modes) agree other barred = ap (λ t. t || list_any (holds held a rel) modes) (barred_free held b a rel mode agree other barred.0) ∙ none_held held b a rel modes agree other barred.1

-- rows that are kept by locks on a relation are changed under these modes alone
pub changed_anyhow : (d : Purpose) (rel : Oid) → relation_kept d ≡ Some rel → IsChangedUnder changing_modes d rel
changed_anyhow d rel named = changed_more (modes_of d) changing_modes d rel (among d) (changed_under d rel named)
  where
    among : (d : Purpose) → AllByRecursion (λ m. list_any (same_mode m) changing_modes ≡ true) (modes_of d)
    among (scans.AttrDef rel) = (refl, tt)
    among (scans.IndexRow rel) = (refl, tt)
    among (scans.Index rel) = (refl, (refl, tt))
    among (scans.Trigger rel) = (refl, (refl, tt))
    among d = (refl, (refl, tt))

-- what becomes visible leaves the answer of a scan that asks for rows of a relation, where its backend holds on it no mode under which they are changed
pub unheld_leaves : (d : Purpose) (rel : Oid) (modes : List Mode) → ((row : Row) → counted_for d row ≡ row) → IsChangedUnder modes d rel → LeavesRead (λ given. given) d rel modes
unheld_leaves d rel modes plain under = (plain_goes (λ given. given) d plain, λ history a c xid b sound comes other none. unheld_visible history a c xid b rel d modes sound comes other under none)

other_barred : (history : List Entry) (a c : ℕ) (event : Event) (b : ℕ) (rel : Oid) (d : Purpose) (modes : List Mode) → IsSound history → MayComeNext history (entry_of a c event) → (a == b) ≡ false → IsChangedUnder modes d rel → AreBarred (held_of history) b rel modes
    → answer_of (history ++ entry_of a c event ∷ []) b d ≡ answer_of history b d
other_barred history a c (events.Visible xid) b rel d modes sound comes other under barred =
    unheld_visible history a c xid b rel d modes sound comes other under (none_held (held_of history) b a rel modes (locks_exclude history sound).agree other barred)
other_barred history a c event b rel d modes sound comes other under barred = other_answers history (entry_of a c event) b d sound comes other tt

-- any entry of another leaves the answer of a scan that asks for rows of a relation, where the backend keeps others from holding on it each mode under which they are changed
pub barred_answers : (history : List Entry) (e : Entry) (b : ℕ) (rel : Oid) (d : Purpose) (modes : List Mode) → IsSound history → MayComeNext history e → (e.backend == b) ≡ false → IsChangedUnder modes d rel → AreBarred (held_of history) b rel modes
    → answer_of (history ++ e ∷ []) b d ≡ answer_of history b d
barred_answers history e b rel d modes sound comes other under barred = other_barred history e.backend e.command e.event b rel d modes sound comes other under barred

-- it does so where the backend holds on the relation a mode, clear or not, that conflicts with each mode under which rows are changed
pub locked_answers : (history : List Entry) (e : Entry) (b : ℕ) (rel : Oid) (d : Purpose) → IsSound history → MayComeNext history e → (e.backend == b) ≡ false → IsChangedUnder changing_modes d rel → AreBarred (held_of history) b rel changing_modes
    → answer_of (history ++ e ∷ []) b d ≡ answer_of history b d
locked_answers history e b rel d sound comes other under barred = barred_answers history e b rel d changing_modes sound comes other under barred

-- an event that neither writes nor takes writes back
abbrev pub IsNoChange : Event → Type 0
IsNoChange (events.Write xid items) = ⊥
IsNoChange (events.Gone from) = ⊥
IsNoChange event = ⊤

-- nor releases or unlocks any locks
abbrev pub IsQuiet : Event → Type 0
IsQuiet (events.Write xid items) = ⊥
IsQuiet (events.Gone from) = ⊥
IsQuiet (events.Unlock rel mode) = ⊥
IsQuiet (events.Release from) = ⊥
IsQuiet event = ⊤

pub quiet_keeps : (event : Event) → IsQuiet event → IsNoChange event
quiet_keeps (events.Write xid items) quiet = quiet
quiet_keeps (events.Gone from) quiet = quiet
quiet_keeps event quiet = tt

own_unchanged : (history : List Entry) (b c : ℕ) (event : Event) (d : Purpose) → IsSound history → MayComeNext history (entry_of b c event) → IsNoChange event → answer_of (history ++ entry_of b c event ∷ []) b d ≡ answer_of history b d
own_unchanged history b c (events.Write xid items) d sound comes none = absurd none
own_unchanged history b c (events.Gone from) d sound comes none = absurd none
own_unchanged history b c event d sound comes none = own_answers history (entry_of b c event) d sound comes tt

-- an own entry that is no change leaves all answers
pub unchanged_answers : (history : List Entry) (e : Entry) (b : ℕ) (d : Purpose) → IsSound history → MayComeNext history e → (e.backend == b) ≡ true → IsNoChange e.event → answer_of (history ++ e ∷ []) b d ≡ answer_of history b d
unchanged_answers history e b d sound comes own none =
    subst (λ o. answer_of (history ++ e ∷ []) o d ≡ answer_of history o d) (eqb-true e.backend b own) (own_unchanged history e.backend e.command e.event d sound comes none)

-- before the entry the backend keeps others from holding these modes on the relation, and the entry is no change of its own
abbrev pub IsUndisturbed : ℕ → Oid → List Mode → List Entry → Entry → Type 0
IsUndisturbed b rel modes before e = AreBarred (held_of before) b rel modes × ((e.backend == b) ≡ true → IsNoChange e.event)

undisturbed_answers : (history : List Entry) (e : Entry) (b : ℕ) (rel : Oid) (d : Purpose) (modes : List Mode) → IsSound history → MayComeNext history e → IsChangedUnder modes d rel → IsUndisturbed b rel modes history e
    → answer_of (history ++ e ∷ []) b d ≡ answer_of history b d
undisturbed_answers history e b rel d modes sound comes under still = by_owner (e.backend == b) refl
  where
    by_owner : (t : Bool) → (e.backend == b) ≡ t → answer_of (history ++ e ∷ []) b d ≡ answer_of history b d
    by_owner true own = unchanged_answers history e b d sound comes own (still.1 own)
    by_owner false other = barred_answers history e b rel d modes sound comes other under still.0

-- what each entry after a prefix keeps
between : (Inv : List Entry → Type 0) (Q : List Entry → Entry → Type 0) → ((before : List Entry) (e : Entry) → IsSound before → MayComeNext before e → Q before e → Inv before → Inv (before ++ e ∷ []))
    → (history more : List Entry) → IsSound (history ++ more) → Inv history → EachFrom Q history more → Inv (history ++ more)
between Inv Q keeps history more sound start each =
    (EachFrom-keeps (λ before e. MayComeNext before e × Q before e) (λ h. IsSound h × Inv h) (λ before e k next. (EachEntry-more MayComeNext before e k.0 next.0, keeps before e k.0 next.0 next.1 k.1)) history more
    (EachEntry-prefix MayComeNext history more sound, start) (EachFrom-both MayComeNext Q history more (EachEntry-rest MayComeNext history more sound) each)).1

-- between two places of a sound history, if before each entry between them the backend keeps others from holding the modes under which the rows are changed, and none is a change of its own, the answer is the same
pub barred_between : (history more : List Entry) (b : ℕ) (rel : Oid) (d : Purpose) (modes : List Mode) → IsSound (history ++ more) → IsChangedUnder modes d rel → EachFrom (IsUndisturbed b rel modes) history more → answer_of (history ++ more) b d ≡ answer_of history b d
barred_between history more b rel d modes sound under still =
    between (λ h. answer_of h b d ≡ answer_of history b d) (IsUndisturbed b rel modes) (λ before e well comes one same. undisturbed_answers before e b rel d modes well comes under one ∙ same) history more sound refl still

-- and so for the modes under which any rows are changed
pub locked_between : (history more : List Entry) (b : ℕ) (rel : Oid) (d : Purpose) → IsSound (history ++ more) → IsChangedUnder changing_modes d rel → EachFrom (IsUndisturbed b rel changing_modes) history more → answer_of (history ++ more) b d ≡ answer_of history b d
locked_between history more b rel d sound under still = barred_between history more b rel d changing_modes sound under still

scan_unchanged : (d : Purpose) (event : Event) → is_scan_of d event ≡ true → IsNoChange event
scan_unchanged d (events.Write xid items) it = absurd (cc)
scan_unchanged d (events.Gone from) it = absurd (cc)
scan_unchanged d event it = tt

rows_scanned : (history : List Entry) (e : Entry) (b : ℕ) (d : Purpose) (t : Bool) → (e.backend == b) ≡ true → is_scan_of d e.event ≡ t → rows_read (history ++ e ∷ []) b d ≡ elim t as (λ x. List Row) [ true ↦ answer_of history b d | false ↦ rows_read history b d ]
rows_scanned history e b d t own it = rows_read-own history e b d own ∙ ap (λ u. elim u [ true ↦ answer_of history b d | false ↦ rows_read history b d ]) it

-- right after a scan its answer is what it gave
pub scanned_answers : (history : List Entry) (e : Entry) (b : ℕ) (d : Purpose) → IsSound history → MayComeNext history e → (e.backend == b) ≡ true → is_scan_of d e.event ≡ true → answer_of (history ++ e ∷ []) b d ≡ rows_read (history ++ e ∷ []) b d
scanned_answers history e b d sound comes own it = unchanged_answers history e b d sound comes own (scan_unchanged d e.event it) ∙ sym (rows_scanned history e b d true own it)

undisturbed_read : (history : List Entry) (e : Entry) (b : ℕ) (rel : Oid) (d : Purpose) (modes : List Mode) → IsSound history → MayComeNext history e → IsChangedUnder modes d rel → IsUndisturbed b rel modes history e → answer_of history b d ≡ rows_read history b d
    → answer_of (history ++ e ∷ []) b d ≡ rows_read (history ++ e ∷ []) b d
undisturbed_read history e b rel d modes sound comes under still was = undisturbed_answers history e b rel d modes sound comes under still ∙ by_owner (e.backend == b) refl
  where
    by_scan : (e.backend == b) ≡ true → (t : Bool) → is_scan_of d e.event ≡ t → answer_of history b d ≡ rows_read (history ++ e ∷ []) b d
    by_scan own true it = sym (rows_scanned history e b d true own it)
    by_scan own false it = was ∙ sym (rows_scanned history e b d false own it)

    by_owner : (t : Bool) → (e.backend == b) ≡ t → answer_of history b d ≡ rows_read (history ++ e ∷ []) b d
    by_owner true own = by_scan own (is_scan_of d e.event) refl
    by_owner false other = was ∙ sym (rows_read-other history e b d other)

-- and so it goes on, whether the scan still serves or not, while before each entry the backend keeps others from holding the modes under which the rows are changed, and no entry is a change of its own
pub read_between : (history more : List Entry) (b : ℕ) (rel : Oid) (d : Purpose) (modes : List Mode) → IsSound (history ++ more) → IsChangedUnder modes d rel → EachFrom (IsUndisturbed b rel modes) history more → answer_of history b d ≡ rows_read history b d
    → answer_of (history ++ more) b d ≡ rows_read (history ++ more) b d
read_between history more b rel d modes sound under still was =
    between (λ h. answer_of h b d ≡ rows_read h b d) (IsUndisturbed b rel modes) (λ before e well comes one same. undisturbed_read before e b rel d modes well comes under one same) history more sound was still

quiet_spares : (p : Grant → Bool) (b : ℕ) (event : Event) → IsQuiet event → SparesGrants p b event
quiet_spares p b (events.Release from) quiet = quiet
quiet_spares p b (events.Unlock rel mode) quiet = absurd quiet
quiet_spares p b event quiet = tt

-- a grant of the backend stays while it releases nothing
pub grant_kept : (a c : ℕ) (event : Event) (held : List Grant) (b : ℕ) (p : Grant → Bool) → ((g : Grant) → p g ≡ true → (g.backend == b) ≡ true) → ((a == b) ≡ true → IsQuiet event) → list_any p held ≡ true → list_any p (held_by a c event held) ≡ true
grant_kept a c event held b p own quiet some = grant_spared a c event held b p own (λ is. quiet_spares p a event (quiet is)) some

barred_kept : (a c : ℕ) (event : Event) (held : List Grant) (b : ℕ) (rel : Oid) (mode : Mode) → ((a == b) ≡ true → IsQuiet event) → IsBarred held b rel mode → IsBarred (held_by a c event held) b rel mode
barred_kept a c event held b rel mode quiet barred = grant_kept a c event held b (bars b rel mode) (λ g is. (and_parts (g.backend == b) (same_oid g.rel rel && conflicts mode g.mode) is).0) quiet barred

-- the entry isn't a write of the backend, takes none back and releases nothing of its own
abbrev pub IsIdle : ℕ → List Entry → Entry → Type 0
IsIdle b before e = (e.backend == b) ≡ true → IsQuiet e.event

-- a backend that keeps others from holding some modes, and then neither changes nor releases anything, goes on to do so
pub stays_undisturbed : (history more : List Entry) (b : ℕ) (rel : Oid) (modes : List Mode) → AreBarred (held_of history) b rel modes → EachFrom (IsIdle b) history more → EachFrom (IsUndisturbed b rel modes) history more
stays_undisturbed history [] b rel modes barred idle = tt
stays_undisturbed history (e ∷ more) b rel modes barred idle = ((barred, λ own. quiet_keeps e.event (idle.0 own)), stays_undisturbed (history ++ e ∷ []) more b rel modes still idle.1)
  where
    still : AreBarred (held_of (history ++ e ∷ [])) b rel modes
    still = every-weaker (IsBarred (held_of history) b rel) (IsBarred (held_of (history ++ e ∷ [])) b rel)
        (λ mode is. subst (λ held. IsBarred held b rel mode) (sym (held-more history e)) (barred_kept e.backend e.command e.event (held_of history) b rel mode idle.0 is)) modes barred

-- a lookup by its oid shows the backend one relation, with this name and kind
abbrev pub IsSeenAs : List Entry → ℕ → Oid → List ℕ → Kind → Type 0
IsSeenAs history b rel name kind = (fill : Option ℕ) × (answer_of history b (scans.Class rel) ≡ rows.Class rel name kind fill ∷ [])

-- and with this kind, whatever its name
abbrev pub IsSeenOf : List Entry → ℕ → Oid → Kind → Type 0
IsSeenOf history b rel kind = (name : List ℕ) × IsSeenAs history b rel name kind

-- it shows one relation with this kind, and with this name unless it is an index
abbrev pub IsFirm : List Entry → ℕ → Oid → List ℕ → Kind → Type 0
IsFirm history b rel name kind = map fixed (answer_of history b (scans.Class rel)) ≡ rows.Class rel (firm_name kind name) kind None ∷ []

pub seen_firm : (history : List Entry) (b : ℕ) (rel : Oid) (name : List ℕ) (kind : Kind) → IsSeenAs history b rel name kind → IsFirm history b rel name kind
seen_firm history b rel name kind seen = ap (map fixed) seen.1

-- the row of a relation of this kind, with a name that is this one but for what a weak mode may change
record IsRowOf (rel : Oid) (name : List ℕ) (kind : Kind) (row : Row) : Type 0 where
  own : List ℕ
  fill : Option ℕ
  is : row ≡ rows.Class rel own kind fill
  firm : firm_name kind own ≡ firm_name kind name

row_of : (row : Row) (rel : Oid) (name : List ℕ) (kind : Kind) → fixed row ≡ rows.Class rel (firm_name kind name) kind None → IsRowOf rel name kind row
row_of (rows.Class oid own kind' fill) rel name kind is =
    let one : oid ≡ rel = cc in
    let alike : kind' ≡ kind = cc in
    let named : firm_name kind' own ≡ firm_name kind name = cc in
    record { own = own; fill = fill; is = ap (λ o. rows.Class o own kind' fill) one ∙ ap (λ k. rows.Class rel own k fill) alike; firm = ap (λ k. firm_name k own) (sym alike) ∙ named }
row_of (rows.Att of num own col_type stat live) rel name kind is = absurd (cc)
row_of row rel name kind is = absurd (cc)

one_row : (given : List Row) (rel : Oid) (name : List ℕ) (kind : Kind) → map fixed given ≡ rows.Class rel (firm_name kind name) kind None ∷ [] → (row : Row) × ((given ≡ row ∷ []) × IsRowOf rel name kind row)
one_row [] rel name kind is = absurd (cc)
one_row (row ∷ []) rel name kind is = (let same : fixed row ≡ rows.Class rel (firm_name kind name) kind None = cc in (row, (refl, row_of row rel name kind same)))
one_row (row ∷ other ∷ given) rel name kind is = absurd (cc)

-- so the relation is seen with this kind
pub firm_seen : (history : List Entry) (b : ℕ) (rel : Oid) (name : List ℕ) (kind : Kind) → IsFirm history b rel name kind → IsSeenOf history b rel kind
firm_seen history b rel name kind firm =
    let one = one_row (answer_of history b (scans.Class rel)) rel name kind firm in
    (one.1.1.own, (one.1.1.fill, one.1.0 ∙ ap (λ r. r ∷ []) one.1.1.is))

-- and a table with this name
pub firm_table : (history : List Entry) (b : ℕ) (rel : Oid) (name : List ℕ) → IsFirm history b rel name Table → IsSeenAs history b rel name Table
firm_table history b rel name firm =
    let one = one_row (answer_of history b (scans.Class rel)) rel name Table firm in
    (one.1.1.fill, one.1.0 ∙ ap (λ r. r ∷ []) (one.1.1.is ∙ ap (λ n. rows.Class rel n Table one.1.1.fill) one.1.1.firm))

other_firm : (history : List Entry) (a c : ℕ) (event : Event) (b : ℕ) (rel : Oid) (name : List ℕ) (kind : Kind) → IsSound history → MayComeNext history (entry_of a c event) → (a == b) ≡ false → IsBarred (held_of history) b rel AccessExclusive
    → IsFirm history b rel name kind → IsFirm (history ++ entry_of a c event ∷ []) b rel name kind
other_firm history a c (events.Visible xid) b rel name kind sound comes other barred firm =
    fixed_visible history a c xid b rel (scans.Class rel) (class_apart rel) sound comes other (barred_free (held_of history) b a rel AccessExclusive (locks_exclude history sound).agree other barred) ∙ firm
other_firm history a c event b rel name kind sound comes other barred firm = ap (map fixed) (other_answers history (entry_of a c event) b (scans.Class rel) sound comes other tt) ∙ firm

-- a relation on which the backend holds any mode, and which it sees, it still sees after any entry that is no change of its own: with the same kind, and with the same name unless it is an index
pub firm_stays : (history : List Entry) (e : Entry) (b : ℕ) (rel : Oid) (name : List ℕ) (kind : Kind) → IsSound history → MayComeNext history e → IsUndisturbed b rel (AccessExclusive ∷ []) history e → IsFirm history b rel name kind
    → IsFirm (history ++ e ∷ []) b rel name kind
firm_stays history e b rel name kind sound comes still firm = by_owner (e.backend == b) refl
  where
    by_owner : (t : Bool) → (e.backend == b) ≡ t → IsFirm (history ++ e ∷ []) b rel name kind
    by_owner true own = ap (map fixed) (unchanged_answers history e b (scans.Class rel) sound comes own (still.1 own)) ∙ firm
    by_owner false other = other_firm history e.backend e.command e.event b rel name kind sound comes other still.0.0 firm

-- and so after all entries between two places
pub firm_between : (history more : List Entry) (b : ℕ) (rel : Oid) (name : List ℕ) (kind : Kind) → IsSound (history ++ more) → EachFrom (IsUndisturbed b rel (AccessExclusive ∷ [])) history more → IsFirm history b rel name kind
    → IsFirm (history ++ more) b rel name kind
firm_between history more b rel name kind sound still firm =
    between (λ h. IsFirm h b rel name kind) (IsUndisturbed b rel (AccessExclusive ∷ [])) (λ before e well comes one was. firm_stays before e b rel name kind well comes one was) history more sound firm still

one_number : (n : ℕ) (row : Row) (given : List Row) → IsIn row given → Pairwise Differ given → AllByRecursion (λ r. row_number r ≡ n) given → given ≡ row ∷ []
one_number n row [] there apart all = absurd there
one_number n row (x ∷ []) (inl is) apart all = ap (λ r. r ∷ []) (sym is)
one_number n row (x ∷ []) (inr more) apart all = absurd more
one_number n row (x ∷ y ∷ given) there apart all = absurd (apart.0.0 (all.0 ∙ sym all.1.0))

-- a relation whose row a backend sees its oid shows alone
pub seen_alone : (history : List Entry) (b : ℕ) (rel : Oid) (name : List ℕ) (kind : Kind) (fill : Option ℕ) → IsSound history → IsIn (rows.Class rel name kind fill) (rows_of history b) → answer_of history b (scans.Class rel) ≡ rows.Class rel name kind fill ∷ []
seen_alone history b rel name kind fill sound seen = ap (fold (put_in_order (scans.Class rel)) []) (one_number rel.0 row found there apart (class_numbers rel (rows_of history b)))
  where
    row : Row
    row = rows.Class rel name kind fill

    found : List Row
    found = filter (selects (scans.Class rel)) (rows_of history b)

    there : IsIn row found
    there = some-filter (λ r. row ≡ r) (selects (scans.Class rel)) (rows_of history b) (some-weaker (λ r. row ≡ r) (λ r. (selects (scans.Class rel) r ≡ true) × (row ≡ r)) (λ r is. (subst (λ x. selects (scans.Class rel) x ≡ true) is (eq-eqb rel.0 rel.0 refl), is)) (rows_of history b) seen)

    apart : Pairwise Differ found
    apart = asked_differ (fixed_mask rel) (scans.Class rel) (class_apart rel) (sees history b) (versions_of history) (one_seen history b (versions_of history) (one_version history sound))

-- and so one of which a scan shows the row first, as one that looks it up by its name
pub found_first : (history : List Entry) (b : ℕ) (d : Purpose) (rel : Oid) (name : List ℕ) (kind : Kind) (fill : Option ℕ) (more : List Row) → IsSound history → answer_of history b d ≡ rows.Class rel name kind fill ∷ more → IsSeenAs history b rel name kind
found_first history b d rel name kind fill more sound first =
    (fill, seen_alone history b rel name kind fill sound (subst (AllByRecursion (λ row. IsIn row (rows_of history b) × (selects d row ≡ true))) first (given_seen history b d)).0.0)
