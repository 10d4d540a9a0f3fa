-- A protected field is fresh: what a backend has read of it by a scan that still serves is its text in the whole history. So is a whole answer, where all who change rows are kept out.
use Rattle.std.proofs.Common.{◌≡◌, ◌≤◌, ◌-◌, ◌⊎◌, inl, inr, ℕ, Bool, true, false, Option, Some, None, List, [], ◌∷◌, ◌==◌, ◌&&◌, refl, sym, subst, filter, map, take, drop, arith, cond}
use Rattle.std.specs.List.{AllByRecursion, list_any, list_all}
use Rattle.std.specs.Option.{option_map_or}
use Rattle.std.proofs.lemmas.Bool.{both_ways, and_parts, or_cases}
use Rattle.base_types.specs.Scenario.{Scenario}
use Rattle.base_types.specs.declared.field.Field.{Field}
use Rattle.base_types.specs.declared.field.Field.TheVariants as fields
use Rattle.base_types.specs.declared.ids.Oid.{Oid}
use Rattle.base_types.specs.declared.kind.Kind.{Kind}
use Rattle.base_types.specs.declared.kind.Kind.TheVariants.{Table, Index}
use Rattle.base_types.specs.declared.mode.Mode.{Mode}
use Rattle.base_types.specs.declared.mode.Mode.TheVariants.{AccessExclusive}
use Rattle.base_types.specs.declared.row.Row.{Row}
use Rattle.base_types.specs.declared.row.Row.TheVariants as rows
use Rattle.base_types.specs.declared.scan.Purpose.{Purpose}
use Rattle.base_types.specs.declared.scan.Purpose.TheVariants as scans
use Rattle.base_types.specs.Fields.{has_field, field_text, read_by}
use Rattle.base_types.specs.Modes.{conflicts, writers_of}
use Rattle.base_types.specs.Scans.{same_oid, selects}
use Rattle.event_kinds.specs.declared.entry.Entry.{Entry}
use Rattle.lock_modes.specs.declared.own_lock.OwnLock.{OwnLock}
use Rattle.lock_modes.specs.Grants.{holds}
use Rattle.lock_modes.specs.Own.{clear_modes}
use Rattle.history_model.specs.Transactions.{running_transaction_of, is_visible}
use Rattle.history_model.specs.Versions.{answer_of, fresh_text}
use Rattle.history_model.specs.Log.{log_of, position_of}
use Rattle.history_model.specs.Held.{held_of}
use Rattle.history_model.specs.Reached.{is_writer, reached_of}
use Rattle.history_model.specs.Covered.{is_covered}
use Rattle.history_model.specs.Read.{rows_read, is_usable}
use Rattle.history_model.specs.OfKind.{HasKind, IsOfKind}
use Rattle.history_model.specs.Sound.{IsSound}
use Rattle.history_model.proofs.Every.{every-weaker, every-both}
use Rattle.history_model.proofs.Asking.{oid_eq}
use Rattle.history_model.proofs.Guards.{any_with}
use Rattle.history_model.proofs.Exclude.{Agree}
use Rattle.history_model.specs.Covered.{counted_for}
use Rattle.history_model.proofs.HeldRows.{IsChangedUnder}
use Rattle.history_model.proofs.DrawnRows.{given_each}
use Rattle.history_model.proofs.FixedRows.{fixed}
use Rattle.history_model.proofs.GivenRows.{given_asked}
use Rattle.history_model.proofs.WeakChanges.{IsOfTable, table_named, is_table_name, class_apart, fixed_leaves, field_leaves}
use Rattle.history_model.proofs.Observed.{IsReadAs, LeavesRead, Leaves, IsDirty, observed_as}
use Rattle.history_model.proofs.Locked.{changing_modes, unheld_leaves}
use Rattle.history_model.proofs.Ordered.{all_each, locks_exclude}
use Rattle.history_model.proofs.Past.{IsPast, none_in_way}
use Rattle.cacheless.specs.Locks.{grant_of}
use Rattle.cacheless.specs.Session.{Session}
use Rattle.cacheless.specs.Sessions.{session_of}
use Rattle.cacheless.specs.Protected.{clear_modes_of, is_protected}
use Rattle.cacheless.specs.Plays.{Plays}
use Rattle.cacheless.proofs.HeldLocks.{locks_of}
use Rattle.cacheless.proofs.Clear.{on_locks, clear_reached}

-- each of these modes conflicts with one that the backend holds clear on the relation
abbrev pub AreKeptOut : Scenario → List Entry → ℕ → Oid → List Mode → Type 0
AreKeptOut scenario history b rel modes = list_all (λ writer. list_any (conflicts writer) (clear_modes_of scenario history b rel)) modes ≡ true

-- nobody else holds the mode on the relation, and the backend is past all that was changed under it
pub record IsKeptOut (history : List Entry) (b : ℕ) (rel : Oid) (writer : Mode) : Type 0 where
  pub past : reached_of history rel writer ≤ position_of history b
  pub free : (a : ℕ) → (a == b) ≡ false → holds (held_of history) a rel writer ≡ false

-- by a lock that keeps it out
by_lock : (rel : Oid) (writer : Mode) (Q : OwnLock → Type 0) (C : Type 0) → ((lock : OwnLock) → lock.clear ≡ true → lock.rel ≡ rel → conflicts writer lock.mode ≡ true → Q lock → C)
    → (locks : List OwnLock) → AllByRecursion Q locks → list_any (conflicts writer) (clear_modes locks rel) ≡ true → C
by_lock rel writer Q C of [] all some = absurd (cc)
by_lock rel writer Q C of (lock ∷ locks) all some = by_test (lock.clear && same_oid lock.rel rel) refl some (by_lock rel writer Q C of locks all.1)
  where
    rest : List Mode
    rest = clear_modes locks rel

    by_mode : (lock.clear && same_oid lock.rel rel) ≡ true → (conflicts writer lock.mode ≡ true) ⊎ (list_any (conflicts writer) rest ≡ true) → (list_any (conflicts writer) rest ≡ true → C) → C
    by_mode is (inl clash) later = let parts = and_parts lock.clear (same_oid lock.rel rel) is in of lock parts.0 (oid_eq lock.rel rel parts.1) clash all.0
    by_mode is (inr there) later = later there

    by_test : (t : Bool) → (lock.clear && same_oid lock.rel rel) ≡ t → list_any (conflicts writer) (map (λ l. l.mode) (cond t (lock ∷ filter (λ l. l.clear && same_oid l.rel rel) locks) (filter (λ l. l.clear && same_oid l.rel rel) locks))) ≡ true
        → (list_any (conflicts writer) rest ≡ true → C) → C
    by_test true is has later = by_mode is (or_cases (conflicts writer lock.mode) (list_any (conflicts writer) rest) has) later
    by_test false is has later = later has

clear_is : (s : Option Session) (rel : Oid) (P : List Mode → Type 0) → P (option_map_or (λ x. clear_modes x.locks rel) s []) → P (clear_modes (locks_of s) rel)
clear_is None rel P p = p
clear_is (Some s) rel P p = p

pub kept_out : (scenario : Scenario) (history : List Entry) (b : ℕ) (rel : Oid) (modes : List Mode) → IsSound history → Plays scenario history → AreKeptOut scenario history b rel modes → AllByRecursion (IsKeptOut history b rel) modes
kept_out scenario history b rel modes sound plays are =
    every-weaker (λ writer. list_any (conflicts writer) (clear_modes_of scenario history b rel) ≡ true) (IsKeptOut history b rel) one modes (all_each (λ writer. list_any (conflicts writer) (clear_modes_of scenario history b rel)) modes are)
  where
    Q : OwnLock → Type 0
    Q lock = (lock.clear ≡ true → IsPast history b lock.rel lock.mode) × AllByRecursion (Agree (grant_of b lock)) (held_of history)

    all : AllByRecursion Q (locks_of (session_of scenario history b))
    all = every-both (λ lock. lock.clear ≡ true → IsPast history b lock.rel lock.mode) (λ lock. AllByRecursion (Agree (grant_of b lock)) (held_of history)) (locks_of (session_of scenario history b)) (clear_reached scenario history b sound plays)
        (on_locks scenario history b (λ g. AllByRecursion (Agree g) (held_of history)) sound (locks_exclude history sound).agree)

    one : (writer : Mode) → list_any (conflicts writer) (clear_modes_of scenario history b rel) ≡ true → IsKeptOut history b rel writer
    one writer some = by_lock rel writer Q (IsKeptOut history b rel writer) (λ lock is same clash q. record {
      past = subst (λ o. reached_of history o writer ≤ position_of history b) same (q.0 is writer clash);
      free = λ a other. none_in_way (held_of history) (grant_of b lock) a rel writer q.1 same other clash;
    }) (locks_of (session_of scenario history b)) all (clear_is (session_of scenario history b) rel (λ ms. list_any (conflicts writer) ms ≡ true) some)

-- so no change under one of these modes is unknown
pub not_dirty : (history : List Entry) (b : ℕ) (rel : Oid) (modes : List Mode) (d : Purpose) → AllByRecursion (IsKeptOut history b rel) modes → IsDirty history b rel modes d → ⊥
not_dirty history b rel modes d out (inl writing) = any_with (is_writer history writing.writer rel) (IsKeptOut history b rel) ⊥
    (λ mode is kept. both_ways _ (kept.free writing.writer writing.other) (and_parts (is_visible (running_transaction_of history writing.writer)) (holds (held_of history) writing.writer rel mode) is).1) modes writing.writes out
not_dirty history b rel modes d out (inr behind) = any_with (λ mode. is_covered (take (reached_of history rel mode - position_of history b) (drop (position_of history b) (log_of history))) d) (IsKeptOut history b rel) ⊥
    (λ mode is kept. nothing (reached_of history rel mode - position_of history b) (omega (arith, kept.past)) is) modes behind out
  where
    nothing : (n : ℕ) → n ≡ 0 → is_covered (take n (drop (position_of history b) (log_of history))) d ≡ true → ⊥
    nothing n zero' is = let e : false ≡ true = subst (λ k. is_covered (take k (drop (position_of history b) (log_of history))) d ≡ true) zero' is in absurd (cc)

-- of a sound history in which backends do what their commands say: where only those who hold one of the modes on the relation change for others what is made of a scan's answer, and the backend keeps all these modes out by clear locks, it is what is made of the rows that the backend has read by such a scan that still serves
pub kept_out_read : {X : Type 0} (scenario : Scenario) (history : List Entry) (b : ℕ) (rel : Oid) (read : List Row → X) (d : Purpose) (modes : List Mode) → LeavesRead read d rel modes → IsSound history → Plays scenario history → AreKeptOut scenario history b rel modes
    → is_usable history b d ≡ true → read (answer_of history b d) ≡ read (rows_read history b d)
kept_out_read scenario history b rel read d modes leaves sound plays are usable = of (observed_as read d rel modes leaves history b sound usable)
  where
    of : IsReadAs read d history b ⊎ IsDirty history b rel modes d → IsReadAs read d history b
    of (inl was) = was
    of (inr dirty) = absurd (not_dirty history b rel modes d (kept_out scenario history b rel modes sound plays are) dirty)

-- so it is of the text of a field
pub kept_out_fresh : (scenario : Scenario) (history : List Entry) (b : ℕ) (rel : Oid) (field : Field) (modes : List Mode) → Leaves field rel modes → IsSound history → Plays scenario history → AreKeptOut scenario history b rel modes
    → is_usable history b (read_by field rel) ≡ true → fresh_text history b rel field ≡ field_text field rel (rows_read history b (read_by field rel))
kept_out_fresh scenario history b rel field modes leaves sound plays are usable = kept_out_read scenario history b rel (field_text field rel) (read_by field rel) modes leaves sound plays are usable

-- and of the answer of a scan that asks for rows of the relation, where all modes are kept out under which they are changed
pub kept_out_given : (scenario : Scenario) (history : List Entry) (b : ℕ) (rel : Oid) (d : Purpose) (modes : List Mode) → ((row : Row) → counted_for d row ≡ row) → IsChangedUnder modes d rel → IsSound history → Plays scenario history → AreKeptOut scenario history b rel modes
    → is_usable history b d ≡ true → answer_of history b d ≡ rows_read history b d
kept_out_given scenario history b rel d modes plain under sound plays are usable = kept_out_read scenario history b rel (λ given. given) d modes (unheld_leaves d rel modes plain under) sound plays are usable

-- as where all modes are kept out under which any rows are changed
pub kept_out_answers : (scenario : Scenario) (history : List Entry) (b : ℕ) (rel : Oid) (d : Purpose) → ((row : Row) → counted_for d row ≡ row) → IsChangedUnder changing_modes d rel → IsSound history → Plays scenario history → AreKeptOut scenario history b rel changing_modes
    → is_usable history b d ≡ true → answer_of history b d ≡ rows_read history b d
kept_out_answers scenario history b rel d plain under sound plays are usable = kept_out_given scenario history b rel d changing_modes plain under sound plays are usable

named_or : (kind : Kind) (field : Field) → ((kind ≡ Table) × (field ≡ fields.Name)) ⊎ (is_table_name kind field ≡ false)
named_or Table fields.Name = inl (refl, refl)
named_or kind field = inr refl

-- rows of a table's own are seen of one
tables_given : (history : List Entry) (b : ℕ) (rel : Oid) → IsOfKind history rel Table → AllByRecursion IsOfTable (answer_of history b (scans.Class rel))
tables_given history b rel of = every-weaker (λ row. SeenAs row × (selects (scans.Class rel) row ≡ true)) IsOfTable (λ row is. table row is.0 is.1) (answer_of history b (scans.Class rel))
    (every-both SeenAs (λ row. selects (scans.Class rel) row ≡ true) (answer_of history b (scans.Class rel))
    (given_each SeenAs history b (scans.Class rel) of.each) (given_asked history b (scans.Class rel)))
  where
    SeenAs : Row → Type 0
    SeenAs row = HasKind rel Table row

    table : (row : Row) → HasKind rel Table row → selects (scans.Class rel) row ≡ true → IsOfTable row
    table (rows.Class oid own Table fill) has is = tt
    table (rows.Class oid own Index fill) has is = absurd (let no : Index ≡ Table = has (oid_eq oid rel is) in cc no)
    table row has is = absurd (cc)

-- a protected field is fresh, if the relation is of this kind
pub protected_fresh : (scenario : Scenario) (history : List Entry) (b : ℕ) (rel : Oid) (kind : Kind) (field : Field) → IsOfKind history rel kind → IsSound history → Plays scenario history → has_field kind field ≡ true → is_protected scenario history b rel kind field ≡ true
    → is_usable history b (read_by field rel) ≡ true → fresh_text history b rel field ≡ field_text field rel (rows_read history b (read_by field rel))
protected_fresh scenario history b rel kind field of sound plays has protected usable = by_name (named_or kind field)
  where
    Fresh : Field → Type 0
    Fresh f = fresh_text history b rel f ≡ field_text f rel (rows_read history b (read_by f rel))

    table_name : IsOfKind history rel Table → is_protected scenario history b rel Table fields.Name ≡ true → is_usable history b (scans.Class rel) ≡ true → Fresh fields.Name
    table_name table protected' usable' = table_named rel (answer_of history b (scans.Class rel)) (rows_read history b (scans.Class rel)) (tables_given history b rel table)
        (kept_out_read scenario history b rel (map fixed) (scans.Class rel) (AccessExclusive ∷ []) (fixed_leaves rel (scans.Class rel) (class_apart rel) (λ row. refl)) sound plays protected' usable')

    by_name : ((kind ≡ Table) × (field ≡ fields.Name)) ⊎ (is_table_name kind field ≡ false) → Fresh field
    by_name (inl named) = subst Fresh (sym named.1) (table_name (subst (IsOfKind history rel) named.0 of)
        (subst (λ f. is_protected scenario history b rel Table f ≡ true) named.1 (subst (λ k. is_protected scenario history b rel k field ≡ true) named.0 protected))
        (subst (λ f. is_usable history b (read_by f rel) ≡ true) named.1 usable))
    by_name (inr apart) = kept_out_fresh scenario history b rel field (writers_of kind field) (field_leaves kind field rel has apart) sound plays protected usable
