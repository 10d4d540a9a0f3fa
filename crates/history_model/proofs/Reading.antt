-- What one more entry does to each thing that a history has.
-- The laws end in `-more` (any entry), `-own` (one of the backend), `-other` (one of another) and `-short` (a place lies in the history).
use Rattle.std.proofs.Common.{◌≡◌, ◌≤◌, ◌+◌, ◌∙◌, ℕ, Bool, true, false, Option, Some, None, List, [], ◌∷◌, ◌++◌, ◌==◌, ◌||◌, ◌&&◌, if◌then◌else◌, refl, ap, length, arith, unwrap_or}
use Rattle.std.specs.List.{list_any}
use Rattle.std.proofs.lemmas.Grind.{fold-append}
use Rattle.std.proofs.lemmas.List.{length_push}
use Rattle.std.proofs.Math.Bool.{or-false}
use Rattle.std.proofs.lemmas.List.Folds.{list_any-append}
use Rattle.base_types.specs.declared.ids.TheConstants.{FIRST_OID}
use Rattle.base_types.specs.declared.ids.Oid.{Oid}
use Rattle.base_types.specs.declared.mode.Mode.{Mode}
use Rattle.base_types.specs.declared.scan.Purpose.{Purpose}
use Rattle.event_kinds.specs.declared.entry.Entry.{Entry}
use Rattle.event_kinds.specs.declared.entry.Event.{Event}
use Rattle.event_kinds.specs.declared.entry.Event.TheVariants.{Publish}
use Rattle.std.proofs.lemmas.Bool.{eqb-true}
use Rattle.history_model.specs.Segment.{Standing, Segment, no_entries}
use Rattle.history_model.specs.After.{standing_after, after_entry, segment_of, standing_of}
use Rattle.history_model.specs.Lives.{life_of, life_by, last_event_of}
use Rattle.history_model.specs.Transactions.{running_transaction_of, running_by, makes_visible, is_committed, last_xid, last_xid_by}
use Rattle.history_model.specs.Versions.{versions_of, versions_by}
use Rattle.history_model.specs.Sent.{lists_of, lists_by}
use Rattle.history_model.specs.Messages.{position_after}
use Rattle.history_model.specs.Log.{log_of, log_by, position_of, position_by}
use Rattle.history_model.specs.Held.{held_of, held_by}
use Rattle.history_model.specs.Reached.{reached_of, reached_by}
use Rattle.history_model.specs.Drawn.{next_oid, next_oid_by}
use Rattle.history_model.specs.Transactions.{has_written, is_write}
use Rattle.history_model.specs.Read.{read_at, is_scan_of, place_read, rows_read, rows_by, is_usable, usable_by}
use Rattle.history_model.proofs.Prefixes.{along-more, own-own, own-other, along-keeps}

-- what a history leaves, after one more entry
pub segment_of-more : (history : List Entry) (e : Entry) → segment_of (history ++ e ∷ []) ≡ after_entry (segment_of history) e
segment_of-more history e = fold-append after_entry no_entries history (e ∷ [])

-- of a backend, after its own entry
pub standing_of-own : (history : List Entry) (e : Entry) (b : ℕ) → (e.backend == b) ≡ true → standing_of (history ++ e ∷ []) b ≡ standing_after (segment_of history) b e.command e.event
standing_of-own history e b own =
    ap (λ (s : Segment). s.standing b) (segment_of-more history e)
    ∙ ap (λ t. if t then standing_after (segment_of history) e.backend e.command e.event else standing_of history b) own
    ∙ ap (λ a. standing_after (segment_of history) a e.command e.event) (eqb-true e.backend b own)

-- and after another's
pub standing_of-other : (history : List Entry) (e : Entry) (b : ℕ) → (e.backend == b) ≡ false → standing_of (history ++ e ∷ []) b ≡ standing_of history b
standing_of-other history e b other =
    ap (λ (s : Segment). s.standing b) (segment_of-more history e)
    ∙ ap (λ t. if t then standing_after (segment_of history) e.backend e.command e.event else standing_of history b) other

-- the versions after one more entry
pub versions_of-more : (history : List Entry) (e : Entry) → versions_of (history ++ e ∷ []) ≡ versions_by history e.backend e.command e.event (versions_of history)
versions_of-more history e = ap (λ (s : Segment). s.versions) (segment_of-more history e)

-- the log after one more entry
pub log_of-more : (history : List Entry) (e : Entry) → log_of (history ++ e ∷ []) ≡ log_by history e.backend e.event (log_of history)
log_of-more history e = ap (λ (s : Segment). s.log) (segment_of-more history e)

-- the grants after one more entry
pub held_of-more : (history : List Entry) (e : Entry) → held_of (history ++ e ∷ []) ≡ held_by e.backend e.command e.event (held_of history)
held_of-more history e = ap (λ (s : Segment). s.held) (segment_of-more history e)

-- how far the log reached, after one more entry
pub reached_of-more : (history : List Entry) (e : Entry) (rel : Oid) (mode : Mode) → reached_of (history ++ e ∷ []) rel mode ≡ reached_by history e.backend rel mode e.event (reached_of history rel mode)
reached_of-more history e rel mode = along-more (λ before old y. reached_by before y.backend rel mode y.event old) 0 history e

-- the next oid after one more entry
pub next_oid-more : (history : List Entry) (e : Entry) → next_oid (history ++ e ∷ []) ≡ next_oid_by e.event (next_oid history)
next_oid-more history e = ap (λ (s : Segment). s.next_oid) (segment_of-more history e)

-- the last Xid after one more entry
pub last_xid-more : (history : List Entry) (e : Entry) → last_xid (history ++ e ∷ []) ≡ last_xid_by e.event (last_xid history)
last_xid-more history e = ap (λ (s : Segment). s.last_xid) (segment_of-more history e)

-- a transaction is committed if it was, or the entry makes it visible
pub is_committed-more : (history : List Entry) (e : Entry) (x : ℕ) → is_committed (history ++ e ∷ []) x ≡ (is_committed history x || makes_visible x e.event)
is_committed-more history e x = ap (λ (s : Segment). s.committed x) (segment_of-more history e)

-- a committed transaction stays committed
pub is_committed-kept : (history : List Entry) (e : Entry) (x : ℕ) → is_committed history x ≡ true → is_committed (history ++ e ∷ []) x ≡ true
is_committed-kept history e x was = is_committed-more history e x ∙ ap (λ t. t || makes_visible x e.event) was

any-more : (test : Entry → Bool) (history : List Entry) (e : Entry) → list_any test (history ++ e ∷ []) ≡ (list_any test history || test e)
any-more test history e = list_any-append test history (e ∷ []) ∙ ap (λ x. list_any test history || x) (or-false (test e))

-- a backend has written in a command if it had, or the entry is such a write
pub has_written-more : (history : List Entry) (e : Entry) (b c : ℕ) → has_written (history ++ e ∷ []) b c ≡ (has_written history b c || ((e.backend == b) && (e.command == c) && is_write e.event))
has_written-more history e b c = any-more (λ y. (y.backend == b) && (y.command == c) && is_write y.event) history e

-- the last event of a backend after its own entry
pub last_event_of-own : (history : List Entry) (e : Entry) (b : ℕ) → (e.backend == b) ≡ true → last_event_of (history ++ e ∷ []) b ≡ Some e.event
last_event_of-own history e b own = own-own b (λ before old y. Some y.event) None history e own

-- and after another's
pub last_event_of-other : (history : List Entry) (e : Entry) (b : ℕ) → (e.backend == b) ≡ false → last_event_of (history ++ e ∷ []) b ≡ last_event_of history b
last_event_of-other history e b other = own-other b (λ before old y. Some y.event) None history e other

-- the life of a backend after the backend's own entry
pub life_of-own : (history : List Entry) (e : Entry) (b : ℕ) → (e.backend == b) ≡ true → life_of (history ++ e ∷ []) b ≡ life_by e.command e.event
life_of-own history e b own = ap (λ (s : Standing). s.life) (standing_of-own history e b own)

-- and after another's
pub life_of-other : (history : List Entry) (e : Entry) (b : ℕ) → (e.backend == b) ≡ false → life_of (history ++ e ∷ []) b ≡ life_of history b
life_of-other history e b other = ap (λ (s : Standing). s.life) (standing_of-other history e b other)

-- the running transaction after the backend's own entry
pub running_transaction_of-own : (history : List Entry) (e : Entry) (b : ℕ) → (e.backend == b) ≡ true → running_transaction_of (history ++ e ∷ []) b ≡ running_by e.command e.event (running_transaction_of history b)
running_transaction_of-own history e b own = ap (λ (s : Standing). s.running) (standing_of-own history e b own)

-- and after another's
pub running_transaction_of-other : (history : List Entry) (e : Entry) (b : ℕ) → (e.backend == b) ≡ false → running_transaction_of (history ++ e ∷ []) b ≡ running_transaction_of history b
running_transaction_of-other history e b other = ap (λ (s : Standing). s.running) (standing_of-other history e b other)

-- the writes that weren't taken back after the backend's own entry
pub lists_of-own : (history : List Entry) (e : Entry) (b : ℕ) → (e.backend == b) ≡ true → lists_of (history ++ e ∷ []) b ≡ lists_by history b e.command e.event (lists_of history b)
lists_of-own history e b own = ap (λ (s : Standing). s.lists) (standing_of-own history e b own)

-- and after another's
pub lists_of-other : (history : List Entry) (e : Entry) (b : ℕ) → (e.backend == b) ≡ false → lists_of (history ++ e ∷ []) b ≡ lists_of history b
lists_of-other history e b other = ap (λ (s : Standing). s.lists) (standing_of-other history e b other)

-- no event that sets a position changes the log
pub position_at : (history : List Entry) (b : ℕ) (event : Event) (old : ℕ) → position_after (length (log_by history b event (log_of history))) event old ≡ position_by history event old
position_at history b (Publish count) old = refl
position_at history b event old = refl

-- the position of a backend after the backend's own entry
pub position_of-own : (history : List Entry) (e : Entry) (b : ℕ) → (e.backend == b) ≡ true → position_of (history ++ e ∷ []) b ≡ position_by history e.event (position_of history b)
position_of-own history e b own = ap (λ (s : Standing). s.position) (standing_of-own history e b own) ∙ position_at history b e.event (position_of history b)

-- and after another's
pub position_of-other : (history : List Entry) (e : Entry) (b : ℕ) → (e.backend == b) ≡ false → position_of (history ++ e ∷ []) b ≡ position_of history b
position_of-other history e b other = ap (λ (s : Standing). s.position) (standing_of-other history e b other)

-- where a backend last made a scan, after its own entry
pub read_at-own : (history : List Entry) (e : Entry) (b : ℕ) (purpose : Purpose) → (e.backend == b) ≡ true
    → read_at (history ++ e ∷ []) b purpose ≡ elim (is_scan_of purpose e.event) [ true ↦ Some (length history + 1) | false ↦ read_at history b purpose ]
read_at-own history e b purpose own = own-own b (λ before old y. elim (is_scan_of purpose y.event) [ true ↦ Some (length before + 1) | false ↦ old ]) None history e own

-- and after another's
pub read_at-other : (history : List Entry) (e : Entry) (b : ℕ) (purpose : Purpose) → (e.backend == b) ≡ false
    → read_at (history ++ e ∷ []) b purpose ≡ read_at history b purpose
read_at-other history e b purpose other = own-other b (λ before old y. elim (is_scan_of purpose y.event) [ true ↦ Some (length before + 1) | false ↦ old ]) None history e other

-- what the last such scan gave, after the backend's own entry
pub rows_read-own : (history : List Entry) (e : Entry) (b : ℕ) (purpose : Purpose) → (e.backend == b) ≡ true
    → rows_read (history ++ e ∷ []) b purpose ≡ rows_by history b purpose e.event (rows_read history b purpose)
rows_read-own history e b purpose own = own-own b (λ before old y. rows_by before b purpose y.event old) [] history e own

-- and after another's
pub rows_read-other : (history : List Entry) (e : Entry) (b : ℕ) (purpose : Purpose) → (e.backend == b) ≡ false → rows_read (history ++ e ∷ []) b purpose ≡ rows_read history b purpose
rows_read-other history e b purpose other = own-other b (λ before old y. rows_by before b purpose y.event old) [] history e other

-- whether a scan is usable, after the backend's own entry
pub is_usable-own : (history : List Entry) (e : Entry) (b : ℕ) (purpose : Purpose) → (e.backend == b) ≡ true
    → is_usable (history ++ e ∷ []) b purpose ≡ usable_by history b e.command purpose e.event (is_usable history b purpose)
is_usable-own history e b purpose own = own-own b (λ before old y. usable_by before b y.command purpose y.event old) false history e own

-- and after another's
pub is_usable-other : (history : List Entry) (e : Entry) (b : ℕ) (purpose : Purpose) → (e.backend == b) ≡ false
    → is_usable (history ++ e ∷ []) b purpose ≡ is_usable history b purpose
is_usable-other history e b purpose other = own-other b (λ before old y. usable_by before b y.command purpose y.event old) false history e other

-- a place, if there is one, is that of an entry of the history
abbrev IsPlaceIn : List Entry → Option ℕ → Type 0
IsPlaceIn history place = unwrap_or place 0 ≤ length history

IsPlaceIn-more : (history : List Entry) (e : Entry) (own here : Bool) (old : Option ℕ) → IsPlaceIn history old
    → IsPlaceIn (history ++ e ∷ []) (if own then elim here [ true ↦ Some (length history + 1) | false ↦ old ] else old)
IsPlaceIn-more history e true true old short = omega (arith, length_push history e)
IsPlaceIn-more history e true false old short = omega (arith, short, length_push history e)
IsPlaceIn-more history e false here old short = omega (arith, short, length_push history e)

-- the place that answers name lies in the history
pub place_read-short : (history : List Entry) (b : ℕ) (purpose : Purpose) → place_read history b purpose ≤ length history
place_read-short history b purpose =
    along-keeps IsPlaceIn (λ before old y. if y.backend == b then elim (is_scan_of purpose y.event) [ true ↦ Some (length before + 1) | false ↦ old ] else old)
    (λ before old y short. IsPlaceIn-more before y (y.backend == b) (is_scan_of purpose y.event) old short) None history (omega arith)

-- the place of a scan that answers name, after another backend's entry
pub place_read-other : (history : List Entry) (e : Entry) (b : ℕ) (purpose : Purpose) → (e.backend == b) ≡ false → place_read (history ++ e ∷ []) b purpose ≡ place_read history b purpose
place_read-other history e b purpose other = ap (λ at. unwrap_or at 0) (read_at-other history e b purpose other)
