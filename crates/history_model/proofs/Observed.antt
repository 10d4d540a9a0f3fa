-- What a backend has read by a scan is what the scan would give, and so of a field its text, as long as the scan still serves and whoever may change it has made all changes known to it.
use Rattle.std.proofs.Common.{◌≡◌, ◌≤◌, ◌+◌, ◌-◌, ◌∙◌, ◌⊎◌, inl, inr, ℕ, zero, suc, Bool, true, false, Option, Some, None, List, [], ◌∷◌, ◌++◌, ◌==◌, ◌||◌, ◌&&◌, refl, sym, ap, subst, arith, append-nil, length, take, drop}
use Rattle.std.specs.Prelude.{⊤}
use Rattle.std.specs.List.{list_any}
use Rattle.std.proofs.lemmas.List.{drop-append-le, drop-drop, take-append-drop, take_all, length-drop}
use Rattle.std.proofs.lemmas.Bool.{eqb-true, eq-eqb, both_ways, or_cases, or_parts, and_parts, and_from, false_from_ne_true}
use Rattle.base_types.specs.declared.field.Field.{Field}
use Rattle.base_types.specs.declared.ids.Oid.{Oid}
use Rattle.base_types.specs.declared.ids.Xid.{Xid}
use Rattle.base_types.specs.declared.mode.Mode.{Mode}
use Rattle.base_types.specs.declared.row.Row.{Row}
use Rattle.base_types.specs.declared.scan.Purpose.{Purpose}
use Rattle.base_types.specs.Fields.{field_text, read_by}
use Rattle.event_kinds.specs.declared.entry.Entry.{Entry}
use Rattle.event_kinds.specs.declared.entry.Event.{Event}
use Rattle.event_kinds.specs.declared.entry.Event.TheVariants as events
use Rattle.inval_messages.specs.declared.message.Message.{Message}
use Rattle.inval_messages.specs.Messages.{covers}
use Rattle.lock_modes.specs.declared.grant.Grant.{Grant}
use Rattle.lock_modes.specs.Grants.{is_lock, holds}
use Rattle.history_model.specs.Lives.{life_of}
use Rattle.history_model.specs.MayFollow.{FollowsLife}
use Rattle.history_model.specs.Transactions.{Running, running_transaction_of, running_by, is_visible}
use Rattle.history_model.specs.Versions.{answer_of}
use Rattle.history_model.specs.Sent.{lists_of, sent_of, left_in}
use Rattle.history_model.specs.Log.{log_of, position_of, fetched_by}
use Rattle.history_model.specs.Held.{held_by, held_of}
use Rattle.history_model.specs.Reached.{is_writer, reached_of}
use Rattle.history_model.specs.Covered.{is_covered}
use Rattle.history_model.specs.MayFollow.{FollowsVisible, MayRelease, AllowsEvent}
use Rattle.history_model.specs.Read.{is_scan_of, rows_read, spares_by, usable_by, is_usable}
use Rattle.history_model.specs.Sound.{MayComeNext, IsSound}
use Rattle.history_model.proofs.Prefixes.{each-keeps, EachEntry-more}
use Rattle.history_model.proofs.Reading.{running_transaction_of-own as running-own, running_transaction_of-other as running-other, lists_of-other as lists-other, held_of-more as held-more, log_of-more as log-more, position_of-own as position-own, position_of-other as position-other, reached_of-more, is_usable-own, is_usable-other, rows_read-own, rows_read-other}
use Rattle.history_model.proofs.Every.{any-weaker, any-left, any-right, any-sides, every}
use Rattle.history_model.proofs.Lawful.{IsLawful}
use Rattle.history_model.proofs.Touched.{entry_of}
use Rattle.history_model.proofs.Guards.{any_with}
use Rattle.history_model.proofs.SparedGrants.{grant_spared}
use Rattle.history_model.proofs.Granted.{lock_parts}
use Rattle.history_model.proofs.Reached.{reached-rises}
use Rattle.history_model.proofs.Ordered.{lawful_of, sound_ordered}
use Rattle.history_model.proofs.CountedAnswers.{IsUntoldByOwn, counted, counted-other, counted-own}
use Rattle.history_model.specs.Coming.{unpublished_in, unpublished_of}
use Rattle.history_model.proofs.Coming.{published_by, log-append, unpublished-more, unpublished-visible, Placed}
use Rattle.history_model.proofs.Accounted.{spared_is, own_spared, scan_spared, no_start, sound_placed, sound_unsent, sound_unread}

-- another backend has made visible what it did and still holds one of the modes on the relation; a message that covers the scan isn't published by it yet, or the backend isn't past it
pub record IsWriting (history : List Entry) (b : ℕ) (rel : Oid) (modes : List Mode) (scan : Purpose) : Type 0 where
  pub writer : ℕ
  pub other : (writer == b) ≡ false
  pub writes : list_any (is_writer history writer rel) modes ≡ true
  pub coming : is_covered (unpublished_of history writer ++ drop (position_of history b) (log_of history)) scan ≡ true

-- a message that covers the scan stands in the log past the backend, and before the place that the log had reached as a visible holder of one of the modes last let the relation go
abbrev pub IsBehind : List Entry → ℕ → Oid → List Mode → Purpose → Type 0
IsBehind history b rel modes scan = list_any (λ mode. is_covered (take (reached_of history rel mode - position_of history b) (drop (position_of history b) (log_of history))) scan) modes ≡ true

-- a change under one of the modes may still be unknown to the backend
abbrev pub IsDirty : List Entry → ℕ → Oid → List Mode → Purpose → Type 0
IsDirty history b rel modes scan = IsWriting history b rel modes scan ⊎ IsBehind history b rel modes scan

-- what is made of the rows that the backend's last such scan gave is what is made of the scan's answer
abbrev pub IsReadAs : {X : Type 0} → (List Row → X) → Purpose → List Entry → ℕ → Type 0
IsReadAs read d history b = read (answer_of history b d) ≡ read (rows_read history b d)

-- what is made of a scan's rows goes by them as they count for it
abbrev pub GoesByCounted : {X : Type 0} → (List Row → X) → Purpose → Type 0
GoesByCounted read d = (given others : List Row) → counted d given ≡ counted d others → read given ≡ read others

-- so does what is made of the rows, and what becomes visible by a backend that holds none of the modes on the relation leaves what is made of the scan's answer for all others
abbrev pub LeavesRead : {X : Type 0} → (List Row → X) → Purpose → Oid → List Mode → Type 0
LeavesRead read d rel modes = GoesByCounted read d × ((history : List Entry) (a c : ℕ) (xid : Xid) (b : ℕ) → IsSound history → MayComeNext history (entry_of a c (events.Visible xid)) → (a == b) ≡ false → list_any (holds (held_of history) a rel) modes ≡ false
    → read (answer_of (history ++ entry_of a c (events.Visible xid) ∷ []) b d) ≡ read (answer_of history b d))

-- what the backend last read of the field is its text
abbrev pub IsRead : List Entry → ℕ → Field → Oid → Type 0
IsRead history b field rel = IsReadAs (field_text field rel) (read_by field rel) history b

-- and so for the text of a field
abbrev pub Leaves : Field → Oid → List Mode → Type 0
Leaves field rel modes = LeavesRead (field_text field rel) (read_by field rel) rel modes

front-more : (p : Message → Bool) (k k' : ℕ) (xs ys : List Message) → k ≤ k' → list_any p (take k xs) ≡ true → list_any p (take k' (xs ++ ys)) ≡ true
front-more p zero k' xs ys longer some = absurd (cc)
front-more p (suc k) zero xs ys longer some = absurd (omega (arith, longer))
front-more p (suc k) (suc k') [] ys longer some = absurd (cc)
front-more p (suc k) (suc k') (x ∷ xs) ys longer some = by_place (or_cases (p x) (list_any p (take k xs)) some) (front-more p k k' xs ys (omega (arith, longer)))
  where
    by_place : (p x ≡ true) ⊎ (list_any p (take k xs) ≡ true) → (list_any p (take k xs) ≡ true → list_any p (take k' (xs ++ ys)) ≡ true) → (p x || list_any p (take k' (xs ++ ys))) ≡ true
    by_place (inl here) rest = ap (λ t. t || list_any p (take k' (xs ++ ys))) here
    by_place (inr there) rest = any-right p (x ∷ []) (take k' (xs ++ ys)) (rest there)

rest-after : (p : Message → Bool) (k c : ℕ) (xs : List Message) → list_any p (take k xs) ≡ true → list_any p (take c xs) ≡ false → list_any p (take (k - c) (drop c xs)) ≡ true
rest-after p k zero xs some none = let e : k ≡ k - 0 = omega arith in subst (λ n. list_any p (take n xs) ≡ true) e some
rest-after p zero (suc c) xs some none = absurd (cc)
rest-after p (suc k) (suc c) [] some none = absurd (cc)
rest-after p (suc k) (suc c) (x ∷ xs) some none =
    let parts = or_parts (p x) (list_any p (take c xs)) none in
    let e : k - c ≡ suc k - suc c = omega arith in
    subst (λ n. list_any p (take n (drop c xs)) ≡ true) e (rest-after p k c xs (later (p x) parts.0 some) parts.1)
  where
    later : (t : Bool) → t ≡ false → (t || list_any p (take k xs)) ≡ true → list_any p (take k xs) ≡ true
    later false is there = there
    later true is there = absurd (cc)

-- the log past a backend that takes nothing
tail-more : (history : List Entry) (e : Entry) (b : ℕ) → Placed history → drop (position_of history b) (log_of (history ++ e ∷ [])) ≡ drop (position_of history b) (log_of history) ++ published_by history e.backend e.event
tail-more history e b placed = ap (drop (position_of history b)) (log-more history e ∙ log-append history e.backend e.event (log_of history)) ∙ drop-append-le (position_of history b) (log_of history) (published_by history e.backend e.event) (placed b)

-- what stands past the backend still does, where it takes nothing
past-more : (history : List Entry) (e : Entry) (b : ℕ) (d : Purpose) → Placed history → position_of (history ++ e ∷ []) b ≡ position_of history b → is_covered (drop (position_of history b) (log_of history)) d ≡ true
    → is_covered (drop (position_of (history ++ e ∷ []) b) (log_of (history ++ e ∷ []))) d ≡ true
past-more history e b d placed stays' some =
    ap (λ at. is_covered (drop at (log_of (history ++ e ∷ []))) d) stays' ∙ ap (λ ms. is_covered ms d) (tail-more history e b placed)
    ∙ any-left (covers d) (drop (position_of history b) (log_of history)) (published_by history e.backend e.event) some

behind-more : (history : List Entry) (e : Entry) (b : ℕ) (rel : Oid) (modes : List Mode) (d : Purpose) → Placed history → position_of (history ++ e ∷ []) b ≡ position_of history b → IsBehind history b rel modes d → IsBehind (history ++ e ∷ []) b rel modes d
behind-more history e b rel modes d placed stays' behind =
    any-weaker (λ mode. is_covered (take (reached_of history rel mode - position_of history b) (drop (position_of history b) (log_of history))) d)
    (λ mode. is_covered (take (reached_of after rel mode - position_of after b) (drop (position_of after b) (log_of after))) d) more modes behind
  where
    after : List Entry
    after = history ++ e ∷ []

    more : (mode : Mode) → is_covered (take (reached_of history rel mode - position_of history b) (drop (position_of history b) (log_of history))) d ≡ true
        → is_covered (take (reached_of after rel mode - position_of after b) (drop (position_of after b) (log_of after))) d ≡ true
    more mode here =
        ap (λ at. is_covered (take (reached_of after rel mode - at) (drop at (log_of after))) d) stays' ∙ ap (λ ms. is_covered (take (reached_of after rel mode - position_of history b) ms) d) (tail-more history e b placed)
        ∙ front-more (covers d) (reached_of history rel mode - position_of history b) (reached_of after rel mode - position_of history b) (drop (position_of history b) (log_of history)) (published_by history e.backend e.event)
        (omega (arith, reached-rises history e rel mode)) here

-- after a fetch of its own
fetch_tail : (history : List Entry) (b c count : ℕ) → drop (position_of (history ++ entry_of b c (events.Fetch count) ∷ []) b) (log_of (history ++ entry_of b c (events.Fetch count) ∷ [])) ≡ drop count (drop (position_of history b) (log_of history))
fetch_tail history b c count =
    ap (λ at. drop at (log_of (history ++ entry_of b c (events.Fetch count) ∷ []))) (position-own history (entry_of b c (events.Fetch count)) b (eq-eqb b b refl))
    ∙ ap (drop (position_of history b + count)) (log-more history (entry_of b c (events.Fetch count))) ∙ sym (drop-drop count (position_of history b) (log_of history))

past-fetch : (history : List Entry) (b c count : ℕ) (d : Purpose) → is_covered (fetched_by history b count) d ≡ false → is_covered (drop (position_of history b) (log_of history)) d ≡ true
    → is_covered (drop (position_of (history ++ entry_of b c (events.Fetch count) ∷ []) b) (log_of (history ++ entry_of b c (events.Fetch count) ∷ []))) d ≡ true
past-fetch history b c count d spared some = ap (λ ms. is_covered ms d) (fetch_tail history b c count) ∙ by_side (any-sides (covers d) (take count tail) (drop count tail) (ap (λ ms. is_covered ms d) (take-append-drop count tail) ∙ some))
  where
    tail : List Message
    tail = drop (position_of history b) (log_of history)

    by_side : (is_covered (take count tail) d ≡ true) ⊎ (is_covered (drop count tail) d ≡ true) → is_covered (drop count tail) d ≡ true
    by_side (inl is) = absurd (both_ways _ spared is)
    by_side (inr is) = is

behind-fetch : (history : List Entry) (b c count : ℕ) (rel : Oid) (modes : List Mode) (d : Purpose) → is_covered (fetched_by history b count) d ≡ false → IsBehind history b rel modes d → IsBehind (history ++ entry_of b c (events.Fetch count) ∷ []) b rel modes d
behind-fetch history b c count rel modes d spared behind =
    any-weaker (λ mode. is_covered (take (reached_of history rel mode - position_of history b) tail) d) (λ mode. is_covered (take (reached_of after rel mode - position_of after b) (drop (position_of after b) (log_of after))) d) more modes behind
  where
    after : List Entry
    after = history ++ entry_of b c (events.Fetch count) ∷ []

    tail : List Message
    tail = drop (position_of history b) (log_of history)

    more : (mode : Mode) → is_covered (take (reached_of history rel mode - position_of history b) tail) d ≡ true → is_covered (take (reached_of after rel mode - position_of after b) (drop (position_of after b) (log_of after))) d ≡ true
    more mode here =
        let at : position_of after b ≡ position_of history b + count = position-own history (entry_of b c (events.Fetch count)) b (eq-eqb b b refl) in
        ap (λ ms. is_covered (take (reached_of after rel mode - position_of after b) ms) d) (fetch_tail history b c count ∙ sym (append-nil (drop count tail)))
        ∙ front-more (covers d) ((reached_of history rel mode - position_of history b) - count) (reached_of after rel mode - position_of after b) (drop count tail) [] (omega (arith, at, reached-rises history (entry_of b c (events.Fetch count)) rel mode))
        (rest-after (covers d) (reached_of history rel mode - position_of history b) count tail here spared)

-- what another holds it still holds
holds_kept : (a c w : ℕ) (rel : Oid) (mode : Mode) (event : Event) (gs : List Grant) → (a == w) ≡ false → holds gs w rel mode ≡ true → holds (held_by a c event gs) w rel mode ≡ true
holds_kept a c w rel mode event gs other held = grant_spared a c event gs w (is_lock w rel mode) (λ g lock. (lock_parts w rel mode g lock).0) (λ own. absurd (both_ways _ other own)) held

writer_kept : (history : List Entry) (e : Entry) (w : ℕ) (rel : Oid) (mode : Mode) → (e.backend == w) ≡ false → is_writer history w rel mode ≡ true → is_writer (history ++ e ∷ []) w rel mode ≡ true
writer_kept history e w rel mode other is =
    let parts = and_parts (is_visible (running_transaction_of history w)) (holds (held_of history) w rel mode) is in
    and_from (is_visible (running_transaction_of (history ++ e ∷ []) w)) (holds (held_of (history ++ e ∷ [])) w rel mode) (ap is_visible (running-other history e w other) ∙ parts.0)
    (subst (λ held. holds held w rel mode ≡ true) (sym (held-more history e)) (holds_kept e.backend e.command w rel mode e.event (held_of history) other parts.1))

unpublished_kept : (history : List Entry) (e : Entry) (w : ℕ) → (e.backend == w) ≡ false → unpublished_of (history ++ e ∷ []) w ≡ unpublished_of history w
unpublished_kept history e w other = ap (unpublished_in (lists_of (history ++ e ∷ []) w)) (running-other history e w other) ∙ ap (λ ws. unpublished_in ws (running_transaction_of history w)) (lists-other history e w other)

-- a writer after an entry that isn't its own
writing-other : (history : List Entry) (e : Entry) (b : ℕ) (rel : Oid) (modes : List Mode) (d : Purpose) (writing : IsWriting history b rel modes d) → (e.backend == writing.writer) ≡ false
    → (is_covered (drop (position_of history b) (log_of history)) d ≡ true → is_covered (drop (position_of (history ++ e ∷ []) b) (log_of (history ++ e ∷ []))) d ≡ true) → IsWriting (history ++ e ∷ []) b rel modes d
writing-other history e b rel modes d writing other past = record {
  writer = w;
  other = writing.other;
  writes = any-weaker (is_writer history w rel) (is_writer (history ++ e ∷ []) w rel) (λ mode is. writer_kept history e w rel mode other is) modes writing.writes;
  coming = by_side (any-sides (covers d) (unpublished_of history w) (drop (position_of history b) (log_of history)) writing.coming);
}
  where
    w : ℕ
    w = writing.writer

    tail : List Message
    tail = drop (position_of (history ++ e ∷ []) b) (log_of (history ++ e ∷ []))

    by_side : (is_covered (unpublished_of history w) d ≡ true) ⊎ (is_covered (drop (position_of history b) (log_of history)) d ≡ true) → is_covered (unpublished_of (history ++ e ∷ []) w ++ tail) d ≡ true
    by_side (inl is) = any-left (covers d) (unpublished_of (history ++ e ∷ []) w) tail (ap (λ ms. is_covered ms d) (unpublished_kept history e w other) ∙ is)
    by_side (inr is) = any-right (covers d) (unpublished_of (history ++ e ∷ []) w) tail (past is)

writer_visible : (history : List Entry) (w : ℕ) (rel : Oid) (modes : List Mode) → list_any (is_writer history w rel) modes ≡ true → is_visible (running_transaction_of history w) ≡ true
writer_visible history w rel modes some = any_with (is_writer history w rel) (λ mode. ⊤) (is_visible (running_transaction_of history w) ≡ true)
    (λ mode is also. (and_parts (is_visible (running_transaction_of history w)) (holds (held_of history) w rel mode) is).0) modes some (every (λ mode. ⊤) (λ mode. tt) modes)

published_visible : (c count : ℕ) (r : Option Running) → is_visible (running_by c (events.Publish count) r) ≡ is_visible r
published_visible c count None = refl
published_visible c count (Some t) = refl

-- a writer after its own entry: it publishes, or it has published all and lets the relation go
writer_step : (history : List Entry) (w c : ℕ) (event : Event) (b : ℕ) (rel : Oid) (modes : List Mode) (d : Purpose) → (w == b) ≡ false → IsLawful history (entry_of w c event) → AllowsEvent history w c event → FollowsVisible (is_visible (running_transaction_of history w)) event → Placed history
    → list_any (is_writer history w rel) modes ≡ true → is_covered (unpublished_of history w ++ drop (position_of history b) (log_of history)) d ≡ true → IsDirty (history ++ entry_of w c event ∷ []) b rel modes d
writer_step history w c (events.Publish count) b rel modes d other lawful allows visible placed writes coming = inl (record {
  writer = w;
  other = other;
  writes = any-weaker (is_writer history w rel) (is_writer after w rel) still modes writes;
  coming = by_side (any-sides (covers d) (unpublished_of history w) (drop (position_of history b) (log_of history)) coming);
})
  where
    e : Entry
    e = entry_of w c (events.Publish count)

    after : List Entry
    after = history ++ e ∷ []

    still : (mode : Mode) → is_writer history w rel mode ≡ true → is_writer after w rel mode ≡ true
    still mode is =
        let parts = and_parts (is_visible (running_transaction_of history w)) (holds (held_of history) w rel mode) is in
        and_from (is_visible (running_transaction_of after w)) (holds (held_of after) w rel mode) (ap is_visible (running-own history e w (eq-eqb w w refl)) ∙ published_visible c count (running_transaction_of history w) ∙ parts.0)
        (subst (λ held. holds held w rel mode ≡ true) (sym (held-more history e)) parts.1)

    stays' : position_of after b ≡ position_of history b
    stays' = position-other history e b other

    tail : List Message
    tail = drop (position_of after b) (log_of after)

    tail_is : tail ≡ drop (position_of history b) (log_of history) ++ published_by history w (events.Publish count)
    tail_is = ap (λ at. drop at (log_of after)) stays' ∙ tail-more history e b placed

    of_unpublished : (is_covered (unpublished_of after w) d ≡ true) ⊎ (is_covered (published_by history w (events.Publish count)) d ≡ true) → is_covered (unpublished_of after w ++ tail) d ≡ true
    of_unpublished (inl is) = any-left (covers d) (unpublished_of after w) tail is
    of_unpublished (inr is) = any-right (covers d) (unpublished_of after w) tail
        (ap (λ ms. is_covered ms d) tail_is ∙ any-right (covers d) (drop (position_of history b) (log_of history)) (published_by history w (events.Publish count)) is)

    by_side : (is_covered (unpublished_of history w) d ≡ true) ⊎ (is_covered (drop (position_of history b) (log_of history)) d ≡ true) → is_covered (unpublished_of after w ++ tail) d ≡ true
    by_side (inl is) = of_unpublished (unpublished-more history e d w lawful allows is)
    by_side (inr is) = any-right (covers d) (unpublished_of after w) tail (past-more history e b d placed stays' is)
writer_step history w c (events.Release from) b rel modes d other lawful allows visible placed writes coming =
    inr (any-weaker (is_writer history w rel) (λ mode. is_covered (take (reached_of after rel mode - position_of after b) (drop (position_of after b) (log_of after))) d) behind modes writes)
  where
    e : Entry
    e = entry_of w c (events.Release from)

    after : List Entry
    after = history ++ e ∷ []

    tail : List Message
    tail = drop (position_of history b) (log_of history)

    shown : is_visible (running_transaction_of history w) ≡ true
    shown = writer_visible history w rel modes writes

    none_left : left_in (lists_of history w) (running_transaction_of history w) ≡ []
    none_left = (subst (λ v. MayRelease v history w from) shown allows.1).1

    none_unpublished : unpublished_of history w ≡ []
    none_unpublished = ap (λ v. elim v [ true ↦ left_in (lists_of history w) (running_transaction_of history w) | false ↦ [] ]) shown ∙ none_left

    past : is_covered tail d ≡ true
    past = sym (ap (λ ms. is_covered (ms ++ tail) d) none_unpublished) ∙ coming

    behind : (mode : Mode) → is_writer history w rel mode ≡ true → is_covered (take (reached_of after rel mode - position_of after b) (drop (position_of after b) (log_of after))) d ≡ true
    behind mode is =
        let at : position_of after b ≡ position_of history b = position-other history e b other in
        let reached : reached_of after rel mode ≡ length (log_of history) = reached_of-more history e rel mode ∙ ap (λ t. elim t [ true ↦ length (log_of history) | false ↦ reached_of history rel mode ]) is in
        let long : length tail ≤ length (log_of history) - position_of history b = omega (arith, length-drop (position_of history b) (log_of history)) in
        ap (λ n. is_covered (take (n - position_of after b) (drop (position_of after b) (log_of after))) d) reached
        ∙ ap (λ p. is_covered (take (length (log_of history) - p) (drop p (log_of after))) d) at ∙ ap (λ log. is_covered (take (length (log_of history) - position_of history b) (drop (position_of history b) log)) d) (log-more history e)
        ∙ ap (λ ms. is_covered ms d) (take_all (length (log_of history) - position_of history b) tail long) ∙ past
writer_step history w c event b rel modes d other lawful allows visible placed writes coming = absurd (subst (λ v. FollowsVisible v event) (writer_visible history w rel modes writes) visible)

-- what another's entry leaves of what was read
read_other : {X : Type 0} (read : List Row → X) (d : Purpose) (rel : Oid) (modes : List Mode) → LeavesRead read d rel modes → (history : List Entry) (a c : ℕ) (event : Event) (b : ℕ) → (a == b) ≡ false → IsSound history → MayComeNext history (entry_of a c event)
    → IsLawful history (entry_of a c event) → IsReadAs read d history b → IsReadAs read d (history ++ entry_of a c event ∷ []) b ⊎ IsDirty (history ++ entry_of a c event ∷ []) b rel modes d
read_other read d rel modes leaves history a c (events.Visible xid) b other sound comes lawful was = by_cover (is_covered (sent_of history a) d) refl
  where
    e : Entry
    e = entry_of a c (events.Visible xid)

    after : List Entry
    after = history ++ e ∷ []

    stays' : read (answer_of after b d) ≡ read (answer_of history b d) → IsReadAs read d after b
    stays' same = same ∙ was ∙ ap read (sym (rows_read-other history e b d other))

    writes : (mode : Mode) → holds (held_of history) a rel mode ≡ true → is_writer after a rel mode ≡ true
    writes mode held = and_from (is_visible (running_transaction_of after a)) (holds (held_of after) a rel mode) (ap is_visible (running-own history e a (eq-eqb a a refl))) (subst (λ gs. holds gs a rel mode ≡ true) (sym (held-more history e)) held)

    by_holds : is_covered (sent_of history a) d ≡ true → (t : Bool) → list_any (holds (held_of history) a rel) modes ≡ t → IsReadAs read d after b ⊎ IsDirty after b rel modes d
    by_holds covered false none = inl (stays' (leaves.1 history a c xid b sound comes other none))
    by_holds covered true held = inr (inl (record {
      writer = a;
      other = other;
      writes = any-weaker (holds (held_of history) a rel) (is_writer after a rel) writes modes held;
      coming = any-left (covers d) (unpublished_of after a) (drop (position_of after b) (log_of after)) (ap (λ ms. is_covered ms d) (unpublished-visible history a c xid lawful.0 (sound_unsent history sound)) ∙ covered);
    }))

    by_cover : (t : Bool) → is_covered (sent_of history a) d ≡ t → IsReadAs read d after b ⊎ IsDirty after b rel modes d
    by_cover false none = inl (stays' (leaves.0 (answer_of after b d) (answer_of history b d) (counted-other history a c (events.Visible xid) b d other sound comes none)))
    by_cover true covered = by_holds covered (list_any (holds (held_of history) a rel) modes) refl
read_other read d rel modes leaves history a c event b other sound comes lawful was =
    inl (leaves.0 (answer_of (history ++ entry_of a c event ∷ []) b d) (answer_of history b d) (counted-other history a c event b d other sound comes tt) ∙ was ∙ ap read (sym (rows_read-other history (entry_of a c event) b d other)))

-- and of a change that may be unknown
pub dirty_other : (history : List Entry) (e : Entry) (b : ℕ) (rel : Oid) (modes : List Mode) (d : Purpose) → (e.backend == b) ≡ false → IsSound history → MayComeNext history e → IsLawful history e → IsDirty history b rel modes d → IsDirty (history ++ e ∷ []) b rel modes d
dirty_other history e b rel modes d other sound comes lawful (inr behind) = inr (behind-more history e b rel modes d (sound_placed history sound) (position-other history e b other) behind)
dirty_other history e b rel modes d other sound comes lawful (inl writing) = by_owner (e.backend == writing.writer) refl
  where
    by_owner : (t : Bool) → (e.backend == writing.writer) ≡ t → IsDirty (history ++ e ∷ []) b rel modes d
    by_owner false theirs = inl (writing-other history e b rel modes d writing theirs (past-more history e b d (sound_placed history sound) (position-other history e b other)))
    by_owner true own =
        let same : writing.writer ≡ e.backend = sym (eqb-true e.backend writing.writer own) in
        writer_step history e.backend e.command e.event b rel modes d other lawful comes.follows.event comes.follows.visible (sound_placed history sound)
        (subst (λ o. list_any (is_writer history o rel) modes ≡ true) same writing.writes) (subst (λ o. is_covered (unpublished_of history o ++ drop (position_of history b) (log_of history)) d ≡ true) same writing.coming)

differ : (x y : ℕ) → (x == y) ≡ false → (y == x) ≡ false
differ x y not' = false_from_ne_true (y == x) (λ is. both_ways _ not' (eq-eqb x y (sym (eqb-true y x is))))

-- an own entry that leaves the scan usable
pub dirty_own : (history : List Entry) (b c : ℕ) (event : Event) (rel : Oid) (modes : List Mode) (d : Purpose) → IsSound history → FollowsLife (life_of history b) c event → is_usable history b d ≡ true → spares_by history b c d event ≡ true
    → IsDirty history b rel modes d → IsDirty (history ++ entry_of b c event ∷ []) b rel modes d
dirty_own history b c (events.Fetch count) rel modes d sound life was spared (inl writing) =
    inl (writing-other history (entry_of b c (events.Fetch count)) b rel modes d writing (differ writing.writer b writing.other) (past-fetch history b c count d (spared_is d (fetched_by history b count) spared)))
dirty_own history b c (events.Fetch count) rel modes d sound life was spared (inr behind) = inr (behind-fetch history b c count rel modes d (spared_is d (fetched_by history b count) spared) behind)
dirty_own history b c events.FetchReset rel modes d sound life was spared dirty = absurd (cc)
dirty_own history b c events.Start rel modes d sound life was spared dirty = absurd (no_start history b c d (life_of history b) refl life (sound_unread history sound) was)
dirty_own history b c event rel modes d sound life was spared (inl writing) =
    inl (writing-other history (entry_of b c event) b rel modes d writing (differ writing.writer b writing.other) (past-more history (entry_of b c event) b d (sound_placed history sound) (position-own history (entry_of b c event) b (eq-eqb b b refl))))
dirty_own history b c event rel modes d sound life was spared (inr behind) = inr (behind-more history (entry_of b c event) b rel modes d (sound_placed history sound) (position-own history (entry_of b c event) b (eq-eqb b b refl)) behind)

-- each backend has read right what it may rely on, or a change may be unknown to it
abbrev Observed : {X : Type 0} → (List Row → X) → Purpose → Oid → List Mode → List Entry → Type 0
Observed read d rel modes history = (b : ℕ) → is_usable history b d ≡ true → IsReadAs read d history b ⊎ IsDirty history b rel modes d

observed_own : {X : Type 0} (read : List Row → X) (d : Purpose) (rel : Oid) (modes : List Mode) → GoesByCounted read d → (history : List Entry) (b c : ℕ) (event : Event) → IsSound history → MayComeNext history (entry_of b c event) → Observed read d rel modes history
    → usable_by history b c d event (is_usable history b d) ≡ true → IsReadAs read d (history ++ entry_of b c event ∷ []) b ⊎ IsDirty (history ++ entry_of b c event ∷ []) b rel modes d
observed_own read d rel modes goes history b c event sound comes observed' is = by_scan (is_scan_of d event) refl is
  where
    e : Entry
    e = entry_of b c event

    after : List Entry
    after = history ++ e ∷ []

    kept : IsUntoldByOwn history b event d → read (answer_of after b d) ≡ read (answer_of history b d)
    kept spared = goes (answer_of after b d) (answer_of history b d) (counted-own history b c event d sound comes spared)

    rows_are : (t : Bool) → is_scan_of d event ≡ t → rows_read after b d ≡ elim t as (λ x. List Row) [ true ↦ answer_of history b d | false ↦ rows_read history b d ]
    rows_are t it = rows_read-own history e b d (eq-eqb b b refl) ∙ ap (λ u. elim u [ true ↦ answer_of history b d | false ↦ rows_read history b d ]) it

    on : is_scan_of d event ≡ false → is_usable history b d ≡ true → spares_by history b c d event ≡ true → IsReadAs read d history b ⊎ IsDirty history b rel modes d → IsReadAs read d after b ⊎ IsDirty after b rel modes d
    on not_it used spared (inl was) = inl (kept (own_spared history b c event d spared) ∙ was ∙ ap read (sym (rows_are false not_it)))
    on not_it used spared (inr dirty) = inr (dirty_own history b c event rel modes d sound comes.follows.life used spared dirty)

    by_scan : (t : Bool) → is_scan_of d event ≡ t → (t || (spares_by history b c d event && is_usable history b d)) ≡ true → IsReadAs read d after b ⊎ IsDirty after b rel modes d
    by_scan true it used = inl (kept (scan_spared history b c event d it) ∙ ap read (sym (rows_are true it)))
    by_scan false not_it used = let parts = and_parts (spares_by history b c d event) (is_usable history b d) used in on not_it parts.1 parts.0 (observed' b parts.1)

Observed-more : {X : Type 0} (read : List Row → X) (d : Purpose) (rel : Oid) (modes : List Mode) → LeavesRead read d rel modes → (history : List Entry) (e : Entry) → IsSound history → MayComeNext history e → Observed read d rel modes history
    → Observed read d rel modes (history ++ e ∷ [])
Observed-more read d rel modes leaves history e sound comes observed' b is = by_owner (e.backend == b) refl
  where
    after : List Entry
    after = history ++ e ∷ []

    lawful : IsLawful history e
    lawful = lawful_of history e (sound_ordered history sound) comes

    theirs : (e.backend == b) ≡ false → IsReadAs read d history b ⊎ IsDirty history b rel modes d → IsReadAs read d after b ⊎ IsDirty after b rel modes d
    theirs other (inl was) = read_other read d rel modes leaves history e.backend e.command e.event b other sound comes lawful was
    theirs other (inr dirty) = inr (dirty_other history e b rel modes d other sound comes lawful dirty)

    by_owner : (t : Bool) → (e.backend == b) ≡ t → IsReadAs read d after b ⊎ IsDirty after b rel modes d
    by_owner true own = subst (λ o. is_usable after o d ≡ true → IsReadAs read d after o ⊎ IsDirty after o rel modes d) (eqb-true e.backend b own)
        (λ used. observed_own read d rel modes leaves.0 history e.backend e.command e.event sound comes observed' (sym (is_usable-own history e e.backend d (eq-eqb e.backend e.backend refl)) ∙ used)) is
    by_owner false other = theirs other (observed' b (sym (is_usable-other history e b d other) ∙ is))

-- of a sound history: where only those who hold one of the modes on the relation change for others what is made of a scan's answer, it is made of what a backend has read by such a scan that still serves, or a change under one of the modes may be unknown to it
pub observed_as : {X : Type 0} (read : List Row → X) (d : Purpose) (rel : Oid) (modes : List Mode) → LeavesRead read d rel modes → (history : List Entry) (b : ℕ) → IsSound history → is_usable history b d ≡ true → IsReadAs read d history b ⊎ IsDirty history b rel modes d
observed_as read d rel modes leaves history b sound is =
    (each-keeps MayComeNext (λ h. IsSound h × Observed read d rel modes h) (tt, λ o used. absurd (cc)) (λ before e k comes. (EachEntry-more MayComeNext before e k.0 comes, Observed-more read d rel modes leaves before e k.0 comes k.1)) history sound).1 b is

-- so it is of the text of a field
pub observed : (field : Field) (rel : Oid) (modes : List Mode) → Leaves field rel modes → (history : List Entry) (b : ℕ) → IsSound history → is_usable history b (read_by field rel) ≡ true → IsRead history b field rel ⊎ IsDirty history b rel modes (read_by field rel)
observed field rel modes leaves history b sound is = observed_as (field_text field rel) (read_by field rel) rel modes leaves history b sound is
