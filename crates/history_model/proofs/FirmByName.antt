-- A relation that the scan of a name has given is seen with its kind, and a table with its name, as long as the scan still serves and all that was changed under AccessExclusive is known. An index may have another name by then, and under that name be dropped: who drops it keeps out whoever renamed it, whose message is in the log.
use Rattle.std.proofs.Common.{◌≡◌, ◌≤◌, ◌<◌, ◌+◌, ◌∙◌, ◌⊎◌, inl, inr, ◌-◌, ℕ, Bool, true, false, Option, List, [], ◌∷◌, ◌++◌, ◌==◌, ◌||◌, ◌&&◌, refl, sym, ap, subst, map, take, drop, length, arith}
use Rattle.std.specs.Prelude.{⊤}
use Rattle.std.specs.List.{AllByRecursion, list_any, flat_map}
use Rattle.std.specs.Option.{IfSome}
use Rattle.std.proofs.Math.Bool.{or-false}
use Rattle.std.proofs.lemmas.List.{take-append-drop}
use Rattle.std.proofs.lemmas.Bool.{eqb-true, eq-eqb, both_ways, and_parts, and_from, or_left, false_from_ne_true}
use Rattle.base_types.specs.declared.ids.Oid.{Oid}
use Rattle.base_types.specs.declared.ids.Xid.{Xid}
use Rattle.base_types.specs.declared.kind.Kind.{Kind}
use Rattle.base_types.specs.declared.mode.Mode.TheVariants.{AccessExclusive}
use Rattle.base_types.specs.declared.row.Row.{Row}
use Rattle.base_types.specs.declared.row.Row.TheVariants as rows
use Rattle.base_types.specs.declared.scan.Purpose.{Purpose}
use Rattle.base_types.specs.declared.scan.Purpose.TheVariants as scans
use Rattle.event_kinds.specs.declared.entry.Entry.{Entry}
use Rattle.event_kinds.specs.declared.entry.Event.{Event}
use Rattle.event_kinds.specs.declared.entry.Event.TheVariants as events
use Rattle.event_kinds.specs.declared.entry.Item.{Item}
use Rattle.inval_messages.specs.declared.message.Message.{Message}
use Rattle.inval_messages.specs.Messages.{covers}
use Rattle.lock_modes.specs.declared.grant.Grant.{Grant}
use Rattle.lock_modes.specs.Grants.{is_lock, holds}
use Rattle.history_model.specs.Prefixes.{EachEntry}
use Rattle.history_model.specs.Transactions.{running_transaction_of, is_visible}
use Rattle.history_model.specs.Versions.{added_row, old_row, answer_of}
use Rattle.history_model.specs.Log.{log_of, position_of}
use Rattle.history_model.specs.Held.{granted_by, held_of}
use Rattle.history_model.specs.Drawn.{drawn_by, next_oid}
use Rattle.history_model.specs.Reached.{is_writer, reached_of}
use Rattle.history_model.specs.Covered.{is_covered}
use Rattle.history_model.specs.Coming.{unpublished_of}
use Rattle.history_model.specs.Read.{is_scan_of, rows_read, spares_by, is_usable}
use Rattle.history_model.specs.Orderly.{main_rel}
use Rattle.history_model.specs.Sound.{MayComeNext, IsSound}
use Rattle.history_model.proofs.Prefixes.{each-keeps, EachEntry-more, EachFrom-both}
use Rattle.history_model.proofs.Reading.{running_transaction_of-own as running-own, held_of-more as held-more, is_usable-own, is_usable-other, rows_read-own, rows_read-other}
use Rattle.history_model.proofs.Every.{every, every-weaker, any-weaker, any-left, any-right, any-sides}
use Rattle.history_model.proofs.Touched.{entry_of}
use Rattle.history_model.proofs.Guards.{is_exclusive, any_with}
use Rattle.history_model.proofs.Exclude.{IsNew, all_granted_new, in_range}
use Rattle.history_model.proofs.Granted.{lock_parts}
use Rattle.history_model.proofs.Answers.{other_answers}
use Rattle.history_model.proofs.CountedAnswers.{counted-own}
use Rattle.history_model.proofs.Accounted.{own_spared}
use Rattle.history_model.proofs.FixedRows.{fixed}
use Rattle.history_model.proofs.HeldRows.{not_held}
use Rattle.history_model.proofs.MaskedRows.{Masking, IsFor, KeepsMask, LeavesMask}
use Rattle.history_model.proofs.MaskedOwn.{write_masked, gone_masked}
use Rattle.history_model.proofs.Markings.{HoldsBy, held_marks}
use Rattle.history_model.proofs.RowMasks.{fixed_mask, fixed_masks}
use Rattle.history_model.proofs.WeakChanges.{class_apart, exclusive_only, fixed_visible}
use Rattle.history_model.proofs.Ordered.{Ordered, Ordered-more, if_some, lawful_of, sound_ordered, locks_exclude}
use Rattle.history_model.proofs.Observed.{IsReadAs, IsDirty, dirty_own, dirty_other}
use Rattle.history_model.proofs.ReadRows.{read_drawn}
use Rattle.history_model.proofs.Locked.{IsNoChange, IsFirm, seen_firm, held_bars_all, none_held, unchanged_answers, scanned_answers}
use Rattle.history_model.proofs.FoundByName.{naming_modes, named_rows, named_leaves, named_observed, named_seen}

-- a write locks no relation that was there
held_written : (history : List Entry) (b c : ℕ) (xid : Xid) (items : List Item) (rel : Oid) → MayComeNext history (entry_of b c (events.Write xid items)) → rel.0 < next_oid history → holds (held_of history) b rel AccessExclusive ≡ false
    → holds (held_of (history ++ entry_of b c (events.Write xid items) ∷ [])) b rel AccessExclusive ≡ false
held_written history b c xid items rel comes drawn none = subst (λ held. holds held b rel AccessExclusive ≡ false) (sym (held-more history (entry_of b c (events.Write xid items))))
    (false_from_ne_true (holds (held_of history ++ granted) b rel AccessExclusive) (λ some. by_side (any-sides (is_lock b rel AccessExclusive) (held_of history) granted some)))
  where
    granted : List Grant
    granted = flat_map (granted_by b c) items

    low : ℕ
    low = next_oid history

    high : ℕ
    high = next_oid history + length (flat_map drawn_by items)

    new : AllByRecursion (IsNew b low high) granted
    new = all_granted_new b c low high items (subst (AllByRecursion (λ n. (low ≤ n) × (n < high))) (sym comes.follows.event.oids) (in_range low high low (length (flat_map drawn_by items)) (omega arith) (omega arith)))

    by_side : (holds (held_of history) b rel AccessExclusive ≡ true) ⊎ (list_any (is_lock b rel AccessExclusive) granted ≡ true) → ⊥
    by_side (inl is) = both_ways _ none is
    by_side (inr is) = any_with (is_lock b rel AccessExclusive) (IsNew b low high) ⊥ (λ g lock fresh. absurd (omega (arith, fresh.above, eqb-true g.rel.0 rel.0 (lock_parts b rel AccessExclusive g lock).1, drawn))) granted is new

-- an own entry of a backend that doesn't hold AccessExclusive on a relation leaves the relation's row, but for what a weak mode changes
fixed_own : (history : List Entry) (b c : ℕ) (event : Event) (rel : Oid) → IsSound history → MayComeNext history (entry_of b c event) → rel.0 < next_oid history → holds (held_of history) b rel AccessExclusive ≡ false
    → map fixed (answer_of (history ++ entry_of b c event ∷ []) b (scans.Class rel)) ≡ map fixed (answer_of history b (scans.Class rel))
fixed_own history b c (events.Write xid items) rel sound comes drawn none =
    write_masked m (scans.Class rel) (class_apart rel) history b c xid items k (lawful_of history e k comes) (Ordered-more history e k comes).one comes.follows.life comes.follows.event.keys
    (every-weaker (λ item. IfSome (added_row item) (For item) × IfSome (old_row history b item) (For item)) (λ item. IfSome (added_row item) (LeavesMask m history b item) × IfSome (old_row history b item) (LeavesMask m history b item))
    (λ item h. (if_some (For item) (LeavesMask m history b item) (on item) (added_row item) h.0, if_some (For item) (LeavesMask m history b item) (on item) (old_row history b item) h.1)) items (fixed_masks rel history b c xid items k comes))
  where
    m : Masking
    m = fixed_mask rel

    e : Entry
    e = entry_of b c (events.Write xid items)

    k : Ordered history
    k = sound_ordered history sound

    For : Item → Row → Type 0
    For item = IsFor m (held_marks rel is_exclusive) history b c xid items item

    on : (item : Item) (row : Row) → For item row → LeavesMask m history b item row
    on item row held_for concerned = of (held_for concerned)
      where
        of : HoldsBy rel is_exclusive (history ++ e ∷ []) b c ⊎ KeepsMask m (old_row history b item) item → KeepsMask m (old_row history b item) item
        of (inl held) = absurd (not_held is_exclusive (AccessExclusive ∷ []) (held_of (history ++ e ∷ [])) b c rel exclusive_only (or-false (holds (held_of (history ++ e ∷ [])) b rel AccessExclusive) ∙ held_written history b c xid items rel comes drawn none) held)
        of (inr keeps) = keeps
fixed_own history b c (events.Gone from) rel sound comes drawn none = gone_masked (fixed_mask rel) (held_marks rel is_exclusive) (fixed_masks rel) (scans.Class rel) (class_apart rel) history b c from sound comes
    (λ i above held. not_held is_exclusive (AccessExclusive ∷ []) (held_of history) b i rel exclusive_only (or-false (holds (held_of history) b rel AccessExclusive) ∙ none) held)
fixed_own history b c event rel sound comes drawn none = ap (map fixed) (unchanged_answers history (entry_of b c event) b (scans.Class rel) sound comes (eq-eqb b b refl) tt)

-- where a visible writer holds AccessExclusive on a relation, whatever change of its row may be unknown, one under AccessExclusive may be
strong_dirty : (history : List Entry) (b a : ℕ) (rel : Oid) (d : Purpose) → IsSound history → (a == b) ≡ false → is_writer history a rel AccessExclusive ≡ true → IsDirty history b rel naming_modes d → IsDirty history b rel (AccessExclusive ∷ []) d
strong_dirty history b a rel d sound other writer (inl writing) = by_writer (writing.writer == a) refl
  where
    held : holds (held_of history) a rel AccessExclusive ≡ true
    held = (and_parts (is_visible (running_transaction_of history a)) (holds (held_of history) a rel AccessExclusive) writer).1

    by_writer : (t : Bool) → (writing.writer == a) ≡ t → IsDirty history b rel (AccessExclusive ∷ []) d
    by_writer true is = inl (record {
      writer = a;
      other = other;
      writes = or_left (is_writer history a rel AccessExclusive) false writer;
      coming = subst (λ o. is_covered (unpublished_of history o ++ drop (position_of history b) (log_of history)) d ≡ true) (eqb-true writing.writer a is) writing.coming;
    })
    by_writer false differs = absurd (both_ways _ (none_held (held_of history) a writing.writer rel naming_modes (locks_exclude history sound).agree differs (held_bars_all (held_of history) a rel AccessExclusive naming_modes held refl))
        (any-weaker (is_writer history writing.writer rel) (holds (held_of history) writing.writer rel) (λ mode is. (and_parts (is_visible (running_transaction_of history writing.writer)) (holds (held_of history) writing.writer rel mode) is).1) naming_modes writing.writes))
strong_dirty history b a rel d sound other writer (inr behind) = inl (record {
  writer = a;
  other = other;
  writes = or_left (is_writer history a rel AccessExclusive) false writer;
  coming = any-right (covers d) (unpublished_of history a) tail (any_with (λ mode. is_covered (take (reached_of history rel mode - position_of history b) tail) d) (λ mode. ⊤) (is_covered tail d ≡ true)
      (λ mode is also. past (reached_of history rel mode - position_of history b) is) naming_modes behind (every (λ mode. ⊤) (λ mode. tt) naming_modes));
})
  where
    tail : List Message
    tail = drop (position_of history b) (log_of history)

    past : (n : ℕ) → is_covered (take n tail) d ≡ true → is_covered tail d ≡ true
    past n is = sym (ap (λ ms. is_covered ms d) (take-append-drop n tail)) ∙ any-left (covers d) (take n tail) (drop n tail) is

-- a backend that holds AccessExclusive on a relation of whose row a change may be unknown to it neither writes nor takes writes back
abbrev pub ChangesKnown : List Entry → Entry → Type 0
ChangesKnown before e = (rel : Oid) (d : Purpose) → holds (held_of before) e.backend rel AccessExclusive ≡ true → IsDirty before e.backend rel naming_modes d → IsNoChange e.event

-- what the scan of a name gave first, if it still serves, is seen with its kind, and a table with its name, or a change under AccessExclusive may be unknown
abbrev IsFound : List ℕ → List Entry → ℕ → Type 0
IsFound name history b = is_usable history b (scans.RelName name) ≡ true → (rel : Oid) (own : List ℕ) (kind : Kind) (fill : Option ℕ) (more : List Row) → rows_read history b (scans.RelName name) ≡ rows.Class rel own kind fill ∷ more
    → IsFirm history b rel own kind ⊎ IsDirty history b rel (AccessExclusive ∷ []) (scans.RelName name)

found_own : (name : List ℕ) (history : List Entry) (b c : ℕ) (event : Event) → IsSound history → MayComeNext history (entry_of b c event) → ChangesKnown history (entry_of b c event) → IsFound name history b → IsFound name (history ++ entry_of b c event ∷ []) b
found_own name history b c event sound comes known found usable rel own kind fill more gave = by_scan (is_scan_of d event) refl (sym (is_usable-own history e b d (eq-eqb b b refl)) ∙ usable)
  where
    d : Purpose
    d = scans.RelName name

    e : Entry
    e = entry_of b c event

    after : List Entry
    after = history ++ e ∷ []

    Result : Type 0
    Result = IsFirm after b rel own kind ⊎ IsDirty after b rel (AccessExclusive ∷ []) d

    firm_of : IsReadAs (named_rows rel) d after b → Result
    firm_of same = inl (seen_firm after b rel own kind (named_seen name after b rel own kind fill more (EachEntry-more MayComeNext history e sound comes) same gave))

    rows_are : (t : Bool) → is_scan_of d event ≡ t → rows_read after b d ≡ elim t as (λ x. List Row) [ true ↦ answer_of history b d | false ↦ rows_read history b d ]
    rows_are t it = rows_read-own history e b d (eq-eqb b b refl) ∙ ap (λ u. elim u [ true ↦ answer_of history b d | false ↦ rows_read history b d ]) it

    of : rows_read after b d ≡ rows_read history b d → is_usable history b d ≡ true → spares_by history b c d event ≡ true → IsFirm history b rel own kind ⊎ IsDirty history b rel (AccessExclusive ∷ []) d → Result
    of same used spared (inr dirty) = inr (dirty_own history b c event rel (AccessExclusive ∷ []) d sound comes.follows.life used spared dirty)
    of same used spared (inl firm) = by_held (holds (held_of history) b rel AccessExclusive) refl
      where
        drawn : rel.0 < next_oid history
        drawn = (subst (AllByRecursion (λ row. (main_rel row).0 < next_oid history)) (sym same ∙ gave) (read_drawn history b d sound)).0

        by_read : holds (held_of history) b rel AccessExclusive ≡ true → IsReadAs (named_rows rel) d history b ⊎ IsDirty history b rel naming_modes d → Result
        by_read held (inl was) = firm_of ((named_leaves name rel).0 (answer_of after b d) (answer_of history b d) (counted-own history b c event d sound comes (own_spared history b c event d spared)) ∙ was ∙ ap (named_rows rel) (sym same))
        by_read held (inr dirty) = inl (ap (map fixed) (unchanged_answers history e b (scans.Class rel) sound comes (eq-eqb b b refl) (known rel d held dirty)) ∙ firm)

        by_held : (t : Bool) → holds (held_of history) b rel AccessExclusive ≡ t → Result
        by_held false none = inl (fixed_own history b c event rel sound comes drawn none ∙ firm)
        by_held true held = by_read held (named_observed name rel history b sound used)

    by_scan : (t : Bool) → is_scan_of d event ≡ t → (t || (spares_by history b c d event && is_usable history b d)) ≡ true → Result
    by_scan true it used = firm_of (ap (named_rows rel) (scanned_answers history e b d sound comes (eq-eqb b b refl) it))
    by_scan false not_it used =
        let parts = and_parts (spares_by history b c d event) (is_usable history b d) used in
        of (rows_are false not_it) parts.1 parts.0 (found parts.1 rel own kind fill more (sym (rows_are false not_it) ∙ gave))

found_other : (name : List ℕ) (history : List Entry) (a c : ℕ) (event : Event) (b : ℕ) → (a == b) ≡ false → IsSound history → MayComeNext history (entry_of a c event) → IsFound name history b → IsFound name (history ++ entry_of a c event ∷ []) b
found_other name history a c event b other sound comes found usable rel own kind fill more gave =
    of (found (sym (is_usable-other history e b d other) ∙ usable) rel own kind fill more (sym (rows_read-other history e b d other) ∙ gave))
  where
    d : Purpose
    d = scans.RelName name

    e : Entry
    e = entry_of a c event

    after : List Entry
    after = history ++ e ∷ []

    sound_after : IsSound after
    sound_after = EachEntry-more MayComeNext history e sound comes

    Result : List Entry → Type 0
    Result h = IsFirm h b rel own kind ⊎ IsDirty h b rel (AccessExclusive ∷ []) d

    -- where the event makes visible what its backend did under AccessExclusive
    by_read : is_writer after a rel AccessExclusive ≡ true → IsReadAs (named_rows rel) d after b ⊎ IsDirty after b rel naming_modes d → Result after
    by_read writer (inl same) = inl (seen_firm after b rel own kind (named_seen name after b rel own kind fill more sound_after same gave))
    by_read writer (inr dirty) = inr (strong_dirty after b a rel d sound_after other writer dirty)

    shown : (xid : Xid) → event ≡ events.Visible xid → MayComeNext history (entry_of a c (events.Visible xid)) → IsFirm history b rel own kind → (t : Bool) → holds (held_of history) a rel AccessExclusive ≡ t → Result after
    shown xid is comes' firm false none = inl (subst (λ x. map fixed (answer_of (history ++ entry_of a c x ∷ []) b (scans.Class rel)) ≡ map fixed (answer_of history b (scans.Class rel))) (sym is)
        (fixed_visible history a c xid b rel (scans.Class rel) (class_apart rel) sound comes' other none) ∙ firm)
    shown xid is comes' firm true held = by_read
        (and_from (is_visible (running_transaction_of after a)) (holds (held_of after) a rel AccessExclusive)
        (subst (λ x. is_visible (running_transaction_of (history ++ entry_of a c x ∷ []) a) ≡ true) (sym is) (ap is_visible (running-own history (entry_of a c (events.Visible xid)) a (eq-eqb a a refl))))
        (subst (λ x. holds (held_of (history ++ entry_of a c x ∷ [])) a rel AccessExclusive ≡ true) (sym is) (subst (λ gs. holds gs a rel AccessExclusive ≡ true) (sym (held-more history (entry_of a c (events.Visible xid)))) held)))
        (named_observed name rel after b sound_after usable)

    firm_after : IsFirm history b rel own kind → (x : Event) → event ≡ x → MayComeNext history (entry_of a c x) → Result after
    firm_after firm (events.Visible xid) is comes' = shown xid is comes' firm (holds (held_of history) a rel AccessExclusive) refl
    firm_after firm x is comes' = inl (subst (λ y. map fixed (answer_of (history ++ entry_of a c y ∷ []) b (scans.Class rel)) ≡ map fixed (answer_of history b (scans.Class rel))) (sym is)
        (ap (map fixed) (other_answers history (entry_of a c x) b (scans.Class rel) sound comes' other tt)) ∙ firm)

    of : Result history → Result after
    of (inl firm) = firm_after firm event refl comes
    of (inr dirty) = inr (dirty_other history e b rel (AccessExclusive ∷ []) d other sound comes (lawful_of history e (sound_ordered history sound) comes) dirty)

found_more : (name : List ℕ) (b : ℕ) (history : List Entry) (e : Entry) → IsSound history → MayComeNext history e → ChangesKnown history e → IsFound name history b → IsFound name (history ++ e ∷ []) b
found_more name b history e sound comes known found = by_owner (e.backend == b) refl
  where
    by_owner : (t : Bool) → (e.backend == b) ≡ t → IsFound name (history ++ e ∷ []) b
    by_owner true own = subst (λ o. IsFound name history o → IsFound name (history ++ e ∷ []) o) (eqb-true e.backend b own) (found_own name history e.backend e.command e.event sound comes known) found
    by_owner false other = found_other name history e.backend e.command e.event b other sound comes found

-- of a sound history in which who holds AccessExclusive on a relation changes it only if it knows all earlier changes of its row: a relation that the scan of a name gave first is seen with its kind, and a table with its name, where the scan still serves, or a change under AccessExclusive may be unknown
pub found_firm : (history : List Entry) (b : ℕ) (name : List ℕ) (rel : Oid) (own : List ℕ) (kind : Kind) (fill : Option ℕ) (more : List Row) → IsSound history → EachEntry ChangesKnown history → is_usable history b (scans.RelName name) ≡ true
    → rows_read history b (scans.RelName name) ≡ rows.Class rel own kind fill ∷ more → IsFirm history b rel own kind ⊎ IsDirty history b rel (AccessExclusive ∷ []) (scans.RelName name)
found_firm history b name rel own kind fill more sound known usable gave =
    (each-keeps (λ before e. MayComeNext before e × ChangesKnown before e) (λ h. IsSound h × IsFound name h b) (tt, λ used. absurd (cc))
    (λ before e k may. (EachEntry-more MayComeNext before e k.0 may.0, found_more name b before e k.0 may.0 may.1 k.1)) history (EachFrom-both MayComeNext ChangesKnown [] history sound known)).1 usable rel own kind fill more gave
