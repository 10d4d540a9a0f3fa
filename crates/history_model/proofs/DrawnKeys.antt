-- The oid of a relation, a default, a constraint or a trigger was drawn: it is from the first new oid on, and below the next one. So no version has the key of a row with a new oid.
use Rattle.std.proofs.Common.{◌≡◌, ◌≤◌, ◌<◌, ◌∙◌, ℕ, Bool, true, false, Option, Some, None, List, [], ◌∷◌, ◌++◌, ◌||◌, cond, refl, sym, ap, subst, filter, length, arith}
use Rattle.std.specs.Prelude.{⊤}
use Rattle.std.specs.List.{AllByRecursion, flat_map, filter_map, cons_option, list_any, list_all, find}
use Rattle.std.specs.Option.{option_map_or, IfSome}
use Rattle.std.proofs.lemmas.Bool.{and_parts}
use Rattle.base_types.specs.declared.ids.Oid.{Oid}
use Rattle.base_types.specs.declared.ids.TheConstants.{FIRST_OID}
use Rattle.base_types.specs.declared.row.Row.{Row}
use Rattle.base_types.specs.declared.row.Row.TheVariants as rows
use Rattle.base_types.specs.declared.row_key.RowKey.{RowKey}
use Rattle.base_types.specs.declared.row_key.RowKey.TheVariants as keys
use Rattle.base_types.specs.RowKeys.{key_of, same_key}
use Rattle.event_kinds.specs.declared.entry.Entry.{Entry}
use Rattle.event_kinds.specs.declared.entry.Event.{Event}
use Rattle.event_kinds.specs.declared.entry.Event.TheVariants as events
use Rattle.event_kinds.specs.declared.entry.Item.{Item}
use Rattle.event_kinds.specs.declared.entry.Item.TheVariants as forms
use Rattle.row_visibility.specs.declared.version.Stamp.{Stamp}
use Rattle.row_visibility.specs.declared.version.Version.{Version}
use Rattle.history_model.specs.After.{segment_of}
use Rattle.history_model.specs.Drawn.{drawn_by, next_oid, next_oid_by}
use Rattle.history_model.specs.MayFollow.{AllowsEvent}
use Rattle.history_model.specs.Orderly.{has_key, main_rel}
use Rattle.history_model.specs.Sound.{MayComeNext, IsSound}
use Rattle.history_model.specs.Versions.{versions_of, versions_by, sees, rows_of, added_row, ended_key, ends, is_back}
use Rattle.history_model.specs.Writes.{has_row}
use Rattle.history_model.proofs.DrawnRows.{rows_drawn}
use Rattle.history_model.proofs.Every.{every, every-weaker, every-kept, every-map, every-both, from_some}
use Rattle.history_model.proofs.Exclude.{in_range, every-parts}
use Rattle.history_model.proofs.Guards.{key_eq}
use Rattle.history_model.proofs.InOrder.{IsIn}
use Rattle.history_model.proofs.Prefixes.{EachEntry-more, each-keeps}
use Rattle.history_model.proofs.Reached.{next_rises}
use Rattle.history_model.proofs.Reading.{versions_of-more, next_oid-more}
use Rattle.history_model.proofs.Touched.{entry_of, OfStamps, stamps-weaker, stamps-write, stamps-gone}

-- an oid that was drawn
abbrev pub IsDrawn : ℕ → Oid → Type 0
IsDrawn next oid = (FIRST_OID ≤ oid.0) × (oid.0 < next)

-- the oid of the key was drawn, where rows of its kind draw one
abbrev pub IsDrawnKey : ℕ → RowKey → Type 0
IsDrawnKey next (keys.Class oid) = IsDrawn next oid
IsDrawnKey next (keys.Def oid) = IsDrawn next oid
IsDrawnKey next (keys.Con oid) = IsDrawn next oid
IsDrawnKey next (keys.Trg oid) = IsDrawn next oid
IsDrawnKey next key = ⊤

drawn_more : (next later : ℕ) (key : RowKey) → next ≤ later → IsDrawnKey next key → IsDrawnKey later key
drawn_more next later (keys.Class oid) rises drawn = (drawn.0, omega (arith, drawn.1, rises))
drawn_more next later (keys.Def oid) rises drawn = (drawn.0, omega (arith, drawn.1, rises))
drawn_more next later (keys.Con oid) rises drawn = (drawn.0, omega (arith, drawn.1, rises))
drawn_more next later (keys.Trg oid) rises drawn = (drawn.0, omega (arith, drawn.1, rises))
drawn_more next later (keys.Att rel num) rises drawn = tt
drawn_more next later (keys.Ind index) rises drawn = tt

-- that of a row that is added is one that its write draws
added_drawn : (next : ℕ) (row : Row) → AllByRecursion (λ n. (FIRST_OID ≤ n) × (n < next)) (drawn_by (forms.Add row)) → IsDrawnKey next (key_of row)
added_drawn next (rows.Class oid own kind fill) drawn = drawn.0
added_drawn next (rows.Att rel num own col_type stat live) drawn = tt
added_drawn next (rows.Def oid rel num word) drawn = drawn.0
added_drawn next (rows.Ind index table state nums) drawn = tt
added_drawn next (rows.Con oid rel own valid what) drawn = drawn.0
added_drawn next (rows.Trg oid rel own on) drawn = drawn.0

-- that of a row that is replaced is one that is seen
found_drawn : (next : ℕ) (key : RowKey) (given : List Row) → AllByRecursion (λ row. IsDrawnKey next (key_of row)) given → option_map_or (λ row. true) (find (λ row. same_key (key_of row) key) given) false ≡ true → IsDrawnKey next key
found_drawn next key [] all is = absurd (cc)
found_drawn next key (row ∷ given) all is = by_test (same_key (key_of row) key) refl is (found_drawn next key given all.1)
  where
    by_test : (t : Bool) → same_key (key_of row) key ≡ t → option_map_or (λ r. true) (cond t (Some row) (find (λ r. same_key (key_of r) key) given)) false ≡ true
        → (option_map_or (λ r. true) (find (λ r. same_key (key_of r) key) given) false ≡ true → IsDrawnKey next key) → IsDrawnKey next key
    by_test true same has later = subst (IsDrawnKey next) (key_eq (key_of row) key same) all.0
    by_test false other has later = later has

there_each : (p : RowKey → Bool) (items : List Item) → list_all p (filter_map ended_key items) ≡ true → AllByRecursion (λ item. IfSome (ended_key item) (λ key. p key ≡ true)) items
there_each p [] all = tt
there_each p (item ∷ items) all = of (ended_key item) all (there_each p items)
  where
    of : (o : Option RowKey) → list_all p (cons_option o (filter_map ended_key items)) ≡ true → (list_all p (filter_map ended_key items) ≡ true → AllByRecursion (λ i. IfSome (ended_key i) (λ key. p key ≡ true)) items)
        → IfSome o (λ key. p key ≡ true) × AllByRecursion (λ i. IfSome (ended_key i) (λ key. p key ≡ true)) items
    of None all' later = (tt, later all')
    of (Some key) both later = let parts = and_parts (p key) (list_all p (filter_map ended_key items)) both in (parts.0, later parts.1)

item_drawn : (next : ℕ) (item : Item) → AllByRecursion (λ n. (FIRST_OID ≤ n) × (n < next)) (drawn_by item) → IfSome (ended_key item) (IsDrawnKey next) → IfSome (added_row item) (λ row. IsDrawnKey next (key_of row))
item_drawn next (forms.Add row) drawn seen = added_drawn next row drawn
item_drawn next (forms.Put row) drawn seen = seen
item_drawn next (forms.Remove key) drawn seen = tt
item_drawn next (forms.Force rel) drawn seen = tt

if_some : {X : Type 0} (P Q : X → Type 0) → ((x : X) → P x → Q x) → (o : Option X) → IfSome o P → IfSome o Q
if_some P Q of None held = tt
if_some P Q of (Some x) held = of x held

all_items_drawn : (next : ℕ) (p : RowKey → Bool) (items : List Item) → ((key : RowKey) → p key ≡ true → IsDrawnKey next key) → AllByRecursion (λ n. (FIRST_OID ≤ n) × (n < next)) (flat_map drawn_by items) → AllByRecursion (λ item. IfSome (ended_key item) (λ key. p key ≡ true)) items
    → AllByRecursion (λ item. IfSome (added_row item) (λ row. IsDrawnKey next (key_of row))) items
all_items_drawn next p [] seen drawn there = tt
all_items_drawn next p (item ∷ items) seen drawn there =
    let parts = every-parts (λ n. (FIRST_OID ≤ n) × (n < next)) (drawn_by item) (flat_map drawn_by items) drawn in
    (item_drawn next item parts.0 (if_some (λ key. p key ≡ true) (IsDrawnKey next) seen (ended_key item) there.0), all_items_drawn next p items seen parts.1 there.1)

-- the oid that is drawn next is none of a system's own
pub next_from_first : (history : List Entry) → IsSound history → FIRST_OID ≤ next_oid history
next_from_first history sound = each-keeps MayComeNext (λ h. FIRST_OID ≤ next_oid h) (omega arith) (λ before e k comes. omega (arith, k, next_rises before e)) history sound

-- the stamps of a version don't matter
abbrev IsDrawnAt : ℕ → Stamp → Row → Type 0
IsDrawnAt next s row = IsDrawnKey next (key_of row)

drawn_by_event : (history : List Entry) (b c : ℕ) (event : Event) → IsSound history → MayComeNext history (entry_of b c event) → AllByRecursion (OfStamps (IsDrawnAt (next_oid history))) (versions_of history)
    → AllByRecursion (OfStamps (IsDrawnAt (next_oid (history ++ entry_of b c event ∷ [])))) (versions_by history b c event (versions_of history))
drawn_by_event history b c event sound comes drawn = of event refl
  where
    next : ℕ
    next = next_oid (history ++ entry_of b c event ∷ [])

    later : AllByRecursion (OfStamps (IsDrawnAt next)) (versions_of history)
    later = every-weaker (OfStamps (IsDrawnAt (next_oid history))) (OfStamps (IsDrawnAt next))
        (λ v. stamps-weaker (IsDrawnAt (next_oid history)) (IsDrawnAt next) (λ s row. drawn_more (next_oid history) next (key_of row) (next_rises history (entry_of b c event))) v) (versions_of history) drawn

    seen : (key : RowKey) → has_row history b key ≡ true → IsDrawnKey next key
    seen key has = found_drawn next key (rows_of history b)
        (every-map (λ row. IsDrawnKey next (key_of row)) (λ v. v.row) (filter (sees history b) (versions_of history)) (every-kept (λ v. IsDrawnKey next (key_of v.row)) (sees history b) (versions_of history)
        (every-weaker (OfStamps (IsDrawnAt next)) (λ v. IsDrawnKey next (key_of v.row)) (λ v is. is.0) (versions_of history) later))) has

    of : (x : Event) → event ≡ x → AllByRecursion (OfStamps (IsDrawnAt next)) (versions_by history b c x (versions_of history))
    of (events.Write xid items) is =
        let allowed : AllowsEvent history b c (events.Write xid items) = subst (AllowsEvent history b c) is comes.follows.event in
        stamps-write (IsDrawnAt next) (λ row. IsDrawnKey next (key_of row)) (segment_of history) b (record { xid = xid; command = c }) (λ row is'. is') items (versions_of history)
        (every-both (λ item. IfSome (added_row item) (λ row. IsDrawnKey next (key_of row))) (λ item. AllByRecursion (λ v. ends history b item v ≡ true → IsDrawnKey next (key_of v.row)) (versions_of history)) items
        (all_items_drawn next (has_row history b) items seen
        (subst (AllByRecursion (λ n. (FIRST_OID ≤ n) × (n < next))) (sym allowed.oids) (in_range FIRST_OID next (next_oid history) (length (flat_map drawn_by items)) (next_from_first history sound)
        (omega (arith, sym (next_oid-more history (entry_of b c event) ∙ ap (λ x. next_oid_by x (next_oid history)) is)))))
        (there_each (has_row history b) items allowed.there))
        (every (λ item. AllByRecursion (λ v. ends history b item v ≡ true → IsDrawnKey next (key_of v.row)) (versions_of history)) (λ item. every-weaker (OfStamps (IsDrawnAt next)) (λ v. ends history b item v ≡ true → IsDrawnKey next (key_of v.row)) (λ v low ends'. low.0) (versions_of history) later) items)) later
    of (events.Gone from) is = stamps-gone (IsDrawnAt next) (IsDrawnAt next) (is_back history b from) (λ s row not' low. low) (versions_of history) later
    of x is = later

-- so it is with each version of a sound history
pub keys_drawn : (history : List Entry) → IsSound history → AllByRecursion (λ v. IsDrawnKey (next_oid history) (key_of v.row)) (versions_of history)
keys_drawn history sound = every-weaker (OfStamps (IsDrawnAt (next_oid history))) (λ v. IsDrawnKey (next_oid history) (key_of v.row)) (λ v low. low.0) (versions_of history)
    (each-keeps MayComeNext (λ h. IsSound h × AllByRecursion (OfStamps (IsDrawnAt (next_oid h))) (versions_of h)) (tt, tt)
    (λ before e k comes. (EachEntry-more MayComeNext before e k.0 comes, subst (AllByRecursion (OfStamps (IsDrawnAt (next_oid (before ++ e ∷ []))))) (sym (versions_of-more before e)) (drawn_by_event before e.backend e.command e.event k.0 comes k.1))) history sound).1

-- and with each row that a backend sees
pub seen_drawn : (history : List Entry) (b : ℕ) (row : Row) → IsSound history → IsIn row (rows_of history b) → IsDrawnKey (next_oid history) (key_of row)
seen_drawn history b row sound seen = from_some (λ r. row ≡ r) (IsDrawnKey (next_oid history) (key_of row)) (rows_of history b)
    (every-map (λ r. row ≡ r → IsDrawnKey (next_oid history) (key_of row)) (λ v. v.row) (filter (sees history b) (versions_of history)) (every-kept (λ v. row ≡ v.row → IsDrawnKey (next_oid history) (key_of row)) (sees history b) (versions_of history)
    (every-weaker (λ v. IsDrawnKey (next_oid history) (key_of v.row)) (λ v. row ≡ v.row → IsDrawnKey (next_oid history) (key_of row)) (λ v is same. subst (λ r. IsDrawnKey (next_oid history) (key_of r)) (sym same) is) (versions_of history) (keys_drawn history sound)))) seen

-- the oid that a key names first
abbrev pub key_oid : RowKey → Oid
key_oid (keys.Class oid) = oid
key_oid (keys.Att rel num) = rel
key_oid (keys.Def oid) = oid
key_oid (keys.Ind index) = index
key_oid (keys.Con oid) = oid
key_oid (keys.Trg oid) = oid

below_next : (next : ℕ) (row : Row) → IsDrawnKey next (key_of row) → (main_rel row).0 < next → (key_oid (key_of row)).0 < next
below_next next (rows.Class oid own kind fill) drawn main = main
below_next next (rows.Att rel num own col_type stat live) drawn main = main
below_next next (rows.Def oid rel num word) drawn main = drawn.1
below_next next (rows.Ind index table state nums) drawn main = main
below_next next (rows.Con oid rel own valid what) drawn main = drawn.1
below_next next (rows.Trg oid rel own on) drawn main = drawn.1

-- so no version has a key whose oid is still to be drawn
pub new_key : (history : List Entry) (key : RowKey) → IsSound history → next_oid history ≤ (key_oid key).0 → has_key history key ≡ false
new_key history key sound new = none (versions_of history)
    (every-both (λ v. IsDrawnKey (next_oid history) (key_of v.row)) (λ v. (main_rel v.row).0 < next_oid history) (versions_of history) (keys_drawn history sound) (rows_drawn history sound))
  where
    differs : (row : Row) (t : Bool) → same_key (key_of row) key ≡ t → (key_oid (key_of row)).0 < next_oid history → same_key (key_of row) key ≡ false
    differs row true same low = absurd (omega (arith, new, low, ap (λ k. (key_oid k).0) (key_eq (key_of row) key same)))
    differs row false same low = same

    none : (vs : List Version) → AllByRecursion (λ v. IsDrawnKey (next_oid history) (key_of v.row) × ((main_rel v.row).0 < next_oid history)) vs → list_any (λ v. same_key (key_of v.row) key) vs ≡ false
    none [] all = refl
    none (v ∷ vs) all = λ i. differs v.row (same_key (key_of v.row) key) refl (below_next (next_oid history) v.row all.0.0 all.0.1) i || none vs all.1 i
