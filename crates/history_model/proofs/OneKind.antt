-- A relation is of one kind: no version of its row is made with another. So a relation whose row a backend has ever read is of the kind that it read.
use Rattle.std.proofs.Common.{◌≡◌, ◌≤◌, ◌<◌, ◌∙◌, ℕ, true, false, Option, Some, None, List, [], ◌∷◌, ◌++◌, refl, sym, ap, subst, length, arith}
use Rattle.std.specs.Prelude.{⊤}
use Rattle.std.specs.List.{AllByRecursion, list_any, flat_map}
use Rattle.std.specs.Option.{option_map_or, IfSome}
use Rattle.base_types.specs.declared.ids.Oid.{Oid}
use Rattle.base_types.specs.declared.ids.Xid.{Xid}
use Rattle.base_types.specs.declared.kind.Kind.{Kind}
use Rattle.base_types.specs.declared.kind.Kind.TheVariants.{Table, Index}
use Rattle.base_types.specs.declared.row.Row.{Row}
use Rattle.base_types.specs.declared.row.Row.TheVariants as rows
use Rattle.base_types.specs.declared.row_key.RowKey.TheVariants as keys
use Rattle.base_types.specs.declared.scan.Purpose.{Purpose}
use Rattle.base_types.specs.RowKeys.{key_of, same_key, are_distinct_keys}
use Rattle.event_kinds.specs.declared.entry.Entry.{Entry}
use Rattle.event_kinds.specs.declared.entry.Event.{Event}
use Rattle.event_kinds.specs.declared.entry.Event.TheVariants as events
use Rattle.event_kinds.specs.declared.entry.Item.{Item}
use Rattle.event_kinds.specs.declared.entry.Item.TheVariants as forms
use Rattle.row_visibility.specs.declared.version.Stamp.{Stamp}
use Rattle.row_visibility.specs.declared.version.Version.{Version}
use Rattle.history_model.specs.After.{segment_of}
use Rattle.history_model.specs.Drawn.{drawn_by, next_oid}
use Rattle.history_model.specs.OfKind.{HasKind, IsOfKind}
use Rattle.history_model.specs.Orderly.{main_rel}
use Rattle.history_model.specs.Sound.{MayComeNext, IsSound}
use Rattle.history_model.specs.Read.{rows_read}
use Rattle.history_model.specs.Versions.{versions_of, versions_by, ended_key, added_row, old_row, ends, is_back, sees, rows_of, answer_of}
use Rattle.history_model.specs.Changing.{changed_key, same_kind}
use Rattle.history_model.specs.Writes.{has_row, keeps_kind}
use Rattle.history_model.proofs.Asking.{oid_eq}
use Rattle.history_model.proofs.DrawnRows.{rows_drawn, given_each}
use Rattle.history_model.proofs.Every.{every, every-weaker, every-both, from_some}
use Rattle.history_model.proofs.Exclude.{in_range, every-parts}
use Rattle.history_model.proofs.MaskedRows.{find_some}
use Rattle.history_model.proofs.OneVersion.{distinct_split, differ_from, added_key}
use Rattle.history_model.proofs.Ordered.{all_each, all_kept, find_passes}
use Rattle.history_model.proofs.Prefixes.{EachEntry-more, each-keeps}
use Rattle.history_model.proofs.Reached.{next_rises}
use Rattle.history_model.proofs.ReadRows.{read_keeps}
use Rattle.history_model.proofs.Reading.{versions_of-more, next_oid-more}
use Rattle.history_model.proofs.Touched.{entry_of, OfStamps, stamps-weaker, stamps-write, stamps-gone}

abbrev HasKindAt : Oid → Kind → Stamp → Row → Type 0
HasKindAt rel kind s row = HasKind rel kind row

-- whatever the stamps of a version
of_row : (P : Row → Type 0) (v : Version) → P v.row → OfStamps (λ s row. P row) v
of_row P v held = (held, any v.ended)
  where
    any : (o : Option Stamp) → IfSome o (λ s. P v.row)
    any None = tt
    any (Some s) = held

kinds_same : (a b : Oid) (own name : List ℕ) (k l : Kind) (fill fill' : Option ℕ) → same_kind (rows.Class a own k fill) (rows.Class b name l fill') ≡ true → l ≡ k
kinds_same a b own name Table Table fill fill' is = refl
kinds_same a b own name Index Index fill fill' is = refl
kinds_same a b own name Table Index fill fill' is = absurd (cc)
kinds_same a b own name Index Table fill fill' is = absurd (cc)

-- a row with the key of one that has the kind, and of one kind with it, has it
kind_kept : (rel : Oid) (kind : Kind) (old row : Row) → same_key (key_of old) (key_of row) ≡ true → same_kind old row ≡ true → HasKind rel kind old → HasKind rel kind row
kind_kept rel kind (rows.Class a own k fill) (rows.Class b name l fill') keyed alike has = λ is. kinds_same a b own name k l fill fill' alike ∙ has (oid_eq a b keyed ∙ is)
kind_kept rel kind old (rows.Class b name l fill') keyed alike has = absurd (cc)
kind_kept rel kind old (rows.Att of num own col_type stat live) keyed alike has = tt
kind_kept rel kind old (rows.Def oid of num word) keyed alike has = tt
kind_kept rel kind old (rows.Ind index table state nums) keyed alike has = tt
kind_kept rel kind old (rows.Con oid of own valid what) keyed alike has = tt
kind_kept rel kind old (rows.Trg oid of own on) keyed alike has = tt

-- of a row that is replaced: what holds of all versions' rows holds of the row in its place, where that has its key and its kind
replaced_by : (history : List Entry) (b : ℕ) (row : Row) (P Q : Row → Type 0) → AllByRecursion (λ v. P v.row) (versions_of history) → ((old : Row) → same_key (key_of old) (key_of row) ≡ true → same_kind old row ≡ true → P old → Q row)
    → has_row history b (key_of row) ≡ true → keeps_kind history b (forms.Put row) ≡ true → Q row
replaced_by history b row P Q all of there keeps = by_old (old_row history b (forms.Put row)) refl there keeps
  where
    by_old : (o : Option Row) → old_row history b (forms.Put row) ≡ o → option_map_or (λ r. true) o false ≡ true → option_map_or (λ old. same_kind old row) o true ≡ true → Q row
    by_old None is there' keeps' = absurd (cc)
    by_old (Some old) is there' keeps' = of old (find_passes (λ r. same_key (key_of r) (key_of row)) old (rows_of history b) is) keeps'
        (from_some (λ v. (sees history b v ≡ true) × (v.row ≡ old)) (P old) (versions_of history) (every-weaker (λ v. P v.row) (λ v. (sees history b v ≡ true) × (v.row ≡ old) → P old) (λ v p h. subst P h.1 p) (versions_of history) all)
        (find_some (λ r. same_key (key_of r) (key_of row)) (sees history b) old (versions_of history) is))

drawn_each : (P : ℕ → Type 0) (items : List Item) → AllByRecursion P (flat_map drawn_by items) → AllByRecursion (λ item. AllByRecursion P (drawn_by item)) items
drawn_each P [] all = tt
drawn_each P (item ∷ items) all = let parts = every-parts P (drawn_by item) (flat_map drawn_by items) all in (parts.0, drawn_each P items parts.1)

-- the oids that a write draws
abbrev IsNew : List Entry → Entry → ℕ → Type 0
IsNew history e n = (next_oid history ≤ n) × (n < next_oid (history ++ e ∷ []))

new_oids : (history : List Entry) (b c : ℕ) (xid : Xid) (items : List Item) → MayComeNext history (entry_of b c (events.Write xid items)) → AllByRecursion (λ item. AllByRecursion (IsNew history (entry_of b c (events.Write xid items))) (drawn_by item)) items
new_oids history b c xid items comes = drawn_each (IsNew history (entry_of b c (events.Write xid items))) items
    (subst (AllByRecursion (IsNew history (entry_of b c (events.Write xid items)))) (sym comes.follows.event.oids)
    (in_range (next_oid history) (next_oid (history ++ entry_of b c (events.Write xid items) ∷ [])) (next_oid history) (length (flat_map drawn_by items)) (omega arith) (omega (arith, next_oid-more history (entry_of b c (events.Write xid items))))))

-- what is known of a change of a write
record IsOfWrite (history : List Entry) (e : Entry) (item : Item) : Type 0 where
  there : IfSome (ended_key item) (λ key. has_row history e.backend key ≡ true)
  keeps : keeps_kind history e.backend item ≡ true
  new : AllByRecursion (IsNew history e) (drawn_by item)

of_write : (history : List Entry) (e : Entry) (items : List Item) → AllByRecursion (λ item. IfSome (ended_key item) (λ key. has_row history e.backend key ≡ true)) items → AllByRecursion (λ item. keeps_kind history e.backend item ≡ true) items
    → AllByRecursion (λ item. AllByRecursion (IsNew history e) (drawn_by item)) items → AllByRecursion (IsOfWrite history e) items
of_write history e [] there keeps new = tt
of_write history e (item ∷ items) there keeps new = (record { there = there.0; keeps = keeps.0; new = new.0 }, of_write history e items there.1 keeps.1 new.1)

-- the changes of an event
abbrev items_of : Event → List Item
items_of (events.Write xid items) = items
items_of event = []

-- no change gives the relation a row of another kind
item_kind : (history : List Entry) (e : Entry) (rel : Oid) (kind : Kind) (item : Item) → IsOfKind history rel kind → IsOfWrite history e item → IfSome (added_row item) (HasKind rel kind)
item_kind history e rel kind (forms.Put row) of write = replaced_by history e.backend row (HasKind rel kind) (HasKind rel kind)
    of.each (λ old keyed alike has. kind_kept rel kind old row keyed alike has) write.there write.keeps
item_kind history e rel kind (forms.Add (rows.Class oid own kind' fill)) of write = λ is. absurd (omega (arith, write.new.0.0, of.drawn, ap (λ o. o.0) is))
item_kind history e rel kind (forms.Add (rows.Att to num own col_type stat live)) of write = tt
item_kind history e rel kind (forms.Add (rows.Def oid to num word)) of write = tt
item_kind history e rel kind (forms.Add (rows.Ind index table state nums)) of write = tt
item_kind history e rel kind (forms.Add (rows.Con oid to own valid what)) of write = tt
item_kind history e rel kind (forms.Add (rows.Trg oid to own on)) of write = tt
item_kind history e rel kind (forms.Remove key) of write = tt
item_kind history e rel kind (forms.Force to) of write = tt

-- what holds of the rows of all versions, and of those that an event adds, holds after it
rows_after : (P : Row → Type 0) (history : List Entry) (b c : ℕ) (event : Event) → AllByRecursion (λ item. IfSome (added_row item) P) (items_of event)
    → AllByRecursion (OfStamps (λ s row. P row)) (versions_of history) → AllByRecursion (OfStamps (λ s row. P row)) (versions_by history b c event (versions_of history))
rows_after P history b c (events.Write xid items) added all = stamps-write (λ s row. P row) P (segment_of history) b (record { xid = xid; command = c }) (λ row is. is) items (versions_of history)
    (every-weaker (λ item. IfSome (added_row item) P) (λ item. IfSome (added_row item) P × AllByRecursion (λ v. ends history b item v ≡ true → P v.row) (versions_of history))
    (λ item is. (is, every-weaker (OfStamps (λ s row. P row)) (λ v. ends history b item v ≡ true → P v.row) (λ v held ends'. held.0) (versions_of history) all)) items added) all
rows_after P history b c (events.Gone from) added all = stamps-gone (λ s row. P row) (λ s row. P row) (is_back history b from) (λ s row not' is. is) (versions_of history) all
rows_after P history b c event added all = all

writes_of : (history : List Entry) (b c : ℕ) (event : Event) → MayComeNext history (entry_of b c event) → AllByRecursion (IsOfWrite history (entry_of b c event)) (items_of event)
writes_of history b c (events.Write xid items) comes = of_write history (entry_of b c (events.Write xid items)) items (all_kept (has_row history b) ended_key items comes.follows.event.there) (all_each (keeps_kind history b) items comes.follows.event.kinds) (new_oids history b c xid items comes)
writes_of history b c event comes = tt

-- a relation stays of its kind
pub kind_more : (history : List Entry) (e : Entry) (rel : Oid) (kind : Kind) → MayComeNext history e → IsOfKind history rel kind → IsOfKind (history ++ e ∷ []) rel kind
kind_more history e rel kind comes of = record {
  drawn = omega (arith, of.drawn, next_rises history e);
  each = every-weaker (OfStamps (HasKindAt rel kind)) (λ v. HasKind rel kind v.row) (λ v is. is.0) (versions_of (history ++ e ∷ [])) (subst (AllByRecursion (OfStamps (HasKindAt rel kind))) (sym (versions_of-more history e)) (rows_after (HasKind rel kind) history e.backend e.command e.event
      (every-weaker (IsOfWrite history e) (λ item. IfSome (added_row item) (HasKind rel kind)) (λ item write. item_kind history e rel kind item of write) (items_of e.event) (writes_of history e.backend e.command e.event comes))
      (every-weaker (λ v. HasKind rel kind v.row) (OfStamps (HasKindAt rel kind)) (λ v is. of_row (HasKind rel kind) v is) (versions_of history) of.each)));
}

-- the row says of which kind its relation is
abbrev pub TellsKind : List Entry → Row → Type 0
TellsKind history (rows.Class rel own kind fill) = IsOfKind history rel kind
TellsKind history row = ⊤

tells_more : (history : List Entry) (e : Entry) (row : Row) → MayComeNext history e → TellsKind history row → TellsKind (history ++ e ∷ []) row
tells_more history e (rows.Class rel own kind fill) comes tells = kind_more history e rel kind comes tells
tells_more history e (rows.Att of num own col_type stat live) comes tells = tt
tells_more history e (rows.Def oid of num word) comes tells = tt
tells_more history e (rows.Ind index table state nums) comes tells = tt
tells_more history e (rows.Con oid of own valid what) comes tells = tt
tells_more history e (rows.Trg oid of own on) comes tells = tt

-- two rows that are one relation's are of one kind
abbrev Agree : Row → Row → Type 0
Agree (rows.Class rel own kind fill) other = HasKind rel kind other
Agree row other = ⊤

abbrev ItemsAgree : Item → Item → Type 0
ItemsAgree item other = IfSome (added_row item) (λ row. IfSome (added_row other) (Agree row))

agree_self : (row : Row) → Agree row row
agree_self (rows.Class rel own kind fill) = λ is. refl
agree_self (rows.Att of num own col_type stat live) = tt
agree_self (rows.Def oid of num word) = tt
agree_self (rows.Ind index table state nums) = tt
agree_self (rows.Con oid of own valid what) = tt
agree_self (rows.Trg oid of own on) = tt

agree_apart : (row other : Row) → (key_of row ≡ key_of other → ⊥) → Agree row other
agree_apart (rows.Class rel own kind fill) (rows.Class oid name kind' fill') differ = λ is. absurd (differ (ap keys.Class (sym is)))
agree_apart (rows.Class rel own kind fill) other differ = tt
agree_apart row other differ = tt

both_agree : (item other : Item) → ((row : Row) → added_row item ≡ Some row → AllByRecursion (λ key. key_of row ≡ key → ⊥) (changed_key other)) → ItemsAgree item other × ItemsAgree other item
both_agree item other differ = of (added_row item) refl (added_row other) refl
  where
    of : (o : Option Row) → added_row item ≡ o → (p : Option Row) → added_row other ≡ p → IfSome o (λ row. IfSome p (Agree row)) × IfSome p (λ row. IfSome o (Agree row))
    of None is None also = (tt, tt)
    of None is (Some row) also = (tt, tt)
    of (Some row) is None also = (tt, tt)
    of (Some row) is (Some x) also =
        let apart : key_of row ≡ key_of x → ⊥ = added_key (λ key. key_of row ≡ key → ⊥) other x also (differ row is) in
        (agree_apart row x apart, agree_apart x row (λ same. apart (sym same)))

all_agree : (items : List Item) → are_distinct_keys (flat_map changed_key items) ≡ true → AllByRecursion (λ item. AllByRecursion (ItemsAgree item) items) items
all_agree [] distinct = tt
all_agree (item ∷ items) distinct = (
  (self (added_row item), every-weaker (λ other. ItemsAgree item other × ItemsAgree other item) (ItemsAgree item) (λ other h. h.0) items both),
  every-weaker (λ other. (ItemsAgree item other × ItemsAgree other item) × AllByRecursion (ItemsAgree other) items) (λ other. AllByRecursion (ItemsAgree other) (item ∷ items)) (λ other h. (h.0.1, h.1)) items
      (every-both (λ other. ItemsAgree item other × ItemsAgree other item) (λ other. AllByRecursion (ItemsAgree other) items) items both (all_agree items parts.1)),
)
  where
    parts : AllByRecursion (λ k. list_any (same_key k) (flat_map changed_key items) ≡ false) (changed_key item) × (are_distinct_keys (flat_map changed_key items) ≡ true)
    parts = distinct_split item (flat_map changed_key items) distinct

    self : (o : Option Row) → IfSome o (λ row. IfSome o (Agree row))
    self None = tt
    self (Some row) = agree_self row

    apart : (o : Option Row) → added_row item ≡ o → AllByRecursion (λ other. IfSome o (λ row. AllByRecursion (λ key. key_of row ≡ key → ⊥) (changed_key other))) items
    apart None is = every (λ other. ⊤) (λ other. tt) items
    apart (Some row) is = differ_from (key_of row) items (added_key (λ k. list_any (same_key k) (flat_map changed_key items) ≡ false) item row is parts.0)

    both : AllByRecursion (λ other. ItemsAgree item other × ItemsAgree other item) items
    both = every-weaker (λ other. IfSome (added_row item) (λ row. AllByRecursion (λ key. key_of row ≡ key → ⊥) (changed_key other))) (λ other. ItemsAgree item other × ItemsAgree other item)
        (λ other h. both_agree item other (λ row is. subst (λ o. IfSome o (λ r. AllByRecursion (λ key. key_of r ≡ key → ⊥) (changed_key other))) is h)) items (apart (added_row item) refl)

-- a row of a relation that is drawn isn't that of one that isn't
other_kind : (next : ℕ) (rel : Oid) (kind : Kind) (row : Row) → (main_rel row).0 < next → next ≤ rel.0 → HasKind rel kind row
other_kind next rel kind (rows.Class oid own kind' fill) drawn new = λ is. absurd (omega (arith, drawn, new, ap (λ o. o.0) is))
other_kind next rel kind (rows.Att of num own col_type stat live) drawn new = tt
other_kind next rel kind (rows.Def oid of num word) drawn new = tt
other_kind next rel kind (rows.Ind index table state nums) drawn new = tt
other_kind next rel kind (rows.Con oid of own valid what) drawn new = tt
other_kind next rel kind (rows.Trg oid of own on) drawn new = tt

-- a row in the place of one that tells the kind tells it
tells_put : (after : List Entry) (old row : Row) → same_key (key_of old) (key_of row) ≡ true → same_kind old row ≡ true → TellsKind after old → TellsKind after row
tells_put after (rows.Class a own k fill) (rows.Class b name l fill') keyed alike tells = subst (λ o. IsOfKind after o l) (oid_eq a b keyed) (subst (IsOfKind after a) (sym (kinds_same a b own name k l fill fill' alike)) tells)
tells_put after old (rows.Class b name l fill') keyed alike tells = absurd (cc)
tells_put after old (rows.Att of num own col_type stat live) keyed alike tells = tt
tells_put after old (rows.Def oid of num word) keyed alike tells = tt
tells_put after old (rows.Ind index table state nums) keyed alike tells = tt
tells_put after old (rows.Con oid of own valid what) keyed alike tells = tt
tells_put after old (rows.Trg oid of own on) keyed alike tells = tt

-- so does each row that a change gives
item_tells : (history : List Entry) (e : Entry) (item : Item) → IsSound history → MayComeNext history e → AllByRecursion (OfStamps (λ s row. TellsKind history row)) (versions_of history) → IsOfWrite history e item → AllByRecursion (ItemsAgree item) (items_of e.event)
    → IfSome (added_row item) (TellsKind (history ++ e ∷ []))
item_tells history e (forms.Put row) sound comes tell write agree = replaced_by history e.backend row (TellsKind (history ++ e ∷ [])) (TellsKind (history ++ e ∷ []))
    (every-weaker (OfStamps (λ s row'. TellsKind history row')) (λ v. TellsKind (history ++ e ∷ []) v.row) (λ v is. tells_more history e v.row comes is.0) (versions_of history) tell) (λ old keyed alike tells. tells_put (history ++ e ∷ []) old row keyed alike tells) write.there write.keeps
item_tells history e (forms.Add (rows.Class oid own kind fill)) sound comes tell write agree = record {
  drawn = write.new.0.1;
  each = every-weaker (OfStamps (HasKindAt oid kind)) (λ v. HasKind oid kind v.row) (λ v is. is.0) (versions_of (history ++ e ∷ [])) (subst (AllByRecursion (OfStamps (HasKindAt oid kind))) (sym (versions_of-more history e)) (rows_after (HasKind oid kind) history e.backend e.command e.event agree
      (every-weaker (λ v. (main_rel v.row).0 < next_oid history) (OfStamps (HasKindAt oid kind)) (λ v drawn. of_row (HasKind oid kind) v (other_kind (next_oid history) oid kind v.row drawn write.new.0.0)) (versions_of history) (rows_drawn history sound))));
}
item_tells history e (forms.Add (rows.Att of num own col_type stat live)) sound comes tell write agree = tt
item_tells history e (forms.Add (rows.Def oid of num word)) sound comes tell write agree = tt
item_tells history e (forms.Add (rows.Ind index table state nums)) sound comes tell write agree = tt
item_tells history e (forms.Add (rows.Con oid of own valid what)) sound comes tell write agree = tt
item_tells history e (forms.Add (rows.Trg oid of own on)) sound comes tell write agree = tt
item_tells history e (forms.Remove key) sound comes tell write agree = tt
item_tells history e (forms.Force rel) sound comes tell write agree = tt

items_agree : (history : List Entry) (b c : ℕ) (event : Event) → MayComeNext history (entry_of b c event) → AllByRecursion (λ item. AllByRecursion (ItemsAgree item) (items_of event)) (items_of event)
items_agree history b c (events.Write xid items) comes = all_agree items comes.follows.event.keys
items_agree history b c event comes = tt

-- each version of a relation's row tells its kind
pub kinds_told : (history : List Entry) → IsSound history → AllByRecursion (λ v. TellsKind history v.row) (versions_of history)
kinds_told history sound = every-weaker (OfStamps (λ s row. TellsKind history row)) (λ v. TellsKind history v.row) (λ v is. is.0) (versions_of history) (each-keeps MayComeNext Inv (tt, tt) keeps history sound).1
  where
    Inv : List Entry → Type 0
    Inv h = IsSound h × AllByRecursion (OfStamps (λ s row. TellsKind h row)) (versions_of h)

    keeps : (before : List Entry) (e : Entry) → Inv before → MayComeNext before e → Inv (before ++ e ∷ [])
    keeps before e k comes = (
      EachEntry-more MayComeNext before e k.0 comes,
      subst (AllByRecursion (OfStamps (λ s row. TellsKind (before ++ e ∷ []) row))) (sym (versions_of-more before e)) (rows_after (TellsKind (before ++ e ∷ [])) before e.backend e.command e.event
          (every-weaker (λ item. IsOfWrite before e item × AllByRecursion (ItemsAgree item) (items_of e.event)) (λ item. IfSome (added_row item) (TellsKind (before ++ e ∷ []))) (λ item h. item_tells before e item k.0 comes k.1 h.0 h.1) (items_of e.event)
          (every-both (IsOfWrite before e) (λ item. AllByRecursion (ItemsAgree item) (items_of e.event)) (items_of e.event) (writes_of before e.backend e.command e.event comes) (items_agree before e.backend e.command e.event comes)))
          (every-weaker (OfStamps (λ s row. TellsKind before row)) (OfStamps (λ s row. TellsKind (before ++ e ∷ []) row)) (λ v. stamps-weaker (λ s row. TellsKind before row) (λ s row. TellsKind (before ++ e ∷ []) row) (λ s row. tells_more before e row comes) v) (versions_of before) k.1)),
    )

-- and so does each that a scan gives
pub given_kinds : (history : List Entry) (b : ℕ) (d : Purpose) → IsSound history → AllByRecursion (TellsKind history) (answer_of history b d)
given_kinds history b d sound = given_each (TellsKind history) history b d (kinds_told history sound)

-- and each that a backend has read
pub read_kinds : (history : List Entry) (b : ℕ) (d : Purpose) → IsSound history → AllByRecursion (TellsKind history) (rows_read history b d)
read_kinds history b d sound = read_keeps TellsKind d b (λ before e row comes tells. tells_more before e row comes tells) (λ h well. given_kinds h b d well) history sound
