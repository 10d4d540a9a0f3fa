-- Rows of which no backend sees two that clash, since each is added only where none that clashes with it is seen: of two versions of such rows the earlier one is ended before the later one is added.
use Rattle.std.proofs.Common.{◌≡◌, ◌⊎◌, inl, inr, ℕ, Bool, true, false, not, Option, Some, None, List, [], ◌∷◌, ◌++◌, refl, sym, subst, map, filter, fold, append-nil, arith}
use Rattle.std.specs.Prelude.{⊤}
use Rattle.std.specs.List.{AllByRecursion}
use Rattle.std.specs.Option.{IfSome}
use Rattle.std.proofs.lemmas.Bool.{both_ways, and_parts, not-true}
use Rattle.base_types.specs.declared.ids.Xid.{Xid}
use Rattle.row_visibility.specs.declared.version.Version.{Version}
use Rattle.row_visibility.specs.declared.version.Stamp.{Stamp}
use Rattle.event_kinds.specs.declared.entry.Event.TheVariants as events
use Rattle.history_model.specs.Prefixes.{EachEntry}
use Rattle.history_model.specs.Versions.{versions_of, versions_by, change_by, end_by, ends, version_of, added_row, is_back, end_back, counts, sees, rows_of}
use Rattle.history_model.specs.Held.{held_by, held_of}
use Rattle.history_model.specs.Orderly.{main_rel}
use Rattle.history_model.specs.Sound.{MayComeNext, IsSound}
use Rattle.history_model.proofs.Reading.{versions_of-more as versions-more}
use Rattle.history_model.proofs.Every.{every-weaker, every, every-append, every-map, every-both, every-swap, SomeOf, some-weaker, some_with, from_some}
use Rattle.history_model.proofs.Guards.{IsGuarded}
use Rattle.history_model.proofs.InOrder.{IsIn, every_self}
use Rattle.history_model.proofs.Lawful.{EndsOnce}
use Rattle.history_model.proofs.Ordered.{Ordered, lawful_of, sound_ordered}
use Rattle.history_model.proofs.Seen.{Pairwise, pair-weaker, pair-map, pair-filter, pair-push}
use Rattle.history_model.proofs.Touched.{entry_of, OfStamps, Touch}
use Rattle.cacheless.specs.Types.{Row, Entry, Event, Item}
use Rattle.cacheless.proofs.AlongSound.{along_sound}
use Rattle.cacheless.proofs.EndedFirst.{EndedFirst, ended_on, ended_back, ended_hidden, EndsIt, ends_unended, AllCount, ended_or_seen, guarded_counts}
use Rattle.cacheless.proofs.NumberedColumns.{lasting, first_then, first_on, counted_first}

-- of a new row: each version that is there and clashes with it counts for the writer, and what of them is seen the write ends
abbrev pub IsFreeRow : (Row → Row → Type 0) → List Entry → ℕ → List Item → Row → Type 0
IsFreeRow Clash before b items new = AllByRecursion (λ v. Clash v.row new → AllCount before b v × (sees before b v ≡ true → EndsIt before b items v)) (versions_of before)

-- or what clashes with it clashes with the row that it replaces, both ways
abbrev pub Inherits : (Row → Row → Type 0) → List Entry → ℕ → Item → Row → Type 0
Inherits Clash before b item new = SomeOf (λ u. (ends before b item u ≡ true) × ((row : Row) → Clash row new → Clash row u.row × Clash u.row row)) (versions_of before)

-- two changes give no rows that clash
abbrev pub GiveApart : (Row → Row → Type 0) → Item → Item → Type 0
GiveApart Clash i j = IfSome (added_row i) (λ row. IfSome (added_row j) (λ other. Clash row other → ⊥))

-- a write keeps rows apart: each that it gives is free or takes the place of one, and no two of them clash
pub record KeepsApart (Clash : Row → Row → Type 0) (before : List Entry) (b : ℕ) (items : List Item) : Type 0 where
  pub new : AllByRecursion (λ item. IfSome (added_row item) (λ row. IsFreeRow Clash before b items row ⊎ Inherits Clash before b item row)) items
  pub apart : Pairwise (GiveApart Clash) items

-- if the event is a write, it keeps rows apart
abbrev pub KeepsApartBy : (Row → Row → Type 0) → List Entry → ℕ → Event → Type 0
KeepsApartBy Clash before b (events.Write xid items) = KeepsApart Clash before b items
KeepsApartBy Clash before b event = ⊤

-- under the writer's lock on the relation of which rows clash, a row is free where all that is seen and clashes with it the write ends
pub guarded_free : (Clash : Row → Row → Type 0) → ((row other : Row) → Clash row other → main_rel row ≡ main_rel other) → (history : List Entry) (b c : ℕ) (xid : Xid) (items : List Item) (new : Row) → IsSound history → MayComeNext history (entry_of b c (events.Write xid items))
    → IsGuarded (held_by b c (events.Write xid items) (held_of history)) b c (main_rel new) → AllByRecursion (λ v. sees history b v ≡ true → Clash v.row new → EndsIt history b items v) (versions_of history) → IsFreeRow Clash history b items new
guarded_free Clash rel history b c xid items new sound comes guarded unseen =
    every-weaker (λ v. (main_rel v.row ≡ main_rel new → AllCount history b v) × (sees history b v ≡ true → Clash v.row new → EndsIt history b items v)) (λ v. Clash v.row new → AllCount history b v × (sees history b v ≡ true → EndsIt history b items v))
    (λ v h clash. (h.0 (rel v.row new clash), λ seen. h.1 seen clash)) (versions_of history)
    (every-both (λ v. main_rel v.row ≡ main_rel new → AllCount history b v) (λ v. sees history b v ≡ true → Clash v.row new → EndsIt history b items v) (versions_of history)
    (guarded_counts history b c xid items (main_rel new) (sound_ordered history sound) (lasting history sound) comes guarded) unseen)

-- of two versions of rows that clash the first is ended before the second is added
abbrev pub GivesWay : (Row → Row → Type 0) → List Entry → Version → Version → Type 0
GivesWay Clash history v w = Clash v.row w.row → EndedFirst history w.by v.ended

-- so it is with all versions, in their order
abbrev pub GiveWay : (Row → Row → Type 0) → List Entry → Type 0
GiveWay Clash history = Pairwise (GivesWay Clash history) (versions_of history)

-- what holds of each two holds of each two, if it follows
pairs : {X : Type 0} (R S : X → X → Type 0) → ((x y : X) → R x y → S x y) → (xs : List X) → Pairwise R xs → Pairwise S xs
pairs R S weaker xs = pair-weaker (λ x. ⊤) R S (λ x y _ _ r. weaker x y r) xs (every (λ x. ⊤) (λ x. tt) xs)

-- of each element: P holds of it, or it is paired with one of which P holds
beside_one : {X : Type 0} (R : X → X → Type 0) (P : X → Type 0) (xs : List X) → Pairwise R xs → SomeOf P xs → AllByRecursion (λ x. P x ⊎ SomeOf (λ y. P y × (R x y ⊎ R y x)) xs) xs
beside_one R P [] paired some = absurd some
beside_one R P (x ∷ xs) paired (inl here) = (inl here, every-weaker (R x) (λ z. P z ⊎ SomeOf (λ y. P y × (R z y ⊎ R y z)) (x ∷ xs)) (λ z r. inr (inl (here, inr r))) xs paired.0)
beside_one R P (x ∷ xs) paired (inr there) = (
  inr (inr (some_with P (R x) (λ y. P y × (R x y ⊎ R y x)) (λ y p r. (p, inl r)) xs paired.0 there)),
  every-weaker (λ z. P z ⊎ SomeOf (λ y. P y × (R z y ⊎ R y z)) xs) (λ z. P z ⊎ SomeOf (λ y. P y × (R z y ⊎ R y z)) (x ∷ xs)) (λ z h. of z h) xs (beside_one R P xs paired.1 there),
)
  where
    of : (z : _) → P z ⊎ SomeOf (λ y. P y × (R z y ⊎ R y z)) xs → P z ⊎ SomeOf (λ y. P y × (R z y ⊎ R y z)) (x ∷ xs)
    of z (inl p) = inl p
    of z (inr some) = inr (inr some)

-- after a write
way_written : (Clash : Row → Row → Type 0) (history : List Entry) (b c : ℕ) (xid : Xid) (items : List Item) → IsSound history → MayComeNext history (entry_of b c (events.Write xid items)) → KeepsApart Clash history b items → GiveWay Clash history
    → Pairwise (GivesWay Clash (history ++ entry_of b c (events.Write xid items) ∷ [])) (versions_by history b c (events.Write xid items) (versions_of history))
way_written Clash history b c xid items sound comes keeps before =
    pairs (Way []) (GivesWay Clash after) (λ v w way clash. done (EndedFirst after w.by v.ended) (way clash)) (fold (change_by history b stamp) (versions_of history) items)
    (folded items (versions_of history) keeps.apart needs (pairs (GivesWay Clash history) (Way items) (λ v w way clash. inl (ended_on history e w.by v.ended (way clash))) (versions_of history) before))
  where
    e : Entry
    e = entry_of b c (events.Write xid items)

    after : List Entry
    after = history ++ e ∷ []

    stamp : Stamp
    stamp = record { xid = xid; command = c }

    k : Ordered history
    k = sound_ordered history sound

    done : (E : Type 0) → {T : Type 0} → E ⊎ (T × ⊥) → E
    done E (inl first) = first
    done E (inr none) = absurd none.1

    -- while some changes are left: an end by one of them is as good as made
    Way : List Item → Version → Version → Type 0
    Way left v w = Clash v.row w.row → EndedFirst after w.by v.ended ⊎ ((w.by ≡ stamp) × EndsIt history b left v)

    -- what a version needs: a change that is left ends it for the first time, and it is ended before each row that clashes with its own and is still to come
    Before : List Item → Version → Option Row → Type 0
    Before left v o = IfSome o (λ new. Clash v.row new → EndedFirst after stamp v.ended ⊎ EndsIt history b left v)

    Needs : List Item → Version → Item → Type 0
    Needs left v j = Before left v (added_row j) × (ends history b j v ≡ true → (v.ended ≡ None) ⊎ (v.ended ≡ Some stamp))

    State : List Item → Version → Type 0
    State left v = AllByRecursion (Needs left v) left

    change : Item → Version → Version
    change item = end_by (ends history b item) stamp

    ended_now : Version → Version
    ended_now v = record v { ended = Some stamp }

    itself : EndedFirst after stamp (Some stamp)
    itself = inr (refl, omega arith)

    less : (item : Item) (left : List Item) (v : Version) → ends history b item v ≡ false → EndsIt history b (item ∷ left) v → EndsIt history b left v
    less item left v none (inl here) = absurd (both_ways _ none here)
    less item left v none (inr later) = later

    state_on : (item : Item) (left : List Item) (v : Version) → State (item ∷ left) v → State left (change item v)
    state_on item left v state = by_test (ends history b item v) refl
      where
        any : (o : Option Row) → Before left (ended_now v) o
        any None = tt
        any (Some new) = λ clash. inl itself

        fewer : ends history b item v ≡ false → (o : Option Row) → Before (item ∷ left) v o → Before left v o
        fewer is None need = tt
        fewer is (Some new) need = λ clash. of (need clash)
          where
            of : EndedFirst after stamp v.ended ⊎ EndsIt history b (item ∷ left) v → EndedFirst after stamp v.ended ⊎ EndsIt history b left v
            of (inl first) = inl first
            of (inr some) = inr (less item left v is some)

        by_test : (t : Bool) → ends history b item v ≡ t → State left (elim t as (λ x. Version) [ true ↦ ended_now v | false ↦ v ])
        by_test true is = every (Needs left (ended_now v)) (λ j. (any (added_row j), λ also. inr refl)) left
        by_test false is = every-weaker (Needs (item ∷ left) v) (Needs left v) (λ j need. (fewer is (added_row j) need.0, need.1)) left state.1

    same : (item : Item) (v : Version) → ((change item v).row ≡ v.row) × ((change item v).by ≡ v.by)
    same item v = of (ends history b item v)
      where
        of : (t : Bool) → ((elim t as (λ x. Version) [ true ↦ ended_now v | false ↦ v ]).row ≡ v.row) × ((elim t as (λ x. Version) [ true ↦ ended_now v | false ↦ v ]).by ≡ v.by)
        of true = (refl, refl)
        of false = (refl, refl)

    -- two versions, after one change
    way_on : (item : Item) (left : List Item) (v w : Version) → State (item ∷ left) v → Way (item ∷ left) v w → Way left (change item v) (change item w)
    way_on item left v w state way clash =
        subst (λ s. EndedFirst after s (change item v).ended ⊎ ((s ≡ stamp) × EndsIt history b left (change item v))) (sym (same item w).1)
        (by_test (ends history b item v) refl (way (subst (λ row. Clash row w.row) (same item v).0 (subst (Clash (change item v).row) (same item w).0 clash))))
      where
        at_end : (v.ended ≡ None) ⊎ (v.ended ≡ Some stamp) → EndedFirst after w.by v.ended → EndedFirst after w.by (Some stamp)
        at_end (inl none) first = absurd (subst (EndedFirst after w.by) none first)
        at_end (inr at) first = subst (EndedFirst after w.by) at first

        by_test : (t : Bool) → ends history b item v ≡ t → EndedFirst after w.by v.ended ⊎ ((w.by ≡ stamp) × EndsIt history b (item ∷ left) v)
            → EndedFirst after w.by (elim t as (λ x. Version) [ true ↦ ended_now v | false ↦ v ]).ended ⊎ ((w.by ≡ stamp) × EndsIt history b left (elim t as (λ x. Version) [ true ↦ ended_now v | false ↦ v ]))
        by_test true is (inl first) = inl (at_end (state.0.1 is) first)
        by_test true is (inr ending) = inl (subst (λ s. EndedFirst after s (Some stamp)) (sym ending.0) itself)
        by_test false is (inl first) = inl first
        by_test false is (inr ending) = inr (ending.0, less item left v is ending.1)

    -- a version that was there, and the new one of the change
    way_new : (item : Item) (left : List Item) (row : Row) → added_row item ≡ Some row → (v : Version) → State (item ∷ left) v → Way left (change item v) (record { row = row; by = stamp; ended = None })
    way_new item left row is v state clash = by_test (ends history b item v) refl (subst (Before (item ∷ left) v) is state.0.0 (subst (λ r. Clash r row) (same item v).0 clash))
      where
        by_test : (t : Bool) → ends history b item v ≡ t → EndedFirst after stamp v.ended ⊎ EndsIt history b (item ∷ left) v
            → EndedFirst after stamp (elim t as (λ x. Version) [ true ↦ ended_now v | false ↦ v ]).ended ⊎ ((stamp ≡ stamp) × EndsIt history b left (elim t as (λ x. Version) [ true ↦ ended_now v | false ↦ v ]))
        by_test true it need = inl itself
        by_test false it (inl first) = inl first
        by_test false it (inr some) = inr (refl, less item left v it some)

    folded : (left : List Item) (vs : List Version) → Pairwise (GiveApart Clash) left → AllByRecursion (State left) vs → Pairwise (Way left) vs → Pairwise (Way []) (fold (change_by history b stamp) vs left)
    folded [] vs apart states ways = ways
    folded (item ∷ left) vs apart states ways = with_new (added_row item) refl (folded left)
      where
        old_states : AllByRecursion (State left) (map (change item) vs)
        old_states = every-map (State left) (change item) vs (every-weaker (State (item ∷ left)) (λ v. State left (change item v)) (state_on item left) vs states)

        old_ways : Pairwise (Way left) (map (change item) vs)
        old_ways = pair-map (Way left) (change item) vs (pair-weaker (State (item ∷ left)) (Way (item ∷ left)) (λ v w. Way left (change item v) (change item w)) (λ v w state also way. way_on item left v w state way) vs states ways)

        with_new : (o : Option Row) → added_row item ≡ o → ((ws : List Version) → Pairwise (GiveApart Clash) left → AllByRecursion (State left) ws → Pairwise (Way left) ws → Pairwise (Way []) (fold (change_by history b stamp) ws left))
            → Pairwise (Way []) (fold (change_by history b stamp) (map (change item) vs ++ version_of stamp (added_row item)) left)
        with_new None is go = subst (λ o. Pairwise (Way []) (fold (change_by history b stamp) (map (change item) vs ++ version_of stamp o) left)) (sym is)
            (subst (λ ws. Pairwise (Way []) (fold (change_by history b stamp) ws left)) (sym (append-nil (map (change item) vs))) (go (map (change item) vs) apart.1 old_states old_ways))
        with_new (Some row) is go = subst (λ o. Pairwise (Way []) (fold (change_by history b stamp) (map (change item) vs ++ version_of stamp o) left)) (sym is)
            (go (map (change item) vs ++ new ∷ []) apart.1 (every-append (State left) (map (change item) vs) (new ∷ []) old_states (new_state, tt))
            (pair-push (Way left) (map (change item) vs) new old_ways (every-map (λ v. Way left v new) (change item) vs (every-weaker (State (item ∷ left)) (λ v. Way left (change item v) new) (way_new item left row is) vs states))))
          where
            new : Version
            new = record { row = row; by = stamp; ended = None }

            differs : (j : Item) → GiveApart Clash item j → Before left new (added_row j)
            differs j given = of (added_row j) (subst (λ o. IfSome o (λ r. IfSome (added_row j) (λ other. Clash r other → ⊥))) is given)
              where
                of : (o : Option Row) → IfSome o (λ other. Clash row other → ⊥) → Before left new o
                of None h = tt
                of (Some other) h = λ clash. absurd (h clash)

            new_state : State left new
            new_state = every-weaker (GiveApart Clash item) (Needs left new) (λ j given. (differs j given, λ also. inl refl)) left apart.0

    -- the versions that are there
    Unended : Item → Version → Type 0
    Unended item v = ends history b item v ≡ true → v.ended ≡ None

    New : Item → Row → Type 0
    New item row = IsFreeRow Clash history b items row ⊎ Inherits Clash history b item row

    -- one that clashes with a row that takes the place of another
    before_both : (v u : Version) → OfStamps (Touch history) u → sees history b u ≡ true → EndedFirst history u.by v.ended → EndedFirst after stamp v.ended
    before_both v u touch seen first = of v.ended first
      where
        of : (o : Option Stamp) → EndedFirst history u.by o → EndedFirst after stamp o
        of None none = none
        of (Some s) goes = first_on history e s stamp (first_then history s u.by stamp goes (counted_first history b c xid items k comes u.by u.row touch.0 (and_parts (counts history b u.by) _ seen).0))

    each : (item : Item) → IsIn item items → AllByRecursion (Unended item) (versions_of history) → (o : Option Row) → IfSome o (New item) → AllByRecursion (λ v. Before items v o) (versions_of history)
    each item among none None new = every (λ v. ⊤) (λ v. tt) (versions_of history)
    each item among none (Some row) (inl free) =
        every-weaker (λ v. OfStamps (Touch history) v × (Clash v.row row → AllCount history b v × (sees history b v ≡ true → EndsIt history b items v))) (λ v. Before items v (Some row)) (λ v h clash. of v h.0 (h.1 clash)) (versions_of history)
        (every-both (OfStamps (Touch history)) (λ v. Clash v.row row → AllCount history b v × (sees history b v ≡ true → EndsIt history b items v)) (versions_of history) k.touched free)
      where
        of : (v : Version) → OfStamps (Touch history) v → AllCount history b v × (sees history b v ≡ true → EndsIt history b items v) → EndedFirst after stamp v.ended ⊎ EndsIt history b items v
        of v touch is = by_sight (ended_or_seen history b c xid items k comes v touch is.0)
          where
            by_sight : EndedFirst after stamp v.ended ⊎ (sees history b v ≡ true) → EndedFirst after stamp v.ended ⊎ EndsIt history b items v
            by_sight (inl first) = inl first
            by_sight (inr seen) = inr (is.1 seen)
    each item among none (Some row) (inr inherits) =
        every-weaker (λ v. Replaced v ⊎ SomeOf (λ u. Replaced u × (GivesWay Clash history v u ⊎ GivesWay Clash history u v)) (versions_of history)) (λ v. Before items v (Some row)) place (versions_of history)
        (beside_one (GivesWay Clash history) Replaced (versions_of history) before (some_with Replaces (λ u. OfStamps (Touch history) u × Unended item u) Replaced (λ u is also. (is, also)) (versions_of history)
        (every-both (OfStamps (Touch history)) (Unended item) (versions_of history) k.touched none) inherits))
      where
        Replaces : Version → Type 0
        Replaces u = (ends history b item u ≡ true) × ((r : Row) → Clash r row → Clash r u.row × Clash u.row r)

        Replaced : Version → Type 0
        Replaced u = Replaces u × (OfStamps (Touch history) u × Unended item u)

        ends_by : (u : Version) → ends history b item u ≡ true → EndsIt history b items u
        ends_by u is = some-weaker (λ i. item ≡ i) (λ i. ends history b i u ≡ true) (λ i one. subst (λ x. ends history b x u ≡ true) one is) items among

        beside : (v u : Version) → Clash v.row row → Replaced u → GivesWay Clash history v u ⊎ GivesWay Clash history u v → EndedFirst after stamp v.ended ⊎ EndsIt history b items v
        beside v u clash is (inl way) = inl (before_both v u is.1.0 (and_parts _ (sees history b u) is.0.0).1 (way (is.0.1 v.row clash).0))
        beside v u clash is (inr way) = absurd (subst (EndedFirst history v.by) (is.1.1 is.0.0) (way (is.0.1 v.row clash).1))

        place : (v : Version) → Replaced v ⊎ SomeOf (λ u. Replaced u × (GivesWay Clash history v u ⊎ GivesWay Clash history u v)) (versions_of history) → Clash v.row row → EndedFirst after stamp v.ended ⊎ EndsIt history b items v
        place v (inl is) clash = inr (ends_by v is.0.0)
        place v (inr some) clash = from_some (λ u. Replaced u × (GivesWay Clash history v u ⊎ GivesWay Clash history u v)) (EndedFirst after stamp v.ended ⊎ EndsIt history b items v) (versions_of history)
            (every (λ u. Replaced u × (GivesWay Clash history v u ⊎ GivesWay Clash history u v) → EndedFirst after stamp v.ended ⊎ EndsIt history b items v) (λ u h. beside v u clash h.0 h.1) (versions_of history)) some

    needs : AllByRecursion (State items) (versions_of history)
    needs = every-swap (λ item v. Needs items v item) items (versions_of history)
        (every-weaker (λ item. IsIn item items × (IfSome (added_row item) (New item) × EndsOnce history b item)) (λ item. AllByRecursion (λ v. Needs items v item) (versions_of history)) of items
        (every-both (λ item. IsIn item items) (λ item. IfSome (added_row item) (New item) × EndsOnce history b item) items (every_self items)
        (every-both (λ item. IfSome (added_row item) (New item)) (EndsOnce history b) items keeps.new (lawful_of history e k comes).2)))
      where
        of : (item : Item) → IsIn item items × (IfSome (added_row item) (New item) × EndsOnce history b item) → AllByRecursion (λ v. Needs items v item) (versions_of history)
        of item h =
            let none = ends_unended history b item (lasting history sound) h.1.1 in
            every-weaker (λ v. Before items v (added_row item) × Unended item v) (λ v. Needs items v item) (λ v both. (both.0, λ is. inl (both.1 is))) (versions_of history)
            (every-both (λ v. Before items v (added_row item)) (Unended item) (versions_of history) (each item h.0 none (added_row item) h.1.0) none)

way_by : (Clash : Row → Row → Type 0) (history : List Entry) (b c : ℕ) (event : Event) → IsSound history → MayComeNext history (entry_of b c event) → KeepsApartBy Clash history b event → GiveWay Clash history
    → Pairwise (GivesWay Clash (history ++ entry_of b c event ∷ [])) (versions_by history b c event (versions_of history))
way_by Clash history b c (events.Write xid items) sound comes keeps before = way_written Clash history b c xid items sound comes keeps before
way_by Clash history b c (events.Gone from) sound comes keeps before =
    pair-map (GivesWay Clash after) (end_back back) (filter (λ v. not (back v.by)) (versions_of history)) (pair-filter (λ v w. GivesWay Clash after (end_back back v) (end_back back w)) (λ v. not (back v.by)) (versions_of history)
    (pairs (GivesWay Clash history) (λ v w. not (back v.by) ≡ true → not (back w.by) ≡ true → GivesWay Clash after (end_back back v) (end_back back w))
    (λ v w way kept also clash. ended_back history b c from w.by v.ended k.runs (lawful_of history (entry_of b c (events.Gone from)) k comes) (not-true (back w.by) also) (way clash)) (versions_of history) before))
  where
    after : List Entry
    after = history ++ entry_of b c (events.Gone from) ∷ []

    back : Stamp → Bool
    back = is_back history b from

    k : Ordered history
    k = sound_ordered history sound
way_by Clash history b c event sound comes keeps before = pairs (GivesWay Clash history) (GivesWay Clash (history ++ entry_of b c event ∷ [])) (λ v w way clash. ended_on history (entry_of b c event) w.by v.ended (way clash)) (versions_of history) before

-- where writes, since they are such, keep rows apart, of two versions of rows that clash the first is ended before the second is added
pub gives_way : (Clash : Row → Row → Type 0) (W : List Entry → Entry → Type 0) → ((before : List Entry) (b c : ℕ) (event : Event) → IsSound before → MayComeNext before (entry_of b c event) → W before (entry_of b c event) → KeepsApartBy Clash before b event)
    → (history : List Entry) → IsSound history → EachEntry W history → GiveWay Clash history
gives_way Clash W keeps = along_sound W (GiveWay Clash) tt
    (λ before e sound comes is ways. subst (Pairwise (GivesWay Clash (before ++ e ∷ []))) (sym (versions-more before e)) (way_by Clash before e.backend e.command e.event sound comes (keeps before e.backend e.command e.event sound comes is) ways))

-- so a backend sees no two of them
pub none_clash : (Clash : Row → Row → Type 0) (history : List Entry) (b : ℕ) → GiveWay Clash history → Pairwise (λ row other. Clash row other → ⊥) (rows_of history b)
none_clash Clash history b ways = pair-map (λ row other. Clash row other → ⊥) (λ v. v.row) (filter (sees history b) (versions_of history))
    (pair-filter (λ v w. Clash v.row w.row → ⊥) (sees history b) (versions_of history)
    (pairs (GivesWay Clash history) (λ v w. sees history b v ≡ true → sees history b w ≡ true → Clash v.row w.row → ⊥)
    (λ v w way seen also clash. ended_hidden history b w.by v (and_parts (counts history b w.by) _ also).0 (way clash) seen) (versions_of history) ways))
