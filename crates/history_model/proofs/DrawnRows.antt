-- Each row is of a relation whose oid is drawn.
use Rattle.std.proofs.Common.{◌≡◌, ◌<◌, ◌∙◌, ℕ, Bool, true, List, [], ◌∷◌, ◌++◌, ◌==◌, ◌&&◌, refl, sym, ap, subst, map, filter, arith}
use Rattle.std.specs.Prelude.{nat_le}
use Rattle.std.specs.List.{AllByRecursion}
use Rattle.std.specs.Option.{IfSome}
use Rattle.std.proofs.lemmas.Bool.{eqb-true, and_parts}
use Rattle.base_types.specs.declared.ids.Oid.{Oid}
use Rattle.base_types.specs.declared.ids.Xid.{Xid}
use Rattle.base_types.specs.declared.row.Row.{Row}
use Rattle.base_types.specs.declared.scan.Purpose.{Purpose}
use Rattle.base_types.specs.Scans.{same_oid, selects}
use Rattle.event_kinds.specs.declared.entry.Entry.{Entry}
use Rattle.event_kinds.specs.declared.entry.Event.{Event}
use Rattle.event_kinds.specs.declared.entry.Event.TheVariants as events
use Rattle.event_kinds.specs.declared.entry.Item.{Item}
use Rattle.lock_modes.specs.declared.grant.Grant.{Grant}
use Rattle.row_visibility.specs.declared.version.Stamp.{Stamp}
use Rattle.row_visibility.specs.declared.version.Version.{Version}
use Rattle.history_model.specs.After.{segment_of}
use Rattle.history_model.specs.Drawn.{next_oid}
use Rattle.history_model.specs.Held.{held_by, held_of}
use Rattle.history_model.specs.MayFollow.{AllowsEvent}
use Rattle.history_model.specs.Orderly.{main_rel, IsOrderlyEvent}
use Rattle.history_model.specs.Sound.{MayComeNext, IsSound}
use Rattle.history_model.specs.Versions.{versions_of, versions_by, sees, rows_of, answer_of, added_row, old_row, ends, is_back}
use Rattle.history_model.proofs.Prefixes.{EachEntry-more, each-keeps}
use Rattle.history_model.proofs.Reading.{versions_of-more, held_of-more}
use Rattle.history_model.proofs.Every.{every, every-weaker, every-filter, every-map, every-both}
use Rattle.history_model.proofs.Guards.{is_changing, guards, IsGuarded, any_with}
use Rattle.history_model.proofs.EnoughModes.{IsHeldFor}
use Rattle.history_model.proofs.InOrder.{every_given}
use Rattle.history_model.proofs.Ordered.{sound_ordered, locks_exclude, early_at, if_some, guarded_rows, main_guarded}
use Rattle.history_model.proofs.Reached.{next_rises}
use Rattle.history_model.proofs.Touched.{entry_of, OfStamps, stamps-weaker, stamps-write, stamps-gone}

-- whatever the stamp, the row is of a relation that is drawn
abbrev IsDrawnAt : ℕ → Stamp → Row → Type 0
IsDrawnAt next s row = (main_rel row).0 < next

-- a relation on which a mode is held is drawn
held_drawn : (next : ℕ) (held : List Grant) (a c : ℕ) (rel : Oid) → AllByRecursion (λ g. g.rel.0 < next) held → IsGuarded held a c rel → rel.0 < next
held_drawn next held a c rel drawn guarded = any_with (guards a c rel) (λ g. g.rel.0 < next) (rel.0 < next)
    (λ g is low. let same : g.rel.0 ≡ rel.0 = eqb-true g.rel.0 rel.0 (and_parts (same_oid g.rel rel) (is_changing g.mode) (and_parts ((g.backend == a) && nat_le g.command c) (same_oid g.rel rel && is_changing g.mode) is).1).0 in omega (arith, low, same)) held guarded drawn

drawn_by_event : (history : List Entry) (b c : ℕ) (event : Event) → IsSound history → MayComeNext history (entry_of b c event) → AllByRecursion (OfStamps (IsDrawnAt (next_oid history))) (versions_of history)
    → AllByRecursion (OfStamps (IsDrawnAt (next_oid (history ++ entry_of b c event ∷ [])))) (versions_by history b c event (versions_of history))
drawn_by_event history b c event sound comes drawn = of event refl
  where
    after : List Entry
    after = history ++ entry_of b c event ∷ []

    next : ℕ
    next = next_oid after

    later : AllByRecursion (OfStamps (IsDrawnAt next)) (versions_of history)
    later = every-weaker (OfStamps (IsDrawnAt (next_oid history))) (OfStamps (IsDrawnAt next))
        (λ v. stamps-weaker (IsDrawnAt (next_oid history)) (IsDrawnAt next) (λ s row low. omega (arith, low, next_rises history (entry_of b c event))) v) (versions_of history) drawn

    held : AllByRecursion (λ g. g.rel.0 < next) (held_of after)
    held = (locks_exclude after (EachEntry-more MayComeNext history (entry_of b c event) sound comes)).drawn

    added : (xid : Xid) (items : List Item) → event ≡ events.Write xid items → AllByRecursion (λ item. IfSome (added_row item) (λ row. (main_rel row).0 < next)) items
    added xid items is = every-weaker Guarded (λ item. IfSome (added_row item) (λ row. (main_rel row).0 < next))
        (λ item both. if_some (IsHeldFor in_write b c (old_row history b item) item) (λ row. (main_rel row).0 < next)
        (λ row guarded. held_drawn next in_write b c (main_rel row) (subst (AllByRecursion (λ g. g.rel.0 < next)) (held_of-more history (entry_of b c event) ∙ ap (λ x. held_by b c x (held_of history)) is) held) (main_guarded in_write b c (old_row history b item) item row guarded)) (added_row item) both.0) items
        (guarded_rows history b c xid items (subst (AllowsEvent history b c) is comes.follows.event).guarded (subst (IsOrderlyEvent history b) is comes.orderly).keeps (early_at history (entry_of b c event) (sound_ordered history sound) comes.follows.life))
      where
        in_write : List Grant
        in_write = held_by b c (events.Write xid items) (held_of history)

        Guarded : Item → Type 0
        Guarded item = IfSome (added_row item) (IsHeldFor in_write b c (old_row history b item) item) × IfSome (old_row history b item) (IsHeldFor in_write b c (old_row history b item) item)

    of : (x : Event) → event ≡ x → AllByRecursion (OfStamps (IsDrawnAt next)) (versions_by history b c x (versions_of history))
    of (events.Write xid items) is = stamps-write (IsDrawnAt next) (λ row. (main_rel row).0 < next) (segment_of history) b (record { xid = xid; command = c }) (λ row low. low) items (versions_of history)
        (every-both (λ item. IfSome (added_row item) (λ row. (main_rel row).0 < next)) (λ item. AllByRecursion (λ v. ends history b item v ≡ true → (main_rel v.row).0 < next) (versions_of history)) items (added xid items is)
        (every (λ item. AllByRecursion (λ v. ends history b item v ≡ true → (main_rel v.row).0 < next) (versions_of history)) (λ item. every-weaker (OfStamps (IsDrawnAt next)) (λ v. ends history b item v ≡ true → (main_rel v.row).0 < next) (λ v low ends'. low.0) (versions_of history) later) items)) later
    of (events.Gone from) is = stamps-gone (IsDrawnAt next) (IsDrawnAt next) (is_back history b from) (λ s row not' low. low) (versions_of history) later
    of x is = later

-- in a sound history each version is of a relation whose oid is drawn
pub rows_drawn : (history : List Entry) → IsSound history → AllByRecursion (λ v. (main_rel v.row).0 < next_oid history) (versions_of history)
rows_drawn history sound = every-weaker (OfStamps (IsDrawnAt (next_oid history))) (λ v. (main_rel v.row).0 < next_oid history) (λ v low. low.0) (versions_of history)
    (each-keeps MayComeNext (λ h. IsSound h × AllByRecursion (OfStamps (IsDrawnAt (next_oid h))) (versions_of h)) (tt, tt)
    (λ before e k comes. (EachEntry-more MayComeNext before e k.0 comes, subst (AllByRecursion (OfStamps (IsDrawnAt (next_oid (before ++ e ∷ []))))) (sym (versions_of-more before e)) (drawn_by_event before e.backend e.command e.event k.0 comes k.1))) history sound).1

-- what holds of the rows of all versions holds of those that are seen
seen_rows : (P : Row → Type 0) (g : Version → Bool) (vs : List Version) → AllByRecursion (λ v. P v.row) vs → AllByRecursion P (map (λ v. v.row) (filter g vs))
seen_rows P g vs all = every-map P (λ v. v.row) (filter g vs) (every-filter (λ v. P v.row) g vs (every-weaker (λ v. P v.row) (λ v. g v ≡ true → P v.row) (λ v is seen. is) vs all))

-- and of those that a scan gives
pub given_each : (P : Row → Type 0) (history : List Entry) (b : ℕ) (d : Purpose) → AllByRecursion (λ v. P v.row) (versions_of history) → AllByRecursion P (answer_of history b d)
given_each P history b d all = every_given P d [] (filter (selects d) (rows_of history b)) tt
    (every-filter P (selects d) (rows_of history b) (every-weaker P (λ row. selects d row ≡ true → P row) (λ row is asked. is) (rows_of history b) (seen_rows P (sees history b) (versions_of history) all)))

-- so what a scan gives is of drawn relations
pub given_drawn : (history : List Entry) (b : ℕ) (d : Purpose) → IsSound history → AllByRecursion (λ row. (main_rel row).0 < next_oid history) (answer_of history b d)
given_drawn history b d sound = given_each (λ row. (main_rel row).0 < next_oid history) history b d (rows_drawn history sound)
