-- What becomes visible leaves a scan's masked rows, where none of the commands that wrote it is marked; and where a backend sees the same masked rows, a scan gives them.
use Rattle.std.proofs.Common.{◌≡◌, ◌∙◌, ℕ, Bool, true, false, Option, Some, None, List, [], ◌∷◌, ◌++◌, ◌==◌, ◌||◌, ◌&&◌, refl, sym, ap, subst, map, filter}
use Rattle.std.specs.Prelude.{⊤}
use Rattle.std.specs.List.{AllByRecursion, list_any}
use Rattle.std.specs.Option.{IfSome}
use Rattle.std.proofs.lemmas.Bool.{eqb-true, eq-eqb, both_ways, false_from_ne_true}
use Rattle.base_types.specs.declared.ids.Xid.{Xid}
use Rattle.base_types.specs.declared.row.Row.{Row}
use Rattle.base_types.specs.declared.scan.Purpose.{Purpose}
use Rattle.base_types.specs.RowKeys.{key_of}
use Rattle.base_types.specs.Scans.{selects, row_number}
use Rattle.event_kinds.specs.declared.entry.Entry.{Entry}
use Rattle.event_kinds.specs.declared.entry.Event.TheVariants as events
use Rattle.row_visibility.specs.declared.version.Version.{Version}
use Rattle.row_visibility.specs.declared.version.Stamp.{Stamp}
use Rattle.row_visibility.specs.Seen.{seen_by}
use Rattle.history_model.specs.Transactions.{runs_as, is_committed}
use Rattle.history_model.specs.Versions.{versions_of, counts, sees, rows_of, answer_of}
use Rattle.history_model.specs.Held.{held_of}
use Rattle.history_model.specs.Orderly.{main_rel}
use Rattle.history_model.specs.Sound.{MayComeNext, IsSound}
use Rattle.history_model.proofs.Reading.{versions_of-more as versions-more}
use Rattle.history_model.proofs.Every.{every-weaker, every-map, every-filter, every-both, SomeOf, some-weaker, some-map, some-filter}
use Rattle.history_model.proofs.Lawful.{IsLawful}
use Rattle.history_model.proofs.Asking.{asked}
use Rattle.history_model.proofs.Touched.{entry_of, OfStamps, Touch}
use Rattle.history_model.proofs.Guards.{Guard, MayChange, changes_on, guard_changes, one_changer}
use Rattle.history_model.proofs.Seen.{counts_at, every_command, Pairwise, OneVersion, pair-weaker, pair-map, pair-filter}
use Rattle.history_model.proofs.OneVersion.{visible_as}
use Rattle.history_model.proofs.Ordered.{Ordered, Ordered-more, lawful_of, one_seen, sound_ordered}
use Rattle.history_model.proofs.InOrder.{IsIn, every_self, Differ, IsByNumber, scan_same}
use Rattle.history_model.proofs.Answers.{counts-other}
use Rattle.history_model.proofs.MaskedRows.{no_command, Masking, Marking, Masks, Shows, ShowSame, Steady, show-trans, counted_same, sound_steady}

-- a scan by which rows that concern the relation are told apart by their numbers, and that asks for them as they are masked
pub record AsksMasked (m : Masking) (d : Purpose) : Type 0 where
  pub concerns : (row : Row) → selects d row ≡ true → m.concerns (m.mask row)
  pub fixes : (row : Row) → selects d (m.mask row) ≡ selects d row
  pub numbers : (row : Row) → row_number (m.mask row) ≡ row_number row
  pub keyed : (row other : Row) → selects d row ≡ true → selects d other ≡ true → row_number row ≡ row_number other → key_of row ≡ key_of other
  pub by_number : (found : List Row) → IsByNumber d (filter (selects d) found)

-- another sees the same masked rows
part_kept : (m : Masking) (n : Marking) (history : List Entry) (a c : ℕ) (xid : Xid) (b : ℕ) (x : Row) → Ordered history → Steady m n history → m.concerns x → IsLawful history (entry_of a c (events.Visible xid)) → (a == b) ≡ false → ((i : ℕ) → n.has history a i → ⊥)
    → ShowSame m x (counts (history ++ entry_of a c (events.Visible xid) ∷ []) b) (versions_of history) (counts history b) (versions_of history)
part_kept m n history a c xid b x k steady cx lawful other none = by_held (list_any (changes_on a (main_rel x)) (held_of history)) refl
  where
    after : List Entry
    after = history ++ entry_of a c (events.Visible xid) ∷ []

    vs : List Version
    vs = versions_of history

    Same : (Stamp → Bool) → (Stamp → Bool) → Version → Type 0
    Same f g v = main_rel v.row ≡ main_rel x → OfStamps (λ s row. f s ≡ g s) v

    same_stamps : (f g : Stamp → Bool) → ((s : Stamp) (row : Row) → main_rel row ≡ main_rel x → Touch history s row → Guard history s row → f s ≡ g s) → ShowSame m x f vs g vs
    same_stamps f g alike = counted_same m x f g vs (every-weaker (λ v. OfStamps (Touch history) v × OfStamps (Guard history) v) (Same f g)
        (λ v h same. (alike v.by v.row same h.0.0 h.1.0, of_ended v.row same v.ended h.0.1 h.1.1)) vs (every-both (OfStamps (Touch history)) (OfStamps (Guard history)) vs k.touched k.guards))
      where
        of_ended : (row : Row) → main_rel row ≡ main_rel x → (o : Option Stamp) → IfSome o (λ s. Touch history s row) → IfSome o (λ s. Guard history s row) → IfSome o (λ s. f s ≡ g s)
        of_ended row same None touch guard = tt
        of_ended row same (Some s) touch guard = alike s row same touch guard

    changer : (w : ℕ) (s : Stamp) (row : Row) → main_rel row ≡ main_rel x → Guard history s row → runs_as history w s.xid.0 ≡ true → MayChange (held_of history) w (main_rel x)
    changer w s row same guard runs = subst (λ rel. MayChange (held_of history) w rel) same (guard_changes (held_of history) w s.command (main_rel row) (guard w runs))

    idle : list_any (changes_on a (main_rel x)) (held_of history) ≡ false → ShowSame m x (counts after b) vs (counts history b) vs
    idle free = same_stamps (counts after b) (counts history b) (λ s row same touch guard. counts-other history a c (events.Visible xid) b s other
        (false_from_ne_true (xid.0 == s.xid.0) (λ is. both_ways _ free (changer a s row same guard (subst (λ y. runs_as history a y ≡ true) (eqb-true xid.0 s.xid.0 is) lawful.1)))))

    busy : MayChange (held_of history) a (main_rel x) → ShowSame m x (counts after b) vs (counts history b) vs
    busy may =
        show-trans m x (counts after b) (counts_at history a every_command) (counts history b) vs vs vs (same_stamps (counts after b) (counts_at history a every_command) later)
        (show-trans m x (counts_at history a every_command) (counts_at history a no_command) (counts history b) vs vs vs
        (steady a every_command no_command x cx (λ i j low is. refl) (λ i j low is. is) (λ i is. absurd (cc)) (λ i passes not' marked. none i marked))
        (same_stamps (counts_at history a no_command) (counts history b) earlier))
      where
        not_run : (s : Stamp) (row : Row) → main_rel row ≡ main_rel x → Guard history s row → runs_as history b s.xid.0 ≡ false
        not_run s row same guard = false_from_ne_true (runs_as history b s.xid.0) (λ runs. both_ways _ other (eq-eqb a b (one_changer (held_of history) a b (main_rel x) k.locks.agree may (changer b s row same guard runs))))

        and_true : (t : Bool) → (t && true) ≡ t
        and_true true = refl
        and_true false = refl

        and_false : (t : Bool) → (t && false) ≡ false
        and_false true = refl
        and_false false = refl

        later : (s : Stamp) (row : Row) → main_rel row ≡ main_rel x → Touch history s row → Guard history s row → counts after b s ≡ counts_at history a every_command s
        later s row same touch guard = ap (λ t. is_committed after s.xid.0 || t) (sym (and_true (runs_as after b s.xid.0))) ∙ visible_as history a c xid b every_command lawful k.runs s row touch (λ differs. not_run s row same guard)

        earlier : (s : Stamp) (row : Row) → main_rel row ≡ main_rel x → Touch history s row → Guard history s row → counts_at history a no_command s ≡ counts history b s
        earlier s row same touch guard = ap (λ t. is_committed history s.xid.0 || t) (and_false (runs_as history a s.xid.0) ∙ sym (not_run s row same guard))

    by_held : (t : Bool) → list_any (changes_on a (main_rel x)) (held_of history) ≡ t → ShowSame m x (counts after b) vs (counts history b) vs
    by_held true may = busy may
    by_held false free = idle free

-- what is asked of one view is asked of another that shows the same masked rows
asked_too : (m : Masking) (d : Purpose) → AsksMasked m d → (vs ws : List Version) (f g : Stamp → Bool) → ((x : Row) → m.concerns x → SomeOf (Shows m f x) vs → SomeOf (Shows m g x) ws)
    → AllByRecursion (λ row. SomeOf (λ other. m.mask row ≡ m.mask other) (asked d (seen_by g) ws)) (asked d (seen_by f) vs)
asked_too m d apart vs ws f g shows = every-filter Found (selects d) (map (λ v. v.row) (filter (seen_by f) vs)) (every-map (λ row. selects d row ≡ true → Found row) (λ v. v.row) (filter (seen_by f) vs)
    (every-filter (λ v. selects d v.row ≡ true → Found v.row) (seen_by f) vs (every-weaker (λ v. IsIn v vs) (λ v. seen_by f v ≡ true → selects d v.row ≡ true → Found v.row) of vs (every_self vs))))
  where
    Found : Row → Type 0
    Found row = SomeOf (λ other. m.mask row ≡ m.mask other) (asked d (seen_by g) ws)

    of : (v : Version) → IsIn v vs → seen_by f v ≡ true → selects d v.row ≡ true → Found v.row
    of v there seen asks =
        some-filter (λ other. m.mask v.row ≡ m.mask other) (selects d) (map (λ u. u.row) (filter (seen_by g) ws)) (some-map Wanted (λ u. u.row) (filter (seen_by g) ws) (some-filter (λ u. Wanted u.row) (seen_by g) ws
        (some-weaker (Shows m g (m.mask v.row)) (λ u. (seen_by g u ≡ true) × Wanted u.row) (λ u sh. (sh.0, (sym (apart.fixes u.row) ∙ ap (selects d) sh.1 ∙ apart.fixes v.row ∙ asks, sym sh.1))) ws
        (shows (m.mask v.row) (apart.concerns v.row asks) (some-weaker (λ u. v ≡ u) (Shows m f (m.mask v.row)) (λ u same. subst (Shows m f (m.mask v.row)) same (seen, refl)) vs there)))))
      where
        Wanted : Row → Type 0
        Wanted other = (selects d other ≡ true) × (m.mask v.row ≡ m.mask other)

-- of rows that are seen and that the scan asks for no two have one number
pub asked_differ : (m : Masking) (d : Purpose) → AsksMasked m d → (f : Version → Bool) (vs : List Version) → Pairwise (λ v w. key_of v.row ≡ key_of w.row → f v ≡ true → f w ≡ true → ⊥) vs → Pairwise Differ (asked d f vs)
asked_differ m d apart f vs pairs =
    pair-filter Differ (selects d) (map (λ v. v.row) (filter f vs)) (pair-map (λ row other. selects d row ≡ true → selects d other ≡ true → Differ row other) (λ v. v.row) (filter f vs)
    (pair-filter (λ v w. selects d v.row ≡ true → selects d w.row ≡ true → Differ v.row w.row) f vs
    (pair-weaker (λ v. ⊤) (λ v w. key_of v.row ≡ key_of w.row → f v ≡ true → f w ≡ true → ⊥) (λ v w. f v ≡ true → f w ≡ true → selects d v.row ≡ true → selects d w.row ≡ true → Differ v.row w.row)
    (λ v w _ _ one seen also is too same. one (apart.keyed v.row w.row is too same) seen also) vs (nothing vs) pairs)))
  where
    nothing : (xs : List Version) → AllByRecursion (λ v. ⊤) xs
    nothing [] = tt
    nothing (x ∷ xs) = (tt, nothing xs)

-- where a backend sees the same masked rows after one more entry, a scan gives them
pub masked_answer : (m : Masking) (d : Purpose) → AsksMasked m d → (history : List Entry) (e : Entry) (b : ℕ) → OneVersion history → OneVersion (history ++ e ∷ []) → ((x : Row) → m.concerns x → ShowSame m x (counts (history ++ e ∷ []) b) (versions_of (history ++ e ∷ [])) (counts history b) (versions_of history))
    → map m.mask (answer_of (history ++ e ∷ []) b d) ≡ map m.mask (answer_of history b d)
masked_answer m d apart history e b one_before one_after shows =
    scan_same d m.mask apart.numbers (rows_of after b) (rows_of history b) (apart.by_number (rows_of after b)) (apart.by_number (rows_of history b))
    (asked_differ m d apart (sees after b) (versions_of after) (one_seen after b (versions_of after) one_after)) (asked_differ m d apart (sees history b) (versions_of history) (one_seen history b (versions_of history) one_before))
    (asked_too m d apart (versions_of after) (versions_of history) (counts after b) (counts history b) (λ x cx. (shows x cx).0)) (asked_too m d apart (versions_of history) (versions_of after) (counts history b) (counts after b) (λ x cx. (shows x cx).1))
  where
    after : List Entry
    after = history ++ e ∷ []

-- what becomes visible leaves the masked answer
pub masked_visible : (m : Masking) (n : Marking) → Masks m n → (d : Purpose) → AsksMasked m d → (history : List Entry) (a c : ℕ) (xid : Xid) (b : ℕ) → IsSound history → MayComeNext history (entry_of a c (events.Visible xid)) → (a == b) ≡ false → ((i : ℕ) → n.has history a i → ⊥)
    → map m.mask (answer_of (history ++ entry_of a c (events.Visible xid) ∷ []) b d) ≡ map m.mask (answer_of history b d)
masked_visible m n masks d apart history a c xid b sound comes other none = masked_answer m d apart history e b (sound_ordered history sound).one (Ordered-more history e (sound_ordered history sound) comes).one
    (λ x cx. subst (λ vs. ShowSame m x (counts (history ++ e ∷ []) b) vs (counts history b) (versions_of history)) (sym (versions-more history e))
    (part_kept m n history a c xid b x (sound_ordered history sound) (sound_steady m n masks history sound) cx (lawful_of history e (sound_ordered history sound) comes) other none))
  where
    e : Entry
    e = entry_of a c (events.Visible xid)
