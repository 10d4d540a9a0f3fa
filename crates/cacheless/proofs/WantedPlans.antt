-- What is asked of a plan by what it wants next.
use Rattle.std.proofs.Common.{◌≡◌, ℕ, Bool, true, false, not, Option, None, List, [], ap, ◌∷◌, ◌&&◌, ◌⊎◌, inl, inr, ◌∙◌, cond, refl, is_some, slice_get}
use Rattle.std.specs.Option.{option_map_or}
use Rattle.std.specs.List.{cons_option, find}
use Rattle.base_types.specs.Scans.{same_oid, build_scans}
use Rattle.base_types.specs.Modes.{same_mode}
use Rattle.base_types.specs.declared.scan.Purpose.TheVariants as scans
use Rattle.base_types.specs.declared.row.Row.TheVariants as rows
use Rattle.ddl_effect.specs.declared.want.Want.{Want}
use Rattle.ddl_effect.specs.declared.want.Want.TheVariants as wants
use Rattle.ddl_effect.specs.Plans.{Plan, Done, Fails, Absent, Do, Lookup, Open, Search, Read, Lock, left_rests_on, told_rests_on}
use Rattle.ddl_effect.specs.Stages.{want_of, told_of}
use Rattle.lock_modes.specs.Own.{has_lock}
use Rattle.txn_blocks.specs.Blocks.{Block, Blocks, Level, blocks_badly}
use Rattle.ddl_effect.proofs.Driven.{fails_is}
use Rattle.history_model.specs.Changing.{is_empty}
use Rattle.cacheless.specs.Types.{Oid, Mode, Kind, Row, Purpose, Command, CommandError, OpenRelation, Opening, OwnLock}
use Rattle.cacheless.specs.Session.{Well, Badly, Unsettled, outcome_of, is_settled}
use Rattle.cacheless.specs.Settled.{if_locked, opens_badly, opens_passed, looked_up_in, gives_left}
use Rattle.cacheless.specs.State.{Kept, kept_at, is_kept, missing, row_sought, row_next, blocks_passed, facts_at, work_at, rows_kept}
use Rattle.cacheless.specs.May.{is_missing, is_first_missing, is_next_of_act, lacks_to_build}
use Rattle.cacheless.specs.Rule.{is_lock, is_unlock, names_relation}
use Rattle.cacheless.specs.Facts.{Facts}
use Rattle.cacheless.specs.Work.{Work}
use Rattle.cacheless.specs.Silently.{opened_for}
use Rattle.cacheless.specs.Told.{told_well, told_left}
use Rattle.cacheless.specs.declared.progress.Progress.{Progress}

-- the lock that it asks for
abbrev pub lock_of_want : Progress → Want → Oid → Mode → Bool
lock_of_want s (wants.Lookup name wanted) rel mode = names_relation rel (row_sought s name) && same_mode mode wanted
lock_of_want s (wants.Lock other wanted) rel mode = same_oid rel other && same_mode mode wanted
lock_of_want s want rel mode = false

pub lock_wanted : (s : Progress) (plan : Plan) (rel : Oid) (mode : Mode) → is_lock (facts_at s) plan rel mode ≡ lock_of_want s (want_of plan) rel mode
lock_wanted s (Do (Lookup name wanted) rest) rel mode = refl
lock_wanted s (Do (Lock other wanted) rest) rel mode = refl
lock_wanted s (Do act rest) rel mode = refl
lock_wanted s plan rel mode = refl

pub no_lock : (s : Progress) (want : Want) (rel : Oid) (mode : Mode) → ((name : List ℕ) (m : Mode) → want ≡ wants.Lookup name m → ⊥) → ((other : Oid) (m : Mode) → want ≡ wants.Lock other m → ⊥) → lock_of_want s want rel mode ≡ false
no_lock s (wants.Lookup name m) rel mode lookup lock = absurd (lookup name m refl)
no_lock s (wants.Lock other m) rel mode lookup lock = absurd (lock other m refl)
no_lock s want rel mode lookup lock = refl

-- the lock that it gives back
abbrev pub unlock_of_want : Progress → Want → Oid → Mode → Bool
unlock_of_want s (wants.Lookup name wanted) rel mode = option_map_or (same_oid rel) s.taken false && same_mode mode wanted && not (names_relation rel (row_sought s name))
unlock_of_want s want rel mode = false

pub unlock_wanted : (s : Progress) (plan : Plan) (rel : Oid) (mode : Mode) → is_unlock (facts_at s) s.taken plan rel mode ≡ unlock_of_want s (want_of plan) rel mode
unlock_wanted s (Do (Lookup name wanted) rest) rel mode = refl
unlock_wanted s (Do act rest) rel mode = refl
unlock_wanted s plan rel mode = refl

pub no_unlock : (s : Progress) (want : Want) (rel : Oid) (mode : Mode) → ((name : List ℕ) (m : Mode) → want ≡ wants.Lookup name m → ⊥) → unlock_of_want s want rel mode ≡ false
no_unlock s (wants.Lookup name m) rel mode lookup = absurd (lookup name m refl)
no_unlock s want rel mode lookup = refl

-- the scan of a descriptor that it lacks
abbrev pub build_of_want : Progress → Want → Bool
build_of_want s (wants.Open rel kind) = is_some (find (λ scan. not (is_kept (kept_at s) scan)) (build_scans kind rel))
build_of_want s (wants.Read scan) = not (is_kept (kept_at s) scan)
build_of_want s want = false

pub build_wanted : (s : Progress) (plan : Plan) → lacks_to_build (kept_at s) plan ≡ build_of_want s (want_of plan)
build_wanted s (Do (Open rel kind) rest) = refl
build_wanted s (Do (Read scan) rest) = refl
build_wanted s (Do act rest) = refl
build_wanted s plan = refl

pub no_build : (s : Progress) (want : Want) → ((rel : Oid) (kind : Kind) → want ≡ wants.Open rel kind → ⊥) → ((scan : Purpose) → want ≡ wants.Read scan → ⊥) → build_of_want s want ≡ false
no_build s (wants.Open rel kind) opens reads = absurd (opens rel kind refl)
no_build s (wants.Read scan) opens reads = absurd (reads scan refl)
no_build s want opens reads = refl

-- the scan is the first that it lacks
abbrev pub next_of_want : Purpose → Progress → Want → Bool
next_of_want scan s (wants.Lookup name mode) = is_missing scan (kept_at s) (scans.RelName name)
next_of_want scan s (wants.Search wanted) = is_missing scan (kept_at s) wanted
next_of_want scan s (wants.Done told) = option_map_or (is_missing scan (kept_at s)) told false
next_of_want scan s (wants.Open rel kind) = is_first_missing scan (kept_at s) kind rel
next_of_want scan s want = false

pub next_wanted : (scan : Purpose) (s : Progress) (plan : Plan) → is_next_of_act scan (kept_at s) plan ≡ next_of_want scan s (want_of plan)
next_wanted scan s (Do (Lookup name mode) rest) = refl
next_wanted scan s (Do (Search wanted) rest) = refl
next_wanted scan s (Do (Open rel kind) rest) = refl
next_wanted scan s (Do act rest) = refl
next_wanted scan s plan = refl

pub no_next : (scan : Purpose) (s : Progress) (want : Want) → ((name : List ℕ) (m : Mode) → want ≡ wants.Lookup name m → ⊥) → ((wanted : Purpose) → want ≡ wants.Search wanted → ⊥) → ((rel : Oid) (kind : Kind) → want ≡ wants.Open rel kind → ⊥) → ((told : Option Purpose) → want ≡ wants.Done told → ⊥)
    → next_of_want scan s want ≡ false
no_next scan s (wants.Lookup name m) lookup search opens done = absurd (lookup name m refl)
no_next scan s (wants.Search wanted) lookup search opens done = absurd (search wanted refl)
no_next scan s (wants.Open rel kind) lookup search opens done = absurd (opens rel kind refl)
no_next scan s (wants.Done told) lookup search opens done = absurd (done told refl)
no_next scan s want lookup search opens done = refl

-- the scans on which it rests
abbrev pub scans_of_want : Want → List Purpose
scans_of_want (wants.Done told) = cons_option told []
scans_of_want (wants.Lookup name mode) = scans.RelName name ∷ []
scans_of_want (wants.Open rel kind) = build_scans kind rel
scans_of_want (wants.Search scan) = scan ∷ []
scans_of_want (wants.Read scan) = scan ∷ []
scans_of_want want = []

pub scans_wanted : (plan : Plan) → left_rests_on plan ≡ scans_of_want (want_of plan)
scans_wanted (Done told) = refl
scans_wanted (Do (Lookup name mode) rest) = refl
scans_wanted (Do act rest) = refl
scans_wanted plan = refl

pub no_scans : (want : Want) → ((name : List ℕ) (mode : Mode) → want ≡ wants.Lookup name mode → ⊥) → ((rel : Oid) (kind : Kind) → want ≡ wants.Open rel kind → ⊥) → ((scan : Purpose) → want ≡ wants.Search scan → ⊥) → ((scan : Purpose) → want ≡ wants.Read scan → ⊥) → ((told : Option Purpose) → want ≡ wants.Done told → ⊥)
    → scans_of_want want ≡ []
no_scans (wants.Done told) lookup opens search reads done = absurd (done told refl)
no_scans (wants.Lookup name mode) lookup opens search reads done = absurd (lookup name mode refl)
no_scans (wants.Open rel kind) lookup opens search reads done = absurd (opens rel kind refl)
no_scans (wants.Search scan) lookup opens search reads done = absurd (search scan refl)
no_scans (wants.Read scan) lookup opens search reads done = absurd (reads scan refl)
no_scans want lookup opens search reads done = refl

-- how its command has come out
pub came_badly : (plan : Plan) (error : CommandError) → want_of plan ≡ wants.Fails error → outcome_of plan ≡ Badly
came_badly plan error is = ap outcome_of (fails_is plan error is)

pub came_well : (plan : Plan) (told : Option Purpose) → want_of plan ≡ wants.Done told → outcome_of plan ≡ Well
came_well (Done told) rests is = refl
came_well (Fails error) rests is = absurd (cc is)
came_well (Absent name) rests is = absurd (cc is)
came_well (Do (Lookup name mode) rest) rests is = absurd (cc is)
came_well (Do act rest) rests is = absurd (cc is)

pub goes_on : (plan : Plan) → ((told : Option Purpose) → want_of plan ≡ wants.Done told → ⊥) → ((error : CommandError) → want_of plan ≡ wants.Fails error → ⊥) → ((name : List ℕ) → want_of plan ≡ wants.Absent name → ⊥) → outcome_of plan ≡ Unsettled
goes_on (Done told) done fails absent = absurd (done (told_rests_on told) refl)
goes_on (Fails error) done fails absent = absurd (fails error refl)
goes_on (Absent name) done fails absent = absurd (absent name refl)
goes_on (Do act rest) done fails absent = refl

-- one that hasn't done what it says leaves blocks and open relations as after a failure
pub passed_badly : (plan : Plan) (number : ℕ) (command : Command) (blocks : Blocks) → ((told : Option Purpose) → want_of plan ≡ wants.Done told → ⊥) → blocks_passed plan number command blocks ≡ blocks_badly blocks
passed_badly (Done told) number command blocks done = absurd (done (told_rests_on told) refl)
passed_badly plan number command blocks done = refl

pub opened_badly : (plan : Plan) (number : ℕ) (command : Command) (blocked : Bool) (levels : List Level) (opened : List Opening) (opens : List OpenRelation) → ((told : Option Purpose) → want_of plan ≡ wants.Done told → ⊥)
    → opens_passed plan number command blocked levels opened opens ≡ opens_badly number blocked levels opens
opened_badly (Done told) number command blocked levels opened opens done = absurd (done (told_rests_on told) refl)
opened_badly plan number command blocked levels opened opens done = refl

-- the row of a lookup
abbrev pub row_of_want : Progress → Want → Option Row
row_of_want s (wants.Lookup name mode) = row_sought s name
row_of_want s want = None

pub row_wanted : (s : Progress) (plan : Plan) → row_next s plan ≡ row_of_want s (want_of plan)
row_wanted s (Do (Lookup name mode) rest) = refl
row_wanted s (Do act rest) = refl
row_wanted s plan = refl

pub no_row : (s : Progress) (want : Want) → ((name : List ℕ) (m : Mode) → want ≡ wants.Lookup name m → ⊥) → row_of_want s want ≡ None
no_row s (wants.Lookup name m) lookup = absurd (lookup name m refl)
no_row s want lookup = refl

-- whether its command has come out, well or badly
abbrev pub out_of_want : Want → Bool
out_of_want (wants.Done told) = true
out_of_want (wants.Fails error) = true
out_of_want (wants.Absent name) = true
out_of_want want = false

pub out_wanted : (plan : Plan) → is_settled (outcome_of plan) ≡ out_of_want (want_of plan)
out_wanted (Do (Lookup name mode) rest) = refl
out_wanted (Do act rest) = refl
out_wanted plan = refl

pub not_out : (want : Want) → ((told : Option Purpose) → want ≡ wants.Done told → ⊥) → ((error : CommandError) → want ≡ wants.Fails error → ⊥) → ((name : List ℕ) → want ≡ wants.Absent name → ⊥) → out_of_want want ≡ false
not_out (wants.Done told) done fails absent = absurd (done told refl)
not_out (wants.Fails error) done fails absent = absurd (fails error refl)
not_out (wants.Absent name) done fails absent = absurd (absent name refl)
not_out want done fails absent = refl

pub is_out_of : (want : Want) → ((told : Option Purpose) × (want ≡ wants.Done told)) ⊎ ((error : CommandError) × (want ≡ wants.Fails error)) ⊎ ((name : List ℕ) × (want ≡ wants.Absent name)) → out_of_want want ≡ true
is_out_of want (inl (told, is)) = ap out_of_want is
is_out_of want (inr (inl (error, is))) = ap out_of_want is
is_out_of want (inr (inr (name, is))) = ap out_of_want is

-- whether it has failed
abbrev pub failed_of_want : Want → Bool
failed_of_want (wants.Fails error) = true
failed_of_want (wants.Absent name) = true
failed_of_want want = false

pub failed_wanted : (plan : Plan) → elim (outcome_of plan) as (λ x. Bool) [ Badly ↦ true | other ↦ false ] ≡ failed_of_want (want_of plan)
failed_wanted (Do (Lookup name mode) rest) = refl
failed_wanted (Do act rest) = refl
failed_wanted plan = refl

pub not_failed : (want : Want) → ((error : CommandError) → want ≡ wants.Fails error → ⊥) → ((name : List ℕ) → want ≡ wants.Absent name → ⊥) → failed_of_want want ≡ false
not_failed (wants.Fails error) fails absent = absurd (fails error refl)
not_failed (wants.Absent name) fails absent = absurd (absent name refl)
not_failed want fails absent = refl

pub has_failed_of : (want : Want) → ((error : CommandError) × (want ≡ wants.Fails error)) ⊎ ((name : List ℕ) × (want ≡ wants.Absent name)) → failed_of_want want ≡ true
has_failed_of want (inl (error, is)) = ap failed_of_want is
has_failed_of want (inr (name, is)) = ap failed_of_want is

-- whether its next act is given rows without an entry
abbrev pub gives_of_want : Progress → Want → Bool
gives_of_want s (wants.Lookup name mode) = is_some (looked_up_in (facts_at s) (work_at s) mode (cons_option (row_sought s name) []))
gives_of_want s (wants.Open rel kind) = true
gives_of_want s (wants.Search scan) = true
gives_of_want s (wants.Read scan) = true
gives_of_want s (wants.Lock rel mode) = has_lock s.locks.items rel mode
gives_of_want s want = false

some_locked : (t : Bool) → is_some (if_locked t []) ≡ t
some_locked true = refl
some_locked false = refl

pub first_up : (facts : Facts) (w : Work) (mode : Mode) (given : List Row) → is_some (looked_up_in facts w mode given) ≡ is_some (looked_up_in facts w mode (cons_option (slice_get given 0) []))
first_up facts w mode [] = refl
first_up facts w mode (rows.Class oid name kind fill ∷ more) = refl
first_up facts w mode (row ∷ more) = refl

pub gives_wanted : (s : Progress) (plan : Plan) → gives_left (facts_at s) (work_at s) plan ≡ gives_of_want s (want_of plan)
gives_wanted s (Do (Lookup name mode) rest) = first_up (facts_at s) (work_at s) mode (rows_kept (kept_at s) (scans.RelName name))
gives_wanted s (Do (Lock rel mode) rest) = some_locked (has_lock s.locks.items rel mode)
gives_wanted s (Do act rest) = refl
gives_wanted s plan = refl

pub no_gives : (s : Progress) (want : Want) → ((name : List ℕ) (m : Mode) → want ≡ wants.Lookup name m → ⊥) → ((rel : Oid) (mode : Mode) → want ≡ wants.Lock rel mode → ⊥) → ((rel : Oid) (kind : Kind) → want ≡ wants.Open rel kind → ⊥) → ((scan : Purpose) → want ≡ wants.Search scan → ⊥) → ((scan : Purpose) → want ≡ wants.Read scan → ⊥)
    → gives_of_want s want ≡ false
no_gives s (wants.Lookup name m) lookup lock opens search read = absurd (lookup name m refl)
no_gives s (wants.Lock rel mode) lookup lock opens search read = absurd (lock rel mode refl)
no_gives s (wants.Open rel kind) lookup lock opens search read = absurd (opens rel kind refl)
no_gives s (wants.Search scan) lookup lock opens search read = absurd (search scan refl)
no_gives s (wants.Read scan) lookup lock opens search read = absurd (read scan refl)
no_gives s want lookup lock opens search read = refl

-- to open, to search and to read need no entry: always yes
pub gives_always : (s : Progress) (want : Want) → ((rel : Oid) × (kind : Kind) × (want ≡ wants.Open rel kind)) ⊎ ((scan : Purpose) × (want ≡ wants.Search scan)) ⊎ ((scan : Purpose) × (want ≡ wants.Read scan)) → gives_of_want s want ≡ true
gives_always s want (inl (rel, kind, is)) = ap (gives_of_want s) is
gives_always s want (inr (inl (scan, is))) = ap (gives_of_want s) is
gives_always s want (inr (inr (scan, is))) = ap (gives_of_want s) is

-- what a command answers that has come out well
pub tells_well : (rows : Purpose → List Row) (places : Purpose → ℕ) (locks : List OwnLock) (block : Block) (command : Command) (plan : Plan) (told : Option Purpose) → want_of plan ≡ wants.Done told → told_left rows places locks block command plan ≡ told_well rows places locks block (told_of plan)
tells_well rows places locks block command (Done told) rests is = refl
tells_well rows places locks block command (Fails error) rests is = absurd (cc is)
tells_well rows places locks block command (Absent name) rests is = absurd (cc is)
tells_well rows places locks block command (Do (Lookup name mode) rest) rests is = absurd (cc is)
tells_well rows places locks block command (Do act rest) rests is = absurd (cc is)

-- of an act that rests on one scan nothing is missing where that scan is kept
pub one_missing : (kept : Kept) (scan : Purpose) (has : Bool) → has ≡ is_kept kept scan → not (not has) ≡ is_empty (missing kept (scan ∷ []))
one_missing kept scan has is = ap (λ t. not (not t)) is ∙ by_test (is_kept kept scan)
  where
    by_test : (t : Bool) → not (not t) ≡ is_empty (cond (not t) (scan ∷ []) [])
    by_test true = refl
    by_test false = refl

-- a want other than Open opens nothing
pub opens_none : (want : Want) → ((rel : Oid) (kind : Kind) → want ≡ wants.Open rel kind → ⊥) → opened_for want ≡ []
opens_none (wants.Open rel kind) opens = absurd (opens rel kind refl)
opens_none want opens = refl
