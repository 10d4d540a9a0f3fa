-- A walk by steps keeps what it keeps, and comes to the end of the schedule.
use Rattle.std.proofs.Common.{◌≡◌, ◌≢◌, ◌≤◌, ◌<◌, ◌+◌, ◌-◌, ◌^◌, ◌∙◌, ℕ, true, false, Some, List, [], ◌∷◌, ◌++◌, ◌==◌, refl, sym, ap, subst, length, drop, slice_get, slice_set, ◌⊎◌, inl, inr, replicate, nat_eq, get_or, take, Result, Ok, Err, append_assoc, append-nil, arith}
use Rattle.std.specs.List.{flat_map}
use Rattle.std.specs.Result.{OnOk}
use Rattle.std.proofs.lemmas.List.{replicate_more}
use Rattle.std.proofs.lemmas.Option.{slice_get_read}
use Rattle.std.proofs.lemmas.Bool.{ne_eqb}
use Rattle.std.proofs.lemmas.Bool.Decides.{eqb_tells}
use Rattle.std.proofs.Math.ListN.{length-set}
use Rattle.base_types.specs.declared.command.Turns.{Turns}
use Rattle.base_types.specs.Scenario.{Scenario, IsBackend, schedule_of}
use Rattle.event_kinds.specs.declared.entry.Entry.{Entry}
use Rattle.history_model.specs.Prefixes.{EachEntry}
use Rattle.history_model.proofs.Prefixes.{EachEntry-more, along-more}
use Rattle.history_model.proofs.ListSteps.{flat_map_next}
use Rattle.cacheless.specs.MayEnter.{MayEnter}
use Rattle.cacheless.specs.Schedule.{FollowsSchedule, IsComplete, has_stopped, pass_stopped, steps_after, turns_by, turns_left}
use Rattle.backend_core.specs.declared.backend.Backend.{Backend}
use Rattle.backend_core.specs.Words.{has_left}
use Rattle.backend_core.specs.Agrees.{AreSpelled, Stands}
use Rattle.backend_core.specs.Looks.{IsRight}
use Rattle.backend_core.specs.Noted.{NotesAtStep}
use Rattle.backend_core.specs.Steps.{MakesEntry, Steps}
use Rattle.backend_core.proofs.Others.{Stands-other}
use Rattle.backend_core.proofs.Played.{entered_played}
use Rattle.by_backend.proofs.Places.{get_of_set, get_beside_set}
use Rattle.script_backends.specs.Standing.{StandsAt, StandTogether}
use Rattle.script_backends.proofs.Sessions.{stopped_as}
use Rattle.walk_run.proofs.NotedWalks.{walked_first, walked_more}
use Rattle.walk_run.specs.Walks.{AllStand, IsDue, Goes, HasSchedule, IsRunning, Makes}

-- the history of one step more
entered_more : (s : Scenario) (h h' : List Entry) (had has : ℕ → ℕ) (b : ℕ) → EachEntry (MayEnter s) h → MakesEntry s h h' had has b → EachEntry (MayEnter s) h'
entered_more s h h' had has b entered makes = subst (EachEntry (MayEnter s)) (sym makes.is) (EachEntry-more (MayEnter s) h makes.entry entered makes.may)

-- the backends alone
pub together : (s : Scenario) (h : List Entry) (bs : List Backend) → AllStand s h bs → StandTogether s h bs
together s h bs stand = record { count = stand.count; each = stand.each }

-- before the first step
pub stand_first : (s : Scenario) (bs : List Backend) → AreSpelled s → StandTogether s [] bs → AllStand s [] bs
stand_first s bs spelled stand = record { spelled = spelled; entered = tt; walked = walked_first s bs stand; count = stand.count; each = stand.each }

-- the entry of a step isn't another backend's
entry_apart : (e : Entry) (was other : Backend) (i j : ℕ) → e.backend ≡ was.progress.id → was.progress.id ≡ i + 1 → other.progress.id ≡ j + 1 → i ≢ j → (e.backend == other.progress.id) ≡ false
entry_apart e was other i j own mine theirs apart = ne_eqb e.backend other.progress.id (λ same. apart (omega arith))

same_or_not : (i j : ℕ) → (i ≡ j) ⊎ (i ≢ j)
same_or_not i j = of (eqb_tells i j)
  where
    of : ((nat_eq i j ≡ true) × (i ≡ j)) ⊎ ((nat_eq i j ≡ false) × (i ≢ j)) → (i ≡ j) ⊎ (i ≢ j)
    of (inl same) = inl same.1
    of (inr apart) = inr apart.1

-- the backends stand after a step of one of them
pub stand_more : (s : Scenario) (h h' : List Entry) (had has : ℕ → ℕ) (bs : List Backend) (i : ℕ) (was now : Backend) → AllStand s h bs → slice_get bs i ≡ Some was → Steps s h h' had has was now → NotesAtStep s h h' was now → AllStand s h' (slice_set bs i now)
stand_more s h h' had has bs i was now stand is steps notes = record {
  spelled = stand.spelled;
  entered = entered_more s h h' had has was.progress.id stand.entered steps.makes;
  walked = walked_more s h h' had has bs i was now stand.walked is (stand.each i was is) steps notes;
  count = length-set bs i now ∙ stand.count;
  each = λ j backend at. by_place j backend at (same_or_not i j);
}
  where
    mine : was.progress.id ≡ i + 1
    mine = (stand.each i was is).id

    by_place : (j : ℕ) (backend : Backend) → slice_get (slice_set bs i now) j ≡ Some backend → (i ≡ j) ⊎ (i ≢ j) → StandsAt s h' (j + 1) backend
    by_place j backend at (inl same) =
        let here : slice_get (slice_set bs i now) i ≡ Some backend = ap (slice_get (slice_set bs i now)) same ∙ at in
        let there : backend ≡ now = get_of_set bs i now was backend is here in
        record {
          id = ap (λ x. x.progress.id) there ∙ steps.id ∙ mine ∙ ap (λ x. x + 1) same;
          stands = subst (Stands s h') (sym there) steps.stands;
        }
    by_place j backend at (inr apart) =
        let before : slice_get bs j ≡ Some backend = sym (get_beside_set bs i j now apart) ∙ at in
        let old = stand.each j backend before in
        record {
          id = old.id;
          stands = subst (λ x. Stands s x backend) (sym steps.makes.is)
              (Stands-other s h steps.makes.entry backend (entry_apart steps.makes.entry was backend i j steps.makes.own mine old.id apart) old.stands);
        }

-- no step
pub goes_nowhere : (s : Scenario) (h : List Entry) (bs : List Backend) → AllStand s h bs → Goes s h h bs []
goes_nowhere s h bs stand = record { stand = stand; due = λ has rest due. due }

-- steps, and then others
goes_then : (s t : Scenario) (h h' h'' : List Entry) (bs' bs'' : List Backend) (xs ys : List ℕ) → t ≡ s → Goes s h h' bs' xs → Goes t h' h'' bs'' ys → Goes s h h'' bs'' (xs ++ ys)
goes_then s t h h' h'' bs' bs'' xs ys same first later =
    let second : Goes s h' h'' bs'' ys = subst (λ x. Goes x h' h'' bs'' ys) same later in
    record {
      stand = second.stand;
      due = λ has rest due. second.due has rest (first.due has (ys ++ rest) (subst (IsDue s h) (append_assoc xs ys rest) due));
    }

-- with a schedule its steps are what is left
pub turns_by-schedule : (s : Scenario) (h : List Entry) (lines : List (List Turns)) → 0 < length lines → turns_by s h lines ≡ pass_stopped h (steps_after s h)
turns_by-schedule s h [] has = absurd (omega arith)
turns_by-schedule s h (line ∷ lines) has = refl

-- a step of the backend whose turn it is
goes_a_step : (s : Scenario) (h : List Entry) (e : Entry) (b : ℕ) (rest : List ℕ) → e.backend ≡ b → has_stopped h b ≡ false → HasSchedule s → IsDue s h (b ∷ rest) → IsDue s (h ++ e ∷ []) rest
goes_a_step s h e b rest own running has due =
    let first : pass_stopped h (b ∷ rest) ≡ b ∷ rest = rw running refl in
    let left : pass_stopped h (steps_after s h) ≡ b ∷ rest = due.left ∙ first in
    let after : steps_after s (h ++ e ∷ []) ≡ rest = along-more (λ before steps y. drop 1 (pass_stopped before steps)) (schedule_of s) h e ∙ ap (drop 1) left in
    record {
      follows = EachEntry-more (λ before y. slice_get (turns_left s before) 0 ≡ Some y.backend) h e due.follows (ap (λ turns. slice_get turns 0) (turns_by-schedule s h s.steps has ∙ left) ∙ ap Some (sym own));
      left = ap (pass_stopped (h ++ e ∷ [])) after;
    }

-- a backend that has stopped is passed over
passes_over : (s : Scenario) (h : List Entry) (b : ℕ) (rest : List ℕ) → has_stopped h b ≡ true → IsDue s h (b ∷ rest) → IsDue s h rest
passes_over s h b rest stopped due = record { follows = due.follows; left = due.left ∙ rw stopped refl }

-- whether the backend of a number has stopped, its life says
pub stopped_at : (s : Scenario) (h : List Entry) (b : ℕ) (x : Backend) → StandsAt s h b x → has_stopped h b ≡ has_left x.life
stopped_at s h b x at = ap (has_stopped h) (sym at.id) ∙ stopped_as s h x at.stands

-- one step by the schedule
goes_by_step : (s : Scenario) (h h' : List Entry) (had has : ℕ → ℕ) (bs : List Backend) (i : ℕ) (was now : Backend) → AllStand s h bs → slice_get bs i ≡ Some was → has_left was.life ≡ false → Steps s h h' had has was now → NotesAtStep s h h' was now → Goes s h h' (slice_set bs i now) ((i + 1) ∷ [])
goes_by_step s h h' had has bs i was now stand is running steps notes = record {
  stand = stand_more s h h' had has bs i was now stand is steps notes;
  due = λ by rest due. subst (λ x. IsDue s x rest) (sym steps.makes.is)
      (goes_a_step s h steps.makes.entry (i + 1) rest (steps.makes.own ∙ (stand.each i was is).id) (stopped_at s h (i + 1) was (stand.each i was is) ∙ running) by due);
}

-- the step of a backend that has stopped
goes_past : (s : Scenario) (h : List Entry) (bs : List Backend) (i : ℕ) (was : Backend) → AllStand s h bs → slice_get bs i ≡ Some was → has_left was.life ≡ true → Goes s h h bs ((i + 1) ∷ [])
goes_past s h bs i was stand is stopped = record {
  stand = stand;
  due = λ has rest due. passes_over s h (i + 1) rest (stopped_at s h (i + 1) was (stand.each i was is) ∙ stopped) due;
}

-- a walk by the whole schedule is complete
pub scheduled_end : (s : Scenario) (h : List Entry) (bs : List Backend) → HasSchedule s → Goes s [] h bs (schedule_of s) → FollowsSchedule s h × IsComplete s h
scheduled_end s h bs has goes =
    let due : IsDue s h [] = goes.due has [] (record { follows = tt; left = ap (pass_stopped []) (sym (append-nil (schedule_of s))) }) in
    (due.follows, turns_by-schedule s h s.steps has ∙ due.left)

-- a backend that is read by its number
pub found_at : (s : Scenario) (h : List Entry) (bs : List Backend) (b : ℕ) (was : Backend) → IsBackend s.backends b → AllStand s h bs → was ≡ get_or bs (b - 1) was → slice_get bs (b - 1) ≡ Some was
found_at s h bs b was number stand same = slice_get_read bs (length bs) (b - 1) was refl (omega (arith, stand.count, number.0, number.1)) same

-- it stands in the history
pub stands_there : (s : Scenario) (h : List Entry) (bs : List Backend) (b : ℕ) (was : Backend) → IsBackend s.backends b → AllStand s h bs → was ≡ get_or bs (b - 1) was → StandsAt s h b was
stands_there s h bs b was number stand same =
    let n : (b - 1) + 1 ≡ b = omega (arith, number.0) in
    subst (λ k. StandsAt s h k was) n (stand.each (b - 1) was (found_at s h bs b was number stand same))

-- so it is right, and found again it is the same
pub right_there : (s : Scenario) (h : List Entry) (bs : List Backend) (b n : ℕ) (was : Backend) → IsBackend s.backends b → AllStand s h bs → was ≡ get_or bs (b - 1) was → length h + n ≤ 2 ^ 56 → IsRight was
right_there s h bs b n was number stand same short = record {
  scenario = s;
  seen = h;
  stands = (stands_there s h bs b was number stand same).stands;
  played = entered_played s h stand.spelled stand.entered;
  short = omega (arith, short);
}

pub same_there : (s : Scenario) (h : List Entry) (bs : List Backend) (b : ℕ) (was now : Backend) → IsBackend s.backends b → AllStand s h bs → was ≡ get_or bs (b - 1) was → now ≡ get_or bs (b - 1) now → was ≡ now
same_there s h bs b was now number stand same again = some_same (sym (found_at s h bs b was number stand same) ∙ found_at s h bs b now number stand again)
  where
    some_same : {x y : Backend} → Some x ≡ Some y → x ≡ y
    some_same e = cc

-- no entry where it has stopped
pub step_past : (s : Scenario) (h : List Entry) (bs : List Backend) (b : ℕ) (was : Backend) → IsBackend s.backends b → AllStand s h bs → was ≡ get_or bs (b - 1) was → has_left was.life ≡ true → Goes s h h bs (b ∷ [])
step_past s h bs b was number stand same stopped =
    let n : (b - 1) + 1 ≡ b = omega (arith, number.0) in
    subst (λ x. Goes s h h bs (x ∷ [])) n (goes_past s h bs (b - 1) was stand (found_at s h bs b was number stand same) stopped)

-- a backend that is read as running is running
pub read_running : (s : Scenario) (h : List Entry) (bs : List Backend) (b : ℕ) (was : Backend) → IsBackend s.backends b → AllStand s h bs → was ≡ get_or bs (b - 1) was → has_left was.life ≡ false → IsRunning bs b
read_running s h bs b was number stand same running backend at =
    let one : backend ≡ was = some_same (sym at ∙ found_at s h bs b was number stand same) in
    ap (λ x. has_left x.life) one ∙ running
  where
    some_same : {x y : Backend} → Some x ≡ Some y → x ≡ y
    some_same e = cc

-- a step that is made goes on by one step of the schedule
pub makes_goes : {T E : Type 0} (s : Scenario) (h h' : List Entry) (bs bs' : List Backend) (b : ℕ) (result : Result T E) → IsBackend s.backends b → AllStand s h bs → IsRunning bs b
    → OnOk result (Makes s h h' bs bs' b) → OnOk result (Goes s h h' bs' (b ∷ []))
makes_goes s h h' bs bs' b (Ok x) number stand running makes =
    let n : (b - 1) + 1 ≡ b = omega (arith, number.0) in
    subst (λ xs. Goes s h h' xs (b ∷ [])) (sym makes.set)
    (subst (λ y. Goes s h h' (slice_set bs (b - 1) makes.now) (y ∷ [])) n (goes_by_step s h h' makes.had makes.has bs (b - 1) makes.was makes.now stand makes.is (running makes.was makes.is) makes.steps makes.notes))
makes_goes s h h' bs bs' b (Err e) number stand running makes = makes

-- a step of a backend is one that is made
pub step_makes : {T E : Type 0} (s t : Scenario) (h g h' : List Entry) (had has : ℕ → ℕ) (bs : List Backend) (b : ℕ) (was now : Backend) (result : Result T E) → t ≡ s → g ≡ h → IsBackend s.backends b → AllStand s h bs → was ≡ get_or bs (b - 1) was
    → OnOk result (Steps t g h' had has was now) → OnOk result (NotesAtStep t g h' was now) → OnOk result (Makes s h h' bs (slice_set bs (b - 1) now) b)
step_makes s t h g h' had has bs b was now (Ok x) script history number stand same steps notes = record {
  was = was;
  is = found_at s h bs b was number stand same;
  now = now;
  had = had;
  has = has;
  steps = subst (λ before. Steps s before h' had has was now) history (subst (λ y. Steps y g h' had has was now) script steps);
  notes = subst (λ before. NotesAtStep s before h' was now) history (subst (λ y. NotesAtStep y g h' was now) script notes);
  set = refl;
}
step_makes s t h g h' had has bs b was now (Err e) script history number stand same steps notes = steps

-- one step more of an item
pub turns_go_on : (s t : Scenario) (h h' h'' : List Entry) (bs' bs'' : List Backend) (n b : ℕ) → t ≡ s → Goes s h h' bs' (replicate n b) → Goes t h' h'' bs'' (b ∷ []) → Goes s h h'' bs'' (replicate (n + 1) b)
turns_go_on s t h h' h'' bs' bs'' n b same first second = subst (Goes s h h'' bs'') (replicate_more n b) (goes_then s t h h' h'' bs' bs'' (replicate n b) (b ∷ []) same first second)

-- one item or line more
pub items_go_on : {X : Type 0} (f : X → List ℕ) (s t : Scenario) (h h' h'' : List Entry) (bs' bs'' : List Backend) (xs : List X) (i : ℕ) (x : X) → i < length xs → x ≡ get_or xs i x → t ≡ s
    → Goes s h h' bs' (flat_map f (take i xs)) → Goes t h' h'' bs'' (f x) → Goes s h h'' bs'' (flat_map f (take (i + 1) xs))
items_go_on f s t h h' h'' bs' bs'' xs i x short is same first second = subst (Goes s h h'' bs'') (flat_map_next f [] xs i x x (flat_map f (take i xs)) short is refl) (goes_then s t h h' h'' bs' bs'' (flat_map f (take i xs)) (f x) same first second)
