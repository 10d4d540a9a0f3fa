-- After an allowed history the transaction of each backend is that of its running command or of its block; one that is visible is on its commit, and one of which writes were just taken back on its taking back.
use Rattle.std.proofs.Common.{◌≡◌, ◌≤◌, ◌+◌, ◌∙◌, ◌==◌, ◌&&◌, inl, inr, ℕ, Bool, true, false, Option, Some, None, List, [], ◌∷◌, ◌++◌, refl, sym, ap, subst, map, length, take, is_none, is_some, slice_get, arith}
use Rattle.std.specs.Prelude.{⊤}
use Rattle.std.specs.List.{list_any, flat_map}
use Rattle.std.specs.Option.{option_map, option_map_or}
use Rattle.std.proofs.lemmas.Bool.{and_parts, both_ways}
use Rattle.std.proofs.lemmas.List.{length_push}
use Rattle.event_kinds.specs.declared.entry.Event.TheVariants as events
use Rattle.inval_messages.specs.Lists.{has_write_from}
use Rattle.base_types.specs.Scans.{same_scan, build_scans}
use Rattle.ddl_effect.specs.Commands.{commands_of}
use Rattle.ddl_effect.specs.Opens.{opens_before}
use Rattle.ddl_effect.specs.Plans.{Act, Plan, Done, Fails, Absent, Do, Write, Lookup, Open, Search, Read, Lock}
use Rattle.txn_blocks.specs.Blocks.{Block, Outside, Inside, Failed, Level, no_block}
use Rattle.txn_blocks.specs.declared.transaction.RunningTransaction.{RunningTransaction as Running}
use Rattle.history_model.specs.Changing.{is_empty}
use Rattle.history_model.specs.Drawn.{next_oid}
use Rattle.history_model.specs.Lives.{last_event_of}
use Rattle.history_model.specs.MayFollow.{FollowsVisible, MayRelease}
use Rattle.history_model.specs.Transactions.{begun, is_visible}
use Rattle.cacheless.specs.Types.{Xid, Oid, Mode, Row, Purpose, Item, Scenario, Command, Event, Entry}
use Rattle.cacheless.specs.declared.progress.Due.{Due}
use Rattle.cacheless.specs.declared.progress.Due.TheVariants as dues
use Rattle.cacheless.specs.Work.{work_of}
use Rattle.cacheless.specs.Ends.{End, Ends, Commits, TakesBack, end_in, end_left_in, next_of_end}
use Rattle.cacheless.specs.Facts.{Facts, due_last, facts_of}
use Rattle.cacheless.specs.OnCourse.{is_absent}
use Rattle.cacheless.specs.Output.{IsAllowed}
use Rattle.cacheless.specs.Owed.{Owes, OwesScan, missing, act_next, owed_first_in, owed_after, scans_owed_in, owed_in, is_next_in}
use Rattle.cacheless.specs.Played.{AreSpelled}
use Rattle.cacheless.specs.Plays.{IsLock, IsWrite, IsClash, MayPlayLast, MayPlayIn}
use Rattle.cacheless.specs.Session.{Session, Badly, opening_of, held_in, number_of, none_open, at_command, outcome_of, is_settled, plan_first}
use Rattle.cacheless.specs.Sessions.{ends_command, written, resumed, noted, placed_at, counted, entered, session_of}
use Rattle.cacheless.specs.Settled.{act_done, is_finished_in, blocks_after, opens_after, finished_as, next_session}
use Rattle.cacheless.specs.OwnTransaction.{LevelsRise, first_at, RunsFailed, RunsAt, RunsIn, RunsBy, TransactionFits, end_by, OpensIn, RunsFit}
use Rattle.cacheless.proofs.FactsAfter.{facts_by}
use Rattle.cacheless.proofs.Allowed.ActsNext.{unmapped}
use Rattle.cacheless.proofs.Allowed.EndsReleased.{EndsBy, ends_by, is_end, IsCommit, comes_now, from_of, IsInner, Releases, Whole, Inner, end_releases}
use Rattle.cacheless.proofs.Allowed.KeptAlong.{Makes, IsKept, HoldsBy, kept_along}
use Rattle.cacheless.proofs.Allowed.NextOnCourse.{entered_noted, no_start}
use Rattle.cacheless.proofs.Allowed.NextTransaction.{LevelsFit, levels_next, next_silent, well_admitted}
use Rattle.cacheless.proofs.Allowed.OpenSince.{inside_next, since_next, since_none}
use Rattle.cacheless.proofs.Allowed.OwnEntries.{IsNoted}
use Rattle.cacheless.proofs.Allowed.TransactionEnds.{GoesOn, fits_ending, commits_on, takes_back_on, fits_released, write_from_first, none_from, ended_running, ended_lists, kept_running, kept_lists, goes_first, begun_xid, begun_visible, written_runs}
use Rattle.cacheless.proofs.Allowed.TransactionGoesOn.{StaysInside, StaysAt, IsWellOnceOver, RunsHere, Goes, fits_inside}
use Rattle.cacheless.proofs.Allowed.TransactionRuns.{runs_here}
use Rattle.cacheless.proofs.Plans.SilentActs.{both_empty, empty_list}

-- the event is none of an end
abbrev IsInside : Event → Type 0
IsInside (events.Look some_wait) = ⊤
IsInside (events.Fetch count) = ⊤
IsInside events.FetchReset = ⊤
IsInside (events.Scan scan rows) = ⊤
IsInside (events.LockOk rel mode) = ⊤
IsInside (events.LockHeld rel mode holder held) = ⊤
IsInside (events.Unlock rel mode) = ⊤
IsInside (events.Write xid items) = ⊤
IsInside (events.ClashRow name rel) = ⊤
IsInside (events.ClashRunning name xid) = ⊤
IsInside event = ⊥

-- what it leaves of the facts
quiet_facts : (facts later : Facts) (n : ℕ) → (has_write_from 0 facts.lists ≡ true → option_map_or (λ t. is_some t.xid) facts.running false ≡ true) → later.running ≡ Some (begun n facts.running) → later.lists ≡ facts.lists → ((from : ℕ) → later.due ≡ dues.Gone from → ⊥) → StaysInside facts later n
quiet_facts facts later n has same lists last = record {
  runs = same ∙ (λ i. Some (record (begun n facts.running) { xid = option_map_or (λ (t : Running). t.xid) (sym same i) None }));
  written = λ is. ap (λ o. option_map_or (λ (t : Running). is_some t.xid) o false) same ∙ begun_xid n facts.running (has (ap (has_write_from 0) (sym lists) ∙ is));
  last = last;
}

inside_facts : (history : List Entry) (b n : ℕ) (event : Event) (o : Option Command) (s : Session) → IsInside event → RunsFit (facts_of history b) o s → StaysInside (facts_of history b) (facts_by history b n event (facts_of history b)) n
inside_facts history b n (events.Look true) o s inside fits = quiet_facts (facts_of history b) _ n fits.written refl refl (λ from is. cc is)
inside_facts history b n (events.Look false) o s inside fits = quiet_facts (facts_of history b) _ n fits.written refl refl (λ from is. cc is)
inside_facts history b n (events.Fetch count) o s inside fits = quiet_facts (facts_of history b) _ n fits.written refl refl (λ from is. by_full (count == 32) from is)
  where
    by_full : (t : Bool) (from : ℕ) → elim t as (λ x. Due) [ true ↦ dues.Look | false ↦ dues.Nothing ] ≡ dues.Gone from → ⊥
    by_full true from is = cc is
    by_full false from is = cc is
inside_facts history b n events.FetchReset o s inside fits = quiet_facts (facts_of history b) _ n fits.written refl refl (λ from is. cc is)
inside_facts history b n (events.Scan scan rows) o s inside fits = quiet_facts (facts_of history b) _ n fits.written refl refl (λ from is. cc is)
inside_facts history b n (events.LockOk rel mode) o s inside fits = quiet_facts (facts_of history b) _ n fits.written refl refl (λ from is. cc is)
inside_facts history b n (events.LockHeld rel mode holder held) o s inside fits = quiet_facts (facts_of history b) _ n fits.written refl refl (λ from is. cc is)
inside_facts history b n (events.Unlock rel mode) o s inside fits = quiet_facts (facts_of history b) _ n fits.written refl refl (λ from is. cc is)
inside_facts history b n (events.Write xid items) o s inside fits = record { runs = refl; written = λ is. refl; last = λ from is. cc is }
inside_facts history b n (events.ClashRow name rel) o s inside fits = quiet_facts (facts_of history b) _ n fits.written refl refl (λ from is. cc is)
inside_facts history b n (events.ClashRunning name xid) o s inside fits = quiet_facts (facts_of history b) _ n fits.written refl refl (λ from is. cc is)
inside_facts history b n event o s inside fits = absurd inside

-- and of the session
stays_same : (s : Session) → StaysAt s s
stays_same s = record { blocks = refl; opens = refl; finished = refl; blocked = refl; ended = refl; left = λ out there. refl }

resumed_stays : (p : Plan) (s : Session) → s.left ≡ p → StaysAt s (resumed p s)
resumed_stays (Absent name) s at = record { blocks = refl; opens = refl; finished = refl; blocked = refl; ended = refl; left = λ out there. absurd (both_ways _ there (ap is_absent at)) }
resumed_stays (Done told) s at = stays_same s
resumed_stays (Fails error) s at = stays_same s
resumed_stays (Do act rest) s at = stays_same s

written_stays : (next : ℕ) (items : List Item) (p : Plan) (s : Session) → s.left ≡ p → IsWrite next p items → StaysAt s (written p s)
written_stays next items (Do (Write draft) rest) s at writes = record { blocks = refl; opens = refl; finished = refl; blocked = refl; ended = refl; left = λ out there. absurd (both_ways _ (ap (λ p. is_settled (outcome_of p)) at) out) }
written_stays next items (Do (Lookup name mode) rest) s at writes = absurd writes
written_stays next items (Do (Open of kind) rest) s at writes = absurd writes
written_stays next items (Do (Search scan) rest) s at writes = absurd writes
written_stays next items (Do (Read scan) rest) s at writes = absurd writes
written_stays next items (Do (Lock of mode) rest) s at writes = absurd writes
written_stays next items (Done told) s at writes = absurd writes
written_stays next items (Fails error) s at writes = absurd writes
written_stays next items (Absent name) s at writes = absurd writes

lock_unsettled : (facts : Facts) (p : Plan) (rel : Oid) (mode : Mode) → IsLock facts p rel mode → is_settled (outcome_of p) ≡ true → ⊥
lock_unsettled facts (Do act rest) rel mode asks out = cc out
lock_unsettled facts (Done told) rel mode asks out = asks
lock_unsettled facts (Fails error) rel mode asks out = asks
lock_unsettled facts (Absent name) rel mode asks out = asks

clash_unsettled : (facts : Facts) (next : ℕ) (p : Plan) (name : List ℕ) → IsClash facts p name → is_settled (outcome_of p) ≡ true → ⊥
clash_unsettled facts next (Do act rest) name asks out = cc out
clash_unsettled facts next (Done told) name asks out = asks
clash_unsettled facts next (Fails error) name asks out = asks
clash_unsettled facts next (Absent name') name asks out = asks

noted_stays : (next : ℕ) (facts : Facts) (o : Option Command) (s : Session) (event : Event) → IsInside event → MayPlayIn next facts o s event → StaysAt s (noted event s)
noted_stays next facts o s (events.Look some_wait) inside may = stays_same s
noted_stays next facts o s (events.Fetch count) inside may = resumed_stays s.left s refl
noted_stays next facts o s events.FetchReset inside may = resumed_stays s.left s refl
noted_stays next facts o s (events.Scan scan rows) inside may = stays_same s
noted_stays next facts (Some command) s (events.LockOk rel mode) inside may = record { blocks = refl; opens = refl; finished = refl; blocked = refl; ended = refl; left = λ out there. refl }
noted_stays next facts (Some command) s (events.LockHeld rel mode holder held) inside may = record { blocks = refl; opens = refl; finished = refl; blocked = refl; ended = refl; left = λ out there. absurd (lock_unsettled facts s.left rel mode may.2 out) }
noted_stays next facts (Some command) s (events.Unlock rel mode) inside may = record { blocks = refl; opens = refl; finished = refl; blocked = refl; ended = refl; left = λ out there. refl }
noted_stays next facts (Some command) s (events.Write xid items) inside may = written_stays next items s.left s refl may.1
noted_stays next facts (Some command) s (events.ClashRow name rel) inside may = record { blocks = refl; opens = refl; finished = refl; blocked = refl; ended = refl; left = λ out there. absurd (clash_unsettled facts next s.left name may.1 out) }
noted_stays next facts (Some command) s (events.ClashRunning name xid) inside may = record { blocks = refl; opens = refl; finished = refl; blocked = refl; ended = refl; left = λ out there. absurd (clash_unsettled facts next s.left name may.1 out) }
noted_stays next facts None s (events.LockOk rel mode) inside may = absurd may
noted_stays next facts None s (events.LockHeld rel mode holder held) inside may = absurd may
noted_stays next facts None s (events.Unlock rel mode) inside may = absurd may
noted_stays next facts None s (events.Write xid items) inside may = absurd may
noted_stays next facts None s (events.ClashRow name rel) inside may = absurd may
noted_stays next facts None s (events.ClashRunning name xid) inside may = absurd may
noted_stays next facts o s event inside may = absurd inside

counted_blocked : (facts : Facts) (event : Event) (s : Session) → (counted facts event s).blocked ≡ s.blocked
counted_blocked facts (events.Fetch count) s = refl
counted_blocked facts event s = refl

entered_stays : (later : Facts) (left : List Command) (at n : ℕ) (event : Event) (s : Session) → StaysAt s (noted event s) → StaysAt s (entered later left at n event s)
entered_stays later left at n event s stays = record {
  blocks = same.after.blocks ∙ stays.blocks;
  opens = same.after.opens ∙ stays.opens;
  finished = ap length same.after.finished ∙ stays.finished;
  blocked = counted_blocked later event (placed_at at n event s) ∙ stays.blocked;
  ended = same.ended ∙ stays.ended;
  left = λ out there. same.after.left ∙ stays.left out there;
}
  where
    same : IsNoted (noted event s) (entered later left at n event s)
    same = entered_noted later left at n event s

-- after the last command its descriptors stay
resumed_opened : (p : Plan) (s : Session) → (resumed p s).opened ≡ s.opened
resumed_opened (Absent name) s = refl
resumed_opened (Done told) s = refl
resumed_opened (Fails error) s = refl
resumed_opened (Do act rest) s = refl

last_opened : (facts : Facts) (s : Session) (event : Event) → IsInside event → MayPlayLast facts s event → (noted event s).opened ≡ s.opened
last_opened facts s (events.Look some_wait) inside may = refl
last_opened facts s (events.Fetch count) inside may = resumed_opened s.left s
last_opened facts s events.FetchReset inside may = resumed_opened s.left s
last_opened facts s (events.Scan scan rows) inside may = refl
last_opened facts s (events.LockOk rel mode) inside may = absurd may
last_opened facts s (events.LockHeld rel mode holder held) inside may = absurd may
last_opened facts s (events.Unlock rel mode) inside may = absurd may
last_opened facts s (events.Write xid items) inside may = absurd may
last_opened facts s (events.ClashRow name rel) inside may = absurd may
last_opened facts s (events.ClashRunning name xid) inside may = absurd may
last_opened facts s event inside may = absurd inside

-- the transaction isn't visible
inside_hidden : (t : Bool) (event : Event) → IsInside event → FollowsVisible t event → t ≡ false
inside_hidden false event inside follows = refl
inside_hidden true (events.Publish count) inside follows = absurd inside
inside_hidden true (events.Release from) inside follows = absurd inside
inside_hidden true event inside follows = absurd follows

-- after the last command no scan is lacking, where none runs
scan_past : (facts : Facts) (s : Session) (scan : Purpose) → RunsFit facts None s → facts.running ≡ None → is_next_in scan facts (work_of s) ≡ true → ⊥
scan_past facts s scan fits none next = both_ways _ (λ i. list_any (same_scan scan) (elim (outcome_of (fits.past refl i)) as (λ x. List Purpose) [ Badly ↦ [] | other ↦ flat_map (λ o. take 1 (missing facts.kept (build_scans o.kind o.rel))) (bare i) ++ act_next facts (fits.past refl i) ])) next
  where
    by_block : s.ended ≡ false → (block : Block) → s.blocks.block ≡ block → OpensIn block s.opens → RunsBy facts None s block → s.opened ≡ []
    by_block going Outside is opens runs = fits.held refl going ∙ ap (λ b. held_in b s.opens) is ∙ ap (map opening_of) opens
    by_block going Inside is opens runs = absurd (both_ways _ (ap (λ r. is_some r) none) runs.runs)
    by_block going Failed is opens runs = fits.held refl going ∙ ap (λ b. held_in b s.opens) is

    by_ended : (t : Bool) → s.ended ≡ t → TransactionFits facts None s t → s.opened ≡ []
    by_ended true over runs = fits.free over none
    by_ended false going runs = by_block going s.blocks.block refl fits.inside runs

    bare : s.opened ≡ []
    bare = by_ended s.ended refl fits.transaction

module _ (scenario : Scenario) (history : List Entry) (b : ℕ) (s : Session) where
  abbrev facts : Facts
  facts = facts_of history b

  -- what a fetch rests on is owed
  fetch_runs : (o : Option Command) → RunsFit facts o s → last_event_of history b ≡ Some (events.Look true) → is_some facts.running ≡ true
  fetch_runs o fits last = fits.accepts (ap (λ l. is_empty (owed_after (due_last l))) last)

  -- after the last command a transaction runs, where such an entry comes
  last_runs : (event : Event) → IsInside event → RunsFit facts None s → Makes scenario history b None s event → is_some facts.running ≡ true
  last_runs (events.Look some_wait) inside fits makes = makes.plays.0
  last_runs (events.Fetch count) inside fits makes = fetch_runs None fits makes.follows.event.0
  last_runs events.FetchReset inside fits makes = fetch_runs None fits makes.follows.event
  last_runs (events.Scan scan rows) inside fits makes = by_running facts.running refl
    where
      by_running : (own : Option Running) → facts.running ≡ own → is_some facts.running ≡ true
      by_running None none = absurd (scan_past facts s scan fits none makes.plays.1)
      by_running (Some t) is = ap (λ r. is_some r) is
  last_runs (events.LockOk rel mode) inside fits makes = absurd makes.plays
  last_runs (events.LockHeld rel mode holder held) inside fits makes = absurd makes.plays
  last_runs (events.Unlock rel mode) inside fits makes = absurd makes.plays
  last_runs (events.Write xid items) inside fits makes = absurd makes.plays
  last_runs (events.ClashRow name rel) inside fits makes = absurd makes.plays
  last_runs (events.ClashRunning name xid) inside fits makes = absurd makes.plays
  last_runs event inside fits makes = absurd inside

  here_of : (o : Option Command) (event : Event) → IsInside event → RunsFit facts o s → Makes scenario history b o s event → RunsHere facts o s
  here_of None event inside fits makes = Goes (last_runs event inside fits makes)
  here_of (Some command) event inside fits makes = runs_here facts command s fits (makes.waits command refl).unfinished (makes.course.follows command makes.at).plain (λ over. let alone = makes.course.going command makes.at over in record { told = alone.told; left = alone.left; alone = alone.alone })

  once_of : (o : Option Command) (event : Event) → RunsFit facts o s → Makes scenario history b o s event → IsWellOnceOver s
  once_of None event fits makes = λ over. ap outcome_of (fits.past refl)
  once_of (Some command) event fits makes = λ over. ap outcome_of (makes.course.going command makes.at over).left

  opened_of : (o : Option Command) (event : Event) (later : Facts) (left : List Command) (at : ℕ) → IsInside event → Makes scenario history b o s event → o ≡ None → (entered later left at (number_of s) event s).opened ≡ s.opened
  opened_of None event later left at inside makes none = (entered_noted later left at (number_of s) event s).after.opened ∙ last_opened facts s event inside makes.plays
  opened_of (Some command) event later left at inside makes none = absurd (cc none)

  -- an entry that is none of an end
  inside_enters : (o : Option Command) (event : Event) (left : List Command) → IsInside event → Makes scenario history b o s event → RunsFit facts o s
      → RunsFit (facts_by history b (number_of s) event facts) o (entered (facts_by history b (number_of s) event facts) left (length history + 1) (number_of s) event s)
  inside_enters o event left inside makes fits = fits_inside facts later o s (entered later left (length history + 1) (number_of s) event s) fits (inside_facts history b (number_of s) event o s inside fits)
      (entered_stays later left (length history + 1) (number_of s) event s (noted_stays (next_oid history) facts o s event inside makes.plays)) (here_of o event inside fits makes)
      (inside_hidden (is_visible facts.running) event inside makes.follows.visible) (once_of o event fits makes) (opened_of o event later left (length history + 1) inside makes)
    where
      later : Facts
      later = facts_by history b (number_of s) event facts

  -- where a commit comes next no scan is owed
  commit_free : (o : Option Command) (event : Event) → ends_command event ≡ true → MayPlayIn (next_oid history) facts o s event → IsCommit facts (end_by facts o s) → scans_owed_in facts (work_of s) ≡ []
  commit_free None event ends may commit = absurd (all_back facts.running commit.is)
    where
      all_back : (r : Option Running) → option_map_or (λ t. TakesBack t.first) r Ends ≡ Commits commit.first → ⊥
      all_back None is = cc is
      all_back (Some t) is = cc is
  commit_free (Some command) event ends may commit = unmapped (scans_owed_in facts (work_of s)) (both_empty (owed_first_in facts command (work_of s) ++ owed_after facts.due) (map OwesScan (scans_owed_in facts (work_of s)))
      (sym (ap (λ e. elim e as (λ x. List Owes) [ TakesBack from ↦ owed_after facts.due | end ↦ owed_in facts command (work_of s) ]) commit.is) ∙ (is_end (next_oid history) facts command s event ends may).0)).1

  module _ (o : Option Command) (left : List Command) (fits : RunsFit facts o s) where
    -- the visibility step
    shows_enters : (xid : Xid) → Makes scenario history b o s (events.Visible xid)
        → RunsFit (facts_by history b (number_of s) (events.Visible xid) facts) o (entered (facts_by history b (number_of s) (events.Visible xid) facts) left (length history + 1) (number_of s) (events.Visible xid) s)
    shows_enters xid makes = fits_ending facts later o s event _ (length history + 1) fits ends goes (λ is. begun_xid (number_of s) facts.running (fits.written is))
        (λ is. commits_on facts later o s event _ (length history + 1) fits ends goes commit refl (commit_free o event refl makes.plays commit)) (λ from is. absurd (cc is))
      where
        event : Event
        event = events.Visible xid

        later : Facts
        later = facts_by history b (number_of s) event facts

        ends : EndsBy facts o s event
        ends = ends_by (next_oid history) facts o s event refl fits makes.plays

        commit : IsCommit facts (end_by facts o s)
        commit = (comes_now facts (end_by facts o s) event ends.comes).commit

        runs : is_some facts.running ≡ true
        runs = written_runs facts.running (fits.written (write_from_first commit.first facts.lists commit.written))

        goes : GoesOn facts later
        goes = record { runs = runs; some = refl; same = goes_first (number_of s) facts.running runs; free = refl }

    -- a publish
    publish_enters : (count : ℕ) → Makes scenario history b o s (events.Publish count)
        → RunsFit (facts_by history b (number_of s) (events.Publish count) facts) o (entered (facts_by history b (number_of s) (events.Publish count) facts) left (length history + 1) (number_of s) (events.Publish count) s)
    publish_enters count makes = fits_ending facts later o s event _ (length history + 1) fits ends goes (λ is. begun_xid (number_of s) facts.running (fits.written is))
        (λ is. commits_on facts later o s event _ (length history + 1) fits ends goes commit refl (commit_free o event refl makes.plays commit)) (λ from is. absurd (cc is))
      where
        event : Event
        event = events.Publish count

        later : Facts
        later = facts_by history b (number_of s) event facts

        ends : EndsBy facts o s event
        ends = ends_by (next_oid history) facts o s event refl fits makes.plays

        commit : IsCommit facts (end_by facts o s)
        commit = (comes_now facts (end_by facts o s) event ends.comes).commit

        runs : is_some facts.running ≡ true
        runs = written_runs facts.running (fits.written (write_from_first commit.first facts.lists commit.written))

        goes : GoesOn facts later
        goes = record { runs = runs; some = refl; same = goes_first (number_of s) facts.running runs; free = refl }

    -- taking back
    back_enters : (from : ℕ) → Makes scenario history b o s (events.Gone from)
        → RunsFit (facts_by history b (number_of s) (events.Gone from) facts) o (entered (facts_by history b (number_of s) (events.Gone from) facts) left (length history + 1) (number_of s) (events.Gone from) s)
    back_enters from makes = fits_ending facts later o s event _ (length history + 1) fits ends goes (λ is. begun_xid (number_of s) facts.running written_here)
        (λ is. absurd (both_ways _ hidden (sym (begun_visible (number_of s) facts.running) ∙ is)))
        (λ n is. let same : from ≡ n = (let both : dues.Gone from ≡ dues.Gone n = is in cc both) in
        takes_back_on facts later o s event _ (length history + 1) fits ends n goes (takes.0 ∙ ap TakesBack same) (subst (λ k. has_write_from k later.lists ≡ false) same (none_from from facts.lists)))
      where
        event : Event
        event = events.Gone from

        later : Facts
        later = facts_by history b (number_of s) event facts

        ends : EndsBy facts o s event
        ends = ends_by (next_oid history) facts o s event refl fits makes.plays

        takes : (end_by facts o s ≡ TakesBack from) × (has_write_from from facts.lists ≡ true)
        takes = comes_now facts (end_by facts o s) event ends.comes

        by_visible : (t : Bool) → FollowsVisible t event → t ≡ false
        by_visible false follows = refl
        by_visible true follows = absurd follows

        hidden : is_visible facts.running ≡ false
        hidden = by_visible (is_visible facts.running) makes.follows.visible

        written_here : option_map_or (λ t. is_some t.xid) facts.running false ≡ true
        written_here = fits.written (write_from_first from facts.lists takes.1)

        runs : is_some facts.running ≡ true
        runs = written_runs facts.running written_here

        goes : GoesOn facts later
        goes = record { runs = runs; some = refl; same = goes_first (number_of s) facts.running runs; free = refl }

    -- the release
    release_enters : (from : ℕ) → Makes scenario history b o s (events.Release from)
        → RunsFit (facts_by history b (number_of s) (events.Release from) facts) o (entered (facts_by history b (number_of s) (events.Release from) facts) left (length history + 1) (number_of s) (events.Release from) s)
    release_enters from makes = by_part (end_releases facts o s from fits ends.going (from_of facts (end_by facts o s) from (comes_now facts (end_by facts o s) event ends.comes)))
      where
        event : Event
        event = events.Release from

        later : Facts
        later = facts_by history b (number_of s) event facts

        ends : EndsBy facts o s event
        ends = ends_by (next_oid history) facts o s event refl fits makes.plays

        first_of_it : (own : Option Running) → option_map (λ t. t.first) own ≡ Some from → option_map_or (λ t. t.first) own 0 ≡ from
        first_of_it None is = absurd (cc is)
        first_of_it (Some t) is = cc is

        inner_hidden : IsInner facts o s from → (t : Bool) → MayRelease t history b from → t ≡ false
        inner_hidden inner false may = refl
        inner_hidden inner true may = absurd (omega (arith, inner.above, first_of_it facts.running may.0))

        by_part : Releases facts o s from → RunsFit later o (entered later left (length history + 1) (number_of s) event s)
        by_part (Whole is bare on) = fits_released facts later o s event _ (length history + 1) fits ends from refl
            (subst (λ n. n ≤ number_of s) (sym (ap (λ r. option_map_or (λ (t : Running). t.first) r 0) ended)) (omega arith))
            (λ some. absurd (both_ways _ (ended_lists facts.running facts.lists (number_of s) from is fits.written) some)) (ap (λ r. is_visible r) ended) (on later ended)
            (ap (λ r. opens_before (option_map_or (λ (t : Running). t.first) r 0) s.opens) ended ∙ since_none s.opens) (λ over. bare)
          where
            ended : later.running ≡ None
            ended = ended_running facts.running (number_of s) from is
        by_part (Inner inner) = fits_released facts later o s event _ (length history + 1) fits ends from refl
            (subst (λ n. n ≤ number_of s) (sym (ap (λ r. option_map_or (λ (t : Running). t.first) r 0) same)) fits.first)
            (λ some. ap (λ r. option_map_or (λ (t : Running). is_some t.xid) r false) same ∙ fits.written (ap (has_write_from 0) (sym (kept_lists facts.running facts.lists from inner.runs inner.above)) ∙ some))
            (ap (λ r. is_visible r) same ∙ inner_hidden inner (is_visible facts.running) makes.follows.event.1) (inner.on later same)
            (ap (λ r. opens_before (option_map_or (λ (t : Running). t.first) r 0) s.opens) same ∙ fits.since) (λ over. absurd (both_ways _ (ap (λ r. is_some r) (sym same ∙ over)) inner.runs))
          where
            same : later.running ≡ facts.running
            same = kept_running facts.running (number_of s) from inner.runs inner.above

  -- the stop
  stop_enters : (left : List Command) → RunsFit facts None s → facts.running ≡ None → RunsFit (facts_by history b (number_of s) events.Stop facts) None (entered (facts_by history b (number_of s) events.Stop facts) left (length history + 1) (number_of s) events.Stop s)
  stop_enters left fits none = record {
    transaction = by_ended s.ended fits.transaction;
    first = fits.first;
    opens = fits.opens;
    levels = fits.levels;
    plain = fits.plain;
    blocked = fits.blocked;
    settled = fits.settled;
    written = fits.written;
    visible = λ is. absurd (both_ways _ (ap (λ r. is_visible r) none) is);
    taken = λ from is. absurd (cc is);
    accepts = λ owes. absurd (cc owes);
    past = fits.past;
    inside = fits.inside;
    since = fits.since;
    free = fits.free;
    over = fits.over;
    held = fits.held;
  }
    where
      later : Facts
      later = facts_by history b (number_of s) events.Stop facts

      now : Session
      now = entered later left (length history + 1) (number_of s) events.Stop s

      failed : (levels : List Level) → RunsFailed facts levels → RunsFailed later levels
      failed [] runs = none
      failed (level ∷ []) runs = none
      failed (level ∷ inner ∷ levels) runs = absurd (both_ways _ (ap (λ r. is_some r) none) runs.runs)

      by_block : (block : Block) → RunsBy facts None s block → RunsBy later None now block
      by_block Outside runs = inl none
      by_block Inside runs = absurd (both_ways _ (ap (λ r. is_some r) none) runs.runs)
      by_block Failed runs = failed s.blocks.levels runs

      by_ended : (t : Bool) → TransactionFits facts None s t → TransactionFits later None now t
      by_ended true runs = none
      by_ended false runs = by_block s.blocks.block runs

  entry_enters : (o : Option Command) (event : Event) (left : List Command) → Makes scenario history b o s event → RunsFit facts o s
      → RunsFit (facts_by history b (number_of s) event facts) o (entered (facts_by history b (number_of s) event facts) left (length history + 1) (number_of s) event s)
  entry_enters o (events.Look some_wait) left makes fits = inside_enters o (events.Look some_wait) left tt makes fits
  entry_enters o (events.Fetch count) left makes fits = inside_enters o (events.Fetch count) left tt makes fits
  entry_enters o events.FetchReset left makes fits = inside_enters o events.FetchReset left tt makes fits
  entry_enters o (events.Scan scan rows) left makes fits = inside_enters o (events.Scan scan rows) left tt makes fits
  entry_enters o (events.LockOk rel mode) left makes fits = inside_enters o (events.LockOk rel mode) left tt makes fits
  entry_enters o (events.LockHeld rel mode holder held) left makes fits = inside_enters o (events.LockHeld rel mode holder held) left tt makes fits
  entry_enters o (events.Unlock rel mode) left makes fits = inside_enters o (events.Unlock rel mode) left tt makes fits
  entry_enters o (events.Write xid items) left makes fits = inside_enters o (events.Write xid items) left tt makes fits
  entry_enters o (events.ClashRow name rel) left makes fits = inside_enters o (events.ClashRow name rel) left tt makes fits
  entry_enters o (events.ClashRunning name xid) left makes fits = inside_enters o (events.ClashRunning name xid) left tt makes fits
  entry_enters o (events.Visible xid) left makes fits = shows_enters o left fits xid makes
  entry_enters o (events.Publish count) left makes fits = publish_enters o left fits count makes
  entry_enters o (events.Gone from) left makes fits = back_enters o left fits from makes
  entry_enters o (events.Release from) left makes fits = release_enters o left fits from makes
  entry_enters None events.Stop left makes fits = stop_enters left fits makes.plays
  entry_enters (Some command) events.Stop left makes fits = absurd makes.plays
  entry_enters o events.Start left makes fits = absurd (no_start (next_oid history) facts o s makes.plays)
  entry_enters None events.Fail left makes fits = absurd makes.plays
  entry_enters (Some command) events.Fail left makes fits = absurd makes.plays

-- an act that is done without an entry
act_fits : (facts : Facts) (command : Command) (s : Session) (act : Act) (further : List Row → Plan) (given : List Row) → s.left ≡ Do act further → RunsFit facts (Some command) s → RunsFit facts (Some command) (act_done act given (further given) s)
act_fits facts command s act further given left fits = record {
  transaction = subst (TransactionFits facts (Some command) (act_done act given (further given) s)) (sym going) (by_block s.blocks.block (subst (TransactionFits facts (Some command) s) going fits.transaction));
  first = fits.first;
  opens = fits.opens;
  levels = fits.levels;
  plain = fits.plain;
  blocked = fits.blocked;
  settled = λ is. absurd (unsettled (ap (λ p. is_settled (outcome_of p)) (fits.settled is) ∙ is));
  written = fits.written;
  visible = λ is. absurd (unsettled (fits.visible is).out);
  taken = λ from is. absurd (unsettled (fits.taken from is).out);
  accepts = fits.accepts;
  past = λ none. absurd (cc none);
  inside = fits.inside;
  since = fits.since;
  free = λ over. absurd (both_ways _ going over);
  over = λ over. absurd (both_ways _ going over);
  held = λ none. absurd (cc none);
}
  where
    unsettled : is_settled (outcome_of s.left) ≡ true → ⊥
    unsettled out = both_ways _ (ap (λ p. is_settled (outcome_of p)) left) out

    by_ended : (t : Bool) → s.ended ≡ t → t ≡ false
    by_ended false is = refl
    by_ended true is = absurd (unsettled (fits.over is))

    going : s.ended ≡ false
    going = by_ended s.ended refl

    by_block : (block : Block) → RunsBy facts (Some command) s block → RunsBy facts (Some command) (act_done act given (further given) s) block
    by_block Outside (inl none) = inl none
    by_block Outside (inr alone) = inr (record { command = alone.command; at = alone.at; begins = alone.begins; first = alone.first })
    by_block Inside runs = runs
    by_block Failed runs = runs

-- the parts of a finished command
record IsFinished (facts : Facts) (command : Command) (s : Session) : Type 0 where
  out : is_settled (outcome_of s.left) ≡ true
  none : is_none (end_left_in facts command (work_of s)) ≡ true
  first : owed_first_in facts command (work_of s) ≡ []

parts_of : (facts : Facts) (command : Command) (s : Session) → is_finished_in facts command (work_of s) ≡ true → IsFinished facts command s
parts_of facts command s is = record { out = front.0; none = front.1; first = (both_empty (owed_first_in facts command (work_of s)) (owed_after facts.due) owed).0 }
  where
    both : (is_settled (outcome_of s.left) && is_none (end_left_in facts command (work_of s)) ≡ true) × (is_empty (owed_in facts command (work_of s)) ≡ true)
    both = and_parts (is_settled (outcome_of s.left) && is_none (end_left_in facts command (work_of s))) (is_empty (owed_in facts command (work_of s))) is

    front : (is_settled (outcome_of s.left) ≡ true) × (is_none (end_left_in facts command (work_of s)) ≡ true)
    front = and_parts (is_settled (outcome_of s.left)) (is_none (end_left_in facts command (work_of s))) both.0

    owed : owed_first_in facts command (work_of s) ++ owed_after facts.due ≡ []
    owed = (both_empty (owed_first_in facts command (work_of s) ++ owed_after facts.due) (map OwesScan (scans_owed_in facts (work_of s))) (empty_list (owed_in facts command (work_of s)) both.1)).0

-- an end without an entry
none_ends : (facts : Facts) (end : End) → is_none (next_of_end facts end) ≡ true → end ≡ Ends
none_ends facts Ends is = refl
none_ends facts (Commits first) is = absurd (cc)
none_ends facts (TakesBack from) is = absurd (cc)

-- an end on its way isn't finished
still_ending : (facts : Facts) (command : Command) (s : Session) (event : Event) → IsFinished facts command s → s.ended ≡ false → next_of_end facts (end_in facts command (work_of s)) ≡ Some event → ⊥
still_ending facts command s event done going comes = both_ways _ (ap (λ e. is_none e) comes) (subst (λ t. is_none (elim t as (λ x. Option Event) [ true ↦ None | false ↦ next_of_end facts (end_in facts command (work_of s)) ]) ≡ true) going done.none)

-- a command that is finished is passed over
pass_fits : (facts : Facts) (command : Command) (next : Option Command) (s : Session) → is_finished_in facts command (work_of s) ≡ true → RunsFit facts (Some command) s → RunsFit facts next (next_session command next s)
pass_fits facts command next s finished fits = record {
  transaction = runs_next now.blocks.block passes_to;
  first = subst (λ n. first_at facts ≤ n) (sym counts) (omega (arith, fits.first));
  opens = levels.opens;
  levels = subst (λ n. LevelsRise 0 n now.blocks.levels) (sym counts) levels.rise;
  plain = levels.plain;
  blocked = refl;
  settled = λ is. refl;
  written = fits.written;
  visible = λ is. absurd (let c = fits.visible is in let one : c.command ≡ command = cc (c.at) in still_ending facts command s _ done c.going (ap (next_of_end facts) (subst (λ x. end_in facts x (work_of s) ≡ Commits (first_at facts)) one c.end)));
  taken = λ from is. absurd (let t = fits.taken from is in still_ending facts command s _ done t.going (ap (next_of_end facts) t.end));
  accepts = fits.accepts;
  past = λ none. ap (plan_first (blocks_after command s) (opens_after command s)) none;
  inside = inside_next (Some command) s command refl fits.settled fits.inside;
  since = since_next (first_at facts) s command fits.first fits.since;
  free = λ over. absurd (cc over);
  over = λ over. absurd (cc over);
  held = λ none going. refl;
}
  where
    now : Session
    now = next_session command next s

    done : IsFinished facts command s
    done = parts_of facts command s finished

    passes_to : RunsIn facts (blocks_after command s)
    passes_to = by_ended s.ended refl fits.transaction done.none
      where
        by_ended : (t : Bool) → s.ended ≡ t → TransactionFits facts (Some command) s t → is_none (elim t as (λ x. Option Event) [ true ↦ None | false ↦ next_of_end facts (end_in facts command (work_of s)) ]) ≡ true → RunsIn facts (blocks_after command s)
        by_ended true is runs over = runs
        by_ended false is runs over = next_silent facts (Some command) s command refl fits.blocked (record { opens = fits.opens; rise = fits.levels; plain = fits.plain }) (well_admitted (Some command) s command refl fits.settled) is done.out done.first runs (none_ends facts (end_in facts command (work_of s)) over)

    runs_next : (block : Block) → RunsAt facts now.blocks.levels block → RunsBy facts next now block
    runs_next Outside none = inl none
    runs_next Inside runs = runs
    runs_next Failed runs = runs

    counts : number_of now ≡ number_of s + 1
    counts = ap (λ n. n + 1) (length_push s.finished (finished_as s))

    levels : LevelsFit (number_of s + 1) (blocks_after command s)
    levels = levels_next s command (well_admitted (Some command) s command refl fits.settled) (record { opens = fits.opens; rise = fits.levels; plain = fits.plain })

-- and at its start none runs
start_fits : (history : List Entry) (b c : ℕ) (o : Option Command) → has_write_from 0 (facts_of history b).lists ≡ false → RunsFit (facts_by history b c events.Start (facts_of history b)) o (at_command no_block none_open [] [] (length history + 1) o)
start_fits history b c o bare = record {
  transaction = inl refl;
  first = omega arith;
  opens = refl;
  levels = omega arith;
  plain = tt;
  blocked = refl;
  settled = λ is. refl;
  written = λ is. absurd (both_ways _ bare is);
  visible = λ is. absurd (cc is);
  taken = λ from is. absurd (cc is);
  accepts = λ owes. absurd (cc owes);
  past = λ none. ap (plan_first no_block none_open) none;
  inside = refl;
  since = refl;
  free = λ over. absurd (cc over);
  over = λ over. absurd (cc over);
  held = λ none going. refl;
}

pub transactions_kept : (scenario : Scenario) → IsKept scenario (λ facts. has_write_from 0 facts.lists ≡ false) RunsFit
transactions_kept scenario = record {
  first = λ b. refl;
  starts = start_fits;
  enters = λ history b o s event left makes first fits. entry_enters scenario history b s o event left makes fits;
  acts = λ facts command s act rest given at free done fits. act_fits facts command s act rest given at fits;
  passes = pass_fits;
}

-- so it is after an allowed history
pub allowed_transaction : (scenario : Scenario) (history : List Entry) (b : ℕ) (s : Session) → AreSpelled scenario → IsAllowed scenario history → session_of scenario history b ≡ Some s → RunsFit (facts_of history b) (slice_get (commands_of scenario b) (length s.finished)) s
allowed_transaction scenario history b s spelled allowed is = subst (HoldsBy scenario (λ facts. has_write_from 0 facts.lists ≡ false) RunsFit (transactions_kept scenario) b (facts_of history b)) is
    (kept_along scenario (λ facts. has_write_from 0 facts.lists ≡ false) RunsFit (transactions_kept scenario) history spelled allowed b)
