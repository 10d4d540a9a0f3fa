-- The looks of a backend.
use Rattle.std.proofs.Common.{◌≡◌, ◌≢◌, ◌≤◌, ◌+◌, ◌*◌, ◌∙◌, ◌⊎◌, inl, inr, ◌&&◌, ◌||◌, ℕ, Bool, true, false, not, Option, Some, None, List, [], ◌∷◌, refl, sym, ap, subst, length, drop, is_none, is_some, arith, ◌++◌}
use Rattle.std.specs.Option.{option_map_or}
use Rattle.std.proofs.lemmas.Bool.{both_ways}
use Rattle.std.proofs.Math.Bool.{and-false, or-false, or-true}
use Rattle.event_kinds.specs.declared.entry.Event.TheVariants as events
use Rattle.txn_blocks.specs.Blocks.{Block, Outside, Inside, Failed, no_block, ends_block, refused_by}
use Rattle.history_model.specs.Drawn.{next_oid}
use Rattle.history_model.specs.Legal.{IsLegal}
use Rattle.history_model.specs.MayFollow.{MayFollow, AllowsLook}
use Rattle.history_model.specs.Log.{is_waiting}
use Rattle.history_model.specs.Transactions.{begun}
use Rattle.history_model.specs.Changing.{is_empty}
use Rattle.history_model.proofs.Waiting.{not_waited}
use Rattle.seg_calls.specs.Calls.{MayCall, Appends}
use Rattle.cacheless.specs.declared.progress.Due.{Due as DueNext}
use Rattle.cacheless.specs.declared.progress.Due.TheVariants as dues
use Rattle.cacheless.specs.Facts.{Facts, due_looked, facts_of}
use Rattle.cacheless.specs.Holds.{HasEntered, with_own}
use Rattle.cacheless.specs.May.{is_missing, is_next_of_act}
use Rattle.cacheless.specs.Work.{work_of}
use Rattle.cacheless.specs.OnCourse.{AllOnCourse}
use Rattle.cacheless.specs.Owed.{OwesLook, owed_after, begins_in, started_in, owed_in}
use Rattle.cacheless.specs.Plays.{MayPlayIn}
use Rattle.cacheless.specs.Schedule.{LooksTruly}
use Rattle.cacheless.specs.Session.{Session, number_of, is_settled, outcome_of, Badly}
use Rattle.cacheless.specs.Sessions.{entered}
use Rattle.cacheless.specs.State.{kept_at, owed_first, one_if, is_kept, is_absent}
use Rattle.backend_core.specs.Types.{Command, Scenario, Entry, Event, Progress, Backend, Frame, Purpose, Opening}
use Rattle.backend_core.specs.Agrees.{IsPlayed, command_at, AgreesNow, AwaitsEntry, IsReady}
use Rattle.backend_core.specs.Fits.{looks_due, LooksFit, Fits, IsLookedFor, Lacks, Unfound, Said, FramesFit, IsUnheld, looked_in, looked_on_top, told_owed, lacks_scan, is_lost, is_look, is_gone_due}
use Rattle.backend_core.specs.Looks.{next_of_look, look_of, LooksWell}
use Rattle.backend_core.specs.Noted.{ComesAs}
use Rattle.backend_core.specs.declared.look_for.LookFor.{LookFor}
use Rattle.backend_core.specs.declared.look_for.LookFor.TheVariants as looks
use Rattle.backend_core.specs.Steps.{OwesLookNow, IsLookNext, Enters, IsScanNext, FindsNone, Looks, Says, IsAcceptNext, IsInTurn, IsNextOf}
use Rattle.backend_core.specs.Words.{has_error, is_looked_for, is_unfound, scan_on_top, frames_looked}
use Rattle.backend_core.proofs.Entries.WhereLeft.{entered_here}
use Rattle.backend_core.proofs.Choosing.Running.{entry_runs}
use Rattle.backend_core.proofs.Choosing.TakenBack.{taken_plain}
use Rattle.backend_core.proofs.Choosing.Chosen.{Busy, Due, Begins, Scans, StartsNow, starts_now, may_call, started_most, started_by, started_now, started_still, look_may, Acts, Sought, standing}
use Rattle.backend_core.proofs.Fitting.Entered.{fits_at}
use Rattle.backend_core.proofs.Entries.Inside.{inside_fits}
use Rattle.backend_core.proofs.Own.{waiting, unlost, plays_next, own_agrees, next_makes}
use Rattle.backend_core.proofs.Fitting.Sought.{takes_cleared, unfound_facts, sought_looked, sought_rebuilt, next_act, well_most, unheld_lacking}
use Rattle.ddl_effect.specs.Stages.{plan_at}
use Rattle.ddl_effect.specs.Plans.{Plan, left_rests_on, told_rests_on, Done, Do, Absent, Open, Lookup, Search, Read, Lock, Write}
use Rattle.backend_core.proofs.Fitting.Rebuilding.{same_fits, owed_bare, look_fit, none_lacks}
use Rattle.backend_core.proofs.Stacking.Looked.{in_push, top_looked, top_most, told_push}
use Rattle.backend_core.proofs.Stacking.Stacks.{IsSplit, split, top_push, on_top_push}
use Rattle.backend_core.specs.Frames.{top, on_top, with_look, IsStack}
use Rattle.std.specs.List.{find, cons_option}
use Rattle.base_types.specs.Scans.{build_scans}
use Rattle.cacheless.proofs.FactsAfter.{facts_by}
use Rattle.cacheless.proofs.Plans.SilentActs.{empty_list}
use Rattle.cacheless.proofs.Same.{owes_nothing_is}

-- where a look is owed something is
look_busy : (due : DueNext) (p : Progress) (next : OwesLookNow p) → Busy due p next.command
look_busy due p next = by_side next.owes
  where
    by_side : (p.due ≡ dues.Look) ⊎ ((owed_after p.due ≡ []) × (owed_first p next.command ≢ [])) → Busy due p next.command
    by_side (inl looks) = Due (ap (λ d. is_empty (owed_after d)) looks)
    by_side (inr (free, owes)) = Begins owes

-- a look that says what is so is allowed
pub look_allowed : (seen : List Entry) (b : ℕ) (some_wait : Bool) → IsLegal seen → is_waiting seen b ≡ some_wait → AllowsLook seen b some_wait
look_allowed seen b true legal is = is
look_allowed seen b false legal is = not_waited seen b legal is

look_true : (seen : List Entry) (b : ℕ) (some_wait : Bool) → is_waiting seen b ≡ some_wait → LooksTruly seen b (events.Look some_wait)
look_true seen b true is = tt
look_true seen b false is = is

-- a look asks for a fetch, or for nothing
looked_due : (some_wait : Bool) → looks_due (owed_after (due_looked some_wait)) ≡ 0
looked_due true = refl
looked_due false = refl

-- where the running command begins a transaction no block is open
begins_outside : (command : Command) (s : Session) → begins_in command (work_of s) ≡ true → s.blocks.block ≡ Outside
begins_outside command s is = by_block s.blocks.block is
  where
    by_block : (block : Block) → elim block as (λ x. Bool) [ Outside ↦ not (ends_block command) && not s.ended && is_none (refused_by no_block command) | other ↦ false ] ≡ true → block ≡ Outside
    by_block Outside is = refl
    by_block Inside is = absurd (cc)
    by_block Failed is = absurd (cc)

-- nor is its release made
begins_going : (command : Command) (s : Session) → begins_in command (work_of s) ≡ true → s.ended ≡ false
begins_going command s is = by_ended s.ended refl
  where
    by_ended : (t : Bool) → s.ended ≡ t → t ≡ false
    by_ended false ended = refl
    by_ended true ended = absurd (both_ways _ (ap (λ b. elim b as (λ x. Bool) [ Outside ↦ not (ends_block command) && not s.ended && is_none (refused_by no_block command) | block ↦ false ]) (begins_outside command s is)
        ∙ ap (λ t. not (ends_block command) && not t && is_none (refused_by no_block command)) ended ∙ ap (λ t. t && is_none (refused_by no_block command)) (and-false (not (ends_block command)))) is)

-- and has taken nothing back
looked_stands : (some_wait : Bool) → is_gone_due (due_looked some_wait) ≡ false
looked_stands true = refl
looked_stands false = refl

looked_last : (some_wait : Bool) → is_look (due_looked some_wait) ≡ true
looked_last true = refl
looked_last false = refl

-- the facts after a look of a command of this number
abbrev looked_facts : Facts → Session → Bool → Facts
looked_facts facts s some_wait = record facts { due = due_looked some_wait; running = Some (begun (number_of s) facts.running) }

-- a look that the choice makes: its transaction runs, or begins with it, and it is counted once at most; where it isn't, messages had come since a lookup began
pub record LookCounts (facts : Facts) (s : Session) (command : Command) (looked : Bool) (frames : List Frame) (told looked_now : Bool) (frames_now : List Frame) (told_now : Bool) : Type 0 where
  pub owes : (owed_after facts.due ≡ []) ⊎ (owed_after facts.due ≡ OwesLook ∷ [])
  pub most : looks_due (owed_after facts.due) + (started_by (number_of s) (Some (begun (number_of s) facts.running)) + one_if looked_now + looked_in frames_now) ≤ started_in (number_of s) facts + one_if looked + looked_in frames + 1
  pub once : started_in (number_of s) facts + one_if s.ended ≤ 1 → started_by (number_of s) (Some (begun (number_of s) facts.running)) + one_if s.ended ≤ 1
  pub least : started_in (number_of s) facts + looked_on_top looked frames + 1 + told_owed told_now frames_now ≤ looks_due (owed_after facts.due) + (started_by (number_of s) (Some (begun (number_of s) facts.running)) + looked_on_top looked_now frames_now) + told_owed told frames

-- in an accept
counts_due : (facts : Facts) (s : Session) (command : Command) (looked : Bool) (frames : List Frame) (told : Bool) → owed_after facts.due ≡ OwesLook ∷ [] → is_some facts.running ≡ true → LookCounts facts s command looked frames told looked frames told
counts_due facts s command looked frames told owed runs = record { owes = inr owed; once = λ one. omega (arith, one, started_still (number_of s) (number_of s) facts.running runs); most = omega (arith, ap looks_due owed, started_still (number_of s) (number_of s) facts.running runs); least = omega (arith, ap looks_due owed, started_still (number_of s) (number_of s) facts.running runs) }

-- at the transaction's start
counts_start : (facts : Facts) (s : Session) (command : Command) (looked : Bool) (frames : List Frame) (told : Bool) → owed_after facts.due ≡ [] → begins_in command (work_of s) ≡ true → facts.running ≡ None → LookCounts facts s command looked frames told looked frames told
counts_start facts s command looked frames told owed starts none = record { owes = inl owed; once = λ one. omega (arith, started_now (number_of s) facts.running none, ap one_if (begins_going command s starts)); most = omega (arith, ap looks_due owed, started_now (number_of s) facts.running none, none_before); least = omega (arith, ap looks_due owed, started_now (number_of s) facts.running none, none_before) }
  where
    none_before : started_in (number_of s) facts ≡ 0
    none_before = ap (λ o. started_by (number_of s) o) none

-- before a scan of the next act, where nothing is rebuilt
counts_act : (facts : Facts) (s : Session) (command : Command) (looked told : Bool) → owed_after facts.due ≡ [] → is_some facts.running ≡ true → looked ≡ false → LookCounts facts s command looked [] told true [] told
counts_act facts s command looked told owed runs unlooked = record {
  owes = inl owed;
  once = λ one. omega (arith, one, started_still (number_of s) (number_of s) facts.running runs);
  most = omega (arith, ap looks_due owed, started_still (number_of s) (number_of s) facts.running runs, ap one_if unlooked);
  least = omega (arith, ap looks_due owed, started_still (number_of s) (number_of s) facts.running runs, ap one_if unlooked);
}

-- before one of the rebuild on top
counts_rebuild : (facts : Facts) (s : Session) (command : Command) (looked told : Bool) (under : List Frame) (f : Frame) → owed_after facts.due ≡ [] → is_some facts.running ≡ true → f.looked ≡ false → LookCounts facts s command looked (under ++ f ∷ []) told looked (under ++ with_look f ∷ []) told
counts_rebuild facts s command looked told under f owed runs unlooked = record {
  owes = inl owed;
  once = λ one. omega (arith, one, started_still (number_of s) (number_of s) facts.running runs);
  most = omega (arith, ap looks_due owed, started_still (number_of s) (number_of s) facts.running runs, in_push under f, in_push under (with_look f), ap one_if unlooked);
  least = omega (arith, ap looks_due owed, started_still (number_of s) (number_of s) facts.running runs, top_looked looked under f, top_looked looked under (with_look f), told_push told under f, told_push told under (with_look f), ap one_if unlooked);
}

-- a lookup that looks again has done with the messages that came
told_less : (looked told : Bool) → (looked ≡ false) ⊎ (told ≡ true) → one_if looked + one_if (told && not looked) ≤ one_if told
told_less true told (inl none) = absurd (cc none)
told_less true told (inr came) = omega (arith, ap one_if (and-false told), ap one_if came)
told_less false true side = omega arith
told_less false false side = omega arith

-- before a lookup says that there is no relation
counts_accept : (facts : Facts) (s : Session) (command : Command) (looked told : Bool) → owed_after facts.due ≡ [] → is_some facts.running ≡ true → (looked ≡ false) ⊎ (told ≡ true) → LookCounts facts s command looked [] told true [] (told && not looked)
counts_accept facts s command looked told owed runs side = record {
  owes = inl owed;
  once = λ one. omega (arith, one, started_still (number_of s) (number_of s) facts.running runs);
  most = omega (arith, ap looks_due owed, started_still (number_of s) (number_of s) facts.running runs);
  least = omega (arith, ap looks_due owed, started_still (number_of s) (number_of s) facts.running runs, told_less looked told side);
}

-- all that a look rests on
module _ (scenario : Scenario) (old : List Entry) (was : Backend) (waits : AwaitsEntry scenario old was) (courses : AllOnCourse scenario old) (command : Command) (at : command_at was ≡ Some command) (some_wait : Bool) where
  abbrev facts : Facts
  facts = facts_of old was.progress.id

  abbrev s : Session
  s = waiting waits

  abbrev event : Event
  event = events.Look some_wait

  abbrev now : Session
  now = entered (facts_of (with_own old was.progress event) was.progress.id) (drop was.progress.finished was.progress.commands) (length old + 1) (was.progress.finished + 1) event s

  later_is : facts_by old was.progress.id (was.progress.finished + 1) event facts ≡ looked_facts facts s some_wait
  later_is = λ i. record facts { due = due_looked some_wait; running = Some (begun (sym waits.rests.holds.count i + 1) facts.running) }

  module _ (looked : Bool) (frames : List Frame) (told : Bool) (counts : LookCounts facts s command was.looked was.frames was.told looked frames told) where
    before : LooksFit facts s was.looked was.frames was.told
    before = waits.fits.looks

    -- the look stays within its bound
    within : s.tally.looks + 1 ≤ s.tally.scans + s.tally.grants + 2 * s.tally.fetches + 3
    within = omega (arith, before.within, counts.least, started_most (number_of s) (looked_facts facts s some_wait), top_most looked frames, well_most s.left, before.once)

    -- and is counted
    looks_more : LooksFit (looked_facts facts s some_wait) now looked frames told
    looks_more = record { enough = omega (arith, before.enough, counts.most, looked_due some_wait); within = omega (arith, before.within, counts.least, looked_due some_wait); once = counts.once before.once }

    abbrev MadeFor : Type 0
    MadeFor = looked ≡ true → IsLookedFor (looked_facts facts s some_wait) frames s.taken s.left × IsUnheld s.opened s.left

    -- the rebuilds see to what they saw to
    look_rebuilds : Busy (facts_of old was.progress.id).due was.progress command → FramesFit facts (command_at was) s frames → FramesFit (looked_facts facts s some_wait) (Some command) now frames
    look_rebuilds busy rebuilds = subst (λ o. FramesFit (looked_facts facts s some_wait) o now frames) at
        (same_fits facts (looked_facts facts s some_wait) (command_at was) s now frames refl refl refl refl (looked_stands some_wait ∙ sym (standing scenario old was waits command at busy)) rebuilds)

    look_fits : FramesFit (looked_facts facts s some_wait) (Some command) now frames → MadeFor → Fits (facts_by old was.progress.id (was.progress.finished + 1) event facts) (command_at was) now looked frames told
    look_fits rebuilds sought = subst (λ f. Fits f (command_at was) now looked frames told) (sym later_is)
        (inside_fits scenario old was waits courses command at (looked_facts facts s some_wait) now looked frames told (record { blocks = refl; opens = refl; held = inl refl; finished = refl; blocked = refl; ended = refl; left = λ is there. refl })
        looks_more (subst (λ o. FramesFit (looked_facts facts s some_wait) o now frames) (sym at) rebuilds) sought (takes_cleared _ (number_of s) s.locks s.taken s.left waits.fits.takes))

    -- so after it the backend agrees
    pub look_agrees : (p : Progress) → IsPlayed scenario old → MayFollow old (look_of was some_wait) → Busy (facts_of old was.progress.id).due was.progress command → FramesFit facts (command_at was) s frames → MadeFor → HasEntered scenario old was.progress event waits.rests p → p.answer ≡ None
        → LooksWell scenario old was some_wait (record was { progress = p; looked = looked; frames = frames; told = told })
    look_agrees p played follows busy rebuilds sought goes none = record {
      next = plays_next scenario old was event waits plays;
      agrees = own_agrees scenario old was (record was { progress = p; looked = looked; frames = frames; told = told }) event waits played courses plays follows goes
          (fits_at scenario old was event waits p goes looked frames told (look_fits (look_rebuilds busy rebuilds) sought))
          refl refl refl (λ stop. cc stop) none;
      goes = entered_here scenario old (old ++ look_of was some_wait ∷ []) was.progress p event waits.rests goes refl;
      id = goes.moves.id;
      number = goes.moves.finished;
    }
      where
        plays : MayPlayIn (next_oid old) facts (command_at was) s event
        plays = subst (λ o. MayPlayIn (next_oid old) facts o s event) (sym at) (look_may facts s counts.owes within)

-- the look that is owed
pub look_well : (scenario : Scenario) (old : List Entry) (was : Backend) (p : Progress) (some_wait : Bool) (waits : AwaitsEntry scenario old was) → IsPlayed scenario old → AllOnCourse scenario old → OwesLookNow was.progress → MayFollow old (look_of was some_wait)
    → HasEntered scenario old was.progress (events.Look some_wait) waits.rests p → p.answer ≡ None
    → LooksWell scenario old was some_wait (record was { progress = p })
look_well scenario old was p some_wait waits played courses next follows goes none =
    look_agrees scenario old was waits courses next.command next.at some_wait was.looked was.frames was.told (by_side next.owes) p played follows (look_busy facts.due was.progress next) waits.fits.rebuilds
    (λ made. (sought_looked facts (looked_facts facts (waiting waits) some_wait) was.frames (waiting waits).taken (waiting waits).left refl (looked_last some_wait) (waits.fits.sought made), waits.fits.unheld made)) goes none
  where
    facts : Facts
    facts = facts_of old was.progress.id

    by_side : (was.progress.due ≡ dues.Look) ⊎ ((owed_after was.progress.due ≡ []) × (owed_first was.progress next.command ≢ [])) → LookCounts facts (waiting waits) next.command was.looked was.frames was.told was.looked was.frames was.told
    by_side (inl due) = let owed : owed_after facts.due ≡ OwesLook ∷ [] = (ap (λ f. owed_after f.due) waits.rests.holds.facts) ∙ ap owed_after due in
        counts_due facts (waiting waits) next.command was.looked was.frames was.told owed (waits.runs.accepts (ap is_empty owed))
    by_side (inr (due, owes)) = let starts : StartsNow was.progress next.command = starts_now was.progress next.command owes in
        counts_start facts (waiting waits) next.command was.looked was.frames was.told ((ap (λ f. owed_after f.due) waits.rests.holds.facts) ∙ due) starts.begins ((ap (λ f. f.running) waits.rests.holds.facts) ∙ starts.none)

-- where a scan comes next nothing was taken back
scan_stands : (scenario : Scenario) (seen : List Entry) (s : Backend) (scan : Purpose) (rebuilds : Bool) (waits : AwaitsEntry scenario seen s) → IsScanNext s scan rebuilds → is_gone_due (facts_of seen s.progress.id).due ≡ false
scan_stands scenario seen s scan rebuilds waits next = by_due (facts_of seen s.progress.id).due refl
  where
    facts : Facts
    facts = facts_of seen s.progress.id

    rests_on : (p : Plan) → plan_at s.progress.opens s.progress.exec ≡ p → is_settled (outcome_of p) ≡ true → left_rests_on p ≡ [] → is_next_of_act scan (kept_at s.progress) p ≡ false
    rests_on (Done told) at out plain = by_rests (told_rests_on told) plain
      where
        by_rests : (o : Option Purpose) → cons_option o [] ≡ [] → option_map_or (is_missing scan (kept_at s.progress)) o false ≡ false
        by_rests None none = refl
        by_rests (Some one) none = absurd (cc none)
    rests_on (Do act rest) at out plain = absurd (cc out)
    rests_on p at out plain = refl

    none_gone : (t : Bool) (from : ℕ) → facts.due ≡ dues.Gone from → left_rests_on (waiting waits).left ≡ [] → IsInTurn t s scan → ⊥
    none_gone true from is plain turn = let none : s.frames ≡ [] = waits.fits.rebuilds.over (λ i. not (is_gone_due (is i)) && not (is_lost (waiting waits)) && not (has_error (plan_at s.progress.opens s.progress.exec))) in
        let no : None ≡ Some scan = sym (ap (λ l. elim (top l) as (λ x. Option Purpose) [ Some f ↦ find (λ d. not (is_kept (kept_at s.progress) d)) (build_scans f.opening.kind f.opening.rel) | None ↦ None ]) none) ∙ turn in cc no
    none_gone false from is plain turn = both_ways _ (rests_on (plan_at s.progress.opens s.progress.exec) refl (waits.runs.taken from is).out plain) turn.1

    by_due : (due : DueNext) → facts.due ≡ due → is_gone_due due ≡ false
    by_due (dues.Gone from) is = absurd (none_gone rebuilds from is (taken_plain scenario seen s waits next.command next.free.at from is) next.turn)
    by_due due is = refl

pub scan_busy : (scenario : Scenario) (seen : List Entry) (s : Backend) (scan : Purpose) (rebuilds : Bool) (waits : AwaitsEntry scenario seen s) (next : IsScanNext s scan rebuilds) → Busy (facts_of seen s.progress.id).due s.progress next.command
scan_busy scenario seen s scan rebuilds waits next = Scans next.lacks (scan_stands scenario seen s scan rebuilds waits next)

-- the scan is that of the rebuild on top
pub record IsOnTop (s : Backend) (scan : Purpose) : Type 0 where
  pub parts : IsSplit s.frames
  pub first : find (λ d. not (is_kept (kept_at s.progress) d)) (build_scans parts.one.opening.kind parts.one.opening.rel) ≡ Some scan
  pub looked : is_looked_for true s ≡ parts.one.looked

pub on_top_of : (s : Backend) (scan : Purpose) → IsInTurn true s scan → IsOnTop s scan
on_top_of s scan turn = by_split (split s.frames)
  where
    by_split : (s.frames ≡ []) ⊎ IsSplit s.frames → IsOnTop s scan
    by_split (inl none) = absurd (let no_scan : None ≡ Some scan = sym (ap (λ l. scan_on_top (record s { frames = l })) none) ∙ turn in cc no_scan)
    by_split (inr parts) = let on = ap top parts.is ∙ top_push parts.under parts.one in record {
      parts = parts;
      first = sym (ap (λ o. elim o as (λ x. Option Purpose) [ Some f ↦ find (λ d. not (is_kept (kept_at s.progress) d)) (build_scans f.opening.kind f.opening.rel) | None ↦ None ]) on) ∙ turn;
      looked = ap (λ o. option_map_or (λ (f : Frame). f.looked) o false) on;
    }

-- so something is rebuilt
pub on_some : (s : Backend) (scan : Purpose) → IsOnTop s scan → s.frames ≡ [] → ⊥
on_some s scan on none = let no_top : None ≡ Some on.parts.one = sym (ap top none) ∙ ap top on.parts.is ∙ top_push on.parts.under on.parts.one in cc no_top

-- a descriptor that lacks a scan isn't held, where nothing is rebuilt
pub opens_unheld : (scenario : Scenario) (seen : List Entry) (s : Backend) (waits : AwaitsEntry scenario seen s) → AllOnCourse scenario seen → (command : Command) → command_at s ≡ Some command → Busy (facts_of seen s.progress.id).due s.progress command → s.frames ≡ []
    → lacks_scan (facts_of seen s.progress.id) (waiting waits).left ≡ true → IsUnheld (waiting waits).opened (waiting waits).left
opens_unheld scenario seen s waits courses command at busy bare lacking = by_plan (waiting waits).left refl lacking
  where
    facts : Facts
    facts = facts_of seen s.progress.id

    by_plan : (p : Plan) → (waiting waits).left ≡ p → lacks_scan facts p ≡ true → IsUnheld (waiting waits).opened p
    by_plan (Do (Open rel kind) rest) is lacks_it = unheld_lacking (is_kept facts.kept) (waiting waits).opened rel kind
        (none_lacks (is_kept facts.kept) (waiting waits).opened (subst (IsStack (is_kept facts.kept) (waiting waits).opened) bare (waits.fits.rebuilds.stack (λ i. not (standing scenario seen s waits command at busy i) && not (unlost scenario seen s waits courses command at i) && not (has_error (is i)))))) lacks_it
    by_plan (Do (Lookup name mode) rest) is lacks_it = tt
    by_plan (Do (Search scan) rest) is lacks_it = tt
    by_plan (Do (Read scan) rest) is lacks_it = tt
    by_plan (Do (Lock rel mode) rest) is lacks_it = tt
    by_plan (Do (Write draft) rest) is lacks_it = tt
    by_plan p is lacks_it = tt

-- the look before a scan
pub look_before_well : (scenario : Scenario) (old : List Entry) (was : Backend) (p : Progress) (some_wait rebuilds : Bool) (waits : AwaitsEntry scenario old was) → IsPlayed scenario old → AllOnCourse scenario old → IsLookNext rebuilds was → MayFollow old (look_of was some_wait)
    → HasEntered scenario old was.progress (events.Look some_wait) waits.rests p → p.answer ≡ None
    → LooksWell scenario old was some_wait (record was { progress = p; looked = was.looked || not rebuilds; frames = frames_looked rebuilds was.frames })
look_before_well scenario old was p some_wait rebuilds waits played courses next follows goes none = by_kind rebuilds next.next next.unlooked
  where
    facts : Facts
    facts = facts_of old was.progress.id

    later : Facts
    later = looked_facts facts (waiting waits) some_wait

    owed : owed_after facts.due ≡ []
    owed = (ap (λ f. owed_after f.due) waits.rests.holds.facts) ∙ next.next.free.due

    runs : is_some facts.running ≡ true
    runs = entry_runs scenario old was waits courses next.next.command next.next.free.at next.next.free.first

    -- what a look of the act was made for before stays
    stays : IsScanNext was next.scan true → (was.looked || false) ≡ true → IsLookedFor later (on_top with_look was.frames) (waiting waits).taken (waiting waits).left × IsUnheld (waiting waits).opened (waiting waits).left
    stays scan made = let before = sym (or-false was.looked) ∙ made in (sought_rebuilt facts later was.frames (on_top with_look was.frames) (waiting waits).taken (waiting waits).left refl (on_some was next.scan (on_top_of was next.scan scan.turn)) (waits.fits.sought before), waits.fits.unheld before)

    of_rebuild : IsScanNext was next.scan true → is_looked_for true was ≡ false → LooksWell scenario old was some_wait (record was { progress = p; looked = was.looked || false; frames = on_top with_look was.frames })
    of_rebuild scan unlooked = look_agrees scenario old was waits courses next.next.command next.next.free.at some_wait (was.looked || false) (on_top with_look was.frames) was.told
        (subst (λ l. LookCounts facts (waiting waits) next.next.command was.looked was.frames was.told l (on_top with_look was.frames) was.told) (sym (or-false was.looked))
        (subst (λ l. LookCounts facts (waiting waits) next.next.command was.looked l was.told was.looked (on_top with_look l) was.told) (sym on.parts.is)
        (subst (λ l. LookCounts facts (waiting waits) next.next.command was.looked (on.parts.under ++ on.parts.one ∷ []) was.told was.looked l was.told) (sym (on_top_push with_look on.parts.under on.parts.one))
        (counts_rebuild facts (waiting waits) next.next.command was.looked was.told on.parts.under on.parts.one owed runs (sym on.looked ∙ unlooked)))))
        p played follows (scan_busy scenario old was next.scan rebuilds waits next.next) (look_fit facts (command_at was) (waiting waits) was.frames waits.fits.rebuilds) (stays scan) goes none
      where
        on : IsOnTop was next.scan
        on = on_top_of was next.scan scan.turn

    of_act : IsScanNext was next.scan false → was.looked ≡ false → LooksWell scenario old was some_wait (record was { progress = p; looked = was.looked || true; frames = was.frames })
    of_act scan unlooked = look_agrees scenario old was waits courses next.next.command next.next.free.at some_wait (was.looked || true) was.frames was.told
        (subst (λ l. LookCounts facts (waiting waits) next.next.command was.looked was.frames was.told l was.frames was.told) (sym (or-true was.looked))
        (subst (λ l. LookCounts facts (waiting waits) next.next.command was.looked l was.told true l was.told) (sym scan.turn.0)
        (counts_act facts (waiting waits) next.next.command was.looked was.told owed runs unlooked)))
        p played follows (scan_busy scenario old was next.scan rebuilds waits next.next) waits.fits.rebuilds
        (λ made. (Lacks lacking, opens_unheld scenario old was waits courses next.next.command next.next.free.at (scan_busy scenario old was next.scan rebuilds waits next.next) scan.turn.0 lacking)) goes none
      where
        lacking : lacks_scan facts (plan_at was.progress.opens was.progress.exec) ≡ true
        lacking = next_act facts was.progress next.scan waits.rests.holds.facts (plan_at was.progress.opens was.progress.exec) scan.turn.1

    by_kind : (t : Bool) → IsScanNext was next.scan t → is_looked_for t was ≡ false → LooksWell scenario old was some_wait (record was { progress = p; looked = was.looked || not t; frames = frames_looked t was.frames })
    by_kind true scan unlooked = of_rebuild scan unlooked
    by_kind false scan unlooked = of_act scan unlooked

-- where a lookup has found no relation, something is to be done still
find_busy : (due : DueNext) (p : Progress) (command : Command) → FindsNone p command → Busy due p command
find_busy due p command (Looks unfound owes) = Acts (by_plan (plan_at p.opens p.exec) unfound)
  where
    by_plan : (q : Plan) → is_unfound p q ≡ true → is_settled (outcome_of q) ≡ false
    by_plan (Do act rest) is = refl
    by_plan q is = absurd (cc is)
find_busy due p command (Says absent quiet) = Sought absent quiet

-- the look of a lookup that has found no relation
pub accept_well : (scenario : Scenario) (old : List Entry) (was : Backend) (p : Progress) (some_wait told : Bool) (waits : AwaitsEntry scenario old was) → IsPlayed scenario old → AllOnCourse scenario old → IsAcceptNext was → MayFollow old (look_of was some_wait) → told ≡ (was.told && not was.looked)
    → HasEntered scenario old was.progress (events.Look some_wait) waits.rests p → p.answer ≡ None
    → LooksWell scenario old was some_wait (record was { progress = p; looked = true; told = told })
accept_well scenario old was p some_wait told waits played courses next follows told_is goes none =
    look_agrees scenario old was waits courses next.command next.free.at some_wait true was.frames told
    (subst (LookCounts facts (waiting waits) next.command was.looked was.frames was.told true was.frames) (sym told_is)
    (subst (λ l. LookCounts facts (waiting waits) next.command was.looked l was.told true l (was.told && not was.looked)) (sym (bare next.finds))
    (counts_accept facts (waiting waits) next.command was.looked was.told ((ap (λ f. owed_after f.due) waits.rests.holds.facts) ∙ next.free.due) runs next.unlooked)))
    p played follows (find_busy (facts_of old was.progress.id).due was.progress next.command next.finds) waits.fits.rebuilds (λ made. by_side next.finds) goes none
  where
    facts : Facts
    facts = facts_of old was.progress.id

    later : Facts
    later = looked_facts facts (waiting waits) some_wait

    absent_badly : (q : Plan) → is_absent q ≡ true → outcome_of q ≡ Badly
    absent_badly (Absent name) absent = refl
    absent_badly q absent = absurd (cc absent)

    -- nothing is rebuilt
    bare : FindsNone was.progress next.command → was.frames ≡ []
    bare (Looks unfound owes) = owed_bare facts (command_at was) (waiting waits) was.frames next.command waits.fits.rebuilds
        (empty_list (owed_in facts next.command (work_of (waiting waits))) (owes_nothing_is facts next.command was.progress waits.rests.holds.rest waits.rests.holds.facts ∙ owes))
    bare (Says absent quiet) = waits.fits.rebuilds.badly (absent_badly (plan_at was.progress.opens was.progress.exec) absent)

    -- and nothing is opened next
    lookup_unheld : (held : List Opening) (q : Plan) → is_unfound was.progress q ≡ true → IsUnheld held q
    lookup_unheld held (Do (Open rel kind) rest) is = absurd (cc is)
    lookup_unheld held (Do (Lookup name mode) rest) is = tt
    lookup_unheld held (Do (Search scan) rest) is = tt
    lookup_unheld held (Do (Read scan) rest) is = tt
    lookup_unheld held (Do (Lock rel mode) rest) is = tt
    lookup_unheld held (Do (Write draft) rest) is = tt
    lookup_unheld held q is = tt

    absent_unheld : (held : List Opening) (q : Plan) → is_absent q ≡ true → IsUnheld held q
    absent_unheld held (Absent name) absent = tt
    absent_unheld held q absent = absurd (cc absent)

    by_side : FindsNone was.progress next.command → IsLookedFor later was.frames (waiting waits).taken (waiting waits).left × IsUnheld (waiting waits).opened (waiting waits).left
    by_side (Looks unfound owes) = (Unfound (unfound_facts facts was.progress (plan_at was.progress.opens was.progress.exec) waits.rests.holds.facts unfound) (looked_last some_wait) (bare (Looks unfound owes)), lookup_unheld was.progress.opened (plan_at was.progress.opens was.progress.exec) unfound)
    by_side (Says absent quiet) = (Said absent, absent_unheld was.progress.opened (plan_at was.progress.opens was.progress.exec) absent)

    runs : is_some facts.running ≡ true
    runs = entry_runs scenario old was waits courses next.command next.free.at next.free.first

-- each look comes as one
pub look_comes : (refusal : Option Event) (look : LookFor) (some_wait : Bool) → ComesAs refusal (next_of_look look) (events.Look some_wait)
look_comes refusal looks.Accept some_wait = tt
look_comes refusal (looks.Scan rebuilds) some_wait = tt
look_comes refusal looks.Absent some_wait = tt

-- a look that comes next may be called for, where the history allows it
pub looks_call : (scenario : Scenario) (seen : List Entry) (s : Backend) (look : LookFor) (some_wait : Bool) → AwaitsEntry scenario seen s → IsNextOf s (next_of_look look) → AllowsLook seen s.progress.id some_wait → MayCall scenario seen (look_of s some_wait)
looks_call scenario seen s looks.Accept some_wait waits next allows = may_call scenario seen s waits next.command next.at (events.Look some_wait) (look_busy (facts_of seen s.progress.id).due s.progress next) refl allows
looks_call scenario seen s (looks.Scan rebuilds) some_wait waits next allows = may_call scenario seen s waits next.next.command next.next.free.at (events.Look some_wait) (scan_busy scenario seen s next.scan rebuilds waits next.next) refl allows
looks_call scenario seen s looks.Absent some_wait waits next allows = may_call scenario seen s waits next.command next.free.at (events.Look some_wait) (find_busy (facts_of seen s.progress.id).due s.progress next.command next.finds) refl allows

-- where a segment has made it, it is an entry of the backend
pub looks_enter : (scenario : Scenario) (old new : List Entry) (had has : ℕ → ℕ) (was now : Backend) (some_wait : Bool) → IsReady scenario old was → some_wait ≡ is_waiting old was.progress.id → LooksWell scenario old was some_wait now → Appends old new had has (look_of was some_wait) → Enters scenario old new had has was now
looks_enter scenario old new had has was now some_wait ready is well appends = record {
  makes = next_makes scenario old new had has was (events.Look some_wait) ready.played ready.course well.next (look_true old was.progress.id some_wait (sym is)) tt appends;
  id = well.id;
  agrees = subst (λ h. AgreesNow scenario h now) (sym appends.entries) well.agrees;
}
