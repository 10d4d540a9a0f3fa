-- The entries of a command's end: before each the command has its answer, and after taking back its end isn't whole.
use Rattle.std.proofs.Common.{◌≡◌, ◌∙◌, ◌&&◌, ◌||◌, ◌⊎◌, inl, inr, ℕ, Bool, true, false, not, Option, Some, None, List, [], ◌∷◌, refl, sym, ap, subst, length, is_none, zero, suc}
use Rattle.std.specs.Option.{option_map_or}
use Rattle.std.proofs.Math.Bool.{and-false, or-true}
use Rattle.base_types.specs.declared.command.Command.TheVariants as commands
use Rattle.event_kinds.specs.declared.entry.Event.TheVariants as events
use Rattle.inval_messages.specs.Lists.{has_write_from}
use Rattle.txn_blocks.specs.Blocks.{Block, Outside, Inside, Failed, no_block, ends_block, ends_failure, refused_by}
use Rattle.ddl_effect.specs.Commands.{plan_of}
use Rattle.ddl_effect.specs.Plans.{Done}
use Rattle.ddl_effect.specs.Stages.{plan_at, told_of}
use Rattle.ddl_effect.specs.declared.told.Told.{Told}
use Rattle.ddl_effect.specs.declared.told.Told.TheVariants as tells
use Rattle.history_model.specs.Sent.{unsent_in}
use Rattle.history_model.specs.Transactions.{begun, is_visible, running_by}
use Rattle.txn_blocks.specs.declared.transaction.RunningTransaction.{RunningTransaction as Running}
use Rattle.history_model.specs.Changing.{is_empty}
use Rattle.cacheless.specs.Work.{work_of}
use Rattle.cacheless.specs.Ends.{End, Ends, Commits, TakesBack, end_of_all, end_of_block, end_well_in, end_badly_in, end_in, end_left_in, next_sent, next_of_end, xid_of}
use Rattle.cacheless.specs.Facts.{Facts}
use Rattle.cacheless.specs.Holds.{FactsFit}
use Rattle.cacheless.specs.OnCourse.{DoesNoAct}
use Rattle.cacheless.specs.Owed.{Owes, OwesLook, begins_in, owed_first_in, owed_after, owed_in}
use Rattle.cacheless.specs.Plays.{owed_at_end, IsEnd, MayPlay}
use Rattle.cacheless.specs.Session.{Session, Outcome, Unsettled, Well, Badly, number_of, outcome_of, is_settled}
use Rattle.cacheless.specs.Sessions.{noted, ends_command, entered}
use Rattle.cacheless.specs.Settled.{is_finished_in}
use Rattle.cacheless.specs.Silently.{is_to_answer}
use Rattle.cacheless.specs.State.{Rest, session_at, owes_nothing}
use Rattle.cacheless.specs.Telling.{IsOnItsEnd}
use Rattle.cacheless.specs.Told.{tells_of_scans}
use Rattle.cacheless.proofs.Allowed.OwnEntries.{ends_out}
use Rattle.cacheless.proofs.Allowed.Releases.{written_ended, resumed_ended}
use Rattle.cacheless.proofs.Same.{owes_nothing_is}
use Rattle.cacheless.specs.Types.{Command, Event}
use Rattle.cacheless.specs.declared.progress.Progress.{Progress}

-- a command that ends blocks begins no transaction
none_begins : (command : Command) (s : Session) → ends_block command ≡ true → begins_in command (work_of s) ≡ false
none_begins command s ends = by_block s.blocks.block
  where
    by_block : (block : Block) → elim block as (λ x. Bool) [ Outside ↦ not (ends_block command) && not s.ended && is_none (refused_by no_block command) | other ↦ false ] ≡ false
    by_block Outside = ap (λ t. not t && not s.ended && is_none (refused_by no_block command)) ends
    by_block Inside = refl
    by_block Failed = refl

-- so it owes no look
none_at_start : (facts : Facts) (command : Command) (s : Session) → ends_block command ≡ true → owed_first_in facts command (work_of s) ≡ []
none_at_start facts command s ends = ap (λ t. elim (t && is_none facts.running) as (λ x. List Owes) [ true ↦ OwesLook ∷ [] | false ↦ [] ]) (none_begins command s ends)

-- a command that came out well and takes commands back ends a block, or mends one
taken_back_ends : (facts : Facts) (command : Command) (s : Session) (from : ℕ) → end_well_in facts command (work_of s) ≡ TakesBack from → ends_failure command ≡ true
taken_back_ends facts commands.Begin s from is = absurd (cc is)
taken_back_ends facts commands.Commit s from is = refl
taken_back_ends facts commands.Rollback s from is = refl
taken_back_ends facts (commands.RollbackTo name) s from is = refl
taken_back_ends facts command s from is = absurd (by_block s.blocks.block is)
  where
    by_block : (block : Block) → elim block as (λ x. End) [ Outside ↦ Commits (number_of s) | other ↦ Ends ] ≡ TakesBack from → ⊥
    by_block Outside end = cc end
    by_block Inside end = cc end
    by_block Failed end = cc end

-- before an entry of its end a command that came out well ends or mends a block, or nothing has to come of it
pub ends_or_owes_none : (facts : Facts) (command : Command) (s : Session) → outcome_of s.left ≡ Well → owed_at_end facts command s ≡ [] → (ends_failure command ≡ true) ⊎ (owed_in facts command (work_of s) ≡ [])
ends_or_owes_none facts command s well none = by_end (end_well_in facts command (work_of s)) refl (sym (ap (λ o. owed_if (end_if o)) well) ∙ none)
  where
    end_if : Outcome → End
    end_if o = elim o as (λ x. End) [ Well ↦ end_well_in facts command (work_of s) | Badly ↦ end_badly_in (work_of s) | Unsettled ↦ Ends ]

    owed_if : End → List Owes
    owed_if end = elim end as (λ x. List Owes) [ TakesBack from ↦ owed_after facts.due | other ↦ owed_in facts command (work_of s) ]

    by_end : (end : End) → end_well_in facts command (work_of s) ≡ end → owed_if end ≡ [] → (ends_failure command ≡ true) ⊎ (owed_in facts command (work_of s) ≡ [])
    by_end Ends is nothing = inr nothing
    by_end (Commits first) is nothing = inr nothing
    by_end (TakesBack from) is after = inl (taken_back_ends facts command s from is)

-- a command that ends or mends blocks tells of no scan
pub ends_plainly : (command : Command) (s : Session) → ((told : Told) → plan_of s.opens command ≡ Done told → DoesNoAct s told) → ends_failure command ≡ true → outcome_of s.left ≡ Well → tells_of_scans (told_of s.left) ≡ false
ends_plainly commands.Commit s plain ends well = ap (λ p. tells_of_scans (told_of p)) ((plain tells.Commit refl).left well)
ends_plainly commands.Rollback s plain ends well = ap (λ p. tells_of_scans (told_of p)) ((plain tells.Ok refl).left well)
ends_plainly (commands.RollbackTo name) s plain ends well = ap (λ p. tells_of_scans (told_of p)) ((plain tells.Ok refl).left well)
ends_plainly command s plain ends well = absurd (cc ends)

-- before an entry of its end a command is to be answered
pub end_answers : (facts : Facts) (command : Command) (p : Progress) (rest : Rest) (event : Event) → FactsFit facts p → ((told : Told) → plan_of p.opens command ≡ Done told → DoesNoAct (session_at p rest) told) → IsEnd facts command (session_at p rest) event → is_to_answer command p ≡ true
end_answers facts command p rest event fits plain ends = by_outcome (outcome_of (plan_at p.opens p.exec)) refl (ends_out facts command (session_at p rest) event ends.1)
  where
    told_of_scans : Bool
    told_of_scans = tells_of_scans (told_of (plan_at p.opens p.exec))

    by_side : outcome_of (plan_at p.opens p.exec) ≡ Well → (ends_failure command ≡ true) ⊎ (owed_in facts command (work_of (session_at p rest)) ≡ []) → (not told_of_scans || owes_nothing command p) ≡ true
    by_side well (inl block) = ap (λ t. not t || owes_nothing command p) (ends_plainly command (session_at p rest) plain block well)
    by_side well (inr none) = ap (λ t. not told_of_scans || t) (sym (owes_nothing_is facts command p rest fits) ∙ ap is_empty none) ∙ or-true (not told_of_scans)

    by_outcome : (o : Outcome) → outcome_of (plan_at p.opens p.exec) ≡ o → is_settled o ≡ true → is_to_answer command p ≡ true
    by_outcome Unsettled is out = absurd (cc out)
    by_outcome Badly is out = ap (λ x. is_settled x && (elim x as (λ y. Bool) [ Badly ↦ true | other ↦ false ] || not told_of_scans || owes_nothing command p)) is
    by_outcome Well is out = ap (λ x. is_settled x && (elim x as (λ y. Bool) [ Badly ↦ true | other ↦ false ] || not told_of_scans || owes_nothing command p)) is
        ∙ by_side is (ends_or_owes_none facts command (session_at p rest) is ends.0)

-- an entry by which an end begins to take back is of one that takes back
taking_back : (facts : Facts) (end : End) (from : ℕ) → next_of_end facts end ≡ Some (events.Gone from) → end ≡ TakesBack from
taking_back facts Ends from is = absurd (cc is)
taking_back facts (Commits first) from is = absurd (by_write (has_write_from first facts.lists) is)
  where
    by_unsent : (unsent : ℕ) → Some (next_sent first unsent) ≡ Some (events.Gone from) → ⊥
    by_unsent zero same = cc same
    by_unsent (suc n) same = cc same

    by_visible : (t : Bool) → Some (elim t as (λ x. Event) [ true ↦ next_sent first (length (unsent_in facts.lists facts.running)) | false ↦ events.Visible (record { 0 = xid_of facts }) ]) ≡ Some (events.Gone from) → ⊥
    by_visible true same = by_unsent (length (unsent_in facts.lists facts.running)) same
    by_visible false same = cc same

    by_write : (t : Bool) → Some (elim t as (λ x. Event) [ true ↦ elim (is_visible facts.running) [ true ↦ next_sent first (length (unsent_in facts.lists facts.running)) | false ↦ events.Visible (record { 0 = xid_of facts }) ] | false ↦ events.Release first ]) ≡ Some (events.Gone from) → ⊥
    by_write true same = by_visible (is_visible facts.running) same
    by_write false same = cc same
taking_back facts (TakesBack to) from is = by_write (has_write_from to facts.lists) is
  where
    by_write : (t : Bool) → Some (elim t as (λ x. Event) [ true ↦ events.Gone to | false ↦ events.Release to ]) ≡ Some (events.Gone from) → TakesBack to ≡ TakesBack from
    by_write true same = let one : to ≡ from = cc same in ap TakesBack one
    by_write false same = absurd (cc same)

-- a transaction that is taken back as a whole still runs after an entry of it
all_still : (n from : ℕ) (o : Option Running) → option_map_or (λ t. TakesBack t.first) o Ends ≡ TakesBack from → option_map_or (λ t. TakesBack t.first) (Some (begun n o)) Ends ≡ TakesBack from
all_still n from None is = absurd (cc is)
all_still n from (Some t) is = is

-- the session after an entry that took back from a command on, before it has gone on
abbrev after_gone : Facts → List Command → ℕ → ℕ → ℕ → Session → Session
after_gone after left at n from s = entered after left at n (events.Gone from) s

-- so an end that takes back goes on so
still_takes_back : (facts after : Facts) (command : Command) (s : Session) (left : List Command) (at n from : ℕ) → after.running ≡ Some (begun n facts.running) → end_in facts command (work_of s) ≡ TakesBack from → end_in after command (work_of (after_gone after left at n from s)) ≡ TakesBack from
still_takes_back facts after command s left at n from running is = by_outcome (outcome_of s.left) is
  where
    now : Session
    now = after_gone after left at n from s

    all : end_of_all facts ≡ TakesBack from → end_of_all after ≡ TakesBack from
    all takes = ap (λ o. option_map_or (λ t. TakesBack t.first) o Ends) running ∙ all_still n from facts.running takes

    commits : (o : Option Running) → option_map_or (λ t. Commits t.first) o Ends ≡ TakesBack from → ⊥
    commits None takes = cc takes
    commits (Some t) takes = cc takes

    by_block : (block : Block) (commit : Bool) → end_of_block facts block commit ≡ TakesBack from → end_of_block after block commit ≡ TakesBack from
    by_block Outside commit takes = absurd (cc takes)
    by_block Inside true takes = absurd (commits facts.running takes)
    by_block Inside false takes = all takes
    by_block Failed commit takes = all takes

    by_command : (c : Command) → end_well_in facts c (work_of s) ≡ TakesBack from → end_well_in after c (work_of now) ≡ TakesBack from
    by_command commands.Begin takes = takes
    by_command commands.Commit takes = by_block s.blocks.block true takes
    by_command commands.Rollback takes = by_block s.blocks.block false takes
    by_command c takes = takes

    by_outcome : (o : Outcome) → elim o as (λ x. End) [ Well ↦ end_well_in facts command (work_of s) | Badly ↦ end_badly_in (work_of s) | Unsettled ↦ Ends ] ≡ TakesBack from → elim o as (λ x. End) [ Well ↦ end_well_in after command (work_of now) | Badly ↦ end_badly_in (work_of now) | Unsettled ↦ Ends ] ≡ TakesBack from
    by_outcome Well takes = by_command command takes
    by_outcome Badly takes = takes
    by_outcome Unsettled takes = takes

-- after taking back, the end of the command isn't whole
gone_going : (facts after : Facts) (command : Command) (s : Session) (left : List Command) (at n from : ℕ) → end_left_in facts command (work_of s) ≡ Some (events.Gone from) → after.running ≡ Some (begun n facts.running) → IsOnItsEnd after command (after_gone after left at n from s)
gone_going facts after command s left at n from is running = record { out = ends_out facts command s (events.Gone from) is; going = by_ended s.ended refl is }
  where
    now : Session
    now = after_gone after left at n from s

    by_ended : (t : Bool) → s.ended ≡ t → elim t as (λ x. Option Event) [ true ↦ None | false ↦ next_of_end facts (end_in facts command (work_of s)) ] ≡ Some (events.Gone from) → is_finished_in after command (work_of now) ≡ false
    by_ended true ended made = absurd (cc made)
    by_ended false ended made =
        ap (λ t. is_settled (outcome_of s.left) && is_none (elim t as (λ x. Option Event) [ true ↦ None | false ↦ next_of_end after (end_in after command (work_of now)) ]) && is_empty (owed_in after command (work_of now))) ended
        ∙ ap (λ e. is_settled (outcome_of s.left) && is_none (next_of_end after e) && is_empty (owed_in after command (work_of now))) (still_takes_back facts after command s left at n from running (taking_back facts (end_in facts command (work_of s)) from made))
        ∙ ap (λ t. t && is_empty (owed_in after command (work_of now))) (and-false (is_settled (outcome_of s.left)))

-- and so it is whichever entry took back
pub gone_on : (next : ℕ) (facts after : Facts) (command : Command) (s : Session) (left : List Command) (at n from : ℕ) (event : Event) → event ≡ events.Gone from → MayPlay next facts command s event → after.running ≡ running_by n event facts.running → IsOnItsEnd after command (entered after left at n event s)
gone_on next facts after command s left at n from event same may running =
    subst (λ e. MayPlay next facts command s e → after.running ≡ running_by n e facts.running → IsOnItsEnd after command (entered after left at n e s)) (sym same) (λ gone runs. gone_going facts after command s left at n from gone.1 runs) may running

-- an entry of an end leaves the plan
pub plan_left : (event : Event) (s : Session) → ends_command event ≡ true → (noted event s).left ≡ s.left
plan_left (events.Visible xid) s is = refl
plan_left (events.Publish count) s is = refl
plan_left (events.Release from) s is = refl
plan_left (events.Gone from) s is = refl
plan_left event s is = absurd (cc)

-- any other leaves whether its release is made
pub release_left : (event : Event) (s : Session) → ends_command event ≡ false → (noted event s).ended ≡ s.ended
release_left (events.Release from) s is = absurd (cc)
release_left (events.Write xid items) s is = written_ended s.left s
release_left (events.Fetch count) s is = resumed_ended s.left s
release_left events.FetchReset s is = resumed_ended s.left s
release_left event s is = refl
