-- What an end releases of the transaction of its backend.
use Rattle.std.proofs.Common.{◌≡◌, ◌≤◌, ◌+◌, ◌∙◌, ◌⊎◌, inl, inr, ℕ, suc, zero, Bool, true, false, not, Option, Some, None, List, [], ◌∷◌, ◌++◌, refl, sym, ap, subst, length, map, min, take, is_some, if◌then◌else◌, arith}
use Rattle.std.specs.Option.{option_map_or, option_or}
use Rattle.std.specs.Prelude.{nat_le}
use Rattle.std.proofs.lemmas.Bool.{both_ways, leb-true, leb-false}
use Rattle.base_types.specs.declared.command.Command.TheVariants as commands
use Rattle.event_kinds.specs.declared.entry.Event.TheVariants as events
use Rattle.inval_messages.specs.Lists.{has_write_from}
use Rattle.command_answers.specs.declared.error.CommandError.TheVariants as errors
use Rattle.txn_blocks.specs.Blocks.{Block, Level, Blocks, Outside, Inside, Failed, refused_in, refused_of, refused_by, innermost, levels_up_to, blocks_well}
use Rattle.ddl_effect.specs.Commands.{plan_of}
use Rattle.ddl_effect.specs.Opens.{opens_before}
use Rattle.history_model.specs.Sent.{unsent_in}
use Rattle.history_model.specs.Transactions.{is_visible}
use Rattle.txn_blocks.specs.declared.transaction.RunningTransaction.{RunningTransaction as Running}
use Rattle.history_model.specs.Changing.{is_empty}
use Rattle.cacheless.specs.Work.{work_of}
use Rattle.cacheless.specs.Ends.{End, Ends, Commits, TakesBack, end_of_block, end_well_in, end_badly_in, end_in, xid_of, next_sent, next_of_end}
use Rattle.cacheless.specs.Facts.{Facts}
use Rattle.cacheless.specs.Owed.{Owes, OwesScan, owed_first_in, owed_after, scans_owed_in, owed_in}
use Rattle.cacheless.specs.Plays.{IsEnd, IsLastEnd, MayPlay, MayPlayLast, MayPlayIn}
use Rattle.cacheless.specs.Session.{Session, Outcome, Well, Badly, Unsettled, number_of, outcome_of, is_settled, plan_admitted, plan_first, is_blocked}
use Rattle.cacheless.specs.Sessions.{ends_command}
use Rattle.cacheless.specs.Types.{Xid, Command, CommandError, Event, OpenRelation}
use Rattle.cacheless.proofs.Allowed.OwnEntries.{ends_out}
use Rattle.cacheless.proofs.Plans.SilentActs.{both_empty}
use Rattle.cacheless.proofs.Allowed.BlockLevels.{rise_within, rise_above, rise_take, IsWithin, within, none_outside}
use Rattle.cacheless.proofs.Allowed.NextTransaction.{some_first, block_open, place_there, well_admitted, runs_cut, blocks_out}
use Rattle.cacheless.specs.declared.progress.Due.TheVariants as dues
use Rattle.cacheless.specs.OwnTransaction.{LevelsRise, outermost, first_at, RunsBlock, RunsFailed, RunsAt, RunsIn, RunsBy, RunsAfter, TransactionFits, end_by, OpensIn, RunsFit}

-- the next entry of an end
pub record EndsBy (facts : Facts) (o : Option Command) (s : Session) (event : Event) : Type 0 where
  pub going : s.ended ≡ false
  pub out : is_settled (outcome_of s.left) ≡ true
  pub after : owed_after facts.due ≡ []
  pub comes : next_of_end facts (end_by facts o s) ≡ Some event

pub is_end : (next : ℕ) (facts : Facts) (command : Command) (s : Session) (event : Event) → ends_command event ≡ true → MayPlay next facts command s event → IsEnd facts command s event
is_end next facts command s (events.Visible xid) ends is = is
is_end next facts command s (events.Publish count) ends is = is
is_end next facts command s (events.Gone from) ends is = is
is_end next facts command s (events.Release from) ends is = is
is_end next facts command s event ends is = absurd (cc ends)

is_last : (facts : Facts) (s : Session) (event : Event) → ends_command event ≡ true → MayPlayLast facts s event → IsLastEnd facts event
is_last facts s (events.Gone from) ends is = is
is_last facts s (events.Release from) ends is = is
is_last facts s (events.Visible xid) ends is = absurd is
is_last facts s (events.Publish count) ends is = absurd is
is_last facts s event ends is = absurd (cc ends)

pub ends_by : (next : ℕ) (facts : Facts) (o : Option Command) (s : Session) (event : Event) → ends_command event ≡ true → RunsFit facts o s → MayPlayIn next facts o s event → EndsBy facts o s event
ends_by next facts (Some command) s event ends fits plays = by_ended s.ended refl end.1
  where
    end : IsEnd facts command s event
    end = is_end next facts command s event ends plays

    free : owed_in facts command (work_of s) ≡ [] → owed_after facts.due ≡ []
    free none = (both_empty (owed_first_in facts command (work_of s)) (owed_after facts.due) (both_empty (owed_first_in facts command (work_of s) ++ owed_after facts.due) (map OwesScan (scans_owed_in facts (work_of s))) none).0).1

    by_end : (e : End) → elim e as (λ x. List Owes) [ TakesBack from ↦ owed_after facts.due | other ↦ owed_in facts command (work_of s) ] ≡ [] → owed_after facts.due ≡ []
    by_end Ends none = free none
    by_end (Commits first) none = free none
    by_end (TakesBack from) none = none

    by_ended : (t : Bool) → s.ended ≡ t → elim t as (λ x. Option Event) [ true ↦ None | false ↦ next_of_end facts (end_in facts command (work_of s)) ] ≡ Some event → EndsBy facts (Some command) s event
    by_ended true is none = absurd (cc none)
    by_ended false is comes = record { going = is; out = ends_out facts command s event end.1; after = by_end (end_in facts command (work_of s)) end.0; comes = comes }
ends_by next facts None s event ends fits plays = record { going = by_ended s.ended refl fits.transaction; out = ap (λ p. is_settled (outcome_of p)) (fits.past refl); after = end.0; comes = end.1 }
  where
    end : IsLastEnd facts event
    end = is_last facts s event ends plays

    by_ended : (t : Bool) → s.ended ≡ t → TransactionFits facts None s t → s.ended ≡ false
    by_ended false is runs_it = is
    by_ended true is none = absurd (let no : None ≡ Some event = sym (ap (λ r. next_of_end facts (option_map_or (λ (t : Running). TakesBack t.first) r Ends)) none) ∙ end.1 in cc no)

-- a commit of writes
pub record IsCommit (facts : Facts) (end : End) : Type 0 where
  pub first : ℕ
  pub is : end ≡ Commits first
  pub written : has_write_from first facts.lists ≡ true

-- the visibility step
pub record ShowsNow (facts : Facts) (end : End) (xid : Xid) : Type 0 where
  pub commit : IsCommit facts end
  pub hidden : is_visible facts.running ≡ false
  pub xid_is : xid.0 ≡ xid_of facts

-- a publish
pub record PublishesNow (facts : Facts) (end : End) (count : ℕ) : Type 0 where
  pub commit : IsCommit facts end
  pub visible : is_visible facts.running ≡ true
  pub some : 1 ≤ count
  pub most : count ≡ min 64 (length (unsent_in facts.lists facts.running))

-- the first command of what an end releases
abbrev pub end_from : End → Option ℕ
end_from Ends = None
end_from (Commits first) = Some first
end_from (TakesBack from) = Some from

-- the release, once all is sent or where nothing is written
pub data LetsGo (facts : Facts) (end : End) (from : ℕ) : Type 0 where
  AllSent : end ≡ Commits from → is_visible facts.running ≡ true → length (unsent_in facts.lists facts.running) ≡ 0 → LetsGo facts end from
  NoWrite : (end ≡ Commits from) ⊎ (end ≡ TakesBack from) → has_write_from from facts.lists ≡ false → LetsGo facts end from

-- what each event that comes next of an end tells of it
abbrev pub ComesNow : Facts → End → Event → Type 0
ComesNow facts end (events.Visible xid) = ShowsNow facts end xid
ComesNow facts end (events.Publish count) = PublishesNow facts end count
ComesNow facts end (events.Gone from) = (end ≡ TakesBack from) × (has_write_from from facts.lists ≡ true)
ComesNow facts end (events.Release from) = LetsGo facts end from
ComesNow facts end event = ⊥

-- how many messages a publish sends of so many
sends_most : (unsent : ℕ) → (if nat_le unsent 64 then unsent else 64) ≡ min 64 unsent
sends_most n = by_test (nat_le n 64) refl
  where
    by_test : (t : Bool) → nat_le n 64 ≡ t → (if t then n else 64) ≡ min 64 n
    by_test true low = omega (arith, leb-true n 64 low)
    by_test false high = omega (arith, leb-false n 64 high)

pub comes_now : (facts : Facts) (end : End) (event : Event) → next_of_end facts end ≡ Some event → ComesNow facts end event
comes_now facts Ends event is = absurd (cc is)
comes_now facts (Commits first) event is = by_written (has_write_from first facts.lists) refl is
  where
    sent : (n : ℕ) → length (unsent_in facts.lists facts.running) ≡ n → has_write_from first facts.lists ≡ true → is_visible facts.running ≡ true → ComesNow facts (Commits first) (next_sent first n)
    sent zero none written shown = AllSent refl shown none
    sent (suc n) some written shown = record { commit = record { first = first; is = refl; written = written }; visible = shown; some = omega (arith, sends_most (suc n)); most = sends_most (suc n) ∙ ap (min 64) (sym some) }

    by_visible : (t : Bool) → is_visible facts.running ≡ t → has_write_from first facts.lists ≡ true → Some (elim t as (λ x. Event) [ true ↦ next_sent first (length (unsent_in facts.lists facts.running)) | false ↦ events.Visible (record { 0 = xid_of facts }) ]) ≡ Some event → ComesNow facts (Commits first) event
    by_visible true shown written one = subst (ComesNow facts (Commits first)) (cc one) (sent (length (unsent_in facts.lists facts.running)) refl written shown)
    by_visible false hidden written one = subst (ComesNow facts (Commits first)) (let same : events.Visible (record { 0 = xid_of facts }) ≡ event = cc one in same) (record { commit = record { first = first; is = refl; written = written }; hidden = hidden; xid_is = refl })

    by_written : (t : Bool) → has_write_from first facts.lists ≡ t → Some (elim t as (λ x. Event) [ true ↦ elim (is_visible facts.running) [ true ↦ next_sent first (length (unsent_in facts.lists facts.running)) | false ↦ events.Visible (record { 0 = xid_of facts }) ] | false ↦ events.Release first ]) ≡ Some event → ComesNow facts (Commits first) event
    by_written true written one = by_visible (is_visible facts.running) refl written one
    by_written false bare one = subst (ComesNow facts (Commits first)) (let same : events.Release first ≡ event = cc one in same) (NoWrite (inl refl) bare)
comes_now facts (TakesBack from) event is = by_written (has_write_from from facts.lists) refl is
  where
    by_written : (t : Bool) → has_write_from from facts.lists ≡ t → Some (elim t as (λ x. Event) [ true ↦ events.Gone from | false ↦ events.Release from ]) ≡ Some event → ComesNow facts (TakesBack from) event
    by_written true written one = subst (ComesNow facts (TakesBack from)) (let same : events.Gone from ≡ event = cc one in same) (refl, written)
    by_written false bare one = subst (ComesNow facts (TakesBack from)) (let same : events.Release from ≡ event = cc one in same) (NoWrite (inr refl) bare)

pub from_of : (facts : Facts) (end : End) (from : ℕ) → LetsGo facts end from → end_from end ≡ Some from
from_of facts end from (AllSent is visible none) = ap end_from is
from_of facts end from (NoWrite (inl is) bare) = ap end_from is
from_of facts end from (NoWrite (inr is) bare) = ap end_from is

-- the first command of the transaction that an entry is of
abbrev pub first_begun : Facts → Session → ℕ
first_begun facts s = option_map_or (λ t. t.first) facts.running (number_of s)

from_all : (own : Option Running) (n from : ℕ) → end_from (option_map_or (λ t. TakesBack t.first) own Ends) ≡ Some from → option_map_or (λ t. t.first) own n ≡ from
from_all None n from is = absurd (cc is)
from_all (Some t) n from is = cc is

from_commit : (own : Option Running) (n from : ℕ) → end_from (option_map_or (λ t. Commits t.first) own Ends) ≡ Some from → option_map_or (λ t. t.first) own n ≡ from
from_commit None n from is = absurd (cc is)
from_commit (Some t) n from is = cc is

pub from_block : (facts : Facts) (block : Block) (commits : Bool) (n from : ℕ) → end_from (end_of_block facts block commits) ≡ Some from → option_map_or (λ t. t.first) facts.running n ≡ from
from_block facts Outside commits n from is = absurd (cc is)
from_block facts Inside true n from is = from_commit facts.running n from is
from_block facts Inside false n from is = from_all facts.running n from is
from_block facts Failed commits n from is = from_all facts.running n from is

first_some : (own : Option Running) (n first : ℕ) → is_some own ≡ true → option_map_or (λ t. t.first) own 0 ≡ first → option_map_or (λ t. t.first) own n ≡ first
first_some None n first some is = absurd (cc some)
first_some (Some t) n first some is = is

first_alone : (facts : Facts) (o : Option Command) (s : Session) → RunsBy facts o s Outside → first_begun facts s ≡ number_of s
first_alone facts o s (inl none) = ap (λ r. option_map_or (λ (t : Running). t.first) r (number_of s)) none
first_alone facts o s (inr alone) = first_some facts.running (number_of s) (number_of s) (some_first facts.running _ alone.first) alone.first

from_alone : (facts : Facts) (o : Option Command) (s : Session) (block : Block) (from : ℕ) → RunsBy facts o s block → end_from (elim block [ Outside ↦ Commits (number_of s) | other ↦ Ends ]) ≡ Some from → first_begun facts s ≡ from
from_alone facts o s Outside from by is = first_alone facts o s by ∙ cc is
from_alone facts o s Inside from by is = absurd (cc is)
from_alone facts o s Failed from by is = absurd (cc is)

-- a command commits its transaction as a whole
commits_well : (facts : Facts) (o : Option Command) (s : Session) (command : Command) (first : ℕ) → RunsBy facts o s s.blocks.block → end_well_in facts command (work_of s) ≡ Commits first → first_begun facts s ≡ first
commits_well facts o s commands.Begin first by is = absurd (cc is)
commits_well facts o s commands.Commit first by is = from_block facts s.blocks.block true (number_of s) first (ap end_from is)
commits_well facts o s commands.Rollback first by is = from_block facts s.blocks.block false (number_of s) first (ap end_from is)
commits_well facts o s (commands.RollbackTo name) first by is = absurd (cc is)
commits_well facts o s command first by is = from_alone facts o s s.blocks.block first by (ap end_from is)

-- outside blocks the innermost level is the command itself
level_outside : (levels : List Level) (n : ℕ) → false ≡ not (is_empty levels) → innermost n levels ≡ n
level_outside [] n is = refl
level_outside (level ∷ levels) n is = absurd (cc is)

-- a failed block admits what ends it, which does no act
ends_failed : (opens : List OpenRelation) (command : Command) → is_some (refused_in Failed command) ≡ false → outcome_of (plan_of opens command) ≡ Well
ends_failed opens commands.Commit admitted = refl
ends_failed opens commands.Rollback admitted = refl
ends_failed opens (commands.RollbackTo name) admitted = refl
ends_failed opens command admitted = absurd (cc admitted)

admitted_plan : (opens : List OpenRelation) (error : Option CommandError) (command : Command) → is_some error ≡ false → plan_admitted opens error command ≡ plan_of opens command
admitted_plan opens None command none = refl
admitted_plan opens (Some error) command none = absurd (cc none)

-- an end releases an inner level alone, of a block, and the transaction goes on
pub record IsInner (facts : Facts) (o : Option Command) (s : Session) (from : ℕ) : Type 0 where
  pub runs : is_some facts.running ≡ true
  pub above : first_at facts + 1 ≤ from
  pub low : from ≤ number_of s
  pub on : (later : Facts) → later.running ≡ facts.running → RunsAfter later o s
  pub command : o ≡ None → ⊥

-- an end releases its transaction as a whole, by which no relation is open any more, or an inner level alone; what runs then fits the blocks after the command
pub data Releases (facts : Facts) (o : Option Command) (s : Session) (from : ℕ) : Type 0 where
  Whole : first_begun facts s ≡ from → opens_before from s.opens ≡ [] → ((later : Facts) → later.running ≡ None → RunsAfter later o s) → Releases facts o s from
  Inner : IsInner facts o s from → Releases facts o s from

-- the transaction by the blocks after a command that failed
abbrev RunsBadly : Facts → Session → Block → Type 0
RunsBadly later s block = RunsIn later (elim block as (λ x. Blocks) [ Outside ↦ s.blocks | other ↦ record { block = Failed; levels = s.blocks.levels } ])

-- a command that failed isn't committed
badly_back : (s : Session) (first : ℕ) → end_badly_in (work_of s) ≡ Commits first → ⊥
badly_back s first is = by_blocked s.blocked is
  where
    by_blocked : (t : Bool) → elim t as (λ x. End) [ true ↦ Ends | false ↦ TakesBack (innermost (number_of s) s.blocks.levels) ] ≡ Commits first → ⊥
    by_blocked true end = cc end
    by_blocked false end = cc end

module _ (facts : Facts) (o : Option Command) (s : Session) (command : Command) (at : o ≡ Some command) (fits : RunsFit facts o s) (going : s.ended ≡ false) where
  runs_by : RunsBy facts o s s.blocks.block
  runs_by = subst (TransactionFits facts o s) going fits.transaction

  -- a commit is that of the transaction as a whole
  first_of_commit : (first : ℕ) → end_in facts command (work_of s) ≡ Commits first → first_begun facts s ≡ first
  first_of_commit first is = by_outcome (outcome_of s.left) is
    where
      by_outcome : (x : Outcome) → elim x as (λ y. End) [ Well ↦ end_well_in facts command (work_of s) | Badly ↦ end_badly_in (work_of s) | Unsettled ↦ Ends ] ≡ Commits first → first_begun facts s ≡ first
      by_outcome Well end = commits_well facts o s command first runs_by end
      by_outcome Badly end = absurd (badly_back s first end)
      by_outcome Unsettled end = absurd (let no : Ends ≡ Commits first = end in cc no)

  failed_done : s.blocks.block ≡ Failed → s.blocked ≡ false → outcome_of s.left ≡ Well
  failed_done failed admitted = ap outcome_of (fits.settled (ap is_settled first)) ∙ first
    where
      free : is_some (refused_by s.blocks command) ≡ false
      free = (λ i. elim (sym failed i) as (λ x. Bool) [ Inside ↦ false | block ↦ is_some (refused_by s.blocks command) ]) ∙ ap (is_blocked s.blocks) (sym at) ∙ sym fits.blocked ∙ admitted

      failed_free : (e : Option CommandError) → is_some (option_or e (refused_of s.blocks.levels command)) ≡ false → is_some e ≡ false
      failed_free None is = refl
      failed_free (Some error) is = absurd (cc is)

      first : outcome_of (plan_first s.blocks s.opens o) ≡ Well
      first = ap (λ c. outcome_of (plan_first s.blocks s.opens c)) at ∙ ap outcome_of (admitted_plan s.opens (refused_by s.blocks command) command free) ∙ ends_failed s.opens command (failed_free (refused_in Failed command) (ap (λ b. is_some (option_or (refused_in b command) (refused_of s.blocks.levels command))) (sym failed) ∙ free))

  -- what fits the blocks after the command, by how it came out
  after_well : (later : Facts) → outcome_of s.left ≡ Well → RunsIn later (blocks_well (number_of s) command s.blocks) → RunsAfter later o s
  after_well later well is = subst (λ c. RunsAfter later c s) (sym at)
      (subst (λ x. RunsIn later (blocks_out command s x)) (sym well) is)

  after_badly : (later : Facts) (block : Block) → outcome_of s.left ≡ Badly → s.blocks.block ≡ block → RunsBadly later s block → RunsAfter later o s
  after_badly later block badly here is = subst (λ c. RunsAfter later c s) (sym at)
      (subst (λ x. RunsIn later (blocks_out command s x)) (sym badly)
      (subst (RunsBadly later s) (sym here) is))

  -- a relation that is open is of its transaction
  since_from : (from : ℕ) → first_at facts ≡ from → opens_before from s.opens ≡ []
  since_from from is = ap (λ n. opens_before n s.opens) (sym is) ∙ fits.since

  outside_from : (from : ℕ) → s.blocks.block ≡ Outside → opens_before from s.opens ≡ []
  outside_from from outside = ap (opens_before from) (subst (λ b. OpensIn b s.opens) outside fits.inside)

  -- what a command that failed in a block takes back: the innermost level
  from_inside : (from : ℕ) → outcome_of s.left ≡ Badly → s.blocks.block ≡ Inside → RunsBlock facts s.blocks.levels → innermost (number_of s) s.blocks.levels ≡ from → Releases facts o s from
  from_inside from badly inside block is = by_levels s.blocks.levels refl fits.levels block is
    where
      after : (later : Facts) → RunsFailed later s.blocks.levels → RunsAfter later o s
      after later failed = after_badly later Inside badly inside failed

      by_levels : (levels : List Level) → s.blocks.levels ≡ levels → LevelsRise 0 (number_of s) levels → RunsBlock facts levels → innermost (number_of s) levels ≡ from → Releases facts o s from
      by_levels [] here rise own to = Whole (first_some facts.running (number_of s) (number_of s) own.runs (own.first (number_of s)) ∙ to) (since_from from (own.first (number_of s) ∙ to)) (λ later none. after later (subst (RunsFailed later) (sym here) none))
      by_levels (level ∷ []) here rise own to = Whole (first_some facts.running (number_of s) level.first own.runs (own.first (number_of s)) ∙ to) (since_from from (own.first (number_of s) ∙ to)) (λ later none. after later (subst (RunsFailed later) (sym here) none))
      by_levels (level ∷ inner ∷ levels) here rise own to = Inner (record {
        runs = own.runs;
        above = omega (arith, own.first (number_of s), rise.1.0, rise_above inner.first (number_of s) levels rise.1.1, to);
        low = omega (arith, rise_within inner.first (number_of s) levels rise.1.1, to);
        on = λ later same. after later (subst (RunsFailed later) (sym here) (record { runs = ap (λ r. is_some r) same ∙ own.runs; first = λ c. ap (λ r. option_map_or (λ (t : Running). t.first) r 0) same ∙ own.first c }));
        command = λ none. let no : Some command ≡ None = sym at ∙ none in cc no;
      })

  -- what a command that failed takes back
  from_badly : (from : ℕ) → outcome_of s.left ≡ Badly → end_from (end_badly_in (work_of s)) ≡ Some from → Releases facts o s from
  from_badly from badly is = by_blocked s.blocked refl is
    where
      by_block : (block : Block) → s.blocks.block ≡ block → s.blocked ≡ false → RunsBy facts o s block → innermost (number_of s) s.blocks.levels ≡ from → Releases facts o s from
      by_block Outside outside admitted by to = Whole (first_alone facts o s by ∙ sym (level_outside s.blocks.levels (number_of s) (ap (λ b. elim b as (λ x. Bool) [ Outside ↦ false | block ↦ true ]) (sym outside) ∙ fits.opens)) ∙ to) (outside_from from outside)
          (λ later none. after_badly later Outside badly outside (subst (RunsAt later s.blocks.levels) (sym outside) none))
      by_block Inside inside admitted by to = from_inside from badly inside by to
      by_block Failed failed admitted by to = absurd (let no : Well ≡ Badly = sym (failed_done failed admitted) ∙ badly in cc no)

      by_blocked : (t : Bool) → s.blocked ≡ t → end_from (elim t as (λ x. End) [ true ↦ Ends | false ↦ TakesBack (innermost (number_of s) s.blocks.levels) ]) ≡ Some from → Releases facts o s from
      by_blocked true blocked end = absurd (cc end)
      by_blocked false blocked end = by_block s.blocks.block refl blocked runs_by (cc end)

  -- what `rollback to` takes back: a level within the outermost one
  from_saved : (name : List ℕ) (from : ℕ) → command ≡ commands.RollbackTo name → outcome_of s.left ≡ Well → innermost (number_of s) (levels_up_to name s.blocks.levels) ≡ from → Releases facts o s from
  from_saved name from same well to = Inner (record {
    runs = own.runs;
    above = omega (arith, first, rise.1.0, rise_above found.inner.first (number_of s) inside rise_in, is);
    low = omega (arith, rise_within found.inner.first (number_of s) inside rise_in, is);
    on = λ later stays. after_well later well (subst (λ c. RunsIn later (blocks_well (number_of s) c s.blocks)) (sym same)
        (runs_cut later s.blocks.levels (levels_up_to name s.blocks.levels) found.outer (found.inner ∷ found.more) (found.inner ∷ inside) found.are found.up_to (record { runs = ap (λ r. is_some r) stays ∙ own.runs; first = λ c. ap (λ r. option_map_or (λ (t : Running). t.first) r 0) stays ∙ own.first c })));
    command = λ none. let no : Some command ≡ None = sym at ∙ none in cc no;
  })
    where
      admitted : refused_by s.blocks command ≡ None
      admitted = well_admitted o s command at fits.settled well

      found : IsWithin name s.blocks.levels
      found = within name s.blocks.levels fits.plain (place_there s.blocks (commands.RollbackTo name) (subst (λ c. refused_by s.blocks c ≡ None) same admitted))

      inside : List Level
      inside = take found.at found.more

      rise : LevelsRise 0 (number_of s) (found.outer ∷ found.inner ∷ found.more)
      rise = subst (LevelsRise 0 (number_of s)) found.are fits.levels

      rise_in : LevelsRise (found.inner.first + 1) (number_of s) inside
      rise_in = rise_take found.at (found.inner.first + 1) (number_of s) found.more rise.1.1

      is : innermost found.inner.first inside ≡ from
      is = sym (ap (innermost (number_of s)) found.up_to) ∙ to

      by_block : (block : Block) → s.blocks.block ≡ block → RunsBy facts o s block → RunsBlock facts s.blocks.levels
      by_block Outside outside by = absurd (let no : found.outer ∷ found.inner ∷ found.more ≡ [] = sym found.are ∙ none_outside s.blocks fits.opens outside in cc no)
      by_block Inside inside by = by
      by_block Failed failed by = subst (RunsBlock facts) (sym found.are) (subst (RunsFailed facts) found.are by)

      own : RunsBlock facts s.blocks.levels
      own = by_block s.blocks.block refl runs_by

      first : first_at facts ≡ found.outer.first
      first = own.first (number_of s) ∙ ap (outermost (number_of s)) found.are

  -- what a command that came out well releases
  from_well : (from : ℕ) → outcome_of s.left ≡ Well → end_from (end_well_in facts command (work_of s)) ≡ Some from → Releases facts o s from
  from_well from well = by_command command refl
    where
      closes : (c : Command) (commits : Bool) → command ≡ c → ((later : Facts) → later.running ≡ None → RunsIn later (blocks_well (number_of s) c s.blocks)) → end_from (end_of_block facts s.blocks.block commits) ≡ Some from → Releases facts o s from
      closes c commits same none is = Whole (from_block facts s.blocks.block commits (number_of s) from is) (since_from from (from_block facts s.blocks.block commits 0 from is))
          (λ later over. after_well later well (subst (λ x. RunsIn later (blocks_well (number_of s) x s.blocks)) (sym same) (none later over)))

      -- outside a block it is a transaction of its own
      alone : (c : Command) → command ≡ c → (s.blocks.block ≡ Outside → (later : Facts) → later.running ≡ None → RunsIn later (blocks_well (number_of s) c s.blocks)) → end_from (elim s.blocks.block as (λ x. End) [ Outside ↦ Commits (number_of s) | other ↦ Ends ]) ≡ Some from → Releases facts o s from
      alone c same none = by_block s.blocks.block refl
        where
          by_block : (block : Block) → s.blocks.block ≡ block → end_from (elim block as (λ x. End) [ Outside ↦ Commits (number_of s) | other ↦ Ends ]) ≡ Some from → Releases facts o s from
          by_block Outside outside is = Whole (first_alone facts o s (subst (RunsBy facts o s) outside runs_by) ∙ cc is) (outside_from from outside)
              (λ later over. after_well later well (subst (λ x. RunsIn later (blocks_well (number_of s) x s.blocks)) (sym same) (none outside later over)))
          by_block Inside inside is = absurd (cc is)
          by_block Failed failed is = absurd (cc is)

      -- none of those that need a block
      needs : (c : Command) → command ≡ c → refused_in Outside c ≡ Some errors.NoBlock → s.blocks.block ≡ Outside → {X : Type 0} → X
      needs c same none outside = absurd (both_ways _ (ap (λ b. elim b as (λ x. Bool) [ Outside ↦ false | block ↦ true ]) outside) (block_open s.blocks c none (subst (λ x. refused_by s.blocks x ≡ None) same (well_admitted o s command at fits.settled well))))

      stays : s.blocks.block ≡ Outside → (later : Facts) → later.running ≡ None → RunsIn later s.blocks
      stays outside later none = subst (RunsAt later s.blocks.levels) (sym outside) none

      by_command : (c : Command) → command ≡ c → end_from (end_well_in facts c (work_of s)) ≡ Some from → Releases facts o s from
      by_command commands.Begin same is = absurd (cc is)
      by_command commands.Commit same is = closes commands.Commit true same (λ later none. none) is
      by_command commands.Rollback same is = closes commands.Rollback false same (λ later none. none) is
      by_command (commands.RollbackTo name) same is = from_saved name from same well (let to : Some (innermost (number_of s) (levels_up_to name s.blocks.levels)) ≡ Some from = is in cc to)
      by_command (commands.Savepoint name) same is = alone (commands.Savepoint name) same (λ outside. needs (commands.Savepoint name) same refl outside) is
      by_command (commands.Release name) same is = alone (commands.Release name) same (λ outside. needs (commands.Release name) same refl outside) is
      by_command c same is = alone c same stays is

  -- what an end with an entry releases
  released_by : (from : ℕ) → end_from (end_in facts command (work_of s)) ≡ Some from → Releases facts o s from
  released_by from is = by_outcome (outcome_of s.left) refl is
    where
      by_outcome : (x : Outcome) → outcome_of s.left ≡ x → end_from (elim x as (λ y. End) [ Well ↦ end_well_in facts command (work_of s) | Badly ↦ end_badly_in (work_of s) | Unsettled ↦ Ends ]) ≡ Some from → Releases facts o s from
      by_outcome Well outcome end = from_well from outcome end
      by_outcome Badly outcome end = from_badly from outcome end
      by_outcome Unsettled outcome end = absurd (cc end)

-- a commit is that of the running transaction as a whole
pub commit_first : (facts : Facts) (o : Option Command) (s : Session) (first : ℕ) → RunsFit facts o s → s.ended ≡ false → end_by facts o s ≡ Commits first → first_begun facts s ≡ first
commit_first facts None s first fits going is = from_all facts.running (number_of s) first (ap end_from is)
commit_first facts (Some command) s first fits going is = first_of_commit facts (Some command) s command refl fits going first is

-- what an end releases; after the last command all that runs
pub end_releases : (facts : Facts) (o : Option Command) (s : Session) (from : ℕ) → RunsFit facts o s → s.ended ≡ false → end_from (end_by facts o s) ≡ Some from → Releases facts o s from
end_releases facts None s from fits going is = Whole (from_all facts.running (number_of s) from is) (ap (λ n. opens_before n s.opens) (sym (from_all facts.running 0 from is)) ∙ fits.since) (λ later none. none)
end_releases facts (Some command) s from fits going is = released_by facts (Some command) s command refl fits going from is

-- a visible transaction is on its commit
pub commit_end : (facts : Facts) (o : Option Command) (s : Session) → RunsFit facts o s → is_visible facts.running ≡ true → end_by facts o s ≡ Commits (first_at facts)
commit_end facts o s fits visible = let c = fits.visible visible in ap (λ x. end_by facts x s) c.at ∙ c.end

-- and what is taken back on its taking back
pub back_end : (facts : Facts) (o : Option Command) (s : Session) (from : ℕ) → RunsFit facts o s → facts.due ≡ dues.Gone from → end_by facts o s ≡ TakesBack from
back_end facts o s from fits gone = (fits.taken from gone).end
