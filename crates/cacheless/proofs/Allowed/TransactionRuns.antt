-- In a command that waits for an entry a transaction runs, or the command begins one: any other is finished at once.
use Rattle.std.proofs.Common.{◌≡◌, ◌∙◌, ◌&&◌, ◌⊎◌, inl, inr, Bool, true, false, not, Option, Some, None, List, [], ◌∷◌, ◌++◌, refl, sym, ap, subst, map, is_none, is_some}
use Rattle.std.specs.List.{cons_option}
use Rattle.std.specs.Option.{option_map_or}
use Rattle.std.proofs.lemmas.Bool.{both_ways}
use Rattle.std.proofs.Math.Bool.{and-false}
use Rattle.base_types.specs.declared.command.Command.TheVariants as commands
use Rattle.event_kinds.specs.declared.entry.Event.{Event}
use Rattle.ddl_effect.specs.declared.told.Told.TheVariants as tells
use Rattle.ddl_effect.specs.Commands.{plan_of}
use Rattle.ddl_effect.specs.Plans.{Done, told_rests_on}
use Rattle.txn_blocks.specs.Blocks.{Block, Outside, Inside, Failed, no_block, ends_block, ends_failure, refused_by, innermost}
use Rattle.txn_blocks.specs.declared.transaction.RunningTransaction.{RunningTransaction as Running}
use Rattle.history_model.specs.Changing.{is_empty}
use Rattle.cacheless.specs.Types.{Purpose, Command, CommandError, Told}
use Rattle.cacheless.specs.Work.{work_of}
use Rattle.cacheless.specs.Ends.{End, Ends, TakesBack, end_of_all, end_of_block, end_well_in, end_badly_in, end_in, end_left_in, next_of_end}
use Rattle.cacheless.specs.Facts.{Facts}
use Rattle.cacheless.specs.OnCourse.{DoesNoAct}
use Rattle.cacheless.specs.Owed.{Owes, OwesLook, OwesScan, missing, owed_first_in, owed_after, begins_in, builds_missing, act_owed, scans_owed_in, owed_in}
use Rattle.cacheless.specs.Session.{Session, Outcome, Unsettled, Well, Badly, opening_of, held_in, number_of, outcome_of, is_settled, plan_admitted, plan_first, refused_first, is_blocked}
use Rattle.cacheless.specs.Settled.{is_finished_in}
use Rattle.cacheless.specs.Told.{tells_of_scans}
use Rattle.cacheless.specs.OwnTransaction.{RunsFailed, RunsBy, TransactionFits, OpensIn, RunsFit}
use Rattle.cacheless.proofs.Allowed.BlockLevels.{IsWithin, within, outside_is}
use Rattle.cacheless.proofs.Allowed.NextTransaction.{place_there, failed_mends}
use Rattle.cacheless.proofs.Allowed.TransactionGoesOn.{RunsHere, Goes, Starts}

-- a command that the blocks refuse fails
refused_badly : (o : Option Command) (s : Session) → is_blocked s.blocks o ≡ true → outcome_of (plan_first s.blocks s.opens o) ≡ Badly
refused_badly o s is = by_command o (by_block s.blocks.block is)
  where
    by_block : (block : Block) → elim block as (λ x. Bool) [ Inside ↦ false | other ↦ is_some (refused_first s.blocks o) ] ≡ true → is_some (refused_first s.blocks o) ≡ true
    by_block Outside some = some
    by_block Inside some = absurd (cc some)
    by_block Failed some = some

    by_error : (command : Command) (error : Option CommandError) → is_some error ≡ true → outcome_of (plan_admitted s.opens error command) ≡ Badly
    by_error command None some = absurd (cc some)
    by_error command (Some error) some = refl

    by_command : (c : Option Command) → is_some (refused_first s.blocks c) ≡ true → outcome_of (plan_first s.blocks s.opens c) ≡ Badly
    by_command None some = absurd (cc some)
    by_command (Some command) some = by_error command (refused_by s.blocks command) some

-- outside blocks a command begins a transaction, or ends a block, or is refused
begins_or : (ends refused : Bool) → (not ends && not false && not refused) ≡ false → (ends ≡ true) ⊎ (refused ≡ true)
begins_or true refused none = inl refl
begins_or false true none = inr refl
begins_or false false none = absurd (cc none)

none_is : {X : Type 0} (o : Option X) → is_none o ≡ not (is_some o)
none_is None = refl
none_is (Some x) = refl

-- what is told that rests on no scan lacks none
alone_rests : (told : Told) → tells_of_scans told ≡ false → told_rests_on told ≡ None
alone_rests (tells.Regclass oid) alone = absurd (cc alone)
alone_rests told alone = refl

module _ (facts : Facts) (command : Command) (s : Session) (fits : RunsFit facts (Some command) s) (none : facts.running ≡ None) where
  -- nothing is owed after its last event
  due_none : owed_after facts.due ≡ []
  due_none = by_list (owed_after facts.due) refl
    where
      by_list : (l : List Owes) → owed_after facts.due ≡ l → l ≡ []
      by_list [] is = refl
      by_list (x ∷ xs) is = absurd (both_ways _ (ap (λ r. is_some r) none) (fits.accepts (ap (λ l. is_empty l) is)))

  -- it is finished, where it owes no scan and has no end left
  finished_is : begins_in command (work_of s) ≡ false → is_settled (outcome_of s.left) ≡ true → end_left_in facts command (work_of s) ≡ None → scans_owed_in facts (work_of s) ≡ [] → is_finished_in facts command (work_of s) ≡ true
  finished_is not_begins out left scans = λ i. out i && ap (λ o. is_none o) left i && ap (λ l. is_empty l) owes i
    where
      start : owed_first_in facts command (work_of s) ≡ []
      start = ap (λ t. elim (t && is_none facts.running) as (λ x. List Owes) [ true ↦ OwesLook ∷ [] | false ↦ [] ]) not_begins

      owes : owed_in facts command (work_of s) ≡ []
      owes = λ i. start i ++ due_none i ++ map OwesScan (scans i)

  -- by how it came out
  scans_of : (x : Outcome) → outcome_of s.left ≡ x → scans_owed_in facts (work_of s) ≡ elim x as (λ y. List Purpose) [ Badly ↦ [] | other ↦ builds_missing facts.kept s.opened ++ act_owed facts s.left ]
  scans_of x is = ap (λ y. elim y as (λ z. List Purpose) [ Badly ↦ [] | other ↦ builds_missing facts.kept s.opened ++ act_owed facts s.left ]) is

  left_of : (end : End) → s.ended ≡ false → end_in facts command (work_of s) ≡ end → end_left_in facts command (work_of s) ≡ next_of_end facts end
  left_of end going is = ap (λ t. elim t as (λ x. Option Event) [ true ↦ None | false ↦ next_of_end facts (end_in facts command (work_of s)) ]) going ∙ ap (next_of_end facts) is

  ended_left : s.ended ≡ true → end_left_in facts command (work_of s) ≡ None
  ended_left over = ap (λ t. elim t as (λ x. Option Event) [ true ↦ None | false ↦ next_of_end facts (end_in facts command (work_of s)) ]) over

  -- once it has released
  finished_over : s.ended ≡ true → (told : Told) → s.left ≡ Done told → tells_of_scans told ≡ false → is_finished_in facts command (work_of s) ≡ true
  finished_over over told left alone = finished_is not_begins (ap (λ p. is_settled (outcome_of p)) left) (ended_left over) (scans_of Well (ap outcome_of left) ∙ (λ i. builds_missing facts.kept (fits.free over none i) ++ act_owed facts (left i)) ∙ ap (λ o. missing facts.kept (cons_option o [])) (alone_rests told alone))
    where
      not_begins : begins_in command (work_of s) ≡ false
      not_begins = by_block s.blocks.block
        where
          by_block : (block : Block) → elim block as (λ x. Bool) [ Outside ↦ not (ends_block command) && not s.ended && is_none (refused_by no_block command) | other ↦ false ] ≡ false
          by_block Outside = ap (λ t. not (ends_block command) && not t && is_none (refused_by no_block command)) over ∙ ap (λ t. t && is_none (refused_by no_block command)) (and-false (not (ends_block command)))
          by_block Inside = refl
          by_block Failed = refl

  -- where the blocks refuse it
  finished_refused : s.ended ≡ false → begins_in command (work_of s) ≡ false → is_blocked s.blocks (Some command) ≡ true → is_finished_in facts command (work_of s) ≡ true
  finished_refused going not_begins refused = finished_is not_begins (ap is_settled badly) (left_of Ends going (ap (λ x. elim x as (λ y. End) [ Well ↦ end_well_in facts command (work_of s) | Badly ↦ end_badly_in (work_of s) | Unsettled ↦ Ends ]) badly ∙ ap (λ t. elim t as (λ x. End) [ true ↦ Ends | false ↦ TakesBack (innermost (number_of s) s.blocks.levels) ]) (fits.blocked ∙ refused))) (scans_of Badly badly)
    where
      first : outcome_of (plan_first s.blocks s.opens (Some command)) ≡ Badly
      first = refused_badly (Some command) s refused

      badly : outcome_of s.left ≡ Badly
      badly = ap outcome_of (fits.settled (ap is_settled first)) ∙ first

  -- a transaction that it would end doesn't run
  all_ends : end_of_all facts ≡ Ends
  all_ends = ap (λ r. option_map_or (λ (t : Running). TakesBack t.first) r Ends) none

  -- where it has nothing to do
  finished_done : s.ended ≡ false → begins_in command (work_of s) ≡ false → s.opened ≡ [] → (told : Told) → s.left ≡ Done told → told_rests_on told ≡ None → end_well_in facts command (work_of s) ≡ Ends → is_finished_in facts command (work_of s) ≡ true
  finished_done going not_begins bare told left rests ends = finished_is not_begins (ap (λ p. is_settled (outcome_of p)) left)
      (left_of Ends going (ap (λ x. elim x as (λ y. End) [ Well ↦ end_well_in facts command (work_of s) | Badly ↦ end_badly_in (work_of s) | Unsettled ↦ Ends ]) (ap outcome_of left) ∙ ends))
      (scans_of Well (ap outcome_of left) ∙ (λ i. builds_missing facts.kept (bare i) ++ act_owed facts (left i)) ∙ ap (λ o. missing facts.kept (cons_option o [])) rests)

  -- the answer of a command that does no act is left of it, where the blocks admit it
  admitted_left : (told : Told) → refused_by s.blocks command ≡ None → plan_of s.opens command ≡ Done told → s.left ≡ Done told
  admitted_left told admitted is = fits.settled (ap (λ p. is_settled (outcome_of p)) first) ∙ first
    where
      first : plan_first s.blocks s.opens (Some command) ≡ Done told
      first = ap (λ e. plan_admitted s.opens e command) admitted ∙ is

  module _ (plain : (told : Told) → plan_of s.opens command ≡ Done told → DoesNoAct s told) (going : s.ended ≡ false) where
    -- nothing is held outside blocks, or in a failed one
    bare_in : (block : Block) → s.blocks.block ≡ block → held_in block s.opens ≡ [] → (told : Told) → plan_of s.opens command ≡ Done told → s.opened ≡ []
    bare_in block at none_held told is = (plain told is).opened going ∙ ap (λ b. held_in b s.opens) at ∙ none_held

    -- outside blocks it begins one
    begins_outside : s.blocks.block ≡ Outside → begins_in command (work_of s) ≡ false → is_finished_in facts command (work_of s) ≡ true
    begins_outside outside not_begins = by_refusal (refused_by s.blocks command) refl
      where
        test : (not (ends_block command) && not false && not (is_some (refused_by no_block command))) ≡ false
        test = (λ i. not (ends_block command) && not (sym going i) && sym (none_is (refused_by no_block command)) i) ∙ sym (ap (λ b. elim b as (λ x. Bool) [ Outside ↦ not (ends_block command) && not s.ended && is_none (refused_by no_block command) | other ↦ false ]) outside) ∙ not_begins

        bare : held_in Outside s.opens ≡ []
        bare = ap (map opening_of) (subst (λ b. OpensIn b s.opens) outside fits.inside)

        by_command : (c : Command) → command ≡ c → ends_block c ≡ true → refused_by s.blocks command ≡ None → is_finished_in facts command (work_of s) ≡ true
        by_command commands.Commit same ends admitted = let plan : plan_of s.opens command ≡ Done tells.Commit = ap (plan_of s.opens) same in
            finished_done going not_begins (bare_in Outside outside bare tells.Commit plan) tells.Commit (admitted_left tells.Commit admitted plan) refl (ap (λ c. end_well_in facts c (work_of s)) same ∙ ap (λ block. end_of_block facts block true) outside)
        by_command commands.Rollback same ends admitted = let plan : plan_of s.opens command ≡ Done tells.Ok = ap (plan_of s.opens) same in
            finished_done going not_begins (bare_in Outside outside bare tells.Ok plan) tells.Ok (admitted_left tells.Ok admitted plan) refl (ap (λ c. end_well_in facts c (work_of s)) same ∙ ap (λ block. end_of_block facts block false) outside)
        by_command c same ends admitted = absurd (cc ends)

        by_case : (ends_block command ≡ true) ⊎ (is_some (refused_by no_block command) ≡ true) → refused_by s.blocks command ≡ None → is_finished_in facts command (work_of s) ≡ true
        by_case (inl ends) admitted = by_command command refl ends admitted
        by_case (inr is) admitted = absurd (both_ways _ (ap (λ e. is_some e) admitted) (ap (λ b. is_some (refused_by b command)) (outside_is s.blocks fits.opens outside) ∙ is))

        by_refusal : (error : Option CommandError) → refused_by s.blocks command ≡ error → is_finished_in facts command (work_of s) ≡ true
        by_refusal None admitted = by_case (begins_or (ends_block command) (is_some (refused_by no_block command)) test) admitted
        by_refusal (Some error) refused = finished_refused going not_begins (ap (λ b. elim b as (λ x. Bool) [ Inside ↦ false | other ↦ is_some (refused_by s.blocks command) ]) outside ∙ ap (λ e. is_some e) refused)

    -- in a failed block of which nothing runs
    in_failed : s.blocks.block ≡ Failed → RunsFailed facts s.blocks.levels → is_finished_in facts command (work_of s) ≡ true
    in_failed failed runs = by_refusal (refused_by s.blocks command) refl
      where
        not_begins : begins_in command (work_of s) ≡ false
        not_begins = ap (λ b. elim b as (λ x. Bool) [ Outside ↦ not (ends_block command) && not s.ended && is_none (refused_by no_block command) | other ↦ false ]) failed

        in_block : (b : Bool) → end_of_block facts s.blocks.block b ≡ end_of_all facts
        in_block true = ap (λ block. end_of_block facts block true) failed
        in_block false = ap (λ block. end_of_block facts block false) failed

        by_command : (c : Command) → command ≡ c → ends_failure c ≡ true → refused_by s.blocks command ≡ None → is_finished_in facts command (work_of s) ≡ true
        by_command commands.Commit same mends admitted = let plan : plan_of s.opens command ≡ Done tells.Commit = ap (plan_of s.opens) same in
            finished_done going not_begins (bare_in Failed failed refl tells.Commit plan) tells.Commit (admitted_left tells.Commit admitted plan) refl (ap (λ c. end_well_in facts c (work_of s)) same ∙ in_block true ∙ all_ends)
        by_command commands.Rollback same mends admitted = let plan : plan_of s.opens command ≡ Done tells.Ok = ap (plan_of s.opens) same in
            finished_done going not_begins (bare_in Failed failed refl tells.Ok plan) tells.Ok (admitted_left tells.Ok admitted plan) refl (ap (λ c. end_well_in facts c (work_of s)) same ∙ in_block false ∙ all_ends)
        by_command (commands.RollbackTo name) same mends admitted = absurd (both_ways _ (ap (λ r. is_some r) none) (subst (RunsFailed facts) found.are runs).runs)
          where
            found : IsWithin name s.blocks.levels
            found = within name s.blocks.levels fits.plain (place_there s.blocks (commands.RollbackTo name) (subst (λ c. refused_by s.blocks c ≡ None) same admitted))
        by_command c same mends admitted = absurd (cc mends)

        by_refusal : (error : Option CommandError) → refused_by s.blocks command ≡ error → is_finished_in facts command (work_of s) ≡ true
        by_refusal None admitted = by_command command refl (failed_mends s.blocks command failed admitted) admitted
        by_refusal (Some error) refused = finished_refused going not_begins (ap (λ b. elim b as (λ x. Bool) [ Inside ↦ false | other ↦ is_some (refused_by s.blocks command) ]) failed ∙ ap (λ e. is_some e) refused)

-- once it has released, it tells of no scan
pub record OverAlone (s : Session) : Type 0 where
  pub told : Told
  pub left : s.left ≡ Done told
  pub alone : tells_of_scans told ≡ false

-- so where it isn't finished a transaction runs, or it begins one
pub runs_here : (facts : Facts) (command : Command) (s : Session) → RunsFit facts (Some command) s → is_finished_in facts command (work_of s) ≡ false → ((told : Told) → plan_of s.opens command ≡ Done told → DoesNoAct s told) → (s.ended ≡ true → OverAlone s) → RunsHere facts (Some command) s
runs_here facts command s fits unfinished plain over = by_running facts.running refl
  where
    Here : Type 0
    Here = RunsHere facts (Some command) s

    by_begins : facts.running ≡ None → s.ended ≡ false → s.blocks.block ≡ Outside → (t : Bool) → begins_in command (work_of s) ≡ t → Here
    by_begins none going outside true is = Starts command refl is outside none
    by_begins none going outside false is = absurd (both_ways _ unfinished (begins_outside facts command s fits none plain going outside is))

    by_block : facts.running ≡ None → s.ended ≡ false → (block : Block) → s.blocks.block ≡ block → RunsBy facts (Some command) s block → Here
    by_block none going Outside is runs = by_begins none going is (begins_in command (work_of s)) refl
    by_block none going Inside is runs = Goes runs.runs
    by_block none going Failed is runs = absurd (both_ways _ unfinished (in_failed facts command s fits none plain going is runs))

    by_ended : facts.running ≡ None → (t : Bool) → s.ended ≡ t → TransactionFits facts (Some command) s t → Here
    by_ended none true ended runs = let alone = over ended in absurd (both_ways _ unfinished (finished_over facts command s fits none ended alone.told alone.left alone.alone))
    by_ended none false going runs = by_block none going s.blocks.block refl runs

    by_running : (own : Option Running) → facts.running ≡ own → Here
    by_running None none = by_ended none s.ended refl fits.transaction
    by_running (Some t) is = Goes (ap (λ r. is_some r) is)
