-- After the release at its end a command is finished, or tells of no scan.
use Rattle.std.proofs.Common.{◌≡◌, ◌∙◌, ◌⊎◌, inl, inr, ℕ, Bool, true, false, not, cond, Option, None, Some, List, [], ◌∷◌, ◌++◌, ◌&&◌, refl, sym, ap, subst, map, length, is_none, nat_lt, ◌+◌}
use Rattle.std.specs.List.{cons_option}
use Rattle.std.specs.Option.{option_map_or}
use Rattle.std.proofs.lemmas.Grind.{flat_map-append}
use Rattle.base_types.specs.Scans.{build_scans}
use Rattle.std.proofs.Math.Bool.{and-false}
use Rattle.base_types.specs.declared.command.Command.TheVariants as commands
use Rattle.event_kinds.specs.declared.entry.Event.TheVariants as events
use Rattle.txn_blocks.specs.Blocks.{Block, Outside, Inside, Failed, no_block, ends_block, refused_by}
use Rattle.ddl_effect.specs.declared.told.Told.TheVariants as tells
use Rattle.ddl_effect.specs.Commands.{plan_of}
use Rattle.ddl_effect.specs.Opens.{opens_before}
use Rattle.history_model.specs.Drawn.{next_oid}
use Rattle.txn_blocks.specs.declared.transaction.RunningTransaction.{RunningTransaction as Running}
use Rattle.ddl_effect.specs.Stages.{told_of}
use Rattle.ddl_effect.specs.Plans.{Plan, told_rests_on, left_rests_on, Done, Fails, Absent, Do, Write}
use Rattle.history_model.specs.Changing.{is_empty}
use Rattle.history_model.specs.Transactions.{has_written, is_write}
use Rattle.history_model.proofs.Touched.{entry_of}
use Rattle.cacheless.specs.Types.{Purpose, Command, OpenRelation, Opening, Told, Entry, Event}
use Rattle.cacheless.specs.Work.{work_of}
use Rattle.cacheless.specs.Ends.{End, Ends, Commits, TakesBack, end_in, next_of_end, end_left_in, end_well_in, end_of_block, end_badly_in}
use Rattle.cacheless.specs.Facts.{Facts, facts_of}
use Rattle.cacheless.specs.OnCourse.{DoesNoAct, StillHolds, TellsAlone, FollowsPlan}
use Rattle.cacheless.specs.Owed.{Owes, OwesLook, OwesScan, missing, begins_in, owed_first_in, owed_after, builds_missing, act_owed, scans_owed_in, owed_in}
use Rattle.cacheless.specs.Plays.{IsLock, IsUnlock, IsWrite, IsClash, MayPlay, owed_at_end}
use Rattle.cacheless.specs.Session.{Session, Outcome, Unsettled, Well, Badly, opening_of, held_in, held_before, number_of, outcome_of, is_settled}
use Rattle.cacheless.specs.Sessions.{written, resumed, noted}
use Rattle.cacheless.specs.Settled.{is_finished_in}
use Rattle.cacheless.specs.Told.{tells_of_scans}
use Rattle.cacheless.proofs.FactsAfter.{facts_by}
use Rattle.cacheless.proofs.Allowed.OwnEntries.{OwnEntry, IsNoted, with_own, ends_out}
use Rattle.cacheless.proofs.Allowed.StaysOnCourse.{has_written-quiet}
use Rattle.cacheless.proofs.Plans.SilentActs.{both_empty}

pub written_ended : (plan : Plan) (s : Session) → (written plan s).ended ≡ s.ended
written_ended (Do (Write draft) rest) s = refl
written_ended plan s = refl

pub resumed_ended : (plan : Plan) (s : Session) → (resumed plan s).ended ≡ s.ended
resumed_ended (Absent name) s = refl
resumed_ended plan s = refl

-- once it has released, a command begins no transaction
none_begins : (command : Command) (s : Session) → s.ended ≡ true → begins_in command (work_of s) ≡ false
none_begins command s over = by_block s.blocks.block
  where
    by_block : (block : Block) → elim block as (λ x. Bool) [ Outside ↦ not (ends_block command) && not s.ended && is_none (refused_by no_block command) | other ↦ false ] ≡ false
    by_block Outside = ap (λ t. not (ends_block command) && not t && is_none (refused_by no_block command)) over ∙ ap (λ t. t && is_none (refused_by no_block command)) (and-false (not (ends_block command)))
    by_block Inside = refl
    by_block Failed = refl

none_at_start : (facts : Facts) (command : Command) (s : Session) → s.ended ≡ true → owed_first_in facts command (work_of s) ≡ []
none_at_start facts command s over = ap (λ t. elim (t && is_none facts.running) as (λ x. List Owes) [ true ↦ OwesLook ∷ [] | false ↦ [] ]) (none_begins command s over)

-- a command that came out well and takes commands back answers by itself
record AnswersAlone (opens : List OpenRelation) (command : Command) : Type 0 where
  told : Told
  plan : plan_of opens command ≡ Done told
  rests : told_rests_on told ≡ None
  alone : tells_of_scans told ≡ false

taken_back_ends : (facts : Facts) (command : Command) (s : Session) (from : ℕ) → end_well_in facts command (work_of s) ≡ TakesBack from → AnswersAlone s.opens command
taken_back_ends facts commands.Begin s from is = absurd (cc is)
taken_back_ends facts commands.Commit s from is = record { told = tells.Commit; plan = refl; rests = refl; alone = refl }
taken_back_ends facts commands.Rollback s from is = record { told = tells.Ok; plan = refl; rests = refl; alone = refl }
taken_back_ends facts (commands.RollbackTo name) s from is = record { told = tells.Ok; plan = refl; rests = refl; alone = refl }
taken_back_ends facts command s from is = absurd (by_block s.blocks.block is)
  where
    by_block : (block : Block) → elim block as (λ x. End) [ Outside ↦ Commits (number_of s) | other ↦ Ends ] ≡ TakesBack from → ⊥
    by_block Outside end = cc end
    by_block Inside end = cc end
    by_block Failed end = cc end

-- a commit is of a block that hasn't failed, and outside a block: what is open is held
commits_held : (facts : Facts) (command : Command) (s : Session) (first : ℕ) → end_well_in facts command (work_of s) ≡ Commits first → held_before s ≡ map opening_of s.opens
commits_held facts command s first is = by_block s.blocks.block (by_command command is)
  where
    Unfailed : Block → Type 0
    Unfailed block = block ≡ Failed → ⊥

    all_failed : option_map_or (λ t. TakesBack t.first) facts.running Ends ≡ Commits first → ⊥
    all_failed = by_running facts.running
      where
        by_running : (o : Option Running) → option_map_or (λ t. TakesBack t.first) o Ends ≡ Commits first → ⊥
        by_running None end = cc end
        by_running (Some t) end = cc end

    in_block : (block : Block) (commits : Bool) → end_of_block facts block commits ≡ Commits first → Unfailed block
    in_block Outside commits end = λ failed. cc failed
    in_block Inside commits end = λ failed. cc failed
    in_block Failed commits end = absurd (all_failed end)

    alone : (block : Block) → elim block as (λ x. End) [ Outside ↦ Commits (number_of s) | other ↦ Ends ] ≡ Commits first → Unfailed block
    alone Outside end = λ failed. cc failed
    alone Inside end = λ failed. cc failed
    alone Failed end = absurd (cc end)

    by_command : (c : Command) → end_well_in facts c (work_of s) ≡ Commits first → Unfailed s.blocks.block
    by_command commands.Begin end = absurd (cc end)
    by_command commands.Commit end = in_block s.blocks.block true end
    by_command commands.Rollback end = in_block s.blocks.block false end
    by_command (commands.RollbackTo name) end = absurd (cc end)
    by_command c end = alone s.blocks.block end

    by_block : (block : Block) → Unfailed block → held_in block s.opens ≡ map opening_of s.opens
    by_block Outside fine = refl
    by_block Inside fine = refl
    by_block Failed fine = absurd (fine refl)

-- no scan is owed by the answer
abbrev pub AnswerOwesNone : Facts → Session → Type 0
AnswerOwesNone facts s = (told : Told) → s.left ≡ Done told → missing facts.kept (left_rests_on (Done told)) ≡ []

-- nor for an opened descriptor
abbrev pub OwesNoScan : Facts → Session → Type 0
OwesNoScan facts s = (builds_missing facts.kept s.opened ≡ []) × AnswerOwesNone facts s

-- so it is of a command that came out well and owes nothing
pub owes_no_scan : (facts : Facts) (command : Command) (s : Session) → outcome_of s.left ≡ Well → owed_in facts command (work_of s) ≡ [] → OwesNoScan facts s
owes_no_scan facts command s well none = (both.0, λ told is. ap (act_owed facts) (sym is) ∙ both.1)
  where
    unmapped : (l : List Purpose) → map OwesScan l ≡ [] → l ≡ []
    unmapped [] is = refl
    unmapped (x ∷ xs) is = absurd (cc is)

    both : (builds_missing facts.kept s.opened ≡ []) × (act_owed facts s.left ≡ [])
    both = both_empty (builds_missing facts.kept s.opened) (act_owed facts s.left) (unmapped _
        (sym (ap (λ o. map OwesScan (elim o as (λ x. List Purpose) [ Badly ↦ [] | other ↦ builds_missing facts.kept s.opened ++ act_owed facts s.left ])) well) ∙ (both_empty _ (map OwesScan (scans_owed_in facts (work_of s))) none).1))

-- nor is one owed by the answer at its end
pub ends_free : (facts : Facts) (command : Command) (s : Session) → ((told : Told) → plan_of s.opens command ≡ Done told → DoesNoAct s told) → outcome_of s.left ≡ Well → owed_at_end facts command s ≡ [] → AnswerOwesNone facts s
ends_free facts command s plain well none = by_end (end_well_in facts command (work_of s)) refl (sym (ap (λ o. owed_if (end_if o)) well) ∙ none)
  where
    end_if : Outcome → End
    end_if o = elim o as (λ x. End) [ Well ↦ end_well_in facts command (work_of s) | Badly ↦ end_badly_in (work_of s) | Unsettled ↦ Ends ]

    owed_if : End → List Owes
    owed_if end = elim end as (λ x. List Owes) [ TakesBack from ↦ owed_after facts.due | other ↦ owed_in facts command (work_of s) ]

    by_end : (end : End) → end_well_in facts command (work_of s) ≡ end → owed_if end ≡ [] → AnswerOwesNone facts s
    by_end Ends is nothing = (owes_no_scan facts command s well nothing).1
    by_end (Commits first) is nothing = (owes_no_scan facts command s well nothing).1
    by_end (TakesBack from) is nothing = let alone = taken_back_ends facts command s from is in let none = plain alone.told alone.plan in
        λ told left. ap (λ t. missing facts.kept (cons_option (told_rests_on t) [])) (ap told_of (sym left ∙ none.left well)) ∙ ap (λ o. missing facts.kept (cons_option o [])) alone.rests

-- where all scans for open relations are usable, so are those for some of them
some_builds : (facts : Facts) (from : ℕ) (opens : List OpenRelation) → builds_missing facts.kept (map opening_of opens) ≡ [] → builds_missing facts.kept (map opening_of (opens_before from opens)) ≡ []
some_builds facts from [] none = none
some_builds facts from (o ∷ opens) none = by_test (nat_lt o.command from) (some_builds facts from opens apart.1)
  where
    own : List Purpose
    own = missing facts.kept (build_scans o.kind o.rel)

    apart : (own ≡ []) × (builds_missing facts.kept (map opening_of opens) ≡ [])
    apart = both_empty own (builds_missing facts.kept (map opening_of opens)) none

    by_test : (t : Bool) → builds_missing facts.kept (map opening_of (opens_before from opens)) ≡ [] → builds_missing facts.kept (map opening_of (cond t (o ∷ opens_before from opens) (opens_before from opens))) ≡ []
    by_test true others = ap (λ l. l ++ builds_missing facts.kept (map opening_of (opens_before from opens))) apart.0 ∙ others
    by_test false others = others

-- what is released of a command that has come out well, and is held still
record OwesNothingLeft (facts : Facts) (s : Session) (from : ℕ) : Type 0 where
  builds : builds_missing facts.kept (map opening_of (opens_before from s.opens)) ≡ []
  answer : AnswerOwesNone facts s

-- a command at its release, by what it comes to
released_well : (seen : List Entry) (b : ℕ) (facts : Facts) (command : Command) (s : Session) (from : ℕ) → FollowsPlan seen b s command → StillHolds s → outcome_of s.left ≡ Well → owed_at_end facts command s ≡ [] → next_of_end facts (end_in facts command (work_of s)) ≡ Some (events.Release from)
    → OwesNothingLeft facts s from ⊎ TellsAlone seen b s command
released_well seen b facts command s from follows holds well none next = by_end (end_well_in facts command (work_of s)) refl (sym (ap (λ o. owed_if (end_if o)) well) ∙ none) (sym (ap (λ o. next_of_end facts (end_if o)) well) ∙ next)
  where
    end_if : Outcome → End
    end_if o = elim o as (λ x. End) [ Well ↦ end_well_in facts command (work_of s) | Badly ↦ end_badly_in (work_of s) | Unsettled ↦ Ends ]

    owed_if : End → List Owes
    owed_if end = elim end as (λ x. List Owes) [ TakesBack from ↦ owed_after facts.due | other ↦ owed_in facts command (work_of s) ]

    by_end : (end : End) → end_well_in facts command (work_of s) ≡ end → owed_if end ≡ [] → next_of_end facts end ≡ Some (events.Release from) → OwesNothingLeft facts s from ⊎ TellsAlone seen b s command
    by_end Ends is nothing release = absurd (cc release)
    by_end (Commits first) is nothing release =
        let free = owes_no_scan facts command s well nothing in
        let held = (both_empty (builds_missing facts.kept (held_before s)) (builds_missing facts.kept holds.more) (sym (flat_map-append (λ (o : Opening). missing facts.kept (build_scans o.kind o.rel)) (held_before s) holds.more) ∙ sym (ap (builds_missing facts.kept) holds.opened) ∙ free.0)).0 in
        inl (record { builds = some_builds facts from s.opens (ap (builds_missing facts.kept) (sym (commits_held facts command s first is)) ∙ held); answer = free.1 })
    by_end (TakesBack back) is nothing release = let alone = taken_back_ends facts command s back is in let none = follows.plain alone.told alone.plan in
        inr (record { told = alone.told; plan = alone.plan; left = none.left well; alone = alone.alone; unwritten = follows.unwritten alone.told alone.plan })

-- after an entry that is no write and leaves its plan, a command still tells of no scan
pub alone_later : (history : List Entry) (b : ℕ) (s later : Session) (command : Command) (event : Event) → is_write event ≡ false → later.left ≡ s.left → later.opens ≡ s.opens → later.finished ≡ s.finished → TellsAlone history b s command → TellsAlone (with_own history b s event) b later command
alone_later history b s later command event quiet left opens finished alone = record {
  told = alone.told;
  plan = ap (λ o. plan_of o command) opens ∙ alone.plan;
  left = left ∙ alone.left;
  alone = alone.alone;
  unwritten = ap (λ l. has_written (with_own history b s event) b (length l + 1)) finished ∙ has_written-quiet history (entry_of b (number_of s) event) b (number_of s) quiet ∙ alone.unwritten;
}

-- after its release it is finished, or tells of no scan
released : (history : List Entry) (b : ℕ) (s : Session) (command : Command) (from : ℕ) (facts : Facts) → OwnEntry history b s command (events.Release from) → facts ≡ facts_by history b (number_of s) (events.Release from) (facts_of history b) → (later : Session) → IsNoted (noted (events.Release from) s) later
    → (is_finished_in facts command (work_of later) ≡ true) ⊎ TellsAlone (with_own history b s (events.Release from)) b later command
released history b s command from facts own are later stands = by_outcome (outcome_of s.left) refl (ends_out (facts_of history b) command s (events.Release from) own.plays.1)
  where
    after : Facts
    after = facts_by history b (number_of s) (events.Release from) (facts_of history b)

    out : is_settled (outcome_of later.left) ≡ true
    out = ap (λ p. is_settled (outcome_of p)) stands.after.left ∙ ends_out (facts_of history b) command s (events.Release from) own.plays.1

    left : end_left_in after command (work_of later) ≡ None
    left = ap (λ t. elim t as (λ x. Option Event) [ true ↦ None | false ↦ next_of_end after (end_in after command (work_of later)) ]) stands.ended

    finished : scans_owed_in after (work_of later) ≡ [] → is_finished_in facts command (work_of later) ≡ true
    finished none = subst (λ f. is_finished_in f command (work_of later) ≡ true) (sym are) ((λ i. out i && ap is_none left i && ap is_empty owes i))
      where
        owes : owed_in after command (work_of later) ≡ []
        owes = ap (λ l. l ++ [] ++ map OwesScan (scans_owed_in after (work_of later))) (none_at_start after command later stands.ended) ∙ ap (map OwesScan) none

    by_ended : (t : Bool) → s.ended ≡ t → elim t as (λ x. Option Event) [ true ↦ None | false ↦ next_of_end (facts_of history b) (end_in (facts_of history b) command (work_of s)) ] ≡ Some (events.Release from) → (s.ended ≡ false) × (next_of_end (facts_of history b) (end_in (facts_of history b) command (work_of s)) ≡ Some (events.Release from))
    by_ended true is release = absurd (cc release)
    by_ended false is release = (is, release)

    next : (s.ended ≡ false) × (next_of_end (facts_of history b) (end_in (facts_of history b) command (work_of s)) ≡ Some (events.Release from))
    next = by_ended s.ended refl own.plays.1

    by_outcome : (o : Outcome) → outcome_of s.left ≡ o → is_settled o ≡ true → (is_finished_in facts command (work_of later) ≡ true) ⊎ TellsAlone (with_own history b s (events.Release from)) b later command
    by_outcome Unsettled is settles = absurd (cc settles)
    by_outcome Badly is settles = inl (finished (ap (λ o. elim o as (λ x. List Purpose) [ Badly ↦ [] | other ↦ builds_missing after.kept later.opened ++ act_owed after later.left ]) (ap outcome_of stands.after.left ∙ is)))
    by_outcome Well is settles = by_sides (released_well history b (facts_of history b) command s from own.follows (own.follows.held next.0) is own.plays.0 next.1)
      where
        by_sides : OwesNothingLeft (facts_of history b) s from ⊎ TellsAlone history b s command → (is_finished_in facts command (work_of later) ≡ true) ⊎ TellsAlone (with_own history b s (events.Release from)) b later command
        by_sides (inr alone) = inr (alone_later history b s later command (events.Release from) refl stands.after.left stands.after.opens stands.after.finished alone)
        by_sides (inl nothing) = inl (finished (
            ap (λ o. elim o as (λ x. List Purpose) [ Badly ↦ [] | other ↦ builds_missing after.kept later.opened ++ act_owed after later.left ]) (ap outcome_of stands.after.left ∙ is)
            ∙ ap (λ opened. builds_missing after.kept opened ++ act_owed after later.left) stands.after.opened
            ∙ ap (λ l. l ++ act_owed after later.left) nothing.builds
            ∙ ap (act_owed after) stands.after.left ∙ answer_owed s.left refl is))
          where
            answer_owed : (p : Plan) → s.left ≡ p → outcome_of p ≡ Well → act_owed after p ≡ []
            answer_owed (Done told) at w = nothing.answer told at
            answer_owed (Fails error) at w = absurd (cc w)
            answer_owed (Absent name) at w = absurd (cc w)
            answer_owed (Do act rest) at w = absurd (cc w)

-- a command that tells of no scan, after its release, makes no other entry than of an accept of messages, or a scan
record LeavesAlone (s : Session) (event : Event) : Type 0 where
  left : (noted event s).left ≡ s.left
  opens : (noted event s).opens ≡ s.opens
  finished : (noted event s).finished ≡ s.finished
  ended : (noted event s).ended ≡ s.ended
  quiet : is_write event ≡ false

leaves_alone : (history : List Entry) (b : ℕ) (s : Session) (command : Command) (event : Event) → OwnEntry history b s command event → s.ended ≡ true → TellsAlone history b s command → LeavesAlone s event
leaves_alone history b s command event own over alone = by_event event own.plays
  where
    facts : Facts
    facts = facts_of history b

    ended : (e : Event) → end_left_in facts command (work_of s) ≡ Some e → ⊥
    ended e is = let both : None ≡ Some e = sym (ap (λ t. elim t as (λ x. Option Event) [ true ↦ None | false ↦ next_of_end facts (end_in facts command (work_of s)) ]) over) ∙ is in cc both

    same : (e : Event) (now : Session) → noted e s ≡ now → now ≡ s → is_write e ≡ false → LeavesAlone s e
    same e now is still quiet = let all : noted e s ≡ s = is ∙ still in record { left = ap (λ (x : Session). x.left) all; opens = ap (λ (x : Session). x.opens) all; finished = ap (λ (x : Session). x.finished) all; ended = ap (λ (x : Session). x.ended) all; quiet = quiet }

    by_event : (e : Event) → MayPlay (next_oid history) facts command s e → LeavesAlone s e
    by_event (events.Look some_wait) may = same (events.Look some_wait) s refl refl refl
    by_event (events.Fetch count) may = same (events.Fetch count) s (ap (λ p. resumed p s) alone.left) refl refl
    by_event events.FetchReset may = same events.FetchReset s (ap (λ p. resumed p s) alone.left) refl refl
    by_event (events.Scan scan count) may = same (events.Scan scan count) s refl refl refl
    by_event (events.LockOk rel mode) may = absurd (subst (λ p. IsLock facts p rel mode) alone.left may.2)
    by_event (events.LockHeld rel mode holder held) may = absurd (subst (λ p. IsLock facts p rel mode) alone.left may.2)
    by_event (events.Unlock rel mode) may = absurd (subst (λ p. IsUnlock facts s.taken p rel mode) alone.left may.1)
    by_event (events.Write xid items) may = absurd (subst (λ p. IsWrite (next_oid history) p items) alone.left may.1)
    by_event (events.ClashRow name rel) may = absurd (subst (λ p. IsClash facts p name) alone.left may.1)
    by_event (events.ClashRunning name xid) may = absurd (subst (λ p. IsClash facts p name) alone.left may.1)
    by_event (events.Visible xid) may = absurd (ended (events.Visible xid) may.1)
    by_event (events.Publish count) may = absurd (ended (events.Publish count) may.1)
    by_event (events.Gone from) may = absurd (ended (events.Gone from) may.1)
    by_event (events.Release from) may = absurd (ended (events.Release from) may.1)
    by_event e may = absurd may

-- so it tells of none after its next entry
pub alone_stays : (history : List Entry) (b : ℕ) (s later : Session) (command : Command) (event : Event) → OwnEntry history b s command event → IsNoted (noted event s) later → s.ended ≡ true → TellsAlone (with_own history b s event) b later command
alone_stays history b s later command event own stands over = alone_later history b s later command event leaves.quiet (stands.after.left ∙ leaves.left) (stands.after.opens ∙ leaves.opens) (stands.after.finished ∙ leaves.finished) alone
  where
    alone : TellsAlone history b s command
    alone = own.going over

    leaves : LeavesAlone s event
    leaves = leaves_alone history b s command event own over alone

-- where an entry leaves a command released, it is finished or tells of no scan
pub release_finishes : (history : List Entry) (b : ℕ) (s : Session) (command : Command) (event : Event) → OwnEntry history b s command event → facts_of (with_own history b s event) b ≡ facts_by history b (number_of s) event (facts_of history b)
    → (later : Session) → IsNoted (noted event s) later → later.ended ≡ true → (is_finished_in (facts_of (with_own history b s event) b) command (work_of later) ≡ true) ⊎ TellsAlone (with_own history b s event) b later command
release_finishes history b s command (events.Release from) own are later stands over = released history b s command from (facts_of (with_own history b s (events.Release from)) b) own are later stands
release_finishes history b s command (events.Write xid items) own are later stands over = inr (alone_stays history b s later command (events.Write xid items) own stands (sym (written_ended s.left s) ∙ sym stands.ended ∙ over))
release_finishes history b s command (events.Fetch count) own are later stands over = inr (alone_stays history b s later command (events.Fetch count) own stands (sym (resumed_ended s.left s) ∙ sym stands.ended ∙ over))
release_finishes history b s command events.FetchReset own are later stands over = inr (alone_stays history b s later command events.FetchReset own stands (sym (resumed_ended s.left s) ∙ sym stands.ended ∙ over))
release_finishes history b s command event own are later stands over = inr (alone_stays history b s later command event own stands (sym stands.ended ∙ over))
