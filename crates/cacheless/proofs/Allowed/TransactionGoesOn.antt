-- A transaction goes on as it is with an entry of its command that is none of an end.
use Rattle.std.proofs.Common.{◌≡◌, ◌≤◌, ◌+◌, ◌∙◌, ◌&&◌, inl, inr, ℕ, Bool, true, false, not, Option, Some, None, refl, sym, ap, subst, length, is_none, is_some, arith, List, []}
use Rattle.std.specs.Option.{option_map_or}
use Rattle.std.proofs.lemmas.Bool.{both_ways}
use Rattle.std.proofs.Math.Bool.{and-false}
use Rattle.inval_messages.specs.Lists.{has_write_from}
use Rattle.txn_blocks.specs.Blocks.{Block, Level, Blocks, Outside, Inside, Failed, no_block, is_open, ends_block, refused_by, blocks_well, blocks_badly}
use Rattle.history_model.specs.Transactions.{begun, is_visible}
use Rattle.txn_blocks.specs.declared.transaction.RunningTransaction.{RunningTransaction as Running}
use Rattle.history_model.specs.Changing.{is_empty}
use Rattle.ddl_effect.specs.Plans.{Plan, Absent}
use Rattle.ddl_effect.specs.Opens.{opens_before}
use Rattle.cacheless.specs.Types.{Command}
use Rattle.cacheless.specs.Facts.{Facts}
use Rattle.cacheless.specs.OnCourse.{is_absent}
use Rattle.cacheless.specs.Work.{work_of}
use Rattle.cacheless.specs.Owed.{begins_in}
use Rattle.cacheless.specs.Session.{Session, Well, held_in, number_of, outcome_of, is_settled, plan_first, is_blocked}
use Rattle.cacheless.specs.Settled.{blocks_after}
use Rattle.cacheless.specs.declared.progress.Due.TheVariants as dues
use Rattle.cacheless.specs.OwnTransaction.{LevelsRise, IsOutermostPlain, first_at, RunsBlock, RunsFailed, RunsAt, RunsIn, RunsBy, RunsAfter, TransactionFits, OpensIn, RunsFit}
use Rattle.cacheless.proofs.Entries.EnteredLooks.{not_absent}
use Rattle.cacheless.proofs.Allowed.NextTransaction.{some_first, failed_on}

-- what such an entry leaves of the facts: its transaction runs, with its first command, and isn't visible
pub record StaysInside (facts later : Facts) (number : ℕ) : Type 0 where
  pub runs : later.running ≡ Some (record (begun number facts.running) { xid = option_map_or (λ t. t.xid) later.running None })
  pub written : has_write_from 0 later.lists ≡ true → option_map_or (λ t. is_some t.xid) later.running false ≡ true
  pub last : (from : ℕ) → later.due ≡ dues.Gone from → ⊥

-- and of the session
pub record StaysAt (s later : Session) : Type 0 where
  pub blocks : later.blocks ≡ s.blocks
  pub opens : later.opens ≡ s.opens
  pub finished : length later.finished ≡ length s.finished
  pub blocked : later.blocked ≡ s.blocked
  pub ended : later.ended ≡ s.ended
  pub left : is_settled (outcome_of s.left) ≡ true → is_absent s.left ≡ false → later.left ≡ s.left

-- a command that goes on after its release came out well
abbrev pub IsWellOnceOver : Session → Type 0
IsWellOnceOver s = s.ended ≡ true → outcome_of s.left ≡ Well

well_present : (p : Plan) → outcome_of p ≡ Well → is_absent p ≡ false
well_present (Absent name) well = absurd (cc well)
well_present p well = refl

-- where it has come out well its plan stays
plan_stays : (s now : Session) → StaysAt s now → outcome_of s.left ≡ Well → now.left ≡ s.left
plan_stays s now same well = same.left (ap is_settled well) (well_present s.left well)

-- the plan with which the command began
plan_then : (o : Option Command) (s later : Session) → StaysAt s later → plan_first s.blocks s.opens o ≡ plan_first later.blocks later.opens o
plan_then o s later same = λ i. plan_first (sym same.blocks i) (sym same.opens i) o

begun_first : (number : ℕ) (own : Option Running) → (begun number own).first ≡ option_map_or (λ t. t.first) own number
begun_first number None = refl
begun_first number (Some t) = refl

begun_hidden : (number : ℕ) (own : Option Running) → is_visible own ≡ false → (begun number own).visible ≡ false
begun_hidden number None hidden = refl
begun_hidden number (Some t) hidden = hidden

-- a transaction runs, or one begins with this command
pub data RunsHere (facts : Facts) (o : Option Command) (s : Session) : Type 0 where
  Goes : is_some facts.running ≡ true → RunsHere facts o s
  Starts : (command : Command) → o ≡ Some command → begins_in command (work_of s) ≡ true → s.blocks.block ≡ Outside → facts.running ≡ None → RunsHere facts o s

module _ (facts later : Facts) (o : Option Command) (s now : Session) (fits_first : (first_at facts ≤ number_of s)) (stays : StaysInside facts later (number_of s)) (same : StaysAt s now) (goes : RunsHere facts o s) where
  number_same : number_of now ≡ number_of s
  number_same = ap (λ n. n + 1) same.finished

  -- the first command of the transaction
  first_now : first_at later ≡ option_map_or (λ t. t.first) facts.running (number_of s)
  first_now = ap (λ r. option_map_or (λ (t : Running). t.first) r 0) stays.runs ∙ begun_first (number_of s) facts.running

  first_kept : is_some facts.running ≡ true → first_at later ≡ first_at facts
  first_kept some = first_now ∙ by_own facts.running some
    where
      by_own : (own : Option Running) → is_some own ≡ true → option_map_or (λ (t : Running). t.first) own (number_of s) ≡ option_map_or (λ (t : Running). t.first) own 0
      by_own None is = absurd (cc is)
      by_own (Some t) is = refl

  first_low : first_at later ≤ number_of now
  first_low = subst (λ n. n ≤ number_of now) (sym first_now) (subst (λ n. option_map_or (λ (t : Running). t.first) facts.running (number_of s) ≤ n) (sym number_same) (by_own facts.running fits_first))
    where
      by_own : (own : Option Running) → option_map_or (λ (t : Running). t.first) own 0 ≤ number_of s → option_map_or (λ (t : Running). t.first) own (number_of s) ≤ number_of s
      by_own None low = omega arith
      by_own (Some t) low = low

  begins_same : (c : Command) → begins_in c (work_of now) ≡ begins_in c (work_of s)
  begins_same c = λ i. elim (same.blocks i).block as (λ x. Bool) [ Outside ↦ not (ends_block c) && not (same.ended i) && is_none (refused_by no_block c) | block ↦ false ]

  block_now : (levels : List Level) → RunsBlock facts levels → RunsBlock later levels
  block_now levels block = record { runs = ap (λ r. is_some r) stays.runs; first = λ c. first_kept block.runs ∙ block.first c }

  runs_now : (block : Block) → s.blocks.block ≡ block → RunsBy facts o s block → RunsBy later o now block
  runs_now Outside is (inl none) = by_goes goes
    where
      by_goes : RunsHere facts o s → RunsBy later o now Outside
      by_goes (Goes some) = absurd (both_ways _ (ap (λ r. is_some r) none) some)
      by_goes (Starts c here starts outside none') = inr (record { command = c; at = here; begins = begins_same c ∙ starts; first = first_now ∙ ap (λ r. option_map_or (λ (t : Running). t.first) r (number_of s)) none ∙ sym number_same })
  runs_now Outside is (inr alone) = inr (record { command = alone.command; at = alone.at; begins = begins_same alone.command ∙ alone.begins; first = first_kept (some_first facts.running _ alone.first) ∙ alone.first ∙ sym number_same })
  runs_now Inside is block = subst (λ b. RunsBlock later b.levels) (sym same.blocks) (block_now s.blocks.levels block)
  runs_now Failed is failed = subst (λ b. RunsFailed later b.levels) (sym same.blocks) (failed_on facts later s.blocks.levels (block_now s.blocks.levels) (λ none. none_runs none goes) failed)
    where
      none_runs : {X : Type 0} → facts.running ≡ None → RunsHere facts o s → X
      none_runs none (Goes some) = absurd (both_ways _ (ap (λ r. is_some r) none) some)
      none_runs none (Starts c here starts outside none') = absurd (let both : Failed ≡ Outside = sym is ∙ outside in cc both)

  -- once the release is made
  after_now : (command : Command) → IsWellOnceOver s → s.ended ≡ true → RunsIn facts (blocks_after command s) → RunsIn later (blocks_after command now)
  after_now command over ended runs = subst (RunsIn later) (λ i. elim (outcome_of (sym (plan_stays s now same (over ended)) i)) as (λ x. Blocks) [ Well ↦ blocks_well (sym number_same i) command (sym same.blocks i) | outcome ↦ blocks_badly (sym same.blocks i) ])
      (by_block (blocks_after command s).levels (blocks_after command s).block runs)
    where
      none_runs : {X : Type 0} → facts.running ≡ None → RunsHere facts o s → X
      none_runs none (Goes some) = absurd (both_ways _ (ap (λ r. is_some r) none) some)
      none_runs none (Starts c here starts outside none') = absurd (both_ways _ (ap (λ b. elim b as (λ x. Bool) [ Outside ↦ not (ends_block c) && not s.ended && is_none (refused_by no_block c) | other ↦ false ]) outside
          ∙ ap (λ t. not (ends_block c) && not t && is_none (refused_by no_block c)) ended ∙ ap (λ t. t && is_none (refused_by no_block c)) (and-false (not (ends_block c)))) starts)

      by_block : (levels : List Level) (block : Block) → RunsAt facts levels block → RunsAt later levels block
      by_block levels Outside none = none_runs none goes
      by_block levels Inside block = block_now levels block
      by_block levels Failed failed = failed_on facts later levels (block_now levels) (λ none. none_runs none goes) failed

  -- the relations that are open are of its transaction
  since_now : OpensIn s.blocks.block s.opens → opens_before (first_at facts) s.opens ≡ [] → opens_before (first_at later) now.opens ≡ []
  since_now inside since = ap (opens_before (first_at later)) same.opens ∙ by_goes goes
    where
      by_goes : RunsHere facts o s → opens_before (first_at later) s.opens ≡ []
      by_goes (Goes some) = ap (λ n. opens_before n s.opens) (first_kept some) ∙ since
      by_goes (Starts c here starts outside none) = ap (opens_before (first_at later)) (subst (λ b. OpensIn b s.opens) outside inside)

-- so all that holds of it does
pub fits_inside : (facts later : Facts) (o : Option Command) (s now : Session) → RunsFit facts o s → StaysInside facts later (number_of s) → StaysAt s now → RunsHere facts o s → is_visible facts.running ≡ false → IsWellOnceOver s → (o ≡ None → now.opened ≡ s.opened) → RunsFit later o now
fits_inside facts later o s now fits stays same goes hidden over opened = record {
  transaction = subst (TransactionFits later o now) (sym same.ended) (by_ended s.ended refl fits.transaction);
  first = first_low facts later o s now fits.first stays same goes;
  opens = subst (λ b. is_open b ≡ not (is_empty b.levels)) (sym same.blocks) fits.opens;
  levels = subst (λ b. LevelsRise 0 (number_of now) b.levels) (sym same.blocks) (subst (λ n. LevelsRise 0 n s.blocks.levels) (sym (ap (λ n. n + 1) same.finished)) fits.levels);
  plain = subst (λ b. IsOutermostPlain b.levels) (sym same.blocks) fits.plain;
  blocked = same.blocked ∙ fits.blocked ∙ ap (λ b. is_blocked b o) (sym same.blocks);
  settled = λ is. let before = plan_then o s now same in let first = fits.settled (ap (λ p. is_settled (outcome_of p)) before ∙ is) in
      same.left (ap (λ p. is_settled (outcome_of p)) first ∙ ap (λ p. is_settled (outcome_of p)) before ∙ is) (ap is_absent first ∙ not_absent s.blocks s.opens o) ∙ first ∙ before;
  written = stays.written;
  visible = λ is. absurd (both_ways _ (ap (λ r. is_visible r) stays.runs ∙ begun_hidden (number_of s) facts.running hidden) is);
  taken = λ from is. absurd (stays.last from is);
  accepts = λ _. ap (λ r. is_some r) stays.runs;
  past = λ none. same.left (ap (λ p. is_settled (outcome_of p)) (fits.past none)) (ap is_absent (fits.past none)) ∙ fits.past none;
  inside = subst (λ b. OpensIn b.block now.opens) (sym same.blocks) (subst (OpensIn s.blocks.block) (sym same.opens) fits.inside);
  since = since_now facts later o s now fits.first stays same goes fits.inside fits.since;
  free = λ ended none. absurd (let no : None ≡ Some (record (begun (number_of s) facts.running) { xid = option_map_or (λ t. t.xid) later.running None }) = sym none ∙ stays.runs in cc no);
  over = λ ended. let well = over (sym same.ended ∙ ended) in ap (λ p. is_settled (outcome_of p)) (plan_stays s now same well) ∙ ap is_settled well;
  held = λ none going. opened none ∙ fits.held none (sym same.ended ∙ going) ∙ (λ i. held_in (sym same.blocks i).block (sym same.opens i));
}
  where
    none_after : {X : Type 0} → facts.running ≡ None → RunsHere facts o s → o ≡ None → X
    none_after none (Goes some) past = absurd (both_ways _ (ap (λ r. is_some r) none) some)
    none_after none (Starts c here starts outside none') past = absurd (let no : Some c ≡ None = sym here ∙ past in cc no)

    after : (x : Option Command) → o ≡ x → s.ended ≡ true → RunsAfter facts x s → RunsAfter later x now
    after None is ended none = none_after none goes is
    after (Some command) is ended runs = after_now facts later o s now fits.first stays same goes command over ended runs

    by_ended : (t : Bool) → s.ended ≡ t → TransactionFits facts o s t → TransactionFits later o now t
    by_ended false going runs = subst (λ b. RunsBy later o now b.block) (sym same.blocks) (runs_now facts later o s now fits.first stays same goes s.blocks.block refl runs)
    by_ended true ended runs = after o refl ended runs
