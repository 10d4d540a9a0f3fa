-- The blocks and the transaction of a backend when it passes to its next command.
use Rattle.std.proofs.Common.{◌≡◌, ◌+◌, ◌∙◌, ◌&&◌, ◌∷◌, ◌++◌, inl, inr, ℕ, suc, take, Bool, true, false, not, Option, Some, None, List, [], refl, sym, ap, subst, is_none, is_some, arith}
use Rattle.std.specs.Option.{option_map_or, option_or}
use Rattle.std.proofs.lemmas.Bool.{both_ways}
use Rattle.std.proofs.Math.Bool.{and-false}
use Rattle.base_types.specs.declared.command.Command.TheVariants as commands
use Rattle.command_answers.specs.declared.error.CommandError.TheVariants as errors
use Rattle.txn_blocks.specs.Blocks.{Block, Level, Blocks, Outside, Inside, Failed, no_block, is_open, ends_block, ends_failure, refused_in, refused_of, refused_by, innermost, levels_around, levels_up_to, blocks_well, blocks_badly}
use Rattle.txn_blocks.specs.declared.transaction.RunningTransaction.{RunningTransaction as Running}
use Rattle.history_model.specs.Changing.{is_empty}
use Rattle.cacheless.specs.Facts.{Facts}
use Rattle.ddl_effect.specs.Plans.{Fails}
use Rattle.cacheless.specs.Session.{Session, Outcome, Well, Badly, Unsettled, number_of, outcome_of, is_settled, plan_admitted, plan_first, is_blocked}
use Rattle.cacheless.specs.Types.{Command, CommandError}
use Rattle.cacheless.specs.Work.{work_of}
use Rattle.cacheless.specs.Owed.{OwesLook, owed_first_in, begins_in}
use Rattle.cacheless.specs.Ends.{End, Ends, Commits, TakesBack, end_of_all, end_of_block, end_well_in, end_badly_in, end_in}
use Rattle.cacheless.specs.Settled.{blocks_after}
use Rattle.cacheless.specs.OwnTransaction.{LevelsRise, IsOutermostPlain, outermost, RunsBlock, RunsFailed, RunsAt, RunsIn, RunsBy}
use Rattle.cacheless.proofs.Allowed.BlockLevels.{rise_more, rise_take, rise_push, IsWithin, within, outside_is, HasOutermost, has_outermost}

-- the levels of blocks before a command of this number
pub record LevelsFit (number : ℕ) (blocks : Blocks) : Type 0 where
  pub opens : is_open blocks ≡ not (is_empty blocks.levels)
  pub rise : LevelsRise 0 number blocks.levels
  pub plain : IsOutermostPlain blocks.levels

levels_stay : (n : ℕ) (blocks : Blocks) → LevelsFit n blocks → LevelsFit (n + 1) blocks
levels_stay n blocks fits = record { opens = fits.opens; rise = rise_more 0 n blocks.levels fits.rise; plain = fits.plain }

levels_begun : (n : ℕ) (blocks : Blocks) → LevelsFit n blocks → (block : Block) → LevelsFit (n + 1) (elim block as (λ x. Blocks) [ Outside ↦ record { block = Inside; levels = record { first = n; savepoint = None } ∷ [] } | other ↦ blocks ])
levels_begun n blocks fits Outside = record { opens = refl; rise = (omega arith, omega arith); plain = refl }
levels_begun n blocks fits Inside = levels_stay n blocks fits
levels_begun n blocks fits Failed = levels_stay n blocks fits

-- a command that needs a block has one, where it isn't refused
pub block_open : (blocks : Blocks) (command : Command) → refused_in Outside command ≡ Some errors.NoBlock → refused_by blocks command ≡ None → is_open blocks ≡ true
block_open blocks command needs admitted = by_block blocks.block refl
  where
    by_block : (block : Block) → blocks.block ≡ block → elim block as (λ x. Bool) [ Outside ↦ false | other ↦ true ] ≡ true
    by_block Inside is = refl
    by_block Failed is = refl
    by_block Outside is = absurd (let no : None ≡ Some errors.NoBlock = sym admitted ∙ (λ i. option_or (refused_in (is i) command) (refused_of blocks.levels command)) ∙ ap (λ e. option_or e (refused_of blocks.levels command)) needs in cc no)

-- nor is it refused for its savepoint
pub place_there : (blocks : Blocks) (command : Command) → refused_by blocks command ≡ None → refused_of blocks.levels command ≡ None
place_there blocks command admitted = by_error (refused_in blocks.block command) admitted
  where
    by_error : (e : Option CommandError) → option_or e (refused_of blocks.levels command) ≡ None → refused_of blocks.levels command ≡ None
    by_error None is = is
    by_error (Some error) is = absurd (cc is)

-- a failed block admits what mends or ends it
pub failed_mends : (blocks : Blocks) (command : Command) → blocks.block ≡ Failed → refused_by blocks command ≡ None → ends_failure command ≡ true
failed_mends blocks command failed admitted = by_test (ends_failure command) ((λ i. option_or (refused_in (sym failed i) command) (refused_of blocks.levels command)) ∙ admitted)
  where
    by_test : (t : Bool) → option_or (elim t as (λ x. Option CommandError) [ true ↦ None | false ↦ Some errors.BlockFailed ]) (refused_of blocks.levels command) ≡ None → t ≡ true
    by_test true is = refl
    by_test false is = absurd (cc is)

-- a level more
levels_pushed : (n : ℕ) (name : List ℕ) (blocks : Blocks) → LevelsFit n blocks → is_open blocks ≡ true → LevelsFit (n + 1) (record { block = blocks.block; levels = blocks.levels ++ record { first = n; savepoint = Some name } ∷ [] })
levels_pushed n name blocks fits inside = record {
  opens = inside ∙ ap (λ l. not (is_empty (l ++ record { first = n; savepoint = Some name } ∷ []))) (sym own.are);
  rise = rise_push 0 n blocks.levels (Some name) fits.rise;
  plain = subst (λ l. IsOutermostPlain (l ++ record { first = n; savepoint = Some name } ∷ [])) (sym own.are) (subst IsOutermostPlain own.are fits.plain);
}
  where
    own : HasOutermost blocks.levels
    own = has_outermost blocks fits.opens inside

-- some of them, with the outermost one
levels_cut : (n k : ℕ) (block : Block) (blocks : Blocks) (levels : List Level) (outer : Level) (more : List Level) → LevelsFit n blocks → blocks.levels ≡ outer ∷ more → levels ≡ outer ∷ take k more → elim block as (λ x. Bool) [ Outside ↦ false | other ↦ true ] ≡ true → LevelsFit (n + 1) (record { block = block; levels = levels })
levels_cut n k block blocks levels outer more fits are cut inside = record {
  opens = inside ∙ ap (λ l. not (is_empty l)) (sym cut);
  rise = let rise = subst (LevelsRise 0 n) are fits.rise in rise_more 0 n levels (subst (LevelsRise 0 n) (sym cut) (rise.0, rise_take k (outer.first + 1) n more rise.1));
  plain = subst IsOutermostPlain (sym cut) (subst IsOutermostPlain are fits.plain);
}

levels_well : (n : ℕ) (command : Command) (blocks : Blocks) → refused_by blocks command ≡ None → LevelsFit n blocks → LevelsFit (n + 1) (blocks_well n command blocks)
levels_well n commands.Begin blocks admitted fits = levels_begun n blocks fits blocks.block
levels_well n commands.Commit blocks admitted fits = record { opens = refl; rise = omega arith; plain = tt }
levels_well n commands.Rollback blocks admitted fits = record { opens = refl; rise = omega arith; plain = tt }
levels_well n (commands.Savepoint name) blocks admitted fits = levels_pushed n name blocks fits (block_open blocks (commands.Savepoint name) refl admitted)
levels_well n (commands.Release name) blocks admitted fits = let at = within name blocks.levels fits.plain (place_there blocks (commands.Release name) admitted) in
    levels_cut n at.at blocks.block blocks (levels_around name blocks.levels) at.outer (at.inner ∷ at.more) fits at.are at.around (block_open blocks (commands.Release name) refl admitted)
levels_well n (commands.RollbackTo name) blocks admitted fits = let at = within name blocks.levels fits.plain (place_there blocks (commands.RollbackTo name) admitted) in
    levels_cut n (suc at.at) Inside blocks (levels_up_to name blocks.levels) at.outer (at.inner ∷ at.more) fits at.are at.up_to refl
levels_well n command blocks admitted fits = levels_stay n blocks fits

levels_badly : (n : ℕ) (blocks : Blocks) → LevelsFit n blocks → (block : Block) → blocks.block ≡ block → LevelsFit (n + 1) (elim block as (λ x. Blocks) [ Outside ↦ blocks | other ↦ record { block = Failed; levels = blocks.levels } ])
levels_badly n blocks fits Outside at = levels_stay n blocks fits
levels_badly n blocks fits Inside at = record { opens = ap (λ b. elim b [ Outside ↦ false | block ↦ true ]) (sym at) ∙ fits.opens; rise = rise_more 0 n blocks.levels fits.rise; plain = fits.plain }
levels_badly n blocks fits Failed at = record { opens = ap (λ b. elim b [ Outside ↦ false | block ↦ true ]) (sym at) ∙ fits.opens; rise = rise_more 0 n blocks.levels fits.rise; plain = fits.plain }

-- a command that came out well wasn't refused by the blocks
pub well_admitted : (o : Option Command) (s : Session) (command : Command) → o ≡ Some command → (is_settled (outcome_of (plan_first s.blocks s.opens o)) ≡ true → s.left ≡ plan_first s.blocks s.opens o) → outcome_of s.left ≡ Well → refused_by s.blocks command ≡ None
well_admitted o s command at settled well = by_error (refused_by s.blocks command) refl
  where
    by_error : (error : Option CommandError) → refused_by s.blocks command ≡ error → error ≡ None
    by_error None is = refl
    by_error (Some error) is = absurd (let first : plan_first s.blocks s.opens o ≡ Fails error = ap (plan_first s.blocks s.opens) at ∙ ap (λ e. plan_admitted s.opens e command) is in
        let both : Well ≡ Badly = sym well ∙ ap outcome_of (settled (ap (λ p. is_settled (outcome_of p)) first) ∙ first) in cc both)

-- what holds of a block's transaction holds of a failed one's, and so does that none runs
pub failed_on : (facts later : Facts) (levels : List Level) → (RunsBlock facts levels → RunsBlock later levels) → (facts.running ≡ None → later.running ≡ None) → RunsFailed facts levels → RunsFailed later levels
failed_on facts later [] block none runs = none runs
failed_on facts later (level ∷ []) block none runs = none runs
failed_on facts later (level ∷ inner ∷ levels) block none runs = block runs

pub levels_next : (s : Session) (command : Command) → (outcome_of s.left ≡ Well → refused_by s.blocks command ≡ None) → LevelsFit (number_of s) s.blocks → LevelsFit (number_of s + 1) (blocks_after command s)
levels_next s command admitted fits = by_outcome (outcome_of s.left) refl
  where
    by_outcome : (o : Outcome) → outcome_of s.left ≡ o → LevelsFit (number_of s + 1) (elim o as (λ x. Blocks) [ Well ↦ blocks_well (number_of s) command s.blocks | outcome ↦ blocks_badly s.blocks ])
    by_outcome Well is = levels_well (number_of s) command s.blocks (admitted is) fits
    by_outcome Badly is = levels_badly (number_of s) s.blocks fits s.blocks.block refl
    by_outcome Unsettled is = levels_badly (number_of s) s.blocks fits s.blocks.block refl

-- the blocks after a command that came out so
abbrev pub blocks_out : Command → Session → Outcome → Blocks
blocks_out command s x = elim x as (λ y. Blocks) [ Well ↦ blocks_well (number_of s) command s.blocks | outcome ↦ blocks_badly s.blocks ]

-- what is taken back as a whole leaves no transaction
own_none : (own : Option Running) (facts : Facts) → facts.running ≡ own → end_of_all facts ≡ Ends → own ≡ None
own_none None facts is end = refl
own_none (Some t) facts is end = absurd (let both : TakesBack t.first ≡ Ends = ap (λ o. option_map_or (λ (x : Running). TakesBack x.first) o Ends) (sym is) ∙ end in cc both)

-- nor does a block that ends
own_closed : (own : Option Running) (facts : Facts) (c : Bool) → facts.running ≡ own → is_some own ≡ true → end_of_block facts Inside c ≡ Ends → own ≡ None
own_closed None facts c is some end = refl
own_closed (Some t) facts true is some end = absurd (let both : Commits t.first ≡ Ends = ap (λ o. option_map_or (λ (x : Running). Commits x.first) o Ends) (sym is) ∙ end in cc both)
own_closed (Some t) facts false is some end = own_none (Some t) facts is end

pub some_first : (own : Option Running) (n : ℕ) → option_map_or (λ t. t.first) own 0 ≡ n + 1 → is_some own ≡ true
some_first None n is = absurd (omega (arith, is))
some_first (Some t) n is = refl

-- levels with the same outermost one have the same transaction
pub runs_cut : (facts : Facts) (levels now : List Level) (outer : Level) (more others : List Level) → levels ≡ outer ∷ more → now ≡ outer ∷ others → RunsBlock facts levels → RunsBlock facts now
runs_cut facts levels now outer more others are cut block = record { runs = block.runs; first = λ c. block.first c ∙ ap (outermost c) are ∙ ap (outermost c) (sym cut) }

module _ (facts : Facts) (o : Option Command) (s : Session) (command : Command) (at : o ≡ Some command) (blocked : s.blocked ≡ is_blocked s.blocks o) (levels : LevelsFit (number_of s) s.blocks) (admitted : outcome_of s.left ≡ Well → refused_by s.blocks command ≡ None) where
  -- what a command ends by itself begins no transaction
  not_begun : ends_block command ≡ true → begins_in command (work_of s) ≡ false
  not_begun ends = by_block s.blocks.block
    where
      by_block : (block : Block) → elim block as (λ x. Bool) [ Outside ↦ not (ends_block command) && not s.ended && is_none (refused_by no_block command) | other ↦ false ] ≡ false
      by_block Outside = ap (λ t. not t && not s.ended && is_none (refused_by no_block command)) ends
      by_block Inside = refl
      by_block Failed = refl

  -- nor does a command that is refused
  not_begun_refused : is_some (refused_by no_block command) ≡ true → begins_in command (work_of s) ≡ false
  not_begun_refused refused = by_block s.blocks.block
    where
      none_left : (e : Option CommandError) → is_some e ≡ true → is_none e ≡ false
      none_left None is = absurd (cc is)
      none_left (Some error) is = refl

      by_block : (block : Block) → elim block as (λ x. Bool) [ Outside ↦ not (ends_block command) && not s.ended && is_none (refused_by no_block command) | other ↦ false ] ≡ false
      by_block Outside = ap (λ t. not (ends_block command) && not s.ended && t) (none_left (refused_by no_block command) refused) ∙ and-false (not (ends_block command) && not s.ended)
      by_block Inside = refl
      by_block Failed = refl

  none_alone : RunsBy facts o s Outside → begins_in command (work_of s) ≡ false → facts.running ≡ None
  none_alone (inl none) not_begins = none
  none_alone (inr alone) not_begins = let same : alone.command ≡ command = cc (alone.at, at) in absurd (both_ways _ not_begins (ap (λ c. begins_in c (work_of s)) (sym same) ∙ alone.begins))

  next_stays : (block : Block) → s.blocks.block ≡ block → (block ≡ Outside → facts.running ≡ None) → RunsBy facts o s block → RunsIn facts s.blocks
  next_stays Outside is none runs = subst (RunsAt facts s.blocks.levels) (sym is) (none refl)
  next_stays Inside is none runs = subst (RunsAt facts s.blocks.levels) (sym is) runs
  next_stays Failed is none runs = subst (RunsAt facts s.blocks.levels) (sym is) runs

  closed : (block : Block) (commits : Bool) → RunsBy facts o s block → (block ≡ Outside → facts.running ≡ None) → end_of_block facts block commits ≡ Ends → facts.running ≡ None
  closed Outside commits runs none ends = none refl
  closed Failed commits runs none ends = own_none facts.running facts refl ends
  closed Inside commits runs none ends = own_closed facts.running facts commits refl runs.runs ends

  -- where a block begins, its transaction runs
  begun_first : s.blocks.block ≡ Outside → begins_in command (work_of s) ≡ true → owed_first_in facts command (work_of s) ≡ [] → RunsBy facts o s Outside → RunsAt facts (record { first = number_of s; savepoint = None } ∷ []) Inside
  begun_first is starts free (inl none) = absurd (let owes : owed_first_in facts command (work_of s) ≡ OwesLook ∷ [] = (λ i. elim (starts i && is_none (none i)) [ true ↦ OwesLook ∷ [] | false ↦ [] ]) in cc (owes, free))
  begun_first is starts free (inr alone) = record { runs = some_first facts.running _ alone.first; first = λ _. alone.first }

  next_badly : RunsBy facts o s s.blocks.block → end_badly_in (work_of s) ≡ Ends → RunsIn facts (blocks_badly s.blocks)
  next_badly runs ends = by_blocked s.blocked refl ends
    where
      refuses : (block : Block) → s.blocks.block ≡ block → s.blocked ≡ true → elim block as (λ x. Bool) [ Inside ↦ false | other ↦ is_some (refused_by s.blocks command) ] ≡ true
      refuses block here is = ap (λ b. elim b as (λ x. Bool) [ Inside ↦ false | other ↦ is_some (refused_by s.blocks command) ]) (sym here) ∙ ap (is_blocked s.blocks) (sym at) ∙ sym blocked ∙ is

      by_block : (block : Block) → s.blocks.block ≡ block → s.blocked ≡ true → RunsBy facts o s block
          → RunsIn facts (elim block as (λ x. Blocks) [ Outside ↦ s.blocks | other ↦ record { block = Failed; levels = s.blocks.levels } ])
      by_block Outside is stops r = next_stays Outside is (λ _. none_alone r (not_begun_refused (ap (λ b. is_some (refused_by b command)) (sym (outside_is s.blocks levels.opens is)) ∙ refuses Outside is stops))) r
      by_block Inside is stops r = absurd (cc (refuses Inside is stops))
      by_block Failed is stops r = r

      by_blocked : (t : Bool) → s.blocked ≡ t → elim t [ true ↦ Ends | false ↦ TakesBack (innermost (number_of s) s.blocks.levels) ] ≡ Ends → RunsIn facts (blocks_badly s.blocks)
      by_blocked true is e = by_block s.blocks.block refl is runs
      by_blocked false is e = absurd (cc)

  -- a failed block refuses what neither mends nor ends it
  failed_refuses : (c : Command) → s.blocks.block ≡ Failed → refused_in Failed c ≡ Some errors.BlockFailed → refused_by s.blocks c ≡ None → ⊥
  failed_refuses c failed refuses allowed = let no : None ≡ Some errors.BlockFailed = sym allowed ∙ (λ i. option_or (refused_in (failed i) c) (refused_of s.blocks.levels c)) ∙ ap (λ e. option_or e (refused_of s.blocks.levels c)) refuses in cc no

  -- a command that came out well and ends with no entry
  next_well : (c : Command) → command ≡ c → refused_by s.blocks c ≡ None → s.ended ≡ false → owed_first_in facts command (work_of s) ≡ [] → RunsBy facts o s s.blocks.block → end_well_in facts c (work_of s) ≡ Ends → RunsIn facts (blocks_well (number_of s) c s.blocks)
  next_well commands.Begin same allowed going free runs ends = by_block s.blocks.block refl runs
    where
      starts : s.blocks.block ≡ Outside → begins_in command (work_of s) ≡ true
      starts is = ap (λ c. begins_in c (work_of s)) same ∙ ap (λ b. elim b as (λ x. Bool) [ Outside ↦ not s.ended && true | other ↦ false ]) is ∙ ap (λ t. not t && true) going

      by_block : (block : Block) → s.blocks.block ≡ block → RunsBy facts o s block
          → RunsIn facts (elim block as (λ x. Blocks) [ Outside ↦ record { block = Inside; levels = record { first = number_of s; savepoint = None } ∷ [] } | other ↦ s.blocks ])
      by_block Outside is r = begun_first is (starts is) free r
      by_block Inside is r = next_stays Inside is (λ x. absurd (cc)) r
      by_block Failed is r = next_stays Failed is (λ x. absurd (cc)) r
  next_well commands.Commit same allowed going free runs ends = closed s.blocks.block true runs (λ is. none_alone (subst (RunsBy facts o s) is runs) (not_begun (ap ends_block same))) ends
  next_well commands.Rollback same allowed going free runs ends = closed s.blocks.block false runs (λ is. none_alone (subst (RunsBy facts o s) is runs) (not_begun (ap ends_block same))) ends
  next_well (commands.Savepoint name) same allowed going free runs ends = by_block s.blocks.block refl runs ends
    where
      own : HasOutermost s.blocks.levels
      own = has_outermost s.blocks levels.opens (block_open s.blocks (commands.Savepoint name) refl allowed)

      saved : List Level
      saved = s.blocks.levels ++ record { first = number_of s; savepoint = Some name } ∷ []

      by_block : (block : Block) → s.blocks.block ≡ block → RunsBy facts o s block → ◌≡◌ {A = End} (elim block [ Outside ↦ Commits (number_of s) | other ↦ Ends ]) Ends → RunsIn facts (record { block = s.blocks.block; levels = saved })
      by_block Outside is r e = absurd (cc e)
      by_block Inside is r e = subst (RunsAt facts saved) (sym is) (runs_cut facts s.blocks.levels saved own.outer own.more (own.more ++ record { first = number_of s; savepoint = Some name } ∷ []) own.are (ap (λ l. l ++ record { first = number_of s; savepoint = Some name } ∷ []) own.are) r)
      by_block Failed is r e = absurd (failed_refuses (commands.Savepoint name) is refl allowed)
  next_well (commands.Release name) same allowed going free runs ends = by_block s.blocks.block refl runs ends
    where
      found : IsWithin name s.blocks.levels
      found = within name s.blocks.levels levels.plain (place_there s.blocks (commands.Release name) allowed)

      by_block : (block : Block) → s.blocks.block ≡ block → RunsBy facts o s block → ◌≡◌ {A = End} (elim block [ Outside ↦ Commits (number_of s) | other ↦ Ends ]) Ends → RunsIn facts (record { block = s.blocks.block; levels = levels_around name s.blocks.levels })
      by_block Outside is r e = absurd (cc e)
      by_block Inside is r e = subst (RunsAt facts (levels_around name s.blocks.levels)) (sym is) (runs_cut facts s.blocks.levels (levels_around name s.blocks.levels) found.outer (found.inner ∷ found.more) (take found.at (found.inner ∷ found.more)) found.are found.around r)
      by_block Failed is r e = absurd (failed_refuses (commands.Release name) is refl allowed)
  next_well (commands.RollbackTo name) same allowed going free runs ends = absurd (cc ends)
  next_well c same allowed going free runs ends = by_block s.blocks.block refl runs ends
    where
      by_block : (block : Block) → s.blocks.block ≡ block → RunsBy facts o s block → ◌≡◌ {A = End} (elim block [ Outside ↦ Commits (number_of s) | other ↦ Ends ]) Ends → RunsIn facts s.blocks
      by_block Outside is r e = absurd (cc)
      by_block Inside is r e = next_stays Inside is (λ x. absurd (cc)) r
      by_block Failed is r e = next_stays Failed is (λ x. absurd (cc)) r

  -- the transaction after a command that ends with no entry
  pub next_silent : s.ended ≡ false → is_settled (outcome_of s.left) ≡ true → owed_first_in facts command (work_of s) ≡ [] → RunsBy facts o s s.blocks.block → end_in facts command (work_of s) ≡ Ends → RunsIn facts (blocks_after command s)
  next_silent going out free runs ends = by_outcome (outcome_of s.left) refl out ends
    where
      by_outcome : (x : Outcome) → outcome_of s.left ≡ x → is_settled x ≡ true → ◌≡◌ {A = End} (elim x [ Well ↦ end_well_in facts command (work_of s) | Badly ↦ end_badly_in (work_of s) | Unsettled ↦ Ends ]) Ends
          → RunsIn facts (blocks_out command s x)
      by_outcome Well came is e = next_well command refl (admitted came) going free runs e
      by_outcome Badly came is e = next_badly runs e
      by_outcome Unsettled came is e = absurd (cc)
