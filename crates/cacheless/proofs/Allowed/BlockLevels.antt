-- The levels of a block: its own, which no savepoint began, and within it those of savepoints.
use Rattle.std.proofs.Common.{◌≡◌, ◌≤◌, ◌+◌, ◌∙◌, ◌∷◌, ◌++◌, ℕ, zero, suc, add-one, Bool, true, false, not, Option, Some, None, List, [], refl, sym, ap, take, arith}
use Rattle.std.specs.Option.{option_map_or}
use Rattle.std.specs.Str.{bytes_eq}
use Rattle.std.proofs.lemmas.Bool.{both_ways}
use Rattle.command_answers.specs.declared.error.CommandError.TheVariants as errors
use Rattle.txn_blocks.specs.Blocks.{Level, Blocks, Outside, no_block, is_open, refused_without, is_savepoint, place_of, place_with, levels_around, levels_up_to, innermost}
use Rattle.history_model.specs.Changing.{is_empty}
use Rattle.cacheless.specs.OwnTransaction.{LevelsRise, IsOutermostPlain}

pub rise_more : (from n : ℕ) (levels : List Level) → LevelsRise from n levels → LevelsRise from (n + 1) levels
rise_more from n [] rise = omega (arith, rise)
rise_more from n (level ∷ levels) rise = (rise.0, rise_more (level.first + 1) n levels rise.1)

-- the innermost level began before this command
pub rise_within : (outer n : ℕ) (levels : List Level) → LevelsRise (outer + 1) n levels → innermost outer levels + 1 ≤ n
rise_within outer n [] rise = omega (arith, rise)
rise_within outer n (level ∷ levels) rise = rise_within level.first n levels rise.1

-- and not before the ones around it
pub rise_above : (outer n : ℕ) (levels : List Level) → LevelsRise (outer + 1) n levels → outer ≤ innermost outer levels
rise_above outer n [] rise = omega arith
rise_above outer n (level ∷ levels) rise = omega (arith, rise.0, rise_above level.first n levels rise.1)

rise_low : (from n : ℕ) (levels : List Level) → LevelsRise from n levels → from ≤ n
rise_low from n [] rise = rise
rise_low from n (level ∷ levels) rise = omega (arith, rise.0, rise_low (level.first + 1) n levels rise.1)

-- so it is of those around one of them
pub rise_take : (k from n : ℕ) (levels : List Level) → LevelsRise from n levels → LevelsRise from n (take k levels)
rise_take zero from n levels rise = rise_low from n levels rise
rise_take (suc k) from n [] rise = rise
rise_take (suc k) from n (level ∷ levels) rise = (rise.0, rise_take k (level.first + 1) n levels rise.1)

-- and with one more, which this command begins
pub rise_push : (from n : ℕ) (levels : List Level) (savepoint : Option (List ℕ)) → LevelsRise from n levels → LevelsRise from (n + 1) (levels ++ record { first = n; savepoint = savepoint } ∷ [])
rise_push from n [] savepoint rise = (rise, omega arith)
rise_push from n (level ∷ levels) savepoint rise = (rise.0, rise_push (level.first + 1) n levels savepoint rise.1)

-- a savepoint of this name began one within the outermost level
pub record IsWithin (name : List ℕ) (levels : List Level) : Type 0 where
  pub outer : Level
  pub inner : Level
  pub more : List Level
  pub at : ℕ
  pub are : levels ≡ outer ∷ inner ∷ more
  pub up_to : levels_up_to name levels ≡ outer ∷ inner ∷ take at more
  pub around : levels_around name levels ≡ outer ∷ take at (inner ∷ more)

pub within : (name : List ℕ) (levels : List Level) → IsOutermostPlain levels → refused_without name (place_of name levels) ≡ None → IsWithin name levels
within name [] plain admitted = absurd (cc admitted)
within name (outer ∷ levels) plain admitted = by_levels levels (place_of name levels) refl
  where
    own : is_savepoint name outer ≡ false
    own = ap (λ o. option_map_or (bytes_eq name) o false) plain

    no_place : {X : Type 0} (inner : List Level) → place_of name inner ≡ None → levels ≡ inner → X
    no_place inner none here = absurd (let no : Some (errors.NoSavepoint name) ≡ None = ap (refused_without name) (sym (λ i. place_with (own i) ((ap (place_of name) here ∙ none) i))) ∙ admitted in cc no)

    by_levels : (inner : List Level) (o : Option ℕ) → levels ≡ inner → IsWithin name (outer ∷ levels)
    by_levels [] o here = no_place [] refl here
    by_levels (inner ∷ more) o here = by_place (place_of name (inner ∷ more)) refl
      where
        by_place : (p : Option ℕ) → place_of name (inner ∷ more) ≡ p → IsWithin name (outer ∷ levels)
        by_place None none = no_place (inner ∷ more) none here
        by_place (Some at) found = record {
          outer = outer;
          inner = inner;
          more = more;
          at = at;
          are = ap (λ l. outer ∷ l) here;
          up_to = (λ i. option_map_or (λ n. take (n + 1) (outer ∷ here i)) (place i) (outer ∷ here i)) ∙ ap (λ n. take n (outer ∷ inner ∷ more)) (add-one (suc at));
          around = λ i. option_map_or (λ n. take n (outer ∷ here i)) (place i) (outer ∷ here i);
        }
          where
            place : place_of name (outer ∷ levels) ≡ Some (suc at)
            place = (λ i. place_with (own i) ((ap (place_of name) here ∙ found) i)) ∙ ap Some (add-one at)

-- outside blocks there are none
pub none_outside : (blocks : Blocks) → is_open blocks ≡ not (is_empty blocks.levels) → blocks.block ≡ Outside → blocks.levels ≡ []
none_outside blocks opens outside = by_levels blocks.levels refl
  where
    by_levels : (levels : List Level) → blocks.levels ≡ levels → levels ≡ []
    by_levels [] is = refl
    by_levels (level ∷ levels) is = absurd (both_ways _ (ap (λ b. elim b as (λ x. Bool) [ Outside ↦ false | block ↦ true ]) outside) (opens ∙ ap (λ l. not (is_empty l)) is))

-- so they are those of no block
pub outside_is : (blocks : Blocks) → is_open blocks ≡ not (is_empty blocks.levels) → blocks.block ≡ Outside → blocks ≡ no_block
outside_is blocks opens outside = λ i. record { block = outside i; levels = none_outside blocks opens outside i }

-- and in one there is its own
pub record HasOutermost (levels : List Level) : Type 0 where
  pub outer : Level
  pub more : List Level
  pub are : levels ≡ outer ∷ more

pub has_outermost : (blocks : Blocks) → is_open blocks ≡ not (is_empty blocks.levels) → is_open blocks ≡ true → HasOutermost blocks.levels
has_outermost blocks opens inside = by_levels blocks.levels refl
  where
    by_levels : (levels : List Level) → blocks.levels ≡ levels → HasOutermost blocks.levels
    by_levels [] is = absurd (both_ways _ (ap (λ l. not (is_empty l)) is) (sym opens ∙ inside))
    by_levels (level ∷ levels) is = record { outer = level; more = levels; are = is }
