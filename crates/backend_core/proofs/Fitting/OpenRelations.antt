-- The relations that a session has open: their descriptors are among those that are held, from command to command.
use Rattle.std.proofs.Common.{◌≡◌, ◌∙◌, ℕ, zero, suc, Bool, true, false, Option, Some, None, List, [], ◌∷◌, ◌++◌, ◌+◌, ◌||◌, cond, filter, refl, sym, ap, subst, map, length, take, drop, slice_get}
use Rattle.std.specs.Prelude.{nat_lt}
use Rattle.std.specs.List.{list_any}
use Rattle.std.proofs.lemmas.Bool.{both_ways, false_from_ne_true}
use Rattle.std.proofs.lemmas.List.Folds.{list_any-append}
use Rattle.std.proofs.lemmas.Map.Keys.{any_passes_from_place}
use Rattle.base_types.specs.declared.command.Command.TheVariants as commands
use Rattle.ddl_effect.specs.Opens.{place_latest, without_latest, opens_before}
use Rattle.txn_blocks.specs.Blocks.{Block, Level, Outside, Inside, Failed, Blocks, innermost, levels_up_to, blocks_badly}
use Rattle.cacheless.specs.Work.{work_of}
use Rattle.cacheless.specs.Ends.{End, Ends, Commits, TakesBack, end_of_block, end_in, end_well_in, end_badly_in}
use Rattle.cacheless.specs.Facts.{Facts}
use Rattle.cacheless.specs.Session.{Session, Outcome, Well, Badly, Unsettled, opening_of, held_in, number_of, outcome_of}
use Rattle.cacheless.specs.Settled.{opens_with, opens_well, opens_badly, opens_passed}
use Rattle.cacheless.specs.Types.{OpenRelation}
use Rattle.cacheless.specs.OwnTransaction.{first_at, OpensIn}
use Rattle.backend_core.specs.Types.{Command, Opening}
use Rattle.cacheless.proofs.Allowed.EndsReleased.{end_from, from_block}
use Rattle.backend_core.specs.Fits.{AreHeld}

neither : (a b : Bool) → (a || b) ≡ false → (a ≡ false) × (b ≡ false)
neither true b none = absurd (cc none)
neither false b none = (refl, none)

any_take : {X : Type 0} (p : X → Bool) (n : ℕ) (xs : List X) → list_any p xs ≡ false → list_any p (take n xs) ≡ false
any_take p zero xs none = refl
any_take p (suc n) [] none = refl
any_take p (suc n) (x ∷ xs) none = let both = neither (p x) (list_any p xs) none in (λ i. both.0 i || any_take p n xs both.1 i)

any_drop : {X : Type 0} (p : X → Bool) (n : ℕ) (xs : List X) → list_any p xs ≡ false → list_any p (drop n xs) ≡ false
any_drop p zero xs none = none
any_drop p (suc n) [] none = refl
any_drop p (suc n) (x ∷ xs) none = any_drop p n xs (neither (p x) (list_any p xs) none).1

any_both : {X : Type 0} (p : X → Bool) (xs ys : List X) → list_any p xs ≡ false → list_any p ys ≡ false → list_any p (xs ++ ys) ≡ false
any_both p xs ys none nor = list_any-append p xs ys ∙ (λ i. none i || nor i)

-- the descriptors of open relations, by the relations
any_opening : (p : Opening → Bool) (opens : List OpenRelation) → list_any p (map opening_of opens) ≡ list_any (λ o. p (opening_of o)) opens
any_opening p [] = refl
any_opening p (o ∷ opens) = ap (λ t. p (opening_of o) || t) (any_opening p opens)

-- what is held still, and more
pub held_front : (held more those : List Opening) → AreHeld held those → AreHeld (held ++ more) those
held_front held more those are p none = are p (neither (list_any p held) (list_any p more) (sym (list_any-append p held more) ∙ none)).0

any_kept : {X : Type 0} (p keeps : X → Bool) (xs : List X) → list_any p xs ≡ false → list_any p (filter keeps xs) ≡ false
any_kept p keeps [] none = refl
any_kept p keeps (x ∷ xs) none = let both = neither (p x) (list_any p xs) none in by_test (keeps x) both.0 (any_kept p keeps xs both.1)
  where
    by_test : (t : Bool) → p x ≡ false → list_any p (filter keeps xs) ≡ false → list_any p (cond t (x ∷ filter keeps xs) (filter keeps xs)) ≡ false
    by_test true first rest = λ i. first i || rest i
    by_test false first rest = rest

-- what is so of none of the held descriptors is so of none of the relations that are open after the command
module _ (p : Opening → Bool) (held : List Opening) (opens : List OpenRelation) (are : AreHeld held (map opening_of opens)) (none : list_any p held ≡ false) where
  before_none : list_any (λ o. p (opening_of o)) opens ≡ false
  before_none = sym (any_opening p opens) ∙ are p none

  with_none : (number : ℕ) (name : List ℕ) → list_any p (map opening_of (opens_with number name held opens)) ≡ false
  with_none number name = by_held (slice_get held (length opens)) refl
    where
      by_held : (o : Option Opening) → slice_get held (length opens) ≡ o → list_any p (map opening_of (elim o as (λ x. List OpenRelation) [ Some x ↦ opens ++ record { name = name; rel = x.rel; kind = x.kind; command = number } ∷ [] | None ↦ opens ])) ≡ false
      by_held None at = are p none
      by_held (Some x) at = let one : OpenRelation = record { name = name; rel = x.rel; kind = x.kind; command = number } in
          any_opening p (opens ++ one ∷ []) ∙ any_both (λ o. p (opening_of o)) opens (one ∷ []) before_none
          (ap (λ t. t || false) (false_from_ne_true (p x) (λ is. both_ways _ none (any_passes_from_place p held (length opens) x at is))))

  without_none : (name : List ℕ) → list_any p (map opening_of (without_latest name opens)) ≡ false
  without_none name = by_place (place_latest name opens)
    where
      by_place : (o : Option ℕ) → list_any p (map opening_of (elim o as (λ x. List OpenRelation) [ Some at ↦ take at opens ++ drop (at + 1) opens | None ↦ opens ])) ≡ false
      by_place None = are p none
      by_place (Some at) = any_opening p (take at opens ++ drop (at + 1) opens) ∙ any_both (λ o. p (opening_of o)) (take at opens) (drop (at + 1) opens) (any_take (λ o. p (opening_of o)) at opens before_none) (any_drop (λ o. p (opening_of o)) (at + 1) opens before_none)

  kept_none : (from : ℕ) → list_any p (map opening_of (opens_before from opens)) ≡ false
  kept_none from = any_opening p (opens_before from opens) ∙ any_kept (λ o. p (opening_of o)) (λ o. nat_lt o.command from) opens before_none

  pub well_none : (number : ℕ) (command : Command) (levels : List Level) → list_any p (map opening_of (opens_well number command levels held opens)) ≡ false
  well_none number (commands.OpenRel name) levels = with_none number name
  well_none number (commands.CloseRel name) levels = without_none name
  well_none number (commands.RollbackTo name) levels = kept_none (innermost number (levels_up_to name levels))
  well_none number commands.Commit levels = refl
  well_none number commands.Rollback levels = refl
  well_none number command levels = are p none

-- after a command that failed nothing is held
pub held_badly : (s : Session) (opens : List OpenRelation) → OpensIn s.blocks.block s.opens → (s.opens ≡ [] → opens ≡ []) → held_in (blocks_badly s.blocks).block opens ≡ []
held_badly s opens inside none = by_block s.blocks.block refl
  where
    by_block : (block : Block) → s.blocks.block ≡ block → held_in (elim block as (λ x. Blocks) [ Outside ↦ s.blocks | other ↦ record { block = Failed; levels = s.blocks.levels } ]).block opens ≡ []
    by_block Outside is = ap (λ b. held_in b opens) is ∙ ap (map opening_of) (none (subst (λ b. OpensIn b s.opens) is inside))
    by_block Inside is = refl
    by_block Failed is = refl

-- once the release of a command is made, those are open that were opened before what it took back, or none, where it ended its transaction
pub opens_over : (facts : Facts) (s : Session) (command : Command) (from : ℕ) → end_from (end_in facts command (work_of s)) ≡ Some from → OpensIn s.blocks.block s.opens → opens_before (first_at facts) s.opens ≡ []
    → opens_before from s.opens ≡ opens_passed s.left (number_of s) command s.blocked s.blocks.levels (map opening_of (opens_before from s.opens)) s.opens
opens_over facts s command from comes inside since = by_outcome (outcome_of s.left) comes
  where
    held : List Opening
    held = map opening_of (opens_before from s.opens)

    ended : (commits : Bool) → end_from (end_of_block facts s.blocks.block commits) ≡ Some from → opens_before from s.opens ≡ []
    ended commits is = ap (λ n. opens_before n s.opens) (sym (from_block facts s.blocks.block commits 0 from is)) ∙ since

    none_well : (c : Command) → opens_well (number_of s) c s.blocks.levels [] [] ≡ []
    none_well (commands.OpenRel name) = refl
    none_well (commands.CloseRel name) = refl
    none_well (commands.RollbackTo name) = refl
    none_well commands.Commit = refl
    none_well commands.Rollback = refl
    none_well c = refl

    -- outside a block none is open before it, and inside one it has no release
    alone : (c : Command) → end_from (elim s.blocks.block as (λ x. End) [ Outside ↦ Commits (number_of s) | block ↦ Ends ]) ≡ Some from → opens_before from s.opens ≡ opens_well (number_of s) c s.blocks.levels held s.opens
    alone c ends = by_block s.blocks.block inside ends
      where
        by_block : (block : Block) → OpensIn block s.opens → end_from (elim block as (λ x. End) [ Outside ↦ Commits (number_of s) | other ↦ Ends ]) ≡ Some from → opens_before from s.opens ≡ opens_well (number_of s) c s.blocks.levels held s.opens
        by_block Outside none is = ap (opens_before from) none ∙ sym (none_well c) ∙ (λ i. opens_well (number_of s) c s.blocks.levels (map opening_of (opens_before from (sym none i))) (sym none i))
        by_block Inside none is = absurd (cc is)
        by_block Failed none is = absurd (cc is)

    by_command : (c : Command) → end_from (end_well_in facts c (work_of s)) ≡ Some from → opens_before from s.opens ≡ opens_well (number_of s) c s.blocks.levels held s.opens
    by_command commands.Begin is = absurd (cc is)
    by_command commands.Commit is = ended true is
    by_command commands.Rollback is = ended false is
    by_command (commands.RollbackTo name) is = ap (λ n. opens_before n s.opens) (let same : Some (innermost (number_of s) (levels_up_to name s.blocks.levels)) ≡ Some from = is in sym (cc same))
    by_command c is = alone c is

    by_blocked : (t : Bool) → end_from (elim t as (λ x. End) [ true ↦ Ends | false ↦ TakesBack (innermost (number_of s) s.blocks.levels) ]) ≡ Some from → opens_before from s.opens ≡ opens_badly (number_of s) t s.blocks.levels s.opens
    by_blocked true is = absurd (cc is)
    by_blocked false is = ap (λ n. opens_before n s.opens) (let same : Some (innermost (number_of s) s.blocks.levels) ≡ Some from = is in sym (cc same))

    by_outcome : (x : Outcome) → end_from (elim x as (λ y. End) [ Well ↦ end_well_in facts command (work_of s) | Badly ↦ end_badly_in (work_of s) | Unsettled ↦ Ends ]) ≡ Some from
        → opens_before from s.opens ≡ elim x as (λ y. List OpenRelation) [ Well ↦ opens_well (number_of s) command s.blocks.levels held s.opens | outcome ↦ opens_badly (number_of s) s.blocked s.blocks.levels s.opens ]
    by_outcome Well is = by_command command is
    by_outcome Badly is = by_blocked s.blocked is
    by_outcome Unsettled is = absurd (cc is)
