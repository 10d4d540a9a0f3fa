-- The relations that a backend has open are of its block, and of its transaction.
use Rattle.std.proofs.Common.{◌≡◌, ◌∙◌, ℕ, zero, suc, Bool, true, false, Option, Some, None, List, [], ◌∷◌, ◌++◌, ◌+◌, ◌||◌, ◌≤◌, cond, filter, arith, refl, sym, ap, subst, length, take, drop, slice_get}
use Rattle.std.specs.Prelude.{nat_lt}
use Rattle.std.specs.List.{list_any}
use Rattle.std.proofs.lemmas.Bool.{le-ltb}
use Rattle.std.proofs.lemmas.List.Folds.{list_any-append}
use Rattle.base_types.specs.declared.command.Command.TheVariants as commands
use Rattle.command_answers.specs.declared.error.CommandError.TheVariants as errors
use Rattle.ddl_effect.specs.Opens.{place_latest, without_latest, opens_before}
use Rattle.txn_blocks.specs.Blocks.{Block, Outside, Inside, Failed, Blocks, refused_in, refused_by, innermost, levels_up_to, blocks_begun, blocks_well, blocks_badly}
use Rattle.cacheless.specs.Session.{Session, Outcome, Well, Badly, Unsettled, number_of, outcome_of, is_settled, plan_first}
use Rattle.cacheless.specs.Settled.{opens_with, opens_well, opens_badly, opens_after, blocks_after}
use Rattle.cacheless.specs.Types.{Command, OpenRelation, Opening}
use Rattle.cacheless.specs.OwnTransaction.{OpensIn}
use Rattle.cacheless.proofs.Allowed.NextTransaction.{block_open, well_admitted}

neither : (a b : Bool) → (a || b) ≡ false → (a ≡ false) × (b ≡ false)
neither true b none = absurd (cc none)
neither false b none = (refl, none)

any_take : {X : Type 0} (p : X → Bool) (n : ℕ) (xs : List X) → list_any p xs ≡ false → list_any p (take n xs) ≡ false
any_take p zero xs none = refl
any_take p (suc n) [] none = refl
any_take p (suc n) (x ∷ xs) none = let both = neither (p x) (list_any p xs) none in (λ i. both.0 i || any_take p n xs both.1 i)

any_drop : {X : Type 0} (p : X → Bool) (n : ℕ) (xs : List X) → list_any p xs ≡ false → list_any p (drop n xs) ≡ false
any_drop p zero xs none = none
any_drop p (suc n) [] none = refl
any_drop p (suc n) (x ∷ xs) none = any_drop p n xs (neither (p x) (list_any p xs) none).1

any_both : {X : Type 0} (p : X → Bool) (xs ys : List X) → list_any p xs ≡ false → list_any p ys ≡ false → list_any p (xs ++ ys) ≡ false
any_both p xs ys none nor = list_any-append p xs ys ∙ (λ i. none i || nor i)

any_kept : {X : Type 0} (p keeps : X → Bool) (xs : List X) → list_any p xs ≡ false → list_any p (filter keeps xs) ≡ false
any_kept p keeps [] none = refl
any_kept p keeps (x ∷ xs) none = let both = neither (p x) (list_any p xs) none in by_test (keeps x) both.0 (any_kept p keeps xs both.1)
  where
    by_test : (t : Bool) → p x ≡ false → list_any p (filter keeps xs) ≡ false → list_any p (cond t (x ∷ filter keeps xs) (filter keeps xs)) ≡ false
    by_test true first rest = λ i. first i || rest i
    by_test false first rest = rest

-- none is open after it, but in a block
pub inside_next : (o : Option Command) (s : Session) (command : Command) → o ≡ Some command → (is_settled (outcome_of (plan_first s.blocks s.opens o)) ≡ true → s.left ≡ plan_first s.blocks s.opens o) → OpensIn s.blocks.block s.opens → OpensIn (blocks_after command s).block (opens_after command s)
inside_next o s command at settled inside = by_outcome (outcome_of s.left) refl
  where
    -- a command that needs a block has one
    in_block : (opens : List OpenRelation) (c : Command) → refused_in Outside c ≡ Some errors.NoBlock → refused_by s.blocks c ≡ None → OpensIn s.blocks.block opens
    in_block opens c needs admitted = by_block s.blocks.block (block_open s.blocks c needs admitted)
      where
        by_block : (block : Block) → elim block as (λ x. Bool) [ Outside ↦ false | other ↦ true ] ≡ true → OpensIn block opens
        by_block Inside is = tt
        by_block Failed is = tt
        by_block Outside is = absurd (cc is)

    begun : (number : ℕ) → OpensIn (blocks_begun number s.blocks).block s.opens
    begun number = by_block s.blocks.block
      where
        by_block : (block : Block) → OpensIn (elim block as (λ x. Blocks) [ Outside ↦ record { block = Inside; levels = record { first = number; savepoint = None } ∷ [] } | other ↦ s.blocks ]).block s.opens
        by_block Outside = tt
        by_block Inside = inside
        by_block Failed = inside

    by_command : (c : Command) → refused_by s.blocks c ≡ None → OpensIn (blocks_well (number_of s) c s.blocks).block (opens_well (number_of s) c s.blocks.levels s.opened s.opens)
    by_command commands.Begin admitted = begun (number_of s)
    by_command commands.Commit admitted = refl
    by_command commands.Rollback admitted = refl
    by_command (commands.RollbackTo name) admitted = tt
    by_command (commands.OpenRel name) admitted = in_block (opens_with (number_of s) name s.opened s.opens) (commands.OpenRel name) refl admitted
    by_command (commands.CloseRel name) admitted = in_block (without_latest name s.opens) (commands.CloseRel name) refl admitted
    by_command c admitted = inside

    badly : (block : Block) → s.blocks.block ≡ block → OpensIn (elim block as (λ x. Blocks) [ Outside ↦ s.blocks | other ↦ record { block = Failed; levels = s.blocks.levels } ]).block (opens_badly (number_of s) s.blocked s.blocks.levels s.opens)
    badly Outside is = subst (λ b. OpensIn b (opens_badly (number_of s) s.blocked s.blocks.levels s.opens)) (sym is) (by_blocked s.blocked)
      where
        none : s.opens ≡ []
        none = subst (λ b. OpensIn b s.opens) is inside

        by_blocked : (t : Bool) → opens_badly (number_of s) t s.blocks.levels s.opens ≡ []
        by_blocked true = none
        by_blocked false = ap (opens_before (innermost (number_of s) s.blocks.levels)) none
    badly Inside is = tt
    badly Failed is = tt

    by_outcome : (x : Outcome) → outcome_of s.left ≡ x
        → OpensIn (elim x as (λ y. Blocks) [ Well ↦ blocks_well (number_of s) command s.blocks | outcome ↦ blocks_badly s.blocks ]).block (elim x as (λ y. List OpenRelation) [ Well ↦ opens_well (number_of s) command s.blocks.levels s.opened s.opens | outcome ↦ opens_badly (number_of s) s.blocked s.blocks.levels s.opens ])
    by_outcome Well is = by_command command (well_admitted o s command at settled is)
    by_outcome Badly is = badly s.blocks.block refl
    by_outcome Unsettled is = badly s.blocks.block refl

-- the relations of a transaction are of commands from its first one on
since_push : (from : ℕ) (opens : List OpenRelation) (o : OpenRelation) → from ≤ o.command → opens_before from opens ≡ [] → opens_before from (opens ++ o ∷ []) ≡ []
since_push from [] o late none = ap (λ t. cond t (o ∷ []) []) (le-ltb o.command from late)
since_push from (x ∷ opens) o late none = by_test (nat_lt x.command from) none (since_push from opens o late)
  where
    by_test : (t : Bool) → cond t (x ∷ opens_before from opens) (opens_before from opens) ≡ [] → (opens_before from opens ≡ [] → opens_before from (opens ++ o ∷ []) ≡ []) → cond t (x ∷ opens_before from (opens ++ o ∷ [])) (opens_before from (opens ++ o ∷ [])) ≡ []
    by_test true some rest = absurd (cc some)
    by_test false without rest = rest without

-- none of some of them is earlier, where none of all is
since_any : (from : ℕ) (opens : List OpenRelation) → opens_before from opens ≡ [] → list_any (λ o. nat_lt o.command from) opens ≡ false
since_any from [] none = refl
since_any from (x ∷ opens) none = by_test (nat_lt x.command from) none (since_any from opens)
  where
    by_test : (t : Bool) → cond t (x ∷ opens_before from opens) (opens_before from opens) ≡ [] → (opens_before from opens ≡ [] → list_any (λ o. nat_lt o.command from) opens ≡ false) → (t || list_any (λ o. nat_lt o.command from) opens) ≡ false
    by_test true some rest = absurd (cc some)
    by_test false without rest = rest without

any_since : (from : ℕ) (opens : List OpenRelation) → list_any (λ o. nat_lt o.command from) opens ≡ false → opens_before from opens ≡ []
any_since from [] none = refl
any_since from (x ∷ opens) none = let both = neither (nat_lt x.command from) (list_any (λ o. nat_lt o.command from) opens) none in
    ap (λ t. cond t (x ∷ opens_before from opens) (opens_before from opens)) both.0 ∙ any_since from opens both.1

-- so it is of those that are open after a command
pub since_next : (from : ℕ) (s : Session) (command : Command) → from ≤ number_of s → opens_before from s.opens ≡ [] → opens_before from (opens_after command s) ≡ []
since_next from s command late none = by_outcome (outcome_of s.left)
  where
    kept : (n : ℕ) → opens_before from (opens_before n s.opens) ≡ []
    kept n = any_since from (opens_before n s.opens) (any_kept (λ o. nat_lt o.command from) (λ o. nat_lt o.command n) s.opens (since_any from s.opens none))

    opened : (name : List ℕ) (o : Option Opening) → opens_before from (elim o as (λ x. List OpenRelation) [ Some x ↦ s.opens ++ record { name = name; rel = x.rel; kind = x.kind; command = number_of s } ∷ [] | None ↦ s.opens ]) ≡ []
    opened name None = none
    opened name (Some x) = since_push from s.opens (record { name = name; rel = x.rel; kind = x.kind; command = number_of s }) late none

    closed : (o : Option ℕ) → opens_before from (elim o as (λ x. List OpenRelation) [ Some at ↦ take at s.opens ++ drop (at + 1) s.opens | None ↦ s.opens ]) ≡ []
    closed None = none
    closed (Some at) = any_since from (take at s.opens ++ drop (at + 1) s.opens)
        (any_both (λ o. nat_lt o.command from) (take at s.opens) (drop (at + 1) s.opens) (any_take (λ o. nat_lt o.command from) at s.opens (since_any from s.opens none)) (any_drop (λ o. nat_lt o.command from) (at + 1) s.opens (since_any from s.opens none)))

    by_command : (c : Command) → opens_before from (opens_well (number_of s) c s.blocks.levels s.opened s.opens) ≡ []
    by_command (commands.OpenRel name) = opened name (slice_get s.opened (length s.opens))
    by_command (commands.CloseRel name) = closed (place_latest name s.opens)
    by_command (commands.RollbackTo name) = kept (innermost (number_of s) (levels_up_to name s.blocks.levels))
    by_command commands.Commit = refl
    by_command commands.Rollback = refl
    by_command c = none

    by_blocked : (t : Bool) → opens_before from (opens_badly (number_of s) t s.blocks.levels s.opens) ≡ []
    by_blocked true = none
    by_blocked false = kept (innermost (number_of s) s.blocks.levels)

    by_outcome : (x : Outcome) → opens_before from (elim x as (λ y. List OpenRelation) [ Well ↦ opens_well (number_of s) command s.blocks.levels s.opened s.opens | outcome ↦ opens_badly (number_of s) s.blocked s.blocks.levels s.opens ]) ≡ []
    by_outcome Well = by_command command
    by_outcome Badly = by_blocked s.blocked
    by_outcome Unsettled = by_blocked s.blocked

-- before the first command none was opened
pub since_none : (opens : List OpenRelation) → opens_before 0 opens ≡ []
since_none [] = refl
since_none (o ∷ opens) = ap (λ t. cond t (o ∷ opens_before 0 opens) (opens_before 0 opens)) (le-ltb o.command 0 (omega arith)) ∙ since_none opens
