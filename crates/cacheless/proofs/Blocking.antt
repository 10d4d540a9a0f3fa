-- Whether a command is blocked as it begins.
use Rattle.std.proofs.Common.{◌≡◌, ◌∙◌, Bool, true, false, not, Option, Some, None, refl, ap, is_some}
use Rattle.txn_blocks.specs.Blocks.{Block, Outside, Inside, Failed, Blocks, is_open, is_failed, refused_by}
use Rattle.cacheless.specs.Types.{Command, CommandError}
use Rattle.cacheless.specs.Session.{is_blocked}

-- where nothing refuses the command, no kind of block blocks it
blocks_none : (block : Block) → elim block as (λ x. Bool) [ Inside ↦ false | other ↦ false ] ≡ false
blocks_none Inside = refl
blocks_none block = refl

-- nothing is blocked after the last command, or where the blocks admit the command
pub unblocked_last : (blocks : Blocks) → is_blocked blocks None ≡ false
unblocked_last blocks = blocks_none blocks.block

pub unblocked : (blocks : Blocks) (command : Command) → refused_by blocks command ≡ None → is_blocked blocks (Some command) ≡ false
unblocked blocks command admits = ap (λ (o : Option CommandError). elim blocks.block as (λ x. Bool) [ Inside ↦ false | other ↦ is_some o ]) admits ∙ blocks_none blocks.block

-- a refused command is blocked in a failed block
pub blocked_failed : (blocks : Blocks) (command : Command) (error : CommandError) → refused_by blocks command ≡ Some error → is_failed blocks ≡ true → is_blocked blocks (Some command) ≡ true
blocked_failed blocks command error refuses = λ failed. ap (λ (o : Option CommandError). elim blocks.block as (λ x. Bool) [ Inside ↦ false | other ↦ is_some o ]) refuses ∙ by_block blocks.block failed
  where
    by_block : (block : Block) → elim block as (λ x. Bool) [ Failed ↦ true | other ↦ false ] ≡ true → elim block as (λ x. Bool) [ Inside ↦ false | other ↦ true ] ≡ true
    by_block Failed is = refl
    by_block Outside is = refl
    by_block Inside is = absurd (cc is)

-- and in no failed block it is blocked exactly where no block is open
pub blocked_unless_open : (blocks : Blocks) (command : Command) (error : CommandError) → refused_by blocks command ≡ Some error → is_failed blocks ≡ false → is_blocked blocks (Some command) ≡ not (is_open blocks)
blocked_unless_open blocks command error refuses = λ unfailed. ap (λ (o : Option CommandError). elim blocks.block as (λ x. Bool) [ Inside ↦ false | other ↦ is_some o ]) refuses ∙ by_block blocks.block unfailed
  where
    by_block : (block : Block) → elim block as (λ x. Bool) [ Failed ↦ true | other ↦ false ] ≡ false → elim block as (λ x. Bool) [ Inside ↦ false | other ↦ true ] ≡ not (elim block as (λ x. Bool) [ Outside ↦ false | other ↦ true ])
    by_block Failed is = absurd (cc is)
    by_block Outside is = refl
    by_block Inside is = refl
