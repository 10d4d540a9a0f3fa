-- What holds of each relation that a session has open, and of each descriptor that it holds, holds of those that are open after its command.
use Rattle.std.proofs.Common.{◌+◌, ℕ, zero, suc, Bool, true, false, Option, Some, None, List, [], ◌∷◌, ◌++◌, take, drop, length, slice_get}
use Rattle.std.specs.Prelude.{IfSome}
use Rattle.std.specs.List.{AllByRecursion}
use Rattle.base_types.specs.declared.command.Command.TheVariants as commands
use Rattle.ddl_effect.specs.Opens.{place_latest, without_latest, opens_before}
use Rattle.txn_blocks.specs.Blocks.{Block, Outside, Inside, Failed, Level}
use Rattle.history_model.proofs.Every.{every-append, every-kept, every-map}
use Rattle.cacheless.specs.Session.{Session, Outcome, Unsettled, Well, Badly, outcome_of, opening_of, held_in}
use Rattle.cacheless.specs.Settled.{opens_with, opens_well, opens_badly, opens_after}
use Rattle.cacheless.specs.Types.{Oid, Kind, Command, OpenRelation, Opening}

-- P holds of each relation that is open, with its kind
abbrev pub IsOpenEach : (Oid → Kind → Type 0) → List OpenRelation → Type 0
IsOpenEach P opens = AllByRecursion (λ o. P o.rel o.kind) opens

-- and of each descriptor that is held
abbrev pub IsHeldEach : (Oid → Kind → Type 0) → List Opening → Type 0
IsHeldEach P opened = AllByRecursion (λ o. P o.rel o.kind) opened

pub each_taken : {X : Type 0} (P : X → Type 0) (n : ℕ) (xs : List X) → AllByRecursion P xs → AllByRecursion P (take n xs)
each_taken P zero xs all = tt
each_taken P (suc n) [] all = tt
each_taken P (suc n) (x ∷ xs) all = (all.0, each_taken P n xs all.1)

pub each_dropped : {X : Type 0} (P : X → Type 0) (n : ℕ) (xs : List X) → AllByRecursion P xs → AllByRecursion P (drop n xs)
each_dropped P zero xs all = all
each_dropped P (suc n) [] all = tt
each_dropped P (suc n) (x ∷ xs) all = each_dropped P n xs all.1

pub each_placed : {X : Type 0} (P : X → Type 0) (xs : List X) (n : ℕ) → AllByRecursion P xs → IfSome (slice_get xs n) P
each_placed P [] n all = tt
each_placed P (x ∷ xs) zero all = all.0
each_placed P (x ∷ xs) (suc n) all = each_placed P xs n all.1

-- of the descriptors that are held at the beginning of a command
pub held_each : (P : Oid → Kind → Type 0) (block : Block) (opens : List OpenRelation) → IsOpenEach P opens → IsHeldEach P (held_in block opens)
held_each P Failed opens all = tt
held_each P Outside opens all = every-map (λ o. P o.rel o.kind) opening_of opens all
held_each P Inside opens all = every-map (λ o. P o.rel o.kind) opening_of opens all

-- of the relations that were opened before a command
pub before_each : (P : Oid → Kind → Type 0) (from : ℕ) (opens : List OpenRelation) → IsOpenEach P opens → IsOpenEach P (opens_before from opens)
before_each P from opens all = every-kept (λ o. P o.rel o.kind) _ opens all

without_each : (P : Oid → Kind → Type 0) (name : List ℕ) (opens : List OpenRelation) → IsOpenEach P opens → IsOpenEach P (without_latest name opens)
without_each P name opens all = of (place_latest name opens)
  where
    of : (o : Option ℕ) → IsOpenEach P (elim o as (λ x. List OpenRelation) [ Some at ↦ take at opens ++ drop (at + 1) opens | None ↦ opens ])
    of None = all
    of (Some at) = every-append (λ o. P o.rel o.kind) (take at opens) (drop (at + 1) opens) (each_taken (λ o. P o.rel o.kind) at opens all) (each_dropped (λ o. P o.rel o.kind) (at + 1) opens all)

with_each : (P : Oid → Kind → Type 0) (number : ℕ) (name : List ℕ) (opened : List Opening) (opens : List OpenRelation) → IsOpenEach P opens → IsHeldEach P opened → IsOpenEach P (opens_with number name opened opens)
with_each P number name opened opens all held = of (slice_get opened (length opens)) (each_placed (λ o. P o.rel o.kind) opened (length opens) held)
  where
    of : (o : Option Opening) → IfSome o (λ d. P d.rel d.kind) → IsOpenEach P (elim o as (λ x. List OpenRelation) [ Some o ↦ opens ++ record { name = name; rel = o.rel; kind = o.kind; command = number } ∷ [] | None ↦ opens ])
    of None is = all
    of (Some o) is = every-append (λ d. P d.rel d.kind) opens (record { name = name; rel = o.rel; kind = o.kind; command = number } ∷ []) all (is, tt)

well_each : (P : Oid → Kind → Type 0) (number : ℕ) (command : Command) (levels : List Level) (opened : List Opening) (opens : List OpenRelation) → IsOpenEach P opens → IsHeldEach P opened → IsOpenEach P (opens_well number command levels opened opens)
well_each P number (commands.OpenRel name) levels opened opens all held = with_each P number name opened opens all held
well_each P number (commands.CloseRel name) levels opened opens all held = without_each P name opens all
well_each P number (commands.RollbackTo name) levels opened opens all held = before_each P _ opens all
well_each P number commands.Commit levels opened opens all held = tt
well_each P number commands.Rollback levels opened opens all held = tt
well_each P number command levels opened opens all held = all

badly_each : (P : Oid → Kind → Type 0) (number : ℕ) (blocked : Bool) (levels : List Level) (opens : List OpenRelation) → IsOpenEach P opens → IsOpenEach P (opens_badly number blocked levels opens)
badly_each P number true levels opens all = all
badly_each P number false levels opens all = before_each P _ opens all

-- of the relations that are open after a command
pub after_each : (P : Oid → Kind → Type 0) (command : Command) (s : Session) → IsOpenEach P s.opens → IsHeldEach P s.opened → IsOpenEach P (opens_after command s)
after_each P command s all held = of (outcome_of s.left)
  where
    number : ℕ
    number = length s.finished + 1

    of : (o : Outcome) → IsOpenEach P (elim o as (λ x. List OpenRelation) [ Well ↦ opens_well number command s.blocks.levels s.opened s.opens | outcome ↦ opens_badly number s.blocked s.blocks.levels s.opens ])
    of Well = well_each P number command s.blocks.levels s.opened s.opens all held
    of Unsettled = badly_each P number s.blocked s.blocks.levels s.opens all
    of Badly = badly_each P number s.blocked s.blocks.levels s.opens all
