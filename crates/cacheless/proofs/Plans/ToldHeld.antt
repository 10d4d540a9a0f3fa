-- What a command tells of is open: it has opened it itself, or the session had it open before.
use Rattle.std.proofs.Common.{◌≡◌, ◌∙◌, ℕ, Bool, true, false, Option, Some, None, List, [], ◌∷◌, ◌++◌, zero, suc, Contains, refl, sym, ap, subst, map, append-nil, length, nat_le, arith}
use Rattle.std.specs.Prelude.{⊤, slice_get}
use Rattle.std.specs.Option.{option_and_then, option_or}
use Rattle.std.proofs.lemmas.List.Elements.{Contains-append_left, Contains-append_right}
use Rattle.base_types.specs.Fields.{has_field}
use Rattle.base_types.specs.declared.command.Command.TheVariants as commands
use Rattle.base_types.specs.declared.command.NewColumn.{NewColumn}
use Rattle.base_types.specs.declared.dropped.TheConstants.{MOST_COLUMNS}
use Rattle.command_answers.specs.declared.error.CommandError.TheVariants as errors
use Rattle.ddl_effect.specs.declared.told.Told.TheVariants as tells
use Rattle.ddl_effect.specs.Plans.{Plan, Done}
use Rattle.ddl_effect.specs.Commands.{plan_of, if_passes, if_no_column, first_twice, writing, new_table, told_fields, peeking, closing}
use Rattle.ddl_effect.specs.Opens.{place_latest, latest_open}
use Rattle.cacheless.specs.Types.{Field, Row, Command, OpenRelation, Draft, Opening, Told}
use Rattle.cacheless.specs.ActsDone.{reached, made_in, opening_by}
use Rattle.txn_blocks.specs.Blocks.{Block, Outside, Inside, Failed, Blocks, refused_in, refused_of, refused_by}
use Rattle.cacheless.specs.Session.{opening_of, held_in}
use Rattle.cacheless.proofs.Plans.UnderLocks.{TellsOpen, at_first, footing_after, FollowsUnfound, FollowsOrder, begins_unfound, follows_reached}
use Rattle.cacheless.proofs.Plans.Ways.{acts, reached-over, made_in-over}

held_at : (opens : List OpenRelation) (at : ℕ) (o : OpenRelation) → slice_get opens at ≡ Some o → Contains (map opening_of opens) (opening_of o)
held_at [] at o is = absurd (cc is)
held_at (one ∷ opens) zero o is = Contains-append_left (opening_of one ∷ []) (map opening_of opens) (opening_of o) (0, omega arith, ap opening_of same)
  where
    same : one ≡ o
    same = cc is
held_at (one ∷ opens) (suc at) o is = Contains-append_right (opening_of one ∷ []) (map opening_of opens) (opening_of o) (held_at opens at o is)

-- the descriptor of the latest relation that was opened under a name is held
pub latest_held : (name : List ℕ) (opens : List OpenRelation) (o : OpenRelation) → latest_open name opens ≡ Some o → Contains (map opening_of opens) (opening_of o)
latest_held name opens o is = by_place (place_latest name opens) is
  where
    by_place : (p : Option ℕ) → option_and_then (slice_get opens) p ≡ Some o → Contains (map opening_of opens) (opening_of o)
    by_place None none = absurd (cc none)
    by_place (Some at) got = held_at opens at o got

-- a plan that is over at its beginning tells only of what was open before
abbrev pub TellsFirst : List Opening → Plan → Type 0
TellsFirst held (Done told) = TellsOpen held told
TellsFirst held plan = ⊤

first_creating : (held : List Opening) (passes : Bool) (twice : Option (List ℕ)) (draft : Draft) → TellsFirst held (if_passes passes errors.TooManyColumns (if_no_column twice (writing draft)))
first_creating held false twice draft = tt
first_creating held true None draft = tt
first_creating held true (Some column) draft = tt

first_peeking : (opens : List OpenRelation) (name : List ℕ) (field : Option Field) (latest : Option OpenRelation) → latest_open name opens ≡ latest → TellsFirst (map opening_of opens) (peeking name field latest)
first_peeking opens name field None is = tt
first_peeking opens name None (Some o) is = latest_held name opens o is
first_peeking opens name (Some field) (Some o) is = by_test (has_field o.kind field) refl
  where
    by_test : (t : Bool) → has_field o.kind field ≡ t → TellsFirst (map opening_of opens) (if_passes t (errors.NoField name field) (Done (told_fields (Some field) o.rel o.kind)))
    by_test true has = (latest_held name opens o is, has)
    by_test false has = tt

first_closing : (held : List Opening) (name : List ℕ) (latest : Option OpenRelation) → TellsFirst held (closing name latest)
first_closing held name None = tt
first_closing held name (Some o) = tt

-- the plan of each command is such
pub tells_first : (opens : List OpenRelation) (command : Command) → TellsFirst (map opening_of opens) (plan_of opens command)
tells_first opens (commands.Show name None) = tt
tells_first opens (commands.Show name (Some field)) = tt
tells_first opens (commands.CreateTable name columns) = first_creating (map opening_of opens) (nat_le (length columns) MOST_COLUMNS) (first_twice [] (map (λ (c : NewColumn). c.name) columns)) (new_table name columns)
tells_first opens (commands.Peek name field) = first_peeking opens name field (latest_open name opens) refl
tells_first opens (commands.CloseRel name) = first_closing (map opening_of opens) name (latest_open name opens)
tells_first opens command = tt

-- and so of what is held, where the blocks admit the command: in a failed block only those that end or mend it
pub tells_held : (blocks : Blocks) (opens : List OpenRelation) (command : Command) → refused_by blocks command ≡ None → TellsFirst (held_in blocks.block opens) (plan_of opens command)
tells_held blocks opens command admitted = by_block blocks.block admitted
  where
    in_failed : (c : Command) → option_or (refused_in Failed c) (refused_of blocks.levels c) ≡ None → TellsFirst [] (plan_of opens c)
    in_failed (commands.Show name None) none = tt
    in_failed (commands.Show name (Some field)) none = tt
    in_failed (commands.CreateTable name columns) none = absurd (cc none)
    in_failed (commands.Peek name field) none = absurd (cc none)
    in_failed (commands.CloseRel name) none = absurd (cc none)
    in_failed c none = tt

    by_block : (block : Block) → option_or (refused_in block command) (refused_of blocks.levels command) ≡ None → TellsFirst (held_in block opens) (plan_of opens command)
    by_block Outside none = tells_first opens command
    by_block Inside none = tells_first opens command
    by_block Failed none = in_failed command none

-- a plan that is over tells what it told at its beginning
over_told : (held : List Opening) (gave : List (List Row)) (plan : Plan) (told : Told) → acts plan ≡ false → TellsFirst held plan → reached gave plan ≡ Done told → TellsOpen (held ++ made_in opening_by gave plan) told
over_told held gave plan told over first done = subst (λ l. TellsOpen (held ++ l) told) (sym (made_in-over opening_by gave plan over)) (subst (λ l. TellsOpen l told) (sym (append-nil held)) (subst (TellsFirst held) (sym (reached-over gave plan over) ∙ done) first))

-- what is open among others is open
tells_more : (held opened : List Opening) (told : Told) → TellsOpen opened told → TellsOpen (held ++ opened) told
tells_more held opened (tells.Relation rel kind) has = Contains-append_right held opened (record { rel = rel; kind = kind }) has
tells_more held opened (tells.Field rel kind field) has = (Contains-append_right held opened (record { rel = rel; kind = kind }) has.0, has.1)
tells_more held opened told has = tt

-- what a plan tells that is done is open: it was open before, or the command has opened it
pub ends_told : (held : List Opening) (gave : List (List Row)) (plan : Plan) (told : Told) → FollowsOrder plan → TellsFirst held plan → reached gave plan ≡ Done told → TellsOpen (held ++ made_in opening_by gave plan) told
ends_told held gave plan told follows first done = by_test (acts plan) refl
  where
    by_test : (t : Bool) → acts plan ≡ t → TellsOpen (held ++ made_in opening_by gave plan) told
    by_test true begins = tells_more held (made_in opening_by gave plan) told (subst (FollowsUnfound (footing_after gave plan at_first)) done (follows_reached at_first gave plan (begins_unfound plan begins follows)))
    by_test false over = over_told held gave plan told over first done
