-- The first numbers and commands of a worked script.
use Rattle.std.proofs.Common.{◌≡◌, ◌++◌, ℕ, List, [], ◌∷◌, codes, refl}
use Rattle.std.specs.Fmt.{digits}
use Rattle.std.specs.List.{flat_map}
use Rattle.script_text.specs.Spelling.{with_piece, with_pieces, placed_pieces, listed}
use Rattle.make_script.specs.Draws.{next, drawn}
use Rattle.make_script.specs.Scripts.{commands_after, draw_after}

-- the first four numbers after 7
numbers_after_seven : (next 7 ≡ 1282168116) × (next 1282168116 ≡ 642666333) × (next 642666333 ≡ 712265938) × (next 712265938 ≡ 1486001571)
unfolding next
numbers_after_seven = (refl, refl, refl, refl)

-- a text with a line feed after each line
abbrev text : List (List ℕ) → List ℕ
text [] = []
text (line ∷ lines) = line ++ 10 ∷ text lines

-- the first commands after it, as lines
commands_after_seven : with_pieces [] (flat_map placed_pieces (commands_after 10 7))
    ≡ text (codes "1: alter table t4 rename column b to c4" ∷ codes "4: create index i2 on t2 (a)" ∷ codes "3: create index i1 on t1 (a)"
    ∷ codes "2: alter table t6 alter column a set statistics 74" ∷ codes "2: alter table t1 add column c4 int8" ∷ codes "3: create table t4 (a int4, b text)"
    ∷ codes "4: show t2" ∷ codes "2: alter table t7 set (fillfactor = 83)" ∷ codes "3: create table t5 (a int4, b text)" ∷ codes "3: columns t2" ∷ [])
unfolding commands_after draw_after next drawn with_piece listed digits
commands_after_seven = refl
