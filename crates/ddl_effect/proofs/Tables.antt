-- The changes of a new table, as far as they are made.
use Rattle.std.proofs.Common.{◌≡◌, ◌<◌, ◌+◌, ◌∙◌, ℕ, List, [], ◌∷◌, ◌++◌, length, map, take, get_or, ap, sym, arith}
use Rattle.std.specs.List.{enumerate_from}
use Rattle.std.proofs.lemmas.List.{take_more, map-append, length-take-le}
use Rattle.ddl_effect.specs.Types.{NewColumn, Change}
use Rattle.ddl_effect.specs.Tables.{table_row, new_column}

numbered_more : {X : Type 0} (n : ℕ) (xs : List X) (x : X) (j : ℕ) → n + length xs ≡ j → enumerate_from n (xs ++ x ∷ []) ≡ enumerate_from n xs ++ (j, x) ∷ []
numbered_more n [] x j e = let same : n ≡ j = omega arith in ap (λ k. (k, x) ∷ []) same
numbered_more n (y ∷ ys) x j e = ap (λ l. (n, y) ∷ l) (numbered_more (n + 1) ys x j (omega arith))

-- the changes of a new table with these columns
abbrev pub changes_for : List ℕ → List NewColumn → List Change
changes_for name columns = table_row name ∷ map new_column (enumerate_from 1 columns)

-- one more column
pub changes_for-more : (name : List ℕ) (columns : List NewColumn) (i : ℕ) (column : NewColumn) (change : Change) → i < length columns → column ≡ get_or columns i column
    → change ≡ new_column (i + 1, column) → changes_for name (take (i + 1) columns) ≡ changes_for name (take i columns) ++ change ∷ []
changes_for-more name columns i column change within is made =
    let more : take (i + 1) columns ≡ take i columns ++ column ∷ [] = take_more columns i column within ∙ ap (λ y. take i columns ++ y ∷ []) (sym is) in
    let numbered : enumerate_from 1 (take i columns ++ column ∷ []) ≡ enumerate_from 1 (take i columns) ++ (i + 1, column) ∷ []
    = numbered_more 1 (take i columns) column (i + 1) (omega (arith, length-take-le i columns)) in
    ap (changes_for name) more
    ∙ ap (λ ps. table_row name ∷ map new_column ps) numbered
    ∙ ap (λ l. table_row name ∷ l) (map-append new_column (enumerate_from 1 (take i columns)) ((i + 1, column) ∷ []))
    ∙ ap (λ x. table_row name ∷ map new_column (enumerate_from 1 (take i columns)) ++ x ∷ []) (sym made)
