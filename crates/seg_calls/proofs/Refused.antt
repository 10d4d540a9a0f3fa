-- Of new names that are free none is refused.
use Rattle.std.proofs.Common.{◌≡◌, ◌∙◌, ◌&&◌, ℕ, true, None, List, [], ◌∷◌, ◌++◌, refl, ap}
use Rattle.std.specs.List.{list_all}
use Rattle.std.specs.Option.{option_or}
use Rattle.std.proofs.lemmas.Bool.{and_parts}
use Rattle.base_types.specs.declared.row.Row.{Row}
use Rattle.base_types.specs.declared.scan.Purpose.TheVariants.{RelName}
use Rattle.event_kinds.specs.declared.entry.Entry.{Entry}
use Rattle.history_model.specs.Changing.{is_empty}
use Rattle.history_model.specs.Names.{users_of}
use Rattle.history_model.specs.Versions.{answer_of}
use Rattle.history_model.specs.Writes.{is_free}
use Rattle.seg_calls.specs.Calls.{refused_name, first_refused}

name_free : (name users : List ℕ) (seen : List Row) → (is_empty users && is_empty seen) ≡ true → refused_name name users seen ≡ None
name_free name [] [] free = refl
name_free name [] (row ∷ seen) free = absurd (cc free)
name_free name (user ∷ users) seen free = absurd (cc free)

-- the first that is refused comes after them
pub refused_past : (before : List Entry) (b : ℕ) (free rest : List (List ℕ)) → list_all (is_free before b) free ≡ true → first_refused before b (free ++ rest) ≡ first_refused before b rest
refused_past before b [] rest all = refl
refused_past before b (name ∷ names) rest all = let parts = and_parts (is_free before b name) (list_all (is_free before b) names) all in
    ap (λ o. option_or o (first_refused before b (names ++ rest))) (name_free name (users_of before b name) (answer_of before b (RelName name)) parts.0) ∙ refused_past before b names rest parts.1

-- and where all are free none is
pub none_refused : (before : List Entry) (b : ℕ) (names : List (List ℕ)) → list_all (is_free before b) names ≡ true → first_refused before b names ≡ None
none_refused before b [] all = refl
none_refused before b (name ∷ names) all = let parts = and_parts (is_free before b name) (list_all (is_free before b) names) all in
    ap (λ o. option_or o (first_refused before b names)) (name_free name (users_of before b name) (answer_of before b (RelName name)) parts.0) ∙ none_refused before b names parts.1
