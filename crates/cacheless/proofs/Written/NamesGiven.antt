-- The new names that a write gives relations are those that its plan names, where the rows of the relations that its command has opened were read as they are.
use Rattle.std.proofs.Common.{◌≡◌, ◌∙◌, ◌||◌, ℕ, Bool, true, false, Option, Some, List, [], ◌∷◌, ◌++◌, refl, sym, ap, subst}
use Rattle.std.specs.Prelude.{if◌then◌else◌}
use Rattle.std.specs.List.{AllByRecursion, list_any, flat_map}
use Rattle.std.specs.Str.{bytes_eq}
use Rattle.base_types.specs.declared.row.Row.TheVariants as rows
use Rattle.base_types.specs.declared.scan.Purpose.TheVariants as scans
use Rattle.event_kinds.specs.declared.entry.Item.TheVariants as forms
use Rattle.history_model.specs.Names.{has_name, new_name, new_names}
use Rattle.history_model.specs.Versions.{answer_of, old_row}
use Rattle.history_model.proofs.Locked.{IsSeenAs}
use Rattle.cacheless.specs.Types.{Oid, Kind, Entry, Item, Opening}
use Rattle.cacheless.specs.Facts.{Facts}
use Rattle.local_caches.specs.Kept.{rows_kept}

-- the new name that an item gives a relation, if it gives one: none where the row that was read has it already
abbrev pub names_of : Facts → Item → List (List ℕ)
names_of facts (forms.Add (rows.Class oid name kind fill)) = name ∷ []
names_of facts (forms.Put (rows.Class oid name kind fill)) = if list_any (has_name name) (rows_kept facts.kept (scans.Class oid)) then [] else name ∷ []
names_of facts item = []

-- what was read last of the rows of these relations is what is seen of them
abbrev pub AreReadAsNow : List Entry → ℕ → Facts → List Opening → Type 0
AreReadAsNow before b facts relations = AllByRecursion (λ (o : Opening). rows_kept facts.kept (scans.Class o.rel) ≡ answer_of before b (scans.Class o.rel)) relations

-- then each new name that these items give is one that their plan names
abbrev pub AreNamesGiven : List Entry → ℕ → List Opening → List Item → Type 0
AreNamesGiven before b relations items =
    (facts : Facts) → AreReadAsNow before b facts relations → (name : List ℕ) → list_any (bytes_eq name) (new_names before b items) ≡ true → list_any (bytes_eq name) (flat_map (names_of facts) items) ≡ true

-- so it is where they give none
pub names_none : (before : List Entry) (b : ℕ) (relations : List Opening) (items : List Item) → new_names before b items ≡ [] → AreNamesGiven before b relations items
names_none before b relations items none = λ facts read name is. absurd (let no : false ≡ true = sym (ap (list_any (bytes_eq name)) none) ∙ is in cc no)

drop_false : (t : Bool) → (t || false) ≡ t
drop_false true = refl
drop_false false = refl

-- and where they rename the relation that was found: to the name that it has already is no new name
pub renamed_given : (before : List Entry) (b : ℕ) (rel : Oid) (own to : List ℕ) (kind : Kind) (old new : Option ℕ) → IsSeenAs before b rel own kind → old_row before b (forms.Put (rows.Class rel to kind new)) ≡ Some (rows.Class rel own kind old)
    → AreNamesGiven before b (record { rel = rel; kind = kind } ∷ []) (forms.Put (rows.Class rel to kind new) ∷ [])
renamed_given before b rel own to kind old new seen was = λ facts read name is. subst (λ l. list_any (bytes_eq name) l ≡ true) (sym (same facts read.0)) is
  where
    items : List Item
    items = forms.Put (rows.Class rel to kind new) ∷ []

    same : (facts : Facts) → rows_kept facts.kept (scans.Class rel) ≡ answer_of before b (scans.Class rel) → flat_map (names_of facts) items ≡ new_names before b items
    same facts read =
        ap (λ l. (if list_any (has_name to) l then [] else to ∷ []) ++ []) (read ∙ seen.1)
        ∙ ap (λ t. (if t then [] else to ∷ []) ++ []) (drop_false (bytes_eq own to))
        ∙ sym (ap (λ o. new_name o (Some (rows.Class rel to kind new)) ++ []) was)
