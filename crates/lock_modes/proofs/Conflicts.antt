-- What is asked of the grants of a relation is asked of all grants.
use Rattle.std.proofs.Common.{◌≡◌, ◌∙◌, ◌==◌, ◌&&◌, ◌||◌, ℕ, Bool, true, false, not, Option, List, [], ◌∷◌, filter, sym, ap, refl}
use Rattle.std.specs.List.{list_any}
use Rattle.std.proofs.lemmas.Bool.{and_parts}
use Rattle.base_types.specs.Modes.{same_mode, conflicts}
use Rattle.base_types.specs.Scans.{same_oid}
use Rattle.lock_modes.specs.Types.{Oid, Mode, Grant}
use Rattle.lock_modes.specs.Grants.{is_lock, holds, first_conflict}
use Rattle.lock_modes.specs.GrantLists.{grants_at}
use Rattle.lock_modes.specs.Kept.{Holds}
use Rattle.lock_modes.specs.declared.grant_lists.GrantLists.{GrantLists}
use Rattle.lock_modes.proofs.Filters.{find-filter, filter_step}

-- a test that passes on elements of a kind alone passes on one of them or on none
any-filter : {X : Type 0} (sought test : X → Bool) → ((x : X) → sought x ≡ true → test x ≡ true) → (xs : List X) → list_any sought (filter test xs) ≡ list_any sought xs
any-filter sought test passes [] = refl
any-filter sought test passes (x ∷ xs) = by (test x) refl (sought x) refl (any-filter sought test passes xs)
  where
    by : (t : Bool) → test x ≡ t → (s : Bool) → sought x ≡ s → list_any sought (filter test xs) ≡ list_any sought xs → list_any sought (filter test (x ∷ xs)) ≡ list_any sought (x ∷ xs)
    by true is s seek rest = ap (list_any sought) (filter_step test x xs true is) ∙ ap (λ r. sought x || r) rest
    by false is true seek rest = let never : false ≡ true = sym is ∙ passes x seek in absurd (cc)
    by false is false seek rest = ap (list_any sought) (filter_step test x xs false is) ∙ rest ∙ sym (ap (λ b. b || list_any sought xs) seek)

-- whether a backend holds a lock
pub holds_there : (rels backends : GrantLists) (held list : List Grant) (b : ℕ) (rel : Oid) (mode : Mode) (answer : Bool) → Holds rels backends held → list ≡ grants_at rels rel.0 → answer ≡ holds list b rel mode → answer ≡ holds held b rel mode
holds_there rels backends held list b rel mode answer kept is_list is =
    is ∙ ap (λ gs. holds gs b rel mode) (is_list ∙ kept.rels rel.0)
    ∙ any-filter (is_lock b rel mode) (λ g. g.rel.0 == rel.0)
    (λ g seek. (and_parts (g.backend == b) (g.rel.0 == rel.0) (and_parts ((g.backend == b) && same_oid g.rel rel) (same_mode g.mode mode) seek).0).1) held

-- whether a backend was granted a lock in a command
pub granted_there : (rels backends : GrantLists) (held list : List Grant) (b c : ℕ) (rel : Oid) (mode : Mode) (answer : Bool) → Holds rels backends held → list ≡ grants_at rels rel.0 → answer ≡ list_any (λ g. is_lock b rel mode g && (g.command == c)) list
    → answer ≡ list_any (λ g. is_lock b rel mode g && (g.command == c)) held
granted_there rels backends held list b c rel mode answer kept is_list is =
    is ∙ ap (list_any (λ g. is_lock b rel mode g && (g.command == c))) (is_list ∙ kept.rels rel.0)
    ∙ any-filter (λ g. is_lock b rel mode g && (g.command == c)) (λ g. g.rel.0 == rel.0)
    (λ g seek. (and_parts (g.backend == b) (g.rel.0 == rel.0) (and_parts ((g.backend == b) && same_oid g.rel rel) (same_mode g.mode mode) (and_parts (is_lock b rel mode g) (g.command == c) seek).0).0).1) held

-- the first grant in the way
pub conflict_there : (rels backends : GrantLists) (held list : List Grant) (b : ℕ) (rel : Oid) (mode : Mode) (found : Option Grant) → Holds rels backends held → list ≡ grants_at rels rel.0 → found ≡ first_conflict list b rel mode
    → found ≡ first_conflict held b rel mode
conflict_there rels backends held list b rel mode found kept is_list first =
    first ∙ ap (λ gs. first_conflict gs b rel mode) (is_list ∙ kept.rels rel.0)
    ∙ find-filter (λ g. not (g.backend == b) && same_oid g.rel rel && conflicts mode g.mode) (λ g. g.rel.0 == rel.0)
    (λ g seek. (and_parts (not (g.backend == b)) (g.rel.0 == rel.0) (and_parts (not (g.backend == b) && same_oid g.rel rel) (conflicts mode g.mode) seek).0).1) held
