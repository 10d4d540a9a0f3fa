-- A loop that reads more values, a fixed text before each, at most so many.
use Rattle.std.proofs.Common.{◌≡◌, ℕ, suc, ◌+◌, ◌-◌, ◌<◌, Bool, true, false, not, List, [], ◌∷◌, ◌++◌, Option, Some, None, refl, sym, ap, ◌∙◌, append_assoc, append-nil, arith}
use Rattle.std.specs.Prelude.{MatchOption, is_some}
use Rattle.event_kinds.specs.Readers.{Reader, lit_at, pair_at, as_at, or_at, more_at, with_front}

-- one turn fewer is left
one_turn : (most turn : ℕ) → turn < most → most - turn ≡ suc (most - (turn + 1))
one_turn most turn h = omega arith

no_turn : (most turn : ℕ) → (turn < most → ⊥) → most - turn ≡ 0
no_turn most turn h = omega arith

-- the bytes don't begin with the fixed text: nothing more is read
pub loop_stops : {X : Type 0} (lit : List ℕ) (f : Reader X) (most turn : ℕ) (front : List X) (bytes : List ℕ) (whole : Option (List X × List ℕ)) → turn < most
    → lit_at lit bytes ≡ None → with_front front (more_at lit f (most - turn) bytes) ≡ whole → whole ≡ Some (front, bytes)
unfolding more_at
loop_stops lit f most turn front bytes whole within missing same =
    sym same ∙ ap (λ n. with_front front (more_at lit f n bytes)) (one_turn most turn within) ∙ rw (missing, or_at) (ap (λ l. Some (l, bytes)) (append-nil front))

-- they begin with it, and no value follows
pub loop_fails : {X : Type 0} (lit : List ℕ) (f : Reader X) (most turn : ℕ) (front : List X) (bytes rest : List ℕ) (whole : Option (List X × List ℕ)) → turn < most
    → lit_at lit bytes ≡ Some rest → f rest ≡ None → with_front front (more_at lit f (most - turn) bytes) ≡ whole → whole ≡ None
unfolding more_at
loop_fails lit f most turn front bytes rest whole within found missing same =
    sym same ∙ ap (λ n. with_front front (more_at lit f n bytes)) (one_turn most turn within) ∙ rw (found, or_at, missing) refl

-- a value that was read, and what a reader gives after it
abbrev pub read_and : {X : Type 0} → X → Option (List X × List ℕ) → Option (List X × List ℕ)
read_and {X} x more = as_at {X = X × List X} {Y = List X} (λ p. p.0 ∷ p.1) (pair_at {X = X} {Y = List X} (λ bytes. Some (x, bytes)) (λ bytes. more)) []

with_more : {X : Type 0} (front : List X) (x : X) (more : Option (List X × List ℕ)) → with_front front (read_and x more) ≡ with_front (front ++ x ∷ []) more
with_more front x None = refl
with_more front x (Some y) = ap (λ l. Some (l, y.1)) (sym (append_assoc front (x ∷ []) y.0))

-- a value was read
pub loop_goes_on : {X : Type 0} (lit : List ℕ) (f : Reader X) (most turn : ℕ) (front : List X) (bytes rest last : List ℕ) (x : X) (whole : Option (List X × List ℕ)) → turn < most
    → lit_at lit bytes ≡ Some rest → f rest ≡ Some (x, last) → with_front front (more_at lit f (most - turn) bytes) ≡ whole
    → with_front (front ++ x ∷ []) (more_at lit f (most - (turn + 1)) last) ≡ whole
unfolding more_at
loop_goes_on lit f most turn front bytes rest last x whole within found read same =
    sym (with_more front x (more_at lit f (most - (turn + 1)) last)) ∙ sym (ap (λ n. with_front front (more_at lit f n bytes)) (one_turn most turn within) ∙ rw (found, or_at, read) refl) ∙ same

-- so many were read
pub loop_ends : {X : Type 0} (lit : List ℕ) (f : Reader X) (most turn : ℕ) (front : List X) (bytes : List ℕ) (whole : Option (List X × List ℕ)) → (turn < most → ⊥)
    → with_front front (more_at lit f (most - turn) bytes) ≡ whole → whole ≡ Some (front, bytes)
unfolding more_at
loop_ends lit f most turn front bytes whole over same =
    sym same ∙ ap (λ n. with_front front (more_at lit f n bytes)) (no_turn most turn over) ∙ ap (λ l. Some (l, bytes)) (append-nil front)

-- the first value and more
pub first_with : {X : Type 0} (x : X) (more : Option (List X × List ℕ)) → read_and x more ≡ with_front (x ∷ []) more
first_with x None = refl
first_with x (Some y) = refl

-- what a call says that answers a value of no content, where it answers none, and where it answers one
pub not_eaten : (P Q : Type 0) (r : Option (Unit {0})) (isnt : Bool) → MatchOption r P (λ u. Q) → is_some r ≡ not isnt → isnt ≡ true → P
not_eaten P Q None isnt h e at = h
not_eaten P Q (Some u) true h e at = absurd cc
not_eaten P Q (Some u) false h e at = absurd cc

pub eaten : (P Q : Type 0) (r : Option (Unit {0})) (isnt : Bool) → MatchOption r P (λ u. Q) → is_some r ≡ not isnt → isnt ≡ false → Q
eaten P Q None true h e at = absurd cc
eaten P Q None false h e at = absurd cc
eaten P Q (Some u) isnt h e at = h
