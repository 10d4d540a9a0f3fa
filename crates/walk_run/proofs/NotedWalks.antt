-- Walks whose steps are noted: they begin with new backends, go on by steps, and are one.
use Rattle.std.proofs.Common.{◌≡◌, ◌≢◌, ◌∙◌, ◌+◌, ◌-◌, ◌==◌, ◌++◌, ◌∷◌, ◌⊎◌, inl, inr, ℕ, zero, suc, true, false, Option, Some, None, IfSome, List, [], refl, sym, ap, subst, slice_get, slice_set, append_assoc, arith}
use Rattle.std.proofs.lemmas.Bool.{both_ways, eq-eqb, ne_eqb}
use Rattle.std.proofs.lemmas.Bool.Decides.{eqb_tells}
use Rattle.std.proofs.lemmas.List.{append-nil}
use Rattle.base_types.specs.Scenario.{Scenario}
use Rattle.event_kinds.specs.declared.entry.Entry.{Entry}
use Rattle.event_kinds.specs.declared.entry.Line.{Line}
use Rattle.cacheless.specs.Lines.{lines_of}
use Rattle.backend_core.specs.declared.backend.Backend.{Backend}
use Rattle.backend_core.specs.Noted.{NotesAtStep}
use Rattle.backend_core.specs.Steps.{Steps}
use Rattle.backend_core.specs.Walked.{Walks, IsNewOf, IsNotedWalk}
use Rattle.backend_core.proofs.Walked.OneWalk.{walked_alike, new_standing}
use Rattle.by_backend.proofs.Places.{get_beside_set}
use Rattle.script_backends.specs.Standing.{StandsAt, StandTogether}
use Rattle.walk_run.specs.Walks.{IsWalk, numbered, HasWalked}

-- a walk begins with the script's backends
pub walked_first : (s : Scenario) (bs : List Backend) → StandTogether s [] bs → HasWalked s [] bs
walked_first s bs stand = record { first = numbered bs; new = λ b. by_place b (eqb_tells b 0); walks = λ rest walks. walks }
  where
    by_read : (b : ℕ) → (b ≡ 0 → ⊥) → (o : Option Backend) → slice_get bs (b - 1) ≡ o → IfSome o (IsNewOf s b)
    by_read b some None is = tt
    by_read b some (Some x) is = let n : (b - 1) + 1 ≡ b = omega (arith, some) in let at = stand.each (b - 1) x is in subst (λ k. IsNewOf s k x) n (new_standing s ((b - 1) + 1) x at.id at.stands)

    by_place : (b : ℕ) → (((b == 0) ≡ true) × (b ≡ 0)) ⊎ (((b == 0) ≡ false) × (b ≢ 0)) → IfSome (numbered bs b) (IsNewOf s b)
    by_place b (inl none) = subst (λ t. IfSome (elim t as (λ y. Option Backend) [ true ↦ None | false ↦ slice_get bs (b - 1) ]) (IsNewOf s b)) (sym none.0) tt
    by_place b (inr some) = subst (λ t. IfSome (elim t as (λ y. Option Backend) [ true ↦ None | false ↦ slice_get bs (b - 1) ]) (IsNewOf s b)) (sym some.0) (by_read b some.1 (slice_get bs (b - 1)) refl)

set_here : {X : Type 0} (xs : List X) (i : ℕ) (was now : X) → slice_get xs i ≡ Some was → slice_get (slice_set xs i now) i ≡ Some now
set_here [] i was now is = absurd (cc is)
set_here (x ∷ xs) zero was now is = refl
set_here (x ∷ xs) (suc i) was now is = set_here xs i was now is

-- and goes on by a step of one of them
pub walked_more : (s : Scenario) (h h' : List Entry) (had has : ℕ → ℕ) (bs : List Backend) (i : ℕ) (was now : Backend) → HasWalked s h bs → slice_get bs i ≡ Some was → StandsAt s h (i + 1) was → Steps s h h' had has was now → NotesAtStep s h h' was now → HasWalked s h' (slice_set bs i now)
walked_more s h h' had has bs i was now walked is at steps notes = subst (λ x. HasWalked s x (slice_set bs i now)) (sym same) (record { first = walked.first; new = walked.new; walks = on })
  where
    e : Entry
    e = steps.makes.entry

    same : h' ≡ h ++ e ∷ []
    same = steps.makes.is

    own : e.backend ≡ i + 1
    own = steps.makes.own ∙ at.id

    at_number : (bs' : List Backend) → numbered bs' (i + 1) ≡ slice_get bs' i
    at_number bs' = (λ k. elim (ne_eqb (i + 1) 0 (λ none. absurd (omega (arith, none))) k) as (λ y. Option Backend) [ true ↦ None | false ↦ slice_get bs' ((i + 1) - 1) ]) ∙ ap (slice_get bs') place
      where
        place : (i + 1) - 1 ≡ i
        place = omega arith

    beside : (b : ℕ) → (b == e.backend) ≡ false → numbered (slice_set bs i now) b ≡ numbered bs b
    beside b other = by_place (eqb_tells b 0)
      where
        by_place : (((b == 0) ≡ true) × (b ≡ 0)) ⊎ (((b == 0) ≡ false) × (b ≢ 0)) → numbered (slice_set bs i now) b ≡ numbered bs b
        by_place (inl none) = (λ k. elim (none.0 k) as (λ y. Option Backend) [ true ↦ None | false ↦ slice_get (slice_set bs i now) (b - 1) ]) ∙ sym (λ k. elim (none.0 k) as (λ y. Option Backend) [ true ↦ None | false ↦ slice_get bs (b - 1) ])
        by_place (inr some) = ap (λ o. elim (b == 0) as (λ y. Option Backend) [ true ↦ None | false ↦ o ]) (get_beside_set bs i (b - 1) now (λ place. apart (omega (arith, place, some.1))))
          where
            apart : b ≡ i + 1 → ⊥
            apart place = both_ways _ other (eq-eqb b e.backend (place ∙ sym own))

    on : (rest : List Entry) → Walks s (h ++ e ∷ []) (numbered (slice_set bs i now)) rest → Walks s [] walked.first ((h ++ e ∷ []) ++ rest)
    on rest walks = subst (Walks s [] walked.first) (sym (append_assoc h (e ∷ []) rest)) (walked.walks (e ∷ rest) (record {
      was = was;
      is = ap (numbered bs) own ∙ at_number bs ∙ is;
      now = now;
      step = record { stands = at.stands; had = had; has = has; steps = subst (λ x. Steps s h x had has was now) same steps; notes = subst (λ x. NotesAtStep s h x was now) same notes };
      are = numbered (slice_set bs i now);
      here = ap (numbered (slice_set bs i now)) own ∙ at_number (slice_set bs i now) ∙ set_here bs i was now is;
      beside = beside;
      further = walks;
    }))

-- at its end it is a noted walk
pub walked_whole : (s : Scenario) (h : List Entry) (bs : List Backend) → HasWalked s h bs → IsNotedWalk s h
walked_whole s h bs walked = record { first = walked.first; new = walked.new; walks = subst (Walks s [] walked.first) (append-nil h) (walked.walks [] tt) }

-- one of no entries
pub walked_none : (s : Scenario) → IsNotedWalk s []
walked_none s = record { first = λ b. None; new = λ b. tt; walks = tt }

-- two walks of one script are one
pub walks_alike : (s : Scenario) (history other : List Entry) (lines said : List Line) → IsWalk s history lines → IsWalk s other said → (history ≡ other) × (lines ≡ said)
walks_alike s history other lines said walk also = (one, walk.lines_are ∙ ap (lines_of s) one ∙ sym also.lines_are)
  where
    one : history ≡ other
    one = walked_alike s history other walk.noted also.noted walk.follows also.follows walk.complete also.complete
