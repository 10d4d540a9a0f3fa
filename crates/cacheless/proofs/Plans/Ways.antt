-- The way of a plan: one more act, a plan without an act, and a write, which is not passed.
use Rattle.std.proofs.Common.{◌≡◌, ◌∙◌, Bool, true, false, List, [], ◌∷◌, ◌++◌, refl, sym, ap, subst, append_assoc, append-nil}
use Rattle.std.specs.Prelude.{⊤}
use Rattle.ddl_effect.specs.Plans.{Act, Plan, Done, Fails, Absent, Do, Lookup, Open, Search, Read, Lock, Write}
use Rattle.cacheless.specs.Types.{Row, Draft}
use Rattle.cacheless.specs.ActsDone.{opening_by, after_given, reached, made_first, made_in}

-- an act is left
abbrev pub acts : Plan → Bool
acts (Do act rest) = true
acts plan = false

-- one more act
pub reached-push : (gave : List (List Row)) (given : List Row) (plan : Plan) → reached (gave ++ given ∷ []) plan ≡ after_given given (reached gave plan)
reached-push [] given plan = refl
reached-push (first ∷ gave) given plan = reached-push gave given (after_given first plan)

pub made_in-push : {X : Type 0} (makes : Act → List Row → List X) (gave : List (List Row)) (given : List Row) (plan : Plan)
    → made_in makes (gave ++ given ∷ []) plan ≡ made_in makes gave plan ++ made_first makes given (reached gave plan)
made_in-push makes [] given plan = append-nil (made_first makes given plan)
made_in-push makes (first ∷ gave) given plan =
    ap (λ l. made_first makes first plan ++ l) (made_in-push makes gave given (after_given first plan))
    ∙ sym (append_assoc (made_first makes first plan) (made_in makes gave (after_given first plan)) (made_first makes given (reached gave (after_given first plan))))

-- a plan without an act stays as it is
after_given-over : (given : List Row) (plan : Plan) → acts plan ≡ false → after_given given plan ≡ plan
after_given-over given (Do act rest) over = absurd (cc)
after_given-over given plan over = refl

pub reached-over : (gave : List (List Row)) (plan : Plan) → acts plan ≡ false → reached gave plan ≡ plan
reached-over [] plan over = refl
reached-over (given ∷ gave) plan over = ap (reached gave) (after_given-over given plan over) ∙ reached-over gave plan over

pub made_in-over : {X : Type 0} (makes : Act → List Row → List X) (gave : List (List Row)) (plan : Plan) → acts plan ≡ false → made_in makes gave plan ≡ []
made_in-over makes [] plan over = refl
made_in-over makes (given ∷ gave) plan over = ap (λ l. l ++ made_in makes gave (after_given given plan)) (none plan over) ∙ ap (made_in makes gave) (after_given-over given plan over) ∙ made_in-over makes gave plan over
  where
    none : (p : Plan) → acts p ≡ false → made_first makes given p ≡ []
    none (Do act rest) is = absurd (cc)
    none p is = refl

-- where an act is left on the way, one was left at its beginning
pub acts_before : (gave : List (List Row)) (plan : Plan) → acts (reached gave plan) ≡ true → acts plan ≡ true
acts_before gave plan acting = by_test (acts plan) refl
  where
    by_test : (t : Bool) → acts plan ≡ t → acts plan ≡ true
    by_test true is = is
    by_test false is = absurd (let both : false ≡ true = sym is ∙ ap acts (sym (reached-over gave plan is)) ∙ acting in cc)

-- a plan that writes nothing
abbrev pub NeverWrites : Plan → Type 0
NeverWrites (Do (Write draft) rest) = ⊥
NeverWrites (Do act rest) = (given : List Row) → NeverWrites (rest given)
NeverWrites plan = ⊤

-- no write is on its way
pub never_reaches : (gave : List (List Row)) (plan : Plan) (draft : Draft) (rest : List Row → Plan) → NeverWrites plan → reached gave plan ≡ Do (Write draft) rest → ⊥
never_reaches [] plan draft rest never is = subst NeverWrites is never
never_reaches (given ∷ gave) plan draft rest never is = never_reaches gave (after_given given plan) draft rest (by_plan plan never) is
  where
    by_plan : (p : Plan) → NeverWrites p → NeverWrites (after_given given p)
    by_plan (Done told) none = tt
    by_plan (Fails error) none = tt
    by_plan (Absent name) none = tt
    by_plan (Do (Lookup name mode) more) none = none given
    by_plan (Do (Open rel kind) more) none = none given
    by_plan (Do (Search scan) more) none = none given
    by_plan (Do (Read scan) more) none = none given
    by_plan (Do (Lock rel mode) more) none = none given
    by_plan (Do (Write draft') more) none = absurd none

-- a plan that opens no descriptor
abbrev pub NeverOpens : Plan → Type 0
NeverOpens (Do (Open rel kind) rest) = ⊥
NeverOpens (Do (Write draft) rest) = ⊤
NeverOpens (Do act rest) = (given : List Row) → NeverOpens (rest given)
NeverOpens plan = ⊤

-- none is open on its way
pub none_opened : (gave : List (List Row)) (plan : Plan) → NeverOpens plan → made_in opening_by gave plan ≡ []
none_opened [] plan never = refl
none_opened (given ∷ gave) (Done told) never = none_opened gave (Done told) tt
none_opened (given ∷ gave) (Fails error) never = none_opened gave (Fails error) tt
none_opened (given ∷ gave) (Absent name) never = none_opened gave (Absent name) tt
none_opened (given ∷ gave) (Do (Lookup name mode) rest) never = none_opened gave (rest given) (never given)
none_opened (given ∷ gave) (Do (Open rel kind) rest) never = absurd never
none_opened (given ∷ gave) (Do (Search scan) rest) never = none_opened gave (rest given) (never given)
none_opened (given ∷ gave) (Do (Read scan) rest) never = none_opened gave (rest given) (never given)
none_opened (given ∷ gave) (Do (Lock rel mode) rest) never = none_opened gave (rest given) (never given)
none_opened (given ∷ gave) (Do (Write draft) rest) never = none_opened gave (Do (Write draft) rest) tt

-- an act that is passed: each but a write
abbrev pub is_passed : Act → Bool
is_passed (Write draft) = false
is_passed act = true

-- a plan without an act reaches none
pub none_reached : (gave : List (List Row)) (plan : Plan) (act : Act) (rest : List Row → Plan) → acts plan ≡ false → reached gave plan ≡ Do act rest → ⊥
none_reached gave plan act rest over is = absurd (let both : false ≡ true = sym over ∙ ap acts (sym (reached-over gave plan over) ∙ is) in cc both)

-- a write isn't passed
pub write_stays : (gave : List (List Row)) (draft : Draft) (rest : List Row → Plan) → reached gave (Do (Write draft) rest) ≡ Do (Write draft) rest
write_stays [] draft rest = refl
write_stays (given ∷ gave) draft rest = write_stays gave draft rest

-- an act comes next that is passed
abbrev pub goes_past : Plan → Bool
goes_past (Do act rest) = is_passed act
goes_past plan = false
