-- What is left of a command, whatever its acts gave, is a plan under locks.
use Rattle.std.proofs.Common.{◌≡◌, ◌∙◌, ℕ, true, false, List, [], ◌∷◌, refl, ap, sym, subst}
use Rattle.std.specs.Prelude.{⊤}
use Rattle.ddl_effect.specs.Commands.{plan_of, writing}
use Rattle.ddl_effect.specs.Plans.{Act, Plan, Done, Absent, Do, Lookup, Open, Search, Read, Lock, Write, is_absent, after_act}
use Rattle.ddl_effect.specs.Replays.{after_all, step_of}
use Rattle.ddl_effect.specs.Stages.{plan_at, plan_again, want_of}
use Rattle.ddl_effect.specs.declared.exec.Exec.TheVariants as stages
use Rattle.ddl_effect.specs.declared.step.Step.TheVariants as steps
use Rattle.ddl_effect.specs.declared.told.Told.TheVariants as tells
use Rattle.ddl_effect.specs.declared.want.Want.TheVariants as wants
use Rattle.ddl_effect.proofs.Giving as giving
use Rattle.cacheless.specs.Types.{Row, OpenRelation, Draft, Exec}
use Rattle.cacheless.proofs.DraftNext.{IsWriting, is_writing}
use Rattle.cacheless.proofs.Plans.ActOrder.{follows_order}
use Rattle.cacheless.proofs.Plans.AfterActs.{after_opening, after_lock, after_search, after_reading, after_lookup}
use Rattle.cacheless.proofs.Plans.UnderLocks.{Footing, at_first, adds_first, Follows, FollowsUnfound, FollowsOrder, follows_after, order_there}

-- an act under locks, wherever its plan is
pub record IsUnder (act : Act) (rest : List Row → Plan) : Type 0 where
  pub on : Footing
  pub follows : Follows on (Do act rest)

-- the same of the next act of a plan, if there is one
abbrev pub ActsUnder : Plan → Type 0
ActsUnder (Do act rest) = IsUnder act rest
ActsUnder plan = ⊤

unfound_under : (on : Footing) (plan : Plan) → FollowsUnfound on plan → ActsUnder plan
unfound_under on (Do act rest) follows = record { on = on; follows = follows }
unfound_under on plan follows = tt

order_under : (plan : Plan) → FollowsOrder plan → ActsUnder plan
order_under (Do act rest) follows = record { on = at_first; follows = follows }
order_under plan follows = tt

act_under : (given : List Row) (plan : Plan) → ActsUnder plan → ActsUnder (after_act given plan)
act_under given (Do (Write draft) rest) under = subst ActsUnder (sym (under.follows.0 given)) tt
act_under given (Do act rest) under = unfound_under (adds_first under.on given (Do act rest)) (rest given) (follows_after under.on given (Do act rest) under.follows)
act_under given plan under = tt

all_under : (given : List (List Row)) (plan : Plan) → ActsUnder plan → ActsUnder (after_all given plan)
all_under [] plan under = under
all_under (rows ∷ given) plan under = all_under given (after_act rows plan) (act_under rows plan under)

pub exec_under : (opens : List OpenRelation) (exec : Exec) → ActsUnder (plan_at opens exec)
exec_under opens (stages.Going taken) = all_under taken.given (plan_of taken.opens taken.command) (order_under (plan_of taken.opens taken.command) (follows_order taken.opens taken.command))
exec_under opens exec = tt

-- a write is the last act of a command
write_under : (plan : Plan) (given : List Row) → ActsUnder plan → want_of plan ≡ wants.Write → after_act given plan ≡ Done tells.Ok
write_under (Do (Write draft) rest) given under is = under.follows.0 given
write_under (Do act rest) given under is = absurd (cc is)
write_under plan given under is = absurd (cc is)

pub done_written : (opens : List OpenRelation) (exec : Exec) (given : List Row) → want_of (plan_at opens exec) ≡ wants.Write → after_act given (plan_at opens exec) ≡ Done tells.Ok
done_written opens exec given is = write_under (plan_at opens exec) given (exec_under opens exec) is

pub writing_is : (opens : List OpenRelation) (exec : Exec) (draft : Draft) → step_of (plan_at opens exec) ≡ steps.Write draft → plan_at opens exec ≡ writing draft
writing_is opens exec draft is = next.is ∙ (λ i. Do (Write draft) (λ given. over given i))
  where
    next : IsWriting draft (plan_at opens exec)
    next = is_writing (plan_at opens exec) draft is

    over : (given : List Row) → next.rest given ≡ Done tells.Ok
    over given = sym (ap (after_act given) next.is) ∙ done_written opens exec given (ap want_of next.is)

-- a lookup for this name
abbrev pub Seeks : List ℕ → Plan → Type 0
Seeks name (Do (Lookup own mode) rest) = own ≡ name
Seeks name plan = ⊥

-- only a lookup of a name fails to find a relation that has it
pub seeks_under : (act : Act) (rest : List Row → Plan) (given : List Row) (name : List ℕ) → IsUnder act rest → rest given ≡ Absent name → Seeks name (Do act rest)
seeks_under (Lookup own mode) rest given name under is = cc (is, (after_lookup under.on own mode rest given under.follows (ap is_absent is)).is)
seeks_under (Open rel kind) rest given name under is = absurd (let both : true ≡ false = sym (ap is_absent is) ∙ after_opening under.on rel kind rest given under.follows in cc both)
seeks_under (Search scan) rest given name under is = absurd (let both : true ≡ false = sym (ap is_absent is) ∙ after_search under.on scan rest given under.follows in cc both)
seeks_under (Read scan) rest given name under is = absurd (let both : true ≡ false = sym (ap is_absent is) ∙ after_reading under.on scan rest given under.follows in cc both)
seeks_under (Lock rel mode) rest given name under is = absurd (let both : true ≡ false = sym (ap is_absent is) ∙ after_lock under.on rel mode rest given under.follows in cc both)
seeks_under (Write draft) rest given name under is = absurd (let both : true ≡ false = sym (ap is_absent is) ∙ ap is_absent (under.follows.0 given) in cc both)

-- a lookup that is made anew has found nothing yet
pub never_absent : (opens : List OpenRelation) (exec : Exec) → is_absent (plan_again opens exec) ≡ false
never_absent opens (stages.Going taken) = giving.never_absent taken.given (plan_of taken.opens taken.command) (order_there (plan_of taken.opens taken.command) (follows_order taken.opens taken.command))
never_absent opens exec = refl

-- any other command stays as it is
pub again_same : (opens : List OpenRelation) (exec : Exec) → is_absent (plan_at opens exec) ≡ false → plan_again opens exec ≡ plan_at opens exec
again_same opens (stages.Going taken) found = giving.found_same taken.given (plan_of taken.opens taken.command) found
again_same opens exec found = refl
