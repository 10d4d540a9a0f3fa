-- What a backend notes with an entry, and what of it stays where it goes on without one.
use Rattle.std.proofs.Common.{Bool, true, false, ◌&&◌, ◌||◌, ◌≡◌, ◌<◌, ◌+◌, ◌∙◌, ◌++◌, ◌∷◌, [], ℕ, List, Option, Result, OnOk, refl, sym, ap, subst, arith, length}
use Rattle.event_kinds.specs.declared.entry.Event.TheVariants as events
use Rattle.lock_modes.specs.Rooms.{Roomy}
use Rattle.seg_calls.specs.Calls.{Appends, entry_of}
use Rattle.cacheless.specs.Holds.{Holds, Rests, HasEntered, HasActed, HasPassed}
use Rattle.cacheless.specs.Silently.{Acts as MayAct, HasAnswered, left_of, unanswered}
use Rattle.cacheless.specs.State.{kept_at, is_kept, IsLockedIn, is_absent}
use Rattle.cacheless.specs.Suspects.{AreKnown}
use Rattle.cacheless.proofs.Lacking.{another_known}
use Rattle.ddl_effect.specs.Plans.{Plan, Do, Lookup, Open, Search, Read, Lock, Write}
use Rattle.ddl_effect.specs.Stages.{plan_at, acts_left}
use Rattle.backend_core.specs.Types.{Oid, Mode, Exec, OwnLock, Scenario, Entry, Event, Line, Frame, Next, Progress, Backend}
use Rattle.backend_core.specs.declared.next.Next.TheVariants as nexts
use Rattle.backend_core.specs.Agrees.{AgreesNow}
use Rattle.backend_core.specs.Noted.{Noted, noted_of, noted_by, ComesAs, refusal_left, IsEntered, IsNoted, Settles, Stays, Acts, Passes}
use Rattle.backend_core.specs.Words.{is_unfound, finds_none}
use Rattle.backend_core.proofs.Silent.{act_finds}
use Rattle.backend_core.proofs.Entries.Inside.{then_so}
use Rattle.backend_core.proofs.Entries.WhereLeft.{entered_here, entered_alike}

-- an entry that is appended, and is what comes next
pub noted_with : (scenario : Scenario) (old new : List Entry) (had has : ℕ → ℕ) (was now : Backend) (next : Next) (event : Event) (rests : Rests scenario old was.progress) → HasEntered scenario old was.progress event rests now.progress
    → Appends old new had has (entry_of was.progress.id (was.progress.finished + 1) event) → ComesAs (refusal_left old was.progress.id (plan_at was.progress.opens was.progress.exec)) next event → noted_of now ≡ noted_by old was next event → IsNoted scenario old new was next now
noted_with scenario old new had has was now next event rests goes appends made same = record { event = event; made = made; entered = appends.entries; goes = entered_here scenario old new was.progress now.progress event rests goes appends.entries; noted = same }

-- where there is room for a lock, the backend is in the same command
module _ (scenario : Scenario) (old new : List Entry) (had has : ℕ → ℕ) (was : Backend) (q p : Progress) (same : IsLockedIn was.progress.locks.items was.progress q) (rests : Rests scenario old q) (rel : Oid) (mode : Mode) where
  entered_same : (event : Event) → Appends old new had has (entry_of q.id (q.finished + 1) event) → new ≡ old ++ entry_of was.progress.id (was.progress.finished + 1) event ∷ []
  entered_same event appends = appends.entries ∙ ap (λ (x : Progress). old ++ entry_of x.id (x.finished + 1) event ∷ []) same.is

  goes_same : (event : Event) → HasEntered scenario old q event rests p → Appends old new had has (entry_of q.id (q.finished + 1) event) → IsEntered scenario old new was.progress event p
  goes_same event goes appends = entered_alike scenario old new was.progress q p event (ap (λ (x : Progress). x.id) same.is) (ap (λ (x : Progress). x.commands) same.is) (ap (λ (x : Progress). x.finished) same.is)
      (entered_here scenario old new q p event rests goes appends.entries)

  -- a lock is granted: what came since the lookup began doesn't count
  pub granted_noted : HasEntered scenario old q (events.LockOk rel mode) rests p → Appends old new had has (entry_of q.id (q.finished + 1) (events.LockOk rel mode)) → IsNoted scenario old new was (nexts.Lock rel mode) (record was { progress = p; told = false })
  granted_noted goes appends = let event = events.LockOk rel mode in record { event = event; made = (refl, refl); entered = entered_same event appends; goes = goes_same event goes appends; noted = refl }

  -- and one is refused
  pub held_noted : (holder : ℕ) (held : Mode) → HasEntered scenario old q (events.LockHeld rel mode holder held) rests p → Appends old new had has (entry_of q.id (q.finished + 1) (events.LockHeld rel mode holder held)) → IsNoted scenario old new was (nexts.Lock rel mode) (record was { progress = p })
  held_noted holder held goes appends = let event = events.LockHeld rel mode holder held in record { event = event; made = (refl, refl); entered = entered_same event appends; goes = goes_same event goes appends; noted = refl }

-- a write is noted by what is kept and open alone
write_alike : (old : List Entry) (was : Backend) (locks : Roomy OwnLock) (exec : Exec) (event : Event) → noted_by old (record was { progress = record was.progress { locks = locks; exec = exec } }) nexts.Write event ≡ noted_by old was nexts.Write event
write_alike old was locks exec (events.Write xid items) = refl
write_alike old was locks exec event = refl

pub written_noted : (scenario : Scenario) (old new : List Entry) (was now : Backend) (q : Progress) (exec : Exec) (known : AreKnown (is_kept (kept_at q)) q.opened q.suspects) → plan_at q.opens q.exec ≡ plan_at q.opens exec → IsLockedIn was.progress.locks.items was.progress q → IsNoted scenario old new (record was { progress = record q { exec = exec; known = known } }) nexts.Write now → IsNoted scenario old new was nexts.Write now
written_noted scenario old new was now q exec known plan same noted = record {
  event = noted.event;
  made = subst (λ o. ComesAs o nexts.Write noted.event) (λ i. refusal_left old ((ap (λ (x : Progress). x.id) same.is) i) ((sym plan ∙ ap (λ (x : Progress). plan_at x.opens x.exec) same.is) i)) noted.made;
  entered = noted.entered ∙ ap (λ (x : Progress). old ++ entry_of x.id (x.finished + 1) noted.event ∷ []) same.is;
  goes = entered_alike scenario old new was.progress (record q { exec = exec; known = known }) now.progress noted.event (ap (λ (x : Progress). x.id) same.is) (ap (λ (x : Progress). x.commands) same.is) (ap (λ (x : Progress). x.finished) same.is) noted.goes;
  noted = noted.noted ∙ sym (λ i. noted_by old (record was { progress = record q { exec = exec; known = another_known q known i } }) nexts.Write noted.event) ∙ ap (λ (x : Progress). noted_by old (record was { progress = record x { exec = exec } }) nexts.Write noted.event) same.is ∙ write_alike old was q.locks exec noted.event;
}

-- after an act fewer are left
acts_fewer : (was now : Progress) → left_of now < left_of was → now.commands ≡ was.commands → now.finished ≡ was.finished → now.answer ≡ was.answer → acts_left now.exec < acts_left was.exec
acts_fewer was now less commands number answer = omega (arith, less, ap (λ l. length l) commands, number, ap (λ (x : Option (List ℕ)). unanswered (record was { answer = x })) answer)

-- it does an act
pub act_settles : (was : Backend) (p : Progress) (told : Bool) → MayAct was.progress → told ≡ was.told && is_absent (plan_at p.opens p.exec) → ((scenario : Scenario) (seen : List Entry) (held : Holds scenario seen was.progress) → HasActed scenario seen was.progress held p)
    → left_of p < left_of was.progress → p.answer ≡ was.progress.answer → (scenario : Scenario) (seen : List Entry) → AgreesNow scenario seen was → Settles was (record was { progress = p; told = told })
act_settles was p told may is acts less answer scenario seen agrees = Acts
    (record { first = may; number = acted.moves.finished; fewer = acts_fewer was.progress p less acted.moves.commands acted.moves.finished answer; lost = λ none. sym finds ∙ none })
    (λ i. record { looked = was.looked; frames = was.frames; told = (is ∙ ap (λ t. was.told && t) (sym finds)) i })
  where
    acted : HasActed scenario seen was.progress agrees.holds p
    acted = acts scenario seen agrees.holds

    finds : finds_none was.progress ≡ is_absent (plan_at p.opens p.exec)
    finds = act_finds scenario seen was p agrees acted

-- it works out what its command answers
pub answer_settles : {E : Type 0} (was : Backend) (p : Progress) (result : Result (Unit {0}) E) → OnOk result (HasAnswered was.progress p) → OnOk result ((scenario : Scenario) (seen : List Entry) → AgreesNow scenario seen was → Settles was (record was { progress = p }))
answer_settles was p result answers = then_so result (λ answered scenario seen agrees. Stays (answered.is ∙ ap (λ a. record was.progress { answer = a }) (sym (ap (λ (x : Progress). x.answer) answered.is))) refl) answers

-- it passes to its next command
pub pass_settles : (was : Backend) (p : Progress) (frames : List Frame) (lines : List Line) → ((scenario : Scenario) (seen : List Entry) (held : Holds scenario seen was.progress) → HasPassed scenario seen was.progress held p) → frames ≡ []
    → (scenario : Scenario) (seen : List Entry) → AgreesNow scenario seen was → Settles was (record was { progress = p; lines = lines; looked = false; frames = frames; told = false })
pass_settles was p frames lines passes none scenario seen agrees = Passes (omega (arith, (passes scenario seen agrees.holds).finished)) (λ i. record { looked = false; frames = none i; told = false })

-- whether a lookup finds no relation doesn't rest on what is answered
unfound_answered : (s : Progress) (answer : Option (List ℕ)) (p : Plan) → is_unfound (record s { answer = answer }) p ≡ is_unfound s p
unfound_answered s answer (Do (Lookup name mode) rest) = refl
unfound_answered s answer (Do (Open rel kind) rest) = refl
unfound_answered s answer (Do (Search scan) rest) = refl
unfound_answered s answer (Do (Read scan) rest) = refl
unfound_answered s answer (Do (Lock rel mode) rest) = refl
unfound_answered s answer (Do (Write draft) rest) = refl
unfound_answered s answer p = refl

finds_answered : (was now : Progress) → now ≡ record was { answer = now.answer } → finds_none now ≡ finds_none was
finds_answered was now same = ap finds_none same ∙ ap (λ t. is_absent (plan_at was.opens was.exec) || t) (unfound_answered was now.answer (plan_at was.opens was.exec))

-- what is noted after an act of a lookup that finds none, or of any other
abbrev after_act : Noted → Bool → Noted
after_act noted none = record noted { told = noted.told && none }

told_once : (told first again : Bool) → (first ≡ true → again ≡ true) → ((told && first) && again) ≡ told && first
told_once true true again lost = lost refl
told_once true false again lost = refl
told_once false first again lost = refl

-- nor whether an act is done without an entry
may_answered : (s : Progress) (answer : Option (List ℕ)) → MayAct (record s { answer = answer }) → MayAct s
may_answered s answer may = record { command = may.command; at = may.at; acts = may.acts }

-- one after another
pub settles_on : (first was now : Backend) → Settles first was → Settles was now → Settles first now
settles_on first was now (Stays same noted) (Stays still on) = Stays (still ∙ ap (λ (x : Progress). record x { answer = now.progress.answer }) same) (on ∙ noted)
settles_on first was now (Stays same noted) (Acts does on) = Acts
    (record { first = may_answered first.progress was.progress.answer (subst MayAct same does.first); number = does.number ∙ ap (λ (x : Progress). x.finished) same; fewer = subst (λ e. acts_left now.progress.exec < acts_left e) (ap (λ (x : Progress). x.exec) same) does.fewer; lost = λ none. does.lost (finds_answered first.progress was.progress same ∙ none) })
    (on ∙ (λ i. after_act (noted i) (finds_answered first.progress was.progress same i)))
settles_on first was now (Acts does noted) (Stays still on) = Acts
    (record { first = does.first; number = ap (λ (x : Progress). x.finished) still ∙ does.number; fewer = subst (λ e. acts_left e < acts_left first.progress.exec) (sym (ap (λ (x : Progress). x.exec) still)) does.fewer; lost = λ none. ap (λ (x : Progress). is_absent (plan_at x.opens x.exec)) still ∙ does.lost none })
    (on ∙ noted)
settles_on first was now (Acts does noted) (Acts more on) = Acts
    (record { first = does.first; number = more.number ∙ does.number; fewer = omega (arith, more.fewer, does.fewer); lost = λ none. more.lost (again none) })
    (on ∙ ap (λ x. after_act x (finds_none was.progress)) noted ∙ (λ i. record { looked = first.looked; frames = first.frames; told = told_once first.told (finds_none first.progress) (finds_none was.progress) again i }))
  where
    again : finds_none first.progress ≡ true → finds_none was.progress ≡ true
    again none = ap (λ t. t || is_unfound was.progress (plan_at was.progress.opens was.progress.exec)) (does.lost none)
settles_on first was now (Stays same noted) (Passes more none) = Passes (omega (arith, ap (λ (x : Progress). x.finished) same, more)) none
settles_on first was now (Acts does noted) (Passes more none) = Passes (omega (arith, does.number, more)) none
settles_on first was now (Passes more none) (Stays still on) = Passes (omega (arith, ap (λ (x : Progress). x.finished) still, more)) (on ∙ none)
settles_on first was now (Passes more none) (Acts does on) = Passes (omega (arith, does.number, more)) (on ∙ ap (λ x. after_act x (finds_none was.progress)) none)
settles_on first was now (Passes more none) (Passes most nothing) = Passes (omega (arith, more, most)) nothing
