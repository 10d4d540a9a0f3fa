-- Two walks of one script whose steps are noted, and that follow its schedule to its end, are one history.
use Rattle.std.proofs.Common.{◌≡◌, ◌≢◌, ◌∙◌, ◌==◌, ◌++◌, ◌∷◌, ◌⊎◌, inl, inr, ℕ, true, false, Option, Some, None, IfSome, List, [], refl, sym, ap, subst, slice_get, append_assoc}
use Rattle.std.proofs.lemmas.Bool.Decides.{eqb_tells}
use Rattle.std.proofs.lemmas.List.{append-nil}
use Rattle.history_model.specs.declared.life.Life.TheVariants.{Unstarted, Alive, Stopped}
use Rattle.history_model.specs.Prefixes.{EachFrom}
use Rattle.cacheless.specs.Schedule.{turns_left, FollowsSchedule, IsComplete}
use Rattle.backend_core.specs.Types.{Scenario, Entry, Life, Backend}
use Rattle.backend_core.specs.declared.life.Life.TheVariants as lives
use Rattle.backend_core.specs.Agrees.{IsNew, AwaitsEntry, HasNotJoined, HasLeft, Stands}
use Rattle.backend_core.specs.Noted.{noted_of}
use Rattle.backend_core.specs.Walked.{Walks, IsNewOf, IsNotedWalk}
use Rattle.backend_core.proofs.Walked.OneStep.{one_step}

-- the backends of each number note the same
abbrev AreSame : (ℕ → Option Backend) → (ℕ → Option Backend) → Type 0
AreSame one two = (b : ℕ) (s t : Backend) → one b ≡ Some s → two b ≡ Some t → (s.progress.id ≡ t.progress.id) × (noted_of s ≡ noted_of t)

one_some : {X : Type 0} (x y : X) → Some x ≡ Some y → x ≡ y
one_some x y same = cc same

-- so they do after a step of each
same_on : (one two is are : ℕ → Option Backend) (b : ℕ) (now done : Backend) → AreSame one two → is b ≡ Some now → are b ≡ Some done → ((a : ℕ) → (a == b) ≡ false → is a ≡ one a) → ((a : ℕ) → (a == b) ≡ false → are a ≡ two a) → now.progress.id ≡ done.progress.id → noted_of now ≡ noted_of done → AreSame is are
same_on one two is are b now done same here there apart beside id noted a s t at also = by_place (eqb_tells a b)
  where
    by_place : (((a == b) ≡ true) × (a ≡ b)) ⊎ (((a == b) ≡ false) × (a ≢ b)) → (s.progress.id ≡ t.progress.id) × (noted_of s ≡ noted_of t)
    by_place (inl place) = let x = one_some now s (sym here ∙ ap is (sym place.1) ∙ at) in let y = one_some done t (sym there ∙ ap are (sym place.1) ∙ also) in
        (sym (ap (λ (v : Backend). v.progress.id) x) ∙ id ∙ ap (λ (v : Backend). v.progress.id) y, sym (ap noted_of x) ∙ noted ∙ ap noted_of y)
    by_place (inr place) = same a s t (sym (apart a place.0) ∙ at) (sym (beside a place.0) ∙ also)

-- these entries come in the turns of a script, after which none is left
record TakesTurns (scenario : Scenario) (before history : List Entry) : Type 0 where
  each : EachFrom (λ prior e. slice_get (turns_left scenario prior) 0 ≡ Some e.backend) before history
  over : turns_left scenario (before ++ history) ≡ []

turns_on : (scenario : Scenario) (before : List Entry) (e : Entry) (rest : List Entry) → TakesTurns scenario before (e ∷ rest) → TakesTurns scenario (before ++ e ∷ []) rest
turns_on scenario before e rest takes = record { each = takes.each.1; over = ap (turns_left scenario) (append_assoc before (e ∷ []) rest) ∙ takes.over }

-- where none is left no entry comes
none_more : (scenario : Scenario) (before : List Entry) (e : Entry) (rest : List Entry) → TakesTurns scenario before [] → TakesTurns scenario before (e ∷ rest) → ⊥
none_more scenario before e rest done takes = let no : None ≡ Some e.backend = sym (ap (λ l. slice_get (turns_left scenario l) 0) (sym (append-nil before)) ∙ ap (λ l. slice_get l 0) done.over) ∙ takes.each.0 in cc no

walks_one : (scenario : Scenario) (before : List Entry) (one two : ℕ → Option Backend) (h k : List Entry) → AreSame one two → Walks scenario before one h → Walks scenario before two k → TakesTurns scenario before h → TakesTurns scenario before k → h ≡ k
walks_one scenario before one two [] [] same a b takes turns = refl
walks_one scenario before one two [] (f ∷ k) same a b takes turns = absurd (none_more scenario before f k takes turns)
walks_one scenario before one two (e ∷ h) [] same a b takes turns = absurd (none_more scenario before e h turns takes)
walks_one scenario before one two (e ∷ h) (f ∷ k) same a b takes turns = λ i. made.0 i ∷ walks_one scenario (before ++ e ∷ []) a.are b.are h k now_same a.further goes (turns_on scenario before e h takes) left i
  where
    turn : e.backend ≡ f.backend
    turn = one_some e.backend f.backend (sym takes.each.0 ∙ turns.each.0)

    alike : (a.was.progress.id ≡ b.was.progress.id) × (noted_of a.was ≡ noted_of b.was)
    alike = same e.backend a.was b.was a.is (ap two turn ∙ b.is)

    made : (e ≡ f) × (noted_of a.now ≡ noted_of b.now)
    made = one_step scenario before a.was b.was a.now b.now e f a.step b.step alike.0 alike.1

    now_same : AreSame a.are b.are
    now_same = same_on one two a.are b.are e.backend a.now b.now same a.here (ap b.are turn ∙ b.here) a.beside (λ c other. b.beside c (sym (ap (λ n. c == n) turn) ∙ other)) (a.step.steps.id ∙ alike.0 ∙ sym b.step.steps.id) made.1

    goes : Walks scenario (before ++ e ∷ []) b.are k
    goes = subst (λ x. Walks scenario (before ++ x ∷ []) b.are k) (sym made.0) b.further

    left : TakesTurns scenario (before ++ e ∷ []) k
    left = subst (λ x. TakesTurns scenario (before ++ x ∷ []) k) (sym made.0) (turns_on scenario before f k turns)

-- so two walks of new backends are one
pub walked_alike : (scenario : Scenario) (history other : List Entry) → IsNotedWalk scenario history → IsNotedWalk scenario other → FollowsSchedule scenario history → FollowsSchedule scenario other → IsComplete scenario history → IsComplete scenario other → history ≡ other
walked_alike scenario history other walk also follows obeys complete over =
    walks_one scenario [] walk.first also.first history other begin walk.walks also.walks (record { each = follows; over = complete }) (record { each = obeys; over = over })
  where
    begin : AreSame walk.first also.first
    begin b s t is there = let one : IsNewOf scenario b s = subst (λ o. IfSome o (IsNewOf scenario b)) is (walk.new b) in
        let two : IsNewOf scenario b t = subst (λ o. IfSome o (IsNewOf scenario b)) there (also.new b) in
        (one.progress.number ∙ sym two.progress.number, λ i. record { looked = (one.looked ∙ sym two.looked) i; frames = (one.frames ∙ sym two.frames) i; told = (one.told ∙ sym two.told) i })

-- a backend that stands where there is no entry is new
pub new_standing : (scenario : Scenario) (b : ℕ) (s : Backend) → s.progress.id ≡ b → Stands scenario [] s → IsNewOf scenario b s
new_standing scenario b s id stands = by_life s.life stands
  where
    by_life : (l : Life) → elim l as (λ y. Type 0) [ lives.Unstarted ↦ HasNotJoined scenario [] s | lives.Alive ↦ AwaitsEntry scenario [] s | lives.Stopped ↦ HasLeft scenario [] s ] → IsNewOf scenario b s
    by_life lives.Unstarted before = subst (λ n. IsNewOf scenario n s) id (subst (IsNew s s.progress.id) before.waits.commands before.new)
    by_life lives.Alive waits = absurd (let no : Unstarted ≡ Alive waits.keeps.life.last = waits.keeps.life.alive in cc no)
    by_life lives.Stopped left = absurd (let no : Unstarted ≡ Stopped = left.life in cc no)
