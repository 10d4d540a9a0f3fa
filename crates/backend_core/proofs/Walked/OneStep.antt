-- Two steps after one history, of backends of one number that note the same, are one step: their entries are one, and they note the same again.
use Rattle.std.proofs.Common.{◌≡◌, ◌∙◌, ◌+◌, ◌++◌, ◌∷◌, ℕ, Some, None, List, [], refl, sym, ap, subst, length, slice_get}
use Rattle.std.proofs.lemmas.List.{append_cancel_left}
use Rattle.event_kinds.specs.declared.entry.Event.TheVariants as events
use Rattle.ddl_effect.specs.Commands.{commands_of}
use Rattle.ddl_effect.specs.Stages.{plan_at}
use Rattle.history_model.specs.Drawn.{next_oid}
use Rattle.history_model.specs.Lives.{life_of}
use Rattle.history_model.specs.declared.life.Life.TheVariants.{Unstarted}
use Rattle.history_model.specs.MayFollow.{FollowsLife}
use Rattle.seg_calls.specs.Calls.{entry_of}
use Rattle.cacheless.specs.Facts.{facts_of}
use Rattle.cacheless.specs.Holds.{Rests}
use Rattle.cacheless.specs.MayEnter.{MayEnter}
use Rattle.cacheless.specs.Plays.{IsStart, MayPlayAt, MayPlayIn}
use Rattle.cacheless.specs.Session.{Session}
use Rattle.cacheless.specs.Sessions.{session_of}
use Rattle.backend_core.specs.Types.{Scenario, Entry, Event, Life, Backend}
use Rattle.backend_core.specs.declared.life.Life.TheVariants as lives
use Rattle.backend_core.specs.Agrees.{AwaitsEntry, HasNotJoined, HasLeft, Stands}
use Rattle.backend_core.specs.Noted.{noted_of, noted_by, nothing_noted, IsEntered, NotesStep}
use Rattle.backend_core.specs.Walked.{IsAsFar, event_made, MakesStep}
use Rattle.backend_core.proofs.Own.{waiting, waiting_is}
use Rattle.backend_core.proofs.Walked.AsFar.{far_at_rest, far_entered, same_next, same_noted, same_settled}
use Rattle.backend_core.proofs.Walked.MadeEntries.{comes_so}

last_same : (xs : List Entry) (x y : Entry) → xs ++ x ∷ [] ≡ xs ++ y ∷ [] → x ≡ y
last_same xs x y same = let one : x ∷ [] ≡ y ∷ [] = append_cancel_left xs (x ∷ []) (y ∷ []) same in cc one

-- a backend that stands and has a session rests
rests_standing : (scenario : Scenario) (seen : List Entry) (s : Backend) (x : Session) → Stands scenario seen s → session_of scenario seen s.progress.id ≡ Some x → Rests scenario seen s.progress
rests_standing scenario seen s x stands is = by_life s.life stands
  where
    by_life : (l : Life) → elim l as (λ y. Type 0) [ lives.Unstarted ↦ HasNotJoined scenario seen s | lives.Alive ↦ AwaitsEntry scenario seen s | lives.Stopped ↦ HasLeft scenario seen s ] → Rests scenario seen s.progress
    by_life lives.Unstarted before = absurd (let no : None ≡ Some x = sym before.session ∙ is in cc no)
    by_life lives.Alive waits = waits.rests
    by_life lives.Stopped left = record { holds = left.holds; still = λ command at. absurd (cc (left.past, at)) }

-- its entry was one that might be made
step_may : (scenario : Scenario) (before : List Entry) (was now : Backend) (e : Entry) → MakesStep scenario before was e now → MayEnter scenario before e × (e.backend ≡ was.progress.id)
step_may scenario before was now e step = (subst (MayEnter scenario before) (sym same) step.steps.makes.may, ap (λ (x : Entry). x.backend) same ∙ step.steps.makes.own)
  where
    same : e ≡ step.steps.makes.entry
    same = last_same before e step.steps.makes.entry step.steps.makes.is

-- a step of a backend that has joined and hasn't left
module _ (scenario : Scenario) (before : List Entry) (was now : Backend) (e : Entry) (step : MakesStep scenario before was e now) (waits : AwaitsEntry scenario before was) (notes : NotesStep scenario before (before ++ e ∷ []) was now) where
  own : e ≡ entry_of was.progress.id (was.progress.finished + 1) notes.made.noted.event
  own = last_same before e (entry_of was.progress.id (was.progress.finished + 1) notes.made.noted.event) notes.made.noted.entered

  may : MayEnter scenario before (entry_of was.progress.id (was.progress.finished + 1) notes.made.noted.event)
  may = subst (MayEnter scenario before) own (step_may scenario before was now e step).0

  plays : MayPlayIn (next_oid before) (facts_of before was.progress.id) (slice_get (commands_of scenario was.progress.id) (length (waiting waits).finished)) (waiting waits) notes.made.noted.event
  plays = (subst (λ o. MayPlayAt scenario before was.progress.id o (was.progress.finished + 1) notes.made.noted.event) (waiting_is scenario before was waits) may.next.1).1

  comes : notes.made.noted.event ≡ event_made scenario.size before was.progress.id (plan_at was.progress.opens was.progress.exec) notes.made.next
  comes = comes_so scenario.size before was.progress.id (was.progress.finished + 1) (facts_of before was.progress.id) (slice_get (commands_of scenario was.progress.id) (length (waiting waits).finished)) (waiting waits) notes.made.next notes.made.noted.event
      notes.made.noted.made may.comes.follows.event may.suits.truly may.suits.queue plays

  -- it rests after it
  rests : Rests scenario (before ++ e ∷ []) now.progress
  rests = let goes = notes.made.noted.goes in rests_standing scenario (before ++ e ∷ []) now _ step.steps.stands (ap (session_of scenario (before ++ e ∷ [])) (step.steps.id ∙ sym goes.moves.id) ∙ goes.holds.is)

-- so two such steps are one
module _ (scenario : Scenario) (before : List Entry) (one two now done : Backend) (e f : Entry) (a : MakesStep scenario before one e now) (b : MakesStep scenario before two f done) (id : one.progress.id ≡ two.progress.id) (noted : noted_of one ≡ noted_of two) (wait : AwaitsEntry scenario before one) (waits : AwaitsEntry scenario before two) (c : NotesStep scenario before (before ++ e ∷ []) one now) (d : NotesStep scenario before (before ++ f ∷ []) two done) where
  far : IsAsFar one.progress two.progress
  far = far_at_rest scenario before one.progress two.progress wait.rests waits.rests id

  next_one : c.made.next ≡ d.made.next
  next_one = let both : Some c.made.next ≡ Some d.made.next = sym c.made.chosen ∙ same_next one two far noted ∙ d.made.chosen in cc both

  event_one : c.made.noted.event ≡ d.made.noted.event
  event_one = comes scenario before one now e a wait c ∙ (λ i. event_made scenario.size before (id i) (far.work i).left (next_one i)) ∙ sym (comes scenario before two done f b waits d)

  entry_one : e ≡ f
  entry_one = own scenario before one now e a wait c ∙ (λ i. entry_of (id i) (far.finished i + 1) (event_one i)) ∙ sym (own scenario before two done f b waits d)

  then_far : IsAsFar c.entered.progress d.entered.progress
  then_far = far_entered scenario before (before ++ e ∷ []) one.progress two.progress c.entered.progress d.entered.progress c.made.noted.event far c.made.noted.goes
      (subst (λ x. IsEntered scenario before (before ++ e ∷ []) two.progress x d.entered.progress) (sym event_one) (subst (λ x. IsEntered scenario before (before ++ x ∷ []) two.progress d.made.noted.event d.entered.progress) (sym entry_one) d.made.noted.goes))

  then_noted : noted_of c.entered ≡ noted_of d.entered
  then_noted = c.made.noted.noted ∙ same_noted one two far noted before c.made.next c.made.noted.event ∙ (λ i. noted_by before two (next_one i) (event_one i)) ∙ sym d.made.noted.noted

  now_noted : noted_of now ≡ noted_of done
  now_noted = same_settled c.entered d.entered now done then_far then_noted c.settled d.settled here.still there.still
      (far_at_rest scenario (before ++ e ∷ []) now.progress done.progress here (subst (λ x. Rests scenario (before ++ x ∷ []) done.progress) (sym entry_one) there) (a.steps.id ∙ id ∙ sym b.steps.id)).finished
    where
      here : Rests scenario (before ++ e ∷ []) now.progress
      here = rests scenario before one now e a wait c

      there : Rests scenario (before ++ f ∷ []) done.progress
      there = rests scenario before two done f b waits d

-- a first entry is the start
start_so : (c : ℕ) (event : Event) → IsStart event → FollowsLife Unstarted c event → (c ≡ 0) × (event ≡ events.Start)
start_so c events.Start is follows = (follows, refl)
start_so c event is follows = absurd is

starts_one : (scenario : Scenario) (before : List Entry) (e : Entry) (b : ℕ) → MayEnter scenario before e → e.backend ≡ b → session_of scenario before b ≡ None → life_of before b ≡ Unstarted → e ≡ entry_of b 0 events.Start
starts_one scenario before e b may own none life = λ i. entry_of (own i) (parts.0 i) (parts.1 i)
  where
    parts : (e.command ≡ 0) × (e.event ≡ events.Start)
    parts = start_so e.command e.event (subst (λ o. MayPlayAt scenario before e.backend o e.command e.event) (ap (session_of scenario before) own ∙ none) may.next.1)
        (subst (λ l. FollowsLife l e.command e.event) (ap (life_of before) own ∙ life) may.comes.follows.life)

-- whether they have joined or not
pub one_step : (scenario : Scenario) (before : List Entry) (one two now done : Backend) (e f : Entry) → MakesStep scenario before one e now → MakesStep scenario before two f done → one.progress.id ≡ two.progress.id → noted_of one ≡ noted_of two
    → (e ≡ f) × (noted_of now ≡ noted_of done)
one_step scenario before one two now done e f a b id noted = by_lives one.life two.life a.stands b.stands a.notes b.notes
  where
    At : Backend → Life → Type 0
    At s l = elim l as (λ x. Type 0) [ lives.Unstarted ↦ HasNotJoined scenario before s | lives.Alive ↦ AwaitsEntry scenario before s | lives.Stopped ↦ HasLeft scenario before s ]

    Notes : Backend → Entry → Backend → Life → Type 0
    Notes was x now l = elim l as (λ y. Type 0) [ lives.Unstarted ↦ noted_of now ≡ nothing_noted | other ↦ NotesStep scenario before (before ++ x ∷ []) was now ]

    -- one that has left makes no step
    no_more : (s after : Backend) (x : Entry) → MakesStep scenario before s x after → HasLeft scenario before s → ⊥
    no_more s after x step left = let may = step_may scenario before s after x step in subst (λ l. FollowsLife l x.command x.event) (ap (life_of before) may.1 ∙ left.life) may.0.comes.follows.life

    by_lives : (l m : Life) → At one l → At two m → Notes one e now l → Notes two f done m → (e ≡ f) × (noted_of now ≡ noted_of done)
    by_lives lives.Alive lives.Alive wait waits c d = (entry_one scenario before one two now done e f a b id noted wait waits c d, now_noted scenario before one two now done e f a b id noted wait waits c d)
    by_lives lives.Unstarted lives.Unstarted new fresh c d = (
      starts_one scenario before e one.progress.id (step_may scenario before one now e a).0 (step_may scenario before one now e a).1 new.session new.life ∙ ap (λ n. entry_of n 0 events.Start) id
          ∙ sym (starts_one scenario before f two.progress.id (step_may scenario before two done f b).0 (step_may scenario before two done f b).1 fresh.session fresh.life),
      c ∙ sym d,
    )
    by_lives lives.Unstarted lives.Alive new waits c d = absurd (cc (sym new.life ∙ ap (life_of before) id ∙ waits.keeps.life.alive))
    by_lives lives.Alive lives.Unstarted wait new c d = absurd (cc (sym new.life ∙ ap (life_of before) (sym id) ∙ wait.keeps.life.alive))
    by_lives lives.Stopped m left at c d = absurd (no_more one now e a left)
    by_lives l lives.Stopped at left c d = absurd (no_more two done f b left)
