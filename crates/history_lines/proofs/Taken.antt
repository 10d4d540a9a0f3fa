-- Where a session is after it has taken an entry.
use Rattle.std.proofs.Common.{◌≡◌, ◌+◌, ◌∙◌, ◌==◌, ◌&&◌, ◌∷◌, ◌++◌, [], ℕ, Bool, true, false, Option, Some, None, Result, Ok, Err, OnOk, List, length, slice_get, is_some, if◌then◌else◌, refl, sym, ap, subst}
use Rattle.std.proofs.lemmas.Bool.{eq-eqb, eqb-true, and_parts, both_ways}
use Rattle.event_kinds.specs.declared.entry.Event.TheVariants as events
use Rattle.ddl_effect.specs.Commands.{commands_of}
use Rattle.history_model.specs.Drawn.{next_oid}
use Rattle.history_model.specs.Legal.{IsLegal}
use Rattle.history_model.specs.MayFollow.{MayFollow}
use Rattle.history_model.specs.MayFollow.{FollowsLife}
use Rattle.history_model.specs.Lives.{life_of}
use Rattle.history_model.specs.declared.life.Life.{Life}
use Rattle.history_model.specs.declared.life.Life.TheVariants.{Unstarted, Alive, Stopped}
use Rattle.history_model.proofs.Reading.{life_of-own}
use Rattle.history_ledger.specs.Held.{Reads}
use Rattle.cacheless.specs.Answering.{KeepsAbsent}
use Rattle.cacheless.specs.Facts.{facts_of}
use Rattle.cacheless.specs.Holds.{Holds, Rests, HasEntered, HasNotStarted, HasStarted, entry_of, with_own}
use Rattle.cacheless.specs.Rule.{may_come}
use Rattle.cacheless.specs.May.{may_play_now}
use Rattle.cacheless.specs.OnCourse.{AllOnCourse}
use Rattle.cacheless.specs.Played.{AreSpelled, IsPlayed}
use Rattle.cacheless.specs.Plays.{IsNext, Plays, MayPlayIn, MayPlayAt}
use Rattle.cacheless.specs.Silently.{is_to_answer_at}
use Rattle.cacheless.specs.State.{facts_at, work_at, kept_at, session_at}
use Rattle.cacheless.specs.Telling.{TellsNow, HasGoneOn}
use Rattle.cacheless.proofs.Allowed.AllowedHistories.{plays_on_course}
use Rattle.cacheless.proofs.Resting.{settled_at_rest}
use Rattle.cacheless.specs.Awaiting.{AwaitsEntry, AnswersNow, HasTaken}
use Rattle.cacheless.specs.Nexts.{is_start}
use Rattle.history_lines.specs.Comes.{comes_at}
use Rattle.history_lines.specs.Stands.{HasNoEntry, HasStopped, IsGoing, Awaits, Over, Stands, IsSessionOf}
use Rattle.history_lines.specs.Takes.{ComesNext, HasSettled, is_stop}
use Rattle.history_lines.specs.Types.{Scenario, Command, Entry, Event, Ledger, Line, Progress, Session}
use Rattle.cacheless.proofs.OwnAnswers.{own_answers, stop_lines, start_answers}
use Rattle.cacheless.proofs.OwnPlaces.{own_absent}

-- where a session that has started is
started_stands : (scenario : Scenario) (seen : List Entry) (s : Session) → s.is_started ≡ true → Stands scenario seen s → IsGoing scenario seen s
started_stands scenario seen s is stands = subst (λ t. elim t as (λ x. Type 0) [ true ↦ IsGoing scenario seen s | false ↦ HasNoEntry scenario seen s ]) is stands

-- and the other way round
stands_started : (scenario : Scenario) (seen : List Entry) (s : Session) → s.is_started ≡ true → IsGoing scenario seen s → Stands scenario seen s
stands_started scenario seen s is going = subst (λ t. elim t as (λ x. Type 0) [ true ↦ IsGoing scenario seen s | false ↦ HasNoEntry scenario seen s ]) (sym is) going

-- and one that hasn't
pub new_stands : (scenario : Scenario) (seen : List Entry) (s : Session) → s.is_started ≡ false → Stands scenario seen s → HasNoEntry scenario seen s
new_stands scenario seen s is stands = subst (λ t. elim t as (λ x. Type 0) [ true ↦ IsGoing scenario seen s | false ↦ HasNoEntry scenario seen s ]) is stands

-- a start comes of a session that hasn't started
pub start_comes : (next : ℕ) (s : Session) (c : ℕ) → comes_at next s c events.Start ≡ true → s.is_started ≡ false
start_comes next s c comes = by_started s.is_started refl
  where
    none_plays : (o : Option Command) → may_come next (facts_at s.progress) o (work_at s.progress) events.Start ≡ false
    none_plays None = refl
    none_plays (Some command) = refl

    by_started : (t : Bool) → s.is_started ≡ t → s.is_started ≡ false
    by_started false is = is
    by_started true is = absurd (both_ways _ (none_plays (slice_get s.progress.commands s.progress.finished)) (and_parts (c == s.progress.finished + 1) _ (ap (λ t. if t then (c == s.progress.finished + 1) && may_play_now next s.progress events.Start else true) (sym is) ∙ comes)).1)

-- what comes of a session that has started
pub record ComesOf (next : ℕ) (s : Session) (c : ℕ) (event : Event) : Type 0 where
  pub started : s.is_started ≡ true
  pub command : c ≡ s.progress.finished + 1
  pub plays : may_play_now next s.progress event ≡ true

-- any other event comes of one that has
pub other_comes : (next : ℕ) (s : Session) (c : ℕ) (event : Event) → is_start event ≡ false → comes_at next s c event ≡ true → ComesOf next s c event
other_comes next s c event other comes = by_started s.is_started refl
  where
    by_started : (t : Bool) → s.is_started ≡ t → ComesOf next s c event
    by_started false is = absurd (both_ways _ other (ap (λ t. if t then (c == s.progress.finished + 1) && may_play_now next s.progress event else is_start event) (sym is) ∙ comes))
    by_started true is = let parts = and_parts (c == s.progress.finished + 1) _ (ap (λ t. if t then (c == s.progress.finished + 1) && may_play_now next s.progress event else is_start event) (sym is) ∙ comes) in
        record { started = is; command = eqb-true c (s.progress.finished + 1) parts.0; plays = parts.1 }

-- an event that is no start
pub no_start : (event : Event) → (event ≡ events.Start → ⊥) → is_start event ≡ false
no_start events.Start none = absurd (none refl)
no_start event none = refl

-- the same of a stop
pub no_stop : (event : Event) → (event ≡ events.Stop → ⊥) → is_stop event ≡ false
no_stop events.Stop none = absurd (none refl)
no_stop event none = refl

-- a stop comes of a session that has started
pub stop_comes : (next : ℕ) (s : Session) (c : ℕ) (event : Event) → event ≡ events.Stop → comes_at next s c event ≡ true → s.is_started ≡ true
stop_comes next s c event is comes = (other_comes next s c event (ap is_start is) comes).started

-- the number of a start is 0
start_number : (life : Life) (c : ℕ) → FollowsLife life c events.Start → c ≡ 0
start_number Unstarted c follows = follows
start_number (Alive last) c follows = absurd follows
start_number Stopped c follows = absurd follows

-- of a backend that has stopped no more entries come
none_after : (scenario : Scenario) (seen : List Entry) (s : Session) (c : ℕ) (event : Event) → HasStopped scenario seen s → MayFollow seen (entry_of s.progress.id c event) → ⊥
none_after scenario seen s c event stopped follows = subst (λ life. FollowsLife life c event) stopped.life follows.life

-- so one that has an entry that may come next awaits it
pub awaits : (scenario : Scenario) (seen : List Entry) (s : Session) (c : ℕ) (event : Event) → s.is_started ≡ true → Stands scenario seen s → MayFollow seen (entry_of s.progress.id c event) → AwaitsEntry scenario seen s.progress s.lines
awaits scenario seen s c event is stands follows = by_case (started_stands scenario seen s is stands)
  where
    by_case : IsGoing scenario seen s → AwaitsEntry scenario seen s.progress s.lines
    by_case (Awaits waits) = waits
    by_case (Over stopped) = absurd (none_after scenario seen s c event stopped follows)

-- the entry is one that its session may make
pub own_plays : (scenario : Scenario) (seen : List Entry) (was : Progress) (event : Event) (rests : Rests scenario seen was) → IsNext scenario seen (entry_of was.id (was.finished + 1) event)
    → MayPlayIn (next_oid seen) (facts_of seen was.id) (slice_get was.commands was.finished) (session_at was rests.holds.rest) event
own_plays scenario seen was event rests next =
    subst (λ o. MayPlayIn (next_oid seen) (facts_of seen was.id) o (session_at was rests.holds.rest) event)
    (ap (slice_get (commands_of scenario was.id)) rests.holds.count ∙ ap (λ l. slice_get l was.finished) (sym rests.holds.commands))
    (subst (λ o. MayPlayAt scenario seen was.id o (was.finished + 1) event) (rests.holds.is ∙ ap Some (settled_at_rest scenario seen was rests)) next.1).1

-- what a session has to tell after an entry of its own, but for its stop
own_now : (scenario : Scenario) (seen : List Entry) (was now : Progress) (event : Event) (lines : List Line) (waits : AwaitsEntry scenario seen was lines) → ComesNext scenario seen (entry_of was.id (was.finished + 1) event) → is_stop event ≡ false → HasTaken scenario seen was event waits.rests now → AnswersNow scenario (with_own seen was event) now lines
own_now scenario seen was now event lines waits comes inside takes = own_answers scenario seen was now event lines waits comes.spelled comes.legal comes.plays comes.follows plays (λ is. both_ways _ inside (ap is_stop is)) takes.goes takes.answer
    (own_absent scenario seen was now event lines waits played.1 comes.follows plays takes.goes)
  where
    plays : MayPlayIn (next_oid seen) (facts_of seen was.id) (slice_get was.commands was.finished) (session_at was waits.rests.holds.rest) event
    plays = own_plays scenario seen was event waits.rests comes.next

    played : IsPlayed scenario seen × AllOnCourse scenario seen
    played = plays_on_course scenario seen comes.spelled comes.legal comes.plays

-- a session that has gone on awaits its next entry
pub settles : {E : Type 0} (result : Result (Unit {0}) E) (was now : Session) → OnOk result ((scenario : Scenario) (seen : List Entry) → Holds scenario seen was.progress → Rests scenario seen now.progress) → OnOk result (is_to_answer_at now.progress ≡ true → is_some now.progress.answer ≡ true)
    → OnOk result ((scenario : Scenario) (seen : List Entry) (held : Holds scenario seen was.progress) → TellsNow scenario seen was.progress held → KeepsAbsent seen was.progress → HasGoneOn scenario seen was.progress held was.lines now.progress now.lines)
    → OnOk result ((scenario : Scenario) (seen : List Entry) → AnswersNow scenario seen was.progress was.lines → HasSettled scenario seen was now)
settles (Ok done) was now rests answered goes_on = λ scenario seen old.
    let gone = goes_on scenario seen old.holds old.tells old.absent in
    record {
      waits = record { rests = record { holds = gone.holds; still = (rests scenario seen old.holds).still }; absent = gone.absent; tells = gone.tells.tells; lines_are = gone.lines_are old.lines_are; answered = answered };
      id = gone.id;
    }
settles (Err e) was now rests answered goes_on = tt

-- the session of a backend that awaits an entry
awaiting_session : (scenario : Scenario) (seen : List Entry) (b : ℕ) (s : Session) → s.is_started ≡ true → s.progress.id ≡ b → AwaitsEntry scenario seen s.progress s.lines → IsSessionOf scenario seen b s
awaiting_session scenario seen b s is id waits = record { id = id; stands = stands_started scenario seen s is (Awaits waits) }

-- after an entry of its own, but for its stop
pub gone_on : {E : Type 0} (result : Result (Unit {0}) E) (ledger : Ledger) (at : ℕ) (event : Event) (was mid now : Session) → was.is_started ≡ true → mid.is_started ≡ was.is_started → mid.lines ≡ was.lines → is_stop event ≡ false
    → ((scenario : Scenario) (seen : List Entry) (rests : Rests scenario seen was.progress) → Reads seen ledger → at ≡ length seen + 1 → HasTaken scenario seen was.progress event rests mid.progress)
    → OnOk result ((scenario : Scenario) (seen : List Entry) → AnswersNow scenario seen mid.progress mid.lines → HasSettled scenario seen mid now) → now.is_started ≡ mid.is_started
    → OnOk result ((scenario : Scenario) (seen : List Entry) → Reads seen ledger → at ≡ length seen + 1 → AwaitsEntry scenario seen was.progress was.lines → ComesNext scenario seen (entry_of was.progress.id (was.progress.finished + 1) event) → IsSessionOf scenario (with_own seen was.progress event) was.progress.id now)
gone_on (Ok done) ledger at event was mid now is mid_is lines inside takes settled now_is = λ scenario seen reads place waits comes.
    let taken = takes scenario seen waits.rests reads place in
    let after = settled scenario (with_own seen was.progress event) (subst (AnswersNow scenario (with_own seen was.progress event) mid.progress) (sym lines) (own_now scenario seen was.progress mid.progress event was.lines waits comes inside taken)) in
    awaiting_session scenario (with_own seen was.progress event) was.progress.id now (now_is ∙ mid_is ∙ is) (after.id ∙ taken.goes.moves.id) after.waits
gone_on (Err e) ledger at event was mid now is mid_is lines inside takes settled now_is = tt

-- after its start
pub started : {E : Type 0} (result : Result (Unit {0}) E) (was mid now : Session) → mid.is_started ≡ true → mid.lines ≡ was.lines
    → kept_at mid.progress ≡ kept_at was.progress → mid.progress.answer ≡ was.progress.answer → ((scenario : Scenario) (seen : List Entry) → HasNotStarted scenario seen was.progress → HasStarted scenario seen was.progress mid.progress)
    → OnOk result ((scenario : Scenario) (seen : List Entry) → AnswersNow scenario seen mid.progress mid.lines → HasSettled scenario seen mid now) → now.is_started ≡ mid.is_started
    → OnOk result ((scenario : Scenario) (seen : List Entry) → HasNoEntry scenario seen was → ComesNext scenario seen (entry_of was.progress.id 0 events.Start) → IsSessionOf scenario (seen ++ entry_of was.progress.id 0 events.Start ∷ []) was.progress.id now)
started (Ok done) was mid now mid_is lines kept answer starts settled now_is = λ scenario seen before comes.
    let has = starts scenario seen before.none.waits in
    let after = settled scenario (seen ++ entry_of was.progress.id 0 events.Start ∷ []) (subst (AnswersNow scenario (seen ++ entry_of was.progress.id 0 events.Start ∷ []) mid.progress) (sym (lines ∙ before.lines_are))
    (start_answers scenario seen was.progress mid.progress before.none comes.spelled comes.legal comes.plays comes.follows has answer)) in
    awaiting_session scenario (seen ++ entry_of was.progress.id 0 events.Start ∷ []) was.progress.id now (now_is ∙ mid_is) (after.id ∙ has.moves.id) after.waits
started (Err e) was mid now mid_is lines kept answer starts settled now_is = tt

-- after its stop
pub stopped : (was now : Session) → now.is_started ≡ true → now.lines ≡ was.lines
    → ((scenario : Scenario) (seen : List Entry) (rests : Rests scenario seen was.progress) → HasEntered scenario seen was.progress events.Stop rests now.progress)
    → (scenario : Scenario) (seen : List Entry) → AwaitsEntry scenario seen was.progress was.lines → ComesNext scenario seen (entry_of was.progress.id (was.progress.finished + 1) events.Stop) → IsSessionOf scenario (with_own seen was.progress events.Stop) was.progress.id now
stopped was now is lines enters scenario seen waits comes = record {
  id = goes.moves.id;
  stands = stands_started scenario (with_own seen was.progress events.Stop) now is (Over (record {
    life = ap (life_of (with_own seen was.progress events.Stop)) goes.moves.id ∙ life_of-own seen (entry_of was.progress.id (was.progress.finished + 1) events.Stop) was.progress.id (eq-eqb was.progress.id was.progress.id refl);
    lines_are = lines ∙ stop_lines scenario seen was.progress now.progress was.lines waits (own_plays scenario seen was.progress events.Stop waits.rests comes.next) goes;
  }));
}
  where
    goes : HasEntered scenario seen was.progress events.Stop waits.rests now.progress
    goes = enters scenario seen waits.rests

-- an entry that is its backend's next
record IsOwn (s : Session) (c : ℕ) (event : Event) (e : Entry) : Type 0 where
  id : s.progress.id ≡ e.backend
  command : c ≡ e.command
  event_is : event ≡ e.event

-- it is the entry
own_is : (s : Session) (c : ℕ) (event : Event) (e : Entry) → IsOwn s c event e → entry_of s.progress.id c event ≡ e
own_is s c event e own = λ i. record { backend = own.id i; command = own.command i; event = own.event_is i }

-- the session of its backend takes its start
pub takes_start : {E : Type 0} (result : Result (Unit {0}) E) (ledger : Ledger) (at : ℕ) (was now : Session) (e : Entry) → events.Start ≡ e.event → comes_at ledger.rows.next_oid was e.command e.event ≡ true
    → OnOk result ((scenario : Scenario) (seen : List Entry) → HasNoEntry scenario seen was → ComesNext scenario seen (entry_of was.progress.id 0 events.Start) → IsSessionOf scenario (seen ++ entry_of was.progress.id 0 events.Start ∷ []) was.progress.id now)
    → OnOk result ((scenario : Scenario) (seen : List Entry) → Reads seen ledger → at ≡ length seen + 1 → AreSpelled scenario → IsLegal seen → Plays scenario seen → MayFollow seen e → IsNext scenario seen e → IsSessionOf scenario seen e.backend was → IsSessionOf scenario (seen ++ e ∷ []) e.backend now)
takes_start (Ok done) ledger at was now e is comes starts = λ scenario seen reads place spelled legal plays follows may session.
    let same : entry_of was.progress.id 0 events.Start ≡ e = own_is was 0 events.Start e (record { id = session.id; command = sym (start_number (life_of seen e.backend) e.command (subst (FollowsLife (life_of seen e.backend) e.command) (sym is) follows.life)); event_is = is }) in
    subst (λ b. IsSessionOf scenario (seen ++ e ∷ []) b now) session.id (subst (λ x. IsSessionOf scenario (seen ++ x ∷ []) was.progress.id now) same
    (starts scenario seen (new_stands scenario seen was (start_comes ledger.rows.next_oid was e.command (ap (comes_at ledger.rows.next_oid was e.command) is ∙ comes)) session.stands)
    (subst (ComesNext scenario seen) (sym same) (record { spelled = spelled; legal = legal; plays = plays; follows = follows; next = may }))))
takes_start (Err error) ledger at was now e is comes starts = tt

-- and an entry after it
pub takes_own : {E : Type 0} (result : Result (Unit {0}) E) (ledger : Ledger) (at : ℕ) (was now : Session) (e : Entry) (event : Event) → event ≡ e.event → is_start event ≡ false → comes_at ledger.rows.next_oid was e.command e.event ≡ true
    → OnOk result ((scenario : Scenario) (seen : List Entry) → Reads seen ledger → at ≡ length seen + 1 → AwaitsEntry scenario seen was.progress was.lines → ComesNext scenario seen (entry_of was.progress.id (was.progress.finished + 1) event) → IsSessionOf scenario (with_own seen was.progress event) was.progress.id now)
    → OnOk result ((scenario : Scenario) (seen : List Entry) → Reads seen ledger → at ≡ length seen + 1 → AreSpelled scenario → IsLegal seen → Plays scenario seen → MayFollow seen e → IsNext scenario seen e → IsSessionOf scenario seen e.backend was → IsSessionOf scenario (seen ++ e ∷ []) e.backend now)
takes_own (Ok done) ledger at was now e event is other comes takes = λ scenario seen reads place spelled legal plays follows may session.
    let of : ComesOf ledger.rows.next_oid was e.command event = other_comes ledger.rows.next_oid was e.command event other (ap (comes_at ledger.rows.next_oid was e.command) is ∙ comes) in
    let same : entry_of was.progress.id (was.progress.finished + 1) event ≡ e = own_is was (was.progress.finished + 1) event e (record { id = session.id; command = sym of.command; event_is = is }) in
    let all : ComesNext scenario seen (entry_of was.progress.id (was.progress.finished + 1) event) = subst (ComesNext scenario seen) (sym same) (record { spelled = spelled; legal = legal; plays = plays; follows = follows; next = may }) in
    subst (λ b. IsSessionOf scenario (seen ++ e ∷ []) b now) session.id (subst (λ x. IsSessionOf scenario (seen ++ x ∷ []) was.progress.id now) same
    (takes scenario seen reads place (awaits scenario seen was (was.progress.finished + 1) event of.started session.stands all.follows) all))
takes_own (Err error) ledger at was now e event is other comes takes = tt

-- its stop too
pub takes_stop : {E : Type 0} (result : Result (Unit {0}) E) (ledger : Ledger) (at : ℕ) (was now : Session) (e : Entry) → events.Stop ≡ e.event → comes_at ledger.rows.next_oid was e.command e.event ≡ true
    → OnOk result ((scenario : Scenario) (seen : List Entry) → AwaitsEntry scenario seen was.progress was.lines → ComesNext scenario seen (entry_of was.progress.id (was.progress.finished + 1) events.Stop) → IsSessionOf scenario (with_own seen was.progress events.Stop) was.progress.id now)
    → OnOk result ((scenario : Scenario) (seen : List Entry) → Reads seen ledger → at ≡ length seen + 1 → AreSpelled scenario → IsLegal seen → Plays scenario seen → MayFollow seen e → IsNext scenario seen e → IsSessionOf scenario seen e.backend was → IsSessionOf scenario (seen ++ e ∷ []) e.backend now)
takes_stop {E = E} (Ok done) ledger at was now e is comes takes = takes_own {E = E} (Ok done) ledger at was now e events.Stop is refl comes (λ scenario seen reads place. takes scenario seen)
takes_stop (Err error) ledger at was now e is comes takes = tt
