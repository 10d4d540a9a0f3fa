-- A backend's own entry, whichever it is: what the code holds is its session again.
use Rattle.std.proofs.Common.{◌≡◌, ◌≤◌, ◌+◌, ◌∙◌, ◌==◌, ℕ, Bool, true, false, Option, Some, None, List, refl, sym, ap, subst, length, drop, map, slice_get, arith}
use Rattle.std.proofs.lemmas.Bool.{eq-eqb}
use Rattle.std.proofs.lemmas.List.{length_push}
use Rattle.std.specs.List.{AllByRecursion}
use Rattle.base_types.specs.Scenario.{IsBackend}
use Rattle.event_kinds.specs.declared.entry.Event.TheVariants as events
use Rattle.lock_modes.specs.Own.{cleared}
use Rattle.lock_modes.specs.Rooms.{Roomy}
use Rattle.ddl_effect.specs.Commands.{commands_of}
use Rattle.ddl_effect.specs.Stages.{plan_at, plan_again}
use Rattle.history_model.specs.Transactions.{begun}
use Rattle.history_model.specs.Sent.{ends_transaction}
use Rattle.cacheless.specs.Types.{Command, Scenario, Entry, Event, OwnLock}
use Rattle.cacheless.specs.declared.progress.Counts.{Counts}
use Rattle.txn_blocks.specs.declared.transaction.RunningTransaction.{RunningTransaction}
use Rattle.cacheless.specs.declared.progress.Progress.{Progress}
use Rattle.cacheless.specs.Facts.{Facts, facts_of}
use Rattle.cacheless.specs.Session.{Session, first_of}
use Rattle.cacheless.specs.Settled.{settled}
use Rattle.cacheless.specs.Sessions.{noted, placed_at, counted, accepted, entered, commands_left, session_by, session_of}
use Rattle.cacheless.specs.Pins.{ArePinned}
use Rattle.cacheless.specs.Puts.{PutsOpened}
use Rattle.txn_blocks.specs.Transactions.{begun_own, ends_own}
use Rattle.cacheless.specs.State.{lists_at, is_absent, is_in_accept, locks_accepted, Rest, rest_of, session_at}
use Rattle.cacheless.specs.Holds.{FactsFit, CountsFit, IsSought, Holds, Rests, IsWhere, HasEntered, entry_of, with_own}
use Rattle.cacheless.proofs.FactsAfter.{facts_by}
use Rattle.cacheless.proofs.Reading.{facts_of-own, session_of-own}
use Rattle.cacheless.proofs.Same.{accept_same}
use Rattle.cacheless.proofs.Resting.{first_left, settled_at_rest}

-- the facts after the backend's own entry
abbrev pub facts_after : List Entry → Progress → Event → Facts
facts_after seen s event = facts_by seen s.id (s.finished + 1) event (facts_of seen s.id)

-- its session with the entry, before its locks are clear and before it goes on
abbrev pub noted_after : List Entry → Progress → Event → Rest → Session
noted_after seen s event rest = counted (facts_after seen s event) event (placed_at (length seen + 1) (s.finished + 1) event (session_at s rest))

-- what the code doesn't hold of that
abbrev pub rest_after : List Entry → Progress → Event → Rest → Rest
rest_after seen s event rest = rest_of (noted_after seen s event rest)

-- the event is no start
pub record GoesOn (event : Event) : Type 0 where
  pub session : (scenario : Scenario) (facts : Facts) (b at command : ℕ) (s : Session) → session_by scenario facts b at command event (Some s) ≡ Some (settled facts (commands_left scenario b s) (entered facts (commands_left scenario b s) at command event s))
  pub finished : (s : Session) → (noted event s).finished ≡ s.finished

-- what the code owes after its own entry, before it makes its locks clear
pub record Enters (old : List Entry) (was now : Progress) (event : Event) (rest : Rest) : Type 0 where
  pub moves : IsWhere was now
  pub session : noted_after old was event rest ≡ session_at now (rest_after old was event rest)
  pub facts : FactsFit (facts_after old was event) now
  pub counts : CountsFit now.tally (length old + 1)
  pub order : AllByRecursion (λ list. list.command ≤ now.finished + 1) (lists_at now)
  pub sought : is_absent (plan_at now.opens now.exec) ≡ true → IsSought (rest_after old was event rest).sought (plan_again now.opens now.exec)
  pub puts : PutsOpened now.opened (plan_at now.opens now.exec)
  pub pins : ArePinned now

-- a full fetch is counted in the tally alone
counted_tally : (facts : Facts) (event : Event) (s : Session) → counted facts event s ≡ record s { tally = (counted facts event s).tally }
counted_tally facts (events.Fetch count) s = refl
counted_tally facts event s = refl

-- the same with its locks clear, where no accept is left to end
abbrev pub with_locks : Progress → Roomy OwnLock → Progress
with_locks s locks = record s { locks = locks }

accepted_same : (facts : Facts) (o : Option Command) (now : Progress) (locks : Roomy OwnLock) (rest : Rest) → FactsFit facts now → locks.items ≡ locks_accepted (is_in_accept now o) now.locks.items
    → accepted facts o (session_at now rest) ≡ session_at (with_locks now locks) rest
accepted_same facts o now locks rest fits items = λ i. record (session_at now rest) { locks = (ap (λ (t : Bool). elim t as (λ x. List OwnLock) [ true ↦ now.locks.items | false ↦ map cleared now.locks.items ]) (accept_same facts o now rest fits) ∙ sym items) i }

-- so it holds its session after its own entry
pub own_holds : (scenario : Scenario) (old : List Entry) (was now : Progress) (event : Event) (locks : Roomy OwnLock) (rests : Rests scenario old was) → GoesOn event → Enters old was now event rests.holds.rest
    → locks.items ≡ locks_accepted (is_in_accept now (slice_get now.commands now.finished)) now.locks.items → Holds scenario (with_own old was event) (with_locks now locks)
own_holds scenario old was now event locks rests on enters items = record {
  number = subst (λ b. IsBackend scenario.backends b) (sym enters.moves.id) holds.number;
  commands = enters.moves.commands ∙ holds.commands ∙ ap (commands_of scenario) (sym enters.moves.id);
  few = subst (λ l. length l ≤ 20000) (sym enters.moves.commands) holds.few;
  most = subst (λ n. n ≤ length now.commands) (sym enters.moves.finished) (subst (λ l. was.finished ≤ length l) (sym enters.moves.commands) holds.most);
  rest = rest;
  count = ap length same ∙ holds.count ∙ sym enters.moves.finished;
  is = ap (session_of scenario new) enters.moves.id
      ∙ session_of-own scenario old e was.id own
      ∙ ap (session_by scenario after was.id (length old + 1) (was.finished + 1) event) (holds.is ∙ ap Some (settled_at_rest scenario old was rests))
      ∙ on.session scenario after was.id (length old + 1) (was.finished + 1) (session_at was holds.rest)
      ∙ ap (λ l. Some (settled after l (entered after l (length old + 1) (was.finished + 1) event (session_at was holds.rest)))) left
      ∙ ap (λ s. Some (settled after (drop now.finished now.commands) (accepted after (first_of (drop now.finished now.commands)) s))) enters.session
      ∙ ap (λ o. Some (settled after (drop now.finished now.commands) (accepted after o (session_at now rest)))) (first_left now.commands now.finished)
      ∙ ap (λ s. Some (settled after (drop now.finished now.commands) s)) (accepted_same after (slice_get now.commands now.finished) now locks rest enters.facts items)
      ∙ ap (λ f. Some (settled f (drop now.finished now.commands) (session_at (with_locks now locks) rest))) (sym facts);
  facts = facts ∙ enters.facts;
  counts = subst (CountsFit now.tally) (sym (length_push old e)) enters.counts;
  order = enters.order;
  sought = enters.sought;
  puts = enters.puts;
  pins = enters.pins;
}
  where
    holds : Holds scenario old was
    holds = rests.holds

    e : Entry
    e = entry_of was.id (was.finished + 1) event

    new : List Entry
    new = with_own old was event

    own : (e.backend == was.id) ≡ true
    own = eq-eqb was.id was.id refl

    after : Facts
    after = facts_after old was event

    rest : Rest
    rest = rest_after old was event holds.rest

    facts : facts_of new now.id ≡ after
    facts = ap (facts_of new) enters.moves.id ∙ facts_of-own old e was.id own

    left : commands_left scenario was.id (session_at was holds.rest) ≡ drop now.finished now.commands
    left = ap (λ n. drop n (commands_of scenario was.id)) holds.count ∙ ap (drop was.finished) (sym holds.commands) ∙ ap (λ n. drop n was.commands) (sym enters.moves.finished) ∙ ap (drop now.finished) (sym enters.moves.commands)

    same : rest.finished ≡ holds.rest.finished
    same = ap (λ t. t.finished) (counted_tally after event (placed_at (length old + 1) (was.finished + 1) event (session_at was holds.rest))) ∙ on.finished (session_at was holds.rest)

-- and that is the session which the entry left
pub own_entered : (scenario : Scenario) (old : List Entry) (was now : Progress) (event : Event) (locks : Roomy OwnLock) (rests : Rests scenario old was) → GoesOn event → Enters old was now event rests.holds.rest
    → locks.items ≡ locks_accepted (is_in_accept now (slice_get now.commands now.finished)) now.locks.items → HasEntered scenario old was event rests (with_locks now locks)
unfolding own_holds
own_entered scenario old was now event locks rests on enters items = record {
  holds = own_holds scenario old was now event locks rests on enters items;
  session = sym (
      ap (λ f. entered f (drop was.finished was.commands) (length old + 1) (was.finished + 1) event (session_at was rests.holds.rest)) (facts_of-own old (entry_of was.id (was.finished + 1) event) was.id (eq-eqb was.id was.id refl))
      ∙ ap (accepted after (first_of (drop was.finished was.commands))) enters.session
      ∙ ap (λ o. accepted after o (session_at now rest)) (first_left was.commands was.finished ∙ ap (λ l. slice_get l was.finished) (sym enters.moves.commands) ∙ ap (slice_get now.commands) (sym enters.moves.finished))
      ∙ accepted_same after (slice_get now.commands now.finished) now locks rest enters.facts items
      );
  moves = record { id = enters.moves.id; commands = enters.moves.commands; finished = enters.moves.finished };
}
  where
    after : Facts
    after = facts_after old was event

    rest : Rest
    rest = rest_after old was event rests.holds.rest

-- the transaction of the entry runs
begun_same : (number : ℕ) (own : Option RunningTransaction) → begun number own ≡ begun_own number own
begun_same number None = refl
begun_same number (Some t) = refl

pub runs_begun : (number : ℕ) (s : Progress) {facts : Facts} → FactsFit facts s → begun number facts.running ≡ begun_own number s.running
runs_begun number s fits = ap (λ f. begun number f.running) fits ∙ begun_same number s.running

pub ends_same : (from : ℕ) (own : Option RunningTransaction) → ends_transaction from own ≡ ends_own from own
ends_same from None = refl
ends_same from (Some t) = refl

-- the counts of one more entry
pub counts_stay : {c : Counts} {entries : ℕ} → CountsFit c entries → CountsFit c (entries + 1)
counts_stay c = record { looks = omega (arith, c.looks); scans = omega (arith, c.scans); grants = omega (arith, c.grants); unlocks = omega (arith, c.unlocks); fetches = omega (arith, c.fetches); full = c.full }
