-- What a start, a look and a stop make of what the code holds.
use Rattle.std.proofs.Common.{◌≡◌, ◌≤◌, ◌+◌, ◌∙◌, ◌==◌, ◌||◌, Bool, true, false, Option, Some, None, List, [], ◌∷◌, ◌++◌, refl, sym, ap, subst, length, drop, slice_get, arith}
use Rattle.std.proofs.lemmas.Bool.{eq-eqb}
use Rattle.std.specs.List.{AllByRecursion}
use Rattle.command_lists.specs.Lists.{all_lists}
use Rattle.event_kinds.specs.declared.entry.Event.TheVariants as events
use Rattle.lock_modes.specs.Rooms.{Roomy}
use Rattle.txn_blocks.specs.Blocks.{Blocks, no_block, refused_by}
use Rattle.ddl_effect.specs.Commands.{plan_of}
use Rattle.ddl_effect.specs.Opens.{has_open}
use Rattle.ddl_effect.specs.declared.told.Told.TheVariants as tells
use Rattle.ddl_effect.specs.Plans.{Done}
use Rattle.ddl_effect.specs.Stages.{plan_at}
use Rattle.cacheless.specs.Types.{Command, CommandError, Scenario, Entry, OpenRelation, OwnLock}
use Rattle.cacheless.specs.declared.progress.Due.TheVariants as dues
use Rattle.cacheless.specs.declared.progress.Progress.{Progress}
use Rattle.cacheless.specs.Facts.{Facts, facts_of}
use Rattle.cacheless.specs.Session.{none_open, plan_admitted, plan_first, refused_first, at_command, first_of}
use Rattle.cacheless.specs.Settled.{settled}
use Rattle.cacheless.specs.Puts.{PutsOpened, is_opened}
use Rattle.txn_blocks.specs.Transactions.{begun_own}
use Rattle.cacheless.specs.State.{due_looked, is_absent, is_in_accept, locks_accepted, IsNew, Rest, tally_at, session_at}
use Rattle.cacheless.specs.Holds.{CountsFit, Holds, Rests, HasNotStarted, entry_of, HasEntered, HasStarted}
use Rattle.cacheless.proofs.FactsAfter.{facts_by}
use Rattle.cacheless.proofs.Plans.ActOrder.{follows_order}
use Rattle.cacheless.proofs.Plans.UnderLocks.{order_there}
use Rattle.cacheless.proofs.Reading.{facts_of-own, session_of-own}
use Rattle.cacheless.proofs.Tests.{not_both}
use Rattle.cacheless.proofs.Resting.{first_left}
use Rattle.cacheless.proofs.Written.Putting.{puts_first}
use Rattle.cacheless.proofs.Entries.Entering.{with_locks, own_entered, runs_begun, counts_stay}

-- the state after a look
abbrev pub looked : Progress → Bool → Progress
looked was some_wait = record was { due = due_looked some_wait; running = Some (begun_own (was.finished + 1) was.running); tally = record was.tally { looks = was.tally.looks + 1 }; answer = None }

pub look_holds : (scenario : Scenario) (old : List Entry) (was : Progress) (some_wait : Bool) (locks : Roomy OwnLock) (rests : Rests scenario old was)
    → locks.items ≡ locks_accepted (is_in_accept (looked was some_wait) (slice_get was.commands was.finished)) was.locks.items
    → HasEntered scenario old was (events.Look some_wait) rests (with_locks (looked was some_wait) locks)
look_holds scenario old was some_wait locks rests items = own_entered scenario old was (looked was some_wait) (events.Look some_wait) locks rests (record { session = λ _ _ _ _ _ _. refl; finished = λ _. refl }) (record {
  moves = record { id = refl; commands = refl; finished = refl };
  session = refl;
  facts = let f = rests.holds.facts in λ i. record { due = due_looked some_wait; running = Some (runs_begun (was.finished + 1) was f i); lists = (f i).lists; kept = (f i).kept };
  counts = let c = rests.holds.counts in record { looks = omega (arith, c.looks); scans = omega (arith, c.scans); grants = omega (arith, c.grants); unlocks = omega (arith, c.unlocks); fetches = omega (arith, c.fetches); full = c.full };
  order = rests.holds.order;
  sought = rests.holds.sought;
  puts = rests.holds.puts;
  pins = rests.holds.pins;
}) items

-- the state after a stop
abbrev pub stopped : Progress → Progress
stopped was = record was { due = dues.Nothing }

pub stop_holds : (scenario : Scenario) (old : List Entry) (was : Progress) (locks : Roomy OwnLock) (rests : Rests scenario old was)
    → locks.items ≡ locks_accepted (is_in_accept (stopped was) (slice_get was.commands was.finished)) was.locks.items
    → HasEntered scenario old was events.Stop rests (with_locks (stopped was) locks)
stop_holds scenario old was locks rests items = own_entered scenario old was (stopped was) events.Stop locks rests (record { session = λ _ _ _ _ _ _. refl; finished = λ _. refl }) (record {
  moves = record { id = refl; commands = refl; finished = refl };
  session = refl;
  facts = let f = rests.holds.facts in λ i. record { due = dues.Nothing; running = (f i).running; lists = (f i).lists; kept = (f i).kept };
  counts = counts_stay rests.holds.counts;
  order = rests.holds.order;
  sought = rests.holds.sought;
  puts = rests.holds.puts;
  pins = rests.holds.pins;
}) items

-- a command begins by no lookup that has found nothing
pub not_absent : (blocks : Blocks) (opens : List OpenRelation) (o : Option Command) → is_absent (plan_first blocks opens o) ≡ false
not_absent blocks opens None = refl
not_absent blocks opens (Some command) = by_blocks (refused_by blocks command)
  where
    by_blocks : (error : Option CommandError) → is_absent (plan_admitted opens error command) ≡ false
    by_blocks None = order_there (plan_of opens command) (follows_order opens command)
    by_blocks (Some error) = refl

-- the state after the start
abbrev pub started : Progress → Progress
started was = record was { running = None; due = dues.Nothing }

pub start_holds : (scenario : Scenario) (old : List Entry) (was : Progress) → HasNotStarted scenario old was → Holds scenario (old ++ entry_of was.id 0 events.Start ∷ []) (started was)
start_holds scenario old was waits = record {
  number = waits.number;
  commands = waits.commands;
  few = waits.few;
  most = subst (λ n. n ≤ length was.commands) (sym new.finished) (omega arith);
  rest = rest;
  count = sym new.finished;
  is = session_of-own scenario old e was.id own
      ∙ ap (λ l. Some (settled after l (at_command no_block none_open [] [] (length old + 1) (first_of l)))) (sym waits.commands)
      ∙ ap (λ o. Some (settled after was.commands (at_command no_block none_open [] [] (length old + 1) o))) (first_left was.commands 0)
      ∙ ap (λ s. Some (settled after was.commands s)) same
      ∙ ap (λ n. Some (settled after (drop n was.commands) (session_at (started was) rest))) (sym new.finished)
      ∙ ap (λ f. Some (settled f (drop was.finished was.commands) (session_at (started was) rest))) (sym facts);
  facts = facts ∙ (let f = waits.facts in λ i. record { due = dues.Nothing; running = None; lists = (f i).lists; kept = (f i).kept });
  counts = subst (λ c. CountsFit c (length (old ++ e ∷ []))) (sym new.tally) (record { looks = omega arith; scans = omega arith; grants = omega arith; unlocks = omega arith; fetches = omega arith; full = omega arith });
  order = subst (AllByRecursion (λ list. list.command ≤ was.finished + 1)) (sym (ap all_lists new.lists)) tt;
  sought = λ is. absurd (not_both (is_absent (plan_at was.opens was.exec)) is found);
  puts = subst (PutsOpened was.opened) (sym new.plan) (puts_first was.opened none_open no_block first);
  pins = λ rel. new.pins rel ∙ sym (λ i. has_open rel (new.opens i) || is_opened (new.opened i) rel);
}
  where
    new : IsNew was.id was.commands was
    new = waits.new

    e : Entry
    e = entry_of was.id 0 events.Start

    own : (e.backend == was.id) ≡ true
    own = eq-eqb was.id was.id refl

    after : Facts
    after = facts_by old was.id 0 events.Start (facts_of old was.id)

    facts : facts_of (old ++ e ∷ []) was.id ≡ after
    facts = facts_of-own old e was.id own

    first : Option Command
    first = slice_get was.commands 0

    rest : Rest
    rest = record { finished = []; refused = refused_first no_block first; found = []; sought = Done tells.Ok; judged = length old + 1; last = length old + 1 }

    found : is_absent (plan_at was.opens was.exec) ≡ false
    found = ap is_absent new.plan ∙ not_absent no_block none_open first

    same : at_command no_block none_open [] [] (length old + 1) first ≡ session_at (started was) rest
    same = λ i. record (session_at (started was) rest) {
      blocks = sym new.blocks i;
      opens = sym new.opens i;
      left = sym new.plan i;
      blocked = sym new.blocked i;
      opened = sym new.opened i;
      taken = sym new.taken i;
      ended = sym new.ended i;
      tally = tally_at (sym new.tally i);
      locks = sym new.locks i;
    }

-- and that is the session at the first command
pub start_starts : (scenario : Scenario) (old : List Entry) (was : Progress) → HasNotStarted scenario old was → HasStarted scenario old was (started was)
unfolding start_holds
start_starts scenario old was waits = record {
  holds = start_holds scenario old was waits;
  session = λ i. record (session_at (started was) rest) {
    blocks = new.blocks i;
    opens = new.opens i;
    left = new.plan i;
    blocked = new.blocked i;
    opened = new.opened i;
    taken = new.taken i;
    ended = new.ended i;
    tally = tally_at (new.tally i);
    locks = new.locks i;
  };
  moves = record { id = refl; commands = refl; finished = refl };
}
  where
    new : IsNew was.id was.commands was
    new = waits.new

    first : Option Command
    first = slice_get was.commands 0

    rest : Rest
    rest = record { finished = []; refused = refused_first no_block first; found = []; sought = Done tells.Ok; judged = length old + 1; last = length old + 1 }
