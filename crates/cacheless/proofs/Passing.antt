-- What a backend does without an entry.
use Rattle.std.proofs.Common.{◌≡◌, ◌≤◌, ◌<◌, ◌+◌, ◌∙◌, ◌&&◌, ◌==◌, ℕ, Bool, true, false, Option, None, Some, List, [], ◌∷◌, ◌++◌, refl, sym, ap, subst, drop, is_some, unwrap_or, slice_get, arith, if◌then◌else◌, is_none}
use Rattle.std.proofs.lemmas.List.{length_push, append-nil}
use Rattle.std.proofs.lemmas.Option.{slice_get_within}
use Rattle.std.specs.List.{cons_option}
use Rattle.std.specs.Option.{option_map_or}
use Rattle.base_types.specs.Scans.{selects}
use Rattle.base_types.specs.declared.row.Row.TheVariants as rows
use Rattle.local_caches.specs.Caches.{kept_of, is_pinned}
use Rattle.local_caches.specs.declared.local_caches.LocalCaches.{LocalCaches}
use Rattle.lock_modes.specs.Own.{has_lock}
use Rattle.inval_messages.specs.Lists.{Written}
use Rattle.txn_blocks.specs.Blocks.{Blocks}
use Rattle.base_types.specs.declared.scan.Purpose.TheVariants as scans
use Rattle.ddl_effect.specs.Opens.{has_open}
use Rattle.ddl_effect.specs.Plans.{Plan, Act, Done, Fails, Absent, Do, Lookup, Open, Search, Read, Lock, Write, after_act}
use Rattle.ddl_effect.specs.Stages.{plan_at, plan_again, acts_left, want_of, want_of_act}
use Rattle.ddl_effect.specs.declared.want.Want.{Want}
use Rattle.ddl_effect.specs.declared.want.Want.TheVariants as wants
use Rattle.ddl_effect.proofs.Driven.{acts_some}
use Rattle.history_model.specs.Read.{is_scan_of, rows_by, rows_read}
use Rattle.history_model.specs.Versions.{answer_of}
use Rattle.history_model.proofs.Every.{every-weaker}
use Rattle.history_model.proofs.Prefixes.{along-keeps}
use Rattle.history_model.proofs.GivenRows.{given_seen}
use Rattle.cacheless.specs.Types.{Mode, Row, Purpose, Command, CommandError, Scenario, Entry, OpenRelation, Opening, Exec}
use Rattle.cacheless.specs.declared.progress.Counts.{Counts}
use Rattle.cacheless.specs.Suspects.{AreKnown}
use Rattle.cacheless.specs.declared.suspects.Suspects.{Suspects}
use Rattle.cacheless.specs.declared.progress.Progress.{Progress}
use Rattle.cacheless.specs.Facts.{Facts, facts_of}
use Rattle.cacheless.specs.Session.{Session, held_in, first_of, plan_first, is_blocked}
use Rattle.cacheless.specs.Settled.{next_session, blocks_after, opens_passed, opens_after, finished_as, if_locked, has_taken_no_other, opened_by, sought_by, act_done, settled, has_accepted_in, looked_up_in, gives_in, gives_left}
use Rattle.cacheless.specs.Pins.{PinsMore, PinsOnly}
use Rattle.cacheless.specs.Puts.{AreGivenBy, PutsOpened}
use Rattle.cacheless.specs.State.{blocks_passed, lists_at, no_counts, kept_at, is_kept, rows_kept, builds_missing, act_missing, row_next, is_absent, is_out, rest_of, session_at, facts_at, work_at, owes_nothing}
use Rattle.cacheless.specs.Silently.{is_finished_at, rows_for, rows_given, opened_for, Acts, Finishes}
use Rattle.cacheless.specs.Holds.{FactsFit, Holds, HasActed, HasPassed}
use Rattle.cacheless.proofs.Settling.{settled-act, settled-finish, acted-out}
use Rattle.cacheless.proofs.Plans.CommandUnder.{ActsUnder, exec_under, Seeks, seeks_under}
use Rattle.cacheless.proofs.Plans.SilentActs.{some_is}
use Rattle.cacheless.proofs.Allowed.OpensKept.{IsOpenEach, IsHeldEach, held_each, after_each}
use Rattle.cacheless.proofs.Pinning.{open_each, open_pinned, held_pinned, pins_left, pins_opened}
use Rattle.cacheless.proofs.Tests.{and_true, right_none, not_both}
use Rattle.cacheless.proofs.Resting.{first_left, left_command, cond_none, Free, free_now, lacks_none, here, finished_same}
use Rattle.cacheless.proofs.Written.Putting.{puts_first}
use Rattle.cacheless.proofs.Entries.EnteredLooks.{not_absent}
use Rattle.cacheless.proofs.Reading.{kept_read}
use Rattle.cacheless.specs.Work.{Work}
use Rattle.cacheless.specs.Ends.{end_left_in}

-- the rows that a scan gave are such as it asks for
rows_asked : (history : List Entry) (b : ℕ) (scan : Purpose) → AreGivenBy scan (rows_read history b scan)
rows_asked history b scan = along-keeps (λ before given. AreGivenBy scan given) (λ before old e. if e.backend == b then rows_by before b scan e.event old else old) stays [] history tt
  where
    by_scan : (before : List Entry) (t : Bool) (given : List Row) → AreGivenBy scan given → AreGivenBy scan (elim t [ true ↦ answer_of before b scan | false ↦ given ])
    by_scan before true given asked = every-weaker _ (λ row. selects scan row ≡ true) (λ row h. h.1) (answer_of before b scan) (given_seen before b scan)
    by_scan before false given asked = asked

    by_backend : (before : List Entry) (e : Entry) (t : Bool) (given : List Row) → AreGivenBy scan given → AreGivenBy scan (if t then rows_by before b scan e.event given else given)
    by_backend before e true given asked = by_scan before (is_scan_of scan e.event) given asked
    by_backend before e false given asked = asked

    stays : (before : List Entry) (given : List Row) (e : Entry) → AreGivenBy scan given → AreGivenBy scan (if e.backend == b then rows_by before b scan e.event given else given)
    stays before given e asked = by_backend before e (e.backend == b) given asked

-- what an act gave that needs no entry: the rows of a scan are such as it asks for
gave_asked : (seen : List Entry) (b : ℕ) (s : Progress) (act : Act) (plan : List Row → Plan) (gave : List Row) → FactsFit (facts_of seen b) s → plan_at s.opens s.exec ≡ Do act plan → act_missing s (Do act plan) ≡ [] → gives_in (facts_at s) (work_at s) act ≡ Some gave
    → PutsOpened s.opened (Do act plan) → PutsOpened (s.opened ++ opened_by act) (plan gave)
gave_asked seen b s (Lookup name mode) plan gave fits at none gives puts = puts gave (s.opened ++ [])
gave_asked seen b s (Open rel kind) plan gave fits at none gives puts = puts gave
gave_asked seen b s (Search scan) plan gave fits at none gives puts = subst (λ l. PutsOpened l (plan gave)) (sym (append-nil s.opened))
    (puts gave (subst (AreGivenBy scan) (kept_read seen b (kept_at s) scan (ap (λ f. f.kept) fits) (cond_none (is_kept (kept_at s) scan) scan none) ∙ some_is (rows_kept (kept_at s) scan) gave gives) (rows_asked seen b scan)))
gave_asked seen b s (Read scan) plan gave fits at none gives puts = subst (λ l. PutsOpened l (plan gave)) (sym (append-nil s.opened))
    (puts gave (subst (AreGivenBy scan) (kept_read seen b (kept_at s) scan (ap (λ f. f.kept) fits) (cond_none (is_kept (kept_at s) scan) scan none) ∙ some_is (rows_kept (kept_at s) scan) gave gives) (rows_asked seen b scan)))
gave_asked seen b s (Lock rel mode) plan gave fits at none gives puts = subst (λ l. PutsOpened l (plan gave)) (sym (append-nil s.opened)) (puts gave)
gave_asked seen b s (Write draft) plan gave fits at none gives puts = absurd (cc)

sought_is : (act : Act) (plan : List Row → Plan) (name : List ℕ) (r : Session) → Seeks name (Do act plan) → sought_by act r ≡ r.left
sought_is (Lookup own mode) plan name r seeks = refl
sought_is (Open rel kind) plan name r seeks = absurd seeks
sought_is (Search scan) plan name r seeks = absurd seeks
sought_is (Read scan) plan name r seeks = absurd seeks
sought_is (Lock rel mode) plan name r seeks = absurd seeks
sought_is (Write draft) plan name r seeks = absurd seeks

-- what is put after a lookup is opened after it, whatever was open before
puts_seeking : (act : Act) (plan : List Row → Plan) (name : List ℕ) (opened other : List Opening) → Seeks name (Do act plan) → PutsOpened opened (Do act plan) → PutsOpened other (Do act plan)
puts_seeking (Lookup own mode) plan name opened other seeks puts = puts
puts_seeking act plan name opened other seeks puts = absurd seeks

-- where a search has found nothing, its name is at hand
absent_or : {X : Type 0} (p : Plan) → is_absent p ≡ true → ((name : List ℕ) → p ≡ Absent name → X) → X
absent_or (Absent name) is go = go name refl
absent_or (Done told) is go = absurd (cc)
absent_or (Fails error) is go = absurd (cc)
absent_or (Do act rest) is go = absurd (cc)

-- an answer still to be given counts one of what is left to do
pub none_answered : (o : Option (List ℕ)) → o ≡ None → option_map_or {U = ℕ} (λ text. 0) o 1 ≡ 1
none_answered o none = ap (λ (p : Option (List ℕ)). option_map_or {U = ℕ} (λ text. 0) p 1) none

-- a finished command has come out
pub out_of : (command : Command) (s : Progress) → is_finished_at command s ≡ true → is_out s ≡ true
out_of command s is = (and_true (is_out s) (is_none (end_left_in (facts_at s) command (work_at s))) (and_true (is_out s && (is_none (end_left_in (facts_at s) command (work_at s)))) (owes_nothing command s) is).0).0

-- an act that needs no entry, whichever it is
pub act_keeps : (scenario : Scenario) (seen : List Entry) (was : Progress) (exec : Exec) (opened : List Opening) (caches : LocalCaches) (suspects : Suspects) (known : AreKnown (is_kept (kept_of caches)) opened suspects) (command : Command) (act : Act) (plan : List Row → Plan) (gave : List Row) → Holds scenario seen was → slice_get was.commands was.finished ≡ Some command
    → owes_nothing command was ≡ true → plan_at was.opens was.exec ≡ Do act plan → gives_in (facts_at was) (work_at was) act ≡ Some gave → plan_at was.opens exec ≡ plan gave → ((name : List ℕ) → plan_at was.opens exec ≡ Absent name → plan_again was.opens exec ≡ plan_at was.opens was.exec) → opened ≡ was.opened ++ opened_by act → kept_of caches ≡ kept_at was → PinsMore was.caches caches (opened_by act)
    → Holds scenario seen (record was { exec = exec; opened = opened; caches = caches; suspects = suspects; known = known; taken = None })
act_keeps scenario seen was exec opened caches suspects known command act plan gave holds has owes at gives_it on again opens keeps pinned = record {
  number = holds.number;
  commands = holds.commands;
  few = holds.few;
  most = holds.most;
  rest = rest_of (act_done act gave (plan gave) (session_at was holds.rest));
  count = holds.count;
  is = holds.is ∙ ap Some (
      ap (λ l. settled facts l (session_at was holds.rest)) left
      ∙ settled-act facts command (drop (was.finished + 1) was.commands) (session_at was holds.rest) act plan gave at free.first (here facts was holds.rest act plan holds.facts holds.count at free.scans ∙ gives_it)
      ∙ ap (λ l. settled facts l (act_done act gave (plan gave) (session_at was holds.rest))) (sym left)
      ∙ ap (settled facts (drop was.finished was.commands)) (λ i. record (act_done act gave (plan gave) (session_at was holds.rest)) { left = sym on i; opened = sym opens i })
      );
  facts = let f = holds.facts in λ i. record { due = (f i).due; running = (f i).running; lists = (f i).lists; kept = (ap (λ g. g.kept) f ∙ sym keeps) i };
  counts = holds.counts;
  order = holds.order;
  sought = λ is. absent_or (plan_at was.opens exec) is (λ name missed. record {
    is = sought_is act plan name (session_at was holds.rest) (seeks name missed) ∙ sym (again name missed);
    puts = λ other. subst (PutsOpened other) (sym (again name missed ∙ at)) (puts_seeking act plan name was.opened other (seeks name missed) (subst (PutsOpened was.opened) at holds.puts));
  });
  puts = subst (λ p. PutsOpened opened p) (sym on) (subst (λ l. PutsOpened l (plan gave)) (sym opens) (gave_asked seen was.id was act plan gave holds.facts at none gives_it (subst (PutsOpened was.opened) at holds.puts)));
  pins = pins_opened was caches opened (opened_by act) holds.pins pinned opens;
}
  where
    facts : Facts
    facts = facts_of seen was.id

    free : Free facts command was holds.rest
    free = free_now facts command was holds.rest holds.facts owes

    none : act_missing was (Do act plan) ≡ []
    none = right_none (builds_missing (kept_at was) was.opened) (act_missing was (Do act plan)) (lacks_none was act plan at free.scans)

    seeks : (name : List ℕ) → plan_at was.opens exec ≡ Absent name → Seeks name (Do act plan)
    seeks name missed = seeks_under act plan gave name (subst ActsUnder at (exec_under was.opens was.exec)) (sym on ∙ missed)

    left : drop was.finished was.commands ≡ command ∷ drop (was.finished + 1) was.commands
    left = left_command was command has

-- and its session is that after the act
pub act_acts : (scenario : Scenario) (seen : List Entry) (was : Progress) (exec : Exec) (opened : List Opening) (caches : LocalCaches) (suspects : Suspects) (known : AreKnown (is_kept (kept_of caches)) opened suspects) (command : Command) (act : Act) (plan : List Row → Plan) (gave : List Row) (held : Holds scenario seen was) → slice_get was.commands was.finished ≡ Some command
    → owes_nothing command was ≡ true → plan_at was.opens was.exec ≡ Do act plan → gives_in (facts_at was) (work_at was) act ≡ Some gave → plan_at was.opens exec ≡ plan gave → ((name : List ℕ) → plan_at was.opens exec ≡ Absent name → plan_again was.opens exec ≡ plan_at was.opens was.exec) → opened ≡ was.opened ++ opened_by act → kept_of caches ≡ kept_at was → PinsMore was.caches caches (opened_by act)
    → HasActed scenario seen was held (record was { exec = exec; opened = opened; caches = caches; suspects = suspects; known = known; taken = None })
unfolding act_keeps
act_acts scenario seen was exec opened caches suspects known command act plan gave held has owes at gives_it on again opens keeps pinned = record {
  holds = act_keeps scenario seen was exec opened caches suspects known command act plan gave held has owes at gives_it on again opens keeps pinned;
  command = command;
  at = has;
  free = free.first;
  act = act;
  further = plan;
  left = at;
  given = gave;
  gives = here (facts_of seen was.id) was held.rest act plan held.facts held.count at free.scans ∙ gives_it;
  session = λ i. record (act_done act gave (plan gave) (session_at was held.rest)) { left = on i; opened = opens i };
  moves = record { id = refl; commands = refl; finished = refl };
}
  where
    free : Free (facts_of seen was.id) command was held.rest
    free = free_now (facts_of seen was.id) command was held.rest held.facts owes

-- the state at the next command
abbrev pub at_next : (was : Progress) (exec : Exec) (blocked : Bool) (blocks : Blocks) (opens : List OpenRelation) (opened : List Opening) (caches : LocalCaches) (suspects : Suspects) → AreKnown (is_kept (kept_of caches)) opened suspects → Progress
at_next was exec blocked blocks opens opened caches suspects known = record was { finished = was.finished + 1; exec = exec; blocked = blocked; ended = false; blocks = blocks; opens = opens; taken = None; opened = opened; caches = caches; suspects = suspects; known = known; tally = no_counts; answer = None }

-- a finished command is passed over
pub finish_keeps : (scenario : Scenario) (seen : List Entry) (was : Progress) (exec : Exec) (blocked : Bool) (blocks : Blocks) (opens : List OpenRelation) (opened : List Opening) (caches : LocalCaches) (suspects : Suspects) (known : AreKnown (is_kept (kept_of caches)) opened suspects) (command : Command) → Holds scenario seen was → slice_get was.commands was.finished ≡ Some command → is_finished_at command was ≡ true
    → blocks ≡ blocks_passed (plan_at was.opens was.exec) (was.finished + 1) command was.blocks → opens ≡ opens_passed (plan_at was.opens was.exec) (was.finished + 1) command was.blocked was.blocks.levels was.opened was.opens → opened ≡ held_in blocks.block opens → kept_of caches ≡ kept_at was → PinsOnly was.caches caches opens
    → plan_at opens exec ≡ plan_first blocks opens (slice_get was.commands (was.finished + 1)) → blocked ≡ is_blocked blocks (slice_get was.commands (was.finished + 1))
    → Holds scenario seen (at_next was exec blocked blocks opens opened caches suspects known)
finish_keeps scenario seen was exec blocked blocks opens opened caches suspects known command holds has finished passes after pinned keeps only on refuses = record {
  number = holds.number;
  commands = holds.commands;
  few = holds.few;
  most = omega (arith, slice_get_within was.commands was.finished command has);
  rest = rest_of next;
  count = length_push holds.rest.finished (finished_as (session_at was holds.rest)) ∙ ap (λ n. n + 1) holds.count;
  is = holds.is ∙ ap Some (
      ap (λ l. settled facts l (session_at was holds.rest)) (left_command was command has)
      ∙ settled-finish facts command (drop (was.finished + 1) was.commands) (session_at was holds.rest) (acted-out facts command (session_at was holds.rest) (out_of command was finished)) (finished_same facts command was holds.rest holds.facts holds.count ∙ finished)
      ∙ ap (settled facts (drop (was.finished + 1) was.commands)) same
      );
  facts = let f = holds.facts in λ i. record { due = (f i).due; running = (f i).running; lists = (f i).lists; kept = (ap (λ g. g.kept) f ∙ sym keeps) i };
  counts = record { looks = omega arith; scans = omega arith; grants = omega arith; unlocks = omega arith; fetches = omega arith; full = omega arith };
  order = every-weaker (λ (list : Written). list.command ≤ was.finished + 1) (λ (list : Written). list.command ≤ was.finished + 1 + 1) (λ list low. omega (arith, low)) (lists_at was) holds.order;
  sought = λ is. absurd (not_both (is_absent (plan_at opens exec)) is found);
  puts = subst (PutsOpened opened) (sym on) (puts_first opened opens blocks (slice_get was.commands (was.finished + 1)));
  pins = pins_left was.caches caches opens opened only
      (subst (IsOpenEach (λ rel kind. is_pinned was.caches rel ≡ true)) opens_are (after_each (λ rel kind. is_pinned was.caches rel ≡ true) command (session_at was holds.rest) (open_pinned was holds.pins) (held_pinned was holds.pins)))
      (subst (IsHeldEach (λ rel kind. has_open rel opens ≡ true)) (sym pinned) (held_each (λ rel kind. has_open rel opens ≡ true) blocks.block opens (open_each opens)));
}
  where
    facts : Facts
    facts = facts_of seen was.id

    found : is_absent (plan_at opens exec) ≡ false
    found = ap is_absent on ∙ not_absent blocks opens (slice_get was.commands (was.finished + 1))

    next : Session
    next = next_session command (slice_get was.commands (was.finished + 1)) (session_at was holds.rest)

    blocks_are : blocks_after command (session_at was holds.rest) ≡ blocks
    blocks_are = ap (λ n. blocks_passed (plan_at was.opens was.exec) (n + 1) command was.blocks) holds.count ∙ sym passes

    opens_are : opens_after command (session_at was holds.rest) ≡ opens
    opens_are = ap (λ n. opens_passed (plan_at was.opens was.exec) (n + 1) command was.blocked was.blocks.levels was.opened was.opens) holds.count ∙ sym after

    same : next_session command (first_of (drop (was.finished + 1) was.commands)) (session_at was holds.rest) ≡ session_at (at_next was exec blocked blocks opens opened caches suspects known) (rest_of next)
    same = ap (λ o. next_session command o (session_at was holds.rest)) (first_left was.commands (was.finished + 1))
        ∙ (λ i. record next {
          blocks = blocks_are i;
          opens = opens_are i;
          left = ((λ j. plan_first (blocks_are j) (opens_are j) (slice_get was.commands (was.finished + 1))) ∙ sym on) i;
          blocked = (ap (λ b. is_blocked b (slice_get was.commands (was.finished + 1))) blocks_are ∙ sym refuses) i;
          opened = ((λ j. held_in (blocks_are j).block (opens_are j)) ∙ sym pinned) i;
        })

-- and its session is that at the next command
pub finish_passes : (scenario : Scenario) (seen : List Entry) (was : Progress) (exec : Exec) (blocked : Bool) (blocks : Blocks) (opens : List OpenRelation) (opened : List Opening) (caches : LocalCaches) (suspects : Suspects) (known : AreKnown (is_kept (kept_of caches)) opened suspects) (command : Command) (held : Holds scenario seen was) → slice_get was.commands was.finished ≡ Some command → is_finished_at command was ≡ true
    → blocks ≡ blocks_passed (plan_at was.opens was.exec) (was.finished + 1) command was.blocks → opens ≡ opens_passed (plan_at was.opens was.exec) (was.finished + 1) command was.blocked was.blocks.levels was.opened was.opens → opened ≡ held_in blocks.block opens → kept_of caches ≡ kept_at was → PinsOnly was.caches caches opens
    → plan_at opens exec ≡ plan_first blocks opens (slice_get was.commands (was.finished + 1)) → blocked ≡ is_blocked blocks (slice_get was.commands (was.finished + 1))
    → HasPassed scenario seen was held (at_next was exec blocked blocks opens opened caches suspects known)
unfolding finish_keeps
finish_passes scenario seen was exec blocked blocks opens opened caches suspects known command held has finished passes after pinned keeps only on refuses = record {
  holds = finish_keeps scenario seen was exec blocked blocks opens opened caches suspects known command held has finished passes after pinned keeps only on refuses;
  command = command;
  at = has;
  over = finished_same (facts_of seen was.id) command was held.rest held.facts held.count ∙ finished;
  session = λ i. record next {
    blocks = sym blocks_are i;
    opens = sym opens_are i;
    left = sym ((λ j. plan_first (blocks_are j) (opens_are j) (slice_get was.commands (was.finished + 1))) ∙ sym on) i;
    blocked = sym (ap (λ b. is_blocked b (slice_get was.commands (was.finished + 1))) blocks_are ∙ sym refuses) i;
    opened = sym ((λ j. held_in (blocks_are j).block (opens_are j)) ∙ sym pinned) i;
  };
  id = refl;
  commands = refl;
  finished = refl;
}
  where
    next : Session
    next = next_session command (slice_get was.commands (was.finished + 1)) (session_at was held.rest)

    blocks_are : blocks_after command (session_at was held.rest) ≡ blocks
    blocks_are = ap (λ n. blocks_passed (plan_at was.opens was.exec) (n + 1) command was.blocks) held.count ∙ sym passes

    opens_are : opens_after command (session_at was held.rest) ≡ opens
    opens_are = ap (λ n. opens_passed (plan_at was.opens was.exec) (n + 1) command was.blocked was.blocks.levels was.opened was.opens) held.count ∙ sym after

-- what an act gives is what the code gives it
lock_rows : (t : Bool) (given : List Row) → is_some (if_locked t given) ≡ true → if_locked t given ≡ Some given
lock_rows true given some = refl
lock_rows false given some = absurd (cc)

given_rows : (facts : Facts) (w : Work) (mode : Mode) (given : List Row) → is_some (looked_up_in facts w mode given) ≡ true → looked_up_in facts w mode given ≡ Some (cons_option (slice_get given 0) [])
given_rows facts w mode [] is = lock_rows (has_accepted_in facts w) [] is
given_rows facts w mode (rows.Class oid own kind fill ∷ more) is = lock_rows (has_lock w.locks oid mode && has_taken_no_other w.taken oid) (rows.Class oid own kind fill ∷ []) is
given_rows facts w mode (row ∷ more) is = lock_rows (has_accepted_in facts w) (row ∷ []) is

gave_is : (s : Progress) (act : Act) (rest : List Row → Plan) → is_some (gives_in (facts_at s) (work_at s) act) ≡ true → gives_in (facts_at s) (work_at s) act ≡ Some (rows_given s (want_of (Do act rest)))
gave_is s (Lookup name mode) rest is = given_rows (facts_at s) (work_at s) mode (rows_kept (kept_at s) (scans.RelName name)) is
gave_is s (Open rel kind) rest is = refl
gave_is s (Search scan) rest is = refl
gave_is s (Read scan) rest is = refl
gave_is s (Lock rel mode) rest is = lock_rows (has_lock s.locks.items rel mode) [] is
gave_is s (Write draft) rest is = absurd (cc)

opened_is : (act : Act) (rest : List Row → Plan) → opened_for (want_of (Do act rest)) ≡ opened_by act
opened_is (Lookup name mode) rest = refl
opened_is (Open rel kind) rest = refl
opened_is (Search scan) rest = refl
opened_is (Read scan) rest = refl
opened_is (Lock rel mode) rest = refl
opened_is (Write draft) rest = refl

pub act_left : (opens : List OpenRelation) (exec : Exec) (act : Act) (rest : List Row → Plan) → plan_at opens exec ≡ Do act rest → 0 < acts_left exec
act_left opens exec act rest at = acts_some opens exec (λ scan is. never_done act scan (sym (ap want_of at) ∙ is)) (λ error is. never_fails act error (sym (ap want_of at) ∙ is)) (λ name is. never_absent act name (sym (ap want_of at) ∙ is))
  where
    never_done : (a : Act) (scan : Option Purpose) → want_of_act a ≡ wants.Done scan → ⊥
    never_done (Lookup name mode) scan is = absurd (cc)
    never_done a scan is = absurd (cc)

    never_fails : (a : Act) (error : CommandError) → want_of_act a ≡ wants.Fails error → ⊥
    never_fails (Lookup name mode) error is = absurd (cc)
    never_fails a error is = absurd (cc)

    never_absent : (a : Act) (name : List ℕ) → want_of_act a ≡ wants.Absent name → ⊥
    never_absent (Lookup n mode) name is = absurd (cc)
    never_absent a name is = absurd (cc)

-- the rows that the code gives an act
pub given_is : (s : Progress) (p : Plan) → rows_for (want_of p) (row_next s p) (kept_at s) ≡ rows_given s (want_of p)
given_is s (Do (Lookup name mode) rest) = refl
given_is s (Do (Open rel kind) rest) = refl
given_is s (Do (Search scan) rest) = refl
given_is s (Do (Read scan) rest) = refl
given_is s (Do (Lock rel mode) rest) = refl
given_is s (Do (Write draft) rest) = refl
given_is s p = refl

-- an act is left
pub act_is_left : (s : Progress) → Acts s → 0 < acts_left s.exec
act_is_left s acts = by_plan (plan_at s.opens s.exec) refl (and_true (owes_nothing acts.command s) (gives_left (facts_at s) (work_at s) (plan_at s.opens s.exec)) acts.acts).1
  where
    by_plan : (p : Plan) → plan_at s.opens s.exec ≡ p → gives_left (facts_at s) (work_at s) p ≡ true → 0 < acts_left s.exec
    by_plan (Do act plan) at is = act_left s.opens s.exec act plan at
    by_plan (Done told) at is = absurd (cc)
    by_plan (Fails error) at is = absurd (cc)
    by_plan (Absent name) at is = absurd (cc)

-- the act that is done without an entry
pub acted_code : (was : Progress) (exec : Exec) (opened : List Opening) (caches : LocalCaches) (suspects : Suspects) (known : AreKnown (is_kept (kept_of caches)) opened suspects) (want : Want) (given : List Row) (acts : Acts was) → want ≡ want_of (plan_at was.opens was.exec) → given ≡ rows_given was want
    → plan_at was.opens exec ≡ after_act given (plan_at was.opens was.exec) → ((name : List ℕ) → 0 < acts_left was.exec → plan_at was.opens exec ≡ Absent name → plan_again was.opens exec ≡ plan_at was.opens was.exec) → opened ≡ was.opened ++ opened_for want → kept_of caches ≡ kept_at was → PinsMore was.caches caches (opened_for want)
    → (scenario : Scenario) (seen : List Entry) (held : Holds scenario seen was) → HasActed scenario seen was held (record was { exec = exec; opened = opened; caches = caches; suspects = suspects; known = known; taken = None })
acted_code was exec opened caches suspects known want given acts wants gives on again opens keeps pinned scenario seen held = by_plan (plan_at was.opens was.exec) refl (and_true (owes_nothing acts.command was) (gives_left (facts_at was) (work_at was) (plan_at was.opens was.exec)) acts.acts)
  where
    by_plan : (p : Plan) → plan_at was.opens was.exec ≡ p → (owes_nothing acts.command was ≡ true) × (gives_left (facts_at was) (work_at was) (plan_at was.opens was.exec) ≡ true) → HasActed scenario seen was held (record was { exec = exec; opened = opened; caches = caches; suspects = suspects; known = known; taken = None })
    by_plan (Do act plan) at parts =
        let want_is : want ≡ want_of (Do act plan) = wants ∙ ap want_of at in
        act_acts scenario seen was exec opened caches suspects known acts.command act plan (rows_given was (want_of (Do act plan))) held acts.at parts.0 at
        (gave_is was act plan (sym (ap (gives_left (facts_at was) (work_at was)) at) ∙ parts.1))
        (on ∙ (λ i. after_act (gives i) (at i)) ∙ ap (λ w. plan (rows_given was w)) want_is)
        (λ name. again name (act_is_left was acts))
        (opens ∙ ap (λ w. was.opened ++ opened_for w) want_is ∙ ap (λ l. was.opened ++ l) (opened_is act plan))
        keeps
        (subst (PinsMore was.caches caches) (ap opened_for want_is ∙ opened_is act plan) pinned)
    by_plan (Done told) at parts = absurd (let both : false ≡ true = sym (ap (gives_left (facts_at was) (work_at was)) at) ∙ parts.1 in cc)
    by_plan (Fails error) at parts = absurd (let both : false ≡ true = sym (ap (gives_left (facts_at was) (work_at was)) at) ∙ parts.1 in cc)
    by_plan (Absent name) at parts = absurd (let both : false ≡ true = sym (ap (gives_left (facts_at was) (work_at was)) at) ∙ parts.1 in cc)

-- the code's step to the next command
pub finish_code : (was : Progress) (exec : Exec) (blocked : Bool) (blocks : Blocks) (tally : Counts) (opens : List OpenRelation) (opened : List Opening) (caches : LocalCaches) (suspects : Suspects) (known : AreKnown (is_kept (kept_of caches)) opened suspects) (answer : Option (List ℕ)) (were : List OpenRelation) (held_before : List Opening) (are : List OpenRelation) (commands : List Command) (command : Command) → Finishes was → slice_get was.commands was.finished ≡ Some command
    → blocks ≡ blocks_passed (plan_at was.opens was.exec) (was.finished + 1) command was.blocks → were ≡ was.opens → held_before ≡ was.opened → opens ≡ opens_passed (plan_at were was.exec) (was.finished + 1) command was.blocked was.blocks.levels held_before were → commands ≡ was.commands → are ≡ opens → plan_at are exec ≡ plan_first blocks are (slice_get commands (was.finished + 1)) → blocked ≡ is_blocked blocks (slice_get commands (was.finished + 1)) → tally ≡ no_counts → opened ≡ held_in blocks.block opens → kept_of caches ≡ kept_at was → PinsOnly was.caches caches opens → answer ≡ None
    → (scenario : Scenario) (seen : List Entry) (held : Holds scenario seen was)
    → HasPassed scenario seen was held (record was { finished = was.finished + 1; exec = exec; blocked = blocked; ended = false; tally = tally; blocks = blocks; opens = opens; taken = None; opened = opened; caches = caches; suspects = suspects; known = known; answer = answer })
finish_code was exec blocked blocks tally opens opened caches suspects known answer were held_before are commands command finishes at passes was_open was_held after same is_open on refuses fresh pinned keeps only taken scenario seen held =
    subst (HasPassed scenario seen was held) (λ i. record (at_next was exec blocked blocks opens opened caches suspects known) { tally = sym fresh i; answer = sym taken i })
    (finish_passes scenario seen was exec blocked blocks opens opened caches suspects known command held at (subst (λ c. is_finished_at c was ≡ true) one finishes.finished) passes (after ∙ (λ i. opens_passed (plan_at (was_open i) was.exec) (was.finished + 1) command was.blocked was.blocks.levels (was_held i) (was_open i))) pinned keeps only
    (subst (λ o. plan_at o exec ≡ plan_first blocks o (slice_get commands (was.finished + 1))) is_open on ∙ ap (λ l. plan_first blocks opens (slice_get l (was.finished + 1))) same) (refuses ∙ ap (λ l. is_blocked blocks (slice_get l (was.finished + 1))) same))
  where
    one : finishes.command ≡ command
    one = ap (λ o. unwrap_or o finishes.command) (sym finishes.at ∙ at)
