-- A session goes on by typed plans, and holds descriptors of typed oids, with each entry of its backend, as long as what the backend keeps of scans has texts.
use Rattle.std.proofs.Common.{◌≡◌, ◌≤◌, ◌+◌, ◌∙◌, ℕ, Bool, true, false, Option, Some, None, List, [], ◌∷◌, ◌++◌, refl, ap, length, arith}
use Rattle.std.specs.Prelude.{IfSome}
use Rattle.std.specs.List.{AllByRecursion}
use Rattle.std.proofs.lemmas.List.{length_push, length-drop}
use Rattle.base_types.specs.Commands.{IsCommand}
use Rattle.base_types.specs.Scenario.{Scenario}
use Rattle.base_types.specs.declared.row.Row.TheVariants as rows
use Rattle.base_types.specs.declared.scan.Purpose.TheVariants as scans
use Rattle.event_kinds.specs.declared.entry.Event.TheVariants as events
use Rattle.ddl_effect.specs.Commands.{commands_of}
use Rattle.ddl_effect.specs.Opens.{opens_before}
use Rattle.ddl_effect.specs.Plans.{Act, Lookup, Open, Search, Read, Lock, Write, Plan, Done, Fails, Absent, Do}
use Rattle.txn_blocks.specs.Blocks.{Block, Blocks, no_block, refused_by}
use Rattle.history_model.specs.Changing.{is_empty}
use Rattle.history_model.proofs.Every.{every-append, every-map}
use Rattle.local_caches.specs.Kept.{rows_kept}
use Rattle.cacheless.specs.Facts.{Facts}
use Rattle.cacheless.specs.Owed.{builds_missing, act_owed, owed_first_in, owed_after}
use Rattle.cacheless.specs.Session.{Session, Finished, first_of, opening_of, held_in, none_open, plan_admitted, plan_first, at_command}
use Rattle.cacheless.specs.Sessions.{written, resumed, noted, placed_at, counted, commands_left, entered, session_by}
use Rattle.cacheless.specs.Settled.{if_locked, looked_up_in, gives_in, opened_by, sought_by, act_done, done_here, acted_on, acted, is_finished_in, blocks_after, opens_after, finished_as, next_session, settled}
use Rattle.cacheless.specs.Work.{Work, work_of}
use Rattle.cacheless.specs.Types.{Mode, Row, Command, CommandError, OpenRelation, OwnLock, Event}
use Rattle.cacheless.specs.Typed.{IsOid, AreTypedRows, IsTypedAct, IsTypedPlan, AreKeptTyped, AreOpenTyped, AreHeldTyped, IsTypedSession}
use Rattle.cacheless.proofs.Allowed.OpensKept.{each_dropped, held_each, before_each, after_each}
use Rattle.cacheless.proofs.Allowed.TypedPlans.{plan_typed}

-- ---- acts that need no entry

locked_rows : (t : Bool) (given : List Row) → AreTypedRows given → IfSome (if_locked t given) AreTypedRows
locked_rows true given all = all
locked_rows false given all = tt

looked_up_rows : (facts : Facts) (w : Work) (mode : Mode) (given : List Row) → AreTypedRows given → IfSome (looked_up_in facts w mode given) AreTypedRows
looked_up_rows facts w mode [] all = locked_rows _ [] tt
looked_up_rows facts w mode (rows.Class oid name kind fill ∷ more) all = locked_rows _ (rows.Class oid name kind fill ∷ []) (all.0, tt)
looked_up_rows facts w mode (row ∷ more) all = locked_rows _ (row ∷ []) (all.0, tt)

gives_rows : (facts : Facts) (s : Session) (act : Act) → AreKeptTyped facts → IfSome (gives_in facts (work_of s) act) AreTypedRows
gives_rows facts s (Lookup name mode) keeps = looked_up_rows facts (work_of s) mode (rows_kept facts.kept (scans.RelName name)) (keeps (scans.RelName name))
gives_rows facts s (Open rel kind) keeps = tt
gives_rows facts s (Search scan) keeps = keeps scan
gives_rows facts s (Read scan) keeps = keeps scan
gives_rows facts s (Lock rel mode) keeps = locked_rows _ [] tt
gives_rows facts s (Write draft) keeps = tt

done_rows : (facts : Facts) (s : Session) (act : Act) (plan : Plan) → AreKeptTyped facts → IfSome (done_here facts s act plan) AreTypedRows
done_rows facts s act plan keeps = by_test (is_empty (builds_missing facts.kept s.opened ++ act_owed facts plan))
  where
    by_test : (t : Bool) → IfSome (elim t as (λ x. Option (List Row)) [ true ↦ gives_in facts (work_of s) act | false ↦ None ]) AreTypedRows
    by_test true = gives_rows facts s act keeps
    by_test false = tt

opens_typed : (act : Act) → IsTypedAct act → AreHeldTyped (opened_by act)
opens_typed (Open rel kind) is = (is, tt)
opens_typed (Lookup name mode) is = tt
opens_typed (Search scan) is = tt
opens_typed (Read scan) is = tt
opens_typed (Lock rel mode) is = tt
opens_typed (Write draft) is = tt

sought_typed : (act : Act) (s : Session) → IsTypedSession s → IsTypedPlan (sought_by act s)
sought_typed (Lookup name mode) s typed = typed.left
sought_typed (Open rel kind) s typed = typed.sought
sought_typed (Search scan) s typed = typed.sought
sought_typed (Read scan) s typed = typed.sought
sought_typed (Lock rel mode) s typed = typed.sought
sought_typed (Write draft) s typed = typed.sought

act_typed : (act : Act) (given : List Row) (rest : Plan) (s : Session) → IsTypedAct act → IsTypedPlan rest → IsTypedSession s → IsTypedSession (act_done act given rest s)
act_typed act given rest s is next typed = record { left = next; sought = sought_typed act s typed; opens = typed.opens; opened = every-append (λ o. IsOid o.rel) s.opened (opened_by act) typed.opened (opens_typed act is) }

-- a typed session that has finished as many commands
record GoesTyped (s now : Session) : Type 0 where
  typed : IsTypedSession now
  finished : now.finished ≡ s.finished

acts_typed : (facts : Facts) (plan : Plan) (s : Session) → AreKeptTyped facts → IsTypedPlan plan → IsTypedSession s → GoesTyped s (acted_on facts plan s)
acts_typed facts (Do act rest) s keeps next typed = by_done (done_here facts s act (Do act rest)) (done_rows facts s act (Do act rest) keeps)
    (λ given all. acts_typed facts (rest given) (act_done act given (rest given) s) keeps (next.1 given all) (act_typed act given (rest given) s next.0 (next.1 given all) typed))
  where
    by_done : (o : Option (List Row)) → IfSome o AreTypedRows → ((given : List Row) → AreTypedRows given → GoesTyped (act_done act given (rest given) s) (acted_on facts (rest given) (act_done act given (rest given) s)))
        → GoesTyped s (elim o as (λ x. Session) [ None ↦ s | Some given ↦ acted_on facts (rest given) (act_done act given (rest given) s) ])
    by_done None all more = record { typed = typed; finished = refl }
    by_done (Some given) all more = let later = more given all in record { typed = later.typed; finished = later.finished }
acts_typed facts (Done told) s keeps next typed = record { typed = typed; finished = refl }
acts_typed facts (Fails error) s keeps next typed = record { typed = typed; finished = refl }
acts_typed facts (Absent name) s keeps next typed = record { typed = typed; finished = refl }

acted_typed : (facts : Facts) (command : Command) (s : Session) → AreKeptTyped facts → IsTypedSession s → GoesTyped s (acted facts command s)
acted_typed facts command s keeps typed = by_test (is_empty (owed_first_in facts command (work_of s) ++ owed_after facts.due))
  where
    by_test : (t : Bool) → GoesTyped s (elim t as (λ x. Session) [ true ↦ acted_on facts s.left s | false ↦ s ])
    by_test true = acts_typed facts s.left s keeps typed.left typed
    by_test false = record { typed = typed; finished = refl }

-- ---- the passing to the next command

held_typed : (block : Block) (opens : List OpenRelation) → AreOpenTyped opens → AreHeldTyped (held_in block opens)
held_typed block opens all = held_each (λ rel kind. IsOid rel) block opens all

admitted_typed : (opens : List OpenRelation) (refusal : Option CommandError) (command : Command) → IsCommand command → IsTypedPlan (plan_admitted opens refusal command)
admitted_typed opens None command spelled = plan_typed opens command spelled
admitted_typed opens (Some error) command spelled = tt

first_typed : (blocks : Blocks) (opens : List OpenRelation) (o : Option Command) → IfSome o IsCommand → IsTypedPlan (plan_first blocks opens o)
first_typed blocks opens None spelled = tt
first_typed blocks opens (Some command) spelled = admitted_typed opens (refused_by blocks command) command spelled

begins_typed : (blocks : Blocks) (opens : List OpenRelation) (finished : List Finished) (locks : List OwnLock) (last : ℕ) (o : Option Command) → IfSome o IsCommand → AreOpenTyped opens → IsTypedSession (at_command blocks opens finished locks last o)
begins_typed blocks opens finished locks last o spelled all = record { left = first_typed blocks opens o spelled; sought = tt; opens = all; opened = held_typed blocks.block opens all }

after_typed : (command : Command) (s : Session) → IsTypedSession s → AreOpenTyped (opens_after command s)
after_typed command s typed = after_each (λ rel kind. IsOid rel) command s typed.opens typed.opened

first_spelled : (all : List Command) → AllByRecursion IsCommand all → IfSome (first_of all) IsCommand
first_spelled [] spelled = tt
first_spelled (command ∷ rest) spelled = spelled.0

-- a typed session that has finished no more commands than there are
pub record IsTypedWithin (most : ℕ) (s : Session) : Type 0 where
  pub typed : IsTypedSession s
  pub few : length s.finished ≤ most

settled_typed : (facts : Facts) (most : ℕ) (all : List Command) (s : Session) → AreKeptTyped facts → AllByRecursion IsCommand all → IsTypedSession s → length s.finished + length all ≤ most → IsTypedWithin most (settled facts all s)
settled_typed facts most [] s keeps spelled typed few = record { typed = typed; few = omega (arith, few) }
settled_typed facts most (command ∷ rest) s keeps spelled typed few = by_test (is_finished_in facts command (work_of now))
    (settled_typed facts most rest (next_session command (first_of rest) now) keeps spelled.1 (begins_typed (blocks_after command now) (opens_after command now) (now.finished ++ finished_as now ∷ []) now.locks now.last (first_of rest) (first_spelled rest spelled.1) (after_typed command now goes.typed))
    (omega (arith, few, length_push now.finished (finished_as now), ap length goes.finished)))
  where
    now : Session
    now = acted facts command s

    goes : GoesTyped s now
    goes = acted_typed facts command s keeps typed

    by_test : (t : Bool) → IsTypedWithin most (settled facts rest (next_session command (first_of rest) now)) → IsTypedWithin most (elim t as (λ x. Session) [ true ↦ settled facts rest (next_session command (first_of rest) now) | false ↦ now ])
    by_test true more = more
    by_test false more = record { typed = goes.typed; few = omega (arith, few, ap length goes.finished) }

-- ---- an entry

written_typed : (plan : Plan) (s : Session) → IsTypedPlan plan → IsTypedSession s → GoesTyped s (written plan s)
written_typed (Do (Write draft) rest) s next typed = record { typed = record { left = next.1 [] tt; sought = typed.sought; opens = typed.opens; opened = held_typed s.blocks.block s.opens typed.opens }; finished = refl }
written_typed (Do (Lookup name mode) rest) s next typed = record { typed = typed; finished = refl }
written_typed (Do (Open rel kind) rest) s next typed = record { typed = typed; finished = refl }
written_typed (Do (Search scan) rest) s next typed = record { typed = typed; finished = refl }
written_typed (Do (Read scan) rest) s next typed = record { typed = typed; finished = refl }
written_typed (Do (Lock rel mode) rest) s next typed = record { typed = typed; finished = refl }
written_typed (Done told) s next typed = record { typed = typed; finished = refl }
written_typed (Fails error) s next typed = record { typed = typed; finished = refl }
written_typed (Absent name) s next typed = record { typed = typed; finished = refl }

resumed_typed : (plan : Plan) (s : Session) → IsTypedSession s → GoesTyped s (resumed plan s)
resumed_typed (Absent name) s typed = record { typed = record { left = typed.sought; sought = typed.sought; opens = typed.opens; opened = typed.opened }; finished = refl }
resumed_typed (Done told) s typed = record { typed = typed; finished = refl }
resumed_typed (Fails error) s typed = record { typed = typed; finished = refl }
resumed_typed (Do act rest) s typed = record { typed = typed; finished = refl }

refused_typed : (s : Session) → IsTypedSession s → (error : CommandError) → GoesTyped s (record s { left = Fails error; refused = Some error })
refused_typed s typed error = record { typed = record { left = tt; sought = typed.sought; opens = typed.opens; opened = typed.opened }; finished = refl }

noted_typed : (event : Event) (s : Session) → IsTypedSession s → GoesTyped s (noted event s)
noted_typed (events.LockOk rel mode) s typed = record { typed = record { left = typed.left; sought = typed.sought; opens = typed.opens; opened = typed.opened }; finished = refl }
noted_typed (events.Unlock rel mode) s typed = record { typed = record { left = typed.left; sought = typed.sought; opens = typed.opens; opened = typed.opened }; finished = refl }
noted_typed (events.LockHeld rel mode holder held) s typed = refused_typed s typed _
noted_typed (events.ClashRow name rel) s typed = refused_typed s typed _
noted_typed (events.ClashRunning name xid) s typed = refused_typed s typed _
noted_typed (events.Write xid items) s typed = written_typed s.left s typed.left typed
noted_typed (events.Fetch count) s typed = resumed_typed s.left s typed
noted_typed events.FetchReset s typed = resumed_typed s.left s typed
noted_typed (events.Release from) s typed = record { typed = record { left = typed.left; sought = typed.sought; opens = typed.opens; opened = every-map (λ o. IsOid o.rel) opening_of (opens_before from s.opens) (before_each (λ rel kind. IsOid rel) from s.opens typed.opens) }; finished = refl }
noted_typed event s typed = record { typed = typed; finished = refl }

placed_typed : (at command : ℕ) (event : Event) (s : Session) → IsTypedSession s → GoesTyped s (placed_at at command event s)
placed_typed at command event s typed = let note = noted_typed event s typed in record { typed = record { left = note.typed.left; sought = note.typed.sought; opens = note.typed.opens; opened = note.typed.opened }; finished = note.finished }

counted_typed : (facts : Facts) (event : Event) (s : Session) → IsTypedSession s → GoesTyped s (counted facts event s)
counted_typed facts (events.Fetch count) s typed = record { typed = record { left = typed.left; sought = typed.sought; opens = typed.opens; opened = typed.opened }; finished = refl }
counted_typed facts event s typed = record { typed = typed; finished = refl }

entered_typed : (facts : Facts) (all : List Command) (at command : ℕ) (event : Event) (s : Session) → IsTypedSession s → GoesTyped s (entered facts all at command event s)
entered_typed facts all at command event s typed =
    let placed = placed_typed at command event s typed in
    let count = counted_typed facts event (placed_at at command event s) placed.typed in
    record { typed = record { left = count.typed.left; sought = count.typed.sought; opens = count.typed.opens; opened = count.typed.opened }; finished = count.finished ∙ placed.finished }

-- what a session is after one more entry of its backend
goes_typed : (scenario : Scenario) (facts : Facts) (b at command : ℕ) (event : Event) (s : Session) → AllByRecursion IsCommand (commands_of scenario b) → AreKeptTyped facts → IsTypedWithin (length (commands_of scenario b)) s
    → IsTypedWithin (length (commands_of scenario b)) (settled facts (commands_left scenario b s) (entered facts (commands_left scenario b s) at command event s))
goes_typed scenario facts b at command event s spelled keeps is =
    let now = entered_typed facts (commands_left scenario b s) at command event s is.typed in
    settled_typed facts (length (commands_of scenario b)) (commands_left scenario b s) _ keeps (each_dropped IsCommand (length s.finished) (commands_of scenario b) spelled) now.typed (omega (arith, ap length now.finished, is.few, length-drop (length s.finished) (commands_of scenario b)))

pub session_typed : (scenario : Scenario) (facts : Facts) (b at command : ℕ) (event : Event) (old : Option Session) → AllByRecursion IsCommand (commands_of scenario b) → AreKeptTyped facts → IfSome old (IsTypedWithin (length (commands_of scenario b)))
    → IfSome (session_by scenario facts b at command event old) (IsTypedWithin (length (commands_of scenario b)))
session_typed scenario facts b at command events.Start old spelled keeps is =
    settled_typed facts (length (commands_of scenario b)) (commands_of scenario b) (at_command no_block none_open [] [] at (first_of (commands_of scenario b))) keeps spelled
    (begins_typed no_block none_open [] [] at (first_of (commands_of scenario b)) (first_spelled (commands_of scenario b) spelled) tt) (omega arith)
session_typed scenario facts b at command event None spelled keeps is = tt
session_typed scenario facts b at command event (Some s) spelled keeps is = goes_typed scenario facts b at command event s spelled keeps is
