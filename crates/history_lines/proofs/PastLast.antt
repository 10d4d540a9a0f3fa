-- After its last command nothing is left of a backend's plan.
use Rattle.std.proofs.Common.{◌≡◌, ◌+◌, ◌∙◌, ◌==◌, ℕ, zero, suc, Bool, true, false, Option, Some, None, List, [], ◌∷◌, ◌++◌, length, drop, slice_get, refl, sym, ap, subst, arith}
use Rattle.std.specs.Option.{IfSome}
use Rattle.std.proofs.lemmas.List.{length-append}
use Rattle.event_kinds.specs.declared.entry.Event.TheVariants as events
use Rattle.ddl_effect.specs.Commands.{commands_of}
use Rattle.ddl_effect.specs.Plans.{Lookup, Open, Search, Read, Lock, Write, Plan, Done, Fails, Absent, Do}
use Rattle.lock_modes.specs.declared.own_lock.OwnLock.{OwnLock}
use Rattle.txn_blocks.specs.Blocks.{Blocks, no_block}
use Rattle.history_model.proofs.Prefixes.{each-keeps}
use Rattle.history_model.specs.Changing.{is_empty}
use Rattle.cacheless.specs.Facts.{Facts, facts_of}
use Rattle.cacheless.specs.Work.{work_of}
use Rattle.cacheless.specs.Plays.{IsNext, Plays}
use Rattle.cacheless.specs.Owed.{owed_first_in, owed_after}
use Rattle.cacheless.specs.Session.{Session as Course, Finished, none_open, outcome_of, is_settled, plan_first, at_command, first_of}
use Rattle.cacheless.specs.Sessions.{written, resumed, noted, entered, commands_left, session_by, session_of}
use Rattle.cacheless.specs.Settled.{done_here, act_done, acted_on, acted, is_finished_in, blocks_after, opens_after, finished_as, next_session, settled}
use Rattle.cacheless.specs.Types.{Row, OpenRelation}
use Rattle.cacheless.proofs.FactsAfter.{facts_by}
use Rattle.cacheless.proofs.Allowed.SettledCourse.{first_left}
use Rattle.cacheless.proofs.Reading.{session_of-own, session_of-other}
use Rattle.history_lines.specs.Types.{Scenario, Command, Entry, Event}

-- a plan has come out, and not by a lookup that ended without a relation
abbrev has_ended : Plan → Bool
has_ended (Done told) = true
has_ended (Fails error) = true
has_ended plan = false

-- so it is with what is left of a session that is past its last command
abbrev IsPast : List Command → Course → Type 0
IsPast commands s = slice_get commands (length s.finished) ≡ None → has_ended s.left ≡ true

ended_settled : (p : Plan) → has_ended p ≡ true → is_settled (outcome_of p) ≡ true
ended_settled (Done told) is = refl
ended_settled (Fails error) is = refl
ended_settled (Absent name) is = absurd (cc is)
ended_settled (Do act rest) is = absurd (cc is)

-- what follows the first of what is left
rest_left : {X : Type 0} (xs : List X) (n : ℕ) (x : X) (rest : List X) → x ∷ rest ≡ drop n xs → rest ≡ drop (n + 1) xs
rest_left [] zero x rest is = absurd (cc is)
rest_left [] (suc n) x rest is = absurd (cc is)
rest_left (y ∷ xs) zero x rest is = let both : x ∷ rest ≡ y ∷ xs = is in cc both
rest_left (y ∷ xs) (suc n) x rest is = let same : suc (n + 1) ≡ suc n + 1 = omega arith in rest_left xs n x rest is ∙ ap (λ k. drop k (y ∷ xs)) same

-- a session at its next command, if it has one
begins_past : (commands left : List Command) (blocks : Blocks) (opens : List OpenRelation) (finished : List Finished) (locks : List OwnLock) (last : ℕ) → left ≡ drop (length finished) commands → IsPast commands (at_command blocks opens finished locks last (first_of left))
begins_past commands left blocks opens finished locks last are none = subst (λ o. has_ended (plan_first blocks opens o) ≡ true) (sym (ap first_of are ∙ first_left commands (length finished) ∙ none)) refl

-- silent acts finish no command
acted_on_finished : (facts : Facts) (plan : Plan) (s : Course) → (acted_on facts plan s).finished ≡ s.finished
acted_on_finished facts (Do act rest) s = by_done (done_here facts s act (Do act rest)) (λ given. acted_on_finished facts (rest given) (act_done act given (rest given) s))
  where
    by_done : (o : Option (List Row)) → ((given : List Row) → (acted_on facts (rest given) (act_done act given (rest given) s)).finished ≡ s.finished)
        → (elim o as (λ x. Course) [ None ↦ s | Some given ↦ acted_on facts (rest given) (act_done act given (rest given) s) ]).finished ≡ s.finished
    by_done None more = refl
    by_done (Some given) more = more given
acted_on_finished facts (Done told) s = refl
acted_on_finished facts (Fails error) s = refl
acted_on_finished facts (Absent name) s = refl

acted_finished : (facts : Facts) (command : Command) (s : Course) → (acted facts command s).finished ≡ s.finished
acted_finished facts command s = by_test (is_empty (owed_first_in facts command (work_of s) ++ owed_after facts.due))
  where
    by_test : (t : Bool) → (elim t as (λ x. Course) [ true ↦ acted_on facts s.left s | false ↦ s ]).finished ≡ s.finished
    by_test true = acted_on_finished facts s.left s
    by_test false = refl

-- a session that goes on as far as it can
settled_past : (facts : Facts) (commands left : List Command) (s : Course) → left ≡ drop (length s.finished) commands → IsPast commands s → IsPast commands (settled facts left s)
settled_past facts commands [] s are past = past
settled_past facts commands (command ∷ rest) s are past = by_finished (is_finished_in facts command (work_of now))
    (settled_past facts commands rest (next_session command (first_of rest) now) later (begins_past commands rest (blocks_after command now) (opens_after command now) (now.finished ++ finished_as now ∷ []) now.locks now.last later))
  where
    now : Course
    now = acted facts command s

    same : length now.finished ≡ length s.finished
    same = ap length (acted_finished facts command s)

    later : rest ≡ drop (length (now.finished ++ finished_as now ∷ [])) commands
    later = rest_left commands (length s.finished) command rest are ∙ ap (λ n. drop n commands) (sym (length-append now.finished (finished_as now ∷ []) ∙ ap (λ n. n + 1) same))

    running : slice_get commands (length now.finished) ≡ Some command
    running = ap (slice_get commands) same ∙ sym (first_left commands (length s.finished)) ∙ ap first_of (sym are)

    by_finished : (t : Bool) → IsPast commands (settled facts rest (next_session command (first_of rest) now)) → IsPast commands (elim t as (λ x. Course) [ true ↦ settled facts rest (next_session command (first_of rest) now) | false ↦ now ])
    by_finished true more = more
    by_finished false more = λ none. absurd (let both : None ≡ Some command = sym none ∙ running in cc both)

-- an event finishes no command
resumed_finished : (p : Plan) (s : Course) → (resumed p s).finished ≡ s.finished
resumed_finished (Absent name) s = refl
resumed_finished (Done told) s = refl
resumed_finished (Fails error) s = refl
resumed_finished (Do act rest) s = refl

written_finished : (p : Plan) (s : Course) → (written p s).finished ≡ s.finished
written_finished (Do (Write draft) rest) s = refl
written_finished (Do (Lookup name mode) rest) s = refl
written_finished (Do (Open rel kind) rest) s = refl
written_finished (Do (Search scan) rest) s = refl
written_finished (Do (Read scan) rest) s = refl
written_finished (Do (Lock rel mode) rest) s = refl
written_finished (Done told) s = refl
written_finished (Fails error) s = refl
written_finished (Absent name) s = refl

noted_finished : (event : Event) (s : Course) → (noted event s).finished ≡ s.finished
noted_finished (events.Write xid items) s = written_finished s.left s
noted_finished (events.Fetch count) s = resumed_finished s.left s
noted_finished events.FetchReset s = resumed_finished s.left s
noted_finished event s = refl

-- and leaves what has come out
resumed_ended : (p : Plan) (s : Course) → has_ended p ≡ true → has_ended s.left ≡ true → has_ended (resumed p s).left ≡ true
resumed_ended (Done told) s is ended = ended
resumed_ended (Fails error) s is ended = ended
resumed_ended (Absent name) s is ended = absurd (cc is)
resumed_ended (Do act rest) s is ended = absurd (cc is)

written_ended : (p : Plan) (s : Course) → has_ended p ≡ true → has_ended s.left ≡ true → has_ended (written p s).left ≡ true
written_ended (Done told) s is ended = ended
written_ended (Fails error) s is ended = ended
written_ended (Absent name) s is ended = ended
written_ended (Do act rest) s is ended = absurd (cc is)

noted_ended : (event : Event) (s : Course) → has_ended s.left ≡ true → has_ended (noted event s).left ≡ true
noted_ended (events.Write xid items) s ended = written_ended s.left s ended ended
noted_ended (events.Fetch count) s ended = resumed_ended s.left s ended ended
noted_ended events.FetchReset s ended = resumed_ended s.left s ended ended
noted_ended (events.LockHeld rel mode holder held) s ended = refl
noted_ended (events.ClashRow name rel) s ended = refl
noted_ended (events.ClashRunning name xid) s ended = refl
noted_ended event s ended = ended

-- before it goes on, a session that an event was entered into has what the event leaves of it
entered_is : (facts : Facts) (commands : List Command) (at command : ℕ) (event : Event) (s : Course) → ((entered facts commands at command event s).left ≡ (noted event s).left) × ((entered facts commands at command event s).finished ≡ (noted event s).finished)
entered_is facts commands at command (events.Fetch count) s = (refl, refl)
entered_is facts commands at command event s = (refl, refl)

entered_past : (facts : Facts) (commands left : List Command) (at command : ℕ) (event : Event) (s : Course) → IsPast commands s → IsPast commands (entered facts left at command event s)
entered_past facts commands left at command event s past none =
    let is = entered_is facts left at command event s in
    subst (λ p. has_ended p ≡ true) (sym is.0) (noted_ended event s (past (ap (λ (l : List Finished). slice_get commands (length l)) (sym (is.1 ∙ noted_finished event s)) ∙ none)))

-- the session after an entry of its backend
by_past : (scenario : Scenario) (facts : Facts) (b at command : ℕ) (event : Event) (old : Option Course) → IfSome old (IsPast (commands_of scenario b)) → IfSome (session_by scenario facts b at command event old) (IsPast (commands_of scenario b))
by_past scenario facts b at command events.Start old past = settled_past facts (commands_of scenario b) (commands_of scenario b) _ refl (begins_past (commands_of scenario b) (commands_of scenario b) no_block none_open [] [] at refl)
by_past scenario facts b at command event None past = tt
by_past scenario facts b at command event (Some s) past = settled_past facts (commands_of scenario b) (commands_left scenario b s) (entered facts (commands_left scenario b s) at command event s)
    (ap (λ (l : List Finished). drop (length l) (commands_of scenario b)) (sym ((entered_is facts (commands_left scenario b s) at command event s).1 ∙ noted_finished event s)))
    (entered_past facts (commands_of scenario b) (commands_left scenario b s) at command event s past)

session_past : (scenario : Scenario) (b : ℕ) (seen : List Entry) → Plays scenario seen → IfSome (session_of scenario seen b) (IsPast (commands_of scenario b))
session_past scenario b seen plays = each-keeps (IsNext scenario) (λ before. IfSome (session_of scenario before b) (IsPast (commands_of scenario b))) tt (λ before e past next. by_owner before e past (e.backend == b) refl) seen plays
  where
    by_owner : (before : List Entry) (e : Entry) → IfSome (session_of scenario before b) (IsPast (commands_of scenario b)) → (t : Bool) → (e.backend == b) ≡ t → IfSome (session_of scenario (before ++ e ∷ []) b) (IsPast (commands_of scenario b))
    by_owner before e past true own = subst (λ o. IfSome o (IsPast (commands_of scenario b))) (sym (session_of-own scenario before e b own)) (by_past scenario (facts_by before b e.command e.event (facts_of before b)) b (length before + 1) e.command e.event (session_of scenario before b) past)
    by_owner before e past false other = subst (λ o. IfSome o (IsPast (commands_of scenario b))) (sym (session_of-other scenario before e b other)) past

-- a backend that is past its last command has come out
pub past_out : (scenario : Scenario) (b : ℕ) (seen : List Entry) (s : Course) → Plays scenario seen → session_of scenario seen b ≡ Some s → slice_get (commands_of scenario b) (length s.finished) ≡ None → is_settled (outcome_of s.left) ≡ true
past_out scenario b seen s plays is none = ended_settled s.left (subst (λ o. IfSome o (IsPast (commands_of scenario b))) is (session_past scenario b seen plays) none)
