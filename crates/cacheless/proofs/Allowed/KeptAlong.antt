-- What holds of the session of a backend holds along an allowed history, where each of its entries keeps it, and so does all that it does without one.
use Rattle.std.proofs.Common.{◌≡◌, ◌+◌, ◌∙◌, ℕ, Bool, true, false, Option, Some, None, List, [], ◌∷◌, ◌++◌, refl, sym, ap, subst, length, drop, slice_get}
use Rattle.std.proofs.lemmas.List.{length_push}
use Rattle.event_kinds.specs.declared.entry.Event.TheVariants as events
use Rattle.ddl_effect.specs.Plans.{Act, Plan, Done, Fails, Absent, Do}
use Rattle.ddl_effect.specs.Commands.{commands_of}
use Rattle.txn_blocks.specs.Blocks.{no_block}
use Rattle.history_model.specs.Changing.{is_empty}
use Rattle.history_model.specs.Drawn.{next_oid}
use Rattle.history_model.specs.MayFollow.{MayFollow}
use Rattle.history_model.proofs.Touched.{entry_of}
use Rattle.cacheless.specs.Types.{Row, Scenario, Command, Entry, Event}
use Rattle.cacheless.specs.Facts.{Facts, facts_of}
use Rattle.cacheless.specs.OnCourse.{IsOnCourse, CourseOf}
use Rattle.cacheless.specs.Output.{IsAllowed}
use Rattle.cacheless.specs.Work.{work_of}
use Rattle.cacheless.specs.Owed.{owed_first_in, owed_after}
use Rattle.cacheless.specs.Played.{AreSpelled, IsPlayed}
use Rattle.cacheless.specs.Plays.{MayPlayIn, MayPlayAt}
use Rattle.cacheless.specs.Session.{Session, number_of, first_of, none_open, at_command}
use Rattle.cacheless.specs.Sessions.{commands_left, entered, session_by, session_of}
use Rattle.cacheless.specs.Settled.{act_done, done_here, acted_on, acted, is_finished_in, finished_as, next_session, settled}
use Rattle.cacheless.proofs.FactsAfter.{facts_by}
use Rattle.cacheless.proofs.Allowed.AlongAllowed.{Fact, holds_along}
use Rattle.cacheless.proofs.Allowed.AtRest.{WaitsForEntry, WaitsAmong, WaitsIn, own-waits}
use Rattle.cacheless.proofs.Allowed.LooksBound.{acted-same}
use Rattle.cacheless.proofs.Allowed.NextOnCourse.{entered_noted, noted_finished, no_start}
use Rattle.cacheless.proofs.Allowed.SettledCourse.{first_left, rest_left}

-- an entry that a session may make, with its running command
pub record Makes (scenario : Scenario) (history : List Entry) (b : ℕ) (o : Option Command) (s : Session) (event : Event) : Type 0 where
  pub played : IsPlayed scenario history
  pub course : IsOnCourse scenario history b s
  pub at : slice_get (commands_of scenario b) (length s.finished) ≡ o
  pub waits : (command : Command) → o ≡ Some command → WaitsForEntry (facts_of history b) command s
  pub follows : MayFollow history (entry_of b (number_of s) event)
  pub plays : MayPlayIn (next_oid history) (facts_of history b) o s event

-- a fact of sessions with their facts and their running command: it holds at the start, and each entry keeps it, each act that is done without one, and the passing to the next command
pub record IsKept (scenario : Scenario) (First : Facts → Type 0) (Holds : Facts → Option Command → Session → Type 0) : Type 0 where
  pub first : (b : ℕ) → First (facts_of [] b)
  pub starts : (history : List Entry) (b c : ℕ) (o : Option Command) → First (facts_of history b) → Holds (facts_by history b c events.Start (facts_of history b)) o (at_command no_block none_open [] [] (length history + 1) o)
  pub enters : (history : List Entry) (b : ℕ) (o : Option Command) (s : Session) (event : Event) (left : List Command) → Makes scenario history b o s event → first_of left ≡ o → Holds (facts_of history b) o s
      → Holds (facts_by history b (number_of s) event (facts_of history b)) o (entered (facts_by history b (number_of s) event (facts_of history b)) left (length history + 1) (number_of s) event s)
  pub acts : (facts : Facts) (command : Command) (s : Session) (act : Act) (rest : List Row → Plan) (given : List Row) → s.left ≡ Do act rest → is_empty (owed_first_in facts command (work_of s) ++ owed_after facts.due) ≡ true → done_here facts s act (Do act rest) ≡ Some given
      → Holds facts (Some command) s → Holds facts (Some command) (act_done act given (rest given) s)
  pub passes : (facts : Facts) (command : Command) (next : Option Command) (s : Session) → is_finished_in facts command (work_of s) ≡ true → Holds facts (Some command) s → Holds facts next (next_session command next s)

module _ (scenario : Scenario) (First : Facts → Type 0) (Holds : Facts → Option Command → Session → Type 0) (kept : IsKept scenario First Holds) where
  acted_on-keeps : (facts : Facts) (command : Command) (p : Plan) (s : Session) → s.left ≡ p → is_empty (owed_first_in facts command (work_of s) ++ owed_after facts.due) ≡ true → Holds facts (Some command) s → Holds facts (Some command) (acted_on facts p s)
  acted_on-keeps facts command (Do act rest) s at free holds = by_done (done_here facts s act (Do act rest)) refl
      (λ given done. acted_on-keeps facts command (rest given) (act_done act given (rest given) s) refl free (kept.acts facts command s act rest given at free done holds))
    where
      by_done : (o : Option (List Row)) → done_here facts s act (Do act rest) ≡ o
          → ((given : List Row) → done_here facts s act (Do act rest) ≡ Some given → Holds facts (Some command) (acted_on facts (rest given) (act_done act given (rest given) s)))
          → Holds facts (Some command) (elim o as (λ x. Session) [ None ↦ s | Some given ↦ acted_on facts (rest given) (act_done act given (rest given) s) ])
      by_done None is more = holds
      by_done (Some given) is more = more given is
  acted_on-keeps facts command (Done told) s at free holds = holds
  acted_on-keeps facts command (Fails error) s at free holds = holds
  acted_on-keeps facts command (Absent name) s at free holds = holds

  acted-keeps : (facts : Facts) (command : Command) (s : Session) → Holds facts (Some command) s → Holds facts (Some command) (acted facts command s)
  acted-keeps facts command s holds = by_free (is_empty (owed_first_in facts command (work_of s) ++ owed_after facts.due)) refl
    where
      by_free : (t : Bool) → is_empty (owed_first_in facts command (work_of s) ++ owed_after facts.due) ≡ t → Holds facts (Some command) (elim t as (λ x. Session) [ true ↦ acted_on facts s.left s | false ↦ s ])
      by_free true free = acted_on-keeps facts command s.left s refl free holds
      by_free false owes = holds

  -- of a session among these commands
  abbrev pub HoldsOf : Facts → List Command → Session → Type 0
  HoldsOf facts all s = Holds facts (slice_get all (length s.finished)) s

  settled-keeps : (facts : Facts) (all commands : List Command) (s : Session) → commands ≡ drop (length s.finished) all → Holds facts (first_of commands) s → HoldsOf facts all (settled facts commands s)
  settled-keeps facts all [] s are holds = subst (λ o. Holds facts o s) (ap first_of are ∙ first_left all (length s.finished)) holds
  settled-keeps facts all (command ∷ rest) s are holds = by_end (is_finished_in facts command (work_of now)) refl (λ over. settled-keeps facts all rest next rest_is (kept.passes facts command (first_of rest) now over here))
    where
      now : Session
      now = acted facts command s

      next : Session
      next = next_session command (first_of rest) now

      here : Holds facts (Some command) now
      here = acted-keeps facts command s holds

      counts : length now.finished ≡ length s.finished
      counts = ap length (acted-same (λ x. x.finished) (λ act given more x. refl) facts command s)

      rest_is : rest ≡ drop (length next.finished) all
      rest_is = rest_left all (length s.finished) command rest are ∙ ap (λ n. drop n all) (sym (length_push now.finished (finished_as now) ∙ ap (λ n. n + 1) counts))

      by_end : (t : Bool) → is_finished_in facts command (work_of now) ≡ t → (is_finished_in facts command (work_of now) ≡ true → HoldsOf facts all (settled facts rest next)) → HoldsOf facts all (elim t as (λ x. Session) [ true ↦ settled facts rest next | false ↦ now ])
      by_end true over more = more over
      by_end false going more = subst (λ o. Holds facts o now) (ap first_of are ∙ first_left all (length s.finished) ∙ ap (slice_get all) (sym counts)) here

  -- of a backend
  abbrev pub HoldsBy : Fact
  HoldsBy b facts None = First facts
  HoldsBy b facts (Some s) = HoldsOf facts (commands_of scenario b) s

  goes-keeps : (history : List Entry) (b c : ℕ) (event : Event) (s : Session) → IsPlayed scenario history → IsOnCourse scenario history b s → WaitsAmong (facts_of history b) (commands_of scenario b) s → MayFollow history (entry_of b c event) → c ≡ number_of s → MayPlayIn (next_oid history) (facts_of history b) (slice_get (commands_of scenario b) (length s.finished)) s event
      → HoldsOf (facts_of history b) (commands_of scenario b) s → HoldsOf (facts_by history b c event (facts_of history b)) (commands_of scenario b) (settled (facts_by history b c event (facts_of history b)) (commands_left scenario b s) (entered (facts_by history b c event (facts_of history b)) (commands_left scenario b s) (length history + 1) c event s))
  goes-keeps history b c event s played course waits follows same may holds = subst (λ n. MayFollow history (entry_of b n event) → HoldsOf (facts_by history b n event (facts_of history b)) all (settled (facts_by history b n event (facts_of history b)) left (entered (facts_by history b n event (facts_of history b)) left (length history + 1) n event s))) (sym same) goes follows
    where
      left : List Command
      left = commands_left scenario b s

      all : List Command
      all = commands_of scenario b

      later : Facts
      later = facts_by history b (number_of s) event (facts_of history b)

      now : Session
      now = entered later left (length history + 1) (number_of s) event s

      counts : length now.finished ≡ length s.finished
      counts = ap length ((entered_noted later left (length history + 1) (number_of s) event s).after.finished ∙ noted_finished event s)

      goes : MayFollow history (entry_of b (number_of s) event) → HoldsOf later all (settled later left now)
      goes follows' = settled-keeps later all left now (ap (λ n. drop n all) (sym counts)) (subst (λ o. Holds later o now) (sym (first_left all (length s.finished)))
          (kept.enters history b (slice_get all (length s.finished)) s event left (record { played = played; course = course; at = refl; waits = waits; follows = follows'; plays = may }) (first_left all (length s.finished)) holds))

  own-keeps : (history : List Entry) (b c : ℕ) (event : Event) (o : Option Session) → IsPlayed scenario history → CourseOf scenario history b o → WaitsIn scenario b (facts_of history b) o → MayFollow history (entry_of b c event) → MayPlayAt scenario history b o c event
      → HoldsBy b (facts_of history b) o → HoldsBy b (facts_by history b c event (facts_of history b)) (session_by scenario (facts_by history b c event (facts_of history b)) b (length history + 1) c event o)
  own-keeps history b c events.Start None played course waits follows may holds = settled-keeps (facts_by history b c events.Start (facts_of history b)) (commands_of scenario b) (commands_of scenario b) (at_command no_block none_open [] [] (length history + 1) (first_of (commands_of scenario b))) refl
      (kept.starts history b c (first_of (commands_of scenario b)) holds)
  own-keeps history b c event None played course waits follows may holds = absurd may
  own-keeps history b c events.Start (Some s) played course waits follows may holds = absurd (no_start (next_oid history) (facts_of history b) _ s may.1)
  own-keeps history b c event (Some s) played course waits follows may holds = goes-keeps history b c event s played course waits follows may.0 may.1 holds

  -- so it holds of each session in an allowed history
  pub kept_along : (history : List Entry) → AreSpelled scenario → IsAllowed scenario history → (b : ℕ) → HoldsBy b (facts_of history b) (session_of scenario history b)
  kept_along history spelled allowed b = (holds_along scenario (λ x facts o. WaitsIn scenario x facts o × HoldsBy x facts o) (λ x. (tt, kept.first x))
      (λ h x c event played course follows may holds. (own-waits scenario h x (length h + 1) c event (session_of scenario h x) _ may, own-keeps h x c event (session_of scenario h x) played course holds.0 follows may holds.1)) history spelled allowed b).1
