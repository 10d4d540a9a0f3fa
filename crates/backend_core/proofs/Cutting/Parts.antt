-- What is played by a script is played by one that leaves out the last commands of a backend, where that has made no entry of them.
use Rattle.std.proofs.Common.{◌≡◌, ◌≤◌, ◌<◌, ◌∙◌, ◌==◌, ◌+◌, ◌++◌, ℕ, zero, suc, Bool, true, false, Option, Some, None, List, [], ◌∷◌, refl, sym, ap, subst, length, take, drop, slice_get, arith}
use Rattle.std.specs.Prelude.{⊤}
use Rattle.std.proofs.lemmas.Bool.{both_ways, eqb-true, eq-eqb}
use Rattle.std.proofs.lemmas.List.{take_all, drop-take, length_push}
use Rattle.event_kinds.specs.declared.entry.Event.TheVariants as events
use Rattle.ddl_effect.specs.Commands.{commands_of}
use Rattle.ddl_effect.specs.Plans.{Plan, Do}
use Rattle.txn_blocks.specs.Blocks.{no_block}
use Rattle.history_model.specs.Drawn.{next_oid}
use Rattle.history_model.specs.MayFollow.{MayFollow}
use Rattle.history_model.specs.Legal.{IsLegal}
use Rattle.history_model.specs.Lives.{life_by, life_of}
use Rattle.history_model.specs.MayFollow.{FollowsLife}
use Rattle.history_model.specs.declared.life.Life.{Life}
use Rattle.history_model.specs.declared.life.Life.TheVariants.{Unstarted, Alive, Stopped}
use Rattle.history_model.proofs.Allows.{legal_follows}
use Rattle.history_model.proofs.Prefixes.{EachEntry-more, EachFrom-both, each-keeps}
use Rattle.history_model.proofs.Reading.{life_of-own, life_of-other}
use Rattle.cacheless.specs.Facts.{Facts, facts_of}
use Rattle.cacheless.specs.Work.{work_of}
use Rattle.cacheless.specs.Plays.{MayPlayIn, MayPlayAt, IsNext, Plays}
use Rattle.cacheless.specs.Session.{Session, first_of, none_open, at_command}
use Rattle.cacheless.specs.Sessions.{placed_at, counted, accepted, entered, commands_left, session_by, session_of}
use Rattle.cacheless.specs.Settled.{done_here, act_done, acted_on, acted, is_finished_in, finished_as, next_session, settled}
use Rattle.cacheless.proofs.FactsAfter.{facts_by}
use Rattle.cacheless.proofs.Allowed.NextOnCourse.{counted_tally, noted_finished}
use Rattle.cacheless.proofs.HeldLocks.{settled-locks}
use Rattle.cacheless.proofs.Reading.{session_of-own, session_of-other}
use Rattle.base_types.specs.Scenario.{IsBackend}
use Rattle.backend_core.specs.Types.{Row, Command, Scenario, Entry, Event}
use Rattle.backend_core.specs.Agrees.{IsPlayed}
use Rattle.backend_core.specs.Cuts.{IsCut, EndsBy}
use Rattle.backend_core.proofs.Cutting.Scripts.{first_cut, slice_get_cut, from_there}
use Rattle.backend_core.proofs.Cutting.Sessions.{sessions_alike}

-- acts leave the commands that are finished
acted_on-finished : (facts : Facts) (p : Plan) (s : Session) → (acted_on facts p s).finished ≡ s.finished
acted_on-finished facts (Do act rest) s = by_given (done_here facts s act (Do act rest)) (λ given. acted_on-finished facts (rest given) (act_done act given (rest given) s))
  where
    by_given : (o : Option (List Row)) → ((given : List Row) → (acted_on facts (rest given) (act_done act given (rest given) s)).finished ≡ s.finished)
        → (elim o as (λ x. Session) [ None ↦ s | Some given ↦ acted_on facts (rest given) (act_done act given (rest given) s) ]).finished ≡ s.finished
    by_given None more = refl
    by_given (Some given) more = more given
acted_on-finished facts p s = refl

pub acted-finished : (facts : Facts) (s : Session) (free : Bool) → (elim free as (λ x. Session) [ true ↦ acted_on facts s.left s | false ↦ s ]).finished ≡ s.finished
acted-finished facts s true = acted_on-finished facts s.left s
acted-finished facts s false = refl

-- and settling only adds to them
pub settled_grows : (facts : Facts) (commands : List Command) (s : Session) → length s.finished ≤ length (settled facts commands s).finished
settled_grows facts [] s = omega arith
settled_grows facts (command ∷ rest) s = by_end (is_finished_in facts command (work_of now)) (settled_grows facts rest (next_session command (first_of rest) now))
  where
    now : Session
    now = acted facts command s

    same : length now.finished ≡ length s.finished
    same = ap length (acted-finished facts s _)

    by_end : (t : Bool) → length (now.finished ++ finished_as now ∷ []) ≤ length (settled facts rest (next_session command (first_of rest) now)).finished
        → length s.finished ≤ length (elim t as (λ x. Session) [ true ↦ settled facts rest (next_session command (first_of rest) now) | false ↦ now ]).finished
    by_end true more = omega (arith, same, more, length_push now.finished (finished_as now))
    by_end false more = omega (arith, same)

-- with the commands up to the cut it settles the same, while these aren't all finished
settled_cut : (facts : Facts) (commands : List Command) (j n : ℕ) (s : Session) → length s.finished + j ≡ n → length (settled facts commands s).finished < n → settled facts (take j commands) s ≡ settled facts commands s
settled_cut facts [] j n s count less = ap (λ l. settled facts l s) (take_all j [] (omega arith))
settled_cut facts (command ∷ rest) zero n s count less = absurd (omega (arith, count, less, settled_grows facts (command ∷ rest) s))
settled_cut facts (command ∷ rest) (suc j) n s count less = by_end (is_finished_in facts command (work_of now)) less (λ counts small. settled_cut facts rest j n (next_session command (first_of rest) now) counts small)
  where
    now : Session
    now = acted facts command s

    same : length now.finished ≡ length s.finished
    same = ap length (acted-finished facts s _)

    counts : length (now.finished ++ finished_as now ∷ []) + j ≡ n
    counts = omega (arith, count, length_push now.finished (finished_as now), same)

    grows : length (now.finished ++ finished_as now ∷ []) ≤ length (settled facts rest (next_session command (first_of rest) now)).finished
    grows = settled_grows facts rest (next_session command (first_of rest) now)

    by_end : (t : Bool) → length (elim t as (λ x. Session) [ true ↦ settled facts rest (next_session command (first_of rest) now) | false ↦ now ]).finished < n
        → (length (now.finished ++ finished_as now ∷ []) + j ≡ n → length (settled facts rest (next_session command (first_of rest) now)).finished < n → settled facts (take j rest) (next_session command (first_of rest) now) ≡ settled facts rest (next_session command (first_of rest) now))
        → elim t as (λ x. Session) [ true ↦ settled facts (take j rest) (next_session command (first_of (take j rest)) now) | false ↦ now ] ≡ elim t as (λ x. Session) [ true ↦ settled facts rest (next_session command (first_of rest) now) | false ↦ now ]
    by_end true small more = ap (λ o. settled facts (take j rest) (next_session command o now)) (first_cut j rest (λ none. omega (arith, none, counts, small, grows)))
        ∙ more counts small
    by_end false small more = refl

-- two sessions are the same while the first so many commands aren't all finished, and always hold the same locks
record AreCut (n : ℕ) (one two : Session) : Type 0 where
  same : length one.finished < n → two ≡ one
  locks : two.locks ≡ one.locks

abbrev CutTo : ℕ → Option Session → Option Session → Type 0
CutTo n None None = ⊤
CutTo n (Some one) (Some two) = AreCut n one two
CutTo n one two = ⊥

cut_settles : (facts : Facts) (commands : List Command) (j n : ℕ) (s : Session) → length s.finished + j ≡ n → AreCut n (settled facts commands s) (settled facts (take j commands) s)
cut_settles facts commands j n s count = record {
  same = λ less. settled_cut facts commands j n s count less;
  locks = settled-locks facts (take j commands) s ∙ sym (settled-locks facts commands s);
}

-- from its start on
cut_starts : (facts : Facts) (commands : List Command) (n at : ℕ) → AreCut n (settled facts commands (at_command no_block none_open [] [] at (first_of commands))) (settled facts (take n commands) (at_command no_block none_open [] [] at (first_of (take n commands))))
cut_starts facts commands zero at = record {
  same = λ less. absurd (omega (arith, less));
  locks = settled-locks facts (take zero commands) (at_command no_block none_open [] [] at (first_of (take zero commands))) ∙ sym (settled-locks facts commands (at_command no_block none_open [] [] at (first_of commands)));
}
cut_starts facts commands (suc n) at = subst (λ o. AreCut (suc n) (settled facts commands (at_command no_block none_open [] [] at (first_of commands))) (settled facts (take (suc n) commands) (at_command no_block none_open [] [] at o)))
    (sym (first_cut (suc n) commands (λ none. omega (arith, none))))
    (cut_settles facts commands (suc n) (suc n) (at_command no_block none_open [] [] at (first_of commands)) (omega arith))

-- and with an entry of one of the first so many commands
cut_enters : (whole part : Scenario) (b n : ℕ) (is : IsCut b n whole part) (facts : Facts) (at c : ℕ) (event : Event) (one two : Session) → AreCut n one two → length one.finished < n
    → AreCut n (settled facts (commands_left whole b one) (entered facts (commands_left whole b one) at c event one)) (settled facts (commands_left part b two) (entered facts (commands_left part b two) at c event two))
cut_enters whole part b n is facts at c event one two both less = subst (AreCut n (settled facts left (entered facts left at c event one))) (sym twos) (cut_settles facts left there.0 n (entered facts left at c event one) count)
  where
    done : ℕ
    done = length one.finished

    there : (j : ℕ) × (n ≡ done + j)
    there = from_there done n less

    left : List Command
    left = drop done (commands_of whole b)

    lists : drop done (commands_of part b) ≡ take there.0 left
    lists = ap (drop done) is.own ∙ ap (λ m. drop done (take m (commands_of whole b))) there.1 ∙ drop-take done there.0 (commands_of whole b)

    same : length (entered facts left at c event one).finished ≡ done
    same = ap length (ap (λ x. x.finished) (counted_tally facts event (placed_at at c event one)) ∙ noted_finished event one)

    count : length (entered facts left at c event one).finished + there.0 ≡ n
    count = omega (arith, there.1, same)

    twos : settled facts (commands_left part b two) (entered facts (commands_left part b two) at c event two) ≡ settled facts (take there.0 left) (entered facts left at c event one)
    twos =
        ap (λ s. settled facts (commands_left part b s) (entered facts (commands_left part b s) at c event s)) (both.same less)
        ∙ ap (λ l. settled facts l (entered facts l at c event one)) lists
        ∙ ap (λ o. settled facts (take there.0 left) (accepted facts o (counted facts event (placed_at at c event one)))) (first_cut there.0 left (λ none. omega (arith, none, there.1, less)))

pub not_start : (next : ℕ) (facts : Facts) (o : Option Command) (s : Session) → MayPlayIn next facts o s events.Start → ⊥
not_start next facts None s may = may
not_start next facts (Some command) s may = may

-- an entry that the one script allows next of a backend that has finished less
less_of : (whole : Scenario) (before : List Entry) (b n c : ℕ) (event : Event) (one : Session) → c ≤ n → MayPlayAt whole before b (Some one) c event → length one.finished < n
less_of whole before b n c event one low may = let is : c ≡ length one.finished + 1 = may.0 in omega (arith, low, is)

cut_by : (whole part : Scenario) (b n : ℕ) (is : IsCut b n whole part) (before : List Entry) (facts : Facts) (at c : ℕ) (event : Event) (o p : Option Session) → CutTo n o p → c ≤ n → MayPlayAt whole before b o c event
    → CutTo n (session_by whole facts b at c event o) (session_by part facts b at c event p)
cut_by whole part b n is before facts at c events.Start None None both low may =
    subst (λ l. AreCut n (settled facts (commands_of whole b) (at_command no_block none_open [] [] at (first_of (commands_of whole b)))) (settled facts l (at_command no_block none_open [] [] at (first_of l)))) (sym is.own) (cut_starts facts (commands_of whole b) n at)
cut_by whole part b n is before facts at c events.Start (Some one) (Some two) both low may = absurd (not_start (next_oid before) (facts_of before b) (slice_get (commands_of whole b) (length one.finished)) one may.1)
cut_by whole part b n is before facts at c event None None both low may = absurd may
cut_by whole part b n is before facts at c event (Some one) (Some two) both low may = cut_enters whole part b n is facts at c event one two both (less_of whole before b n c event one low may)
cut_by whole part b n is before facts at c event None (Some two) both low may = absurd both
cut_by whole part b n is before facts at c event (Some one) None both low may = absurd both

-- which the other one allows too
cut_may : (whole part : Scenario) (b n : ℕ) (is : IsCut b n whole part) (before : List Entry) (c : ℕ) (event : Event) (o p : Option Session) → CutTo n o p → c ≤ n → MayPlayAt whole before b o c event → MayPlayAt part before b p c event
cut_may whole part b n is before c event None None both low may = may
cut_may whole part b n is before c event (Some one) (Some two) both low may =
    let less = less_of whole before b n c event one low may in
    subst (λ s. MayPlayAt part before b (Some s) c event) (sym (both.same less))
    (may.0, subst (λ o. MayPlayIn (next_oid before) (facts_of before b) o one event) (sym (ap (λ l. slice_get l (length one.finished)) is.own ∙ slice_get_cut n (length one.finished) (commands_of whole b) less)) may.1)
cut_may whole part b n is before c event None (Some two) both low may = absurd both
cut_may whole part b n is before c event (Some one) None both low may = absurd both

-- the entry of another
other_may : (whole part : Scenario) (before : List Entry) (a c : ℕ) (event : Event) → commands_of part a ≡ commands_of whole a → MayPlayAt whole before a (session_of whole before a) c event → MayPlayAt part before a (session_of part before a) c event
other_may whole part before a c event same may = subst (λ o. MayPlayAt part before a o c event) (sym (sessions_alike whole part a same before)) (by_session (session_of whole before a) may)
  where
    by_session : (o : Option Session) → MayPlayAt whole before a o c event → MayPlayAt part before a o c event
    by_session None may_start = may_start
    by_session (Some s) may_play = (may_play.0, subst (λ l. MayPlayIn (next_oid before) (facts_of before a) (slice_get l (length s.finished)) s event) (sym same) may_play.1)

-- the history is played by the other script, and the backend's session there is that up to the cut
record PlaysCut (whole part : Scenario) (b n : ℕ) (history : List Entry) : Type 0 where
  session : CutTo n (session_of whole history b) (session_of part history b)
  plays : Plays part history

plays_cut : (whole part : Scenario) (b n : ℕ) (is : IsCut b n whole part) (history : List Entry) → Plays whole history → EndsBy b n history → PlaysCut whole part b n history
plays_cut whole part b n is history plays ends = each-keeps (λ before e. IsNext whole before e × (e.backend ≡ b → e.command ≤ n)) (PlaysCut whole part b n) (record { session = tt; plays = tt }) (λ before e now each. more before e now each.0 each.1 (e.backend == b) refl)
    history (EachFrom-both (IsNext whole) (λ before e. e.backend ≡ b → e.command ≤ n) [] history plays ends)
  where
    more : (before : List Entry) (e : Entry) → PlaysCut whole part b n before → IsNext whole before e → (e.backend ≡ b → e.command ≤ n) → (t : Bool) → (e.backend == b) ≡ t → PlaysCut whole part b n (before ++ e ∷ [])
    more before e now next low true own =
        let at : e.backend ≡ b = eqb-true e.backend b own in
        let facts : Facts = facts_by before b e.command e.event (facts_of before b) in
        let may : MayPlayAt whole before b (session_of whole before b) e.command e.event = subst (λ a. MayPlayAt whole before a (session_of whole before a) e.command e.event) at next.1 in
        record {
          session = subst (λ o. CutTo n o (session_of part (before ++ e ∷ []) b)) (sym (session_of-own whole before e b own))
              (subst (λ o. CutTo n (session_by whole facts b (length before + 1) e.command e.event (session_of whole before b)) o) (sym (session_of-own part before e b own))
              (cut_by whole part b n is before facts (length before + 1) e.command e.event (session_of whole before b) (session_of part before b) now.session (low at) may));
          plays = EachEntry-more (IsNext part) before e now.plays (
            subst (λ m. IsBackend m e.backend) (sym is.backends) next.0,
            subst (λ a. MayPlayAt part before a (session_of part before a) e.command e.event) (sym at) (cut_may whole part b n is before e.command e.event (session_of whole before b) (session_of part before b) now.session (low at) may),
          );
        }
    more before e now next low false other = record {
      session = subst (λ o. CutTo n o (session_of part (before ++ e ∷ []) b)) (sym (session_of-other whole before e b other)) (subst (λ o. CutTo n (session_of whole before b) o) (sym (session_of-other part before e b other)) now.session);
      plays = EachEntry-more (IsNext part) before e now.plays (subst (λ m. IsBackend m e.backend) (sym is.backends) next.0, other_may whole part before e.backend e.command e.event (is.others e.backend other) next.1);
    }

-- so it is played by it
pub played_cut : (whole part : Scenario) (b n : ℕ) → IsCut b n whole part → (history : List Entry) → EndsBy b n history → IsPlayed whole history → IsPlayed part history
played_cut whole part b n is history ends played = record {
  sound = played.sound;
  plays = (plays_cut whole part b n is history played.plays ends).plays;
  columns = played.columns;
  indexes = played.indexes;
  names = played.names;
  spelled = is.spelled played.spelled;
}

-- and the backend holds the same locks in both
pub locks_cut : (whole part : Scenario) (b n : ℕ) → IsCut b n whole part → (history : List Entry) → EndsBy b n history → Plays whole history → {X : Type 0} (f : Option Session → X) → ((one two : Session) → two.locks ≡ one.locks → f (Some two) ≡ f (Some one)) → f (session_of part history b) ≡ f (session_of whole history b)
locks_cut whole part b n is history ends plays {X} f same = by_sessions (session_of whole history b) (session_of part history b) (plays_cut whole part b n is history plays ends).session
  where
    by_sessions : (o p : Option Session) → CutTo n o p → f p ≡ f o
    by_sessions None None both = refl
    by_sessions (Some one) (Some two) both = same one two both.locks
    by_sessions None (Some two) both = absurd both
    by_sessions (Some one) None both = absurd both

-- of a backend that is alive the last entry has the highest number
abbrev Highest : ℕ → List Entry → Life → Type 0
Highest b history Unstarted = (n : ℕ) → EndsBy b n history
Highest b history (Alive last) = (n : ℕ) → last ≤ n → EndsBy b n history
Highest b history Stopped = ⊤

highest : (b : ℕ) (history : List Entry) → IsLegal history → Highest b history (life_of history b)
highest b history legal = each-keeps MayFollow (λ h. Highest b h (life_of h b)) (λ n. tt) (λ before e now may. more before e now may (e.backend == b) refl) history (legal_follows history legal)
  where
    own_more : (before : List Entry) (e : Entry) (life : Life) → Highest b before life → FollowsLife life e.command e.event → Highest b (before ++ e ∷ []) (life_by e.command e.event)
    own_more before e life now follows = by_event e.event follows
      where
        after : (n : ℕ) → e.command ≤ n → ((m : ℕ) → e.command ≤ m → EndsBy b m before) → EndsBy b n (before ++ e ∷ [])
        after n low all = EachEntry-more (λ front x. x.backend ≡ b → x.command ≤ n) before e (all n low) (λ own. low)

        so_far : (l : Life) → Highest b before l → (event : Event) → FollowsLife l e.command event → (m : ℕ) → e.command ≤ m → EndsBy b m before
        so_far Unstarted all event is m low = all m
        so_far (Alive last) all events.Start is m low = absurd is
        so_far (Alive last) all event is m low = all m (omega (arith, is, low))
        so_far Stopped all event is m low = absurd is

        by_event : (event : Event) → FollowsLife life e.command event → Highest b (before ++ e ∷ []) (life_by e.command event)
        by_event events.Stop is = tt
        by_event event is = λ n low. after n low (so_far life now event is)

    more : (before : List Entry) (e : Entry) → Highest b before (life_of before b) → MayFollow before e → (t : Bool) → (e.backend == b) ≡ t → Highest b (before ++ e ∷ []) (life_of (before ++ e ∷ []) b)
    more before e now may true own = subst (Highest b (before ++ e ∷ [])) (sym (life_of-own before e b own))
        (own_more before e (life_of before b) now (subst (λ a. FollowsLife (life_of before a) e.command e.event) (eqb-true e.backend b own) may.life))
    more before e now may false other = subst (Highest b (before ++ e ∷ [])) (sym (life_of-other before e b other)) (stays (life_of before b) now)
      where
        push : (n : ℕ) → EndsBy b n before → EndsBy b n (before ++ e ∷ [])
        push n all = EachEntry-more (λ front x. x.backend ≡ b → x.command ≤ n) before e all (λ own. absurd (both_ways _ other (eq-eqb e.backend b own)))

        stays : (l : Life) → Highest b before l → Highest b (before ++ e ∷ []) l
        stays Unstarted all = λ n. push n (all n)
        stays (Alive last) all = λ n low. push n (all n low)
        stays Stopped all = tt

-- so one that is alive has no entry of a command with a higher number than its last
pub ends_by : (history : List Entry) (b last n : ℕ) → IsLegal history → life_of history b ≡ Alive last → last ≤ n → EndsBy b n history
ends_by history b last n legal alive low = (subst (Highest b history) alive (highest b history legal)) n low
