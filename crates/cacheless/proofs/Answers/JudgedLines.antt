-- Commands are judged at entries of their history, and so the line of a finished command stays with each further entry.
use Rattle.std.proofs.Common.{◌≡◌, ◌≤◌, ◌+◌, ◌∙◌, ℕ, Bool, true, false, suc, Option, Some, None, List, [], ◌∷◌, ◌++◌, ◌==◌, if◌then◌else◌, refl, sym, ap, subst, length, slice_get, All, arith}
use Rattle.std.specs.Prelude.{⊤}
use Rattle.std.specs.List.{AllByRecursion}
use Rattle.std.proofs.lemmas.List.{take-append-le, length_push}
use Rattle.std.proofs.lemmas.List.Elements.{All-from_recursion}
use Rattle.event_kinds.specs.declared.entry.Event.TheVariants as events
use Rattle.command_answers.specs.Answers.{answer_text}
use Rattle.txn_blocks.specs.Blocks.{no_block}
use Rattle.ddl_effect.specs.Commands.{commands_of}
use Rattle.ddl_effect.specs.Plans.{Plan, Done, Fails, Absent, Do}
use Rattle.history_model.proofs.Every.{every-append, every-weaker}
use Rattle.history_model.proofs.Prefixes.{along-keeps}
use Rattle.cacheless.specs.Types.{Row, Scenario, Command, Entry, Event}
use Rattle.cacheless.specs.Facts.{Facts, facts_of}
use Rattle.cacheless.specs.Judged.{ArePlaced}
use Rattle.cacheless.specs.Lines.{answer_judged, line_of, lines_from}
use Rattle.cacheless.specs.Session.{Session, Finished, first_of, none_open, at_command}
use Rattle.cacheless.specs.Sessions.{ends_command, placed_at, counted, commands_left, entered, session_by, session_of}
use Rattle.cacheless.specs.Work.{work_of}
use Rattle.cacheless.specs.Settled.{done_here, act_done, acted_on, acted, is_finished_in, finished_as, next_session, settled}
use Rattle.cacheless.proofs.Allowed.NextOnCourse.{counted_tally, noted_finished}

-- the line of a command that is judged among the entries stays with one more
pub line-more : (scenario : Scenario) (seen : List Entry) (e : Entry) (b c : ℕ) (f : Finished) (command : Command) → f.judged ≤ length seen → line_of scenario (seen ++ e ∷ []) b c f command ≡ line_of scenario seen b c f command
line-more scenario seen e b c f command place = ap (λ h. record { backend = b; command = c; text = answer_text (answer_judged scenario h b c f command f.refused) }) (take-append-le f.judged seen (e ∷ []) place)

-- and so do those of finished commands
pub lines-more : (scenario : Scenario) (seen : List Entry) (e : Entry) (b c : ℕ) (finished : List Finished) (commands : List Command) → All (λ f. f.judged ≤ length seen) finished
    → lines_from scenario (seen ++ e ∷ []) b c finished commands ≡ lines_from scenario seen b c finished commands
lines-more scenario seen e b c [] commands places = refl
lines-more scenario seen e b c (f ∷ finished) [] places = refl
lines-more scenario seen e b c (f ∷ finished) (command ∷ commands) places =
    ap (λ l. l ∷ lines_from scenario (seen ++ e ∷ []) b (c + 1) finished commands) (line-more scenario seen e b c f command (places 0 f (omega arith)))
    ∙ ap (λ l. line_of scenario seen b c f command ∷ l) (lines-more scenario seen e b (c + 1) finished commands (λ i d within. places (suc i) d (omega (arith, within))))

-- one more line
pub lines-push : (scenario : Scenario) (seen : List Entry) (b c : ℕ) (finished : List Finished) (f : Finished) (commands : List Command) (command : Command) → slice_get commands (length finished) ≡ Some command
    → lines_from scenario seen b c (finished ++ f ∷ []) commands ≡ lines_from scenario seen b c finished commands ++ line_of scenario seen b (c + length finished) f command ∷ []
lines-push scenario seen b c [] f [] command at = absurd (cc)
lines-push scenario seen b c [] f (x ∷ commands) command at =
    let same : x ≡ command = cc in
    let here : c ≡ c + 0 = omega arith in
    ap (λ y. line_of scenario seen b c f y ∷ []) same ∙ ap (λ n. line_of scenario seen b n f command ∷ []) here
lines-push scenario seen b c (g ∷ finished) f [] command at = absurd (cc)
lines-push scenario seen b c (g ∷ finished) f (x ∷ commands) command at =
    let here : c + 1 + length finished ≡ c + suc (length finished) = omega arith in
    ap (λ l. line_of scenario seen b c g x ∷ l)
    (lines-push scenario seen b (c + 1) finished f commands command at ∙ ap (λ n. lines_from scenario seen b (c + 1) finished commands ++ line_of scenario seen b n f command ∷ []) here)

-- the same of the places by recursion
record Placed (n : ℕ) (s : Session) : Type 0 where
  finished : AllByRecursion (λ f. f.judged ≤ n) s.finished
  judged : s.judged ≤ n
  last : s.last ≤ n

abbrev PlacedAt : ℕ → Option Session → Type 0
PlacedAt n None = ⊤
PlacedAt n (Some s) = Placed n s

-- acts leave them
acted_on-placed : (n : ℕ) (facts : Facts) (p : Plan) (s : Session) → Placed n s → Placed n (acted_on facts p s)
acted_on-placed n facts (Done told) s placed = placed
acted_on-placed n facts (Fails error) s placed = placed
acted_on-placed n facts (Absent name) s placed = placed
acted_on-placed n facts (Do act rest) s placed =
    by_given (done_here facts s act (Do act rest)) (λ given. acted_on-placed n facts (rest given) (act_done act given (rest given) s) (record { finished = placed.finished; judged = placed.judged; last = placed.last }))
  where
    by_given : (o : Option (List Row)) → ((given : List Row) → Placed n (acted_on facts (rest given) (act_done act given (rest given) s))) → Placed n (elim o as (λ x. Session) [ None ↦ s | Some given ↦ acted_on facts (rest given) (act_done act given (rest given) s) ])
    by_given None more = placed
    by_given (Some given) more = more given

acted-placed : (n : ℕ) (facts : Facts) (s : Session) (free : Bool) → Placed n s → Placed n (elim free as (λ x. Session) [ true ↦ acted_on facts s.left s | false ↦ s ])
acted-placed n facts s true placed = acted_on-placed n facts s.left s placed
acted-placed n facts s false placed = placed

-- and a command that is finished is judged at one
settled-placed : (n : ℕ) (facts : Facts) (left : List Command) (s : Session) → Placed n s → Placed n (settled facts left s)
settled-placed n facts [] s placed = placed
settled-placed n facts (command ∷ rest) s placed = by_end (is_finished_in facts command (work_of now)) (settled-placed n facts rest (next_session command (first_of rest) now))
  where
    now : Session
    now = acted facts command s

    here : Placed n now
    here = acted-placed n facts s _ placed

    by_end : (t : Bool) → (Placed n (next_session command (first_of rest) now) → Placed n (settled facts rest (next_session command (first_of rest) now))) → Placed n (elim t as (λ x. Session) [ true ↦ settled facts rest (next_session command (first_of rest) now) | false ↦ now ])
    by_end true more = more (record { finished = every-append (λ (f : Finished). f.judged ≤ n) now.finished (finished_as now ∷ []) here.finished (here.judged, tt); judged = here.last; last = here.last })
    by_end false more = here

placed-more : (n m : ℕ) (s : Session) → n ≤ m → Placed n s → Placed m s
placed-more n m s longer placed = record {
  finished = every-weaker (λ (f : Finished). f.judged ≤ n) (λ (f : Finished). f.judged ≤ m) (λ f low. omega (arith, low, longer)) s.finished placed.finished;
  judged = omega (arith, placed.judged, longer);
  last = omega (arith, placed.last, longer);
}

-- an entry gives its place to the running command, unless it is of the command's end
entered-placed : (n : ℕ) (facts : Facts) (left : List Command) (c : ℕ) (event : Event) (s : Session) → Placed n s → Placed (n + 1) (entered facts left (n + 1) c event s)
entered-placed n facts left c event s placed = record {
  finished = subst (AllByRecursion (λ (f : Finished). f.judged ≤ n + 1)) (sym (ap (λ x. x.finished) same ∙ noted_finished event s)) (placed-more n (n + 1) s (omega arith) placed).finished;
  judged = subst (λ m. m ≤ n + 1) (sym (ap (λ x. x.judged) same)) (by_end (ends_command event));
  last = subst (λ m. m ≤ n + 1) (sym (ap (λ x. x.last) same)) (omega arith);
}
  where
    now : Session
    now = placed_at (n + 1) c event s

    same : counted facts event now ≡ record now { tally = (counted facts event now).tally }
    same = counted_tally facts event now

    by_end : (t : Bool) → (if t then s.judged else n + 1) ≤ n + 1
    by_end true = omega (arith, placed.judged)
    by_end false = omega arith

session-placed : (scenario : Scenario) (facts : Facts) (b n c : ℕ) (event : Event) (o : Option Session) → PlacedAt n o → PlacedAt (n + 1) (session_by scenario facts b (n + 1) c event o)
session-placed scenario facts b n c events.Start o placed =
    settled-placed (n + 1) facts (commands_of scenario b) (at_command no_block none_open [] [] (n + 1) (first_of (commands_of scenario b))) (record { finished = tt; judged = at_most; last = at_most })
  where
    at_most : n + 1 ≤ n + 1
    at_most = omega arith
session-placed scenario facts b n c event None placed = tt
session-placed scenario facts b n c event (Some s) placed = settled-placed (n + 1) facts (commands_left scenario b s) (entered facts (commands_left scenario b s) (n + 1) c event s) (entered-placed n facts (commands_left scenario b s) c event s placed)

all_placed : (scenario : Scenario) (history : List Entry) (b : ℕ) → PlacedAt (length history) (session_of scenario history b)
all_placed scenario history b = along-keeps (λ before o. PlacedAt (length before) o) (λ before old e. if e.backend == b then session_by scenario (facts_of (before ++ e ∷ []) b) b (length before + 1) e.command e.event old else old)
    (λ before o e placed. subst (λ n. PlacedAt n (if e.backend == b then session_by scenario (facts_of (before ++ e ∷ []) b) b (length before + 1) e.command e.event o else o)) (sym (length_push before e)) (more before e o placed (e.backend == b))) None history tt
  where
    other : (n : ℕ) (o : Option Session) → PlacedAt n o → PlacedAt (n + 1) o
    other n None placed = tt
    other n (Some s) placed = placed-more n (n + 1) s (omega arith) placed

    more : (before : List Entry) (e : Entry) (o : Option Session) → PlacedAt (length before) o → (t : Bool) → PlacedAt (length before + 1) (if t then session_by scenario (facts_of (before ++ e ∷ []) b) b (length before + 1) e.command e.event o else o)
    more before e o placed true = session-placed scenario (facts_of (before ++ e ∷ []) b) b (length before) e.command e.event o placed
    more before e o placed false = other (length before) o placed

-- the commands of a session are judged at entries of its history
pub session_placed : (scenario : Scenario) (history : List Entry) (b : ℕ) (s : Session) → session_of scenario history b ≡ Some s → ArePlaced (length history) s
session_placed scenario history b s is = let placed = subst (PlacedAt (length history)) is (all_placed scenario history b) in
    record { finished = All-from_recursion (λ (f : Finished). f.judged ≤ length history) s.finished placed.finished; judged = placed.judged; last = placed.last }

-- so the lines of its finished commands stay with each further entry
pub finished_lines-more : (scenario : Scenario) (history : List Entry) (e : Entry) (b : ℕ) (s : Session) → session_of scenario history b ≡ Some s
    → lines_from scenario (history ++ e ∷ []) b 1 s.finished (commands_of scenario b) ≡ lines_from scenario history b 1 s.finished (commands_of scenario b)
finished_lines-more scenario history e b s is = lines-more scenario history e b 1 s.finished (commands_of scenario b) (session_placed scenario history b s is).finished

-- an entry that isn't of a command's end is where the running command is judged from then on
pub judged_here : (facts : Facts) (left : List Command) (at c : ℕ) (event : Event) (s : Session) → ends_command event ≡ false → (entered facts left at c event s).judged ≡ at
judged_here facts left at c event s goes = ap (λ x. x.judged) (counted_tally facts event (placed_at at c event s)) ∙ ap (λ t. if t then s.judged else at) goes

-- one of its end leaves all by which it is judged
pub judged_still : (facts : Facts) (left : List Command) (at c : ℕ) (event : Event) (s : Session) → ends_command event ≡ true → finished_as (entered facts left at c event s) ≡ finished_as s
judged_still facts left at c (events.Visible xid) s ends = refl
judged_still facts left at c (events.Publish count) s ends = refl
judged_still facts left at c (events.Release from) s ends = refl
judged_still facts left at c (events.Gone from) s ends = refl
judged_still facts left at c event s ends = absurd (cc)

-- so its line stays until it is finished
pub line_stays : (scenario : Scenario) (seen : List Entry) (e : Entry) (b c : ℕ) (s later : Session) (command : Command) → s.judged ≤ length seen → finished_as later ≡ finished_as s → line_of scenario (seen ++ e ∷ []) b c (finished_as later) command ≡ line_of scenario seen b c (finished_as s) command
line_stays scenario seen e b c s later command place same = ap (λ f. line_of scenario (seen ++ e ∷ []) b c f command) same ∙ line-more scenario seen e b c (finished_as s) command place
