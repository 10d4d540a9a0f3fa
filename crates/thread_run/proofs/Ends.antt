-- What a run begins with, and what it comes to.
use Rattle.std.proofs.Common.{◌≡◌, ◌≢◌, ◌<◌, ◌≤◌, ◌+◌, ◌==◌, ◌∙◌, ◌⊎◌, inl, inr, ℕ, zero, suc, true, false, Some, None, List, [], ◌∷◌, length, map, slice_get, refl, sym, ap, subst, arith}
use Rattle.std.specs.List.{All, AllByRecursion, range_with_len}
use Rattle.std.proofs.lemmas.Bool.Decides.{eqb_tells}
use Rattle.base_types.specs.Scenario.{Scenario, IsScript, IsBackend}
use Rattle.event_kinds.specs.declared.entry.Entry.{Entry}
use Rattle.event_kinds.specs.declared.entry.Line.{Line}
use Rattle.ddl_effect.specs.Commands.{commands_of}
use Rattle.history_model.specs.declared.life.Life.TheVariants.{Unstarted, Alive, Stopped}
use Rattle.cacheless.specs.Schedule.{has_stopped}
use Rattle.turn_table.specs.declared.pass.Pass.{Pass}
use Rattle.turn_table.specs.declared.turned.Turned.{Ghosts}
use Rattle.turn_table.specs.Histories.{Follows, NoneOf}
use Rattle.turn_table.specs.Numbered.{HasSeat}
use Rattle.turn_table.specs.Passes.{AreNumbered, IsPassOf, start_of, seats_of, seen_by, room_of}
use Rattle.backend_core.specs.declared.backend.Backend.{Backend}
use Rattle.backend_core.specs.declared.life.Life.{Life}
use Rattle.backend_core.specs.declared.life.Life.TheVariants as lives
use Rattle.backend_core.specs.Agrees.{AreSpelled, AwaitsEntry, HasNotJoined, HasLeft, Stands}
use Rattle.backend_core.specs.Coherent.{IsCoherent}
use Rattle.backend_core.specs.Words.{has_joined, has_left}
use Rattle.backend_core.proofs.Apart.{Stands-others}
use Rattle.script_backends.specs.Sessions.{transcripts_of, AreSessions}
use Rattle.script_backends.specs.Standing.{StandsAt, StandTogether}
use Rattle.script_backends.proofs.Sessions.{stopped_as, transcripts_are, stand_sessions, stand_each, stand_coherent}
use Rattle.thread_run.specs.Prepared.{IsPrepared}
use Rattle.thread_run.specs.Runs.{IsRunSoFar, IsRun}
use Rattle.thread_run.specs.Scripts.{Play, IsLeft, commands_left}
use Rattle.thread_run.specs.Seats.{AllPairs, MaySit, HasDone}
use Rattle.thread_run.specs.Turns.{backend_of}
use Rattle.thread_run.specs.Workers.{Table}
use Rattle.thread_run.proofs.Played.{run_none, run_allowed}
use Rattle.thread_run.proofs.Scripts.{left_whole}

-- nobody has joined before the first entry
never_alive : (last : ℕ) → Unstarted ≡ Alive last → ⊥
never_alive last e = cc

never_stopped : Unstarted ≡ Stopped → ⊥
never_stopped e = cc

not_joined : (scenario : Scenario) (s : Backend) → Stands scenario [] s → has_joined s.life ≡ false
not_joined scenario s stands = by_life s.life stands
  where
    by_life : (l : Life) → elim l as (λ x. Type 0) [ lives.Unstarted ↦ HasNotJoined scenario [] s | lives.Alive ↦ AwaitsEntry scenario [] s | lives.Stopped ↦ HasLeft scenario [] s ] → has_joined l ≡ false
    by_life lives.Unstarted stands = refl
    by_life lives.Alive stands = absurd (never_alive stands.keeps.life.last stands.keeps.life.alive)
    by_life lives.Stopped stands = absurd (never_stopped stands.life)

-- so nobody has left
not_left : (scenario : Scenario) (s : Backend) → Stands scenario [] s → has_left s.life ≡ false
not_left scenario s stands = sym (stopped_as scenario [] s stands)

not_there : (s : Backend) → None ≡ Some s → ⊥
not_there s e = cc

same_there : (x y : Backend) → Some x ≡ Some y → x ≡ y
same_there x y e = cc

module _ {of : Ghosts Play Entry Scenario} (table : Table) where
  -- the passes of a new table are those of the backends in order
  pub may_all : (scenario : Scenario) (k : ℕ) (passes : List (Pass Play Entry Scenario of)) (backends : List Backend) → (start_of table).whole ≡ scenario → (start_of table).shared.script ≡ scenario → (start_of table).shared.history ≡ [] → AreSpelled scenario
      → AreNumbered (λ v. v.shared.history) commands_left table k passes → length backends ≡ length passes → ((i : ℕ) (s : Backend) → slice_get backends i ≡ Some s → StandsAt scenario [] (k + i) s) → 1 ≤ k → k + length passes ≤ scenario.backends + 1
      → AllPairs (MaySit table) passes backends
  may_all scenario k [] [] whole script none spelled numbered len stand low high = tt
  may_all scenario k [] (s ∷ backends) whole script none spelled numbered len stand low high = absurd (omega (arith, len))
  may_all scenario k (p ∷ passes) [] whole script none spelled numbered len stand low high = absurd (omega (arith, len))
  may_all scenario k (p ∷ passes) (s ∷ backends) whole script none spelled numbered len stand low high =
      let at = stand 0 s refl in
      let seen : seen_by p ≡ [] = numbered.2 ∙ none in
      let n : k + 0 ≡ k = omega arith in (
        record {
          of_table = numbered.1;
          number = let is = numbered.0 in let same = ap (λ x. x.backends) whole in (omega (arith, is, low), omega (arith, is, same, high));
          id = at.id ∙ n ∙ sym numbered.0;
          stands = subst (λ (h : List Entry). Stands (start_of table).whole h s) (sym seen) (subst (λ x. Stands x [] s) (sym whole) at.stands);
          new = not_joined scenario s at.stands;
          alive = not_left scenario s at.stands;
          run = run_none (start_of table).whole (seen_by p) (subst AreSpelled (sym whole) spelled) seen;
          short = let empty : length (seen_by p) ≡ 0 = ap (λ (h : List Entry). length h) seen in omega (arith, empty);
          all = omega (arith, ap (λ x. length (commands_of x p.number)) whole, ap (λ m. length (commands_of scenario m)) numbered.0, ap (λ x. length (commands_of x k)) script, numbered.3);
        },
        may_all scenario (k + 1) passes backends whole script none spelled numbered.5 (omega (arith, len)) (λ i x is. let m : k + suc i ≡ k + 1 + i = omega arith in subst (λ j. StandsAt scenario [] j x) m (stand (suc i) x is)) (omega (arith, low)) (omega (arith, high)),
      )

  pub numbers_are : (history : Play → List Entry) (room : Play → ℕ → ℕ) (k : ℕ) (passes : List (Pass Play Entry Scenario of)) → AreNumbered history room table k passes → map (λ p. p.number) passes ≡ range_with_len k (length passes)
  numbers_are history room k [] numbered = refl
  numbers_are history room k (p ∷ passes) numbered = ap (λ n. n ∷ map (λ q. q.number) passes) numbered.0 ∙ ap (λ ns. k ∷ ns) (numbers_are history room (k + 1) passes numbered.5)

  -- all passes are of the table
  pub all_of : (passes : List (Pass Play Entry Scenario of)) (backends : List Backend) → AllPairs (HasDone table) passes backends → AllByRecursion (λ p. IsPassOf table p) passes
  all_of [] [] done = tt
  all_of [] (s ∷ backends) done = absurd done
  all_of (p ∷ passes) [] done = absurd done
  all_of (p ∷ passes) (s ∷ backends) done = (done.0.of_table, all_of passes backends done.1)

  pub as_many : (passes : List (Pass Play Entry Scenario of)) (backends : List Backend) → AllPairs (HasDone table) passes backends → length backends ≡ length passes
  as_many [] [] done = refl
  as_many [] (s ∷ backends) done = absurd done
  as_many (p ∷ passes) [] done = absurd done
  as_many (p ∷ passes) (s ∷ backends) done = let rest = as_many passes backends done.1 in omega (arith, rest)

  -- a backend that has left stands in each history that follows what it has seen
  stays : (scenario : Scenario) (history : List Entry) (p : Pass Play Entry Scenario of) (s : Backend) → (start_of table).whole ≡ scenario → HasDone table p s → Follows backend_of p.number (seen_by p) history → Stands scenario history s
  stays scenario history p s script done follows = subst (λ (h : List Entry). Stands scenario h s) (sym follows.grows)
      (Stands-others scenario (seen_by p) follows.rest s (subst (λ n. NoneOf backend_of n follows.rest) (sym done.ended.id) follows.others) (subst (λ x. Stands x (seen_by p) s) script done.ended.stands))

  -- so all do
  pub stand_all : (scenario : Scenario) (history : List Entry) (k : ℕ) (passes : List (Pass Play Entry Scenario of)) (backends : List Backend) → (start_of table).whole ≡ scenario → AllPairs (HasDone table) passes backends → AllByRecursion (λ p. Follows backend_of p.number (seen_by p) history) passes
      → map (λ p. p.number) passes ≡ range_with_len k (length passes) → (i : ℕ) (s : Backend) → slice_get backends i ≡ Some s → StandsAt scenario history (k + i) s
  stand_all scenario history k [] [] script done follows numbers i s at = absurd (not_there s at)
  stand_all scenario history k [] (x ∷ backends) script done follows numbers i s at = absurd done
  stand_all scenario history k (p ∷ passes) [] script done follows numbers i s at = absurd done
  stand_all scenario history k (p ∷ passes) (x ∷ backends) script done follows numbers zero s at =
      let same : x ≡ s = same_there x s at in
      let number : p.number ≡ k = ap (first_of p.number) numbers in
      let n : k ≡ k + 0 = omega arith in
      subst (StandsAt scenario history (k + 0)) same (record { id = done.0.ended.id ∙ number ∙ n; stands = stays scenario history p x script done.0 follows.0 })
    where
      first_of : ℕ → List ℕ → ℕ
      first_of d [] = d
      first_of d (n ∷ ns) = n
  stand_all scenario history k (p ∷ passes) (x ∷ backends) script done follows numbers (suc i) s at =
      let m : k + 1 + i ≡ k + suc i = omega arith in
      subst (λ j. StandsAt scenario history j s) m (stand_all scenario history (k + 1) passes backends script done.1 follows.1 (ap rest_of numbers) i s at)
    where
      rest_of : List ℕ → List ℕ
      rest_of [] = []
      rest_of (n ∷ ns) = ns

  -- and have stopped
  pub stopped_all : (scenario : Scenario) (history : List Entry) (k : ℕ) (passes : List (Pass Play Entry Scenario of)) (backends : List Backend) → (start_of table).whole ≡ scenario → AllPairs (HasDone table) passes backends → AllByRecursion (λ p. Follows backend_of p.number (seen_by p) history) passes
      → map (λ p. p.number) passes ≡ range_with_len k (length passes) → (b : ℕ) → k ≤ b → b < k + length passes → has_stopped history b ≡ true
  stopped_all scenario history k [] [] script done follows numbers b low high = absurd (omega (arith, low, high))
  stopped_all scenario history k [] (x ∷ backends) script done follows numbers b low high = absurd done
  stopped_all scenario history k (p ∷ passes) [] script done follows numbers b low high = absurd done
  stopped_all scenario history k (p ∷ passes) (x ∷ backends) script done follows numbers b low high = by_number (eqb_tells b k) (λ (other : b ≢ k). stopped_all scenario history (k + 1) passes backends script done.1 follows.1 (ap rest_of numbers) b (omega (arith, low, other)) (omega (arith, high)))
    where
      first_of : ℕ → List ℕ → ℕ
      first_of d [] = d
      first_of d (n ∷ ns) = n

      rest_of : List ℕ → List ℕ
      rest_of [] = []
      rest_of (n ∷ ns) = ns

      by_number : (((b == k) ≡ true) × (b ≡ k)) ⊎ (((b == k) ≡ false) × (b ≢ k)) → (b ≢ k → has_stopped history b ≡ true) → has_stopped history b ≡ true
      by_number (inl same) later =
          let number : p.number ≡ k = ap (first_of p.number) numbers in
          let is : x.progress.id ≡ b = done.0.ended.id ∙ number ∙ sym same.1 in
          ap (has_stopped history) (sym is) ∙ stopped_as scenario history x (stays scenario history p x script done.0 follows.0) ∙ ap has_left done.0.ended.life
      by_number (inr apart) later = later apart.1

  -- and the script that was played has all their commands
  pub kept_all : (scenario : Scenario) (play : Play) (k : ℕ) (passes : List (Pass Play Entry Scenario of)) (backends : List Backend) → (start_of table).whole ≡ scenario → AllPairs (HasDone table) passes backends → AllByRecursion (λ p. room_of p ≤ commands_left play p.number) passes
      → map (λ p. p.number) passes ≡ range_with_len k (length passes) → (b : ℕ) → k ≤ b → b < k + length passes → length (commands_of scenario b) ≤ commands_left play b
  kept_all scenario play k [] [] whole done rooms numbers b low high = absurd (omega (arith, low, high))
  kept_all scenario play k [] (x ∷ backends) whole done rooms numbers b low high = absurd done
  kept_all scenario play k (p ∷ passes) [] whole done rooms numbers b low high = absurd done
  kept_all scenario play k (p ∷ passes) (x ∷ backends) whole done rooms numbers b low high = by_number (eqb_tells b k) (λ (other : b ≢ k). kept_all scenario play (k + 1) passes backends whole done.1 rooms.1 (ap rest_of numbers) b (omega (arith, low, other)) (omega (arith, high)))
    where
      first_of : ℕ → List ℕ → ℕ
      first_of d [] = d
      first_of d (n ∷ ns) = n

      rest_of : List ℕ → List ℕ
      rest_of [] = []
      rest_of (n ∷ ns) = ns

      by_number : (((b == k) ≡ true) × (b ≡ k)) ⊎ (((b == k) ≡ false) × (b ≢ k)) → (b ≢ k → length (commands_of scenario b) ≤ commands_left play b) → length (commands_of scenario b) ≤ commands_left play b
      by_number (inl same) later =
          let number : p.number ≡ b = ap (first_of p.number) numbers ∙ sym same.1 in
          subst (λ n. length (commands_of scenario n) ≤ commands_left play n) number (omega (arith, ap (λ s. length (commands_of s p.number)) whole, done.0.all, rooms.0))
      by_number (inr apart) later = later apart.1

-- a number of a row of numbers is one of them
pub has_seat : (a n k : ℕ) → a ≤ k → k < a + n → HasSeat k (range_with_len a n)
has_seat a zero k low high = absurd (omega (arith, low, high))
has_seat a (suc n) k low high = by_number (eqb_tells a k) (λ (other : a ≢ k). has_seat (a + 1) n k (omega (arith, low, other)) (omega (arith, high)))
  where
    by_number : (((a == k) ≡ true) × (a ≡ k)) ⊎ (((a == k) ≡ false) × (a ≢ k)) → (a ≢ k → HasSeat k (range_with_len (a + 1) n)) → HasSeat k (range_with_len a (suc n))
    by_number (inl same) later = inl same.1
    by_number (inr apart) later = inr (later apart.1)

-- each backend has a pass
pub all_seats : (numbers first : List ℕ) (seats n k : ℕ) → numbers ≡ first → first ≡ range_with_len 1 n → seats ≡ n → 0 < k → k ≤ seats → HasSeat k numbers
all_seats numbers first seats n k same row many low high = subst (HasSeat k) (sym (same ∙ row)) (has_seat 1 n k low (omega (arith, many, high)))

-- a run whose backends have all left
pub record HasAllEnded (scenario : Scenario) (history : List Entry) (backends : List Backend) : Type 0 where
  pub run : IsRunSoFar scenario history
  pub stand : StandTogether scenario history backends
  pub stopped : (b : ℕ) → IsBackend scenario.backends b → has_stopped history b ≡ true

-- so it is once all have done their work
pub all_ended : {of : Ghosts Play Entry Scenario} (scenario : Scenario) (table : Table) (first passes : List (Pass Play Entry Scenario of)) (new backends listed : List Backend) (play : Play) (history : List Entry) → IsPrepared scenario table first new → AllPairs (HasDone table) passes backends
    → map (λ p. p.number) passes ≡ map (λ p. p.number) first → play.whole ≡ (start_of table).whole → AllByRecursion (λ p. Follows backend_of p.number (seen_by p) play.shared.history) passes → AllByRecursion (λ p. room_of p ≤ commands_left play p.number) passes → history ≡ play.shared.history → listed ≡ backends
    → IsRunSoFar play.shared.script play.shared.history → IsLeft play.whole play.shared.script → HasAllEnded scenario history listed
all_ended {of} scenario table first passes new backends listed play history prepared done same whole follows rooms is put run left = subst (λ (l : List Backend). HasAllEnded scenario history l) (sym put) (record {
  run = subst (λ (h : List Entry). IsRunSoFar scenario h) (sym is) (subst (λ x. IsRunSoFar x play.shared.history) nothing_lost run);
  stand = record {
    count = as_many table passes backends done ∙ many;
    each = λ i s at. let n : 1 + i ≡ i + 1 = omega arith in subst (λ j. StandsAt scenario history j s) n (stand_all table scenario history 1 passes backends prepared.script done here numbers i s at);
  };
  stopped = λ b number. let m = many in stopped_all table scenario history 1 passes backends prepared.script done here numbers b number.0 (omega (arith, number.1, m));
})
  where
    row_length : (a n : ℕ) → length (range_with_len a n) ≡ n
    row_length a zero = refl
    row_length a (suc n) = let rest = row_length (a + 1) n in omega (arith, rest)

    map_length : (ps : List (Pass Play Entry Scenario of)) → length (map (λ p. p.number) ps) ≡ length ps
    map_length [] = refl
    map_length (p ∷ ps) = let rest = map_length ps in omega (arith, rest)

    many : length passes ≡ scenario.backends
    many = sym (map_length passes) ∙ ap length (same ∙ prepared.numbers) ∙ row_length 1 scenario.backends

    numbers : map (λ p. p.number) passes ≡ range_with_len 1 (length passes)
    numbers = same ∙ prepared.numbers ∙ ap (range_with_len 1) (sym many)

    -- each backend has all its commands, so none was halted
    nothing_lost : play.shared.script ≡ scenario
    nothing_lost = left_whole scenario play.shared.script prepared.is_script (subst (λ x. IsLeft x play.shared.script) (whole ∙ prepared.script) left)
        (λ b number. let m = many in kept_all table scenario play 1 passes backends prepared.script done rooms numbers b number.0 (omega (arith, number.1, m)))

    here : AllByRecursion (λ p. Follows backend_of p.number (seen_by p) history) passes
    here = subst (λ (h : List Entry). AllByRecursion (λ p. Follows backend_of p.number (seen_by p) h) passes) (sym is) follows

-- what is said of it in the end
pub run_is : (scenario : Scenario) (history : List Entry) (backends : List Backend) (lines : List Line) → HasAllEnded scenario history backends → lines ≡ transcripts_of backends → IsRun scenario history lines
run_is scenario history backends lines ended are = record {
  allowed = run_allowed scenario history ended.run;
  sound = ended.run.played.sound;
  spelled = ended.run.played.spelled;
  stopped = ended.stopped;
  lines_are = are ∙ transcripts_are scenario history backends ended.stand;
}

pub run_sessions : (scenario : Scenario) (history : List Entry) (backends : List Backend) (lines : List Line) → HasAllEnded scenario history backends → lines ≡ transcripts_of backends → AreSessions scenario history lines backends
run_sessions scenario history backends lines ended are = subst (λ (l : List Line). AreSessions scenario history l backends) (sym are) (stand_sessions scenario history backends ended.stand)

pub run_stands : (scenario : Scenario) (history : List Entry) (backends : List Backend) → HasAllEnded scenario history backends → All (Stands scenario history) backends
run_stands scenario history backends ended = stand_each scenario history backends ended.stand

pub run_coherent : (scenario : Scenario) (history : List Entry) (backends : List Backend) → HasAllEnded scenario history backends → All (IsCoherent scenario history) backends
run_coherent scenario history backends ended = stand_coherent scenario history backends ended.run.played.sound ended.stand

-- a new table and new backends
pub prepared : {of : Ghosts Play Entry Scenario} (scenario : Scenario) (table : Table) (play : Play) (passes : List (Pass Play Entry Scenario of)) (backends : List Backend) (n : ℕ) → IsScript scenario → n ≡ scenario.backends → 1 ≤ n → seats_of table ≡ n → start_of table ≡ play → play.whole ≡ scenario
    → play.shared.script ≡ scenario → play.shared.history ≡ [] → length passes ≡ n → AreNumbered (λ v. v.shared.history) commands_left table 1 passes → StandTogether scenario [] backends → IsPrepared scenario table passes backends
prepared {of} scenario table play passes backends n is_script all one seats start whole script none count numbered stand = record {
  script = ap (λ (v : Play). v.whole) start ∙ whole;
  is_script = is_script;
  seats = seats ∙ all;
  may = may_all table scenario 1 passes backends (ap (λ (v : Play). v.whole) start ∙ whole) (ap (λ (v : Play). v.shared.script) start ∙ script) (ap (λ (v : Play). v.shared.history) start ∙ none) is_script.spelled numbered (stand.count ∙ sym (count ∙ all))
      (λ i s at. let m : i + 1 ≡ 1 + i = omega arith in subst (λ j. StandsAt scenario [] j s) m (stand.each i s at)) (omega arith) (omega (arith, count, all));
  numbers = numbers_are table (λ v. v.shared.history) commands_left 1 passes numbered ∙ ap (range_with_len 1) (count ∙ all);
  count = count ∙ all;
  some = omega (arith, count, one);
  as_many = stand.count;
}
