-- The lines that the sessions hold are those of the history.
use Rattle.std.proofs.Common.{◌≡◌, ◌+◌, ◌∙◌, ℕ, suc, Bool, true, false, Option, Some, None, List, [], ◌∷◌, ◌++◌, refl, sym, ap, subst, length, slice_get, arith}
use Rattle.std.specs.List.{flat_map, range_with_len}
use Rattle.std.specs.Option.{option_map_or}
use Rattle.ddl_effect.specs.Commands.{commands_of}
use Rattle.cacheless.specs.Lines.{lines_from, lines_of_backend, lines_of}
use Rattle.cacheless.specs.Session.{Session as Course}
use Rattle.cacheless.specs.Sessions.{session_of}
use Rattle.cacheless.specs.State.{session_at}
use Rattle.history_lines.specs.Stands.{HasNoEntry, IsGoing, Awaits, Over, IsSessionOf, AreSessions}
use Rattle.history_lines.specs.AllowedNext.{lines_held}
use Rattle.history_lines.specs.Types.{Scenario, Entry, Session}
use Rattle.history_lines.proofs.Coming.{waiting_is}

-- the lines of a backend, by its session
lines_by : (scenario : Scenario) (seen : List Entry) (b : ℕ) (o : Option Course) → session_of scenario seen b ≡ o → lines_of_backend scenario seen b ≡ lines_from scenario seen b 1 (option_map_or (λ now. now.finished) o []) (commands_of scenario b)
lines_by scenario seen b o is = ap (λ now. lines_from scenario seen b 1 (option_map_or (λ now. now.finished) now []) (commands_of scenario b)) is

-- the lines of a session are those of its backend
part_of : (scenario : Scenario) (seen : List Entry) (b : ℕ) (s : Session) → IsSessionOf scenario seen b s → s.lines ≡ lines_of_backend scenario seen b
part_of scenario seen b s stands = by_started s.is_started stands.stands ∙ ap (lines_of_backend scenario seen) stands.id
  where
    going : IsGoing scenario seen s → s.lines ≡ lines_of_backend scenario seen s.progress.id
    going (Awaits waits) =
        waits.lines_are ∙ ap (lines_from scenario seen s.progress.id 1 waits.rests.holds.rest.finished) waits.rests.holds.commands
        ∙ sym (lines_by scenario seen s.progress.id (Some (session_at s.progress waits.rests.holds.rest)) (waiting_is scenario seen s.progress s.lines waits))
    going (Over stopped) = stopped.lines_are

    by_started : (started : Bool) → elim started as (λ t. Type 0) [ true ↦ IsGoing scenario seen s | false ↦ HasNoEntry scenario seen s ] → s.lines ≡ lines_of_backend scenario seen s.progress.id
    by_started true is_going = going is_going
    by_started false none = none.lines_are ∙ sym (lines_by scenario seen s.progress.id None none.none.session)

each_part : (scenario : Scenario) (seen : List Entry) (sessions : List Session) (a : ℕ) → ((i : ℕ) (s : Session) → slice_get sessions i ≡ Some s → IsSessionOf scenario seen (a + i) s)
    → lines_held sessions ≡ flat_map (lines_of_backend scenario seen) (range_with_len a (length sessions))
each_part scenario seen [] a each = refl
each_part scenario seen (x ∷ sessions) a each =
    let id : a + 0 ≡ a = omega arith in
    let first : x.lines ≡ lines_of_backend scenario seen a = part_of scenario seen (a + 0) x (each 0 x refl) ∙ ap (lines_of_backend scenario seen) id in
    ap (λ ls. ls ++ lines_held sessions) first
    ∙ ap (λ ls. lines_of_backend scenario seen a ++ ls) (each_part scenario seen sessions (a + 1) (λ i s is. let n : a + suc i ≡ a + 1 + i = omega arith in subst (λ b. IsSessionOf scenario seen b s) n (each (suc i) s is)))
    ∙ range_step a (length sessions)
  where
    range_step : (a n : ℕ) → lines_of_backend scenario seen a ++ flat_map (lines_of_backend scenario seen) (range_with_len (a + 1) n) ≡ flat_map (lines_of_backend scenario seen) (range_with_len a (suc n))
    range_step a n = refl

-- the lines of all sessions are all lines
pub lines_are : (scenario : Scenario) (seen : List Entry) (sessions : List Session) → AreSessions scenario seen sessions → lines_held sessions ≡ lines_of scenario seen
lines_are scenario seen sessions are =
    each_part scenario seen sessions 1 (λ i s is. let n : i + 1 ≡ 1 + i = omega arith in subst (λ b. IsSessionOf scenario seen b s) n (are.each i s is))
    ∙ ap (λ n. flat_map (lines_of_backend scenario seen) (range_with_len 1 n)) are.count
