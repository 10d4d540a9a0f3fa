-- Another backend's entry leaves a session waiting where it is, with its answer and its lines.
use Rattle.std.proofs.Common.{◌≡◌, ◌∙◌, ◌==◌, ◌∷◌, ◌++◌, [], ℕ, false, Option, Some, None, List, sym, ap, drop, refl}
use Rattle.std.specs.Option.{option_map_or}
use Rattle.ddl_effect.specs.Commands.{commands_of}
use Rattle.history_model.proofs.Reading.{last_event_of-other}
use Rattle.cacheless.specs.Answering.{KeepsAbsent}
use Rattle.cacheless.specs.Lines.{lines_from, lines_of_backend}
use Rattle.cacheless.specs.Session.{Session}
use Rattle.cacheless.specs.Sessions.{session_of}
use Rattle.cacheless.specs.Settled.{settled}
use Rattle.cacheless.specs.State.{session_at}
use Rattle.cacheless.proofs.Allowed.StaysOnCourse.{has_written-other}
use Rattle.cacheless.proofs.Answers.JudgedLines.{session_placed, finished_lines-more, line_stays}
use Rattle.cacheless.proofs.Entries.Others.{holds-other, not_started-other}
use Rattle.cacheless.proofs.Reading.{facts_of-other, session_of-other}
use Rattle.cacheless.proofs.Resting.{settled_at_rest}
use Rattle.cacheless.specs.Awaiting.{HasNoEntry, AwaitsEntry}
use Rattle.cacheless.specs.Types.{Scenario, Entry, Line}
use Rattle.cacheless.specs.declared.progress.Progress.{Progress}

-- where a lookup found no relation its scan is kept still
pub absent-other : (seen : List Entry) (e : Entry) (s : Progress) → (e.backend == s.id) ≡ false → KeepsAbsent seen s → KeepsAbsent (seen ++ e ∷ []) s
absent-other seen e s other absent = λ name missed whole. absent name missed (record { untaken = λ from gone. whole.untaken from (last_event_of-other seen e s.id other ∙ gone); going = whole.going })

-- a backend that waits for its next entry still waits for it
unfoldable pub awaits-other : (scenario : Scenario) (seen : List Entry) (e : Entry) (s : Progress) (lines : List Line) → (e.backend == s.id) ≡ false → AwaitsEntry scenario seen s lines → AwaitsEntry scenario (seen ++ e ∷ []) s lines
awaits-other scenario seen e s lines other waits = record {
  rests = record {
    holds = let holds = waits.rests.holds in record (holds-other scenario seen e s other holds) {
      rest = holds.rest;
      count = holds.count;
      is = session_of-other scenario seen e s.id other ∙ holds.is ∙ ap (λ f. Some (settled f (drop s.finished s.commands) waiting)) (sym (facts_of-other seen e s.id other));
      sought = holds.sought;
    };
    still = waits.rests.still;
  };
  absent = absent-other seen e s other waits.absent;
  tells = record {
    answer = λ text command told at. waits.tells.answer text command told at
        ∙ sym (line_stays scenario seen e s.id _ waiting waiting command (session_placed scenario seen s.id waiting waiting_is).judged refl);
    out = waits.tells.out;
  };
  lines_are = waits.lines_are ∙ ap (lines_from scenario seen s.id 1 waiting.finished) waits.rests.holds.commands ∙ sym (finished_lines-more scenario seen e s.id waiting waiting_is)
      ∙ ap (lines_from scenario (seen ++ e ∷ []) s.id 1 waiting.finished) (sym waits.rests.holds.commands);
  answered = waits.answered;
}
  where
    waiting : Session
    waiting = session_at s waits.rests.holds.rest

    waiting_is : session_of scenario seen s.id ≡ Some waiting
    waiting_is = waits.rests.holds.is ∙ ap Some (settled_at_rest scenario seen s waits.rests)

-- a backend without entries still has none
pub no_entry-other : (scenario : Scenario) (seen : List Entry) (e : Entry) (s : Progress) → (e.backend == s.id) ≡ false → HasNoEntry scenario seen s → HasNoEntry scenario (seen ++ e ∷ []) s
no_entry-other scenario seen e s other before = record {
  waits = not_started-other scenario seen e s other before.waits;
  last = last_event_of-other seen e s.id other ∙ before.last;
  session = session_of-other scenario seen e s.id other ∙ before.session;
  facts = facts_of-other seen e s.id other ∙ before.facts;
  unwritten = λ c. has_written-other seen e s.id c other ∙ before.unwritten c;
}

-- the lines of a backend stay, with another's entry
pub lines-other : (scenario : Scenario) (seen : List Entry) (e : Entry) (b : ℕ) → (e.backend == b) ≡ false → lines_of_backend scenario (seen ++ e ∷ []) b ≡ lines_of_backend scenario seen b
lines-other scenario seen e b other = ap (λ o. lines_from scenario (seen ++ e ∷ []) b 1 (option_map_or (λ s. s.finished) o []) (commands_of scenario b)) (session_of-other scenario seen e b other) ∙ by_session (session_of scenario seen b) refl
  where
    by_session : (o : Option Session) → session_of scenario seen b ≡ o → lines_from scenario (seen ++ e ∷ []) b 1 (option_map_or (λ s. s.finished) o []) (commands_of scenario b) ≡ lines_from scenario seen b 1 (option_map_or (λ s. s.finished) o []) (commands_of scenario b)
    by_session None is = refl
    by_session (Some s) is = finished_lines-more scenario seen e b s is
