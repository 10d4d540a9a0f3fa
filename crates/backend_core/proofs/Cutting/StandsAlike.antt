-- Where a backend stands goes by its own commands alone, and by how many backends there are.
use Rattle.std.proofs.Common.{◌≡◌, ◌∙◌, ℕ, List, [], sym, ap, subst, take}
use Rattle.std.specs.Option.{option_map_or}
use Rattle.base_types.specs.Scenario.{IsBackend}
use Rattle.ddl_effect.specs.Commands.{commands_of}
use Rattle.cacheless.specs.Holds.{Holds}
use Rattle.cacheless.specs.Lines.{lines_from}
use Rattle.cacheless.specs.Protected.{protects}
use Rattle.cacheless.specs.Session.{number_of}
use Rattle.cacheless.specs.Sessions.{session_of}
use Rattle.cacheless.specs.Settled.{finished_as}
use Rattle.cacheless.specs.State.{session_at}
use Rattle.lock_modes.specs.Own.{clear_modes}
use Rattle.backend_core.specs.Types.{Scenario, Entry, Life, Progress, Backend}
use Rattle.backend_core.specs.declared.life.Life.TheVariants as lives
use Rattle.backend_core.specs.Agrees.{AwaitsEntry, HasNotJoined, HasLeft, Stands}
use Rattle.backend_core.specs.Cuts.{IsAlike}
use Rattle.backend_core.proofs.Cutting.LinesAlike.{ProtectsAlike, line_alike, lines_alike}
use Rattle.backend_core.proofs.Cutting.Sessions.{sessions_alike}

-- it protects the same fields
pub protects_alike : (one two : Scenario) (b : ℕ) → commands_of two b ≡ commands_of one b → (history : List Entry) → ProtectsAlike one two history b
protects_alike one two b same history rel kind field = ap (λ o. protects (option_map_or (λ s. clear_modes s.locks rel) o []) kind field) (sessions_alike one two b same history)

module _ (one two : Scenario) (seen : List Entry) where
  holds_alike : (s : Progress) → IsAlike s.id one two → Holds one seen s → Holds two seen s
  holds_alike s alike holds = record {
    number = subst (λ m. IsBackend m s.id) (sym alike.backends) holds.number;
    commands = holds.commands ∙ sym alike.commands;
    few = holds.few;
    most = holds.most;
    rest = holds.rest;
    count = holds.count;
    is = sessions_alike one two s.id alike.commands seen ∙ holds.is;
    facts = holds.facts;
    counts = holds.counts;
    order = holds.order;
    sought = holds.sought;
    puts = holds.puts;
    pins = holds.pins;
  }

  awaits_alike : (s : Backend) → IsAlike s.progress.id one two → AwaitsEntry one seen s → AwaitsEntry two seen s
  awaits_alike s alike waits = record {
    keeps = waits.keeps;
    rests = record {
      holds = record {
        number = subst (λ m. IsBackend m s.progress.id) (sym alike.backends) holds.number;
        commands = holds.commands ∙ sym alike.commands;
        few = holds.few;
        most = holds.most;
        rest = holds.rest;
        count = holds.count;
        is = sessions_alike one two s.progress.id alike.commands seen ∙ holds.is;
        facts = holds.facts;
        counts = holds.counts;
        order = holds.order;
        sought = holds.sought;
        puts = holds.puts;
        pins = holds.pins;
      };
      still = waits.rests.still;
    };
    runs = waits.runs;
    fits = waits.fits;
    tells = record {
      answer = λ text command told at. waits.tells.answer text command told at ∙ sym (line_alike one two seen s.progress.id (number_of (session_at s.progress holds.rest)) (finished_as (session_at s.progress holds.rest)) command (λ n. protects_alike one two s.progress.id alike.commands (take n seen)));
      out = waits.tells.out;
    };
    lines = waits.lines ∙ sym (lines_alike one two seen s.progress.id 1 holds.rest.finished s.progress.commands (λ n. protects_alike one two s.progress.id alike.commands (take n seen)));
    answered = waits.answered;
    before = waits.before;
  }
    where
      holds : Holds one seen s.progress
      holds = waits.rests.holds

  not_joined_alike : (s : Backend) → IsAlike s.progress.id one two → HasNotJoined one seen s → HasNotJoined two seen s
  not_joined_alike s alike before = record {
    waits = record {
      number = subst (λ m. IsBackend m s.progress.id) (sym alike.backends) before.waits.number;
      commands = before.waits.commands ∙ sym alike.commands;
      few = before.waits.few;
      new = before.waits.new;
      facts = before.waits.facts;
    };
    new = before.new;
    last = before.last;
    session = sessions_alike one two s.progress.id alike.commands seen ∙ before.session;
    facts = before.facts;
    life = before.life;
    unwritten = before.unwritten;
  }

  left_alike : (s : Backend) → IsAlike s.progress.id one two → HasLeft one seen s → HasLeft two seen s
  left_alike s alike left = record {
    holds = holds_alike s.progress alike left.holds;
    life = left.life;
    lines = left.lines ∙ sym (
        ap (λ o. lines_from two seen s.progress.id 1 (option_map_or (λ x. x.finished) o []) (commands_of two s.progress.id)) (sessions_alike one two s.progress.id alike.commands seen)
        ∙ ap (lines_from two seen s.progress.id 1 (option_map_or (λ x. x.finished) (session_of one seen s.progress.id) [])) alike.commands
        ∙ lines_alike one two seen s.progress.id 1 (option_map_or (λ x. x.finished) (session_of one seen s.progress.id) []) (commands_of one s.progress.id) (λ n. protects_alike one two s.progress.id alike.commands (take n seen)));
    past = left.past;
  }

  -- where a backend stands in a script it stands in each that says the same of it
  pub Stands-alike : (s : Backend) → IsAlike s.progress.id one two → Stands one seen s → Stands two seen s
  Stands-alike s alike stands = by_life s.life stands
    where
      by_life : (l : Life) → elim l as (λ x. Type 0) [ lives.Unstarted ↦ HasNotJoined one seen s | lives.Alive ↦ AwaitsEntry one seen s | lives.Stopped ↦ HasLeft one seen s ]
          → elim l as (λ x. Type 0) [ lives.Unstarted ↦ HasNotJoined two seen s | lives.Alive ↦ AwaitsEntry two seen s | lives.Stopped ↦ HasLeft two seen s ]
      by_life lives.Unstarted before = not_joined_alike s alike before
      by_life lives.Alive waits = awaits_alike s alike waits
      by_life lives.Stopped left = left_alike s alike left
