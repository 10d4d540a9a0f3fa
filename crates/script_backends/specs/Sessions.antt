-- The backends of a script, beside a history and its lines.
use Rattle.std.specs.Prelude.{◌≡◌, List, map}
use Rattle.std.specs.List.{All, flat_map, range_with_len}
use Rattle.base_types.specs.Scenario.{Scenario}
use Rattle.event_kinds.specs.declared.entry.Entry.{Entry}
use Rattle.event_kinds.specs.declared.entry.Line.{Line}
use Rattle.cacheless.specs.Lines.{lines_of_backend}
use Rattle.backend_core.specs.declared.backend.Backend.{Backend}

-- the transcripts of backends, one after another
abbrev pub transcripts_of : List Backend → List Line
transcripts_of backends = flat_map (λ s. s.lines) backends

-- the backends of the script in order of their numbers: the transcript of each is its part of the lines of the history, and one after another they are the lines
pub record AreSessions (scenario : Scenario) (history : List Entry) (lines : List Line) (backends : List Backend) : Type 0 where
  pub numbers : map (λ s. s.progress.id) backends ≡ range_with_len 1 scenario.backends
  pub parts : All (λ s. s.lines ≡ lines_of_backend scenario history s.progress.id) backends
  pub transcripts : lines ≡ transcripts_of backends
