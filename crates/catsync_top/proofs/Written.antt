-- What `walk` or `run` wrote, made of what its steps ensure.
use Rattle.std.proofs.Common.{◌≡◌, ◌≤◌, ◌∙◌, ℕ, Option, Ok, List, length, sym, ap, subst}
use Rattle.std.specs.List.{All}
use Rattle.event_kinds.specs.declared.entry.Line.{Line}
use Rattle.edge_io.specs.Reads.{ReadsAll}
use Rattle.script_text.specs.Grammar.{Reading, script_of}
use Rattle.script_text.specs.declared.fault.Rest.TheVariants.{Refused}
use Rattle.history_model.specs.Sound.{IsSound}
use Rattle.history_model.proofs.Sound.{sound_is_orderly}
use Rattle.cacheless.specs.declared.check_kind.CheckKind.{CheckKind}
use Rattle.cacheless.specs.Lines.{lines_of}
use Rattle.cacheless.specs.Output.{IsOutput}
use Rattle.backend_core.specs.Agrees.{AreSpelled, Stands}
use Rattle.backend_core.specs.Coherent.{IsCoherent}
use Rattle.backend_core.specs.declared.backend.Backend.{Backend}
use Rattle.script_backends.specs.Sessions.{AreSessions}
use Rattle.out_text.specs.Typed.{IsTyped, IsLine}
use Rattle.out_text.proofs.OneHistory.{spells_only}
use Rattle.cacheless.proofs.PlacesUsable.{places_usable}
use Rattle.cacheless.proofs.Written.WritesChange.{allowed_changes}
use Rattle.catsync_top.proofs.Readable.{all_read}
use Rattle.catsync_top.specs.Sessions.{IsNotedAs, RanCoherently}

-- a script that was read, and an output for it that was written, whose entries and lines are typed
pub has_run : (kind : CheckKind) (left rest taken now : Option (List ℕ)) (Writes : Option (List ℕ) → Option (List ℕ) → List ℕ → Type 0) (items input output : List ℕ) (reading : Reading) (answers : List Line) (sessions backends : List Backend)
    → ReadsAll left rest 1048576 items → length items ≤ 1048576 → input ≡ items → script_of Refused input ≡ Ok reading
    → (is : IsOutput kind reading.script output) → IsNotedAs kind reading.script is.history → IsSound is.history → AreSpelled reading.script → All IsTyped is.history → All IsLine (lines_of reading.script is.history)
    → AreSessions reading.script is.history answers backends → answers ≡ lines_of reading.script is.history
    → All (Stands reading.script is.history) backends → All (IsCoherent reading.script is.history) backends → sessions ≡ backends → Writes taken now output → RanCoherently kind left rest taken now Writes sessions
has_run kind left rest taken now Writes items input output reading answers sessions backends all short same spelled is noted sound commands entries lines have as_defined stand coherent handed written = record {
  ran = record {
    input = items;
    whole = record { read = all.consumed; ended = all.ended short; short = short };
    reading = reading;
    spelled = ap (script_of Refused) (sym same) ∙ spelled;
    output = output;
    is = is;
    orderly = sound_is_orderly is.history sound;
    commands = commands;
    places = places_usable reading.script is.history commands is.allowed;
    entries = all_read is.history entries (allowed_changes reading.script is.history commands is.allowed);
    answers = lines;
    only = spells_only output is.history (lines_of reading.script is.history) is.text_is entries lines;
    are = subst (AreSessions reading.script is.history (lines_of reading.script is.history)) (sym handed) (subst (λ l. AreSessions reading.script is.history l backends) as_defined have);
    written = written;
  };
  noted = noted;
  stand = subst (All (Stands reading.script is.history)) (sym handed) stand;
  coherent = subst (All (IsCoherent reading.script is.history)) (sym handed) coherent;
}
