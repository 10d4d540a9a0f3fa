-- The script of a text, or the first line that breaks a rule and the rule that it breaks.
use Rattle.std.specs.Prelude.{ℕ, Bool, true, false, not, Option, Some, None, Result, Ok, Err, List, [], ◌∷◌, ◌++◌, ◌+◌, ◌==◌, ◌||◌, nat_lt, nat_le, length, map, sum_by, codes, if◌then◌else◌}
use Rattle.std.specs.List.{list_any}
use Rattle.base_types.specs.declared.command.Command.{Command}
use Rattle.base_types.specs.declared.command.Turns.{Turns}
use Rattle.base_types.specs.Scenario.{Scenario, step_count}
use Rattle.script_text.specs.declared.fault.ScriptCause.{ScriptCause}
use Rattle.script_text.specs.declared.fault.ScriptCause.TheVariants.{BadByte, BadRing, NoBackends, BadCount, NoEnd, BadSteps, TooManySteps, UnknownBackend, LateCommand, BadCommand, TooManyCommands, AfterEnd}
use Rattle.script_text.specs.declared.fault.Rest.{Rest}
use Rattle.script_text.specs.declared.fault.Rest.TheVariants.{Refused, Given}
use Rattle.script_text.specs.declared.limits.TheConstants.{MOST_COMMANDS, MOST_STEPS, QUEUE_SIZE}
use Rattle.script_text.specs.TextLines.{text_lines, bare, counts, is_bad_byte, small}
use Rattle.script_text.specs.Tokens.{tokens, said}
use Rattle.script_text.specs.LineForms.{begins, none_left, ring_of, backends_of, steps_of, addressed}
use Rattle.script_text.specs.Commands.{command_of}

infixl 10 ◌>>=◌
-- a value, and what is made of it; or the rule that is broken
abbrev pub ◌>>=◌ : {A B C : Type 0} → Result A C → (A → Result B C) → Result B C
(Ok x) >>= f = f x
(Err e) >>= f = Err e

-- a value, or the rule that is broken where there is none
abbrev pub or_cause : {X : Type 0} → Option X → ScriptCause → Result X ScriptCause
or_cause None cause = Err cause
or_cause (Some x) cause = Ok x

-- what the lines so far say, with no backends before their line, and which lines came
pub record Draft : Type 0 where
  pub asked : Scenario
  pub has_ring : Bool
  pub has_end : Bool

-- what holds before the first line
abbrev pub empty_draft : Draft
empty_draft = record { asked = record { size = QUEUE_SIZE; from = 0; backends = 0; commands = []; steps = [] }; has_ring = false; has_end = false }

-- the queue of a `ring` line
abbrev pub with_ring : Draft → ℕ × ℕ → Draft
with_ring draft ring = record draft { asked = record draft.asked { size = ring.0; from = ring.1 }; has_ring = true }

-- the number of backends
abbrev pub with_backends : Draft → ℕ → Draft
with_backends draft backends = record draft { asked = record draft.asked { backends = backends } }

-- one more line of steps
abbrev pub with_steps : Draft → List Turns → Draft
with_steps draft turns = record draft { asked = record draft.asked { steps = draft.asked.steps ++ turns ∷ [] } }

-- one more command
abbrev pub with_command : Draft → ℕ → Command → Draft
with_command draft backend command = record draft { asked = record draft.asked { commands = draft.asked.commands ++ record { backend = backend; command = command } ∷ [] } }

-- the `end` line
abbrev pub with_end : Draft → Draft
with_end draft = record draft { has_end = true }

-- a line that begins with `ring`, which comes before all others
unfoldable pub ring_line : Draft → List (List ℕ) → Result Draft ScriptCause
ring_line draft ts = if draft.has_ring || nat_lt 0 draft.asked.backends then Err BadRing else do
  ring ← or_cause (ring_of ts) BadRing
  Ok (with_ring draft ring)

-- the line that says how many backends there are
unfoldable pub backends_line : Draft → List (List ℕ) → Result Draft ScriptCause
backends_line draft ts = if not (begins (codes "backends") ts) then Err NoBackends else do
  backends ← or_cause (backends_of ts) BadCount
  Ok (with_backends draft backends)

-- a line that begins with `steps`
unfoldable pub steps_line : Draft → List (List ℕ) → Result Draft ScriptCause
steps_line draft ts = do
  turns ← or_cause (steps_of draft.asked.backends ts) BadSteps
  if nat_lt MOST_STEPS (sum_by step_count draft.asked.steps + step_count turns) then Err TooManySteps else Ok (with_steps draft turns)

-- a line of steps came already
abbrev pub has_steps : List (List Turns) → Bool
has_steps [] = false
has_steps (turns ∷ lines) = true

-- any other line
unfoldable pub command_line : Draft → List (List ℕ) → Result Draft ScriptCause
command_line draft ts = do
  command ← or_cause (addressed draft.asked.backends ts) UnknownBackend
  if has_steps draft.asked.steps then Err LateCommand else do
    read ← or_cause (command_of command.1) BadCommand
    if nat_le MOST_COMMANDS (length draft.asked.commands) then Err TooManyCommands else Ok (with_command draft command.0 read)

-- the line is `end` alone
abbrev pub is_end_line : Option (List (List ℕ)) → Bool
is_end_line None = false
is_end_line (Some ts) = none_left ts

-- a line after that of the backends
unfoldable pub body_line : Draft → List (List ℕ) → Result Draft ScriptCause
body_line draft ts = if is_end_line (said (codes "end") ts) then Ok (with_end draft) else if begins (codes "steps") ts then steps_line draft ts else command_line draft ts

-- that nothing follows the `end` line is the last of a line's rules
abbrev pub before_end : Draft → Result Draft ScriptCause → Result Draft ScriptCause
before_end draft (Err cause) = Err cause
before_end draft (Ok next) = if draft.has_end then Err AfterEnd else Ok next

-- a line of these tokens
unfoldable pub tokens_line : Draft → List (List ℕ) → Result Draft ScriptCause
tokens_line draft ts = if begins (codes "ring") ts then ring_line draft ts else if draft.asked.backends == 0 then backends_line draft ts else before_end draft (body_line draft ts)

-- a line that counts, in large or small letters
unfoldable pub line_after : Draft → List ℕ → Result Draft ScriptCause
line_after draft line = if list_any is_bad_byte line then Err BadByte else tokens_line draft (tokens (map small line))

-- any line
unfoldable pub any_line : Draft → List ℕ → Result Draft ScriptCause
any_line draft line = if counts (bare line) then line_after draft (bare line) else Ok draft

-- what was read: the script, and the place right after the `end` line's line feed
pub record Reading : Type 0 where
  pub script : Scenario
  pub rest_at : ℕ

-- the end of the input
abbrev pub at_end : Draft → ℕ → ℕ → Result Reading (ℕ × ScriptCause)
at_end draft number place = if draft.asked.backends == 0 then Err (number, NoBackends) else if draft.has_end then Ok (record { script = draft.asked; rest_at = place }) else Err (number, NoEnd)

-- reading stops after the `end` line, where a rest is given
abbrev pub stops : Rest → Draft → Bool
stops Given draft = draft.has_end
stops Refused draft = false

-- the place right after a line, and after the `end` line that came before it if one did
abbrev pub place_after : Draft → ℕ → List ℕ → ℕ
place_after draft place line = if draft.has_end then place else place + length line

-- what comes of a line: its fault, the end of reading, or what the lines after it give
abbrev pub line_taken : Rest → ℕ → ℕ → Result Draft ScriptCause → (Draft → Result Reading (ℕ × ScriptCause)) → Result Reading (ℕ × ScriptCause)
line_taken rest number place (Err cause) others = Err (number, cause)
line_taken rest number place (Ok next) others = if stops rest next then at_end next number place else others next

-- the lines from the one with this number on, where the lines before it, up to the `end` line, end at this place
unfoldable pub lines_from : Rest → Draft → ℕ → ℕ → List (List ℕ) → Result Reading (ℕ × ScriptCause)
lines_from rest draft number place [] = at_end draft number place
lines_from rest draft number place (line ∷ lines) = line_taken rest number (place_after draft place line) (any_line draft line) (λ next. lines_from rest next (number + 1) (place_after draft place line) lines)

-- the script of a text
unfoldable pub script_of : Rest → List ℕ → Result Reading (ℕ × ScriptCause)
script_of rest text = lines_from rest empty_draft 1 0 (text_lines text)
