-- What the program does with the bytes that it reads.
use Rattle.std.specs.Prelude.{◌≡◌, ◌≤◌, ◌<◌, ◌+◌, ◌⊎◌, ⊤, ℕ, IsSomeAnd, Option, Ok, Err, List, [], ◌∷◌, ◌++◌, codes, decimal, drop, length}
use Rattle.std.specs.Io.KnownBytes.{Consumes, IsAtEnd}
use Rattle.edge_io.specs.Causes.{Rose}
use Rattle.edge_io.specs.declared.reading.TheConstants.{PIECE}
use Rattle.std.specs.List.{All, AllByRecursion}
use Rattle.base_types.specs.Commands.{IsCommand}
use Rattle.base_types.specs.Scenario.{Scenario}
use Rattle.event_kinds.specs.Entries.{IsEntry}
use Rattle.history_model.specs.Orderly.{AreOrderly}
use Rattle.out_text.specs.Typed.{IsLine, SpellsOnly}
use Rattle.script_backends.specs.Sessions.{AreSessions}
use Rattle.thread_run.specs.Stops.{OneRose}
use Rattle.script_text.specs.Grammar.{Reading, script_of}
use Rattle.script_text.specs.declared.fault.Rest.{Rest}
use Rattle.script_text.specs.declared.fault.Rest.TheVariants.{Refused, Given}
use Rattle.script_text.specs.declared.fault.ScriptCause.{ScriptCause}
use Rattle.cacheless.specs.Lines.{lines_of}
use Rattle.cacheless.specs.Output.{IsOutput}
use Rattle.cacheless.specs.Places.{ArePlacesUsable}
use Rattle.backend_core.specs.declared.backend.Backend.{Backend}
use Rattle.check_tool.specs.Verdicts.{IsOutputOf, DiffersAt}
use Rattle.script_text.specs.ReadBack.{IsReadBack}
use Rattle.make_script.specs.declared.making.TheConstants.{MOST_NUMBER}
use Rattle.make_script.specs.Texts.{made_text}
use Rattle.catsync_top.specs.declared.top.TheConstants.{MOST_INPUT, MOST_CHECKED}
use Rattle.cacheless.specs.declared.check_kind.CheckKind.{CheckKind}
use Rattle.cacheless.specs.declared.check_kind.CheckKind.TheVariants as kinds
use Rattle.catsync_top.specs.declared.arguments.Word.{Word}
use Rattle.catsync_top.specs.declared.arguments.Word.TheVariants as words
use Rattle.catsync_top.specs.declared.status.Status.{Status}
use Rattle.catsync_top.specs.declared.status.Status.TheVariants as statuses

-- the argument that names what is written or checked
abbrev pub argument_of : CheckKind → List ℕ
argument_of kinds.Walk = codes "walk"
argument_of kinds.Run = codes "run"

-- the arguments that ask for a word
abbrev pub arguments_of : Word → List (List ℕ)
arguments_of (words.Output kind) = argument_of kind ∷ []
arguments_of (words.Check kind) = codes "check" ∷ argument_of kind ∷ []

-- these arguments ask for the word
abbrev pub Ask : List (List ℕ) → Word → Type 0
Ask arguments word = arguments ≡ arguments_of word

-- a text names neither `walk` nor `run`
abbrev pub IsNoKind : List ℕ → Type 0
IsNoKind text = (kind : CheckKind) → text ≡ argument_of kind → ⊥

-- a text is the number of a script that can be made, in decimal
pub record IsNumber (text : List ℕ) (number : ℕ) : Type 0 where
  pub is : text ≡ decimal number
  pub least : 1 ≤ number
  pub most : number ≤ MOST_NUMBER

-- it is none
abbrev pub IsNoNumber : List ℕ → Type 0
IsNoNumber text = (number : ℕ) → IsNumber text number → ⊥

-- the arguments ask for the script of this number
pub record AskToMake (arguments : List (List ℕ)) (number : ℕ) : Type 0 where
  pub text : List ℕ
  pub are : arguments ≡ codes "make" ∷ text ∷ []
  pub spelled : IsNumber text number

-- they ask for no word
abbrev pub AskNoWord : List (List ℕ) → Type 0
AskNoWord arguments = (word : Word) → Ask arguments word → ⊥

-- they ask for no script
abbrev pub AskNoScript : List (List ℕ) → Type 0
AskNoScript arguments = (number : ℕ) → AskToMake arguments number → ⊥

-- they ask for nothing that the program does
pub record AskNothing (arguments : List (List ℕ)) : Type 0 where
  pub no_word : AskNoWord arguments
  pub no_script : AskNoScript arguments

-- they ask for a word
pub record AskWord (arguments : List (List ℕ)) : Type 0 where
  pub word : Word
  pub ask : Ask arguments word

-- they ask for a script
pub record AskScript (arguments : List (List ℕ)) : Type 0 where
  pub number : ℕ
  pub ask : AskToMake arguments number

-- they ask for something
abbrev pub AskSomething : List (List ℕ) → Type 0
AskSomething arguments = AskWord arguments ⊎ AskScript arguments

-- the most bytes that are read
abbrev pub most_of : Word → ℕ
most_of (words.Output kind) = MOST_INPUT
most_of (words.Check kind) = MOST_CHECKED

-- whether something may follow the script: the output that is checked
abbrev pub rest_of : Word → Rest
rest_of (words.Output kind) = Refused
rest_of (words.Check kind) = Given

-- the exit status of each status
abbrev pub exit_code_of : Status → ℕ
exit_code_of statuses.Done = 0
exit_code_of statuses.Usage = 1
exit_code_of (statuses.BadScript line cause) = 2
exit_code_of statuses.TooLong = 3
exit_code_of statuses.ReadFault = 4
exit_code_of statuses.WriteFault = 5
exit_code_of statuses.NoMemory = 6
exit_code_of (statuses.Differs entry) = 7
exit_code_of statuses.Stopped = 8

-- the input was read to its end, and is no longer than that of the word may be
pub record IsInput (word : Word) (left rest : Option (List ℕ)) (input : List ℕ) : Type 0 where
  pub read : Consumes left rest input
  pub ended : IsAtEnd rest
  pub short : length input ≤ most_of word

-- the input was read to its end and is a script; for a check, a script and what follows it
pub record HasRead (word : Word) (left rest : Option (List ℕ)) : Type 0 where
  pub input : List ℕ
  pub whole : IsInput word left rest input
  pub reading : Reading
  pub spelled : script_of (rest_of word) input ≡ Ok reading

-- the input is a script; an output of `walk` or `run` for that script was written, or a prefix of one; its history keeps order, and the script's commands have forms that lines may have, so that each law of such histories is one of it; each `as of P` in its answers is the place of its backend's last scan of what is told, since which the backend fetched no message about it; its entries and lines are such as a reader of texts takes, and that output spells them alone; and the sessions are the backends that were run, with their parts of the answers
pub record Ran (kind : CheckKind) (left rest : Option (List ℕ)) (taken now : Option (List ℕ)) (Writes : Option (List ℕ) → Option (List ℕ) → List ℕ → Type 0) (sessions : List Backend) : Type 0 where
  pub input : List ℕ
  pub whole : IsInput (words.Output kind) left rest input
  pub reading : Reading
  pub spelled : script_of Refused input ≡ Ok reading
  pub output : List ℕ
  pub is : IsOutput kind reading.script output
  pub orderly : AreOrderly is.history
  pub commands : AllByRecursion (λ p. IsCommand p.command) reading.script.commands
  pub places : ArePlacesUsable reading.script is.history
  pub entries : All IsEntry is.history
  pub answers : All IsLine (lines_of reading.script is.history)
  pub only : SpellsOnly output is.history (lines_of reading.script is.history)
  pub are : AreSessions reading.script is.history (lines_of reading.script is.history) sessions
  pub written : Writes taken now output

-- the line by which a check says that it found an output of so many entries
abbrev pub checked_text : ℕ → List ℕ
checked_text entries = codes "checked " ++ decimal entries ++ codes " entries\n"

-- what follows the script is an output of `walk` or `run` of it, whose history keeps order, and spells that history and its answer lines alone (`IsOutputOf` has the rest of what `Ran` says of a history); and the number of its entries was written, or a prefix of that line
pub record HasFound (kind : CheckKind) (left rest : Option (List ℕ)) (taken now : Option (List ℕ)) (Writes : Option (List ℕ) → Option (List ℕ) → List ℕ → Type 0) : Type 0 where
  pub is : HasRead (words.Check kind) left rest
  pub count : ℕ
  pub output : IsOutputOf kind is.reading.script (drop is.reading.rest_at is.input) count
  pub only : SpellsOnly (drop is.reading.rest_at is.input) output.is.is.history (lines_of is.reading.script output.is.is.history)
  pub written : Writes taken now (checked_text count)

-- what follows the script is no output of `walk` or `run` of it, and that may make the entries before this one and not one more
pub record HasDiffered (kind : CheckKind) (left rest : Option (List ℕ)) (entry : ℕ) : Type 0 where
  pub is : HasRead (words.Check kind) left rest
  pub differs : DiffersAt kind is.reading.script (drop is.reading.rest_at is.input) entry

-- a check was asked for, and came to that entry
pub record HasDifferedAsAsked (arguments : List (List ℕ)) (left rest : Option (List ℕ)) (entry : ℕ) : Type 0 where
  pub kind : CheckKind
  pub ask : Ask arguments (words.Check kind)
  pub differs : HasDiffered kind left rest entry

-- the script was written, or a prefix of it, under a comment that counts what is in an output of it: the entries of the history, those that publish, those that are resets, and the answers that are errors; that history keeps order; and the whole text is read as the script
pub record HasMade (script : Scenario) (taken now : Option (List ℕ)) (Writes : Option (List ℕ) → Option (List ℕ) → List ℕ → Type 0) : Type 0 where
  pub output : List ℕ
  pub is : IsOutput kinds.Walk script output
  pub orderly : AreOrderly is.history
  pub back : IsReadBack script (made_text script is.history (lines_of script is.history))
  pub written : Writes taken now (made_text script is.history (lines_of script is.history))

-- that line of the input is the first that breaks a rule, and that rule is the first that it breaks
pub record IsBad (word : Word) (left rest : Option (List ℕ)) (line : ℕ) (cause : ScriptCause) : Type 0 where
  pub input : List ℕ
  pub whole : IsInput word left rest input
  pub breaks : script_of (rest_of word) input ≡ Err (line, cause)

-- more bytes were read than the word's input may have, and at most one piece too many
pub record IsTooLong (word : Word) (left rest : Option (List ℕ)) : Type 0 where
  pub input : List ℕ
  pub read : Consumes left rest input
  pub long : most_of word < length input
  pub bounded : length input ≤ most_of word + PIECE

-- the bytes are, or begin with, a script, and are no more than the word's input may have
pub record CanBeTaken (word : Word) (input : List ℕ) : Type 0 where
  pub short : length input ≤ most_of word
  pub reading : Reading
  pub spelled : script_of (rest_of word) input ≡ Ok reading

-- the source tells that it has such bytes
abbrev pub HasScript : Word → Option (List ℕ) → Type 0
HasScript word left = IsSomeAnd left (CanBeTaken word)

-- a count of faults didn't rise
abbrev pub HadNoFault : ℕ → ℕ → Type 0
HadNoFault before now = Rose before now → ⊥

-- no gate stopped a backend; `run` alone asks gates
abbrev pub HadNoStop : Word → List ℕ → List ℕ → Type 0
HadNoStop (words.Output kinds.Run) before now = OneRose before now → ⊥
HadNoStop word before now = ⊤

-- the call did its work, or was refused memory; a check may have found something else than an output
abbrev pub HasEnded : Word → Status → Type 0
HasEnded word statuses.Done = ⊤
HasEnded word statuses.NoMemory = ⊤
HasEnded (words.Check kind) (statuses.Differs entry) = ⊤
HasEnded word status = ⊥

-- the input was refused, before anything was run
abbrev pub IsRefusalOfInput : Status → Type 0
IsRefusalOfInput statuses.ReadFault = ⊤
IsRefusalOfInput statuses.TooLong = ⊤
IsRefusalOfInput (statuses.BadScript line cause) = ⊤
IsRefusalOfInput status = ⊥

-- how the making of a script may end
abbrev pub IsEndOfMaking : Status → Type 0
IsEndOfMaking statuses.Done = ⊤
IsEndOfMaking statuses.WriteFault = ⊤
IsEndOfMaking statuses.NoMemory = ⊤
IsEndOfMaking status = ⊥

-- what holds of the line and the rule that a refusal of a script names
abbrev pub IfBadScript : Status → (ℕ → ScriptCause → Type 0) → Type 0
IfBadScript (statuses.BadScript line cause) holds = holds line cause
IfBadScript status holds = ⊤

-- what holds of the entry that differs
abbrev pub IfDiffers : Status → (ℕ → Type 0) → Type 0
IfDiffers (statuses.Differs entry) holds = holds entry
IfDiffers status holds = ⊤
