-- The places that answers name: what was read there serves still where the command is judged.
use Rattle.std.specs.Prelude.{ℕ, true, Option, Some, None, IfSome, List, [], ◌∷◌, ◌≡◌, ◌+◌, take, drop, ⊤}
use Rattle.std.specs.List.{AllByRecursion}
use Rattle.std.specs.Option.{option_map_or}
use Rattle.base_types.specs.Fields.{fields_of, read_by}
use Rattle.base_types.specs.declared.scan.Purpose.TheVariants.{RelName, RelOid}
use Rattle.ddl_effect.specs.Commands.{commands_of}
use Rattle.ddl_effect.specs.Effects.{Effect, Nothing, Unknown}
use Rattle.ddl_effect.specs.declared.told.Told.TheVariants as tells
use Rattle.history_model.specs.Prefixes.{EachFrom}
use Rattle.history_model.specs.Read.{spares_by, is_usable, read_at, place_read}
use Rattle.history_model.specs.Transactions.{has_written}
use Rattle.cacheless.specs.Types.{Oid, Purpose, Command, CommandError, Scenario, Entry, Shown, Told}
use Rattle.cacheless.specs.Lines.{shown_field, effect_judged}
use Rattle.cacheless.specs.Session.{Finished}
use Rattle.cacheless.specs.Sessions.{session_of}

-- an entry, if it is of this backend, is no reset, and no message that it fetches, writes or takes back covers the scan
abbrev pub SparesScan : ℕ → Purpose → List Entry → Entry → Type 0
SparesScan b scan before e = e.backend ≡ b → spares_by before b e.command scan e.event ≡ true

-- the entry of this number is the backend's last such scan, it is usable, and since then the backend has fetched no message that covers it and no reset, and written and taken back nothing that has one
pub record ServesSince (history : List Entry) (b : ℕ) (scan : Purpose) (at : ℕ) : Type 0 where
  pub last : read_at history b scan ≡ Some at
  pub usable : is_usable history b scan ≡ true
  pub since : EachFrom (SparesScan b scan) (take at history) (drop at history)

-- where a field is shown as of a place, what was read there serves since
abbrev pub IsShownRightly : List Entry → ℕ → Oid → Shown → Type 0
IsShownRightly history b rel shown = IfSome shown.at (ServesSince history b (read_by shown.field rel))

-- so do the places of what a command tells
abbrev pub TellsRightly : Scenario → List Entry → ℕ → Told → Type 0
TellsRightly scenario history b (tells.Relation rel kind) = AllByRecursion (λ field. IsShownRightly history b rel (shown_field scenario history b rel kind field)) (fields_of kind)
TellsRightly scenario history b (tells.Field rel kind field) = IsShownRightly history b rel (shown_field scenario history b rel kind field)
TellsRightly scenario history b (tells.Regclass oid) = ServesSince history b (RelOid oid) (place_read history b (RelOid oid))
TellsRightly scenario history b told = ⊤

-- and of what it comes to
abbrev pub ComesRightly : Scenario → List Entry → ℕ → Effect → Type 0
ComesRightly scenario history b (Nothing told) = TellsRightly scenario history b told
ComesRightly scenario history b (Unknown name) = ServesSince history b (RelName name) (place_read history b (RelName name))
ComesRightly scenario history b effect = ⊤

-- and of its answer, judged by these entries: the error that the blocks or an entry showed has none
abbrev pub AnswersRightly : Scenario → List Entry → ℕ → ℕ → Finished → Command → Option CommandError → Type 0
AnswersRightly scenario history b c f command (Some error) = ⊤
AnswersRightly scenario history b c f command None = ComesRightly scenario history b (effect_judged history b f (has_written history b c) command)

-- the places in the line of a command, which is judged by the entries up to the place where it is judged
abbrev pub IsPlacedRightly : Scenario → List Entry → ℕ → ℕ → Finished → Command → Type 0
IsPlacedRightly scenario history b c f command = AnswersRightly scenario (take f.judged history) b c f command f.refused

-- those in the lines of finished commands, the first of which has this number
abbrev pub PlacedFrom : Scenario → List Entry → ℕ → ℕ → List Finished → List Command → Type 0
PlacedFrom scenario history b c [] commands = ⊤
PlacedFrom scenario history b c (f ∷ finished) [] = ⊤
PlacedFrom scenario history b c (f ∷ finished) (command ∷ commands) = IsPlacedRightly scenario history b c f command × PlacedFrom scenario history b (c + 1) finished commands

-- each `as of P` in the lines of all finished commands is the place of its backend's last scan of what is told, which serves since then, where the command is judged
abbrev pub ArePlacesUsable : Scenario → List Entry → Type 0
ArePlacesUsable scenario history = (b : ℕ) → PlacedFrom scenario history b 1 (option_map_or (λ s. s.finished) (session_of scenario history b) []) (commands_of scenario b)
