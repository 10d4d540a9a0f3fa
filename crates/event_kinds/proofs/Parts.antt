-- The single values of a line as parts, and parts with a comma, a parenthesis or a blank after them.
use Rattle.std.proofs.Common.{◌≡◌, ℕ, ℤ, Bool, List, ◌++◌, Option, sym, ap, codes, decimal}
use Rattle.std.specs.Prelude.{FitsSigned}
use Rattle.std.specs.Int.{w32}
use Rattle.std.specs.Fmt.{signed_decimal}
use Rattle.base_types.specs.Names.{IsAnyName, IsWord, IsText}
use Rattle.base_types.specs.Words.{mode_word, kind_word, type_word, state_word, fill_text, nums_text}
use Rattle.event_kinds.specs.Events.{Mode, Kind, ColType, IndexState}
use Rattle.event_kinds.specs.Entries.{IsNumber, AreNums}
use Rattle.event_kinds.specs.Readers.{none_at}
use Rattle.event_kinds.specs.Reading.{number_at, name_at, word_at, text_at, mode_at, kind_at, type_at, state_at, flag_at, signed_at, fill_at, nums_at}
use Rattle.event_kinds.proofs.Spelling.{Behind, Part, then_part, pair_part}
use Rattle.std.proofs.lemmas.Option.{some_pair_parts}
use Rattle.event_kinds.proofs.Fields.{TokenEnds, NumsEnds, IsFill, Flags, number_spells, name_spells, word_spells, text_spells, mode_spells, kind_spells, type_spells, state_spells, flag_spells, signed_spells, fill_spells, nums_spells}

abbrev pub number_part : Part (ℕ)
number_part = record { text = decimal; Is = IsNumber; Ends = TokenEnds; read = number_at; spells = number_spells }

abbrev pub name_part : Part (List ℕ)
name_part = record { text = λ (t : List ℕ). t; Is = IsAnyName; Ends = TokenEnds; read = name_at; spells = name_spells }

abbrev pub word_part : Part (List ℕ)
word_part = record { text = λ (t : List ℕ). t; Is = IsWord; Ends = TokenEnds; read = word_at; spells = word_spells }

abbrev pub text_part : Part (List ℕ)
text_part = record { text = λ (t : List ℕ). t; Is = IsText; Ends = TokenEnds; read = text_at; spells = text_spells }

abbrev pub mode_part : Part (Mode)
mode_part = record { text = mode_word; Is = λ mode. Unit {0}; Ends = TokenEnds; read = mode_at; spells = mode_spells }

abbrev pub kind_part : Part (Kind)
kind_part = record { text = kind_word; Is = λ kind. Unit {0}; Ends = TokenEnds; read = kind_at; spells = kind_spells }

abbrev pub type_part : Part (ColType)
type_part = record { text = type_word; Is = λ col_type. Unit {0}; Ends = TokenEnds; read = type_at; spells = type_spells }

abbrev pub state_part : Part (IndexState)
state_part = record { text = state_word; Is = λ state. Unit {0}; Ends = TokenEnds; read = state_at; spells = state_spells }

abbrev pub signed_part : Part (ℤ)
signed_part = record { text = signed_decimal; Is = FitsSigned w32; Ends = TokenEnds; read = signed_at; spells = signed_spells }

abbrev pub fill_part : Part (Option ℕ)
fill_part = record { text = fill_text; Is = IsFill; Ends = TokenEnds; read = fill_at; spells = fill_spells }

abbrev pub nums_part : Part (List ℕ)
nums_part = record { text = nums_text; Is = AreNums; Ends = NumsEnds; read = nums_at; spells = nums_spells }

abbrev pub flag_part : (word : Bool → List ℕ) → Flags word → Part Bool
flag_part word flags = record { text = word; Is = λ flag. Unit {0}; Ends = TokenEnds; read = flag_at word; spells = flag_spells word flags }

-- a part, a comma, and a part
abbrev pub comma_part : {X Y : Type 0} (p : Part X) → ((rest : List ℕ) → p.Ends (codes "," ++ rest)) → Part Y → Part (X × Y)
comma_part p ends q = pair_part (then_part p (codes ",") ends) q (λ y rest is end. tt)

-- a part and a parenthesis
abbrev pub closed_part : {X : Type 0} (p : Part X) → ((rest : List ℕ) → p.Ends (codes ")" ++ rest)) → Part X
closed_part p ends = then_part p (codes ")") ends

-- a part, a blank, and a part
abbrev pub blank_part : {X Y : Type 0} (p : Part X) → ((rest : List ℕ) → p.Ends (codes " " ++ rest)) → Part Y → Part (X × Y)
blank_part p ends q = pair_part (then_part p (codes " ") ends) q (λ y rest is end. tt)

-- a value that has no bytes of its own
pub behind_value : {X : Type 0} (x : X) (lit : List ℕ) (text : X → List ℕ) (Is : X → Type 0) → text x ≡ lit → Is x → Behind lit text Is (none_at x)
behind_value x lit text Is spelled is = record {
  takes = λ bytes y rest e. let parts = some_pair_parts x y bytes rest e in rw (← parts.0, ← parts.1) (ap (λ l. l ++ bytes) (sym spelled), is);
}
