-- The parts of a line that are one value.
use Rattle.std.proofs.Common.{◌≡◌, ℕ, ℤ, pos, negsuc, zero, suc, ◌^◌, ◌<◌, ◌≤◌, Bool, true, false, not, eqb, ltb, leb, ◌&&◌, ◌||◌, ◌==◌, List, [], ◌∷◌, ◌++◌, length, Option, Some, None, refl, arith, codes, decimal}
use Rattle.std.specs.Prelude.{IfSome, FitsSigned}
use Rattle.std.specs.Int.{w32}
use Rattle.std.specs.Fmt.{signed_decimal}
use Rattle.std.specs.List.{list_all}
use Rattle.std.proofs.lemmas.Bool.Decides.{nat_tests}
use Rattle.std.proofs.lemmas.Fmt.{decimal_nonempty}
use Rattle.std.proofs.lemmas.Option.{some_pair_parts}
use Rattle.base_types.specs.Names.{is_digit, IsAnyName, IsWord, IsText}
use Rattle.base_types.specs.Words.{mode_word, kind_word, type_word, state_word, valid_word, live_word, on_word, fill_text, nums_text, modes, col_types}
use Rattle.event_kinds.specs.Events.{Mode, Kind, ColType, IndexState}
use Rattle.base_types.specs.declared.mode.Mode.TheVariants.{AccessShare, RowShare, RowExclusive, ShareUpdateExclusive, Share, ShareRowExclusive, Exclusive, AccessExclusive}
use Rattle.base_types.specs.declared.kind.Kind.TheVariants.{Table, Index}
use Rattle.base_types.specs.declared.col_type.ColType.TheVariants as types
use Rattle.base_types.specs.declared.index_state.IndexState.TheVariants.{Neither, Valid}
use Rattle.event_kinds.specs.Entries.{IsNumber, AreNums}
use Rattle.event_kinds.specs.Readers.{Reader, lit_at, pair_at, as_at, check_at, none_at, more_at}
use Rattle.event_kinds.specs.Reading.{in_token, number_of, any_name_of, word_of, check_text_of, worded, kinds_listed, states, flags, minus, number_at, digits_at, name_at, word_at, text_at, mode_at, kind_at, type_at, state_at, flag_at, signed_at, fill_at, nums_at}
use Rattle.event_kinds.proofs.Spelling.{both, lit_again, or_first, or_other, stops, Spells, Behind, field_spells, check_spells, behind, as_again, or_behind, more_text, AreUpTo, Repeats, cons_of, first_and_more, more_spells}
use Rattle.event_kinds.proofs.Leaves.{number_values, digits_values, name_values, word_values, text_values, IsReadOfWord, worded_values, digits_pass}

-- no byte of a token follows
abbrev pub TokenEnds : List ℕ → Type 0
TokenEnds rest = stops in_token rest ≡ true

pub number_spells : Spells decimal IsNumber TokenEnds number_at
unfolding number_at
number_spells = field_spells in_token decimal IsNumber number_of number_values

pub digits_spells : Spells decimal IsNumber (λ rest. stops is_digit rest ≡ true) digits_at
unfolding digits_at
digits_spells = field_spells is_digit decimal IsNumber number_of digits_values

pub name_spells : Spells (λ text. text) IsAnyName TokenEnds name_at
unfolding name_at
name_spells = field_spells in_token (λ text. text) IsAnyName any_name_of name_values

pub word_spells : Spells (λ text. text) IsWord TokenEnds word_at
unfolding word_at
word_spells = field_spells in_token (λ text. text) IsWord word_of word_values

pub text_spells : Spells (λ text. text) IsText TokenEnds text_at
unfolding text_at
text_spells = field_spells in_token (λ text. text) IsText check_text_of text_values

-- ---- words of a list

mode_read : (mode : Mode) → IsReadOfWord mode_word modes mode
mode_read AccessShare = (refl, refl)
mode_read RowShare = (refl, refl)
mode_read RowExclusive = (refl, refl)
mode_read ShareUpdateExclusive = (refl, refl)
mode_read Share = (refl, refl)
mode_read ShareRowExclusive = (refl, refl)
mode_read Exclusive = (refl, refl)
mode_read AccessExclusive = (refl, refl)

pub mode_spells : Spells mode_word (λ mode. Unit {0}) TokenEnds mode_at
unfolding mode_at
mode_spells = field_spells in_token mode_word (λ mode. Unit {0}) (worded mode_word modes) (worded_values mode_word modes mode_read)

type_read : (col_type : ColType) → IsReadOfWord type_word col_types col_type
type_read types.Bool = (refl, refl)
type_read types.Int2 = (refl, refl)
type_read types.Int4 = (refl, refl)
type_read types.Int8 = (refl, refl)
type_read types.Text = (refl, refl)
type_read types.Bytea = (refl, refl)
type_read types.Date = (refl, refl)
type_read types.Timestamptz = (refl, refl)

pub type_spells : Spells type_word (λ col_type. Unit {0}) TokenEnds type_at
unfolding type_at
type_spells = field_spells in_token type_word (λ col_type. Unit {0}) (worded type_word col_types) (worded_values type_word col_types type_read)

kind_read : (kind : Kind) → IsReadOfWord kind_word kinds_listed kind
kind_read Table = (refl, refl)
kind_read Index = (refl, refl)

pub kind_spells : Spells kind_word (λ kind. Unit {0}) TokenEnds kind_at
unfolding kind_at
kind_spells = field_spells in_token kind_word (λ kind. Unit {0}) (worded kind_word kinds_listed) (worded_values kind_word kinds_listed kind_read)

state_read : (state : IndexState) → IsReadOfWord state_word states state
state_read Neither = (refl, refl)
state_read Valid = (refl, refl)

pub state_spells : Spells state_word (λ state. Unit {0}) TokenEnds state_at
unfolding state_at
state_spells = field_spells in_token state_word (λ state. Unit {0}) (worded state_word states) (worded_values state_word states state_read)

-- a word for each truth value
abbrev pub Flags : (Bool → List ℕ) → Type 0
Flags word = (flag : Bool) → IsReadOfWord word flags flag

pub flag_spells : (word : Bool → List ℕ) → Flags word → Spells word (λ flag. Unit {0}) TokenEnds (flag_at word)
unfolding flag_at
flag_spells word each = field_spells in_token word (λ flag. Unit {0}) (worded word flags) (worded_values word flags each)

pub valid_flags : Flags valid_word
valid_flags true = (refl, refl)
valid_flags false = (refl, refl)

pub live_flags : Flags live_word
live_flags true = (refl, refl)
live_flags false = (refl, refl)

pub on_flags : Flags on_word
on_flags true = (refl, refl)
on_flags false = (refl, refl)

-- ---- a number, or a text that no number begins with

not_first : (c d : ℕ) → is_digit c ≡ false → is_digit d ≡ true → eqb c d ≡ false
not_first c d h e = grind (arith, nat_tests)

no_lit : (c : ℕ) (cs ds rest : List ℕ) → is_digit c ≡ false → 0 < length ds → list_all is_digit ds ≡ true → lit_at (c ∷ cs) (ds ++ rest) ≡ None
unfolding lit_at
no_lit c cs [] rest h some all = absurd (omega arith)
no_lit c cs (d ∷ ds) rest h some all =
    let first = both (is_digit d) (list_all is_digit ds) all in
    rw (not_first c d h first.0) refl

pub no_lit_number : (c : ℕ) (cs : List ℕ) (n : ℕ) (rest : List ℕ) → is_digit c ≡ false → IsNumber n → lit_at (c ∷ cs) (decimal n ++ rest) ≡ None
no_lit_number c cs n rest h small = no_lit c cs (decimal n) rest h (decimal_nonempty n (omega arith)) (digits_pass n small)

-- ---- numbers that may be below 0

abbrev pub IsBelow : ℕ → Type 0
IsBelow n = IsNumber n × (ltb 0 n && leb n (2 ^ 31) ≡ true)

abbrev pub IsAbove : ℕ → Type 0
IsAbove n = IsNumber n × (ltb n (2 ^ 31) ≡ true)

-- a number below 0 after its sign, and one that isn't below 0
abbrev below_reader : Reader ℤ
below_reader = as_at minus (check_at (λ n. ltb 0 n && leb n (2 ^ 31)) number_at)

abbrev above_reader : Reader ℤ
above_reader = as_at (λ n. pos n) (check_at (λ n. ltb n (2 ^ 31)) number_at)

-- a fillfactor that isn't set, and one that is
abbrev unset_reader : Reader (Option ℕ)
unset_reader = none_at None

abbrev set_reader : Reader (Option ℕ)
set_reader = as_at (λ n. Some n) number_at

below_spells : Spells decimal IsBelow TokenEnds (check_at (λ n. ltb 0 n && leb n (2 ^ 31)) number_at)
below_spells = check_spells decimal IsNumber TokenEnds number_at (λ n. ltb 0 n && leb n (2 ^ 31)) number_spells

above_spells : Spells decimal IsAbove TokenEnds (check_at (λ n. ltb n (2 ^ 31)) number_at)
above_spells = check_spells decimal IsNumber TokenEnds number_at (λ n. ltb n (2 ^ 31)) number_spells

below_spelled : (n : ℕ) → IsBelow n → signed_decimal (minus n) ≡ codes "-" ++ decimal n
below_spelled zero h = absurd (grind (arith, nat_tests, h.1))
below_spelled (suc n) h = refl

below_fits : (n : ℕ) → IsBelow n → FitsSigned w32 (minus n)
below_fits zero h = absurd (grind (arith, nat_tests, h.1))
below_fits (suc n) h = let least = both (ltb 0 (suc n)) (leb (suc n) (2 ^ 31)) h.1 in record { sfits = grind (arith, nat_tests, least.1) }

above_fits : (n : ℕ) → IsAbove n → FitsSigned w32 (pos n)
above_fits n h = record { sfits = grind (arith, nat_tests, h.1) }

signed_behind : Behind [] signed_decimal (FitsSigned w32) signed_at
unfolding signed_at
signed_behind = or_behind signed_decimal (FitsSigned w32) (codes "-") _ _
    (behind decimal IsBelow TokenEnds (check_at (λ n. ltb 0 n && leb n (2 ^ 31)) number_at) (codes "-") minus signed_decimal (FitsSigned w32) below_spells below_spelled below_fits)
    (behind decimal IsAbove TokenEnds (check_at (λ n. ltb n (2 ^ 31)) number_at) [] (λ n. pos n) signed_decimal (FitsSigned w32) above_spells (λ n h. refl) above_fits)

signed_again : (z : ℤ) (rest : List ℕ) → FitsSigned w32 z → TokenEnds rest → signed_at (signed_decimal z ++ rest) ≡ Some (z, rest)
unfolding signed_at
signed_again (pos n) rest fits end =
    let small : n < 2 ^ 31 = fits.sfits in
    let number : IsNumber n = omega arith in
    let test : ltb n (2 ^ 31) ≡ true = grind (arith, nat_tests) in
    or_other (codes "-") (decimal n ++ rest) below_reader above_reader _ (no_lit_number 45 [] n rest refl number)
    (as_again decimal IsAbove TokenEnds (check_at (λ n. ltb n (2 ^ 31)) number_at) (λ n. pos n) n rest above_spells (number, test) end)
signed_again (negsuc n) rest fits end =
    let small : n < 2 ^ 31 = fits.sfits in
    let number : IsNumber (suc n) = omega arith in
    let test : ltb 0 (suc n) && leb (suc n) (2 ^ 31) ≡ true = grind (arith, nat_tests) in
    or_first (codes "-") (codes "-" ++ (decimal (suc n) ++ rest)) (decimal (suc n) ++ rest) below_reader above_reader _ (lit_again (codes "-") (decimal (suc n) ++ rest))
    (as_again decimal IsBelow TokenEnds (check_at (λ n. ltb 0 n && leb n (2 ^ 31)) number_at) minus (suc n) rest below_spells (number, test) end)

pub signed_spells : Spells signed_decimal (FitsSigned w32) TokenEnds signed_at
signed_spells = record { takes = signed_behind.takes; again = signed_again }

-- ---- fillfactors

abbrev pub IsFill : Option ℕ → Type 0
IsFill fill = IfSome fill IsNumber

fill_behind : Behind [] fill_text IsFill fill_at
unfolding fill_at
fill_behind = or_behind fill_text IsFill (codes "-") _ _
    (record { takes = λ bytes x rest e. let parts = some_pair_parts {A = Option ℕ} None x bytes rest e in rw (← parts.0, ← parts.1) (refl, tt) })
    (behind decimal IsNumber TokenEnds number_at [] (λ n. Some n) fill_text IsFill number_spells (λ n h. refl) (λ n h. h))

fill_again : (fill : Option ℕ) (rest : List ℕ) → IsFill fill → TokenEnds rest → fill_at (fill_text fill ++ rest) ≡ Some (fill, rest)
unfolding fill_at
fill_again None rest is end = or_first (codes "-") (codes "-" ++ rest) rest unset_reader set_reader _ (lit_again (codes "-") rest) refl
fill_again (Some n) rest is end = or_other (codes "-") (decimal n ++ rest) unset_reader set_reader _ (no_lit_number 45 [] n rest refl is)
    (as_again decimal IsNumber TokenEnds number_at (λ n. Some n) n rest number_spells is end)

pub fill_spells : Spells fill_text IsFill TokenEnds fill_at
fill_spells = record { takes = fill_behind.takes; again = fill_again }

-- ---- column numbers

abbrev pub NumsEnds : List ℕ → Type 0
NumsEnds rest = stops (λ byte. is_digit byte || (byte == 43)) rest ≡ true

neither : (a b : Bool) → not (a || b) ≡ true → (not a ≡ true) × (b ≡ false)
neither true b h = absurd cc
neither false true h = absurd cc
neither false false h = (refl, refl)

digits_end : (rest : List ℕ) → NumsEnds rest → stops is_digit rest ≡ true
digits_end [] h = refl
digits_end (byte ∷ bytes) h = (neither (is_digit byte) (byte == 43) h).0

no_plus : (rest : List ℕ) → NumsEnds rest → lit_at (codes "+") rest ≡ None
unfolding lit_at
no_plus [] h = refl
no_plus (byte ∷ bytes) h =
    let other = (neither (is_digit byte) (byte == 43) h).1 in
    let flipped : eqb 43 byte ≡ false = grind (arith, nat_tests, other) in
    rw flipped refl

more_end : (nums rest : List ℕ) → NumsEnds rest → stops is_digit (more_text (codes "+") decimal nums ++ rest) ≡ true
more_end [] rest h = digits_end rest h
more_end (num ∷ nums) rest h = refl

abbrev pub DigitsEnd : List ℕ → Type 0
DigitsEnd rest = stops is_digit rest ≡ true

nums_repeat : Repeats (codes "+") decimal IsNumber DigitsEnd NumsEnds digits_at
nums_repeat = record { one = digits_spells; others = more_end; last = no_plus }

nums_pair : Spells (λ (p : ℕ × List ℕ). decimal p.0 ++ more_text (codes "+") decimal p.1) (λ (p : ℕ × List ℕ). IsNumber p.0 × AreUpTo IsNumber 31 p.1) NumsEnds (pair_at digits_at (more_at (codes "+") digits_at 31))
nums_pair = first_and_more (codes "+") decimal IsNumber DigitsEnd NumsEnds digits_at (AreUpTo IsNumber 31) (more_at (codes "+") digits_at 31) nums_repeat
    (more_spells (codes "+") decimal IsNumber DigitsEnd NumsEnds digits_at 31 nums_repeat)

nums_behind : Behind [] nums_text AreNums nums_at
unfolding nums_at
nums_behind = behind (λ (p : ℕ × List ℕ). decimal p.0 ++ more_text (codes "+") decimal p.1) (λ (p : ℕ × List ℕ). IsNumber p.0 × AreUpTo IsNumber 31 p.1) NumsEnds (pair_at digits_at (more_at (codes "+") digits_at 31)) [] cons_of nums_text AreNums
    nums_pair (λ p h. refl) (λ p h. (omega arith, omega (arith, h.1.0), (h.0, h.1.1)))

nums_again : (nums rest : List ℕ) → AreNums nums → NumsEnds rest → nums_at (nums_text nums ++ rest) ≡ Some (nums, rest)
unfolding nums_at
nums_again [] rest are end = absurd (omega (arith, are.0))
nums_again (num ∷ nums) rest are end =
    let fewer : length nums ≤ 31 = omega (arith, are.1) in
    as_again (λ (p : ℕ × List ℕ). decimal p.0 ++ more_text (codes "+") decimal p.1) (λ (p : ℕ × List ℕ). IsNumber p.0 × AreUpTo IsNumber 31 p.1) NumsEnds (pair_at digits_at (more_at (codes "+") digits_at 31)) cons_of (num, nums) rest
    nums_pair (are.2.0, (fewer, are.2.1)) end

pub nums_spells : Spells nums_text AreNums NumsEnds nums_at
nums_spells = record { takes = nums_behind.takes; again = nums_again }
