-- The forms of the lines that aren't commands, over their tokens.
use Rattle.std.specs.Prelude.{◌≡◌, ℕ, Bool, true, false, Option, Some, None, List, [], ◌∷◌, ◌*◌, ◌==◌, ◌||◌, nat_lt, option_map, codes, if◌then◌else◌}
use Rattle.std.specs.Str.{bytes_eq}
use Rattle.base_types.specs.declared.command.Turns.{Turns}
use Rattle.script_text.specs.declared.limits.TheConstants.{MOST_BACKENDS, MOST_STEPS, QUEUE_ROUNDS}
use Rattle.script_text.specs.Tokens.{◌>>=◌, said, taken, after}
use Rattle.script_text.specs.Operands.{number_of, number_within}

-- the first token is this word
abbrev pub begins : List ℕ → List (List ℕ) → Bool
begins word [] = false
begins word (t ∷ ts) = bytes_eq t word

-- no tokens are left
abbrev pub none_left : List (List ℕ) → Bool
none_left [] = true
none_left (t ∷ ts) = false

-- the value, where no tokens are left
abbrev pub if_none_left : {X : Type 0} → List (List ℕ) → X → Option X
if_none_left ts x = if none_left ts then Some x else None

-- the queue may have that size
abbrev pub is_size : ℕ → Bool
is_size n = (n == 64) || (n == 128) || (n == 256) || (n == 512) || (n == 1024) || (n == 2048) || (n == 4096)

-- the number, if the queue may have that size
abbrev pub if_size : Option ℕ → Option ℕ
if_size None = None
if_size (Some n) = if is_size n then Some n else None

-- a size of the queue
unfoldable pub size_of : List ℕ → Option ℕ
size_of text = if_size (number_of 9 text)

-- the number, if it is below a bound
abbrev pub if_below : ℕ → Option ℕ → Option ℕ
if_below bound None = None
if_below bound (Some n) = if nat_lt n bound then Some n else None

-- the number of the first message, of ten digits at most and 262,144 times as many as the queue holds
unfoldable pub first_of : ℕ → List ℕ → Option ℕ
first_of size text = if_below (size * QUEUE_ROUNDS) (number_of 10 text)

-- nothing for 0, or `from` and the number of the first message
unfoldable pub from_part : ℕ → List (List ℕ) → Option ℕ
from_part size ts = if none_left ts then Some 0 else do
  from ← after (codes "from") (first_of size) ts
  if_none_left from.1 from.0

-- ring SIZE, or ring SIZE from NUMBER
unfoldable pub ring_of : List (List ℕ) → Option (ℕ × ℕ)
ring_of ts = do
  size ← after (codes "ring") size_of ts
  from ← from_part size.0 size.1
  Some (size.0, from)

-- backends NUMBER
unfoldable pub backends_of : List (List ℕ) → Option ℕ
backends_of ts = do
  backends ← after (codes "backends") (number_within 1 MOST_BACKENDS) ts
  if_none_left backends.1 backends.0

-- this many steps of a backend, and others after them
abbrev pub with_turns : Option ℕ → Option ℕ → Option (List Turns) → Option (List Turns)
with_turns backend count others = do
  b ← backend
  c ← count
  option_map (λ turns. record { backend = b; count = c } ∷ turns) others

-- a backend of so many
abbrev pub backend_of : ℕ → List ℕ → Option ℕ
backend_of backends text = number_within 1 backends text

-- a count of steps
abbrev pub count_of : List ℕ → Option ℕ
count_of text = number_within 1 MOST_STEPS text

-- the token is an asterisk
abbrev pub is_times : List ℕ → Bool
is_times t = bytes_eq t (codes "*")

-- the steps of a line: a backend has one, or after an asterisk as many as a number says
unfoldable pub all_turns : ℕ → List (List ℕ) → Option (List Turns)
all_turns backends [] = Some []
all_turns backends (b ∷ []) = with_turns (backend_of backends b) (Some 1) (Some [])
all_turns backends (b ∷ t ∷ []) = if is_times t then None else with_turns (backend_of backends b) (Some 1) (all_turns backends (t ∷ []))
all_turns backends (b ∷ t ∷ c ∷ ts) = if is_times t then with_turns (backend_of backends b) (count_of c) (all_turns backends ts) else with_turns (backend_of backends b) (Some 1) (all_turns backends (t ∷ c ∷ ts))

-- one step, or after an asterisk how many, and the tokens after that
unfoldable pub count_part : List (List ℕ) → Option (ℕ × List (List ℕ))
count_part [] = Some (1, [])
count_part (t ∷ ts) = if is_times t then taken count_of ts else Some (1, t ∷ ts)

-- what is taken of a line's steps at a time
abbrev pub NextTurns : ℕ → List (List ℕ) → List (List ℕ) → Option Turns → Type 0
NextTurns backends old new None = all_turns backends old ≡ None
NextTurns backends old new (Some turns) = all_turns backends old ≡ option_map (λ others. turns ∷ others) (all_turns backends new)

-- steps ITEM ITEM .., with an item or more
unfoldable pub steps_of : ℕ → List (List ℕ) → Option (List Turns)
steps_of backends ts = do
  rest ← said (codes "steps") ts
  if none_left rest then None else all_turns backends rest

-- BACKEND: and the tokens of a command
unfoldable pub addressed : ℕ → List (List ℕ) → Option (ℕ × List (List ℕ))
addressed backends ts = do
  backend ← taken (number_within 1 backends) ts
  rest ← said (codes ":") backend.1
  Some (backend.0, rest)
