-- How parts of a line are read: a reader gives the first value and the bytes after it, or nothing.
use Rattle.std.specs.Prelude.{◌≡◌, ℕ, zero, suc, Bool, nat_eq, Option, Some, None, List, [], ◌∷◌, ◌++◌, length, take, drop, if◌then◌else◌}
use Rattle.std.specs.List.{starts_with, prefix_len}

infixl 10 ◌>>=◌
-- a step, and what follows it
abbrev pub ◌>>=◌ : {A B : Type 0} → Option A → (A → Option B) → Option B
None >>= f = None
(Some x) >>= f = f x

-- a reader of values of a type
abbrev pub Reader : Type 0 → Type 0
Reader X = List ℕ → Option (X × List ℕ)

-- the bytes after a fixed text
unfoldable pub lit_at : List ℕ → List ℕ → Option (List ℕ)
lit_at text bytes = if starts_with nat_eq bytes text then Some (drop (length text) bytes) else None

-- the first bytes, as many as pass a test, as a value
abbrev pub field_at : {X : Type 0} → (ℕ → Bool) → (List ℕ → Option X) → Reader X
field_at p of bytes = of (take (prefix_len p bytes) bytes) >>= λ x. Some (x, drop (prefix_len p bytes) bytes)

-- one part after the other
abbrev pub pair_at : {X Y : Type 0} → Reader X → Reader Y → Reader (X × Y)
pair_at f g bytes = f bytes >>= λ x. g x.1 >>= λ y. Some ((x.0, y.0), y.1)

-- a part with a fixed text after it
abbrev pub then_at : {X : Type 0} → Reader X → List ℕ → Reader X
then_at f text bytes = f bytes >>= λ x. lit_at text x.1 >>= λ rest. Some (x.0, rest)

-- a part as another value
abbrev pub as_at : {X Y : Type 0} → (X → Y) → Reader X → Reader Y
as_at make f bytes = f bytes >>= λ x. Some (make x.0, x.1)

-- a part whose value passes a test
abbrev pub check_at : {X : Type 0} → (X → Bool) → Reader X → Reader X
check_at p f bytes = f bytes >>= λ x. if p x.0 then Some x else None

-- a part that has no bytes
abbrev pub none_at : {X : Type 0} → X → Reader X
none_at x bytes = Some (x, bytes)

-- a fixed text says how to go on after it, or else another reader reads
abbrev pub or_at : {X : Type 0} → List ℕ → Reader X → Reader X → Reader X
or_at text behind other bytes = elim (lit_at text bytes) [ None ↦ other bytes | Some rest ↦ behind rest ]

-- the first of some fixed texts that the bytes begin with says how to go on after it
abbrev pub choose_at : {X : Type 0} → List (List ℕ × Reader X) → Reader X
choose_at [] bytes = None
choose_at (c ∷ cs) bytes = or_at c.0 c.1 (choose_at cs) bytes

-- more values, a fixed text before each, so many at most
unfoldable pub more_at : {X : Type 0} → List ℕ → Reader X → ℕ → Reader (List X)
more_at lit f zero bytes = Some ([], bytes)
more_at lit f (suc n) bytes = or_at lit (as_at (λ p. p.0 ∷ p.1) (pair_at f (more_at lit f n))) (none_at []) bytes

-- values that follow others
abbrev pub with_front : {X : Type 0} → List X → Option (List X × List ℕ) → Option (List X × List ℕ)
with_front front None = None
with_front front (Some x) = Some (front ++ x.0, x.1)

-- what a reading function returned, and what it left, is what a reader gives
abbrev pub Gives : {X : Type 0} → Option X → List ℕ → Option (X × List ℕ) → Type 0
Gives None left read = read ≡ None
Gives (Some x) left read = read ≡ Some (x, left)
