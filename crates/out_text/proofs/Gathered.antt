-- Texts that were gathered in two parts, or item by item.
use Rattle.std.proofs.Common.{◌≡◌, ℕ, ◌+◌, ◌<◌, List, [], ◌++◌, length, take, get_or, Result, Ok, Err, sym, subst}
use Rattle.std.specs.List.{flat_map}
use Rattle.edge_io.specs.Taken.{Grows, GrowsByFront}
use Rattle.edge_io.specs.Gathered.{Gathered, Stood, Gathers, told_by}
use Rattle.edge_io.proofs.Sending.{grows_by_none, loop_more, loop_front}
use Rattle.edge_io.proofs.Gathering.{stood_at_first, stood_then, gathers_then, gathers_first}

-- the first part was gathered, and then the result of gathering the second
pub second_gathered : {S T E : Type 0} (a b c : Gathered) (before : Result S E) (value : S) (result : Result T E) (first second whole : List ℕ) → whole ≡ first ++ second
    → before ≡ Ok value → Gathers a b before first → Gathers b c result second → Gathers a c result whole
second_gathered a b c before value result first second whole parts was p q =
    subst (Gathers a c result) (sym parts) (gathers_then a b c before value result first second was p q)

-- the sink failed within the first part
pub first_not_gathered : {S T D E : Type 0} (a b : Gathered) (before : Result S D) (result : Result T E) (fault : D) (error : E) (first second whole : List ℕ) → whole ≡ first ++ second
    → before ≡ Err fault → result ≡ Err error → Gathers a b before first → Gathers a b result whole
first_not_gathered a b before result fault error first second whole parts was failed p =
    subst (Gathers a b result) (sym parts) (gathers_first a b before result fault error first second was failed p)

-- a text was gathered up to here
pub record GatheredSoFar (old new : Gathered) (text : List ℕ) : Type 0 where
  pub stood : Stood old new
  pub sent : Grows (told_by old) (told_by new) text

-- nothing was gathered yet
pub none_so_far : (a : Gathered) → GatheredSoFar a a []
none_so_far a = record { stood = stood_at_first a; sent = grows_by_none (told_by a) }

-- all that was to be gathered was gathered
pub all_gathered : {T E : Type 0} (a b : Gathered) (value : T) (text : List ℕ) → GatheredSoFar a b text → Gathers {T = T} {E = E} a b (Ok value) text
all_gathered a b value text p = record { stood = p.stood; sent = p.sent }

-- the texts of the first items were gathered, and then that of one more
pub one_more : {X T E : Type 0} (f : X → List ℕ) (xs : List X) (i : ℕ) (x : X) (a b c : Gathered) (result : Result T E) (value : T) → i < length xs → x ≡ get_or xs i x
    → GatheredSoFar a b (flat_map f (take i xs)) → result ≡ Ok value → Gathers b c result (f x) → GatheredSoFar a c (flat_map f (take (i + 1) xs))
one_more f xs i x a b c result value within is p was q =
    let sent : Grows (told_by b) (told_by c) (f x) = rw was at q.sent in
    record { stood = stood_then a b c p.stood q.stood; sent = loop_more f xs i x (told_by a) (told_by b) (told_by c) within is p.sent sent }

-- the texts of the first items were gathered, and the sink failed within the next
pub next_not_gathered : {X S T D E : Type 0} (f : X → List ℕ) (xs : List X) (i : ℕ) (x : X) (a b c : Gathered) (before : Result S D) (fault : D) (result : Result T E) (error : E) → i < length xs → x ≡ get_or xs i x
    → GatheredSoFar a b (flat_map f (take i xs)) → before ≡ Err fault → result ≡ Err error → Gathers b c before (f x) → Gathers a c result (flat_map f xs)
next_not_gathered f xs i x a b c before fault result error within is p was failed q =
    let front : GrowsByFront (told_by b) (told_by c) (f x) = rw was at q.sent in
    record { stood = stood_then a b c p.stood q.stood; sent = rw failed (loop_front f xs i x (told_by a) (told_by b) (told_by c) within is p.sent front) }
