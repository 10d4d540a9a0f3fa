-- The lists between their starts.
use Rattle.std.proofs.Common.{◌≡◌, ◌∙◌, ℕ, ◌≤◌, ◌<◌, Bool, true, false, Option, Some, None, List, [], ◌∷◌, ◌++◌, length, filter, nat_le, nat_lt, refl, sym, ap, subst, arith, le-leb, leb-true, ltb-true, lt-ltb, leb-false}
use Rattle.std.specs.Option.{option_to_list}
use Rattle.std.specs.List.{slice_range, AllByRecursion}
use Rattle.inval_messages.specs.Lists.{Written, cats_in, rels_in, lists_from, lists_before}
use Rattle.command_lists.specs.Types.{Message, Place, Start}
use Rattle.command_lists.specs.Lists.{all_lists, command_ended}
use Rattle.command_lists.specs.Starts.{AreInOrder, AreWithin, IsBefore, end_of, first_of, list_between, lists_until, lists_in}
use Rattle.command_lists.proofs.Order.{filter-all, filter-none, kept, left_out}
use Rattle.command_lists.proofs.Ranges.{range-none, range-join, range-before}

pub first-append : (xs ys : List Start) (end : Place) → first_of (xs ++ ys) end ≡ first_of xs (first_of ys end)
first-append [] ys end = refl
first-append (x ∷ xs) ys end = refl

pub until-append : (cats rels : List Message) (xs ys : List Start) (end : Place) → lists_until cats rels (xs ++ ys) end ≡ lists_until cats rels xs (first_of ys end) ++ lists_until cats rels ys end
until-append cats rels [] ys end = refl
until-append cats rels (x ∷ xs) ys end =
    ap (λ p. list_between cats rels x p ∷ lists_until cats rels (xs ++ ys) end) (first-append xs ys end)
    ∙ ap (λ lists. list_between cats rels x (first_of xs (first_of ys end)) ∷ lists) (until-append cats rels xs ys end)

-- all lists, the running one as the last
pub all-lists : (cats rels : List Message) (ended : List Start) (running : Option Start) → all_lists (lists_in cats rels ended running) ≡ lists_until cats rels (ended ++ option_to_list running) (end_of cats rels)
all-lists cats rels ended None = sym (until-append cats rels ended [] (end_of cats rels))
all-lists cats rels ended (Some start) = sym (until-append cats rels ended (start ∷ []) (end_of cats rels))

pub before-more : (a b c : Place) → IsBefore a b → IsBefore b c → IsBefore a c
before-more a b c low high = (omega (arith, low.0, high.0), omega (arith, low.1, high.1))

-- the first list doesn't begin past the end
pub first-before : (starts : List Start) (end : Place) → AreWithin starts end → IsBefore (first_of starts end) end
first-before [] end within = (omega arith, omega arith)
first-before (s ∷ later) end within = before-more s.at (first_of later end) end within.0 (first-before later end within.1)

-- the parts of all lists, one after another
pub cats-until : (cats rels : List Message) (starts : List Start) (end : Place) → AreWithin starts end → cats_in (lists_until cats rels starts end) ≡ slice_range cats (first_of starts end).cats end.cats
cats-until cats rels [] end within = sym (range-none cats end.cats)
cats-until cats rels (s ∷ later) end within =
    ap (λ rest. slice_range cats s.at.cats (first_of later end).cats ++ rest) (cats-until cats rels later end within.1)
    ∙ range-join cats s.at.cats (first_of later end).cats end.cats within.0.0 (first-before later end within.1).0

pub rels-until : (cats rels : List Message) (starts : List Start) (end : Place) → AreWithin starts end → rels_in (lists_until cats rels starts end) ≡ slice_range rels (first_of starts end).rels end.rels
rels-until cats rels [] end within = sym (range-none rels end.rels)
rels-until cats rels (s ∷ later) end within =
    ap (λ rest. slice_range rels s.at.rels (first_of later end).rels ++ rest) (rels-until cats rels later end within.1)
    ∙ range-join rels s.at.rels (first_of later end).rels end.rels within.0.1 (first-before later end within.1).1

-- the starts of this command's list and of those after it
abbrev pub starts_from : ℕ → List Start → List Start
starts_from from starts = filter (λ start. nat_le from start.command) starts

abbrev pub starts_before : ℕ → List Start → List Start
starts_before from starts = filter (λ start. nat_lt start.command from) starts

every-left : {X : Type 0} (P : X → Type 0) (xs ys : List X) → AllByRecursion P (xs ++ ys) → AllByRecursion P xs
every-left P [] ys all = tt
every-left P (x ∷ xs) ys all = (all.0, every-left P xs ys all.1)

pub order-left : (xs ys : List Start) → AreInOrder (xs ++ ys) → AreInOrder xs
order-left [] ys order = tt
order-left (x ∷ xs) ys order = (every-left (λ next. x.command < next.command) xs ys order.0, order-left xs ys order.1)

all-from : (from : ℕ) (s : Start) (later : List Start) → from ≤ s.command → AllByRecursion (λ next. s.command < next.command) later → AllByRecursion (λ next. nat_le from next.command ≡ true) later
all-from from s [] low high = tt
all-from from s (next ∷ later) low high = (le-leb from next.command (omega (arith, low, high.0)), all-from from s later low high.1)

not-before : (from command : ℕ) → from ≤ command → nat_lt command from ≡ false
not-before from command low = by_test (nat_lt command from) refl
  where
    by_test : (t : Bool) → nat_lt command from ≡ t → t ≡ false
    by_test true is = absurd (omega (arith, low, ltb-true command from is))
    by_test false is = refl

not-from : (from command : ℕ) → nat_le from command ≡ false → nat_lt command from ≡ true
not-from from command is = lt-ltb command from (leb-false from command is)

none-before : (from : ℕ) (s : Start) (later : List Start) → from ≤ s.command → AllByRecursion (λ next. s.command < next.command) later → AllByRecursion (λ next. nat_lt next.command from ≡ false) later
none-before from s [] low high = tt
none-before from s (next ∷ later) low high = (not-before from next.command (omega (arith, low, high.0)), none-before from s later low high.1)

all-starts-from : (from : ℕ) (s : Start) (later : List Start) → nat_le from s.command ≡ true → AllByRecursion (λ next. s.command < next.command) later → starts_from from later ≡ later
all-starts-from from s later low high = filter-all (λ start. nat_le from start.command) later (all-from from s later (leb-true from s.command low) high)

no-starts-before : (from : ℕ) (s : Start) (later : List Start) → nat_le from s.command ≡ true → AllByRecursion (λ next. s.command < next.command) later → starts_before from (s ∷ later) ≡ []
no-starts-before from s later low high =
    left_out (λ start. nat_lt start.command from) s later (not-before from s.command (leb-true from s.command low))
    ∙ filter-none (λ start. nat_lt start.command from) later (none-before from s later (leb-true from s.command low) high)

-- the lists of this command and of those after it are those between their starts
pub from-until : (cats rels : List Message) (from : ℕ) (starts : List Start) (end : Place) → AreInOrder starts → lists_from from (lists_until cats rels starts end) ≡ lists_until cats rels (starts_from from starts) end
from-until cats rels from [] end order = refl
from-until cats rels from (s ∷ later) end order = by_test (nat_le from s.command) refl (from-until cats rels from later end order.1)
  where
    head : Written
    head = list_between cats rels s (first_of later end)

    by_test : (t : Bool) → nat_le from s.command ≡ t → lists_from from (lists_until cats rels later end) ≡ lists_until cats rels (starts_from from later) end
        → lists_from from (head ∷ lists_until cats rels later end) ≡ lists_until cats rels (starts_from from (s ∷ later)) end
    by_test true is rest =
        kept (λ w. nat_le from w.command) head (lists_until cats rels later end) is ∙ ap (λ lists. head ∷ lists) rest
        ∙ ap (λ starts. list_between cats rels s (first_of starts end) ∷ lists_until cats rels (starts_from from later) end) (sym (all-starts-from from s later is order.0))
        ∙ sym (ap (λ starts. lists_until cats rels starts end) (kept (λ start. nat_le from start.command) s later is))
    by_test false is rest =
        left_out (λ w. nat_le from w.command) head (lists_until cats rels later end) is ∙ rest
        ∙ sym (ap (λ starts. lists_until cats rels starts end) (left_out (λ start. nat_le from start.command) s later is))

-- where the lists are cut
first-parted : (from : ℕ) (starts : List Start) (end : Place) → AreInOrder starts → first_of (starts_before from starts) (first_of (starts_from from starts) end) ≡ first_of starts end
first-parted from [] end order = refl
first-parted from (s ∷ later) end order = by_test (nat_le from s.command) refl
  where
    by_test : (t : Bool) → nat_le from s.command ≡ t → first_of (starts_before from (s ∷ later)) (first_of (starts_from from (s ∷ later)) end) ≡ s.at
    by_test true is =
        ap (λ starts. first_of starts (first_of (starts_from from (s ∷ later)) end)) (no-starts-before from s later is order.0)
        ∙ ap (λ starts. first_of starts end) (kept (λ start. nat_le from start.command) s later is)
    by_test false is = ap (λ starts. first_of starts (first_of (starts_from from (s ∷ later)) end)) (kept (λ start. nat_lt start.command from) s later (not-from from s.command is))

-- the lists of the commands before this one are those up to there
pub before-until : (cats rels : List Message) (from : ℕ) (starts : List Start) (end : Place) → AreInOrder starts → lists_before from (lists_until cats rels starts end) ≡ lists_until cats rels (starts_before from starts) (first_of (starts_from from starts) end)
before-until cats rels from [] end order = refl
before-until cats rels from (s ∷ later) end order = by_test (nat_le from s.command) refl (before-until cats rels from later end order.1)
  where
    head : Written
    head = list_between cats rels s (first_of later end)

    by_test : (t : Bool) → nat_le from s.command ≡ t → lists_before from (lists_until cats rels later end) ≡ lists_until cats rels (starts_before from later) (first_of (starts_from from later) end)
        → lists_before from (head ∷ lists_until cats rels later end) ≡ lists_until cats rels (starts_before from (s ∷ later)) (first_of (starts_from from (s ∷ later)) end)
    by_test true is rest =
        left_out (λ w. nat_lt w.command from) head (lists_until cats rels later end) (not-before from s.command (leb-true from s.command is)) ∙ rest
        ∙ ap (λ starts. lists_until cats rels starts (first_of (starts_from from later) end)) (filter-none (λ start. nat_lt start.command from) later (none-before from s later (leb-true from s.command is) order.0))
        ∙ sym (ap (λ starts. lists_until cats rels starts (first_of (starts_from from (s ∷ later)) end)) (no-starts-before from s later is order.0))
    by_test false is rest =
        kept (λ w. nat_lt w.command from) head (lists_until cats rels later end) (not-from from s.command is) ∙ ap (λ lists. head ∷ lists) rest
        ∙ ap (λ p. list_between cats rels s p ∷ lists_until cats rels (starts_before from later) (first_of (starts_from from later) end)) (sym (first-parted from later end order.1))
        ∙ sym (ap (λ starts. lists_until cats rels starts (first_of (starts_from from later) end)) (kept (λ start. nat_lt start.command from) s later (not-from from s.command is)))
        ∙ sym (ap (λ starts. lists_until cats rels (starts_before from (s ∷ later)) (first_of starts end)) (left_out (λ start. nat_le from start.command) s later is))

every-filter : {X : Type 0} (P : X → Type 0) (p : X → Bool) (xs : List X) → AllByRecursion P xs → AllByRecursion P (filter p xs)
every-filter P p [] all = tt
every-filter P p (x ∷ xs) all = by_test (p x) refl (every-filter P p xs all.1)
  where
    by_test : (t : Bool) → p x ≡ t → AllByRecursion P (filter p xs) → AllByRecursion P (filter p (x ∷ xs))
    by_test true is rest = subst (AllByRecursion P) (sym (kept p x xs is)) (all.0, rest)
    by_test false is rest = subst (AllByRecursion P) (sym (left_out p x xs is)) rest

-- some of the starts are in order too
pub order-filter : (p : Start → Bool) (starts : List Start) → AreInOrder starts → AreInOrder (filter p starts)
order-filter p [] order = tt
order-filter p (s ∷ later) order = by_test (p s) refl (order-filter p later order.1)
  where
    by_test : (t : Bool) → p s ≡ t → AreInOrder (filter p later) → AreInOrder (filter p (s ∷ later))
    by_test true is rest = subst AreInOrder (sym (kept p s later is)) (every-filter (λ next. s.command < next.command) p later order.0, rest)
    by_test false is rest = subst AreInOrder (sym (left_out p s later is)) rest

pub within-from : (from : ℕ) (starts : List Start) (end : Place) → AreInOrder starts → AreWithin starts end → AreWithin (starts_from from starts) end
within-from from [] end order within = tt
within-from from (s ∷ later) end order within = by_test (nat_le from s.command) refl (within-from from later end order.1 within.1)
  where
    by_test : (t : Bool) → nat_le from s.command ≡ t → AreWithin (starts_from from later) end → AreWithin (starts_from from (s ∷ later)) end
    by_test true is rest = subst (λ starts. AreWithin starts end) (sym (kept (λ start. nat_le from start.command) s later is ∙ ap (λ starts. s ∷ starts) (all-starts-from from s later is order.0))) within
    by_test false is rest = subst (λ starts. AreWithin starts end) (sym (left_out (λ start. nat_le from start.command) s later is)) rest

pub within-before : (from : ℕ) (starts : List Start) (end : Place) → AreInOrder starts → AreWithin starts end → AreWithin (starts_before from starts) (first_of (starts_from from starts) end)
within-before from [] end order within = tt
within-before from (s ∷ later) end order within = by_test (nat_le from s.command) refl (within-before from later end order.1 within.1)
  where
    by_test : (t : Bool) → nat_le from s.command ≡ t → AreWithin (starts_before from later) (first_of (starts_from from later) end) → AreWithin (starts_before from (s ∷ later)) (first_of (starts_from from (s ∷ later)) end)
    by_test true is rest = subst (λ starts. AreWithin starts (first_of (starts_from from (s ∷ later)) end)) (sym (no-starts-before from s later is order.0)) tt
    by_test false is rest =
        subst (λ starts. AreWithin starts (first_of (starts_from from (s ∷ later)) end)) (sym (kept (λ start. nat_lt start.command from) s later (not-from from s.command is)))
        (subst (λ starts. AreWithin (s ∷ starts_before from later) (first_of starts end)) (sym (left_out (λ start. nat_le from start.command) s later is))
        (subst (IsBefore s.at) (sym (first-parted from later end order.1)) within.0, rest))

-- the parts of this command's list and of those after it reach from where the first of them begins to the end
pub cats-from : (cats rels : List Message) (from : ℕ) (starts : List Start) (end : Place) → AreInOrder starts → AreWithin starts end → cats_in (lists_from from (lists_until cats rels starts end)) ≡ slice_range cats (first_of (starts_from from starts) end).cats end.cats
cats-from cats rels from starts end order within = ap cats_in (from-until cats rels from starts end order) ∙ cats-until cats rels (starts_from from starts) end (within-from from starts end order within)

pub rels-from : (cats rels : List Message) (from : ℕ) (starts : List Start) (end : Place) → AreInOrder starts → AreWithin starts end → rels_in (lists_from from (lists_until cats rels starts end)) ≡ slice_range rels (first_of (starts_from from starts) end).rels end.rels
rels-from cats rels from starts end order within = ap rels_in (from-until cats rels from starts end order) ∙ rels-until cats rels (starts_from from starts) end (within-from from starts end order within)

-- what is added at the end is in no list before it
pub until-more : (cats rels more others : List Message) (starts : List Start) (end : Place) → AreWithin starts end → end.cats ≤ length cats → end.rels ≤ length rels → lists_until (cats ++ more) (rels ++ others) starts end ≡ lists_until cats rels starts end
until-more cats rels more others [] end within low high = refl
until-more cats rels more others (s ∷ later) end within low high =
    let next = first_of later end in
    let past = first-before later end within.1 in
    ap (λ part. record { command = s.command; cats = part; rels = slice_range (rels ++ others) s.at.rels next.rels } ∷ lists_until (cats ++ more) (rels ++ others) later end) (range-before cats more s.at.cats next.cats within.0.0 (omega (arith, past.0, low)))
    ∙ ap (λ part. record { command = s.command; cats = slice_range cats s.at.cats next.cats; rels = part } ∷ lists_until (cats ++ more) (rels ++ others) later end) (range-before rels others s.at.rels next.rels within.0.1 (omega (arith, past.1, high)))
    ∙ ap (λ lists. list_between cats rels s next ∷ lists) (until-more cats rels more others later end within.1 low high)

-- the place where the lists are cut is not past the end
pub cut-before : (from : ℕ) (starts : List Start) (end : Place) → AreInOrder starts → AreWithin starts end → IsBefore (first_of (starts_from from starts) end) end
cut-before from starts end order within = first-before (starts_from from starts) end (within-from from starts end order within)

-- the running list ends
pub ended-lists : (cats rels : List Message) (ended : List Start) (start : Start) → lists_in cats rels (ended ++ start ∷ []) None ≡ command_ended (lists_in cats rels ended (Some start))
ended-lists cats rels ended start = ap (λ lists. record { earlier = lists; running = None }) (until-append cats rels ended (start ∷ []) (end_of cats rels))

pub cats-slice : (cats rels : List Message) (ended : List Start) (running : Option Start) (from : ℕ) → AreInOrder (ended ++ option_to_list running) → AreWithin (ended ++ option_to_list running) (end_of cats rels)
    → slice_range cats (first_of (starts_from from (ended ++ option_to_list running)) (end_of cats rels)).cats (length cats) ≡ cats_in (lists_from from (all_lists (lists_in cats rels ended running)))
cats-slice cats rels ended running from order within =
    sym (ap (λ lists. cats_in (lists_from from lists)) (all-lists cats rels ended running) ∙ cats-from cats rels from (ended ++ option_to_list running) (end_of cats rels) order within)

pub rels-slice : (cats rels : List Message) (ended : List Start) (running : Option Start) (from : ℕ) → AreInOrder (ended ++ option_to_list running) → AreWithin (ended ++ option_to_list running) (end_of cats rels)
    → slice_range rels (first_of (starts_from from (ended ++ option_to_list running)) (end_of cats rels)).rels (length rels) ≡ rels_in (lists_from from (all_lists (lists_in cats rels ended running)))
rels-slice cats rels ended running from order within =
    sym (ap (λ lists. rels_in (lists_from from lists)) (all-lists cats rels ended running) ∙ rels-from cats rels from (ended ++ option_to_list running) (end_of cats rels) order within)
