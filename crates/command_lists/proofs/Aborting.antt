-- The lists of a command and of those after it are taken away: both vectors are cut where the first of them begins.
use Rattle.std.proofs.Common.{◌≡◌, ◌∙◌, ℕ, ◌≤◌, ◌<◌, Bool, true, false, Option, Some, None, List, [], ◌∷◌, ◌++◌, length, filter, take, drop, nat_le, nat_lt, refl, sym, ap, subst, arith, append-nil, ltb-true, ltb-false, leb-true, le-leb, lt-ltb, length-append}
use Rattle.std.specs.Option.{option_to_list}
use Rattle.std.specs.List.{AllByRecursion}
use Rattle.std.proofs.lemmas.List.{take-append-drop, length-take-le}
use Rattle.std.proofs.lemmas.List.Elements.{filter-append}
use Rattle.std.proofs.Math.Seq.{take-length}
use Rattle.inval_messages.specs.Lists.{lists_before}
use Rattle.command_lists.specs.Types.{Message, Place, Start}
use Rattle.command_lists.specs.Lists.{aborted}
use Rattle.command_lists.specs.Starts.{AreInOrder, AreWithin, AreKept, IsBefore, end_of, first_of, list_between, lists_until, lists_in, running_until}
use Rattle.command_lists.proofs.Order.{filter-none, kept, left_out}
use Rattle.command_lists.proofs.Parts.{starts_from, starts_before, until-more, before-until, within-before, first-append, cut-before, order-left, order-filter}
use Rattle.command_lists.proofs.Registering.{within-earlier, last-before}

-- both vectors end where they are cut
pub end-shorter : (cats rels : List Message) (at : Place) → IsBefore at (end_of cats rels) → end_of (take at.cats cats) (take at.rels rels) ≡ at
end-shorter cats rels at before =
    ap (λ n. record { cats = n; rels = length (take at.rels rels) }) (length-take-le at.cats cats before.0)
    ∙ ap (λ n. record { cats = at.cats; rels = n }) (length-take-le at.rels rels before.1)

-- the lists before are as they were
until-shorter : (cats rels : List Message) (starts : List Start) (at : Place) → AreWithin starts at → IsBefore at (end_of cats rels) → lists_until (take at.cats cats) (take at.rels rels) starts at ≡ lists_until cats rels starts at
until-shorter cats rels starts at within before =
    sym (until-more (take at.cats cats) (take at.rels rels) (drop at.cats cats) (drop at.rels rels) starts at within (subst (λ n. at.cats ≤ n) (sym (length-take-le at.cats cats before.0)) (omega arith)) (subst (λ n. at.rels ≤ n) (sym (length-take-le at.rels rels before.1)) (omega arith)))
    ∙ ap (λ c. lists_until c (take at.rels rels ++ drop at.rels rels) starts at) (take-append-drop at.cats cats)
    ∙ ap (λ r. lists_until cats r starts at) (take-append-drop at.rels rels)

-- nothing runs afterwards
cut-lists : (cats rels : List Message) (ended : List Start) (end : Place) (from : ℕ) → AreInOrder ended → AreWithin ended end → IsBefore end (end_of cats rels)
    → lists_in (take (first_of (starts_from from ended) end).cats cats) (take (first_of (starts_from from ended) end).rels rels) (starts_before from ended) None ≡ record { earlier = lists_before from (lists_until cats rels ended end); running = None }
cut-lists cats rels ended end from order within before =
    let at = first_of (starts_from from ended) end in
    let low = cut-before from ended end order within in
    let short : IsBefore at (end_of cats rels) = (omega (arith, low.0, before.0), omega (arith, low.1, before.1)) in
    ap (λ p. record { earlier = lists_until (take at.cats cats) (take at.rels rels) (starts_before from ended) p; running = None }) (end-shorter cats rels at short)
    ∙ ap (λ lists. record { earlier = lists; running = None }) (until-shorter cats rels (starts_before from ended) at (within-before from ended end order within) short)
    ∙ ap (λ lists. record { earlier = lists; running = None }) (sym (before-until cats rels from ended end order))

-- where the lists are cut, by those that have ended and the running one
cut-place : (from : ℕ) (ended others : List Start) (end : Place) → first_of (starts_from from (ended ++ others)) end ≡ first_of (starts_from from ended) (first_of (starts_from from others) end)
cut-place from ended others end = ap (λ starts. first_of starts end) (filter-append (λ start. nat_le from start.command) ended others) ∙ first-append (starts_from from ended) (starts_from from others) end

to-last : (command : ℕ) (later : List Start) (start : Start) → AllByRecursion (λ next. command < next.command) (later ++ start ∷ []) → command ≤ start.command
to-last command [] start all = omega (arith, all.0)
to-last command (s ∷ later) start all = to-last command later start all.1

-- a list of an earlier command still runs: so are all the others
all-before : (from : ℕ) (ended : List Start) (start : Start) → nat_lt start.command from ≡ true → AreInOrder (ended ++ start ∷ []) → AllByRecursion (λ s. nat_lt s.command from ≡ true) ended
all-before from [] start is order = tt
all-before from (s ∷ later) start is order = (lt-ltb s.command from (omega (arith, ltb-true start.command from is, to-last s.command later start order.0)), all-before from later start is order.1)

not-from : (from command : ℕ) → nat_lt command from ≡ true → nat_le from command ≡ false
not-from from command is = by_test (nat_le from command) refl
  where
    by_test : (t : Bool) → nat_le from command ≡ t → t ≡ false
    by_test true le = absurd (omega (arith, ltb-true command from is, leb-true from command le))
    by_test false le = refl

each-not-from : (from : ℕ) (starts : List Start) → AllByRecursion (λ s. nat_lt s.command from ≡ true) starts → AllByRecursion (λ s. nat_le from s.command ≡ false) starts
each-not-from from [] all = tt
each-not-from from (s ∷ later) all = (not-from from s.command all.0, each-not-from from later all.1)

none-from : (from : ℕ) (starts : List Start) → AllByRecursion (λ s. nat_lt s.command from ≡ true) starts → starts_from from starts ≡ []
none-from from starts all = filter-none (λ s. nat_le from s.command) starts (each-not-from from starts all)

same-lists : (cats rels : List Message) (ended : List Start) (start : Start) (from : ℕ) → nat_lt start.command from ≡ true → AreInOrder (ended ++ start ∷ [])
    → lists_in (take (length cats) cats) (take (length rels) rels) (starts_before from ended) (Some start) ≡ record { earlier = lists_before from (lists_until cats rels ended start.at); running = Some (list_between cats rels start (end_of cats rels)) }
same-lists cats rels ended start from is order =
    let before = all-before from ended start is order in
    ap (λ c. lists_in c (take (length rels) rels) (starts_before from ended) (Some start)) (take-length cats)
    ∙ ap (λ r. lists_in cats r (starts_before from ended) (Some start)) (take-length rels)
    ∙ ap (λ place. record { earlier = lists_until cats rels (starts_before from ended) place; running = Some (list_between cats rels start (end_of cats rels)) }) (sym (ap (λ starts. first_of starts start.at) (none-from from ended before)))
    ∙ ap (λ lists. record { earlier = lists; running = Some (list_between cats rels start (end_of cats rels)) }) (sym (before-until cats rels from ended start.at (order-left ended (start ∷ []) order)))

-- the lists that are left
pub aborted-lists : (cats rels : List Message) (ended : List Start) (running : Option Start) (from : ℕ) → AreInOrder (ended ++ option_to_list running) → AreWithin (ended ++ option_to_list running) (end_of cats rels)
    → lists_in (take (first_of (starts_from from (ended ++ option_to_list running)) (end_of cats rels)).cats cats) (take (first_of (starts_from from (ended ++ option_to_list running)) (end_of cats rels)).rels rels) (starts_before from ended) (running_until from running)
    ≡ aborted from (lists_in cats rels ended running)
aborted-lists cats rels ended None from order within =
    let end = end_of cats rels in
    ap (λ place. lists_in (take place.cats cats) (take place.rels rels) (starts_before from ended) None) (cut-place from ended [] end)
    ∙ cut-lists cats rels ended end from (order-left ended [] order) (subst (λ starts. AreWithin starts end) (append-nil ended) within) (omega arith, omega arith)
aborted-lists cats rels ended (Some start) from order within = by_test (nat_lt start.command from) refl
  where
    end : Place
    end = end_of cats rels

    place : Place
    place = first_of (starts_from from (ended ++ start ∷ [])) end

    by_test : (t : Bool) → nat_lt start.command from ≡ t
        → lists_in (take place.cats cats) (take place.rels rels) (starts_before from ended) (elim t [ true ↦ Some start | false ↦ None ])
        ≡ record { earlier = lists_before from (lists_until cats rels ended start.at); running = elim t [ true ↦ Some (list_between cats rels start end) | false ↦ None ] }
    by_test true is =
        ap (λ p. lists_in (take p.cats cats) (take p.rels rels) (starts_before from ended) (Some start))
        (cut-place from ended (start ∷ []) end ∙ ap (λ starts. first_of (starts_from from ended) (first_of starts end)) (left_out (λ s. nat_le from s.command) start [] (not-from from start.command is))
        ∙ ap (λ starts. first_of starts end) (none-from from ended (all-before from ended start is order)))
        ∙ same-lists cats rels ended start from is order
    by_test false is =
        let reached : nat_le from start.command ≡ true = le-leb from start.command (ltb-false start.command from is) in
        let last = last-before ended start end within in
        ap (λ p. lists_in (take p.cats cats) (take p.rels rels) (starts_before from ended) None)
        (cut-place from ended (start ∷ []) end ∙ ap (λ starts. first_of (starts_from from ended) (first_of starts end)) (kept (λ s. nat_le from s.command) start [] reached))
        ∙ cut-lists cats rels ended start.at from (order-left ended (start ∷ []) order) (within-earlier ended start end within) last

until-before : (from : ℕ) (running : Option Start) → option_to_list (running_until from running) ≡ starts_before from (option_to_list running)
until-before from None = refl
until-before from (Some start) = by_test (nat_lt start.command from) refl
  where
    by_test : (t : Bool) → nat_lt start.command from ≡ t → option_to_list (elim t as (λ _. Option Start) [ true ↦ Some start | false ↦ None ]) ≡ starts_before from (start ∷ [])
    by_test true is = sym (kept (λ s. nat_lt s.command from) start [] is)
    by_test false is = sym (left_out (λ s. nat_lt s.command from) start [] is)

fewer : {X : Type 0} (p : X → Bool) (xs : List X) → length (filter p xs) ≤ length xs
fewer p [] = omega arith
fewer p (x ∷ xs) = by_test (p x) refl (fewer p xs)
  where
    by_test : (t : Bool) → p x ≡ t → length (filter p xs) ≤ length xs → length (filter p (x ∷ xs)) ≤ length (x ∷ xs)
    by_test true is less = subst (λ ys. length ys ≤ length (x ∷ xs)) (sym (kept p x xs is)) (omega (arith, less))
    by_test false is less = subst (λ ys. length ys ≤ length (x ∷ xs)) (sym (left_out p x xs is)) (omega (arith, less))

-- and they are kept well
pub kept-aborted : (cats rels : List Message) (ended : List Start) (running : Option Start) (from places : ℕ) → AreKept cats rels ended places running
    → AreKept (take (first_of (starts_from from (ended ++ option_to_list running)) (end_of cats rels)).cats cats) (take (first_of (starts_from from (ended ++ option_to_list running)) (end_of cats rels)).rels rels) (starts_before from ended) places (running_until from running)
kept-aborted cats rels ended running from places well =
    let all = ended ++ option_to_list running in
    let end = end_of cats rels in
    let place = first_of (starts_from from all) end in
    let short = cut-before from all end well.order well.within in
    let left : starts_before from all ≡ starts_before from ended ++ option_to_list (running_until from running) = filter-append (λ s. nat_lt s.command from) ended (option_to_list running) ∙ ap (λ starts. starts_before from ended ++ starts) (sym (until-before from running)) in
    let less : length (starts_before from all) ≤ length all = fewer (λ s. nat_lt s.command from) all in
    let shorter : length (starts_before from ended ++ option_to_list (running_until from running)) ≤ length all = subst (λ starts. length starts ≤ length all) left less in
    record {
      order = subst AreInOrder left (order-filter (λ s. nat_lt s.command from) all well.order);
      within = subst (λ starts. AreWithin starts (end_of (take place.cats cats) (take place.rels rels))) left (subst (AreWithin (starts_before from all)) (sym (end-shorter cats rels place short)) (within-before from all end well.order well.within));
      place = omega (arith, well.place, rw length-append at shorter, length-append ended (option_to_list running));
    }
