-- What stays known of the held descriptors that may lack a scan.
use Rattle.std.proofs.Common.{◌≡◌, ◌∙◌, ◌+◌, ◌<◌, ◌&&◌, ◌||◌, ℕ, Bool, true, false, not, Option, Some, None, List, [], ◌∷◌, ◌++◌, cond, refl, sym, ap, subst, length, drop, get_or, filter, is_some}
use Rattle.std.specs.Option.{option_map_or}
use Rattle.std.specs.List.{find, list_any}
use Rattle.std.specs.List.Sorted.{IsPermutation}
use Rattle.std.proofs.lemmas.List.{drop_more}
use Rattle.std.proofs.lemmas.List.Folds.{list_any-append}
use Rattle.std.proofs.lemmas.List.Sorted.{list_any-IsPermutation}
use Rattle.std.proofs.lemmas.Bool.{and_parts}
use Rattle.std.proofs.Math.Bool.{and-false}
use mathlib.Core.Bool.{Bool-set}
use Rattle.base_types.specs.Scans.{same_scan, build_scans}
use Rattle.local_caches.specs.Caches.{kept_of}
use Rattle.cacheless.specs.Types.{Row, Purpose, Opening}
use Rattle.cacheless.specs.State.{Kept, is_kept, kept_with}
use Rattle.cacheless.specs.May.{is_first_missing}
use Rattle.cacheless.specs.Suspects.{lacks, follows, ascend, AreSuspects, AreKnown}
use Rattle.cacheless.specs.declared.suspects.Suspects.{Suspects}
use Rattle.cacheless.specs.declared.progress.Progress.{Progress}

-- something is found where something is so
found_any : {X : Type 0} (p : X → Bool) (xs : List X) → is_some (find p xs) ≡ list_any p xs
found_any p [] = refl
found_any p (x ∷ xs) = by_test (p x) (found_any p xs)
  where
    by_test : (t : Bool) → is_some (find p xs) ≡ list_any p xs → is_some (cond t (Some x) (find p xs)) ≡ (t || list_any p xs)
    by_test true more = refl
    by_test false more = more

and_one : (t : Bool) → (t && true) ≡ t
and_one true = refl
and_one false = refl

-- one of the suspects lacks a scan where a held descriptor does
pub lack_alike : (has : Purpose → Bool) (held found : List Opening) → AreSuspects has held found → is_some (find (lacks has) found) ≡ is_some (find (lacks has) held)
lack_alike has held found are = found_any (lacks has) found ∙ sym (plain found) ∙ are.same (λ o. true) ∙ plain held ∙ sym (found_any (lacks has) held)
  where
    plain : (xs : List Opening) → list_any (λ o. lacks has o && true) xs ≡ list_any (lacks has) xs
    plain xs = ap (λ (p : Opening → Bool). list_any p xs) (λ i o. and_one (lacks has o) i)

-- so a scan is the first that one of them lacks where it is that for a held descriptor
pub first_alike : (scan : Purpose) (kept : Kept) (held found : List Opening) → AreSuspects (is_kept kept) held found
    → list_any (λ o. is_first_missing scan kept o.kind o.rel) found ≡ list_any (λ o. is_first_missing scan kept o.kind o.rel) held
first_alike scan kept held found are = both found ∙ are.same (λ o. is_first_missing scan kept o.kind o.rel) ∙ sym (both held)
  where
    by_first : (d : Option Purpose) → option_map_or (same_scan scan) d false ≡ (is_some d && option_map_or (same_scan scan) d false)
    by_first None = refl
    by_first (Some d) = refl

    both : (xs : List Opening) → list_any (λ o. is_first_missing scan kept o.kind o.rel) xs ≡ list_any (λ o. lacks (is_kept kept) o && is_first_missing scan kept o.kind o.rel) xs
    both xs = ap (λ (q : Opening → Bool). list_any q xs) (λ i o. by_first (find (λ d. not (is_kept kept d)) (build_scans o.kind o.rel)) i)

-- those that lack one are found among themselves
filtered : (has p : Opening → Bool) (xs : List Opening) → list_any (λ o. has o && p o) (filter has xs) ≡ list_any (λ o. has o && p o) xs
filtered has p [] = refl
filtered has p (x ∷ xs) = by_test (has x) refl (filtered has p xs)
  where
    by_test : (t : Bool) → has x ≡ t → list_any (λ o. has o && p o) (filter has xs) ≡ list_any (λ o. has o && p o) xs → list_any (λ o. has o && p o) (cond t (x ∷ filter has xs) (filter has xs)) ≡ ((t && p x) || list_any (λ o. has o && p o) xs)
    by_test true is more = λ i. (is i && p x) || more i
    by_test false is more = more

pub found_suspects : (has : Purpose → Bool) (held sorted : List Opening) → IsPermutation (filter (lacks has) held) sorted → ascend None sorted ≡ true → AreSuspects has held sorted
found_suspects has held sorted moves ascends = record { same = λ p. sym (list_any-IsPermutation (λ o. lacks has o && p o) (filter (lacks has) held) sorted moves) ∙ filtered (lacks has) p held; ascending = ascends }

-- they ascend without the last of those before too
ascend_first : (last : Opening) (os : List Opening) → ascend (Some last) os ≡ true → ascend None os ≡ true
ascend_first last [] is = refl
ascend_first last (o ∷ os) is = (and_parts (follows (Some last) o) (ascend (Some o) os) is).1

-- one that lacks none is passed over
rest_suspects : (has : Purpose → Bool) (held : List Opening) (o : Opening) (os : List Opening) → lacks has o ≡ false → AreSuspects has held (o ∷ os) → AreSuspects has held os
rest_suspects has held o os whole are = record {
  same = λ p. sym (ap (λ t. (t && p o) || list_any (λ x. lacks has x && p x) os) whole) ∙ are.same p;
  ascending = ascend_first o os are.ascending;
}

pub next_suspects : (has : Purpose → Bool) (held items : List Opening) (at : ℕ) (d : Opening) → at < length items → lacks has (get_or items at d) ≡ false → AreSuspects has held (drop at items) → AreSuspects has held (drop (at + 1) items)
next_suspects has held items at d within whole are = rest_suspects has held (get_or items at d) (drop (at + 1) items) whole (subst (AreSuspects has held) (drop_more items at d within) are)

-- one that lacks none is held too
pub hold_suspects : (has : Purpose → Bool) (before : List Opening) (o : Opening) (found : List Opening) → lacks has o ≡ false → AreSuspects has before found → AreSuspects has (before ++ o ∷ []) found
hold_suspects has before o found whole are = record {
  same = λ p. are.same p ∙ sym (list_any-append (λ x. lacks has x && p x) before (o ∷ []) ∙ ap (λ t. list_any (λ x. lacks has x && p x) before || ((t && p o) || false)) whole ∙ or_none (list_any (λ x. lacks has x && p x) before));
  ascending = are.ascending;
}
  where
    or_none : (t : Bool) → (t || false) ≡ t
    or_none true = refl
    or_none false = refl

found_more : (has now : Purpose → Bool) (xs : List Purpose) → ((d : Purpose) → has d ≡ false → now d ≡ false) → is_some (find (λ d. not (has d)) xs) ≡ true → is_some (find (λ d. not (now d)) xs) ≡ true
found_more has now [] spares is = absurd (cc is)
found_more has now (x ∷ xs) spares is = by_test (has x) refl is (found_more has now xs spares)
  where
    by_now : (t : Bool) → is_some (find (λ d. not (now d)) xs) ≡ true → is_some (cond (not t) (Some x) (find (λ d. not (now d)) xs)) ≡ true
    by_now true more = more
    by_now false more = refl

    by_test : (t : Bool) → has x ≡ t → is_some (cond (not t) (Some x) (find (λ d. not (has d)) xs)) ≡ true → (is_some (find (λ d. not (has d)) xs) ≡ true → is_some (find (λ d. not (now d)) xs) ≡ true) → is_some (find (λ d. not (now d)) (x ∷ xs)) ≡ true
    by_test true at later more = by_now (now x) (more later)
    by_test false at here more = ap (λ t. is_some (cond (not t) (Some x) (find (λ d. not (now d)) xs))) (spares x at)

-- with less kept more is lacking
pub lacks_more : (has now : Purpose → Bool) (o : Opening) → ((d : Purpose) → has d ≡ false → now d ≡ false) → lacks has o ≡ true → lacks now o ≡ true
lacks_more has now o spares lacking = found_more has now (build_scans o.kind o.rel) spares lacking

-- with more kept they are suspects still
more_suspects : (has now : Purpose → Bool) (held found : List Opening) → ((o : Opening) → lacks now o ≡ true → lacks has o ≡ true) → AreSuspects has held found → AreSuspects now held found
more_suspects has now held found lacked are = record { same = λ p. both p found ∙ are.same (λ o. lacks now o && p o) ∙ sym (both p held); ascending = are.ascending }
  where
    by_now : (p : Opening → Bool) (o : Opening) (t : Bool) → lacks now o ≡ t → (t && p o) ≡ (lacks has o && (t && p o))
    by_now p o true is = ap (λ t. t && p o) (sym (lacked o is))
    by_now p o false is = sym (and-false (lacks has o))

    both : (p : Opening → Bool) (xs : List Opening) → list_any (λ o. lacks now o && p o) xs ≡ list_any (λ o. lacks has o && (lacks now o && p o)) xs
    both p xs = ap (λ (q : Opening → Bool). list_any q xs) (λ i o. by_now p o (lacks now o) refl i)

-- so they are once a scan is put
pub put_known : (kept now : Kept) (scan : Purpose) (given : List Row) (at : ℕ) (held : List Opening) (s : Suspects) → now ≡ kept_with scan given at kept → AreKnown (is_kept kept) held s → AreKnown (is_kept now) held s
put_known kept now scan given at held s puts known = λ is. more_suspects (is_kept kept) (is_kept now) held (drop s.from s.items.items) (λ o. lacks_more (is_kept now) (is_kept kept) o spares) (known is)
  where
    by_same : (d : Purpose) (t : Bool) → is_some (cond t (Some (record { rows = given; at = at })) (kept d)) ≡ false → is_kept kept d ≡ false
    by_same d true never = absurd (cc never)
    by_same d false none = none

    spares : (d : Purpose) → is_kept now d ≡ false → is_kept kept d ≡ false
    spares d none = by_same d (same_scan scan d) (sym (ap (λ (k : Kept). is_kept k d) puts) ∙ none)

-- and where what is kept and what is held are the same
pub same_known : (kept now : Kept) (before held : List Opening) (s : Suspects) → now ≡ kept → held ≡ before → AreKnown (is_kept kept) before s → AreKnown (is_kept now) held s
same_known kept now before held s keeps holds known = subst (λ k. AreKnown (is_kept k) held s) (sym keeps) (subst (λ l. AreKnown (is_kept kept) l s) (sym holds) known)

-- what is known of them has one proof
known_once : (has : Purpose → Bool) (held : List Opening) (s : Suspects) (some other : AreKnown has held s) → some ≡ other
known_once has held s some other = λ i is. record {
  same = λ p. Bool-set _ _ ((some is).same p) ((other is).same p) i;
  ascending = Bool-set _ _ (some is).ascending (other is).ascending i;
}

pub another_known : (s : Progress) (known : AreKnown (is_kept (kept_of s.caches)) s.opened s.suspects) → s.known ≡ known
another_known s known = known_once (is_kept (kept_of s.caches)) s.opened s.suspects s.known known

-- so what is so of a backend is so with any
pub with_known : (P : Progress → Type 0) (s : Progress) (known : AreKnown (is_kept (kept_of s.caches)) s.opened s.suspects) → P s → P (record s { known = known })
with_known P s known is = subst P (λ i. record s { known = another_known s known i }) is
