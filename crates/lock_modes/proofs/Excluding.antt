-- Grants go on excluding each other.
use Rattle.std.proofs.Common.{◌≡◌, ◌∙◌, ◌==◌, ◌&&◌, ◌||◌, Bool, true, false, not, cond, Some, None, List, [], ◌∷◌, ◌++◌, filter, refl, sym, ap, subst, append_assoc, append-nil}
use Rattle.std.specs.List.{find, AllByRecursion}
use Rattle.base_types.specs.Modes.{conflicts}
use Rattle.base_types.specs.Scans.{same_oid}
use Rattle.lock_modes.specs.Types.{Grant}
use Rattle.lock_modes.specs.Grants.{is_lock, holds, first_conflict}
use Rattle.lock_modes.specs.Excluding.{IsApart, IsFree, AreFree, DoExclude}

-- what holds of all holds of one more that has it
all_more : (P : Grant → Type 0) (xs : List Grant) (x : Grant) → AllByRecursion P xs → P x → AllByRecursion P (xs ++ x ∷ [])
all_more P [] x all more = (more, tt)
all_more P (y ∷ xs) x all more = (all.0, all_more P xs x all.1 more)

-- of those at the front
all_front : (P : Grant → Type 0) (xs ys : List Grant) → AllByRecursion P (xs ++ ys) → AllByRecursion P xs
all_front P [] ys all = tt
all_front P (x ∷ xs) ys all = (all.0, all_front P xs ys all.1)

-- and of some of them
all_filter : (P : Grant → Type 0) (keep : Grant → Bool) (xs : List Grant) → AllByRecursion P xs → AllByRecursion P (filter keep xs)
all_filter P keep [] all = tt
all_filter P keep (x ∷ xs) all = by_test (keep x) (all_filter P keep xs all.1)
  where
    by_test : (t : Bool) → AllByRecursion P (filter keep xs) → AllByRecursion P (cond t (x ∷ filter keep xs) (filter keep xs))
    by_test true rest = (all.0, rest)
    by_test false rest = rest

-- one more grant, where nobody is in its way
exclude_more : (held : List Grant) (g : Grant) → DoExclude held → IsFree held g → DoExclude (held ++ g ∷ [])
exclude_more [] g exclude free = (tt, tt)
exclude_more (x ∷ held) g exclude free = (all_more (IsApart x) held g exclude.0 free.0, exclude_more held g exclude.1 free.1)

-- several
pub exclude_all : (held grants : List Grant) → DoExclude held → AreFree held grants → DoExclude (held ++ grants)
exclude_all held [] exclude free = subst DoExclude (sym (append-nil held)) exclude
exclude_all held (g ∷ grants) exclude free = subst DoExclude (append_assoc held (g ∷ []) grants) (exclude_all (held ++ g ∷ []) grants (exclude_more held g exclude free.0) free.1)

-- those given first
pub exclude_front : (held later : List Grant) → DoExclude (held ++ later) → DoExclude held
exclude_front [] later exclude = tt
exclude_front (g ∷ held) later exclude = (all_front (IsApart g) held later exclude.0, exclude_front held later exclude.1)

-- some of them
pub exclude_filter : (keep : Grant → Bool) (held : List Grant) → DoExclude held → DoExclude (filter keep held)
exclude_filter keep [] exclude = tt
exclude_filter keep (g ∷ held) exclude = by_test (keep g) (exclude_filter keep held exclude.1)
  where
    by_test : (t : Bool) → DoExclude (filter keep held) → DoExclude (cond t (g ∷ filter keep held) (filter keep held))
    by_test true rest = (all_filter (IsApart g) keep held exclude.0, rest)
    by_test false rest = rest

-- and where nothing is prepared any more
pub exclude_cleared : (held prepared none : List Grant) → none ≡ [] → DoExclude (held ++ prepared) → DoExclude (held ++ none)
exclude_cleared held prepared none is exclude = subst DoExclude (sym (ap (λ l. held ++ l) is ∙ append-nil held)) (exclude_front held prepared exclude)

pub exclude_released : (keep : Grant → Bool) (held prepared none now : List Grant) → none ≡ [] → now ≡ filter keep held → DoExclude (held ++ prepared) → DoExclude (now ++ none)
exclude_released keep held prepared none now is now_is exclude = subst DoExclude (sym ((λ i. now_is i ++ is i) ∙ append-nil (filter keep held))) (exclude_filter keep held (exclude_front held prepared exclude))

-- a request is granted where nobody is in its way
found_none : (t : Bool) (g : Grant) (rest : List Grant) (test : Grant → Bool) → cond t (Some g) (find test rest) ≡ None → (t ≡ false) × (find test rest ≡ None)
found_none true g rest test is = cc
found_none false g rest test is = (refl, is)

any_none : (t u : Bool) → (t || u) ≡ false → (t ≡ false) × (u ≡ false)
any_none true u is = cc
any_none false u is = (refl, is)

free_for : (held : List Grant) (g : Grant) → holds held g.backend g.rel g.mode ≡ false → first_conflict held g.backend g.rel g.mode ≡ None → IsFree held g
free_for [] g unheld free = tt
free_for (other ∷ held) g unheld free =
    let once = any_none (is_lock g.backend g.rel g.mode other) (holds held g.backend g.rel g.mode) unheld in
    let way = found_none (not (other.backend == g.backend) && same_oid other.rel g.rel && conflicts g.mode other.mode) other held (λ x. not (x.backend == g.backend) && same_oid x.rel g.rel && conflicts g.mode x.mode) free in
    (record { once = once.0; way = way.0 }, free_for held g once.1 way.1)

pub exclude_granted : (held prepared none now : List Grant) (g : Grant) → none ≡ [] → now ≡ held ++ g ∷ [] → holds held g.backend g.rel g.mode ≡ false → first_conflict held g.backend g.rel g.mode ≡ None → DoExclude (held ++ prepared) → DoExclude (now ++ none)
exclude_granted held prepared none now g is now_is unheld free exclude =
    subst DoExclude (sym ((λ i. now_is i ++ is i) ∙ append-nil (held ++ g ∷ []))) (exclude_more held g (exclude_front held prepared exclude) (free_for held g unheld free))

-- of two held locks on a relation that two backends have, the modes don't conflict
pub held_exclude : (g later : Grant) (between after : List Grant) → DoExclude (g ∷ between ++ later ∷ after) → (g.backend == later.backend) ≡ false → same_oid g.rel later.rel ≡ true → conflicts later.mode g.mode ≡ false
held_exclude g later between after exclude apart same = by_parts (apart_from between exclude.0).way
  where
    apart_from : (between : List Grant) → AllByRecursion (IsApart g) (between ++ later ∷ after) → IsApart g later
    apart_from [] all = all.0
    apart_from (x ∷ between) all = apart_from between all.1

    by_parts : (not (g.backend == later.backend) && same_oid g.rel later.rel && conflicts later.mode g.mode) ≡ false → conflicts later.mode g.mode ≡ false
    by_parts way = sym (λ i. not (apart i) && same i && conflicts later.mode g.mode) ∙ way

-- and it excludes all others
pub granted_exclude : (held prepared now : List Grant) (g : Grant) → now ≡ held ++ g ∷ [] → holds held g.backend g.rel g.mode ≡ false → first_conflict held g.backend g.rel g.mode ≡ None → DoExclude (held ++ prepared) → DoExclude now
granted_exclude held prepared now g now_is unheld free exclude = subst DoExclude (sym now_is) (exclude_more held g (exclude_front held prepared exclude) (free_for held g unheld free))
