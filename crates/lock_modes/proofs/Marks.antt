-- A backend's own locks and their marks.
use Rattle.std.proofs.Common.{◌≡◌, ◌<◌, ◌+◌, ◌&&◌, ◌||◌, ◌++◌, ◌∷◌, ℕ, Bool, true, false, Option, List, [], cond, is_some, map, filter, take, drop, length, slice_set, get_or, refl, ap, arith}
use Rattle.std.specs.List.{find, list_any}
use Rattle.std.specs.Option.{option_map}
use Rattle.std.proofs.lemmas.List.{get_or_default}
use Rattle.std.proofs.lemmas.List.Edits.{map_over_more}
use Rattle.base_types.specs.Modes.{conflicts}
use Rattle.base_types.specs.Scans.{same_oid}
use Rattle.lock_modes.specs.Types.{Oid, Mode, OwnLock}
use Rattle.lock_modes.specs.Own.{is_own, has_lock, clear_modes}
use Rattle.lock_modes.specs.States.{state_of}

-- a lock has a state where it is held
pub is_some-state : (locks : List OwnLock) (rel : Oid) (mode : Mode) → is_some (state_of locks rel mode) ≡ has_lock locks rel mode
is_some-state [] rel mode = refl
is_some-state (lock ∷ locks) rel mode = by_test (is_own rel mode lock) (is_some-state locks rel mode)
  where
    by_test : (t : Bool) → is_some (state_of locks rel mode) ≡ has_lock locks rel mode → is_some (option_map {U = Bool} (λ l. l.clear) (cond t (Option.Some lock) (find (is_own rel mode) locks))) ≡ (t || has_lock locks rel mode)
    by_test true same = refl
    by_test false same = same

-- a clear lock on the relation conflicts with a mode
pub clear_against : (mode : Mode) (rel : Oid) (locks : List OwnLock) → list_any (λ lock. (lock.clear && same_oid lock.rel rel) && conflicts mode lock.mode) locks ≡ list_any (conflicts mode) (clear_modes locks rel)
clear_against mode rel [] = refl
clear_against mode rel (lock ∷ locks) = by_test (lock.clear && same_oid lock.rel rel) (clear_against mode rel locks)
  where
    rest : List OwnLock
    rest = filter (λ l. l.clear && same_oid l.rel rel) locks

    by_test : (t : Bool) → list_any (λ l. (l.clear && same_oid l.rel rel) && conflicts mode l.mode) locks ≡ list_any (conflicts mode) (map (λ l. l.mode) rest)
        → ((t && conflicts mode lock.mode) || list_any (λ l. (l.clear && same_oid l.rel rel) && conflicts mode l.mode) locks) ≡ list_any (conflicts mode) (map (λ l. l.mode) (cond t (lock ∷ rest) rest))
    by_test true same = ap (λ u. conflicts mode lock.mode || u) same
    by_test false same = same

-- one more lock is seen
pub marks_more : (mark : OwnLock → OwnLock) (locks now : List OwnLock) (i : ℕ) (d : OwnLock) → i < length locks → length now ≡ length locks → now ≡ map mark (take i locks) ++ drop i locks
    → slice_set now i (mark (get_or now i d)) ≡ map mark (take (i + 1) locks) ++ drop (i + 1) locks
marks_more mark locks now i d within long done = map_over_more mark locks now i (get_or now i d) within done (get_or_default now i d (get_or now i d) (omega (arith, within, long)))
