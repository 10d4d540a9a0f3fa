-- The rebuilds as a list: one more is put on, all are changed, and the one on top is taken off.
use Rattle.std.proofs.Common.{◌≡◌, ◌<◌, ◌+◌, ◌-◌, ◌∙◌, ◌⊎◌, inl, inr, ℕ, Bool, true, false, Some, None, List, [], ◌∷◌, ◌++◌, ◌||◌, refl, sym, ap, subst, map, take, length, drop, get_or, slice_get, slice_set, arith}
use Rattle.std.specs.List.{list_any, AllByRecursion}
use Rattle.std.proofs.lemmas.Bool.{or_parts, or_from, or_left, or_right}
use Rattle.std.proofs.lemmas.List.Edits.{map_over_more}
use Rattle.std.proofs.lemmas.List.{get_or_default, length_push, get_or_push, set-append_right, take-append-le}
use Rattle.std.proofs.lemmas.List.Folds.{list_any-append}
use Rattle.std.proofs.lemmas.Option.{slice_get-get_or}
use Rattle.std.proofs.Math.Seq.{take-length}
use Rattle.base_types.specs.Scans.{same_oid}
use Rattle.backend_core.specs.Types.{Oid, Purpose, Opening, Frame}
use Rattle.cacheless.specs.Suspects.{lacks}
use Rattle.backend_core.specs.Frames.{is_of, is_rebuilding, is_resetting, top, below, on_top, IsAmong, IsFound, IsRebuilt, AreApart, IsStack, with_look, looked_if}
use Rattle.backend_core.proofs.Stacking.Among.{oid_apart}

-- the one on top, and those below it
pub record IsSplit (frames : List Frame) : Type 0 where
  pub under : List Frame
  pub one : Frame
  pub is : frames ≡ under ++ one ∷ []

pub split : (frames : List Frame) → (frames ≡ []) ⊎ IsSplit frames
split [] = inl refl
split (f ∷ frames) = by_rest (split frames)
  where
    by_rest : (frames ≡ []) ⊎ IsSplit frames → (f ∷ frames ≡ []) ⊎ IsSplit (f ∷ frames)
    by_rest (inl none) = inr (record { under = []; one = f; is = ap (λ l. f ∷ l) none })
    by_rest (inr s) = inr (record { under = f ∷ s.under; one = s.one; is = ap (λ l. f ∷ l) s.is })

last_place : (under : List Frame) (f : Frame) → length (under ++ f ∷ []) - 1 ≡ length under
last_place under f = omega (arith, length_push under f)

pub top_push : (under : List Frame) (f : Frame) → top (under ++ f ∷ []) ≡ Some f
top_push under f = ap (slice_get (under ++ f ∷ [])) (last_place under f)
    ∙ slice_get-get_or (under ++ f ∷ []) (length under) f (omega (arith, length_push under f))
    ∙ ap Some (get_or_push under f f (length under) refl)

pub below_push : (under : List Frame) (f : Frame) → below (under ++ f ∷ []) ≡ under
below_push under f = ap (λ n. take n (under ++ f ∷ [])) (last_place under f) ∙ take-append-le (length under) under (f ∷ []) (omega arith) ∙ take-length under

first_place : (under : List Frame) (f : Frame) → length (under ++ f ∷ []) - 1 - length under ≡ 0
first_place under f = omega (arith, length_push under f)

pub on_top_push : (change : Frame → Frame) (under : List Frame) (f : Frame) → on_top change (under ++ f ∷ []) ≡ under ++ change f ∷ []
on_top_push change under f = ap (λ o. elim o as (λ x. List Frame) [ Some g ↦ slice_set (under ++ f ∷ []) (length (under ++ f ∷ []) - 1) (change g) | None ↦ under ++ f ∷ [] ]) (top_push under f)
    ∙ set-append_right under (f ∷ []) (length under) (length (under ++ f ∷ []) - 1) (change f) refl (omega (arith, length_push under f))
    ∙ ap (λ n. under ++ slice_set (f ∷ []) n (change f)) (first_place under f)

-- none is on top of none
pub top_none : (frames : List Frame) → top frames ≡ None → frames ≡ []
top_none frames none = by_split (split frames)
  where
    by_split : (frames ≡ []) ⊎ IsSplit frames → frames ≡ []
    by_split (inl is) = is
    by_split (inr s) = absurd (let no : None ≡ Some s.one = sym none ∙ ap top s.is ∙ top_push s.under s.one in cc no)

-- changes that leave the descriptor and whether a reset goes on after it
pub record KeepsFrames (change : Frame → Frame) : Type 0 where
  pub opening : (f : Frame) → (change f).opening ≡ f.opening
  pub of_reset : (f : Frame) → (change f).of_reset ≡ f.of_reset

module _ (change : Frame → Frame) (keeps : KeepsFrames change) where
  pub map_on : (frames : List Frame) (rel : Oid) → is_rebuilding (map change frames) rel ≡ is_rebuilding frames rel
  map_on [] rel = refl
  map_on (f ∷ frames) rel = λ i. same_oid rel (keeps.opening f i).rel || map_on frames rel i

  pub map_resets : (frames : List Frame) → is_resetting (map change frames) ≡ is_resetting frames
  map_resets [] = refl
  map_resets (f ∷ frames) = λ i. keeps.of_reset f i || map_resets frames i

  pub map_each : (has : Purpose → Bool) (held : List Opening) (frames : List Frame) → AllByRecursion (IsRebuilt has held) frames → AllByRecursion (IsRebuilt has held) (map change frames)
  map_each has held [] each = tt
  map_each has held (f ∷ frames) each = (record { among = subst (IsAmong held) (sym (keeps.opening f)) each.0.among; lacking = ap (lacks has) (keeps.opening f) ∙ each.0.lacking }, map_each has held frames each.1)

  pub map_once : (frames : List Frame) → AreApart frames → AreApart (map change frames)
  map_once [] once = tt
  map_once (f ∷ frames) once = (map_on frames (change f).opening.rel ∙ ap (λ (o : Opening). is_rebuilding frames o.rel) (keeps.opening f) ∙ once.0, map_once frames once.1)

-- those that are rebuilt before one is put on still are
pub on_push : (frames : List Frame) (f : Frame) (rel : Oid) → is_rebuilding frames rel ≡ true → is_rebuilding (frames ++ f ∷ []) rel ≡ true
on_push frames f rel on = list_any-append (is_of rel) frames (f ∷ []) ∙ or_left (is_rebuilding frames rel) (is_rebuilding (f ∷ []) rel) on

pub on_last : (frames : List Frame) (f : Frame) (rel : Oid) → same_oid rel f.opening.rel ≡ true → is_rebuilding (frames ++ f ∷ []) rel ≡ true
on_last frames f rel same = list_any-append (is_of rel) frames (f ∷ []) ∙ or_right (is_rebuilding frames rel) (is_rebuilding (f ∷ []) rel) (ap (λ t. t || false) same)

pub resets_push : (frames : List Frame) (f : Frame) → is_resetting frames ≡ true → is_resetting (frames ++ f ∷ []) ≡ true
resets_push frames f on = list_any-append (λ g. g.of_reset) frames (f ∷ []) ∙ or_left (is_resetting frames) (is_resetting (f ∷ [])) on

pub resets_last : (frames : List Frame) (f : Frame) → f.of_reset ≡ true → is_resetting (frames ++ f ∷ []) ≡ true
resets_last frames f on = list_any-append (λ g. g.of_reset) frames (f ∷ []) ∙ or_right (is_resetting frames) (is_resetting (f ∷ [])) (ap (λ t. t || false) on)

pub each_push : (has : Purpose → Bool) (held : List Opening) (frames : List Frame) (f : Frame) → AllByRecursion (IsRebuilt has held) frames → IsRebuilt has held f → AllByRecursion (IsRebuilt has held) (frames ++ f ∷ [])
each_push has held [] f each one = (one, tt)
each_push has held (g ∷ frames) f each one = (each.0, each_push has held frames f each.1 one)

pub once_push : (frames : List Frame) (f : Frame) → AreApart frames → is_rebuilding frames f.opening.rel ≡ false → AreApart (frames ++ f ∷ [])
once_push [] f once off = (refl, tt)
once_push (g ∷ frames) f once off = let parts = or_parts (same_oid f.opening.rel g.opening.rel) (is_rebuilding frames f.opening.rel) off in (
  list_any-append (is_of g.opening.rel) frames (f ∷ []) ∙ or_from (is_rebuilding frames g.opening.rel) (is_rebuilding (f ∷ []) g.opening.rel) once.0 (ap (λ t. t || false) (oid_apart f.opening.rel g.opening.rel parts.0)),
  once_push frames f once.1 parts.1,
)

-- the one on top is taken off
pub each_under : (has : Purpose → Bool) (held : List Opening) (under : List Frame) (f : Frame) → AllByRecursion (IsRebuilt has held) (under ++ f ∷ []) → AllByRecursion (IsRebuilt has held) under × IsRebuilt has held f
each_under has held [] f each = (tt, each.0)
each_under has held (g ∷ under) f each = let more = each_under has held under f each.1 in ((each.0, more.0), more.1)

pub once_under : (under : List Frame) (f : Frame) → AreApart (under ++ f ∷ []) → AreApart under × (is_rebuilding under f.opening.rel ≡ false)
once_under [] f once = (tt, refl)
once_under (g ∷ under) f once = let more = once_under under f once.1 in
    let parts = or_parts (is_rebuilding under g.opening.rel) (is_rebuilding (f ∷ []) g.opening.rel) (sym (list_any-append (is_of g.opening.rel) under (f ∷ [])) ∙ once.0) in
    let apart = (or_parts (same_oid g.opening.rel f.opening.rel) false parts.1).0 in
    ((parts.0, more.0), or_from (same_oid f.opening.rel g.opening.rel) (is_rebuilding under f.opening.rel) (oid_apart g.opening.rel f.opening.rel apart) more.1)

-- those that were rebuilt are still, but for its relation
pub on_under : (under : List Frame) (f : Frame) (rel : Oid) → is_rebuilding (under ++ f ∷ []) rel ≡ true → same_oid rel f.opening.rel ≡ false → is_rebuilding under rel ≡ true
on_under under f rel on apart = by_test (is_rebuilding under rel) (sym (list_any-append (is_of rel) under (f ∷ [])) ∙ on)
  where
    by_test : (t : Bool) → (t || is_rebuilding (f ∷ []) rel) ≡ true → t ≡ true
    by_test true is = refl
    by_test false is = absurd (let no : false ≡ true = sym (ap (λ t. t || false) apart) ∙ is in cc no)

pub resets_under : (under : List Frame) (f : Frame) → is_resetting (under ++ f ∷ []) ≡ true → f.of_reset ≡ false → is_resetting under ≡ true
resets_under under f on plain = by_test (is_resetting under) (sym (list_any-append (λ g. g.of_reset) under (f ∷ [])) ∙ on)
  where
    by_test : (t : Bool) → (t || is_resetting (f ∷ [])) ≡ true → t ≡ true
    by_test true is = refl
    by_test false is = absurd (let no : false ≡ true = sym (ap (λ t. t || false) plain) ∙ is in cc no)

-- what is found of a held descriptor goes over
pub found_to : (has now : Purpose → Bool) (frames later : List Frame) (o : Opening) → (lacks has o ≡ false → IsFound now later o) → (is_rebuilding frames o.rel ≡ true → IsFound now later o) → (is_resetting frames ≡ true → IsFound now later o) → IsFound has frames o → IsFound now later o
found_to has now frames later o whole on resets (inl is) = whole is
found_to has now frames later o whole on resets (inr (inl is)) = on is
found_to has now frames later o whole on resets (inr (inr is)) = resets is

-- one more of the rebuilds is changed
pub changed_more : (change : Frame → Frame) (frames now : List Frame) (i : ℕ) (d x : Frame) → i < length frames → length now ≡ length frames → now ≡ map change (take i frames) ++ drop i frames → x ≡ change (get_or now i d)
    → slice_set now i x ≡ map change (take (i + 1) frames) ++ drop (i + 1) frames
changed_more change frames now i d x within long done is = ap (slice_set now i) is ∙ map_over_more change frames now i (get_or now i d) within done (get_or_default now i d (get_or now i d) (omega (arith, within, long)))

-- the one on top changes, but for its descriptor and whether a reset goes on after it
any_last : (p : Frame → Bool) (under : List Frame) (f g : Frame) → p g ≡ p f → list_any p (under ++ g ∷ []) ≡ list_any p (under ++ f ∷ [])
any_last p under f g same = list_any-append p under (g ∷ []) ∙ ap (λ t. list_any p under || (t || false)) same ∙ sym (list_any-append p under (f ∷ []))

stack_again : (has : Purpose → Bool) (held : List Opening) (under : List Frame) (f g : Frame) → g.opening ≡ f.opening → g.of_reset ≡ f.of_reset → IsStack has held (under ++ f ∷ []) → IsStack has held (under ++ g ∷ [])
stack_again has held under f g opening of_reset stack = record {
  found = λ o among. found_to has has (under ++ f ∷ []) (under ++ g ∷ []) o (λ whole. inl whole) (λ on. inr (inl (any_last (is_of o.rel) under f g (ap (λ (x : Opening). same_oid o.rel x.rel) opening) ∙ on))) (λ on. inr (inr (any_last (λ x. x.of_reset) under f g of_reset ∙ on))) (stack.found o among);
  each = let both = each_under has held under f stack.each in each_push has held under g both.0 (record { among = subst (IsAmong held) (sym opening) both.1.among; lacking = ap (lacks has) opening ∙ both.1.lacking });
  once = let both = once_under under f stack.once in once_push under g both.0 (ap (λ (x : Opening). is_rebuilding under x.rel) opening ∙ both.1);
}

-- as by a look
pub stack_look : (has : Purpose → Bool) (held : List Opening) (frames : List Frame) → IsStack has held frames → IsStack has held (on_top with_look frames)
stack_look has held frames stack = by_split (split frames)
  where
    by_split : (frames ≡ []) ⊎ IsSplit frames → IsStack has held (on_top with_look frames)
    by_split (inl none) = subst (IsStack has held) (sym (ap (on_top with_look) none)) (subst (IsStack has held) none stack)
    by_split (inr s) = subst (IsStack has held) (sym (ap (on_top with_look) s.is ∙ on_top_push with_look s.under s.one)) (stack_again has held s.under s.one (with_look s.one) refl refl (subst (IsStack has held) s.is stack))

pub look_empty : (looks : Bool) → looked_if looks [] ≡ []
look_empty true = refl
look_empty false = refl
