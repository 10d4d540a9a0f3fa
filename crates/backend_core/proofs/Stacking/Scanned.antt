-- A scan of the rebuild on top keeps what the rebuilds see to.
use Rattle.std.proofs.Common.{◌≡◌, ◌∙◌, inl, inr, Bool, true, false, not, Option, Some, None, List, [], ◌∷◌, ◌++◌, ◌&&◌, ◌||◌, refl, sym, ap, subst}
use Rattle.std.specs.List.{find, AllByRecursion}
use Rattle.std.proofs.lemmas.Bool.{both_ways, and_parts, and_from}
use Rattle.base_types.specs.Scans.{same_oid, build_scans}
use Rattle.backend_core.specs.Types.{Purpose, Opening, Frame}
use Rattle.cacheless.specs.Suspects.{lacks}
use Rattle.backend_core.specs.Frames.{is_rebuilding, is_resetting, new_frame, below, left_of, with_rest, scanned_on, frames_scanned, IsAmong, IsFound, IsRebuilt, AreApart, IsStack}
use Rattle.backend_core.proofs.Stacking.Among.{oid_is, oid_apart, oid_itself, find_is, find_among, none_among}
use Rattle.backend_core.proofs.Stacking.Lacking.{whole_more, with_scan, with_more, scan_apart}
use Rattle.backend_core.proofs.Stacking.Rests.{rest_stack}
use Rattle.backend_core.proofs.Stacking.Stacks.{top_push, below_push, on_push, on_last, on_under, resets_push, resets_last, resets_under, each_push, each_under, once_push, once_under, found_to}

-- it is that of the one on top
pub scanned_push : (has : Purpose → Bool) (held : List Opening) (under : List Frame) (f : Frame) → frames_scanned has held (under ++ f ∷ []) ≡ scanned_on has held under f
scanned_push has held under f = ap (λ o. elim o as (λ x. List Frame) [ Some g ↦ scanned_on has held (below (under ++ f ∷ [])) g | None ↦ under ++ f ∷ [] ]) (top_push under f) ∙ ap (λ l. scanned_on has held l f) (below_push under f)

-- after a scan of the top rebuild: what it still lacks is rebuilt next, or it is done
abbrev after_scan : (Purpose → Bool) → List Opening → List Frame → Frame → Option Opening → List Frame
after_scan has held under f left = elim left as (λ x. List Frame) [ Some o ↦ under ++ new_frame o f.of_reset ∷ [] | None ↦ elim f.of_reset as (λ x. List Frame) [ true ↦ with_rest has held under | false ↦ under ] ]

pub scanned_again : (has : Purpose → Bool) (held : List Opening) (all under : List Frame) (f : Frame) (o : Opening) → all ≡ under ++ f ∷ [] → left_of has held f ≡ Some o → under ++ new_frame o f.of_reset ∷ [] ≡ frames_scanned has held all
scanned_again has held all under f o is lacks = sym (ap (frames_scanned has held) is ∙ scanned_push has held under f ∙ ap (after_scan has held under f) lacks)

pub scanned_done : (has : Purpose → Bool) (held : List Opening) (all under : List Frame) (f : Frame) (reset : Bool) → all ≡ under ++ f ∷ [] → left_of has held f ≡ None → f.of_reset ≡ reset → elim reset as (λ x. List Frame) [ true ↦ with_rest has held under | false ↦ under ] ≡ frames_scanned has held all
scanned_done has held all under f reset is lacks resets = sym (ap (frames_scanned has held) is ∙ scanned_push has held under f ∙ ap (after_scan has held under f) lacks ∙ ap (λ t. elim t as (λ x. List Frame) [ true ↦ with_rest has held under | false ↦ under ]) resets)

module _ (has : Purpose → Bool) (held : List Opening) (under : List Frame) (f : Frame) (scan : Purpose) (is : find (λ d. not (has d)) (build_scans f.opening.kind f.opening.rel) ≡ Some scan) (stack : IsStack has held (under ++ f ∷ [])) where
  abbrev now : Purpose → Bool
  now = with_scan scan has

  parts : AllByRecursion (IsRebuilt has held) under × IsRebuilt has held f
  parts = each_under has held under f stack.each

  once : AreApart under × (is_rebuilding under f.opening.rel ≡ false)
  once = once_under under f stack.once

  -- those below lack what they lacked
  lower : (frames : List Frame) → AllByRecursion (IsRebuilt has held) frames → is_rebuilding frames f.opening.rel ≡ false → AllByRecursion (IsRebuilt now held) frames
  lower [] each off = tt
  lower (g ∷ frames) each off = by_test (same_oid f.opening.rel g.opening.rel) refl off (lower frames each.1)
    where
      by_test : (t : Bool) → same_oid f.opening.rel g.opening.rel ≡ t → (t || is_rebuilding frames f.opening.rel) ≡ false → (is_rebuilding frames f.opening.rel ≡ false → AllByRecursion (IsRebuilt now held) frames) → AllByRecursion (IsRebuilt now held) (g ∷ frames)
      by_test true same never rest = absurd (cc never)
      by_test false apart off_rest rest = (record { among = each.0.among; lacking = scan_apart has scan f.opening g.opening is apart ∙ each.0.lacking }, rest off_rest)

  each_now : AllByRecursion (IsRebuilt now held) under
  each_now = lower under parts.0 once.1

  whole_now : (o : Opening) → lacks has o ≡ false → lacks now o ≡ false
  whole_now o whole = whole_more has now o (with_more scan has) whole

  -- it goes on, with this descriptor
  goes_on : (o : Opening) → IsAmong held o → lacks now o ≡ true → same_oid f.opening.rel o.rel ≡ true → IsStack now held (under ++ new_frame o f.of_reset ∷ [])
  goes_on o among lacking same = record {
    found = λ x held_x. found_to has now (under ++ f ∷ []) (under ++ next ∷ []) x (λ whole. inl (whole_now x whole)) (λ on. inr (inl (on_by x on (same_oid x.rel f.opening.rel) refl))) (λ on. inr (inr (resets_by f.of_reset refl on))) (stack.found x held_x);
    each = each_push now held under next each_now (record { among = among; lacking = lacking });
    once = once_push under next once.0 (ap (is_rebuilding under) (sym (oid_is f.opening.rel o.rel same)) ∙ once.1);
  }
    where
      next : Frame
      next = new_frame o f.of_reset

      on_by : (x : Opening) → is_rebuilding (under ++ f ∷ []) x.rel ≡ true → (t : Bool) → same_oid x.rel f.opening.rel ≡ t → is_rebuilding (under ++ next ∷ []) x.rel ≡ true
      on_by x on true here = on_last under next x.rel (ap (same_oid x.rel) (sym (oid_is f.opening.rel o.rel same)) ∙ here)
      on_by x on false apart = on_push under next x.rel (on_under under f x.rel on apart)

      resets_by : (t : Bool) → f.of_reset ≡ t → is_resetting (under ++ f ∷ []) ≡ true → is_resetting (under ++ next ∷ []) ≡ true
      resets_by true of on = resets_last under next of
      resets_by false of on = resets_push under next (resets_under under f on of)

  -- it is done
  is_done : left_of now held f ≡ None → f.of_reset ≡ false → IsStack now held under
  is_done none plain = record {
    found = λ x held_x. by_rel x held_x (same_oid f.opening.rel x.rel) refl;
    each = each_now;
    once = once.0;
  }
    where
      other : (t : Bool) → lacks now f.opening ≡ t → elim t as (λ y. Option Opening) [ true ↦ Some f.opening | false ↦ find (λ o. same_oid f.opening.rel o.rel && lacks now o) held ] ≡ None → find (λ o. same_oid f.opening.rel o.rel && lacks now o) held ≡ None
      other true at found = absurd (cc found)
      other false at found = found

      by_lacks : (x : Opening) → IsAmong held x → same_oid f.opening.rel x.rel ≡ true → (t : Bool) → lacks now x ≡ t → t ≡ false
      by_lacks x held_x same true lacking = absurd (both_ways _ (none_among (λ o. same_oid f.opening.rel o.rel && lacks now o) held x (other (lacks now f.opening) refl none) held_x) (and_from (same_oid f.opening.rel x.rel) (lacks now x) same lacking))
      by_lacks x held_x same false whole = refl

      by_rel : (x : Opening) → IsAmong held x → (t : Bool) → same_oid f.opening.rel x.rel ≡ t → IsFound now under x
      by_rel x held_x true same = inl (by_lacks x held_x same (lacks now x) refl)
      by_rel x held_x false apart = found_to has now (under ++ f ∷ []) under x (λ whole. inl (whole_now x whole)) (λ on. inr (inl (on_under under f x.rel on (oid_apart f.opening.rel x.rel apart)))) (λ on. inr (inr (resets_under under f on plain))) (stack.found x held_x)

  pub stack_scanned : IsStack now held (scanned_on now held under f)
  stack_scanned = by_left (left_of now held f) refl
    where
      what_left : (t : Bool) → lacks now f.opening ≡ t → (o : Opening) → elim t as (λ y. Option Opening) [ true ↦ Some f.opening | false ↦ find (λ x. same_oid f.opening.rel x.rel && lacks now x) held ] ≡ Some o → IsStack now held (under ++ new_frame o f.of_reset ∷ [])
      what_left true lacking o at = let same : f.opening ≡ o = cc at in subst (λ x. IsStack now held (under ++ new_frame x f.of_reset ∷ [])) same (goes_on f.opening parts.1.among lacking (oid_itself f.opening.rel))
      what_left false whole o at = let both = and_parts (same_oid f.opening.rel o.rel) (lacks now o) (find_is (λ x. same_oid f.opening.rel x.rel && lacks now x) held o at) in
          goes_on o (find_among (λ x. same_oid f.opening.rel x.rel && lacks now x) held o at) both.1 both.0

      by_reset : left_of now held f ≡ None → (t : Bool) → f.of_reset ≡ t → IsStack now held (elim t as (λ y. List Frame) [ true ↦ with_rest now held under | false ↦ under ])
      by_reset none true of = rest_stack now held under each_now once.0
      by_reset none false of = is_done none of

      by_left : (left : Option Opening) → left_of now held f ≡ left → IsStack now held (elim left as (λ y. List Frame) [ Some o ↦ under ++ new_frame o f.of_reset ∷ [] | None ↦ elim f.of_reset [ true ↦ with_rest now held under | false ↦ under ] ])
      by_left (Some o) at = what_left (lacks now f.opening) refl o at
      by_left None at = by_reset at f.of_reset refl

-- one of the next act, where nothing is rebuilt
pub stack_other : (has : Purpose → Bool) (held : List Opening) (scan : Purpose) → IsStack has held [] → IsStack (with_scan scan has) held []
stack_other has held scan stack = record { found = λ o among. found_to has (with_scan scan has) [] [] o (λ whole. inl (whole_more has (with_scan scan has) o (with_more scan has) whole)) (λ on. inr (inl on)) (λ on. inr (inr on)) (stack.found o among); each = tt; once = tt }
