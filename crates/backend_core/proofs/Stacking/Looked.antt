-- How many rebuilds have made the look for their next scan.
use Rattle.std.proofs.Common.{◌≡◌, ◌≤◌, ◌+◌, ◌∙◌, ◌⊎◌, inl, inr, Bool, true, false, not, Option, Some, None, List, [], ◌∷◌, ◌++◌, ◌&&◌, cond, refl, sym, ap, subst, map, arith}
use Rattle.std.specs.List.{find}
use Rattle.base_types.specs.Scans.{same_oid}
use Rattle.inval_messages.specs.declared.message.Message.TheVariants.{Cat, Rel}
use Rattle.backend_core.specs.Types.{Oid, Purpose, Message, Opening, Frame}
use Rattle.cacheless.specs.State.{one_if}
use Rattle.backend_core.specs.Fits.{looked_in, looked_on_top, told_owed}
use Rattle.backend_core.specs.Frames.{is_of, is_rebuilding, restarted, told_if, new_frame, with_new, frames_by, frames_after, on_top, with_look, looked_if, with_rest, least_left, frames_reset, scanned_on, left_of}
use Rattle.backend_core.proofs.Stacking.Stacks.{IsSplit, split, on_top_push}

one_most : (t : Bool) → one_if t ≤ 1
one_most true = omega arith
one_most false = omega arith

pub in_push : (under : List Frame) (f : Frame) → looked_in (under ++ f ∷ []) ≡ looked_in under + one_if f.looked
in_push [] f = omega arith
in_push (g ∷ under) f = omega (arith, in_push under f)

pub top_looked : (looked : Bool) (under : List Frame) (f : Frame) → looked_on_top looked (under ++ f ∷ []) ≡ one_if f.looked
top_looked looked [] f = refl
top_looked looked (g ∷ under) f = top_looked g.looked under f

pub top_most : (looked : Bool) (frames : List Frame) → looked_on_top looked frames ≤ 1
top_most looked [] = one_most looked
top_most looked (f ∷ frames) = top_most f.looked frames

pub told_push : (told : Bool) (under : List Frame) (f : Frame) → told_owed told (under ++ f ∷ []) ≡ 1
told_push told [] f = refl
told_push told (g ∷ under) f = refl

pub told_most : (told : Bool) (frames : List Frame) → told_owed told frames ≤ 1
told_most told [] = one_most told
told_most told (f ∷ frames) = omega arith

pub told_none : (told : Bool) (frames : List Frame) → told_owed false frames ≤ told_owed told frames
told_none told [] = omega arith
told_none told (f ∷ frames) = omega arith

-- a look may not count any more
looked_less : (looked begun : Bool) → one_if (looked && not begun) ≤ one_if looked
looked_less true true = omega arith
looked_less true false = omega arith
looked_less false begun = omega arith

map_less : (change : Frame → Frame) → ((f : Frame) → one_if (change f).looked ≤ one_if f.looked) → (frames : List Frame) → looked_in (map change frames) ≤ looked_in frames
map_less change less [] = omega arith
map_less change less (f ∷ frames) = omega (arith, less f, map_less change less frames)

restarted_less : (before : Purpose → Bool) (f : Frame) → one_if (restarted before f).looked ≤ one_if f.looked
restarted_less before f = looked_less f.looked _

told_less : (before : Purpose → Bool) (rel : Oid) (f : Frame) → one_if (told_if before rel f).looked ≤ one_if f.looked
told_less before rel f = by_test (is_of rel f)
  where
    by_test : (t : Bool) → one_if (cond t (restarted before f) f).looked ≤ one_if f.looked
    by_test true = restarted_less before f
    by_test false = omega arith

new_less : (put : Option Opening) (of_reset : Bool) (frames : List Frame) → looked_in (with_new put of_reset frames) ≤ looked_in frames
new_less None of_reset frames = omega arith
new_less (Some o) of_reset frames = omega (arith, in_push frames (new_frame o of_reset))

by_less : (before : Purpose → Bool) (held : List Opening) (frames : List Frame) (message : Message) → looked_in (frames_by before held frames message) ≤ looked_in frames
by_less before held frames (Cat cache hash) = omega arith
by_less before held frames (Rel rel) = by_on (is_rebuilding frames rel)
  where
    by_on : (t : Bool) → looked_in (elim t as (λ x. List Frame) [ true ↦ map (told_if before rel) frames | false ↦ with_new (find (λ o. same_oid rel o.rel) held) false frames ]) ≤ looked_in frames
    by_on true = map_less (told_if before rel) (told_less before rel) frames
    by_on false = new_less (find (λ o. same_oid rel o.rel) held) false frames

-- messages add no look
pub after_less : (before : Purpose → Bool) (held : List Opening) (messages : List Message) (frames : List Frame) → looked_in (frames_after before held messages frames) ≤ looked_in frames
after_less before held [] frames = omega arith
after_less before held (m ∷ messages) frames = omega (arith, after_less before held messages (frames_by before held frames m), by_less before held frames m)

-- nor does a reset
pub reset_less : (before : Purpose → Bool) (held : List Opening) (frames : List Frame) → looked_in (frames_reset before held frames) ≤ looked_in frames
reset_less before held frames = omega (arith, new_less (least_left (λ d. false) (map (restarted before) frames) held) true (map (restarted before) frames), map_less (restarted before) (restarted_less before) frames)

-- a look for the one on top is one more at most
pub look_more : (looks : Bool) (frames : List Frame) → looked_in (looked_if looks frames) ≤ looked_in frames + one_if looks
look_more false frames = omega arith
look_more true frames = by_split (split frames)
  where
    by_split : (frames ≡ []) ⊎ IsSplit frames → looked_in (on_top with_look frames) ≤ looked_in frames + 1
    by_split (inl none) = subst (λ l. looked_in (on_top with_look l) ≤ looked_in l + 1) (sym none) (omega arith)
    by_split (inr s) = subst (λ l. looked_in (on_top with_look l) ≤ looked_in l + 1) (sym s.is) (omega (arith, ap looked_in (on_top_push with_look s.under s.one), in_push s.under (with_look s.one), in_push s.under s.one))

-- and it is that of the one on top, where there is one
pub look_top : (looked : Bool) (f : Frame) (frames : List Frame) → looked_on_top looked (on_top with_look (f ∷ frames)) ≡ 1
look_top looked f frames = by_split (split (f ∷ frames))
  where
    by_split : (f ∷ frames ≡ []) ⊎ IsSplit (f ∷ frames) → looked_on_top looked (on_top with_look (f ∷ frames)) ≡ 1
    by_split (inl none) = absurd (cc none)
    by_split (inr s) = ap (λ l. looked_on_top looked (on_top with_look l)) s.is ∙ ap (looked_on_top looked) (on_top_push with_look s.under s.one) ∙ top_looked looked s.under (with_look s.one)

-- after a scan of the one on top the looks of the others are left
pub scanned_less : (has : Purpose → Bool) (held : List Opening) (under : List Frame) (f : Frame) → looked_in (scanned_on has held under f) ≤ looked_in under
scanned_less has held under f = by_left (left_of has held f)
  where
    by_reset : (t : Bool) → looked_in (elim t as (λ y. List Frame) [ true ↦ with_rest has held under | false ↦ under ]) ≤ looked_in under
    by_reset true = new_less (least_left has under held) true under
    by_reset false = omega arith

    by_left : (left : Option Opening) → looked_in (elim left as (λ y. List Frame) [ Some o ↦ under ++ new_frame o f.of_reset ∷ [] | None ↦ elim f.of_reset [ true ↦ with_rest has held under | false ↦ under ] ]) ≤ looked_in under
    by_left (Some o) = omega (arith, in_push under (new_frame o f.of_reset))
    by_left None = by_reset f.of_reset
