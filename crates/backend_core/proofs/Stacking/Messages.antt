-- Messages keep what the rebuilds see to.
use Rattle.std.proofs.Common.{◌≡◌, ◌∙◌, inl, inr, Bool, true, false, not, Option, Some, None, List, [], ◌∷◌, ◌++◌, ◌&&◌, ◌||◌, ◌<◌, ◌+◌, ℕ, cond, refl, sym, ap, subst, map, length, take, get_or}
use Rattle.std.specs.List.{find, list_any, AllByRecursion}
use Rattle.std.proofs.Math.Bool.{and-false}
use Rattle.std.proofs.lemmas.List.Sums.{fold_more}
use Rattle.base_types.specs.Scans.{same_oid}
use Rattle.inval_messages.specs.Messages.{covers, is_spared}
use Rattle.inval_messages.specs.declared.message.Message.TheVariants.{Cat, Rel}
use Rattle.backend_core.specs.Types.{Oid, Purpose, Message, Opening, Frame}
use Rattle.cacheless.specs.Suspects.{lacks}
use Rattle.cacheless.proofs.Lacking.{lacks_more}
use Rattle.backend_core.specs.Frames.{is_of, is_rebuilding, restarted, told_if, new_frame, with_new, frames_by, frames_after, IsFound, IsRebuilt, IsStack}
use Rattle.backend_core.proofs.Stacking.Among.{oid_is, find_is, find_among, none_among}
use Rattle.backend_core.proofs.Stacking.Lacking.{spared, spared_less, spared_cat, spared_rel, spared_told}
use Rattle.backend_core.proofs.Stacking.Stacks.{KeepsFrames, map_on, map_resets, map_each, map_once, on_push, on_last, resets_push, each_push, once_push, found_to}

-- a message leaves which descriptors are rebuilt, and for which a reset goes on
pub told_keeps : (before : Purpose → Bool) (rel : Oid) → KeepsFrames (told_if before rel)
told_keeps before rel = record { opening = λ f. opening_by (is_of rel f) f; of_reset = λ f. reset_by (is_of rel f) f }
  where
    opening_by : (t : Bool) (f : Frame) → (cond t (restarted before f) f).opening ≡ f.opening
    opening_by true f = refl
    opening_by false f = refl

    reset_by : (t : Bool) (f : Frame) → (cond t (restarted before f) f).of_reset ≡ f.of_reset
    reset_by true f = refl
    reset_by false f = refl

-- with less kept each lacks a scan still
pub each_less : (has now : Purpose → Bool) (held : List Opening) (frames : List Frame) → ((d : Purpose) → has d ≡ false → now d ≡ false) → AllByRecursion (IsRebuilt has held) frames → AllByRecursion (IsRebuilt now held) frames
each_less has now held [] spares each = tt
each_less has now held (f ∷ frames) spares each = (record { among = each.0.among; lacking = lacks_more has now f.opening spares each.0.lacking }, each_less has now held frames spares each.1)

module _ (before has : Purpose → Bool) (held : List Opening) (frames : List Frame) (stack : IsStack has held frames) where
  -- for a catalog cache
  cat_stack : (message : Message) → ((o : Opening) → lacks (spared message has) o ≡ lacks has o) → IsStack (spared message has) held frames
  cat_stack message same = record {
    found = λ o among. found_to has (spared message has) frames frames o (λ whole. inl (same o ∙ whole)) (λ on. inr (inl on)) (λ on. inr (inr on)) (stack.found o among);
    each = each_less has (spared message has) held frames (spared_less message has) stack.each;
    once = stack.once;
  }

  module _ (rel : Oid) where
    abbrev now : Purpose → Bool
    now = spared (Rel rel) has

    -- for a relation that is being rebuilt
    rebuilt_stack : is_rebuilding frames rel ≡ true → IsStack now held (map (told_if before rel) frames)
    rebuilt_stack on = record {
      found = λ o among. by_same o (same_oid rel o.rel) refl (stack.found o among);
      each = map_each (told_if before rel) (told_keeps before rel) now held frames (each_less has now held frames (spared_less (Rel rel) has) stack.each);
      once = map_once (told_if before rel) (told_keeps before rel) frames stack.once;
    }
      where
        by_same : (o : Opening) (t : Bool) → same_oid rel o.rel ≡ t → IsFound has frames o → IsFound now (map (told_if before rel) frames) o
        by_same o true same found = inr (inl (map_on (told_if before rel) (told_keeps before rel) frames o.rel ∙ ap (is_rebuilding frames) (sym (oid_is rel o.rel same)) ∙ on))
        by_same o false apart found = found_to has now frames (map (told_if before rel) frames) o (λ whole. inl (spared_rel rel has o apart ∙ whole))
            (λ is. inr (inl (map_on (told_if before rel) (told_keeps before rel) frames o.rel ∙ is))) (λ is. inr (inr (map_resets (told_if before rel) (told_keeps before rel) frames ∙ is))) found

    -- for one that isn't, and is held or not
    put_stack : (put : Option Opening) → find (λ o. same_oid rel o.rel) held ≡ put → is_rebuilding frames rel ≡ false → IsStack now held (with_new put false frames)
    put_stack None none off = record {
      found = λ o among. found_to has now frames frames o (λ whole. inl (spared_rel rel has o (none_among (λ x. same_oid rel x.rel) held o none among) ∙ whole)) (λ on. inr (inl on)) (λ on. inr (inr on)) (stack.found o among);
      each = each_less has now held frames (spared_less (Rel rel) has) stack.each;
      once = stack.once;
    }
    put_stack (Some one) at off = record {
      found = λ o among. by_same o (same_oid rel o.rel) refl (stack.found o among);
      each = each_push now held frames (new_frame one false) (each_less has now held frames (spared_less (Rel rel) has) stack.each) (record { among = find_among (λ x. same_oid rel x.rel) held one at; lacking = spared_told rel has one same_rel });
      once = once_push frames (new_frame one false) stack.once (ap (is_rebuilding frames) (sym (oid_is rel one.rel same_rel)) ∙ off);
    }
      where
        same_rel : same_oid rel one.rel ≡ true
        same_rel = find_is (λ x. same_oid rel x.rel) held one at

        by_same : (o : Opening) (t : Bool) → same_oid rel o.rel ≡ t → IsFound has frames o → IsFound now (frames ++ new_frame one false ∷ []) o
        by_same o true same found = inr (inl (on_last frames (new_frame one false) o.rel (ap (λ r. same_oid r one.rel) (sym (oid_is rel o.rel same)) ∙ same_rel)))
        by_same o false apart found = found_to has now frames (frames ++ new_frame one false ∷ []) o (λ whole. inl (spared_rel rel has o apart ∙ whole))
            (λ is. inr (inl (on_push frames (new_frame one false) o.rel is))) (λ is. inr (inr (resets_push frames (new_frame one false) is))) found

  -- for whatever
  pub stack_by : (message : Message) → IsStack (spared message has) held (frames_by before held frames message)
  stack_by (Cat cache hash) = cat_stack (Cat cache hash) (spared_cat cache hash has)
  stack_by (Rel rel) = by_on (is_rebuilding frames rel) refl
    where
      by_on : (t : Bool) → is_rebuilding frames rel ≡ t → IsStack (spared (Rel rel) has) held (elim t as (λ x. List Frame) [ true ↦ map (told_if before rel) frames | false ↦ with_new (find (λ o. same_oid rel o.rel) held) false frames ])
      by_on true on = rebuilt_stack rel on
      by_on false off = put_stack rel (find (λ o. same_oid rel o.rel) held) refl off

-- and all the messages of a fetch
pub stack_after : (before has : Purpose → Bool) (held : List Opening) (messages : List Message) (frames : List Frame) → IsStack has held frames → IsStack (λ d. is_spared d messages && has d) held (frames_after before held messages frames)
stack_after before has held [] frames stack = stack
stack_after before has held (m ∷ messages) frames stack = subst (λ h. IsStack h held (frames_after before held (m ∷ messages) frames)) (λ i d. spare_more (covers d m) (list_any (covers d) messages) (has d) i)
    (stack_after before (spared m has) held messages (frames_by before held frames m) (stack_by before has held frames stack m))
  where
    spare_more : (here later kept : Bool) → (not later && (not here && kept)) ≡ (not (here || later) && kept)
    spare_more true later kept = and-false (not later)
    spare_more false later kept = refl

-- one message more
pub told_more : (has : Purpose → Bool) (held given : List Opening) (messages : List Message) (i : ℕ) (d : Message) (first before now : List Frame) → i < length messages → given ≡ held → before ≡ frames_after has held (take i messages) first → now ≡ frames_by has given before (get_or messages i d) → now ≡ frames_after has held (take (i + 1) messages) first
told_more has held given messages i d first before now within same so_far hears = hears ∙ (λ j. frames_by has (same j) (so_far j) (get_or messages i d)) ∙ sym (fold_more (frames_by has held) first messages i d within)
