-- What a reset has left, and the rebuilds after a reset.
use Rattle.std.proofs.Common.{◌≡◌, ◌∙◌, inl, inr, Bool, true, false, not, Option, Some, None, List, [], ◌∷◌, ◌++◌, ◌&&◌, ◌||◌, cond, refl, sym, ap, subst, map, fold, nat_le, ◌⊎◌, is_some}
use Rattle.std.specs.List.{list_any, AllByRecursion}
use Rattle.std.proofs.lemmas.Bool.{both_ways, and_parts, or_left, or_right}
use Rattle.backend_core.specs.Types.{Purpose, Opening, Frame}
use Rattle.cacheless.specs.Suspects.{lacks}
use Rattle.backend_core.specs.Frames.{is_rebuilding, restarted, new_frame, with_new, is_left, lesser, least_left, with_rest, frames_reset, IsAmong, IsFound, IsRebuilt, AreApart, IsStack}
use Rattle.backend_core.proofs.Stacking.Messages.{each_less}
use Rattle.backend_core.proofs.Stacking.Stacks.{KeepsFrames, map_each, map_once, resets_last, each_push, once_push}
use Rattle.cacheless.proofs.Tests.{not_true}

-- it is one that is left
pub record IsLeast (has : Purpose → Bool) (frames : List Frame) (held : List Opening) (o : Opening) : Type 0 where
  pub among : IsAmong held o
  pub left : is_left has frames o ≡ true

-- what a search for it from the least so far gives
data IsLeastOf (has : Purpose → Bool) (frames : List Frame) (held : List Opening) (best given : Option Opening) : Type 0 where
  NoneLeft : given ≡ None → best ≡ None → list_any (is_left has frames) held ≡ false → IsLeastOf has frames held best given
  Before : best ≡ given → is_some given ≡ true → IsLeastOf has frames held best given
  Here : (o : Opening) → given ≡ Some o → IsLeast has frames held o → IsLeastOf has frames held best given

-- the lesser one is one of both
lesser_is : (best : Option Opening) (x : Opening) (o : Option Opening) → lesser best x ≡ o → (o ≡ Some x) ⊎ ((best ≡ o) × (is_some o ≡ true))
lesser_is None x o is = inl (sym is)
lesser_is (Some b) x o is = by_test (nat_le b.rel.0 x.rel.0) is
  where
    by_test : (t : Bool) → cond t (Some b) (Some x) ≡ o → (o ≡ Some x) ⊎ ((Some b ≡ o) × (is_some o ≡ true))
    by_test true here = inr (here, ap (λ q. is_some q) (sym here))
    by_test false here = inl (sym here)

least_from : (has : Purpose → Bool) (frames : List Frame) (held : List Opening) (best : Option Opening) → IsLeastOf has frames held best (fold (λ least o. cond (is_left has frames o) (lesser least o) least) best held)
least_from has frames [] best = by_best best refl
  where
    by_best : (o : Option Opening) → best ≡ o → IsLeastOf has frames [] best o
    by_best None is = NoneLeft refl is refl
    by_best (Some o) is = Before is refl
least_from has frames (x ∷ held) best = by_test (is_left has frames x) refl (least_from has frames held)
  where
    more : (o : Opening) → IsLeast has frames held o → IsLeast has frames (x ∷ held) o
    more o later = record { among = λ p holds. or_right (p x) (list_any p held) (later.among p holds); left = later.left }

    skipped : (r : Option Opening) → is_left has frames x ≡ false → IsLeastOf has frames held best r → IsLeastOf has frames (x ∷ held) best r
    skipped r at (NoneLeft here is none) = NoneLeft here is (ap (λ t. t || list_any (is_left has frames) held) at ∙ none)
    skipped r at (Before is some) = Before is some
    skipped r at (Here o is later) = Here o is (more o later)

    first : is_left has frames x ≡ true → IsLeast has frames (x ∷ held) x
    first at = record { among = λ p holds. or_left (p x) (list_any p held) holds; left = at }

    by_lesser : (r : Option Opening) → IsLeast has frames (x ∷ held) x → (r ≡ Some x) ⊎ ((best ≡ r) × (is_some r ≡ true)) → IsLeastOf has frames (x ∷ held) best r
    by_lesser r least (inl is) = Here x is least
    by_lesser r least (inr both) = Before both.0 both.1

    no_lesser : {X : Type 0} (r : Option Opening) → r ≡ None → (r ≡ Some x) ⊎ ((best ≡ r) × (is_some r ≡ true)) → X
    no_lesser r none (inl is) = absurd (let both : None ≡ Some x = sym none ∙ is in cc both)
    no_lesser r none (inr both) = absurd (both_ways _ (ap (λ q. is_some q) none) both.1)

    taken : (r : Option Opening) → is_left has frames x ≡ true → IsLeastOf has frames held (lesser best x) r → IsLeastOf has frames (x ∷ held) best r
    taken r at (NoneLeft here is none) = no_lesser None refl (lesser_is best x None is)
    taken r at (Before is some) = by_lesser r (first at) (lesser_is best x r is)
    taken r at (Here o is later) = Here o is (more o later)

    by_test : (t : Bool) → is_left has frames x ≡ t → ((now : Option Opening) → IsLeastOf has frames held now (fold (λ least o. cond (is_left has frames o) (lesser least o) least) now held))
        → IsLeastOf has frames (x ∷ held) best (fold (λ least o. cond (is_left has frames o) (lesser least o) least) (cond t (lesser best x) best) held)
    by_test true at later = taken _ at (later (lesser best x))
    by_test false at later = skipped _ at (later best)

-- with what is left put on, what held descriptors lack will be found, whatever was so before
pub rest_stack : (has : Purpose → Bool) (held : List Opening) (frames : List Frame) → AllByRecursion (IsRebuilt has held) frames → AreApart frames → IsStack has held (with_rest has held frames)
rest_stack has held frames each once = by_least (least_left has frames held) (least_from has frames held None)
  where
    none_is : list_any (is_left has frames) held ≡ false → IsStack has held frames
    none_is none = record { found = λ o among. by_left o among (lacks has o) (is_rebuilding frames o.rel) refl refl; each = each; once = once }
      where
        by_left : (o : Opening) → IsAmong held o → (l on : Bool) → lacks has o ≡ l → is_rebuilding frames o.rel ≡ on → IsFound has frames o
        by_left o among false on whole is = inl whole
        by_left o among true true whole is = inr (inl is)
        by_left o among true false lacking is = absurd (both_ways _ none (among (is_left has frames) (λ i. lacking i && not (is i))))

    put_on : (one : Opening) → IsLeast has frames held one → IsStack has held (frames ++ new_frame one true ∷ [])
    put_on one least = let parts = and_parts (lacks has one) (not (is_rebuilding frames one.rel)) least.left in record {
      found = λ o among. inr (inr (resets_last frames (new_frame one true) refl));
      each = each_push has held frames (new_frame one true) each (record { among = least.among; lacking = parts.0 });
      once = once_push frames (new_frame one true) once (not_true (is_rebuilding frames one.rel) parts.1);
    }

    none_so_far : {X : Type 0} (put : Option Opening) → None ≡ put → is_some put ≡ true → X
    none_so_far None is some = absurd (cc some)
    none_so_far (Some o) is some = absurd (cc is)

    by_least : (put : Option Opening) → IsLeastOf has frames held None put → IsStack has held (with_new put true frames)
    by_least put (NoneLeft here is none) = subst (λ p. IsStack has held (with_new p true frames)) (sym here) (none_is none)
    by_least put (Before is some) = none_so_far put is some
    by_least put (Here o is least) = subst (λ p. IsStack has held (with_new p true frames)) (sym is) (put_on o least)

restarted_keeps : (before : Purpose → Bool) → KeepsFrames (restarted before)
restarted_keeps before = record { opening = λ f. refl; of_reset = λ f. refl }

-- and so they are after a reset
pub stack_reset : (before has : Purpose → Bool) (held : List Opening) (frames : List Frame) → IsStack has held frames → IsStack (λ d. false) held (frames_reset before held frames)
stack_reset before has held frames stack = rest_stack (λ d. false) held (map (restarted before) frames)
    (map_each (restarted before) (restarted_keeps before) (λ d. false) held frames (each_less has (λ d. false) held frames (λ d none. refl) stack.each))
    (map_once (restarted before) (restarted_keeps before) frames stack.once)
