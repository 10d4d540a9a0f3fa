-- One seat takes in the seats of all passes.
use Rattle.std.proofs.Common.{◌≡◌, ℕ, ◌<◌, ◌≤◌, Bool, List, [], ◌∷◌, ◌++◌, length, map, sym, refl, ap, ◌∙◌, subst, inl, inr, ⊎_elim, arith, append_assoc, append-nil, Option, Some}
use mathlib.Core.Option.{some, some-injective}
use lib.ListN.{get_elem?}
use Rattle.atomic_table.specs.Table.{State, Me, Joins, Final, Seen}
use Rattle.turn_table.specs.declared.view.Setup.{Setup}
use Rattle.turn_table.specs.declared.view.Part.{Part}
use Rattle.turn_table.specs.declared.view.Stage.TheVariants.{Resting}
use Rattle.turn_table.specs.declared.view.View.{View}
use Rattle.turn_table.specs.Histories.{Follows}
use Rattle.std.specs.List.{AllByRecursion}
use Rattle.turn_table.specs.Views.{view_of, IsIn, AllIn, seat_in, seen_in, room_in, at_rest, both_parts, spent}
use Rattle.turn_table.specs.Kept.{Kept}
use Rattle.turn_table.specs.Numbered.{HasSeat}
use Rattle.turn_table.proofs.Lists.{each_map}
use Rattle.turn_table.proofs.Calls.{single}
use Rattle.turn_table.proofs.Steps.{option_or}
use Rattle.turn_table.proofs.Ends.{joins, HasPart, ends}

module _ {A : Type 0} (P : A → Type 0) where
  pub each_front : (l m : List A) → AllByRecursion P (l ++ m) → AllByRecursion P l
  each_front [] m p = tt
  each_front (x ∷ xs) m p = (p.0, each_front xs m p.1)

  pub each_last : (l : List A) (x : A) → AllByRecursion P (l ++ x ∷ []) → P x
  each_last [] x p = p.0
  each_last (y ∷ ys) x p = each_last ys x p.1

  pub each_snoc : (l : List A) (x : A) → AllByRecursion P l → P x → AllByRecursion P (l ++ x ∷ [])
  each_snoc [] x p q = (q, tt)
  each_snoc (y ∷ ys) x p q = (p.0, each_snoc ys x p.1 q)

pub no_items : {A : Type 0} (l : List A) (n : ℕ) → n ≡ length l → n ≡ 0 → l ≡ []
no_items [] n is z = refl
no_items (x ∷ xs) n is z = absurd (omega (arith, is, z))

module _ {V E : Type 0} where
  in_left : (p : Part V E) (ps qs : List (Part V E)) → IsIn p ps → IsIn p (ps ++ qs)
  in_left p [] qs h = absurd h
  in_left p (x ∷ xs) qs h = ⊎_elim (λ (e : x ≡ p). inl e) (λ (r : IsIn p xs). inr (in_left p xs qs r)) h

  in_right : (p : Part V E) (ps qs : List (Part V E)) → IsIn p qs → IsIn p (ps ++ qs)
  in_right p [] qs h = h
  in_right p (x ∷ xs) qs h = inr (in_right p xs qs h)

  pub all_self : (ps : List (Part V E)) → AllIn ps ps
  all_self [] = tt
  all_self (p ∷ ps) = (inl refl, each_map (λ q. IsIn q ps) (λ q. IsIn q (p ∷ ps)) ps (λ q h. inr h) (all_self ps))

  pub all_left : (xs ps qs : List (Part V E)) → AllIn xs ps → AllIn xs (ps ++ qs)
  all_left xs ps qs h = each_map (λ q. IsIn q ps) (λ q. IsIn q (ps ++ qs)) xs (λ q i. in_left q ps qs i) h

  pub all_right : (xs ps qs : List (Part V E)) → AllIn xs qs → AllIn xs (ps ++ qs)
  all_right xs ps qs h = each_map (λ q. IsIn q qs) (λ q. IsIn q (ps ++ qs)) xs (λ q i. in_right q ps qs i) h

  each_in : (Q : Part V E → Type 0) (p : Part V E) (ps : List (Part V E)) → AllByRecursion Q ps → IsIn p ps → Q p
  each_in Q p [] h i = absurd i
  each_in Q p (x ∷ xs) h i = ⊎_elim (λ (e : x ≡ p). subst Q e h.0) (λ (r : IsIn p xs). each_in Q p xs h.1 r) i

  -- the parts of what was popped are among those
  pub record Collected {A : Type 0} (parts : A → List (Part V E)) (all left : List A) (ps : List (Part V E)) : Type 0 where
    pub popped : List A
    pub are : all ≡ left ++ popped
    pub within : AllByRecursion (λ x. AllIn (parts x) ps) popped

  pub collects : {A : Type 0} (parts : A → List (Part V E)) (all : List A) (ps : List (Part V E)) → Collected parts all all ps
  collects parts all ps = record { popped = []; are = sym (append-nil all); within = tt }

  pub collected_more : {A : Type 0} (parts : A → List (Part V E)) (all left left' : List A) (x : A) (ps ps' : List (Part V E)) → Collected parts all left ps → left ≡ left' ++ x ∷ [] → ps' ≡ ps ++ parts x → Collected parts all left' ps'
  collected_more parts all left left' x ps ps' c is now = subst (Collected parts all left') (sym now) (record {
    popped = x ∷ c.popped;
    are = c.are ∙ (ap (λ l. l ++ c.popped) is ∙ append_assoc left' (x ∷ []) c.popped);
    within = (all_right (parts x) ps (parts x) (all_self (parts x)), each_map (λ y. AllIn (parts y) ps) (λ y. AllIn (parts y) (ps ++ parts x)) c.popped (λ y h. all_left (parts y) ps (parts x) h) c.within);
  })

  pub collected_all : {A : Type 0} (parts : A → List (Part V E)) (all left : List A) (ps : List (Part V E)) → Collected parts all left ps → left ≡ [] → AllByRecursion (λ x. AllIn (parts x) ps) all
  collected_all parts all left ps c is = subst (AllByRecursion (λ x. AllIn (parts x) ps)) (sym (c.are ∙ ap (λ l. l ++ c.popped) is)) c.within

module _ {V F E : Type 0} (fixed : V → F) (history : V → List E) (owner : E → ℕ) (waiting : List E → ℕ → Bool) (room : V → ℕ → ℕ) where
  abbrev Mine : Type 0
  Mine = Me (Option V) (View V E)

  abbrev Rule : Setup V → State (Option V) (View V E) → Type 0
  Rule = Kept fixed history owner waiting room

  pub joins_as : (setup : Setup V) (id other : ℕ) (m w : Mine) → m ≡ at_rest m → w ≡ at_rest w → Joins (Rule setup) id m.0 other w.0 (both_parts m.0 w.0) spent
  joins_as setup id other m w mine theirs =
      subst (λ (y : View V E × View V E). Joins (Rule setup) id y.0 other y.1 (both_parts y.0 y.1) spent) (λ i. ((sym mine i).0, (sym theirs i).0)) (joins fixed history owner waiting room setup id other m.0.parts w.0.parts)

  pub joined : (m w m' : Mine) → m ≡ at_rest m → m' ≡ (both_parts m.0 w.0, m.1) → (m' ≡ at_rest m') × (m'.0.parts ≡ m.0.parts ++ w.0.parts)
  joined m w m' rests is =
      let e : m' ≡ (view_of Resting (m.0.parts ++ w.0.parts), []) = is ∙ (let f : Mine → Mine = λ y. (both_parts m.0 w.0, y.1) in ap f rests) in
      (e ∙ ap at_rest (sym e), ap (λ (y : Mine). y.0.parts) e)

  -- what each pass knows of the value in the end
  module _ {A : Type 0} (number : A → ℕ) (parts : A → List (Part V E)) (one : (x : A) → (length (parts x) ≡ 1) × (seat_in (parts x) ≡ number x)) where
    pub has_part : (k : ℕ) (all : List A) (ps : List (Part V E)) → HasSeat k (map number all) → AllByRecursion (λ x. AllIn (parts x) ps) all → HasPart fixed history owner waiting room k ps
    has_part k [] ps h within = absurd h
    has_part k (x ∷ xs) ps h within = ⊎_elim
        (λ (e : number x ≡ k). let s = single fixed history owner waiting room (parts x) (one x).0 in
        among k s.0 ps ((sym (ap seat_in s.1) ∙ (one x).1) ∙ e) (subst (λ l. AllIn l ps) s.1 within.0).0)
        (λ (r : HasSeat k (map number xs)). has_part k xs ps r within.1) h
      where
        among : (k : ℕ) (p : Part V E) (ps : List (Part V E)) → p.seat ≡ k → IsIn p ps → HasPart fixed history owner waiting room k ps
        among k p [] e i = absurd i
        among k p (q ∷ qs) e i = ⊎_elim (λ (same : q ≡ p). inl (ap (λ (y : Part V E). y.seat) same ∙ e)) (λ (r : IsIn p qs). inr (among k p qs e r)) i

    pub known : (v : V) (ps : List (Part V E)) (x : A) → AllByRecursion (λ p. Follows owner p.seat p.seen (history v) × (p.room ≤ room v p.seat)) ps → AllIn (parts x) ps
        → Follows owner (number x) (seen_in (parts x)) (history v) × (room_in (parts x) ≤ room v (number x))
    known v ps x all within =
        let s = single fixed history owner waiting room (parts x) (one x).0 in
        let p = s.0 in
        let f = each_in (λ p. Follows owner p.seat p.seen (history v) × (p.room ≤ room v p.seat)) p ps all (subst (λ l. AllIn l ps) s.1 within).0 in
        let seat : p.seat ≡ number x = ap seat_in (sym s.1) ∙ (one x).1 in (
          subst (λ (y : ℕ × List E). Follows owner y.0 y.1 (history v)) (λ i. (seat i, seen_in (sym s.1 i))) f.0,
          subst (λ (y : ℕ × ℕ). y.0 ≤ room v y.1) (λ i. (room_in (sym s.1 i), seat i)) f.1,
        )

    -- the value that is taken out
    pub record Finished (setup : Setup V) (all : List A) (v : V) : Type 0 where
      pub same : fixed v ≡ fixed setup.start.value
      pub seen : AllByRecursion (λ x. Follows owner (number x) (seen_in (parts x)) (history v)) all
      pub roomy : AllByRecursion (λ x. room_in (parts x) ≤ room v (number x)) all

    pub finished : (setup : Setup V) (all : List A) (id : ℕ) (m : Mine) (ws : List ℕ) (xs : List (Option V)) (r : Option V) → m ≡ at_rest m → ((k : ℕ) → 0 < k → k ≤ setup.seats → HasSeat k (map number all))
        → AllByRecursion (λ x. AllIn (parts x) m.0.parts) all → Final (Seen (Rule setup) id m.0) ws xs → get_elem? xs 0 ≡ some r → (v : V) × (r ≡ Some v) × Finished setup all v
    finished setup all id m ws xs r rests seats within f at =
        let e = ends fixed history owner waiting room setup id m.0.parts ws xs (λ n low high. has_part n all m.0.parts (seats n low high) within) (subst (λ (d : View V E). Final (Seen (Rule setup) id d) ws xs) (ap (λ (y : Mine). y.0) rests) f) in (
          e.last,
          some-injective r (Some e.last) (sym at ∙ e.lies),
          record {
            same = e.same;
            seen = each_map (λ x. AllIn (parts x) m.0.parts) (λ x. Follows owner (number x) (seen_in (parts x)) (history e.last)) all (λ x h. (known e.last m.0.parts x e.seen h).0) within;
            roomy = each_map (λ x. AllIn (parts x) m.0.parts) (λ x. room_in (parts x) ≤ room e.last (number x)) all (λ x h. (known e.last m.0.parts x e.seen h).1) within;
          },
        )

    pub taken : (setup : Setup V) (all : List A) (r : Option V) → (v : V) × (r ≡ Some v) × Finished setup all v → (x : V) → r ≡ Some x → Finished setup all x
    taken setup all r f x is = subst (Finished setup all) (ap (option_or f.0) (sym f.1 ∙ is)) f.2
