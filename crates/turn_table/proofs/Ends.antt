-- Seats are split before the first turn, and joined after the last.
use Rattle.std.proofs.Common.{◌≡◌, ◌≢◌, ◌⊎◌, ℕ, zero, suc, ◌+◌, ◌*◌, ◌-◌, ◌<◌, ◌≤◌, eqb, cond, Bool, false, List, [], ◌∷◌, ◌++◌, length, map, replicate, get_or, set, sym, refl, ap, ◌∙◌, subst, inl, inr, ⊎_elim, arith, eq-eqb, ne_eqb, length-set, length-append, le_refl, true≢false, Option, Some}
use mathlib.Core.Option.{some, none, some-ne-none, some-injective}
use mathlib.Core.Option as maybe
use Rattle.std.proofs.lemmas.List.{replicate-append-replicate}
use lib.ListN.{get_elem?, length-replicate, length-map}
use mathlib.Core.List.{map-append}
use Rattle.atomic_table.specs.Table.{State, Me, Splits, Joins, opening, Final, Seen}
use Rattle.atomic_table.proofs.Lists.{set_else, at_longer}
use Rattle.turn_table.specs.declared.view.Setup.{Setup}
use Rattle.turn_table.specs.declared.view.Part.{Part}
use Rattle.turn_table.specs.declared.view.Stage.{Stage}
use Rattle.turn_table.specs.declared.view.Stage.TheVariants.{Resting, Drawn, InTurn}
use Rattle.turn_table.specs.declared.view.View.{View}
use Rattle.turn_table.specs.Histories.{Follows}
use Rattle.turn_table.specs.Words.{bit}
use Rattle.std.specs.List.{AllByRecursion}
use Rattle.turn_table.specs.Kept.{Core, home, Rests, Knows, Sits, ViewOk, Kept, parts_from, first_view}
use Rattle.turn_table.specs.Views.{view_of, tickets, places, IsInTurn, NoSeat, Distinct, part, first_part, other_parts, spent}
use Rattle.turn_table.specs.Numbered.{Numbered}
use Rattle.atomic_table.specs.Seated.{TableId}
use Rattle.atomic_table.specs.declared.shared.Seat.{Seat}
use Rattle.turn_table.proofs.Lists.{total_set, total_snoc, stay, each_map, each_append, follows_same}
use Rattle.turn_table.proofs.Steps.{turn_stays}

module _ {A : Type 0} where
  pub at_end : (l : List A) (a b : A) (j : ℕ) → get_elem? (l ++ a ∷ []) j ≡ some b → (get_elem? l j ≡ some b) ⊎ ((j ≡ length l) × (a ≡ b))
  at_end [] a b zero e = inr (refl, some-injective a b e)
  at_end [] a b (suc j) e = absurd (some-ne-none b (sym e))
  at_end (x ∷ xs) a b zero e = inl e
  at_end (x ∷ xs) a b (suc j) e = ⊎_elim (λ h. inl h) (λ (h : (j ≡ length xs) × (a ≡ b)). inr (ap suc h.0, h.1)) (at_end xs a b j e)

pub length_push : {A : Type 0} (old new : List A) (x : A) → new ≡ old ++ x ∷ [] → length new ≡ length old + 1
length_push old new x is = ap (λ l. length l) is ∙ length-append old (x ∷ [])

-- the places after the view id kept this seat, and gave its others to the view n
abbrev split_place : (ℕ → ℕ) → ℕ → ℕ → ℕ → ℕ → ℕ
split_place f id seat n k = cond (eqb (f k) id) (cond (eqb k seat) id n) (f k)

split_other : (f : ℕ → ℕ) (id seat n k : ℕ) → f k ≢ id → split_place f id seat n k ≡ f k
split_other f id seat n k apart = ap (λ b. cond b (cond (eqb k seat) id n) (f k)) (ne_eqb (f k) id apart)

split_kept : (f : ℕ → ℕ) (id seat n : ℕ) → f seat ≡ id → split_place f id seat n seat ≡ id
split_kept f id seat n here = ap (λ b. cond b (cond (eqb seat seat) id n) (f seat)) (eq-eqb (f seat) id here) ∙ ap (λ b. cond b id n) (eq-eqb seat seat refl)

split_given : (f : ℕ → ℕ) (id seat n k : ℕ) → f k ≡ id → k ≢ seat → split_place f id seat n k ≡ n
split_given f id seat n k here apart = ap (λ b. cond b (cond (eqb k seat) id n) (f k)) (eq-eqb (f k) id here) ∙ ap (λ b. cond b id n) (ne_eqb k seat apart)

-- the places after the view id took in the view other
abbrev join_place : (ℕ → ℕ) → ℕ → ℕ → ℕ → ℕ
join_place f id other k = cond (eqb (f k) other) id (f k)

join_else : (f : ℕ → ℕ) (id other k : ℕ) → f k ≢ other → join_place f id other k ≡ f k
join_else f id other k apart = ap (λ b. cond b id (f k)) (ne_eqb (f k) other apart)

join_here : (f : ℕ → ℕ) (id other k : ℕ) → f k ≡ other → join_place f id other k ≡ id
join_here f id other k here = ap (λ b. cond b id (f k)) (eq-eqb (f k) other here)

module _ {V E : Type 0} where
  abbrev placing : Core V E → (ℕ → ℕ) → Core V E
  placing c place = record { last = c.last; ticket = c.ticket; serving = c.serving; words = c.words; out = c.out; noted = c.noted; place = place; drawer = c.drawer }

  no_append : (k : ℕ) (ps qs : List (Part V E)) → NoSeat k ps → NoSeat k qs → NoSeat k (ps ++ qs)
  no_append k [] qs a b = b
  no_append k (p ∷ ps) qs a b = (a.0, no_append k ps qs a.1 b)

  distinct_append : (ps qs : List (Part V E)) → Distinct ps → Distinct qs → AllByRecursion (λ p. NoSeat p.seat qs) ps → Distinct (ps ++ qs)
  distinct_append [] qs a b apart = b
  distinct_append (p ∷ ps) qs a b apart = (no_append p.seat ps qs a.0 apart.0, distinct_append ps qs a.1 b apart.1)

module _ {V F E : Type 0} (fixed : V → F) (history : V → List E) (owner : E → ℕ) (waiting : List E → ℕ → Bool) (room : V → ℕ → ℕ) where
  abbrev D : Type 0
  D = View V E

  abbrev Rule : Setup V → State (Option V) D → Type 0
  Rule = Kept fixed history owner waiting room

  abbrev Ok : Setup V → Core V E → ℕ → D → Type 0
  Ok = ViewOk fixed history owner waiting room

  abbrev R : V → List ℕ → List (List E) → Part V E → Type 0
  R = Rests fixed history owner waiting room

  abbrev Kn : Core V E → ℕ → List (Part V E) → Stage V E → Type 0
  Kn = Knows fixed history owner waiting room

  abbrev Sit : Setup V → Core V E → ℕ → Part V E → Type 0
  Sit = Sits fixed history owner waiting room

  still : (c : Core V E) (place : ℕ → ℕ) (j : ℕ) (ps : List (Part V E)) (st : Stage V E) → Kn c j ps st → Kn (placing c place) j ps st
  still c place j ps Resting k = k
  still c place j ps (Drawn t) k = k
  still c place j ps (InTurn o) k = k

  given_sit : (setup : Setup V) (c : Core V E) (id seat n : ℕ) (ps : List (Part V E)) → NoSeat seat ps → AllByRecursion (Sit setup c id) ps → AllByRecursion (Sit setup (placing c (split_place c.place id seat n)) n) ps
  given_sit setup c id seat n [] apart sits = tt
  given_sit setup c id seat n (p ∷ ps) apart sits = let a = sits.0 in ((a.0, a.1, a.2, split_given c.place id seat n p.seat a.3 apart.0), given_sit setup c id seat n ps apart.1 sits.1)

  pub splits : (setup : Setup V) (id : ℕ) (p : Part V E) (ps : List (Part V E)) → Splits (Rule setup) id (view_of Resting (p ∷ ps)) (view_of Resting (p ∷ [])) (view_of Resting ps)
  splits setup id p ps s k at =
      let c : Core V E = k.core in
      let n : ℕ = length s.views in
      let c' : Core V E = placing c (split_place c.place id p.seat n) in
      let v : D = view_of Resting (p ∷ ps) in
      let left : D = view_of Resting (p ∷ []) in
      let right : D = view_of Resting ps in
      let ok = k.each_view id v at in
      let sit = ok.sits.0 in
      record {
        core = c';
        bells = k.bells;
        words_are = k.words_are;
        slot_is = k.slot_is;
        wide = k.wide;
        few = k.few;
        queue = let a = total_set tickets s.views id v left at in let b = total_snoc tickets (set s.views id left) right in let q = k.queue in omega arith;
        all_sit = let a = total_set places s.views id v left at in let b = total_snoc places (set s.views id left) right in let q = k.all_sit in omega arith;
        same = k.same;
        exact = k.exact;
        quiet = k.quiet;
        in_turn = λ j e. let h = turn_stays s.views id v left at (λ z. z) c.out k.in_turn j e in (h.0, at_longer (set s.views id left) (right ∷ []) j h.0 h.1, h.2);
        each_view = λ j d e. ⊎_elim
            (stay (Ok setup c') s.views id left
            (record { sits = ((sit.0, sit.1, sit.2, split_kept c.place id p.seat n sit.3), tt); distinct = (tt, tt); knows = (ok.knows.0, tt) })
            (λ i x other was. let o = k.each_view i x was in record {
              sits = each_map (Sit setup c i) (Sit setup c' i) x.parts (λ q a. (a.0, a.1, a.2, split_other c.place id p.seat n q.seat (λ h. other (sym a.3 ∙ h)) ∙ a.3)) o.sits;
              distinct = o.distinct;
              knows = still c (split_place c.place id p.seat n) i x.parts x.stage o.knows;
            }) j d)
            (λ (t : (j ≡ length (set s.views id left)) × (right ≡ d)). subst (λ (x : ℕ × D). Ok setup c' x.0 x.1) (λ i. (sym (t.0 ∙ length-set s.views id left) i, t.1 i))
            (record { sits = given_sit setup c id p.seat n ps ok.distinct.0 ok.sits.1; distinct = ok.distinct.1; knows = ok.knows.1 }))
            (at_end (set s.views id left) right d j e);
      }

  apart_seats : (setup : Setup V) (c : Core V E) (id other : ℕ) (p : Part V E) (qs : List (Part V E)) → other ≢ id → c.place p.seat ≡ id → AllByRecursion (Sit setup c other) qs → NoSeat p.seat qs
  apart_seats setup c id other p [] apart here sits = tt
  apart_seats setup c id other p (q ∷ qs) apart here sits = ((λ e. apart (sym sits.0.3 ∙ (ap c.place e ∙ here))), apart_seats setup c id other p qs apart here sits.1)

  pub joins : (setup : Setup V) (id other : ℕ) (ps qs : List (Part V E)) → Joins (Rule setup) id (view_of Resting ps) other (view_of Resting qs) (view_of Resting (ps ++ qs)) spent
  joins setup id other ps qs s k at apart there =
      let c : Core V E = k.core in
      let place : ℕ → ℕ = join_place c.place id other in
      let c' : Core V E = placing c place in
      let v : D = view_of Resting ps in
      let w : D = view_of Resting qs in
      let both : D = view_of Resting (ps ++ qs) in
      let gone : D = spent in
      let there' : get_elem? s.views other ≡ some w = sym (set_else s.views id other both apart) ∙ there in
      let mine = k.each_view id v at in
      let theirs = k.each_view other w there' in
      record {
        core = c';
        bells = k.bells;
        words_are = k.words_are;
        slot_is = k.slot_is;
        wide = k.wide;
        few = k.few;
        queue = let a = total_set tickets s.views id v both at in let b = total_set tickets (set s.views id both) other w gone there in let q = k.queue in omega arith;
        all_sit = let a = total_set places s.views id v both at in let b = total_set places (set s.views id both) other w gone there in let q = k.all_sit in let l = length-append ps qs in omega arith;
        same = k.same;
        exact = k.exact;
        quiet = k.quiet;
        in_turn = turn_stays (set s.views id both) other w gone there (λ z. z) c.out (turn_stays s.views id v both at (λ z. z) c.out k.in_turn);
        each_view = stay (Ok setup c') (set s.views id both) other gone (record { sits = tt; distinct = tt; knows = tt })
            (λ j d n e. stay (λ i x. i ≢ other → Ok setup c' i x) s.views id both
            (λ _. record {
              sits = each_append (Sit setup c' id) ps qs
                  (each_map (Sit setup c id) (Sit setup c' id) ps (λ p a. (a.0, a.1, a.2, join_else c.place id other p.seat (λ h. apart (sym h ∙ a.3)) ∙ a.3)) mine.sits)
                  (each_map (Sit setup c other) (Sit setup c' id) qs (λ p a. (a.0, a.1, a.2, join_here c.place id other p.seat a.3)) theirs.sits);
              distinct = distinct_append ps qs mine.distinct theirs.distinct (each_map (Sit setup c id) (λ p. NoSeat p.seat qs) ps (λ p a. apart_seats setup c id other p qs apart a.3 theirs.sits) mine.sits);
              knows = each_append (R c.last c.words c.noted) ps qs mine.knows theirs.knows;
            })
            (λ i x m was l. let o = k.each_view i x was in record {
              sits = each_map (Sit setup c i) (Sit setup c' i) x.parts (λ p a. (a.0, a.1, a.2, join_else c.place id other p.seat (λ h. l (sym a.3 ∙ h)) ∙ a.3)) o.sits;
              distinct = o.distinct;
              knows = still c place i x.parts x.stage o.knows;
            }) j d e n);
      }

  -- the table as it is made
  zeros : (n i : ℕ) → let z : ℕ = get_or (replicate n 0) i 0 in z ≡ 0
  zeros zero i = refl
  zeros (suc n) zero = refl
  zeros (suc n) (suc i) = zeros n i

  abbrev P : Type 0
  P = Part V E

  abbrev from : Setup V → ℕ → ℕ → List P
  from = parts_from fixed history owner waiting room

  abbrev fresh : Setup V → ℕ → P
  fresh setup k = part setup k (history setup.start.value) (room setup.start.value k) false

  pub length_from : (setup : Setup V) (k n : ℕ) → length (from setup k n) ≡ n
  length_from setup k zero = refl
  length_from setup k (suc n) = ap suc (length_from setup (suc k) n)

  each_from : (Q : P → Type 0) (setup : Setup V) (k n : ℕ) → ((j : ℕ) → k ≤ j → j < k + n → Q (fresh setup j)) → AllByRecursion Q (from setup k n)
  each_from Q setup k zero f = tt
  each_from Q setup k (suc n) f = (f k (le_refl k) (omega arith), each_from Q setup (suc k) n (λ j a b. f j (omega arith) (omega arith)))

  none_from : (setup : Setup V) (seat k n : ℕ) → seat < k → NoSeat seat (from setup k n)
  none_from setup seat k zero low = tt
  none_from setup seat k (suc n) low = ((λ e. omega (arith, e)), none_from setup seat (suc k) n (omega arith))

  distinct_from : (setup : Setup V) (k n : ℕ) → Distinct (from setup k n)
  distinct_from setup k zero = tt
  distinct_from setup k (suc n) = (none_from setup k (suc k) n (omega arith), distinct_from setup (suc k) n)

  abbrev starting : Setup V → Core V E
  starting setup = record { last = setup.start.value; ticket = 0; serving = 0; words = replicate setup.seats 0; out = none; noted = []; place = λ _. 0; drawer = λ _. 0 }

  the_first : (setup : Setup V) → ((k : ℕ) → 0 < k → k ≤ setup.seats → waiting (history setup.start.value) k ≡ false)
      → (j : ℕ) (d : D) → get_elem? (first_view fixed history owner waiting room setup ∷ []) j ≡ some d → Ok setup (starting setup) j d
  the_first setup quiet (suc j) d e = absurd (some-ne-none d (sym e))
  the_first setup quiet zero d e = subst (Ok setup (starting setup) 0) (some-injective (first_view fixed history owner waiting room setup) d e) (record {
    sits = each_from (Sit setup (starting setup) 0) setup 1 setup.seats (λ k low high. (refl, omega arith, omega arith, refl));
    distinct = distinct_from setup 1 setup.seats;
    knows = each_from (R setup.start.value (replicate setup.seats 0) []) setup 1 setup.seats (λ k low high. record {
      seen = follows_same owner k (history setup.start.value);
      roomy = le_refl (room setup.start.value k);
      lowered = λ _. quiet k (omega arith) (omega arith);
      raised = λ n. absurd (n (zeros setup.seats (k - 1)));
      told = λ t. absurd (true≢false (sym t));
    });
  })

  pub starts : (setup : Setup V) → setup.seats ≤ 64 → ((k : ℕ) → 0 < k → k ≤ setup.seats → waiting (history setup.start.value) k ≡ false)
      → Rule setup (opening (0 ∷ 0 ∷ (replicate setup.seats 0 ++ replicate setup.seats 0)) (Some setup.start.value ∷ []) (first_view fixed history owner waiting room setup))
  starts setup few quiet = record {
    core = starting setup;
    bells = replicate setup.seats 0;
    words_are = refl;
    slot_is = refl;
    wide = length-replicate setup.seats 0;
    few = few;
    queue = refl;
    all_sit = let e = length_from setup 1 setup.seats in omega arith;
    same = refl;
    exact = λ _ k low high. zeros setup.seats (k - 1) ∙ ap bit (sym (quiet k low high));
    quiet = λ _. refl;
    in_turn = λ j e. absurd (some-ne-none j (sym e));
    each_view = the_first setup quiet;
  }

  -- a seat with the parts of all seats knows that the value is at home
  abbrev pub HasPart : ℕ → List P → Type 0
  HasPart k [] = ⊥
  HasPart k (p ∷ ps) = (p.seat ≡ k) ⊎ HasPart k ps

  sits_at : (setup : Setup V) (c : Core V E) (id k : ℕ) (ps : List P) → HasPart k ps → AllByRecursion (Sit setup c id) ps → c.place k ≡ id
  sits_at setup c id k [] h sits = absurd h
  sits_at setup c id k (p ∷ ps) h sits = ⊎_elim (λ (e : p.seat ≡ k). ap c.place (sym e) ∙ sits.0.3) (λ (r : HasPart k ps). sits_at setup c id k ps r sits.1) h

  turns_seat : (setup : Setup V) (c : Core V E) (id : ℕ) (ps : List P) (st : Stage V E) → IsInTurn st → Kn c id ps st → AllByRecursion (Sit setup c id) ps → (k : ℕ) × (0 < k) × (k ≤ setup.seats) × (c.place k ≡ id)
  turns_seat setup c id ps Resting i k sits = absurd i
  turns_seat setup c id ps (Drawn t) i k sits = absurd i
  turns_seat setup c id ps (InTurn o) i k sits = let s = subst (AllByRecursion (Sit setup c id)) k.0.1 sits in (k.0.0.seat, s.0.1, s.0.2, s.0.3)

  all_home : (setup : Setup V) (s : State (Option V) D) (k : Rule setup s) (id : ℕ) (ps : List P) → get_elem? s.views id ≡ some (view_of Resting ps) → ((n : ℕ) → 0 < n → n ≤ setup.seats → HasPart n ps)
      → (o : maybe.Option ℕ) → k.core.out ≡ o → k.core.out ≡ none
  all_home setup s k id ps at all none e = e
  all_home setup s k id ps at all (some j) e =
      let h = k.in_turn j e in
      let ok = k.each_view j h.0 h.1 in
      let t = turns_seat setup k.core j h.0.parts h.0.stage h.2 ok.knows ok.sits in
      let mine = sits_at setup k.core id t.0 ps (all t.0 t.1 t.2) (k.each_view id (view_of Resting ps) at).sits in
      let one : j ≡ id = sym t.3 ∙ mine in
      let is : h.0 ≡ view_of Resting ps = some-injective h.0 (view_of Resting ps) (sym h.1 ∙ (ap (get_elem? s.views) one ∙ at)) in
      absurd (subst (λ (d : D). IsInTurn d.stage) is h.2)

  -- what the passes know of the value at the end
  pub record Ended (setup : Setup V) (ps : List P) (xs : List (Option V)) : Type 0 where
    pub last : V
    pub lies : get_elem? xs 0 ≡ some (Some last)
    pub same : fixed last ≡ fixed setup.start.value
    pub seen : AllByRecursion (λ p. Follows owner p.seat p.seen (history last) × (p.room ≤ room last p.seat)) ps

  pub ends : (setup : Setup V) (id : ℕ) (ps : List P) (ws : List ℕ) (xs : List (Option V)) → ((n : ℕ) → 0 < n → n ≤ setup.seats → HasPart n ps)
      → Final (Seen (Rule setup) id (view_of Resting ps)) ws xs → Ended setup ps xs
  ends setup id ps ws xs all f =
      let s = f.0 in
      let k = f.1.0 in
      let c : Core V E = k.core in
      let out = all_home setup s k id ps f.1.1 all c.out refl in
      record {
        last = c.last;
        lies = f.4 0 (Some c.last) (ap (λ (l : List (maybe.Option (Option V))). get_elem? l 0) (k.slot_is ∙ ap (λ (o : maybe.Option ℕ). home o c.last ∷ []) out));
        same = k.same;
        seen = each_map (R c.last c.words c.noted) (λ p. Follows owner p.seat p.seen (history c.last) × (p.room ≤ room c.last p.seat)) ps (λ p r. (r.seen, r.roomy)) (k.each_view id (view_of Resting ps) f.1.1).knows;
      }

  pub starts_as : (setup : Setup V) (v : V) (ws : List ℕ) (xs : List (Option V)) → setup.start.value ≡ v → ws ≡ replicate (2 * setup.seats + 2) 0 → xs ≡ Some v ∷ [] → setup.seats ≤ 64
      → ((k : ℕ) → 0 < k → k ≤ setup.seats → waiting (history v) k ≡ false) → Rule setup (opening ws xs (first_view fixed history owner waiting room setup))
  starts_as setup v ws xs is words slots few quiet =
      let up : 2 * setup.seats + 2 ≡ suc (suc (setup.seats + setup.seats)) = omega arith in
      let ws' : ws ≡ 0 ∷ 0 ∷ (replicate setup.seats 0 ++ replicate setup.seats 0) = words ∙ (ap (λ n. replicate n 0) up ∙ ap (λ (l : List ℕ). 0 ∷ 0 ∷ l) (sym (replicate-append-replicate setup.seats setup.seats 0))) in
      let xs' : xs ≡ Some setup.start.value ∷ [] = slots ∙ ap (λ (x : V). Some x ∷ []) (sym is) in
      subst (λ (y : List ℕ × List (Option V)). Rule setup (opening y.0 y.1 (first_view fixed history owner waiting room setup))) (λ i. (sym ws' i, sym xs' i))
      (starts setup few (λ k low high. ap (λ (x : V). waiting (history x) k) is ∙ quiet k low high))

  -- the first of the seats that are left is cut off
  pub deals : (setup : Setup V) (id k n : ℕ) (m : Me (Option V) D) → 0 < n → m ≡ (view_of Resting (from setup k n), []) → Splits (Rule setup) id m.0 (first_part m.0) (other_parts m.0)
  deals setup id k zero m low is = absurd (omega arith)
  deals setup id k (suc n) m low is = subst (λ (y : Me (Option V) D). Splits (Rule setup) id y.0 (first_part y.0) (other_parts y.0)) (sym is) (splits setup id (fresh setup k) (from setup (suc k) n))

  pub dealt : (setup : Setup V) (k n : ℕ) (m m' : Me (Option V) D) → 0 < n → m ≡ (view_of Resting (from setup k n), []) → m' ≡ (first_part m.0, m.1) → m' ≡ (view_of Resting (fresh setup k ∷ []), [])
  dealt setup k zero m m' low is e = absurd (omega arith)
  dealt setup k (suc n) m m' low is e = let f : Me (Option V) D → Me (Option V) D = λ y. (first_part y.0, y.1) in e ∙ ap f is

  pub left_over : (setup : Setup V) (k n : ℕ) (m m' : Me (Option V) D) → 0 < n → m ≡ (view_of Resting (from setup k n), []) → m' ≡ (other_parts m.0, []) → m' ≡ (view_of Resting (from setup (k + 1) (n - 1)), [])
  left_over setup k zero m m' low is e = absurd (omega arith)
  left_over setup k (suc n) m m' low is e =
      let f : Me (Option V) D → Me (Option V) D = λ y. (other_parts y.0, []) in
      let up : suc k ≡ k + 1 = omega arith in
      let down : n ≡ suc n - 1 = omega arith in
      let h : ℕ → ℕ → Me (Option V) D = λ a b. (view_of Resting (from setup a b), []) in
      e ∙ ap f is ∙ (λ i. h (up i) (down i))

  pub numbered_more : (z : TableId) (setup : Setup V) (k : ℕ) (ps : List (ℕ × Seat (Option V) D)) (q : ℕ × Seat (Option V) D) → Numbered history room z setup k ps → q.0 ≡ k + length ps → q.1.table_id ≡ z
      → q.1.me ≡ (view_of Resting (fresh setup q.0 ∷ []), []) → Numbered history room z setup k (ps ++ q ∷ [])
  numbered_more z setup k [] q n at of is = let e : q.0 ≡ k = omega arith in (e, of, is ∙ (let f : ℕ → Me (Option V) D = λ j. (view_of Resting (fresh setup j ∷ []), []) in ap f e), tt)
  numbered_more z setup k (p ∷ ps) q n at of is = (n.0, n.1, n.2, numbered_more z setup (k + 1) ps q n.3 (omega arith) of is)

  pub numbered_push : {A : Type 0} (z : TableId) (setup : Setup V) (k : ℕ) (old new : List A) (x : A) (f : A → ℕ × Seat (Option V) D) → new ≡ old ++ x ∷ [] → Numbered history room z setup k (map f old) → (f x).0 ≡ k + length old → (f x).1.table_id ≡ z
      → (f x).1.me ≡ (view_of Resting (fresh setup (f x).0 ∷ []), []) → Numbered history room z setup k (map f new)
  numbered_push z setup k old new x f is n at of me =
      subst (Numbered history room z setup k) (sym (ap (map f) is ∙ map-append f old (x ∷ [])))
      (numbered_more z setup k (map f old) (f x) n (at ∙ ap (λ (l : ℕ). k + l) (sym (length-map old f))) of me)

  pub last_part : (setup : Setup V) (k n : ℕ) (m : Me (Option V) D) → n ≡ 1 → m ≡ (view_of Resting (from setup k n), []) → m ≡ (view_of Resting (fresh setup k ∷ []), [])
  last_part setup k n m one is = is ∙ (let h : ℕ → Me (Option V) D = λ j. (view_of Resting (from setup k j), []) in ap h one)
