-- The steps as the calls make them.
use Rattle.std.proofs.Common.{◌≡◌, ◌≢◌, ℕ, ◌+◌, ◌-◌, ◌%◌, ◌^◌, ◌<◌, ◌≤◌, Bool, true, false, List, [], ◌∷◌, length, sym, refl, ap, ◌∙◌, subst, arith, Option, Some, None, IsSome, not, eqb, eq-eqb, ne_eqb, true≢false}
use mathlib.Core.Logic.{dite}
use native.Mathlib.Decide.{ℕ_discrete}
use mathlib.Core.Option.{none}
use Rattle.atomic_table.specs.Table.{State, Me, step, Allows, rest}
use Rattle.turn_table.specs.declared.view.Setup.{Setup}
use Rattle.turn_table.specs.declared.view.Part.{Part}
use Rattle.turn_table.specs.declared.view.Stage.TheVariants.{Resting, Drawn, InTurn}
use Rattle.turn_table.specs.declared.view.View.{View}
use Rattle.turn_table.specs.Histories.{Follows, Grew}
use Rattle.turn_table.specs.Words.{bit, word_of, set_word, TellExactly}
use Rattle.turn_table.proofs.Lists.{tells_seats}
use Rattle.turn_table.specs.Views.{One, view_of, part, opened, seat_in, seen_in, room_in, told_in, words_in, noted_in, setups, at_rest, in_turn}
use Rattle.turn_table.specs.Kept.{Kept}
use Rattle.turn_table.specs.Plays.{Opens, served, passed, raised, looked, drew, lowered}
use Rattle.turn_table.proofs.Steps.{draws, serves, passes, raises, lowers, looks, option_or}

pub told_not : (r : ℕ) (told : Bool) → (r ≡ 0 → told ≡ false) → (r ≢ 0 → told ≡ true) → told ≡ not (eqb r 0)
told_not r told zeros others = dite (ℕ_discrete r 0) (λ e. zeros e ∙ ap not (sym (eq-eqb r 0 e))) (λ n. others n ∙ ap not (sym (ne_eqb r 0 n)))

pub is_zero : (r : ℕ) → not (eqb r 0) ≡ false → r ≡ 0
is_zero r low = dite (ℕ_discrete r 0) (λ e. e) (λ n. absurd (true≢false (ap not (sym (ne_eqb r 0 n)) ∙ low)))

module _ {V F E : Type 0} (fixed : V → F) (history : V → List E) (owner : E → ℕ) (waiting : List E → ℕ → Bool) (room : V → ℕ → ℕ) where
  abbrev Mine : Type 0
  Mine = Me (Option V) (View V E)

  abbrev Rule : Setup V → State (Option V) (View V E) → Type 0
  Rule = Kept fixed history owner waiting room

  pub single : (ps : List (Part V E)) → length ps ≡ 1 → One ps
  single [] e = absurd (omega (arith, e))
  single (p ∷ []) e = (p, refl)
  single (p ∷ q ∷ ps) e = absurd (omega (arith, e))

  pub draws_as : (setup : Setup V) (slots id : ℕ) (m : Mine) → m ≡ at_rest m → length m.0.parts ≡ 1 → Allows (Rule setup) slots id m 0 (λ n. (n + 1) % 2 ^ 64) (drew (step slots 0 1 0 none) m)
  draws_as setup slots id m rests one = let p = single m.0.parts one in
      subst (λ (x : Mine). Allows (Rule setup) slots id x 0 (λ n. (n + 1) % 2 ^ 64) (drew (step slots 0 1 0 none) x)) (sym (rests ∙ (let f : List (Part V E) → Mine = λ ps. (view_of Resting ps, []) in ap f p.1)))
      (draws fixed history owner waiting room setup slots id p.0 [])

  -- the seat has drawn the ticket whose word was found
  pub record IsDrawn (found : ℕ) (ps : List (Part V E)) (m : Mine) : Type 0 where
    pub ticket : ℕ
    pub found_is : found ≡ ticket % 2 ^ 64
    pub is : m ≡ (view_of (Drawn ticket) ps, [])

  pub drawn : (m : Mine) (r : ℕ) (m' : Mine) → m ≡ at_rest m → drew (step 0 0 0 0 none) m r m' → IsDrawn r m.0.parts m'
  drawn m r m' rests h = record { ticket = h.0; found_is = h.1; is = h.2 ∙ (let f : Mine → Mine = λ x. (view_of (Drawn h.0) m.0.parts, x.1) in ap f rests) }

  pub serves_as : (setup : Setup V) (slots id found : ℕ) (ps : List (Part V E)) (m : Mine) → length ps ≡ 1 → IsDrawn found ps m
      → Allows (Rule setup) slots id m 1 (λ n. n) (served fixed history owner waiting room (step slots 1 0 0 none) m)
  serves_as setup slots id found ps m one d = let p = single ps one in
      subst (λ (x : Mine). Allows (Rule setup) slots id x 1 (λ n. n) (served fixed history owner waiting room (step slots 1 0 0 none) x)) (sym (d.is ∙ (let f : List (Part V E) → Mine = λ qs. (view_of (Drawn d.ticket) qs, []) in ap f p.1)))
      (serves fixed history owner waiting room setup slots id d.ticket p.0)

  -- the seat has the value, which lies in its slot yet
  pub record Took (p : Part V E) (m : Mine) : Type 0 where
    pub value : V
    pub words : List ℕ
    pub opens : Opens fixed history owner waiting room p value words
    pub is : m ≡ (view_of (InTurn (opened value words [])) (part p.setup p.seat (history value) p.room false ∷ []), (0, Some value) ∷ [])

  pub took : (found r : ℕ) (ps : List (Part V E)) (m m' : Mine) (one : length ps ≡ 1) → IsDrawn found ps m → r ≡ found → served fixed history owner waiting room (step 0 0 0 0 none) m r m' → Took (single ps one).0 m'
  took found r ps m m' one d hit h = let p = single ps one in
      let f : List (Part V E) → View V E = λ qs. view_of (Drawn d.ticket) qs in
      let g = (h d.ticket p.0 (ap (λ (x : Mine). x.0) d.is ∙ ap f p.1)).0 (hit ∙ d.found_is) in
      record { value = g.0; words = g.1; opens = g.2; is = g.3 }

  pub missed : (found r : ℕ) (ps : List (Part V E)) (m m' : Mine) → length ps ≡ 1 → IsDrawn found ps m → r ≢ found → served fixed history owner waiting room (step 0 0 0 0 none) m r m' → IsDrawn found ps m'
  missed found r ps m m' one d miss h = let p = single ps one in
      let f : List (Part V E) → View V E = λ qs. view_of (Drawn d.ticket) qs in
      let g = (h d.ticket p.0 (ap (λ (x : Mine). x.0) d.is ∙ ap f p.1)).1 (λ e. miss (e ∙ sym d.found_is)) in
      record { ticket = d.ticket; found_is = d.found_is; is = g ∙ d.is }

  -- the value is in hand
  pub record Turning (p : Part V E) (value : V) (m : Mine) : Type 0 where
    pub words : List ℕ
    pub opens : Opens fixed history owner waiting room p value words
    pub is : m ≡ (view_of (InTurn (opened value words [])) (part p.setup p.seat (history value) p.room false ∷ []), (0, None) ∷ [])

  abbrev setup_or : Setup V → List (Setup V) → Setup V
  setup_or d [] = d
  setup_or d (x ∷ xs) = x

  abbrev slot_or : Option V → List (ℕ × Option V) → Option V
  slot_or d [] = d
  slot_or d (x ∷ xs) = x.1

  pub in_hand : (p : Part V E) (m m' : Mine) (r : Option V) (x : V) → Took p m → m.1 ≡ (0, r) ∷ rest m.1 → m' ≡ (m.0, (0, None) ∷ rest m.1) → r ≡ Some x → Turning p x m'
  in_hand p m m' r x t lay now is =
      let same : t.value ≡ x = ap (option_or t.value) (ap (slot_or r) (sym (ap (λ (y : Mine). y.1) t.is) ∙ lay) ∙ is) in
      record {
        words = t.words;
        opens = subst (λ v. Opens fixed history owner waiting room p v t.words) same t.opens;
        is = now ∙ (let f : Mine → Mine = λ y. (y.0, (0, None) ∷ rest y.1) in ap f t.is) ∙ (let f : V → Mine = λ v. (view_of (InTurn (opened v t.words [])) (part p.setup p.seat (history v) p.room false ∷ []), (0, None) ∷ []) in ap f same);
      }

  pub laid : (p : Part V E) (m : Mine) (t : Took p m) → m.1 ≡ (0, Some t.value) ∷ rest m.1
  laid p m t = let f : Mine → List (ℕ × Option V) = λ y. (0, Some t.value) ∷ rest y.1 in ap (λ (y : Mine). y.1) t.is ∙ ap f (sym t.is)

  pub some_there : (p : Part V E) (m : Mine) (r : Option V) → Took p m → m.1 ≡ (0, r) ∷ rest m.1 → IsSome r
  some_there p m r t lay = subst (λ (o : Option V). IsSome o) (ap (slot_or r) (sym (ap (λ (y : Mine). y.1) t.is) ∙ lay)) refl

  pub turned : (ps : List (Part V E)) (one : length ps ≡ 1) (value : V) (m : Mine) → Turning (single ps one).0 value m
      → (m ≡ in_turn value m) × (length m.0.parts ≡ 1) × (seat_in m.0.parts ≡ seat_in ps) × (setups m.0.parts ≡ setups ps)
  turned ps one value m h =
      let p = single ps one in
      let x : Mine = (view_of (InTurn (opened value h.words [])) (part p.0.setup p.0.seat (history value) p.0.room false ∷ []), (0, None) ∷ []) in (
        h.is ∙ (let f : Mine → Mine = λ y. in_turn value y in ap f (sym h.is)),
        ap (λ (y : Mine). length y.0.parts) h.is,
        ap (λ (y : Mine). seat_in y.0.parts) h.is ∙ ap seat_in (sym p.1),
        ap (λ (y : Mine). setups y.0.parts) h.is ∙ ap setups (sym p.1),
      )

  -- what an opened turn says of the pass that it was opened with
  pub record Opened_of (setup : Setup V) (number : ℕ) (ps : List (Part V E)) (value : V) (words : List ℕ) : Type 0 where
    pub same : fixed value ≡ fixed setup.start.value
    pub seen : Follows owner number (seen_in ps) (history value)
    pub roomy : room_in ps ≤ room value number
    pub wide : length words ≡ setup.seats
    pub exact : TellExactly waiting (history value) words
    pub told : told_in ps ≡ true → waiting (history value) number ≡ true

  pub opened_of : (setup : Setup V) (number : ℕ) (ps : List (Part V E)) (one : length ps ≡ 1) (value : V) (m : Mine) → seat_in ps ≡ number → setups ps ≡ setup ∷ [] → Turning (single ps one).0 value m
      → Opened_of setup number ps value (words_in m.0.stage)
  opened_of setup number ps one value m at is h =
      let p = single ps one in
      let seat : p.0.seat ≡ number = ap seat_in (sym p.1) ∙ at in
      let told : p.0.setup ≡ setup = ap (setup_or setup) (ap setups (sym p.1) ∙ is) in
      let words : h.words ≡ words_in m.0.stage = ap (λ (y : Mine). words_in y.0.stage) (sym h.is) in
      subst (λ (x : ℕ × Setup V × List (Part V E) × List ℕ). Opened_of x.1 x.0 x.2 value x.3) (λ i. (seat i, told i, sym p.1 i, words i)) (record {
        same = h.opens.same;
        seen = h.opens.seen;
        roomy = h.opens.roomy;
        wide = h.opens.wide;
        exact = tells_seats waiting (history value) h.words p.0.setup.seats h.opens.wide h.opens.exact;
        told = h.opens.told;
      })

  -- the value x is in its slot again
  abbrev handed : (m : Mine) → length m.0.parts ≡ 1 → V → V → Mine
  handed m one v x = (view_of (InTurn (opened v (words_in m.0.stage) (noted_in m.0.stage))) ((single m.0.parts one).0 ∷ []), (0, Some x) ∷ [])

  hands : (m m' : Mine) (v x : V) (one : length m.0.parts ≡ 1) → m ≡ in_turn v m → m' ≡ (m.0, (0, Some x) ∷ rest m.1) → m' ≡ handed m one v x
  hands m m' v x one is now =
      let f : Mine → Mine = λ y. (y.0, (0, Some x) ∷ rest y.1) in
      let h : List (Part V E) → Mine = λ ps. (view_of (InTurn (opened v (words_in m.0.stage) (noted_in m.0.stage))) ps, (0, Some x) ∷ []) in
      now ∙ (ap f is ∙ ap h (single m.0.parts one).1)

  pub passes_as : (setup : Setup V) (slots id : ℕ) (m m' : Mine) (v x : V) (number : ℕ) (one : length m.0.parts ≡ 1) → m ≡ in_turn v m → m' ≡ (m.0, (0, Some x) ∷ rest m.1) → seat_in m.0.parts ≡ number
      → fixed x ≡ fixed v → Grew owner number (history v) (history x) → ((k : ℕ) → k ≢ number → room v k ≤ room x k) → ((k : ℕ) → 0 < k → k ≤ setup.seats → word_of (words_in m.0.stage) k ≡ bit (waiting (history x) k))
      → Allows (Rule setup) slots id m' 1 (λ n. (n + 1) % 2 ^ 64) (passed fixed history owner waiting room (step slots 1 1 0 none) m')
  passes_as setup slots id m m' v x number one is now at same grew rooms exact =
      let p = single m.0.parts one in
      let seat : number ≡ p.0.seat = sym at ∙ ap seat_in p.1 in
      subst (λ (y : Mine). Allows (Rule setup) slots id y 1 (λ n. (n + 1) % 2 ^ 64) (passed fixed history owner waiting room (step slots 1 1 0 none) y)) (sym (hands m m' v x one is now))
      (passes fixed history owner waiting room setup slots id (opened v (words_in m.0.stage) (noted_in m.0.stage)) p.0 x same (subst (λ n. Grew owner n (history v) (history x)) seat grew)
      (subst (λ n. (k : ℕ) → k ≢ n → room v k ≤ room x k) seat rooms) exact)

  -- the pass that comes back, once a bell rang
  pub record Rested (m : Mine) (x : V) (number : ℕ) (m' : Mine) : Type 0 where
    pub rests : m' ≡ at_rest m'
    pub one : length m'.0.parts ≡ 1
    pub seat : seat_in m'.0.parts ≡ number
    pub of : setups m'.0.parts ≡ setups m.0.parts
    pub seen : seen_in m'.0.parts ≡ history x
    pub room_is : room_in m'.0.parts ≡ room x number
    pub told : told_in m'.0.parts ≡ false

  pub rested : (m m' m'' after : Mine) (r : ℕ) (v x : V) (number : ℕ) (one : length m.0.parts ≡ 1) → m ≡ in_turn v m → m' ≡ (m.0, (0, Some x) ∷ rest m.1) → seat_in m.0.parts ≡ number
      → passed fixed history owner waiting room (step 0 0 0 0 none) m' r m'' → after ≡ m'' → Rested m x number after
  rested m m' m'' after r v x number one is now at h rung =
      let p = single m.0.parts one in
      let seat : p.0.seat ≡ number = ap seat_in (sym p.1) ∙ at in
      let e = rung ∙ h (opened v (words_in m.0.stage) (noted_in m.0.stage)) p.0 x (hands m m' v x one is now) in
      record {
        rests = e ∙ ap at_rest (sym e);
        one = ap (λ (y : Mine). length y.0.parts) e;
        seat = ap (λ (y : Mine). seat_in y.0.parts) e ∙ seat;
        of = ap (λ (y : Mine). setups y.0.parts) e ∙ ap setups (sym p.1);
        seen = ap (λ (y : Mine). seen_in y.0.parts) e;
        room_is = ap (λ (y : Mine). room_in y.0.parts) e ∙ ap (room x) seat;
        told = ap (λ (y : Mine). told_in y.0.parts) e;
      }

  -- a turn, with its one part shown
  shows : (m : Mine) (v : V) (one : length m.0.parts ≡ 1) → m ≡ in_turn v m → m ≡ (view_of (InTurn (opened v (words_in m.0.stage) (noted_in m.0.stage))) ((single m.0.parts one).0 ∷ []), (0, None) ∷ [])
  shows m v one is = is ∙ (let f : List (Part V E) → Mine = λ ps. (view_of (InTurn (opened v (words_in m.0.stage) (noted_in m.0.stage))) ps, (0, None) ∷ []) in ap f (single m.0.parts one).1)

  pub raises_as : (setup : Setup V) (slots id : ℕ) (m : Mine) (v : V) (number k : ℕ) (h : List E) → length m.0.parts ≡ 1 → m ≡ in_turn v m → seat_in m.0.parts ≡ number → 0 < k → k ≤ setup.seats → waiting h k ≡ true
      → Grew owner number (history v) h → Allows (Rule setup) slots id m (k + 1) (λ _. 1) (λ _. raised fixed history owner waiting room (step slots (k + 1) 1 0 none) m 1)
  raises_as setup slots id m v number k h one is at low high waits grew =
      let p = single m.0.parts one in
      let seat : number ≡ p.0.seat = sym at ∙ ap seat_in p.1 in
      subst (λ (y : Mine). Allows (Rule setup) slots id y (k + 1) (λ _. 1) (λ _. raised fixed history owner waiting room (step slots (k + 1) 1 0 none) y 1)) (sym (shows m v one is))
      (raises fixed history owner waiting room setup slots id (opened v (words_in m.0.stage) (noted_in m.0.stage)) p.0 ((0, None) ∷ []) k h low high waits (subst (λ n. Grew owner n (history v) h) seat grew))

  pub lowers_as : (setup : Setup V) (slots id : ℕ) (m : Mine) (v : V) (number : ℕ) → length m.0.parts ≡ 1 → m ≡ in_turn v m → seat_in m.0.parts ≡ number
      → Allows (Rule setup) slots id m (number + 1) (λ _. 0) (λ _. lowered (step slots (number + 1) 0 0 none) m 0)
  lowers_as setup slots id m v number one is at =
      let p = single m.0.parts one in
      let seat : p.0.seat ≡ number = ap seat_in (sym p.1) ∙ at in
      subst (λ (y : Mine × ℕ). Allows (Rule setup) slots id y.0 (y.1 + 1) (λ _. 0) (λ _. lowered (step slots (y.1 + 1) 0 0 none) y.0 0)) (λ i. (sym (shows m v one is) i, seat i))
      (lowers fixed history owner waiting room setup slots id (opened v (words_in m.0.stage) (noted_in m.0.stage)) p.0 ((0, None) ∷ []))

  -- the turn after a word was set
  pub record Reworded (m : Mine) (v : V) (words : List ℕ) (m' : Mine) : Type 0 where
    pub is : m' ≡ in_turn v m'
    pub parts : m'.0.parts ≡ m.0.parts
    pub words_are : words_in m'.0.stage ≡ words

  reworded : (m m' : Mine) (v : V) (words : List ℕ) (noted : List (List E)) → m ≡ in_turn v m → m' ≡ (view_of (InTurn (opened v words noted)) m.0.parts, m.1) → Reworded m v words m'
  reworded m m' v words noted is e =
      let g : m' ≡ (view_of (InTurn (opened v words noted)) m.0.parts, (0, None) ∷ []) = e ∙ (let f : Mine → Mine = λ y. (view_of (InTurn (opened v words noted)) m.0.parts, y.1) in ap f is) in
      record {
        is = g ∙ (let f : Mine → Mine = λ y. in_turn v y in ap f (sym g));
        parts = ap (λ (y : Mine). y.0.parts) g;
        words_are = ap (λ (y : Mine). words_in y.0.stage) g;
      }

  pub raised_of : (m m' : Mine) (v : V) (k r : ℕ) → m ≡ in_turn v m → raised fixed history owner waiting room (step 0 (k + 1) 0 0 none) m r m' → Reworded m v (set_word (words_in m.0.stage) k 1) m'
  raised_of m m' v k r is h =
      let g = h (opened v (words_in m.0.stage) (noted_in m.0.stage)) m.0.parts (ap (λ (y : Mine). y.0) is) in
      let down : (k + 1) - 1 ≡ k = omega arith in
      subst (λ n. Reworded m v (set_word (words_in m.0.stage) n 1) m') down (reworded m m' v (set_word (words_in m.0.stage) ((k + 1) - 1) 1) (g.0 ∷ noted_in m.0.stage) is g.2)

  pub lowered_of : (m m' : Mine) (v : V) (k r : ℕ) → m ≡ in_turn v m → lowered (step 0 (k + 1) 0 0 none) m r m' → Reworded m v (set_word (words_in m.0.stage) k 0) m'
  lowered_of m m' v k r is h =
      let g = h (opened v (words_in m.0.stage) (noted_in m.0.stage)) m.0.parts (ap (λ (y : Mine). y.0) is) in
      let down : (k + 1) - 1 ≡ k = omega arith in
      subst (λ n. Reworded m v (set_word (words_in m.0.stage) n 0) m') down (reworded m m' v (set_word (words_in m.0.stage) ((k + 1) - 1) 0) (noted_in m.0.stage) is g)

  pub looks_as : (setup : Setup V) (slots id : ℕ) (m : Mine) (number : ℕ) → length m.0.parts ≡ 1 → m ≡ at_rest m → seat_in m.0.parts ≡ number
      → Allows (Rule setup) slots id m (number + 1) (λ n. n) (looked fixed history owner waiting room (step slots (number + 1) 0 0 none) m)
  looks_as setup slots id m number one rests at =
      let p = single m.0.parts one in
      let seat : p.0.seat ≡ number = ap seat_in (sym p.1) ∙ at in
      let shown : m ≡ (view_of Resting (p.0 ∷ []), []) = rests ∙ (let f : List (Part V E) → Mine = λ ps. (view_of Resting ps, []) in ap f p.1) in
      subst (λ (y : Mine × ℕ). Allows (Rule setup) slots id y.0 (y.1 + 1) (λ n. n) (looked fixed history owner waiting room (step slots (y.1 + 1) 0 0 none) y.0)) (λ i. (sym shown i, seat i))
      (looks fixed history owner waiting room setup slots id p.0 [])

  -- the pass after a look
  pub record LookedAt (ps : List (Part V E)) (number r : ℕ) (m' : Mine) : Type 0 where
    pub rests : m' ≡ at_rest m'
    pub one : length m'.0.parts ≡ 1
    pub seat : seat_in m'.0.parts ≡ number
    pub of : setups m'.0.parts ≡ setups ps
    pub room_is : room_in m'.0.parts ≡ room_in ps
    pub seen : Follows owner number (seen_in ps) (seen_in m'.0.parts)
    pub none : r ≡ 0 → (told_in m'.0.parts ≡ false) × (waiting (seen_in m'.0.parts) number ≡ false)
    pub some : r ≢ 0 → told_in m'.0.parts ≡ true

  pub looked_of : (m m' : Mine) (number r : ℕ) → length m.0.parts ≡ 1 → m ≡ at_rest m → seat_in m.0.parts ≡ number → looked fixed history owner waiting room (step 0 0 0 0 none) m r m' → LookedAt m.0.parts number r m'
  looked_of m m' number r one rests at h =
      let p = single m.0.parts one in
      let seat : p.0.seat ≡ number = ap seat_in (sym p.1) ∙ at in
      let f : List (Part V E) → View V E = λ ps. view_of Resting ps in
      let g = h p.0 (ap (λ (y : Mine). y.0) rests ∙ ap f p.1) in
      let e : m' ≡ (view_of Resting (part p.0.setup p.0.seat g.0 p.0.room g.1 ∷ []), []) = g.5 ∙ (let f : Mine → Mine = λ y. (view_of Resting (part p.0.setup p.0.seat g.0 p.0.room g.1 ∷ []), y.1) in ap f rests) in
      let seen : g.0 ≡ seen_in m'.0.parts = ap (λ (y : Mine). seen_in y.0.parts) (sym e) in
      let told : told_in m'.0.parts ≡ g.1 = ap (λ (y : Mine). told_in y.0.parts) e in
      record {
        rests = e ∙ ap at_rest (sym e);
        one = ap (λ (y : Mine). length y.0.parts) e;
        seat = ap (λ (y : Mine). seat_in y.0.parts) e ∙ seat;
        of = ap (λ (y : Mine). setups y.0.parts) e ∙ ap setups (sym p.1);
        room_is = ap (λ (y : Mine). room_in y.0.parts) e ∙ ap room_in (sym p.1);
        seen = subst (λ (x : ℕ × List E × List E). Follows owner x.0 x.1 x.2) (λ i. (seat i, ap seen_in (sym p.1) i, seen i)) g.2;
        none = λ z. (told ∙ (g.3 z).0, subst (λ (x : List E × ℕ). waiting x.0 x.1 ≡ false) (λ i. (seen i, seat i)) (g.3 z).1);
        some = λ n. told ∙ g.4 n;
      }
