-- AllByRecursion step keeps the rule.
use Rattle.std.proofs.Common.{◌≡◌, ◌≢◌, ◌⊎◌, ℕ, ◌+◌, ◌-◌, ◌%◌, ◌^◌, ◌<◌, ◌≤◌, eqb, cond, Bool, true, false, List, [], ◌∷◌, ◌++◌, length, get_or, set, sym, refl, ap, ◌∙◌, subst, inl, inr, ⊎_elim, arith, eq-eqb, ne_eqb, length-set, zero-le, le_trans, le_refl, true≢false, Option, Some, None}
use mathlib.Core.Logic.{dite}
use mathlib.Core.Option.{some, none, some-ne-none, some-injective}
use mathlib.Core.Option as maybe
use native.Mathlib.Decide.{ℕ_discrete}
use lib.ListN.{get_elem?}
use lib.Seq.{set-get_or}
use Rattle.atomic_table.specs.Table.{State, Me, step, keeps, takes, gives, Allows}
use Rattle.atomic_table.proofs.Lists.{set_else, set_again, one_turn}
use Rattle.turn_table.specs.declared.view.Setup.{Setup}
use Rattle.turn_table.specs.declared.view.Part.{Part}
use Rattle.turn_table.specs.declared.view.Opened.{Opened}
use Rattle.turn_table.specs.declared.view.Stage.{Stage}
use Rattle.turn_table.specs.declared.view.Stage.TheVariants.{Resting, Drawn, InTurn}
use Rattle.turn_table.specs.declared.view.View.{View}
use Rattle.turn_table.specs.Histories.{Follows, Grew}
use Rattle.turn_table.specs.Words.{bit, word_of, set_word}
use Rattle.std.specs.List.{AllByRecursion}
use Rattle.turn_table.specs.Kept.{Core, home, Noted, Rests, Knows, Sits, ViewOk, Kept}
use Rattle.turn_table.specs.Views.{view_of, tickets_in, tickets, places, IsInTurn, part, opened}
use Rattle.turn_table.specs.Plays.{Opens, served, passed, raised, looked, drew, rang, lowered}
use Rattle.turn_table.proofs.Lists.{set_there, total_set, total_le, stay, each_and, follows_same, follows_more, word_here, word_else, get_seat, set_seat, set_bell}

-- the function with x at k
abbrev pub put : (ℕ → ℕ) → ℕ → ℕ → ℕ → ℕ
put f k x n = cond (eqb n k) x (f n)

pub put_here : (f : ℕ → ℕ) (k x : ℕ) → put f k x k ≡ x
put_here f k x = ap (λ b. cond b x (f k)) (eq-eqb k k refl)

pub put_else : (f : ℕ → ℕ) (k x n : ℕ) → n ≢ k → put f k x n ≡ f n
put_else f k x n apart = ap (λ b. cond b x (f n)) (ne_eqb n k apart)

pub unset : (b : Bool) → bit b ≡ 0 → b ≡ false
unset true e = absurd (omega (arith, e))
unset false e = refl

pub set_bit : (b : Bool) → bit b ≢ 0 → b ≡ true
set_bit true n = refl
set_bit false n = absurd (n refl)

abbrev pub option_or : {V : Type 0} → V → Option V → V
option_or d None = d
option_or d (Some v) = v

abbrev pub value_or : {V : Type 0} → V → List (ℕ × Option V) → V
value_or d [] = d
value_or d (x ∷ xs) = option_or d x.1

module _ {V E : Type 0} where
  abbrev pub ticket_in : Stage V E → ℕ
  ticket_in (Drawn t) = t
  ticket_in _ = 0

  abbrev pub part_or : Part V E → List (Part V E) → Part V E
  part_or p [] = p
  part_or p (q ∷ qs) = q

  abbrev pub opened_or : Opened V E → Stage V E → Opened V E
  opened_or d (InTurn o) = o
  opened_or d _ = d

  -- the core after each step of the seat id
  abbrev drawing : Core V E → ℕ → Core V E
  drawing c id = record { last = c.last; ticket = c.ticket + 1; serving = c.serving; words = c.words; out = c.out; noted = c.noted; place = c.place; drawer = put c.drawer c.ticket id }

  abbrev taking : Core V E → ℕ → Core V E
  taking c id = record { last = c.last; ticket = c.ticket; serving = c.serving; words = c.words; out = some id; noted = []; place = c.place; drawer = c.drawer }

  abbrev wording : Core V E → List ℕ → List (List E) → Core V E
  wording c words noted = record { last = c.last; ticket = c.ticket; serving = c.serving; words = words; out = c.out; noted = noted; place = c.place; drawer = c.drawer }

  abbrev passing : Core V E → V → Core V E
  passing c v = record { last = v; ticket = c.ticket; serving = c.serving + 1; words = c.words; out = none; noted = []; place = c.place; drawer = c.drawer }

  -- where the view of one seat changes, a turn stays
  pub turn_stays : (vs : List (View V E)) (me : ℕ) (v w : View V E) → get_elem? vs me ≡ some v → (IsInTurn v.stage → IsInTurn w.stage) → (out : maybe.Option ℕ)
      → ((id : ℕ) → out ≡ some id → (d : View V E) × (get_elem? vs id ≡ some d) × IsInTurn d.stage)
      → (id : ℕ) → out ≡ some id → (d : View V E) × (get_elem? (set vs me w) id ≡ some d) × IsInTurn d.stage
  turn_stays vs me v w at so out was id e = let h = was id e in dite (ℕ_discrete id me)
      (λ same. let is : v ≡ h.0 = some-injective v h.0 (sym at ∙ (ap (get_elem? vs) (sym same) ∙ h.1)) in
      (w, ap (get_elem? (set vs me w)) same ∙ set_there vs me w v at, so (subst (λ (d : View V E). IsInTurn d.stage) (sym is) h.2)))
      (λ other. (h.0, set_else vs me id w other ∙ h.1, h.2))

module _ {V F E : Type 0} (fixed : V → F) (history : V → List E) (owner : E → ℕ) (waiting : List E → ℕ → Bool) (room : V → ℕ → ℕ) where
  abbrev D : Type 0
  D = View V E

  abbrev St : Type 0
  St = State (Option V) D

  abbrev Mine : Type 0
  Mine = Me (Option V) D

  abbrev Rule : Setup V → St → Type 0
  Rule = Kept fixed history owner waiting room

  abbrev Ok : Setup V → Core V E → ℕ → D → Type 0
  Ok = ViewOk fixed history owner waiting room

  abbrev R : V → List ℕ → List (List E) → Part V E → Type 0
  R = Rests fixed history owner waiting room

  abbrev Kn : Core V E → ℕ → List (Part V E) → Stage V E → Type 0
  Kn = Knows fixed history owner waiting room

  abbrev Sit : Setup V → Core V E → ℕ → Part V E → Type 0
  Sit = Sits fixed history owner waiting room

  -- a step of the seat me, which leaves the core c and the view w
  moves : (setup : Setup V) (s : St) (k : Rule setup s) (c : Core V E) (words' : List ℕ) (homes' : List (maybe.Option (Option V))) (me : ℕ) (v w : D) → get_elem? s.views me ≡ some v
      → words' ≡ c.ticket % 2 ^ 64 ∷ c.serving % 2 ^ 64 ∷ (c.words ++ k.bells) → homes' ≡ home c.out c.last ∷ [] → length c.words ≡ setup.seats
      → c.serving + tickets w + k.core.ticket ≡ c.ticket + tickets v + k.core.serving → places w ≡ places v → fixed c.last ≡ fixed setup.start.value
      → (c.out ≡ none → (j : ℕ) → 0 < j → j ≤ setup.seats → word_of c.words j ≡ bit (waiting (history c.last) j)) → (c.out ≡ none → c.noted ≡ [])
      → ((id : ℕ) → c.out ≡ some id → (d : D) × (get_elem? (set s.views me w) id ≡ some d) × IsInTurn d.stage)
      → Ok setup c me w → ((j : ℕ) (d : D) → j ≢ me → get_elem? s.views j ≡ some d → Ok setup k.core j d → Ok setup c j d)
      → Rule setup record { words = words'; homes = homes'; views = set s.views me w }
  moves setup s k c words' homes' me v w at ws hs wide balance sits same exact quiet turn mine others = record {
    core = c;
    bells = k.bells;
    words_are = ws;
    slot_is = hs;
    wide = wide;
    few = k.few;
    queue = let a = total_set tickets s.views me v w at in let b = k.queue in omega arith;
    all_sit = let a = total_set places s.views me v w at in let b = k.all_sit in omega arith;
    same = same;
    exact = exact;
    quiet = quiet;
    in_turn = turn;
    each_view = stay (Ok setup c) s.views me w mine (λ j d other e. others j d other e (k.each_view j d e));
  }

  -- nothing changes
  unmoved : (setup : Setup V) (s : St) (i me : ℕ) (v : D) → get_elem? s.views me ≡ some v → Rule setup s
      → Rule setup record { words = set s.words i (get_or s.words i 0); homes = s.homes; views = set s.views me v }
  unmoved setup s i me v at k = subst (λ (x : List ℕ × List D). Rule setup record { words = x.0; homes = s.homes; views = x.1 }) (λ j. (sym (set-get_or s.words i 0) j, sym (set_again s.views me v at) j)) k

  few_tickets : (c : Core V E) (id : ℕ) (ps : List (Part V E)) (st : Stage V E) → Kn c id ps st → tickets_in st ≤ length ps
  few_tickets c id ps Resting k = zero-le
  few_tickets c id ps (Drawn t) k = let e = ap (λ l. length l) k.0.1 in omega arith
  few_tickets c id ps (InTurn o) k = let e = ap (λ l. length l) k.0.1 in omega arith

  pub bound : (setup : Setup V) (s : St) (k : Rule setup s) → k.core.ticket ≤ k.core.serving + 64
  bound setup s k =
      let a = total_le tickets places s.views (λ i d e. few_tickets k.core i d.parts d.stage (k.each_view i d e).knows) in
      let b = k.queue in let c = k.all_sit in let f = k.few in omega arith

  -- a seat draws a ticket
  others_draw : (c : Core V E) (id j : ℕ) (ps : List (Part V E)) (st : Stage V E) → Kn c j ps st → Kn (drawing c id) j ps st
  others_draw c id j ps Resting k = k
  others_draw c id j ps (Drawn t) k = let l = k.3 in (k.0, k.1, k.2, omega arith, put_else c.drawer c.ticket id t (λ e. omega arith) ∙ k.4)
  others_draw c id j ps (InTurn o) k = let l = k.3 in (k.0, k.1, k.2, omega arith, put_else c.drawer c.ticket id c.serving (λ e. omega arith) ∙ k.4, k.5)

  pub draws : (setup : Setup V) (slots id : ℕ) (p : Part V E) (carried : List (ℕ × Option V))
      → Allows (Rule setup) slots id (view_of Resting (p ∷ []), carried) 0 (λ n. (n + 1) % 2 ^ 64) (drew (step slots 0 1 0 none) (view_of Resting (p ∷ []), carried))
  draws setup slots id p carried s k _ at fits =
      let c : Core V E = k.core in
      let v : D = view_of Resting (p ∷ []) in
      let w : D = view_of (Drawn c.ticket) (p ∷ []) in
      let ok = k.each_view id v at in
      let b = k.queue in (
        w,
        keeps,
        tt,
        moves setup s k (drawing c id) _ _ id v w at
            (ap (λ (l : List ℕ). set l 0 ((get_or l 0 0 + 1) % 2 ^ 64)) k.words_are ∙ ap (λ (x : ℕ). x ∷ c.serving % 2 ^ 64 ∷ (c.words ++ k.bells)) (let e : (c.ticket % 2 ^ 64 + 1) % 2 ^ 64 ≡ (c.ticket + 1) % 2 ^ 64 = omega arith in e))
            k.slot_is k.wide (omega arith) refl k.same k.exact k.quiet
            (turn_stays s.views id v w at (λ z. z) c.out k.in_turn)
            (record { sits = ok.sits; distinct = ok.distinct; knows = ((p, refl), ok.knows, omega arith, omega arith, put_here c.drawer c.ticket id) })
            (λ j d other e o. record { sits = o.sits; distinct = o.distinct; knows = others_draw c id j d.parts d.stage o.knows }),
        (c.ticket, ap (λ (l : List ℕ). get_or l 0 0) k.words_are, refl),
      )

  -- a seat reads who is served, and takes the value where it is the one
  turn_of : (c : Core V E) (id : ℕ) (ps : List (Part V E)) (st : Stage V E) → Kn c id ps st → IsInTurn st → c.drawer c.serving ≡ id
  turn_of c id ps Resting k i = absurd i
  turn_of c id ps (Drawn t) k i = absurd i
  turn_of c id ps (InTurn o) k i = k.4

  others_take : (c : Core V E) (id j : ℕ) (ps : List (Part V E)) (st : Stage V E) → c.out ≡ none → c.noted ≡ [] → Kn c j ps st → Kn (taking c id) j ps st
  others_take c id j ps Resting out quiet k = subst (λ (n : List (List E)). AllByRecursion (R c.last c.words n) ps) quiet k
  others_take c id j ps (Drawn t) out quiet k = (k.0, subst (λ (n : List (List E)). AllByRecursion (R c.last c.words n) ps) quiet k.1, k.2, k.3, k.4)
  others_take c id j ps (InTurn o) out quiet k = absurd (some-ne-none j (sym k.1 ∙ out))

  -- who is served has the value to itself: none has it yet
  at_home : (setup : Setup V) (s : St) (k : Rule setup s) (id t : ℕ) (p : Part V E) → get_elem? s.views id ≡ some (view_of (Drawn t) (p ∷ [])) → k.core.serving ≡ t
      → (o : maybe.Option ℕ) → k.core.out ≡ o → k.core.out ≡ none
  at_home setup s k id t p at same none e = e
  at_home setup s k id t p at same (some j) e =
      let h = k.in_turn j e in
      let theirs = turn_of k.core j h.0.parts h.0.stage (k.each_view j h.0 h.1).knows h.2 in
      let mine = (k.each_view id (view_of (Drawn t) (p ∷ [])) at).knows.4 in
      let one : j ≡ id = sym theirs ∙ (ap k.core.drawer same ∙ mine) in
      let is : h.0 ≡ view_of (Drawn t) (p ∷ []) = some-injective h.0 (view_of (Drawn t) (p ∷ [])) (sym h.1 ∙ (ap (get_elem? s.views) one ∙ at)) in
      absurd (subst (λ (d : D). IsInTurn d.stage) is h.2)

  abbrev Told : Part V E → ℕ → ℕ → Mine → Mine → Type 0
  Told p t r m m' = (r ≡ t % 2 ^ 64 → (v : V) × (words : List ℕ) × Opens fixed history owner waiting room p v words
      × (m' ≡ (view_of (InTurn (opened v words [])) (part p.setup p.seat (history v) p.room false ∷ []), (0, Some v) ∷ [])))
      × (r ≢ t % 2 ^ 64 → m' ≡ m)

  told_any : (t : ℕ) (p : Part V E) (r : ℕ) (m' : Mine) → Told p t r (view_of (Drawn t) (p ∷ []), []) m'
      → (t' : ℕ) (p' : Part V E) → view_of (Drawn t) (p ∷ []) ≡ view_of (Drawn t') (p' ∷ []) → Told p' t' r (view_of (Drawn t) (p ∷ []), []) m'
  told_any t p r m' h t' p' e =
      subst (λ (x : ℕ × Part V E). Told x.1 x.0 r (view_of (Drawn t) (p ∷ []), []) m') (λ i. (ticket_in (e i).stage, part_or p (e i).parts)) h

  pub serves : (setup : Setup V) (slots id t : ℕ) (p : Part V E)
      → Allows (Rule setup) slots id (view_of (Drawn t) (p ∷ []), []) 1 (λ n. n) (served fixed history owner waiting room (step slots 1 0 0 none) (view_of (Drawn t) (p ∷ []), []))
  serves setup slots id t p s k _ at fits =
      let c : Core V E = k.core in
      let v : D = view_of (Drawn t) (p ∷ []) in
      let ok = k.each_view id v at in
      let kn = ok.knows in
      let low = kn.2 in
      let high = kn.3 in
      let few = bound setup s k in
      let found : get_or s.words 1 0 ≡ c.serving % 2 ^ 64 = ap (λ (l : List ℕ). get_or l 1 0) k.words_are in
      dite (ℕ_discrete (get_or s.words 1 0) (t % 2 ^ 64))
      (λ hit.
      let same : c.serving ≡ t = one_turn c.serving t (2 ^ 64) low (omega arith) (sym found ∙ hit) in
      let out = at_home setup s k id t p at same c.out refl in
      let quiet = k.quiet out in
      let w : D = view_of (InTurn (opened c.last c.words [])) (part p.setup p.seat (history c.last) p.room false ∷ []) in
      let r = kn.1.0 in
      let sit = ok.sits.0 in
      let nothing : (word : ℕ) → word_of c.words p.seat ≢ 0 → (waiting (history c.last) p.seat ≡ true) = λ _ raised.
      ⊎_elim (λ (h : waiting (history c.last) p.seat ≡ true). h) (λ (h : Noted fixed history owner waiting room p.seat c.noted). absurd (subst (Noted fixed history owner waiting room p.seat) quiet h)) (r.raised raised) in (
        w,
        takes 0 (Some c.last),
        ap (λ (l : List (maybe.Option (Option V))). get_elem? l 0) (k.slot_is ∙ ap (λ (o : maybe.Option ℕ). home o c.last ∷ []) out),
        moves setup s k (taking c id) _ _ id v w at
            (set-get_or s.words 1 0 ∙ k.words_are)
            (ap (λ (l : List (maybe.Option (Option V))). set l 0 none) k.slot_is) k.wide (omega arith) refl k.same
            (λ e. absurd (some-ne-none id e)) (λ _. refl)
            (λ j e. let mine : id ≡ j = some-injective id j e in (w, ap (get_elem? (set s.views id w)) (sym mine) ∙ set_there s.views id w v at, tt))
            (record {
              sits = (sit, tt);
              distinct = (tt, tt);
              knows = ((part p.setup p.seat (history c.last) p.room false, refl), refl, refl, omega arith, ap c.drawer same ∙ kn.4, ((refl, tt), tt));
            })
            (λ j d other e o. record { sits = o.sits; distinct = o.distinct; knows = others_take c id j d.parts d.stage out quiet o.knows }),
        told_any t p (get_or s.words 1 0) (w, (0, Some c.last) ∷ []) (
          (λ _. (
            c.last,
            c.words,
            record {
              same = k.same ∙ ap (λ (a : Setup V). fixed a.start.value) (sym sit.0);
              seen = r.seen;
              roomy = r.roomy;
              wide = k.wide ∙ ap (λ (a : Setup V). a.seats) (sym sit.0);
              exact = λ n n₀ n₁. k.exact out n n₀ (subst (λ (a : Setup V). n ≤ a.seats) sit.0 n₁);
              told = λ e. nothing 0 (r.told e);
            },
            refl,
          )),
          (λ miss. absurd (miss hit)),
        ),
      ))
      (λ miss. (
        v,
        keeps,
        tt,
        unmoved setup s 1 id v at k,
        told_any t p (get_or s.words 1 0) (v, []) ((λ hit. absurd (miss hit)), (λ _. refl)),
      ))

  -- a seat puts the value back, and the next is served
  noted_none : (seat : ℕ) → Noted fixed history owner waiting room seat [] → ⊥
  noted_none seat h = h

  -- another seat that rests goes on resting over a value that grew by entries of this one
  rests_on : (setup : Setup V) (own : ℕ) (last v : V) (words : List ℕ) (noted : List (List E)) (p : Part V E) → own ≢ p.seat → 0 < p.seat → p.seat ≤ setup.seats → Grew owner own (history last) (history v)
      → ((k : ℕ) → k ≢ own → room last k ≤ room v k) → ((k : ℕ) → 0 < k → k ≤ setup.seats → word_of words k ≡ bit (waiting (history v) k)) → R last words noted p → R v words [] p
  rests_on setup own last v words noted p apart low high grew rooms exact r =
      let here = exact p.seat low high in record {
        seen = follows_more owner p.seat own p.seen (history last) (history v) apart r.seen grew;
        roomy = le_trans r.roomy (rooms p.seat (λ e. apart (sym e)));
        lowered = λ z. unset (waiting (history v) p.seat) (sym here ∙ z);
        raised = λ n. inl (set_bit (waiting (history v) p.seat) (λ z. n (here ∙ z)));
        told = r.told;
      }

  -- what a step from the value `last` to v asks of a seat and its entries
  record Passing (setup : Setup V) (own : ℕ) (last v : V) (words : List ℕ) : Type 0 where
    grew : Grew owner own (history last) (history v)
    rooms : (k : ℕ) → k ≢ own → room last k ≤ room v k
    exact : (k : ℕ) → 0 < k → k ≤ setup.seats → word_of words k ≡ bit (waiting (history v) k)

  rest_on : (setup : Setup V) (c : Core V E) (id j own : ℕ) (v : V) (ps : List (Part V E)) → j ≢ id → c.place own ≡ id → Passing setup own c.last v c.words
      → AllByRecursion (Sit setup c j) ps → AllByRecursion (R c.last c.words c.noted) ps → AllByRecursion (R v c.words []) ps
  rest_on setup c id j own v ps other here g sits k = each_and (Sit setup c j) (R c.last c.words c.noted) (R v c.words []) ps
      (λ p a r. rests_on setup own c.last v c.words c.noted p (λ e. other (sym a.3 ∙ (ap c.place (sym e) ∙ here))) a.1 a.2 g.grew g.rooms g.exact r) sits k

  others_pass : (setup : Setup V) (c : Core V E) (id j own : ℕ) (v : V) (ps : List (Part V E)) (st : Stage V E) → j ≢ id → c.out ≡ some id → c.drawer c.serving ≡ id → c.place own ≡ id
      → Passing setup own c.last v c.words → AllByRecursion (Sit setup c j) ps → Kn c j ps st → Kn (passing c v) j ps st
  others_pass setup c id j own v ps Resting other out mine here g sits k = rest_on setup c id j own v ps other here g sits k
  others_pass setup c id j own v ps (Drawn t) other out mine here g sits k =
      let late : t ≢ c.serving = λ e. other (sym k.4 ∙ (ap c.drawer e ∙ mine)) in
      let low = k.2 in
      let more : c.serving + 1 ≤ t = omega arith in
      (k.0, rest_on setup c id j own v ps other here g sits k.1, more, k.3, k.4)
  others_pass setup c id j own v ps (InTurn o) other out mine here g sits k = absurd (other (some-injective j id (sym k.1 ∙ out)))

  resting : (setup : Setup V) (words : List ℕ) (v : V) (a : Setup V) (seat : ℕ) → 0 < seat → seat ≤ setup.seats → ((n : ℕ) → 0 < n → n ≤ setup.seats → word_of words n ≡ bit (waiting (history v) n))
      → R v words [] (part a seat (history v) (room v seat) false)
  resting setup words v a seat low high exact = let here = exact seat low high in record {
    seen = follows_same owner seat (history v);
    roomy = le_refl (room v seat);
    lowered = λ z. unset (waiting (history v) seat) (sym here ∙ z);
    raised = λ n. inl (set_bit (waiting (history v) seat) (λ z. n (here ∙ z)));
    told = λ e. absurd (true≢false (sym e));
  }

  pub passes : (setup : Setup V) (slots id : ℕ) (o : Opened V E) (p : Part V E) (v : V) → fixed v ≡ fixed o.value → Grew owner p.seat (history o.value) (history v)
      → ((k : ℕ) → k ≢ p.seat → room o.value k ≤ room v k) → ((k : ℕ) → 0 < k → k ≤ setup.seats → word_of o.words k ≡ bit (waiting (history v) k))
      → Allows (Rule setup) slots id (view_of (InTurn o) (p ∷ []), (0, Some v) ∷ []) 1 (λ n. (n + 1) % 2 ^ 64) (passed fixed history owner waiting room (step slots 1 1 0 none) (view_of (InTurn o) (p ∷ []), (0, Some v) ∷ []))
  passes setup slots id o p v stays grew rooms exact s k _ at fits =
      let c : Core V E = k.core in
      let u : D = view_of (InTurn o) (p ∷ []) in
      let ok = k.each_view id u at in
      let kn = ok.knows in
      let sit = ok.sits.0 in
      let is : o.value ≡ c.last = ap (λ (x : Opened V E). x.value) kn.2 in
      let words : o.words ≡ c.words = ap (λ (x : Opened V E). x.words) kn.2 in
      let g : Passing setup p.seat c.last v c.words = record {
        grew = subst (λ (x : V). Grew owner p.seat (history x) (history v)) is grew;
        rooms = subst (λ (x : V). (n : ℕ) → n ≢ p.seat → room x n ≤ room v n) is rooms;
        exact = subst (λ (ws : List ℕ). (n : ℕ) → 0 < n → n ≤ setup.seats → word_of ws n ≡ bit (waiting (history v) n)) words exact;
      } in
      let w : D = view_of Resting (part p.setup p.seat (history v) (room v p.seat) false ∷ []) in
      let high = kn.3 in (
        w,
        gives,
        tt,
        moves setup s k (passing c v) _ _ id u w at
            (ap (λ (l : List ℕ). set l 1 ((get_or l 1 0 + 1) % 2 ^ 64)) k.words_are ∙ ap (λ (x : ℕ). c.ticket % 2 ^ 64 ∷ x ∷ (c.words ++ k.bells)) (let e : (c.serving % 2 ^ 64 + 1) % 2 ^ 64 ≡ (c.serving + 1) % 2 ^ 64 = omega arith in e))
            (ap (λ (l : List (maybe.Option (Option V))). set l 0 (some (Some v))) k.slot_is) k.wide (omega arith) refl (stays ∙ (ap fixed is ∙ k.same))
            (λ _. g.exact) (λ _. refl) (λ j e. absurd (some-ne-none j (sym e)))
            (record { sits = (sit, tt); distinct = (tt, tt); knows = (resting setup c.words v p.setup p.seat sit.1 sit.2 g.exact, tt) })
            (λ j d other e x. record { sits = x.sits; distinct = x.distinct; knows = others_pass setup c id j p.seat v d.parts d.stage other kn.1 kn.4 sit.3 g x.sits x.knows }),
        (let f : Mine → Mine = λ m. let q : Part V E = part_or p m.0.parts in let u : V = value_or v m.1 in (view_of Resting (part q.setup q.seat (history u) (room u q.seat) false ∷ []), []) in λ o' p' v' e. ap f e),
      )

  -- a seat rings a bell
  pub rings : (setup : Setup V) (slots id : ℕ) (m : Mine) (word : ℕ) → setup.seats + 1 < word
      → Allows (Rule setup) slots id m word (λ n. (n + 1) % 2 ^ 64) (rang (step slots word 1 0 none) m)
  rings setup slots id m word high s k _ at fits =
      let c : Core V E = k.core in
      let wide = k.wide in
      let n : ℕ = (get_or s.words word 0 + 1) % 2 ^ 64 in
      let b = set_bell (c.ticket % 2 ^ 64) (c.serving % 2 ^ 64) c.words k.bells word n (omega (arith, wide, high)) in (
        m.0,
        keeps,
        tt,
        subst (λ (vs : List D). Rule setup record { words = set s.words word n; homes = s.homes; views = vs }) (sym (set_again s.views id m.0 at)) (record {
          core = c;
          bells = b.0;
          words_are = ap (λ (l : List ℕ). set l word n) k.words_are ∙ b.1;
          slot_is = k.slot_is;
          wide = k.wide;
          few = k.few;
          queue = k.queue;
          all_sit = k.all_sit;
          same = k.same;
          exact = k.exact;
          quiet = k.quiet;
          in_turn = k.in_turn;
          each_view = k.each_view;
        }),
        refl,
      )

  -- a seat in turn raises the word of a seat, and notes a history at which something waits for it
  noted_more : (seat : ℕ) (h : List E) (hs : List (List E)) (b : Type 0) → b ⊎ Noted fixed history owner waiting room seat hs → b ⊎ Noted fixed history owner waiting room seat (h ∷ hs)
  noted_more seat h hs b e = ⊎_elim (λ x. inl x) (λ x. inr (inr x)) e

  rests_raised : (c : Core V E) (k : ℕ) (h : List E) (p : Part V E) → 0 < k → k ≤ length c.words → 0 < p.seat → waiting h k ≡ true → R c.last c.words c.noted p → R c.last (set_word c.words k 1) (h ∷ c.noted) p
  rests_raised c k h p low high low' waits r = dite (ℕ_discrete p.seat k)
      (λ same. let here : word_of (set_word c.words k 1) p.seat ≡ 1 = ap (word_of (set_word c.words k 1)) same ∙ word_here c.words k 1 low high in record {
        seen = r.seen;
        roomy = r.roomy;
        lowered = λ z. absurd (omega (arith, here, z));
        raised = λ _. inr (inl (ap (waiting h) same ∙ waits));
        told = λ _ z. omega (arith, here, z);
      })
      (λ other. let here : word_of (set_word c.words k 1) p.seat ≡ word_of c.words p.seat = word_else c.words k p.seat 1 low low' other in record {
        seen = r.seen;
        roomy = r.roomy;
        lowered = λ z. r.lowered (sym here ∙ z);
        raised = λ n. noted_more p.seat h c.noted (waiting (history c.last) p.seat ≡ true) (r.raised (λ z. n (here ∙ z)));
        told = λ t z. r.told t (sym here ∙ z);
      })

  each_raised : (setup : Setup V) (c : Core V E) (j k : ℕ) (h : List E) (ps : List (Part V E)) → 0 < k → k ≤ length c.words → waiting h k ≡ true → AllByRecursion (Sit setup c j) ps → AllByRecursion (R c.last c.words c.noted) ps
      → AllByRecursion (R c.last (set_word c.words k 1) (h ∷ c.noted)) ps
  each_raised setup c j k h ps low high waits sits rs = each_and (Sit setup c j) (R c.last c.words c.noted) (R c.last (set_word c.words k 1) (h ∷ c.noted)) ps (λ p a r. rests_raised c k h p low high a.1 waits r) sits rs

  others_raise : (setup : Setup V) (c : Core V E) (id j k : ℕ) (h : List E) (ps : List (Part V E)) (st : Stage V E) → j ≢ id → c.out ≡ some id → 0 < k → k ≤ length c.words → waiting h k ≡ true
      → AllByRecursion (Sit setup c j) ps → Kn c j ps st → Kn (wording c (set_word c.words k 1) (h ∷ c.noted)) j ps st
  others_raise setup c id j k h ps Resting other out low high waits sits kn = each_raised setup c j k h ps low high waits sits kn
  others_raise setup c id j k h ps (Drawn t) other out low high waits sits kn = (kn.0, each_raised setup c j k h ps low high waits sits kn.1, kn.2, kn.3, kn.4)
  others_raise setup c id j k h ps (InTurn o) other out low high waits sits kn = absurd (other (some-injective j id (sym kn.1 ∙ out)))

  pub raises : (setup : Setup V) (slots id : ℕ) (o : Opened V E) (p : Part V E) (carried : List (ℕ × Option V)) (k : ℕ) (h : List E) → 0 < k → k ≤ setup.seats → waiting h k ≡ true → Grew owner p.seat (history o.value) h
      → Allows (Rule setup) slots id (view_of (InTurn o) (p ∷ []), carried) (k + 1) (λ _. 1) (λ _. raised fixed history owner waiting room (step slots (k + 1) 1 0 none) (view_of (InTurn o) (p ∷ []), carried) 1)
  raises setup slots id o p carried k h low high waits grew s kept _ at fits =
      let c : Core V E = kept.core in
      let u : D = view_of (InTurn o) (p ∷ []) in
      let ok = kept.each_view id u at in
      let kn = ok.knows in
      let down : (k + 1) - 1 ≡ k = omega arith in
      let within : k ≤ length c.words = subst (λ n. k ≤ n) (sym kept.wide) high in
      let w : D = view_of (InTurn (opened o.value (set_word o.words k 1) (h ∷ o.noted))) (p ∷ []) in (
        w,
        keeps,
        tt,
        moves setup s kept (wording c (set_word c.words k 1) (h ∷ c.noted)) _ _ id u w at
            (ap (λ (l : List ℕ). set l (k + 1) 1) kept.words_are ∙ set_seat (c.ticket % 2 ^ 64) (c.serving % 2 ^ 64) c.words kept.bells k 1 low within)
            kept.slot_is (length-set c.words (k - 1) 1 ∙ kept.wide) (omega arith) refl kept.same
            (λ e. absurd (some-ne-none id (sym kn.1 ∙ e))) (λ e. absurd (some-ne-none id (sym kn.1 ∙ e)))
            (turn_stays s.views id u w at (λ _. tt) c.out kept.in_turn)
            (record {
              sits = ok.sits;
              distinct = ok.distinct;
              knows = ((p, refl), kn.1, ap (λ (x : Opened V E). opened x.value (set_word x.words k 1) (h ∷ x.noted)) kn.2, kn.3, kn.4, ((kn.5.0.0, (subst (λ v. Grew owner p.seat (history v) h) (ap (λ (x : Opened V E). x.value) kn.2) grew, kn.5.0.1)), tt));
            })
            (λ j d other e x. record { sits = x.sits; distinct = x.distinct; knows = others_raise setup c id j k h d.parts d.stage other kn.1 low within waits x.sits x.knows }),
        (λ o' ps' e. (
          h,
          ap (waiting h) down ∙ waits,
          (let f : ℕ → D → Mine = λ n d. let x : Opened V E = opened_or o d.stage in (view_of (InTurn (opened x.value (set_word x.words n 1) (h ∷ x.noted))) d.parts, carried) in ap (λ n. f n u) (sym down) ∙ ap (f ((k + 1) - 1)) e),
        )),
      )

  -- a seat in turn lowers its own word
  rests_else : (last : V) (words : List ℕ) (noted : List (List E)) (k n : ℕ) (p : Part V E) → 0 < k → 0 < p.seat → p.seat ≢ k → R last words noted p → R last (set_word words k n) noted p
  rests_else last words noted k n p low low' other r = let here : word_of (set_word words k n) p.seat ≡ word_of words p.seat = word_else words k p.seat n low low' other in record {
    seen = r.seen;
    roomy = r.roomy;
    lowered = λ z. r.lowered (sym here ∙ z);
    raised = λ m. r.raised (λ z. m (here ∙ z));
    told = λ t z. r.told t (sym here ∙ z);
  }

  each_else : (setup : Setup V) (c : Core V E) (id j k n : ℕ) (ps : List (Part V E)) → j ≢ id → c.place k ≡ id → 0 < k → AllByRecursion (Sit setup c j) ps → AllByRecursion (R c.last c.words c.noted) ps
      → AllByRecursion (R c.last (set_word c.words k n) c.noted) ps
  each_else setup c id j k n ps other here low sits rs = each_and (Sit setup c j) (R c.last c.words c.noted) (R c.last (set_word c.words k n) c.noted) ps
      (λ p a r. rests_else c.last c.words c.noted k n p low a.1 (λ e. other (sym a.3 ∙ (ap c.place e ∙ here))) r) sits rs

  others_lower : (setup : Setup V) (c : Core V E) (id j k : ℕ) (ps : List (Part V E)) (st : Stage V E) → j ≢ id → c.out ≡ some id → c.place k ≡ id → 0 < k
      → AllByRecursion (Sit setup c j) ps → Kn c j ps st → Kn (wording c (set_word c.words k 0) c.noted) j ps st
  others_lower setup c id j k ps Resting other out here low sits kn = each_else setup c id j k 0 ps other here low sits kn
  others_lower setup c id j k ps (Drawn t) other out here low sits kn = (kn.0, each_else setup c id j k 0 ps other here low sits kn.1, kn.2, kn.3, kn.4)
  others_lower setup c id j k ps (InTurn o) other out here low sits kn = absurd (other (some-injective j id (sym kn.1 ∙ out)))

  pub lowers : (setup : Setup V) (slots id : ℕ) (o : Opened V E) (p : Part V E) (carried : List (ℕ × Option V))
      → Allows (Rule setup) slots id (view_of (InTurn o) (p ∷ []), carried) (p.seat + 1) (λ _. 0) (λ _. lowered (step slots (p.seat + 1) 0 0 none) (view_of (InTurn o) (p ∷ []), carried) 0)
  lowers setup slots id o p carried s kept _ at fits =
      let c : Core V E = kept.core in
      let k : ℕ = p.seat in
      let u : D = view_of (InTurn o) (p ∷ []) in
      let ok = kept.each_view id u at in
      let kn = ok.knows in
      let sit = ok.sits.0 in
      let low = sit.1 in
      let down : (k + 1) - 1 ≡ k = omega arith in
      let w : D = view_of (InTurn (opened o.value (set_word o.words k 0) o.noted)) (p ∷ []) in (
        w,
        keeps,
        tt,
        moves setup s kept (wording c (set_word c.words k 0) c.noted) _ _ id u w at
            (ap (λ (l : List ℕ). set l (k + 1) 0) kept.words_are ∙ set_seat (c.ticket % 2 ^ 64) (c.serving % 2 ^ 64) c.words kept.bells k 0 low (subst (λ n. k ≤ n) (sym kept.wide) sit.2))
            kept.slot_is (length-set c.words (k - 1) 0 ∙ kept.wide) (omega arith) refl kept.same
            (λ e. absurd (some-ne-none id (sym kn.1 ∙ e))) (λ e. absurd (some-ne-none id (sym kn.1 ∙ e)))
            (turn_stays s.views id u w at (λ _. tt) c.out kept.in_turn)
            (record {
              sits = ok.sits;
              distinct = ok.distinct;
              knows = ((p, refl), kn.1, ap (λ (x : Opened V E). opened x.value (set_word x.words k 0) x.noted) kn.2, kn.3, kn.4, kn.5);
            })
            (λ j d other e x. record { sits = x.sits; distinct = x.distinct; knows = others_lower setup c id j k d.parts d.stage other kn.1 sit.3 low x.sits x.knows }),
        (λ o' ps' e. let f : ℕ → D → Mine = λ n d. let x : Opened V E = opened_or o d.stage in (view_of (InTurn (opened x.value (set_word x.words n 0) x.noted)) d.parts, carried) in ap (λ n. f n u) (sym down) ∙ ap (f ((k + 1) - 1)) e),
      )

  abbrev Looked : List (ℕ × Option V) → ℕ → Mine → Part V E → Type 0
  Looked carried r m' q = (seen : List E) × (told : Bool) × Follows owner q.seat q.seen seen × (r ≡ 0 → (told ≡ false) × (waiting seen q.seat ≡ false)) × (r ≢ 0 → told ≡ true)
      × (m' ≡ (view_of Resting (part q.setup q.seat seen q.room told ∷ []), carried))

  -- a seat reads its own word
  pub looks : (setup : Setup V) (slots id : ℕ) (p : Part V E) (carried : List (ℕ × Option V))
      → Allows (Rule setup) slots id (view_of Resting (p ∷ []), carried) (p.seat + 1) (λ n. n) (looked fixed history owner waiting room (step slots (p.seat + 1) 0 0 none) (view_of Resting (p ∷ []), carried))
  looks setup slots id p carried s kept _ at fits =
      let c : Core V E = kept.core in
      let u : D = view_of Resting (p ∷ []) in
      let ok = kept.each_view id u at in
      let r = ok.knows.0 in
      let found : get_or s.words (p.seat + 1) 0 ≡ word_of c.words p.seat = ap (λ (l : List ℕ). get_or l (p.seat + 1) 0) kept.words_are ∙ get_seat (c.ticket % 2 ^ 64) (c.serving % 2 ^ 64) c.words kept.bells p.seat ok.sits.0.1 (subst (λ n. p.seat ≤ n) (sym kept.wide) ok.sits.0.2) in
      let now : (told : Bool) → (told ≡ true → word_of c.words p.seat ≢ 0) → Rule setup record { words = set s.words (p.seat + 1) (get_or s.words (p.seat + 1) 0); homes = s.homes; views = set s.views id (view_of Resting (part p.setup p.seat (history c.last) p.room told ∷ [])) } =
      λ told is. let w : D = view_of Resting (part p.setup p.seat (history c.last) p.room told ∷ []) in
      moves setup s kept c _ _ id u w at (set-get_or s.words (p.seat + 1) 0 ∙ kept.words_are) kept.slot_is kept.wide (omega arith) refl kept.same kept.exact kept.quiet
      (turn_stays s.views id u w at (λ z. z) c.out kept.in_turn)
      (record {
        sits = ok.sits;
        distinct = (tt, tt);
        knows = (record { seen = follows_same owner p.seat (history c.last); roomy = r.roomy; lowered = r.lowered; raised = r.raised; told = is }, tt);
      })
      (λ j d other e x. x)
      in
      dite (ℕ_discrete (get_or s.words (p.seat + 1) 0) 0)
      (λ zero. (
        view_of Resting (part p.setup p.seat (history c.last) p.room false ∷ []),
        keeps,
        tt,
        now false (λ e. absurd (true≢false (sym e))),
        (λ p' e. subst (Looked carried (get_or s.words (p.seat + 1) 0) (view_of Resting (part p.setup p.seat (history c.last) p.room false ∷ []), carried)) (λ i. part_or p (e i).parts)
            (history c.last, false, r.seen, (λ _. (refl, r.lowered (sym found ∙ zero))), (λ n. absurd (n zero)), refl)),
      ))
      (λ other. (
        view_of Resting (part p.setup p.seat (history c.last) p.room true ∷ []),
        keeps,
        tt,
        now true (λ _ z. other (found ∙ z)),
        (λ p' e. subst (Looked carried (get_or s.words (p.seat + 1) 0) (view_of Resting (part p.setup p.seat (history c.last) p.room true ∷ []), carried)) (λ i. part_or p (e i).parts)
            (history c.last, true, r.seen, (λ z. absurd (other z)), (λ _. refl), refl)),
      ))
