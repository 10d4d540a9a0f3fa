-- Which backend runs which transaction.
use Rattle.std.proofs.Common.{◌≡◌, ◌≤◌, ◌+◌, ◌∙◌, ◌⊎◌, inl, inr, ℕ, Bool, true, false, Option, Some, None, List, [], ◌∷◌, ◌++◌, ◌==◌, ◌||◌, if◌then◌else◌, refl, sym, ap, subst, arith, unwrap_or}
use Rattle.std.specs.Option.{option_map_or}
use Rattle.std.proofs.Math.Bool.{or-false, or-true}
use Rattle.std.proofs.lemmas.Bool.{eqb-true, eq-eqb, both_ways, or_cases}
use Rattle.base_types.specs.declared.ids.Xid.{Xid}
use Rattle.event_kinds.specs.declared.entry.Entry.{Entry}
use Rattle.event_kinds.specs.declared.entry.Event.{Event}
use Rattle.event_kinds.specs.declared.entry.Event.TheVariants as events
use Rattle.history_model.specs.Transactions.{Running, begun, running_transaction_of, running_by, after_release, has_xid, is_visible, runs_as, makes_visible, is_committed, last_xid, last_xid_by, xid_for}
use Rattle.history_model.proofs.Reading.{running_transaction_of-own as running-own, running_transaction_of-other as running-other, is_committed-more as committed-more, last_xid-more}
use Rattle.history_model.proofs.Lawful.{IsLawful, IsLawfulEvent}

last-grows : (event : Event) (last : ℕ) → last ≤ last_xid_by event last
last-grows (events.Write xid items) last = omega arith
last-grows event last = omega arith

pub last_xid-rises : (history : List Entry) (e : Entry) → last_xid history ≤ last_xid (history ++ e ∷ [])
last_xid-rises history e = rw last_xid-more (last-grows e.event (last_xid history))

-- the event is a write with this Xid
abbrev pub writes_as : ℕ → Event → Bool
writes_as x (events.Write xid items) = xid.0 == x
writes_as x event = false

pub xid-begun : (x c : ℕ) (old : Option Running) → has_xid x (Some (begun c old)) ≡ has_xid x old
xid-begun x c None = refl
xid-begun x c (Some t) = refl

xid-release : (x from c : ℕ) (old : Option Running) → has_xid x (after_release from (begun c old)) ≡ true → has_xid x old ≡ true
xid-release x from c None is = by_end (c == from) is
  where
    by_end : (t : Bool) → has_xid x (if t then None else Some (begun c None)) ≡ true → false ≡ true
    by_end true h = h
    by_end false h = h
xid-release x from c (Some t) is = by_end (t.first == from) is
  where
    by_end : (f : Bool) → has_xid x (if f then None else Some t) ≡ true → has_xid x (Some t) ≡ true
    by_end true h = absurd (cc)
    by_end false h = h

-- an Xid that a backend has after an event it had before, but for that of a write
pub xid-from : (x c : ℕ) (event : Event) (old : Option Running) → has_xid x (running_by c event old) ≡ true → (has_xid x old ≡ true) ⊎ (writes_as x event ≡ true)
xid-from x c events.Start old is = absurd (cc)
xid-from x c events.Stop old is = inl is
xid-from x c (events.Release from) old is = inl (xid-release x from c old is)
xid-from x c (events.Write xid items) old is = inr is
xid-from x c (events.Publish count) old is = inl (sym (xid-begun x c old) ∙ is)
xid-from x c (events.Gone from) old is = inl (sym (xid-begun x c old) ∙ is)
xid-from x c (events.Visible xid) old is = inl (sym (xid-begun x c old) ∙ is)
xid-from x c event old is = inl (sym (xid-begun x c old) ∙ is)

-- the Xid of a write is that of the transaction or the next one
pub xid-of_write : (history : List Entry) (b x : ℕ) → x ≡ xid_for history b → (runs_as history b x ≡ true) ⊎ (x ≡ last_xid history + 1)
xid-of_write history b x is = by_running (running_transaction_of history b) is
  where
    by_xid : (o : Option Xid) → x ≡ option_map_or (λ own. own.0) o (last_xid history + 1) → (option_map_or (λ own. own.0 == x) o false ≡ true) ⊎ (x ≡ last_xid history + 1)
    by_xid None same = inr same
    by_xid (Some y) same = inl (eq-eqb y.0 x (sym same))

    by_running : (r : Option Running) → x ≡ option_map_or (λ t. option_map_or (λ own. own.0) t.xid (last_xid history + 1)) r (last_xid history + 1) → (has_xid x r ≡ true) ⊎ (x ≡ last_xid history + 1)
    by_running None same = inr same
    by_running (Some t) same = by_xid t.xid same

-- a backend's Xid after one more entry: it had it, or drew it
pub record Draws (history : List Entry) (e : Entry) (b x : ℕ) : Type 0 where
  pub own : (e.backend == b) ≡ true
  pub writes : writes_as x e.event ≡ true
  pub new : x ≡ last_xid history + 1

lawful_xid : (history : List Entry) (b c x : ℕ) (event : Event) → IsLawfulEvent history b c event → writes_as x event ≡ true → x ≡ xid_for history b
lawful_xid history b c x (events.Write xid items) lawful is = sym (eqb-true xid.0 x is) ∙ lawful.1
lawful_xid history b c x event lawful is = absurd (cc)

pub runs-before : (history : List Entry) (e : Entry) (b x : ℕ) → IsLawful history e → runs_as (history ++ e ∷ []) b x ≡ true → (runs_as history b x ≡ true) ⊎ Draws history e b x
runs-before history e b x lawful is = by_owner (e.backend == b) refl
  where
    drawn : (e.backend == b) ≡ true → writes_as x e.event ≡ true → (runs_as history b x ≡ true) ⊎ (x ≡ last_xid history + 1) → (runs_as history b x ≡ true) ⊎ Draws history e b x
    drawn own writes (inl had) = inl had
    drawn own writes (inr new) = inr (record { own = own; writes = writes; new = new })

    from : (e.backend == b) ≡ true → (has_xid x (running_transaction_of history b) ≡ true) ⊎ (writes_as x e.event ≡ true) → (runs_as history b x ≡ true) ⊎ Draws history e b x
    from own (inl had) = inl had
    from own (inr writes) = drawn own writes (xid-of_write history b x (lawful_xid history e.backend e.command x e.event lawful writes ∙ ap (xid_for history) (eqb-true e.backend b own)))

    by_owner : (t : Bool) → (e.backend == b) ≡ t → (runs_as history b x ≡ true) ⊎ Draws history e b x
    by_owner true own = from own (xid-from x e.command e.event (running_transaction_of history b) (sym (ap (has_xid x) (running-own history e b own)) ∙ is))
    by_owner false other = inl (sym (ap (has_xid x) (running-other history e b other)) ∙ is)

-- Xids are bounded by the last one, each is run by one backend, and what isn't visible isn't committed
pub record Runs (history : List Entry) : Type 0 where
  pub bound : (a x : ℕ) → runs_as history a x ≡ true → x ≤ last_xid history
  pub one : (a b x : ℕ) → runs_as history a x ≡ true → runs_as history b x ≡ true → a ≡ b
  pub committed : (x : ℕ) → is_committed history x ≡ true → x ≤ last_xid history
  pub hidden : (a x : ℕ) → runs_as history a x ≡ true → is_visible (running_transaction_of history a) ≡ false → is_committed history x ≡ false
  pub shown : (a x : ℕ) → runs_as history a x ≡ true → is_visible (running_transaction_of history a) ≡ true → is_committed history x ≡ true

pub Runs-start : Runs []
Runs-start = record {
  bound = λ a x is. absurd (cc);
  one = λ a b x is other. absurd (cc);
  committed = λ x is. absurd (cc);
  hidden = λ a x is not_yet. refl;
  shown = λ a x is seen. absurd (cc);
}

visible_writes : (x c : ℕ) (event : Event) (last : ℕ) → writes_as x event ≡ true → x ≤ last_xid_by event last
visible_writes x c (events.Write xid items) last is = omega (arith, eqb-true xid.0 x is)
visible_writes x c event last is = absurd (cc)

lawful_visible : (history : List Entry) (b c x : ℕ) (event : Event) → IsLawfulEvent history b c event → makes_visible x event ≡ true → runs_as history b x ≡ true
lawful_visible history b c x (events.Visible xid) lawful is = subst (λ y. runs_as history b y ≡ true) (eqb-true xid.0 x is) lawful.1
lawful_visible history b c x event lawful is = absurd (cc)

makes_shown : (x c : ℕ) (event : Event) (old : Option Running) → makes_visible x event ≡ true → is_visible (running_by c event old) ≡ true
makes_shown x c (events.Visible xid) old is = refl
makes_shown x c event old is = absurd (cc)

visible-begun : (c : ℕ) (old : Option Running) → is_visible (Some (begun c old)) ≡ is_visible old
visible-begun c None = refl
visible-begun c (Some t) = refl

visible-release : (x from c : ℕ) (old : Option Running) → has_xid x (after_release from (begun c old)) ≡ true → is_visible (after_release from (begun c old)) ≡ is_visible old
visible-release x from c None is = by_end (c == from)
  where
    by_end : (t : Bool) → is_visible (if t then None else Some (begun c None)) ≡ false
    by_end true = refl
    by_end false = refl
visible-release x from c (Some t) is = by_end (t.first == from) is
  where
    by_end : (f : Bool) → has_xid x (if f then None else Some t) ≡ true → is_visible (if f then None else Some t) ≡ t.visible
    by_end true h = absurd (cc)
    by_end false h = refl

-- a transaction's visibility changes by its visible alone
visible-by : (x c : ℕ) (event : Event) (old : Option Running) → has_xid x (running_by c event old) ≡ true
    → (is_visible (running_by c event old) ≡ is_visible old) ⊎ ((y : ℕ) × (makes_visible y event ≡ true))
visible-by x c events.Start old is = absurd (cc)
visible-by x c events.Stop old is = inl refl
visible-by x c (events.Release from) old is = inl (visible-release x from c old is)
visible-by x c (events.Write xid items) old is = inl (visible-begun c old)
visible-by x c (events.Publish count) old is = inl (visible-begun c old)
visible-by x c (events.Gone from) old is = inl (visible-begun c old)
visible-by x c (events.Visible xid) old is = inr (xid.0, eq-eqb xid.0 xid.0 refl)
visible-by x c event old is = inl (visible-begun c old)

pub one_xid : (x y : ℕ) (r : Option Running) → has_xid x r ≡ true → has_xid y r ≡ true → x ≡ y
one_xid x y None is other = absurd (cc)
one_xid x y (Some t) is other = of t.xid is other
  where
    of : (o : Option Xid) → option_map_or (λ z. z.0 == x) o false ≡ true → option_map_or (λ z. z.0 == y) o false ≡ true → x ≡ y
    of None h k = absurd (cc)
    of (Some z) h k = sym (eqb-true z.0 x h) ∙ eqb-true z.0 y k

lawful_unseen : (history : List Entry) (b c x : ℕ) (event : Event) → IsLawfulEvent history b c event → writes_as x event ≡ true → is_visible (running_by c event (running_transaction_of history b)) ≡ false
lawful_unseen history b c x (events.Write xid items) lawful is = visible-begun c (running_transaction_of history b) ∙ lawful.0
lawful_unseen history b c x event lawful is = absurd (cc)

-- an Xid that isn't bound is new
not_committed : (history : List Entry) (e : Entry) (x : ℕ) → Runs history → IsLawful history e → x ≡ last_xid history + 1 → is_committed (history ++ e ∷ []) x ≡ false
not_committed history e x r lawful new = committed-more history e x ∙ both (is_committed history x) (makes_visible x e.event) refl refl
  where
    both : (s t : Bool) → is_committed history x ≡ s → makes_visible x e.event ≡ t → (s || t) ≡ false
    both true t was makes = absurd (omega (arith, r.committed x was))
    both false true was makes = absurd (omega (arith, r.bound e.backend x (lawful_visible history e.backend e.command x e.event lawful makes)))
    both false false was makes = refl

-- a transaction that isn't visible wasn't, if it ran
was_unseen : (history : List Entry) (e : Entry) (a x : ℕ) → runs_as (history ++ e ∷ []) a x ≡ true → is_visible (running_transaction_of (history ++ e ∷ []) a) ≡ false → is_visible (running_transaction_of history a) ≡ false
was_unseen history e a x is not_yet = by_owner (e.backend == a) refl
  where
    from : (e.backend == a) ≡ true → (is_visible (running_by e.command e.event (running_transaction_of history a)) ≡ is_visible (running_transaction_of history a)) ⊎ ((y : ℕ) × (makes_visible y e.event ≡ true))
        → is_visible (running_transaction_of history a) ≡ false
    from own (inl same) = sym same ∙ sym (ap is_visible (running-own history e a own)) ∙ not_yet
    from own (inr makes) = absurd (both_ways _ not_yet (ap is_visible (running-own history e a own) ∙ makes_shown makes.0 e.command e.event (running_transaction_of history a) makes.1))

    by_owner : (t : Bool) → (e.backend == a) ≡ t → is_visible (running_transaction_of history a) ≡ false
    by_owner true own = from own (visible-by x e.command e.event (running_transaction_of history a) (sym (ap (has_xid x) (running-own history e a own)) ∙ is))
    by_owner false other = sym (ap is_visible (running-other history e a other)) ∙ not_yet

pub Runs-more : (history : List Entry) (e : Entry) → Runs history → IsLawful history e → Runs (history ++ e ∷ [])
Runs-more history e r lawful = record {
  bound = λ a x is. bound_of a x (runs-before history e a x lawful is);
  one = λ a b x is also. one_of a b x (runs-before history e a x lawful is) (runs-before history e b x lawful also);
  committed = λ x is. committed_of x (or_cases (is_committed history x) (makes_visible x e.event) (sym (committed-more history e x) ∙ is));
  hidden = λ a x is not_yet. hidden_of a x is not_yet (runs-before history e a x lawful is);
  shown = λ a x is seen. shown_of a x is seen (runs-before history e a x lawful is);
}
  where
    rises : last_xid history ≤ last_xid (history ++ e ∷ [])
    rises = last_xid-rises history e

    bound_of : (a x : ℕ) → (runs_as history a x ≡ true) ⊎ Draws history e a x → x ≤ last_xid (history ++ e ∷ [])
    bound_of a x (inl had) = omega (arith, r.bound a x had, rises)
    bound_of a x (inr drew) = rw last_xid-more (visible_writes x e.command e.event (last_xid history) drew.writes)

    one_of : (a b x : ℕ) → (runs_as history a x ≡ true) ⊎ Draws history e a x → (runs_as history b x ≡ true) ⊎ Draws history e b x → a ≡ b
    one_of a b x (inl had) (inl also) = r.one a b x had also
    one_of a b x (inl had) (inr drew) = absurd (omega (arith, r.bound a x had, drew.new))
    one_of a b x (inr drew) (inl had) = absurd (omega (arith, r.bound b x had, drew.new))
    one_of a b x (inr drew) (inr also) = sym (eqb-true e.backend a drew.own) ∙ eqb-true e.backend b also.own

    committed_of : (x : ℕ) → (is_committed history x ≡ true) ⊎ (makes_visible x e.event ≡ true) → x ≤ last_xid (history ++ e ∷ [])
    committed_of x (inl was) = omega (arith, r.committed x was, rises)
    committed_of x (inr makes) = omega (arith, r.bound e.backend x (lawful_visible history e.backend e.command x e.event lawful makes), rises)

    hidden_of : (a x : ℕ) → runs_as (history ++ e ∷ []) a x ≡ true → is_visible (running_transaction_of (history ++ e ∷ []) a) ≡ false → (runs_as history a x ≡ true) ⊎ Draws history e a x
        → is_committed (history ++ e ∷ []) x ≡ false
    hidden_of a x is not_yet (inr drew) = not_committed history e x r lawful drew.new
    hidden_of a x is not_yet (inl had) = committed-more history e x ∙ both (makes_visible x e.event) refl
      where
        both : (t : Bool) → makes_visible x e.event ≡ t → (is_committed history x || t) ≡ false
        both false makes = or-false (is_committed history x) ∙ r.hidden a x had (was_unseen history e a x is not_yet)
        both true makes =
            let owner : e.backend ≡ a = r.one e.backend a x (lawful_visible history e.backend e.command x e.event lawful makes) had in
            absurd (both_ways _ not_yet (ap is_visible (running-own history e a (eq-eqb e.backend a owner)) ∙ makes_shown x e.command e.event (running_transaction_of history a) makes))

    shown_of : (a x : ℕ) → runs_as (history ++ e ∷ []) a x ≡ true → is_visible (running_transaction_of (history ++ e ∷ []) a) ≡ true → (runs_as history a x ≡ true) ⊎ Draws history e a x
        → is_committed (history ++ e ∷ []) x ≡ true
    shown_of a x is seen (inr drew) = absurd (both_ways _ (lawful_unseen history a e.command x e.event (subst (λ o. IsLawfulEvent history o e.command e.event) (eqb-true e.backend a drew.own) lawful) drew.writes) (sym (ap is_visible (running-own history e a drew.own)) ∙ seen))
    shown_of a x is seen (inl had) = by_owner (e.backend == a) refl
      where
        kept : is_visible (running_transaction_of history a) ≡ true → is_committed (history ++ e ∷ []) x ≡ true
        kept was = committed-more history e x ∙ ap (λ t. t || makes_visible x e.event) (r.shown a x had was)

        from : (e.backend == a) ≡ true → (is_visible (running_by e.command e.event (running_transaction_of history a)) ≡ is_visible (running_transaction_of history a)) ⊎ ((y : ℕ) × (makes_visible y e.event ≡ true))
            → is_committed (history ++ e ∷ []) x ≡ true
        from own (inl same) = kept (sym same ∙ sym (ap is_visible (running-own history e a own)) ∙ seen)
        from own (inr makes) =
            let runs : runs_as history a makes.0 ≡ true = subst (λ o. runs_as history o makes.0 ≡ true) (eqb-true e.backend a own) (lawful_visible history e.backend e.command makes.0 e.event lawful makes.1) in
            let same : makes.0 ≡ x = one_xid makes.0 x (running_transaction_of history a) runs had in
            committed-more history e x ∙ ap (λ t. is_committed history x || t) (subst (λ y. makes_visible y e.event ≡ true) same makes.1) ∙ or-true (is_committed history x)

        by_owner : (t : Bool) → (e.backend == a) ≡ t → is_committed (history ++ e ∷ []) x ≡ true
        by_owner true own = from own (visible-by x e.command e.event (running_transaction_of history a) (sym (ap (has_xid x) (running-own history e a own)) ∙ is))
        by_owner false other = kept (sym (ap is_visible (running-other history e a other)) ∙ seen)
