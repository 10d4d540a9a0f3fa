-- What one more entry leaves on its way to a backend.
use Rattle.std.proofs.Common.{◌≡◌, ◌≤◌, ◌+◌, ◌∙◌, ◌⊎◌, inl, inr, ℕ, Bool, true, false, Option, Some, None, List, [], ◌∷◌, ◌++◌, ◌==◌, if◌then◌else◌, refl, sym, ap, subst, arith, append-nil, length, take, drop}
use Rattle.std.specs.Prelude.{nat_lt}
use Rattle.std.specs.List.{list_any, flat_map}
use Rattle.std.specs.Option.{option_map_or}
use Rattle.std.proofs.lemmas.List.{take-append-le, drop-append-le, drop-drop, take-append-drop, length-append}
use Rattle.std.proofs.lemmas.Bool.{eqb-true, eq-eqb, both_ways, ltb-true}
use Rattle.base_types.specs.declared.ids.Xid.{Xid}
use Rattle.base_types.specs.declared.scan.Purpose.{Purpose}
use Rattle.event_kinds.specs.declared.entry.Entry.{Entry}
use Rattle.event_kinds.specs.declared.entry.Event.{Event}
use Rattle.event_kinds.specs.declared.entry.Event.TheVariants as events
use Rattle.inval_messages.specs.declared.message.Message.{Message}
use Rattle.inval_messages.specs.Messages.{covers}
use Rattle.inval_messages.specs.Lists.{cats_in, rels_in, rest_of_parts}
use Rattle.history_model.specs.Transactions.{Running, running_transaction_of, running_by, begun, is_visible}
use Rattle.history_model.specs.Sent.{lists_of, lists_by, sent_of, left_in, unsent_of, unsent_in}
use Rattle.history_model.specs.Log.{log_of, log_by, position_of, position_by, fetched_by}
use Rattle.history_model.specs.Covered.{is_covered}
use Rattle.history_model.specs.Coming.{unpublished_in, unpublished_of, all_unpublished, IsComing}
use Rattle.history_model.specs.MayFollow.{MayRelease, AllowsEvent}
use Rattle.history_model.proofs.Reading.{running_transaction_of-own as running-own, running_transaction_of-other as running-other, lists_of-own as lists-own, lists_of-other as lists-other, log_of-more as log-more, position_of-own as position-own, position_of-other as position-other}
use Rattle.history_model.proofs.Every.{any-left, any-right, any-sides}
use Rattle.history_model.proofs.Lawful.{IsLawfulEvent}
use Rattle.history_model.proofs.Touched.{entry_of}
use Rattle.history_model.proofs.Waiting.{log_by-grows}

-- no backend is past the log's end
abbrev pub Placed : List Entry → Type 0
Placed history = (b : ℕ) → position_of history b ≤ length (log_of history)

-- how many messages a transaction has published
abbrev pub published_of : Option Running → ℕ
published_of running = option_map_or (λ t. t.published) running 0

-- nothing is published of what isn't visible
abbrev pub Unsent : List Entry → Type 0
Unsent history = (a : ℕ) → is_visible (running_transaction_of history a) ≡ false → published_of (running_transaction_of history a) ≡ 0

position-short : (history : List Entry) (b c : ℕ) (event : Event) → AllowsEvent history b c event → position_of history b ≤ length (log_of history) → position_by history event (position_of history b) ≤ length (log_by history b event (log_of history))
position-short history b c events.Start allows short = omega arith
position-short history b c events.FetchReset allows short = omega arith
position-short history b c (events.Fetch count) allows short = omega (arith, allows.1, short)
position-short history b c (events.Publish count) allows short = omega (arith, short, length-append (log_of history) (take count (unsent_of history b)))
position-short history b c event allows short = short

pub Placed-more : (history : List Entry) (e : Entry) → AllowsEvent history e.backend e.command e.event → Placed history → Placed (history ++ e ∷ [])
Placed-more history e allows placed b = by_owner (e.backend == b) refl
  where
    by_owner : (t : Bool) → (e.backend == b) ≡ t → position_of (history ++ e ∷ []) b ≤ length (log_of (history ++ e ∷ []))
    by_owner true own =
        let one : e.backend ≡ b = eqb-true e.backend b own in
        rw (log-more history e, position-own history e b own) (subst (λ o. position_by history e.event (position_of history o) ≤ length (log_by history e.backend e.event (log_of history))) one (position-short history e.backend e.command e.event allows (placed e.backend)))
    by_owner false other = rw (log-more history e, position-other history e b other) (omega (arith, placed b, log_by-grows history e.backend e.event (log_of history)))

sent-by : (history : List Entry) (b c : ℕ) (event : Event) (r : Option Running) → AllowsEvent history b c event → r ≡ running_transaction_of history b → (is_visible r ≡ false → published_of r ≡ 0)
    → is_visible (running_by c event r) ≡ false → published_of (running_by c event r) ≡ 0
sent-by history b c (events.Publish count) None allows is unsent hidden = absurd (both_ways _ refl (ap is_visible is ∙ allows.0))
sent-by history b c (events.Publish count) (Some t) allows is unsent hidden = absurd (both_ways _ hidden (ap is_visible is ∙ allows.0))
sent-by history b c events.Start r allows is unsent hidden = refl
sent-by history b c events.Stop r allows is unsent hidden = unsent hidden
sent-by history b c (events.Visible xid) r allows is unsent hidden = absurd (cc)
sent-by history b c (events.Release from) None allows is unsent hidden = by_end (c == from)
  where
    by_end : (f : Bool) → published_of (if f then None else Some (begun c None)) ≡ 0
    by_end true = refl
    by_end false = refl
sent-by history b c (events.Release from) (Some t) allows is unsent hidden = by_end (t.first == from) hidden
  where
    by_end : (f : Bool) → is_visible (if f then None else Some t) ≡ false → published_of (if f then None else Some t) ≡ 0
    by_end true h = refl
    by_end false h = unsent h
sent-by history b c event None allows is unsent hidden = refl
sent-by history b c event (Some t) allows is unsent hidden = unsent hidden

pub Unsent-more : (history : List Entry) (e : Entry) → AllowsEvent history e.backend e.command e.event → Unsent history → Unsent (history ++ e ∷ [])
Unsent-more history e allows unsent a = by_owner (e.backend == a) refl
  where
    by_owner : (t : Bool) → (e.backend == a) ≡ t → is_visible (running_transaction_of (history ++ e ∷ []) a) ≡ false → published_of (running_transaction_of (history ++ e ∷ []) a) ≡ 0
    by_owner true own = subst (λ r. is_visible r ≡ false → published_of r ≡ 0) (sym (running-own history e a own))
        (sent-by history e.backend e.command e.event (running_transaction_of history a) allows (ap (running_transaction_of history) (sym (eqb-true e.backend a own))) (unsent a))
    by_owner false other = subst (λ r. is_visible r ≡ false → published_of r ≡ 0) (sym (running-other history e a other)) (unsent a)

-- what an event publishes
abbrev pub published_by : List Entry → ℕ → Event → List Message
published_by history b (events.Publish count) = take count (unsent_of history b)
published_by history b event = []

pub log-append : (history : List Entry) (b : ℕ) (event : Event) (old : List Message) → log_by history b event old ≡ old ++ published_by history b event
log-append history b (events.Publish count) old = refl
log-append history b event old = sym (append-nil old)

-- a part that is published goes from the rest to the log
rest-first : (sent count : ℕ) (cats rels : List Message) → count ≤ length (rest_of_parts sent cats rels) → take count (drop sent (cats ++ rels)) ≡ take count (rest_of_parts sent cats rels)
rest-first sent count cats rels within = by_test (nat_lt sent (length cats)) refl within
  where
    by_test : (t : Bool) → nat_lt sent (length cats) ≡ t → count ≤ length (if t then drop sent cats else drop sent (cats ++ rels)) → take count (drop sent (cats ++ rels)) ≡ take count (if t then drop sent cats else drop sent (cats ++ rels))
    by_test true is short = let low : sent ≤ length cats = omega (arith, ltb-true sent (length cats) is) in ap (take count) (drop-append-le sent cats rels low) ∙ take-append-le count (drop sent cats) rels short
    by_test false is short = refl

moved : (p : Message → Bool) (sent count : ℕ) (cats rels : List Message) → count ≤ length (rest_of_parts sent cats rels) → list_any p (drop sent (cats ++ rels)) ≡ true
    → (list_any p (drop (sent + count) (cats ++ rels)) ≡ true) ⊎ (list_any p (take count (rest_of_parts sent cats rels)) ≡ true)
moved p sent count cats rels within some = by_side (any-sides p (take count (drop sent (cats ++ rels))) (drop count (drop sent (cats ++ rels))) (ap (list_any p) (take-append-drop count (drop sent (cats ++ rels))) ∙ some))
  where
    by_side : (list_any p (take count (drop sent (cats ++ rels))) ≡ true) ⊎ (list_any p (drop count (drop sent (cats ++ rels))) ≡ true) → (list_any p (drop (sent + count) (cats ++ rels)) ≡ true) ⊎ (list_any p (take count (rest_of_parts sent cats rels)) ≡ true)
    by_side (inl here) = inr (ap (list_any p) (sym (rest-first sent count cats rels within)) ∙ here)
    by_side (inr back) = inl (ap (list_any p) (sym (drop-drop count sent (cats ++ rels))) ∙ back)

none_hidden : (d : Purpose) (v : Bool) (xs : List Message) → v ≡ false → is_covered (elim v [ true ↦ xs | false ↦ [] ]) d ≡ true → ⊥
none_hidden d true xs is some = absurd (cc)
none_hidden d false xs is some = absurd (cc)

-- what isn't published after an own entry: what wasn't before, but for what the entry publishes
unpublished-own : (history : List Entry) (b c : ℕ) (event : Event) (d : Purpose) (r : Option Running) → IsLawfulEvent history b c event → AllowsEvent history b c event → r ≡ running_transaction_of history b
    → is_covered (unpublished_in (lists_of history b) r) d ≡ true
    → (is_covered (unpublished_in (lists_by history b c event (lists_of history b)) (running_by c event r)) d ≡ true) ⊎ (is_covered (published_by history b event) d ≡ true)
unpublished-own history b c event d None lawful allows is some = absurd (cc)
unpublished-own history b c events.Start d (Some t) lawful allows is some = absurd (let e : Some t ≡ None = is ∙ lawful.0 in cc)
unpublished-own history b c (events.Write xid changes) d (Some t) lawful allows is some = absurd (none_hidden d t.visible _ (ap is_visible is ∙ lawful.0) some)
unpublished-own history b c (events.Visible xid) d (Some t) lawful allows is some = absurd (none_hidden d t.visible _ (ap is_visible is ∙ lawful.0) some)
unpublished-own history b c (events.Gone from) d (Some t) lawful allows is some = absurd (none_hidden d t.visible _ (ap is_visible is ∙ lawful) some)
unpublished-own history b c (events.Release from) d (Some t) lawful allows is some = absurd (none_left (is_visible (running_transaction_of history b)) refl allows.1)
  where
    shown_left : (v : Bool) (xs : List Message) → xs ≡ [] → is_covered (elim v [ true ↦ xs | false ↦ [] ]) d ≡ true → ⊥
    shown_left true xs none covered = let e : true ≡ false = sym covered ∙ ap (λ ms. is_covered ms d) none in cc
    shown_left false xs none covered = absurd (cc)

    none_left : (v : Bool) → is_visible (running_transaction_of history b) ≡ v → MayRelease v history b from → ⊥
    none_left false hidden may = none_hidden d t.visible _ (ap is_visible is ∙ hidden) some
    none_left true shown may = shown_left t.visible _ (ap (left_in (lists_of history b)) is ∙ may.1) some
unpublished-own history b c (events.Publish count) d (Some t) lawful allows is some = by_visible t.visible refl some
  where
    cats : List Message
    cats = cats_in (lists_of history b)

    rels : List Message
    rels = rels_in (lists_of history b)

    unsent_is : unsent_of history b ≡ rest_of_parts t.published cats rels
    unsent_is = ap (unsent_in (lists_of history b)) (sym is)

    within : count ≤ length (unsent_of history b)
    within = omega (arith, allows.2)

    by_visible : (v : Bool) → t.visible ≡ v → is_covered (elim v [ true ↦ drop t.published (cats ++ rels) | false ↦ [] ]) d ≡ true
        → (is_covered (elim v [ true ↦ drop (t.published + count) (cats ++ rels) | false ↦ [] ]) d ≡ true) ⊎ (is_covered (take count (unsent_of history b)) d ≡ true)
    by_visible false hidden here = absurd (cc)
    by_visible true shown here = subst (λ u. (is_covered (drop (t.published + count) (cats ++ rels)) d ≡ true) ⊎ (is_covered (take count u) d ≡ true)) (sym unsent_is)
        (moved (covers d) t.published count cats rels (subst (λ u. count ≤ length u) unsent_is within) here)
unpublished-own history b c event d (Some t) lawful allows is some = inl some

any-flat-or : {X Y : Type 0} (p : Y → Bool) (f g : X → List Y) (E : Type 0) → ((x : X) → list_any p (f x) ≡ true → (list_any p (g x) ≡ true) ⊎ E) → (xs : List X) → list_any p (flat_map f xs) ≡ true → (list_any p (flat_map g xs) ≡ true) ⊎ E
any-flat-or p f g E of [] some = absurd (cc)
any-flat-or p f g E of (x ∷ xs) some = by_side (any-sides p (f x) (flat_map f xs) some) (any-flat-or p f g E of xs)
  where
    here : (list_any p (g x) ≡ true) ⊎ E → (list_any p (g x ++ flat_map g xs) ≡ true) ⊎ E
    here (inl is) = inl (any-left p (g x) (flat_map g xs) is)
    here (inr e) = inr e

    there : (list_any p (flat_map g xs) ≡ true) ⊎ E → (list_any p (g x ++ flat_map g xs) ≡ true) ⊎ E
    there (inl is) = inl (any-right p (g x) (flat_map g xs) is)
    there (inr e) = inr e

    by_side : (list_any p (f x) ≡ true) ⊎ (list_any p (flat_map f xs) ≡ true) → (list_any p (flat_map f xs) ≡ true → (list_any p (flat_map g xs) ≡ true) ⊎ E) → (list_any p (g x ++ flat_map g xs) ≡ true) ⊎ E
    by_side (inl is) rest = here (of x is)
    by_side (inr is) rest = there (rest is)

any-flat-left : {X Y : Type 0} (p : Y → Bool) (f : X → List Y) (xs ys : List X) → list_any p (flat_map f xs) ≡ true → list_any p (flat_map f (xs ++ ys)) ≡ true
any-flat-left p f [] ys some = absurd (cc)
any-flat-left p f (x ∷ xs) ys some = by_side (any-sides p (f x) (flat_map f xs) some) (any-flat-left p f xs ys)
  where
    by_side : (list_any p (f x) ≡ true) ⊎ (list_any p (flat_map f xs) ≡ true) → (list_any p (flat_map f xs) ≡ true → list_any p (flat_map f (xs ++ ys)) ≡ true) → list_any p (f x ++ flat_map f (xs ++ ys)) ≡ true
    by_side (inl is) rest = any-left p (f x) (flat_map f (xs ++ ys)) is
    by_side (inr is) rest = any-right p (f x) (flat_map f (xs ++ ys)) (rest is)

any-flat-last : {X Y : Type 0} (p : Y → Bool) (f : X → List Y) (xs : List X) (y : X) → list_any p (f y) ≡ true → list_any p (flat_map f (xs ++ y ∷ [])) ≡ true
any-flat-last p f [] y some = any-left p (f y) [] some
any-flat-last p f (x ∷ xs) y some = any-right p (f x) (flat_map f (xs ++ y ∷ [])) (any-flat-last p f xs y some)

-- what a backend has left, after any entry
pub unpublished-more : (history : List Entry) (e : Entry) (d : Purpose) (a : ℕ) → IsLawfulEvent history e.backend e.command e.event → AllowsEvent history e.backend e.command e.event → is_covered (unpublished_of history a) d ≡ true
    → (is_covered (unpublished_of (history ++ e ∷ []) a) d ≡ true) ⊎ (is_covered (published_by history e.backend e.event) d ≡ true)
unpublished-more history e d a lawful allows some = by_owner (e.backend == a) refl
  where
    Left : Event → ℕ → List Message → Type 0
    Left event o u = (is_covered u d ≡ true) ⊎ (is_covered (published_by history o event) d ≡ true)

    by_owner : (t : Bool) → (e.backend == a) ≡ t → Left e.event e.backend (unpublished_of (history ++ e ∷ []) a)
    by_owner false other = inl (ap (λ ms. is_covered ms d) (ap (unpublished_in (lists_of (history ++ e ∷ []) a)) (running-other history e a other) ∙ ap (λ ws. unpublished_in ws (running_transaction_of history a)) (lists-other history e a other)) ∙ some)
    by_owner true own =
        let one : e.backend ≡ a = eqb-true e.backend a own in
        subst (Left e.event e.backend)
        (sym (ap (unpublished_in (lists_of (history ++ e ∷ []) a)) (running-own history e a own) ∙ ap (λ ws. unpublished_in ws (running_by e.command e.event (running_transaction_of history a))) (lists-own history e a own)))
        (subst (λ o. Left e.event o (unpublished_in (lists_by history a e.command e.event (lists_of history a)) (running_by e.command e.event (running_transaction_of history a)))) (sym one)
        (unpublished-own history a e.command e.event d (running_transaction_of history a) (subst (λ o. IsLawfulEvent history o e.command e.event) one lawful) (subst (λ o. AllowsEvent history o e.command e.event) one allows) refl some))

-- and what all have left
all-more : (history : List Entry) (e : Entry) (d : Purpose) → IsLawfulEvent history e.backend e.command e.event → AllowsEvent history e.backend e.command e.event → is_covered (all_unpublished history) d ≡ true
    → (is_covered (all_unpublished (history ++ e ∷ [])) d ≡ true) ⊎ (is_covered (published_by history e.backend e.event) d ≡ true)
all-more history e d lawful allows some = of (any-flat-or (covers d) (λ x. unpublished_of history x.backend) left (is_covered (published_by history e.backend e.event) d ≡ true) (λ x. unpublished-more history e d x.backend lawful allows) history some)
  where
    left : Entry → List Message
    left x = unpublished_of (history ++ e ∷ []) x.backend

    of : (list_any (covers d) (flat_map left history) ≡ true) ⊎ (is_covered (published_by history e.backend e.event) d ≡ true) → (is_covered (all_unpublished (history ++ e ∷ [])) d ≡ true) ⊎ (is_covered (published_by history e.backend e.event) d ≡ true)
    of (inl is) = inl (any-flat-left (covers d) left history (e ∷ []) is)
    of (inr is) = inr is

-- what is on its way is still so after an entry by which the backend takes nothing
pub coming-more : (history : List Entry) (e : Entry) (b : ℕ) (d : Purpose) → IsLawfulEvent history e.backend e.command e.event → AllowsEvent history e.backend e.command e.event → Placed history → position_of (history ++ e ∷ []) b ≡ position_of history b
    → IsComing history b d → IsComing (history ++ e ∷ []) b d
coming-more history e b d lawful allows placed stays coming = by_side (any-sides (covers d) (all_unpublished history) (drop (position_of history b) (log_of history)) coming)
  where
    after : List Entry
    after = history ++ e ∷ []

    tail : List Message
    tail = drop (position_of history b) (log_of history)

    published : List Message
    published = published_by history e.backend e.event

    tail_is : drop (position_of after b) (log_of after) ≡ tail ++ published
    tail_is =
        ap (λ at. drop at (log_of after)) stays ∙ ap (drop (position_of history b)) (log-more history e ∙ log-append history e.backend e.event (log_of history))
        ∙ drop-append-le (position_of history b) (log_of history) published (placed b)

    in_tail : is_covered (tail ++ published) d ≡ true → IsComing after b d
    in_tail is = any-right (covers d) (all_unpublished after) (drop (position_of after b) (log_of after)) (ap (λ ms. is_covered ms d) tail_is ∙ is)

    of_left : (is_covered (all_unpublished after) d ≡ true) ⊎ (is_covered published d ≡ true) → IsComing after b d
    of_left (inl is) = any-left (covers d) (all_unpublished after) (drop (position_of after b) (log_of after)) is
    of_left (inr is) = in_tail (any-right (covers d) tail published is)

    by_side : (is_covered (all_unpublished history) d ≡ true) ⊎ (is_covered tail d ≡ true) → IsComing after b d
    by_side (inl is) = of_left (all-more history e d lawful allows is)
    by_side (inr is) = in_tail (any-left (covers d) tail published is)

-- and after a fetch of its own that brings no message which covers the scan
pub coming-fetch : (history : List Entry) (b c count : ℕ) (d : Purpose) → AllowsEvent history b c (events.Fetch count) → is_covered (fetched_by history b count) d ≡ false
    → IsComing history b d → IsComing (history ++ entry_of b c (events.Fetch count) ∷ []) b d
coming-fetch history b c count d allows spared coming = by_side (any-sides (covers d) (all_unpublished history) tail coming)
  where
    e : Entry
    e = entry_of b c (events.Fetch count)

    after : List Entry
    after = history ++ e ∷ []

    tail : List Message
    tail = drop (position_of history b) (log_of history)

    tail_is : drop (position_of after b) (log_of after) ≡ drop count tail
    tail_is =
        ap (λ at. drop at (log_of after)) (position-own history e b (eq-eqb b b refl)) ∙ ap (drop (position_of history b + count)) (log-more history e)
        ∙ sym (drop-drop count (position_of history b) (log_of history))

    of_left : (is_covered (all_unpublished after) d ≡ true) ⊎ (is_covered (published_by history b (events.Fetch count)) d ≡ true) → IsComing after b d
    of_left (inl is) = any-left (covers d) (all_unpublished after) (drop (position_of after b) (log_of after)) is
    of_left (inr is) = absurd (cc)

    of_tail : (is_covered (take count tail) d ≡ true) ⊎ (is_covered (drop count tail) d ≡ true) → IsComing after b d
    of_tail (inl is) = absurd (both_ways _ spared is)
    of_tail (inr is) = any-right (covers d) (all_unpublished after) (drop (position_of after b) (log_of after)) (ap (λ ms. is_covered ms d) tail_is ∙ is)

    by_side : (is_covered (all_unpublished history) d ≡ true) ⊎ (is_covered tail d ≡ true) → IsComing after b d
    by_side (inl is) = of_left (all-more history e d tt allows is)
    by_side (inr is) = of_tail (any-sides (covers d) (take count tail) (drop count tail) (ap (λ ms. is_covered ms d) (take-append-drop count tail) ∙ is))

-- what becomes visible isn't published yet
pub unpublished-visible : (history : List Entry) (a c : ℕ) (xid : Xid) → is_visible (running_transaction_of history a) ≡ false → Unsent history → unpublished_of (history ++ entry_of a c (events.Visible xid) ∷ []) a ≡ sent_of history a
unpublished-visible history a c xid hidden unsent =
    ap (unpublished_in (lists_of (history ++ e ∷ []) a)) (running-own history e a own) ∙ ap (λ ws. unpublished_in ws (running_by c (events.Visible xid) (running_transaction_of history a))) (lists-own history e a own)
    ∙ whole (running_transaction_of history a) (unsent a hidden)
  where
    e : Entry
    e = entry_of a c (events.Visible xid)

    own : (a == a) ≡ true
    own = eq-eqb a a refl

    whole : (r : Option Running) → published_of r ≡ 0 → unpublished_in (lists_of history a) (Some (record (begun c r) { visible = true })) ≡ sent_of history a
    whole None none = refl
    whole (Some t) none = ap (λ k. drop k (sent_of history a)) none

-- so it is on its way
pub coming-visible : (history : List Entry) (a c : ℕ) (xid : Xid) (b : ℕ) (d : Purpose) → is_visible (running_transaction_of history a) ≡ false → Unsent history → is_covered (sent_of history a) d ≡ true
    → IsComing (history ++ entry_of a c (events.Visible xid) ∷ []) b d
coming-visible history a c xid b d hidden unsent covered =
    any-left (covers d) (all_unpublished after) (drop (position_of after b) (log_of after))
    (any-flat-last (covers d) (λ x. unpublished_of after x.backend) history (entry_of a c (events.Visible xid)) (ap (λ ms. is_covered ms d) (unpublished-visible history a c xid hidden unsent) ∙ covered))
  where
    after : List Entry
    after = history ++ entry_of a c (events.Visible xid) ∷ []
