-- A scan that a backend may still rely on is accounted for: it stays true, or a message that covers it is on its way.
use Rattle.std.proofs.Common.{◌≡◌, ◌∙◌, ◌⊎◌, inl, inr, ◌+◌, ℕ, Bool, true, false, Some, List, [], ◌∷◌, ◌++◌, ◌==◌, ◌||◌, ◌&&◌, refl, sym, ap, subst, unwrap_or, length, arith}
use Rattle.std.proofs.lemmas.Bool.{eqb-true, eq-eqb, both_ways, and_parts, not-true}
use Rattle.base_types.specs.declared.scan.Purpose.{Purpose}
use Rattle.event_kinds.specs.declared.entry.Entry.{Entry}
use Rattle.event_kinds.specs.declared.entry.Event.{Event}
use Rattle.event_kinds.specs.declared.entry.Event.TheVariants as events
use Rattle.inval_messages.specs.declared.message.Message.{Message}
use Rattle.inval_messages.specs.Messages.{is_spared}
use Rattle.inval_messages.specs.Lists.{lists_from, sent_in}
use Rattle.history_model.specs.Lives.{Life, Unstarted, Alive, Stopped, life_of}
use Rattle.history_model.specs.MayFollow.{FollowsLife}
use Rattle.history_model.specs.Sent.{messages_written, lists_of, sent_of}
use Rattle.history_model.specs.Log.{fetched_by}
use Rattle.history_model.specs.Covered.{is_covered}
use Rattle.history_model.specs.Coming.{IsComing, IsAccounted}
use Rattle.history_model.specs.MayFollow.{AllowsEvent}
use Rattle.history_model.specs.Read.{read_at, is_scan_of, place_read, rows_read, spares_by, usable_by, is_usable}
use Rattle.history_model.specs.Sound.{MayComeNext, IsSound}
use Rattle.history_model.proofs.Prefixes.{each-keeps, along-keeps, EachEntry-more}
use Rattle.history_model.proofs.Reading.{life_of-own, life_of-other, position_of-own, position_of-other, is_usable-own, is_usable-other, read_at-own, read_at-other}
use Rattle.history_model.proofs.Lawful.{IsLawful}
use Rattle.history_model.proofs.Lives.{not_unstarted}
use Rattle.history_model.proofs.Touched.{entry_of}
use Rattle.history_model.proofs.Ordered.{Ordered, Ordered-start, Ordered-more, lawful_of}
use Rattle.history_model.proofs.CountedAnswers.{IsUntoldByOther, IsUntoldByOwn, counted-other, counted-own}
use Rattle.history_model.proofs.Coming.{Placed, Placed-more, Unsent, Unsent-more, coming-more, coming-fetch, coming-visible}
use Rattle.history_model.proofs.Staying.{Stays, stays-other, stays-kept, stays-scan}

-- before its start a backend may rely on no scan
abbrev pub Unread : List Entry → Type 0
Unread history = (b : ℕ) (d : Purpose) → life_of history b ≡ Unstarted → is_usable history b d ≡ false

-- all scans that are usable are accounted for
abbrev Accounted : List Entry → Type 0
Accounted history = (b : ℕ) (d : Purpose) → is_usable history b d ≡ true → IsAccounted history b d (place_read history b d) (rows_read history b d)

-- all that is carried along a sound history
record Carried (history : List Entry) : Type 0 where
  sound : IsSound history
  ordered : Ordered history
  placed : Placed history
  unsent : Unsent history
  unread : Unread history
  accounted : Accounted history

Unread-more : (history : List Entry) (e : Entry) → Unread history → Unread (history ++ e ∷ [])
Unread-more history e unread b d is = by_owner (e.backend == b) refl
  where
    by_owner : (t : Bool) → (e.backend == b) ≡ t → is_usable (history ++ e ∷ []) b d ≡ false
    by_owner true own = absurd (not_unstarted e.command e.event (sym (life_of-own history e b own) ∙ is))
    by_owner false other = is_usable-other history e b d other ∙ unread b d (sym (life_of-other history e b other) ∙ is)

-- another's entry spares the scan, or what covers it is on its way
spared_or_coming : (history : List Entry) (a c : ℕ) (event : Event) (b : ℕ) (d : Purpose) → IsLawful history (entry_of a c event) → Unsent history → IsUntoldByOther history a event d ⊎ IsComing (history ++ entry_of a c event ∷ []) b d
spared_or_coming history a c (events.Visible xid) b d lawful unsent = by_test (is_covered (sent_of history a) d) refl
  where
    by_test : (t : Bool) → is_covered (sent_of history a) d ≡ t → (is_covered (sent_of history a) d ≡ false) ⊎ IsComing (history ++ entry_of a c (events.Visible xid) ∷ []) b d
    by_test true is = inr (coming-visible history a c xid b d lawful.0 unsent is)
    by_test false is = inl is
spared_or_coming history a c event b d lawful unsent = inl tt

after_other : (history : List Entry) (a c : ℕ) (event : Event) (b : ℕ) (d : Purpose) → (a == b) ≡ false → IsLawful history (entry_of a c event) → MayComeNext history (entry_of a c event) → Carried history
    → IsComing history b d ⊎ Stays history b d → IsComing (history ++ entry_of a c event ∷ []) b d ⊎ Stays (history ++ entry_of a c event ∷ []) b d
after_other history a c event b d other lawful comes k (inl coming) = inl (coming-more history (entry_of a c event) b d lawful comes.follows.event k.placed (position_of-other history (entry_of a c event) b other) coming)
after_other history a c event b d other lawful comes k (inr stays) = by_case (spared_or_coming history a c event b d lawful k.unsent)
  where
    by_case : IsUntoldByOther history a event d ⊎ IsComing (history ++ entry_of a c event ∷ []) b d → IsComing (history ++ entry_of a c event ∷ []) b d ⊎ Stays (history ++ entry_of a c event ∷ []) b d
    by_case (inl spared) = inr (stays-other history (entry_of a c event) b d other (counted-other history a c event b d other k.sound comes spared) stays)
    by_case (inr coming) = inl coming

pub spared_is : (d : Purpose) (messages : List Message) → is_spared d messages ≡ true → is_covered messages d ≡ false
spared_is d messages is = not-true (is_covered messages d) is

-- an own entry that leaves the scan usable spares it
pub own_spared : (history : List Entry) (b c : ℕ) (event : Event) (d : Purpose) → spares_by history b c d event ≡ true → IsUntoldByOwn history b event d
own_spared history b c (events.Write xid items) d is = spared_is d (messages_written history b items) is
own_spared history b c (events.Gone from) d is = spared_is d (sent_in (lists_from from (lists_of history b))) is
own_spared history b c event d is = tt

pub no_start : (history : List Entry) (b c : ℕ) (d : Purpose) (life : Life) → life_of history b ≡ life → FollowsLife life c events.Start → Unread history → is_usable history b d ≡ true → ⊥
no_start history b c d Unstarted is follows unread was = both_ways _ (unread b d is) was
no_start history b c d (Alive last) is follows unread was = absurd follows
no_start history b c d Stopped is follows unread was = absurd follows

-- what is on its way stays so after an own entry that leaves the scan usable
own_coming : (history : List Entry) (b c : ℕ) (event : Event) (d : Purpose) → IsLawful history (entry_of b c event) → AllowsEvent history b c event → FollowsLife (life_of history b) c event → Carried history → is_usable history b d ≡ true → spares_by history b c d event ≡ true
    → IsComing history b d → IsComing (history ++ entry_of b c event ∷ []) b d
own_coming history b c (events.Fetch count) d lawful allows life k was is coming = coming-fetch history b c count d allows (spared_is d (fetched_by history b count) is) coming
own_coming history b c events.FetchReset d lawful allows life k was is coming = absurd (cc)
own_coming history b c events.Start d lawful allows life k was is coming = absurd (no_start history b c d (life_of history b) refl life k.unread was)
own_coming history b c event d lawful allows life k was is coming = coming-more history (entry_of b c event) b d lawful allows k.placed (position_of-own history (entry_of b c event) b (eq-eqb b b refl)) coming

-- the scan itself is spared
pub scan_spared : (history : List Entry) (b c : ℕ) (event : Event) (d : Purpose) → is_scan_of d event ≡ true → IsUntoldByOwn history b event d
scan_spared history b c (events.Write xid items) d it = absurd (cc)
scan_spared history b c (events.Gone from) d it = absurd (cc)
scan_spared history b c event d it = tt

after_own : (history : List Entry) (b c : ℕ) (event : Event) (d : Purpose) → IsLawful history (entry_of b c event) → MayComeNext history (entry_of b c event) → Carried history → usable_by history b c d event (is_usable history b d) ≡ true
    → IsComing (history ++ entry_of b c event ∷ []) b d ⊎ Stays (history ++ entry_of b c event ∷ []) b d
after_own history b c event d lawful comes k is = by_scan (is_scan_of d event) refl is
  where
    own : (b == b) ≡ true
    own = eq-eqb b b refl

    kept : is_scan_of d event ≡ false → is_usable history b d ≡ true → spares_by history b c d event ≡ true → IsComing history b d ⊎ Stays history b d → IsComing (history ++ entry_of b c event ∷ []) b d ⊎ Stays (history ++ entry_of b c event ∷ []) b d
    kept not_it was spared (inl coming) = inl (own_coming history b c event d lawful comes.follows.event comes.follows.life k was spared coming)
    kept not_it was spared (inr stays) = inr (stays-kept history (entry_of b c event) b d own not_it (counted-own history b c event d k.sound comes (own_spared history b c event d spared)) stays)

    by_scan : (t : Bool) → is_scan_of d event ≡ t → (t || (spares_by history b c d event && is_usable history b d)) ≡ true → IsComing (history ++ entry_of b c event ∷ []) b d ⊎ Stays (history ++ entry_of b c event ∷ []) b d
    by_scan true it used = inr (stays-scan history (entry_of b c event) b d own it (counted-own history b c event d k.sound comes (scan_spared history b c event d it)))
    by_scan false not_it used = let parts = and_parts (spares_by history b c d event) (is_usable history b d) used in kept not_it parts.1 parts.0 (k.accounted b d parts.1)

Accounted-more : (history : List Entry) (e : Entry) → MayComeNext history e → Carried history → Accounted (history ++ e ∷ [])
Accounted-more history e comes k b d is = by_owner (e.backend == b) refl
  where
    lawful : IsLawful history e
    lawful = lawful_of history e k.ordered comes

    by_owner : (t : Bool) → (e.backend == b) ≡ t → IsComing (history ++ e ∷ []) b d ⊎ Stays (history ++ e ∷ []) b d
    by_owner true own = subst (λ o. is_usable (history ++ e ∷ []) o d ≡ true → IsComing (history ++ e ∷ []) o d ⊎ Stays (history ++ e ∷ []) o d) (eqb-true e.backend b own)
        (λ used. after_own history e.backend e.command e.event d lawful comes k (sym (is_usable-own history e e.backend d (eq-eqb e.backend e.backend refl)) ∙ used)) is
    by_owner false other = after_other history e.backend e.command e.event b d other lawful comes k (k.accounted b d (sym (is_usable-other history e b d other) ∙ is))

carried-start : Carried []
carried-start = record { sound = tt; ordered = Ordered-start; placed = λ b. omega arith; unsent = λ a hidden. refl; unread = λ b d is. refl; accounted = λ b d is. absurd (cc) }

carried-more : (history : List Entry) (e : Entry) → Carried history → MayComeNext history e → Carried (history ++ e ∷ [])
carried-more history e k comes = record {
  sound = EachEntry-more MayComeNext history e k.sound comes;
  ordered = Ordered-more history e k.ordered comes;
  placed = Placed-more history e comes.follows.event k.placed;
  unsent = Unsent-more history e comes.follows.event k.unsent;
  unread = Unread-more history e k.unread;
  accounted = Accounted-more history e comes k;
}

-- what a backend may rely on stays what the scan gave, or a message that covers it is on its way
pub usable_accounted : (history : List Entry) (b : ℕ) (d : Purpose) → IsSound history → is_usable history b d ≡ true → IsAccounted history b d (place_read history b d) (rows_read history b d)
usable_accounted history b d sound is = (each-keeps MayComeNext Carried carried-start carried-more history sound).accounted b d is

-- no backend is past the log's end
pub sound_placed : (history : List Entry) → IsSound history → Placed history
sound_placed history sound = (each-keeps MayComeNext Carried carried-start carried-more history sound).placed

-- before its start a backend may rely on no scan
pub sound_unread : (history : List Entry) → IsSound history → Unread history
sound_unread history sound = (each-keeps MayComeNext Carried carried-start carried-more history sound).unread

-- nothing is published of what isn't visible
pub sound_unsent : (history : List Entry) → IsSound history → Unsent history
sound_unsent history sound = (each-keeps MayComeNext Carried carried-start carried-more history sound).unsent

-- what a backend may rely on it has read
pub usable_read : (history : List Entry) (b : ℕ) (d : Purpose) → is_usable history b d ≡ true → read_at history b d ≡ Some (place_read history b d)
usable_read history b d = along-keeps {X = Unit {0}} (λ before x. is_usable before b d ≡ true → read_at before b d ≡ Some (place_read before b d)) (λ before x e. x) (λ before x e was. more before e was) tt history (λ none. absurd (cc none))
  where
    more : (before : List Entry) (e : Entry) → (is_usable before b d ≡ true → read_at before b d ≡ Some (place_read before b d)) → is_usable (before ++ e ∷ []) b d ≡ true → read_at (before ++ e ∷ []) b d ≡ Some (place_read (before ++ e ∷ []) b d)
    more before e was is = by_owner (e.backend == b) refl
      where
        same : read_at (before ++ e ∷ []) b d ≡ read_at before b d → is_usable before b d ≡ true → read_at (before ++ e ∷ []) b d ≡ Some (place_read (before ++ e ∷ []) b d)
        same stays used = stays ∙ was used ∙ ap (λ o. Some (unwrap_or o 0)) (sym stays)

        by_scan : (e.backend == b) ≡ true → (t : Bool) → is_scan_of d e.event ≡ t → read_at (before ++ e ∷ []) b d ≡ Some (place_read (before ++ e ∷ []) b d)
        by_scan own true it = let at = read_at-own before e b d own ∙ ap (λ t. elim t [ true ↦ Some (length before + 1) | false ↦ read_at before b d ]) it in at ∙ ap (λ o. Some (unwrap_or o 0)) (sym at)
        by_scan own false it =
            same (read_at-own before e b d own ∙ ap (λ t. elim t [ true ↦ Some (length before + 1) | false ↦ read_at before b d ]) it)
            (and_parts (spares_by before b e.command d e.event) (is_usable before b d) (sym (ap (λ t. t || (spares_by before b e.command d e.event && is_usable before b d)) it) ∙ sym (is_usable-own before e b d own) ∙ is)).1

        by_owner : (t : Bool) → (e.backend == b) ≡ t → read_at (before ++ e ∷ []) b d ≡ Some (place_read (before ++ e ∷ []) b d)
        by_owner true own = by_scan own (is_scan_of d e.event) refl
        by_owner false other = same (read_at-other before e b d other) (sym (is_usable-other before e b d other) ∙ is)
