-- How many messages each backend is past, over one entry more of a legal history.
use Rattle.std.proofs.Common.{◌≡◌, ◌≢◌, ◌≤◌, ◌+◌, ◌-◌, ◌∙◌, ◌&&◌, ◌⊎◌, inl, inr, ℕ, zero, suc, Bool, true, false, nat_lt, Option, Some, None, List, [], ◌∷◌, ◌++◌, ◌==◌, min, refl, sym, ap, subst, length, take, get_or, slice_get, slice_set, replicate, arith}
use Rattle.std.proofs.lemmas.Bool.{ne_eqb, eq-eqb}
use Rattle.std.proofs.lemmas.Bool.Decides.{eqb_tells}
use Rattle.std.proofs.lemmas.List.{length-append, length-take-le}
use Rattle.std.proofs.lemmas.Option.{slice_get_read}
use Rattle.base_types.specs.Scenario.{IsBackend}
use Rattle.event_kinds.specs.declared.entry.Event.TheVariants.{Start, Publish}
use Rattle.history_model.specs.MayFollow.{MayFollow, AllowsEvent}
use Rattle.history_model.specs.MayFollow.{FollowsLife}
use Rattle.history_model.specs.Lives.{is_alive, life_by, life_of}
use Rattle.history_model.specs.declared.life.Life.{Life}
use Rattle.history_model.specs.declared.life.Life.TheVariants.{Unstarted, Alive, Stopped}
use Rattle.history_model.specs.Log.{log_of, log_by, position_of, position_by, is_waiting}
use Rattle.history_model.specs.Sent.{unsent_of}
use Rattle.history_model.proofs.Reading.{log_of-more, life_of-own, life_of-other, position_of-own, position_of-other}
use Rattle.by_backend.proofs.Places.{get_of_set, get_beside_set}
use Rattle.check_tool.specs.Types.{Entry, Event}
use Rattle.check_tool.specs.Turning.{TellPlaces, place_at, place_of, place_after, published_after}

min_least : (n m k : ℕ) → k ≡ min n m → k ≤ m
min_least n m k same = omega (arith, same)

-- the number of messages that were published
published_more : (seen : List Entry) (e : Entry) → MayFollow seen e → length (log_of (seen ++ e ∷ [])) ≡ published_after e.event (length (log_of seen))
published_more seen e may = ap length (log_of-more seen e) ∙ by_event e.event may.event
  where
    by_event : (event : Event) → AllowsEvent seen e.backend e.command event → length (log_by seen e.backend event (log_of seen)) ≡ published_after event (length (log_of seen))
    by_event (Publish count) allows =
        let all = unsent_of seen e.backend in
        length-append (log_of seen) (take count all) ∙ ap (λ n. length (log_of seen) + n) (length-take-le count all (min_least 64 (length all) count allows.2))
    by_event event allows = refl

place_by : (seen : List Entry) (life : Life) (command : ℕ) (event : Event) (position : ℕ) → FollowsLife life command event → place_at (life_by command event) (position_by seen event position) ≡ place_after (length (log_of seen)) event (place_at life position)
place_by seen Unstarted command Start position follows = refl
place_by seen Unstarted command event position follows = absurd follows
place_by seen (Alive last) command Start position follows = absurd follows
place_by seen (Alive last) command event position follows = refl
place_by seen Stopped command event position follows = absurd follows

-- the place of the backend of an entry
place_own : (seen : List Entry) (e : Entry) (b : ℕ) → e.backend ≡ b → (e.backend == b) ≡ true → MayFollow seen e → place_of (seen ++ e ∷ []) b ≡ place_after (length (log_of seen)) e.event (place_of seen b)
place_own seen e b own same may =
    ap (λ life. place_at life (position_of (seen ++ e ∷ []) b)) (life_of-own seen e b same) ∙ ap (place_at (life_by e.command e.event)) (position_of-own seen e b same)
    ∙ place_by seen (life_of seen b) e.command e.event (position_of seen b) (subst (λ n. FollowsLife (life_of seen n) e.command e.event) own may.life)

-- the place of another one
place_other : (seen : List Entry) (e : Entry) (b : ℕ) → (e.backend == b) ≡ false → place_of (seen ++ e ∷ []) b ≡ place_of seen b
place_other seen e b other = ap (λ life. place_at life (position_of (seen ++ e ∷ []) b)) (life_of-other seen e b other) ∙ ap (place_at (life_of seen b)) (position_of-other seen e b other)

-- what is held of one entry more
pub tell_more : (seen : List Entry) (e : Entry) (published later : ℕ) (places : List (Option ℕ)) (was now : Option ℕ) → TellPlaces seen published places → MayFollow seen e → IsBackend (length places) e.backend
    → was ≡ get_or places (e.backend - 1) was → now ≡ place_after published e.event was → later ≡ published_after e.event published → TellPlaces (seen ++ e ∷ []) later (slice_set places (e.backend - 1) now)
tell_more seen e published later places was now tell may number read moved counted = record {
  published_is = counted ∙ ap (published_after e.event) tell.published_is ∙ sym (published_more seen e may);
  each = λ i place at. by_place i place at (eqb_tells (e.backend - 1) i);
}
  where
    there : slice_get places (e.backend - 1) ≡ Some was
    there = slice_get_read places (length places) (e.backend - 1) was refl (omega (arith, number.0, number.1)) read

    by_place : (i : ℕ) (place : Option ℕ) → slice_get (slice_set places (e.backend - 1) now) i ≡ Some place → ((((e.backend - 1) == i) ≡ true) × ((e.backend - 1) ≡ i)) ⊎ ((((e.backend - 1) == i) ≡ false) × ((e.backend - 1) ≢ i))
        → place ≡ place_of (seen ++ e ∷ []) (i + 1)
    by_place i place at (inl same) =
        let here : slice_get (slice_set places (e.backend - 1) now) (e.backend - 1) ≡ Some place = ap (slice_get (slice_set places (e.backend - 1) now)) same.1 ∙ at in
        let own : e.backend ≡ i + 1 = omega (arith, number.0, same.1) in
        let before : was ≡ place_of seen (i + 1) = tell.each i was (ap (slice_get places) (sym same.1) ∙ there) in
        get_of_set places (e.backend - 1) now was place there here ∙ moved ∙ ap (λ n. place_after n e.event was) tell.published_is ∙ ap (place_after (length (log_of seen)) e.event) before
        ∙ sym (place_own seen e (i + 1) own (eq-eqb e.backend (i + 1) own) may)
    by_place i place at (inr apart) =
        let other : (e.backend == i + 1) ≡ false = ne_eqb e.backend (i + 1) (λ same. apart.1 (omega (arith, same))) in
        tell.each i place (sym (get_beside_set places (e.backend - 1) i now apart.1) ∙ at) ∙ sym (place_other seen e (i + 1) other)

-- what stands in a list of one value
pub of_replicate : {X : Type 0} (n : ℕ) (x y : X) (i : ℕ) → slice_get (replicate n x) i ≡ Some y → y ≡ x
of_replicate zero x y i at = absurd cc
of_replicate (suc n) x y zero at = cc
of_replicate (suc n) x y (suc i) at = of_replicate n x y i at

-- what is held of no entry
pub tell_none : (n : ℕ) (places : List (Option ℕ)) → places ≡ replicate n None → TellPlaces [] 0 places
tell_none n places same = record {
  published_is = refl;
  each = λ i place at. of_replicate n None place i (ap (λ all. slice_get all i) (sym same) ∙ at);
}

-- whether a message waits for a backend at this place
abbrev waits_at : ℕ → Option ℕ → Bool
waits_at published None = false
waits_at published (Some place) = nat_lt place published

-- whichever life the backend is in, a message waits exactly where `waits_at` says so of its place
waits_by : (seen : List Entry) (b : ℕ) (life : Life) → (is_alive life && nat_lt (position_of seen b) (length (log_of seen))) ≡ waits_at (length (log_of seen)) (place_at life (position_of seen b))
waits_by seen b Unstarted = refl
waits_by seen b (Alive last) = refl
waits_by seen b Stopped = refl

-- a message waits for a backend where the place that is held says so
pub waits_told : (seen : List Entry) (b published : ℕ) (places : List (Option ℕ)) (place held : Option ℕ) → TellPlaces seen published places → IsBackend (length places) b → place ≡ get_or places (b - 1) place → place ≡ held → waits_at published held ≡ is_waiting seen b
waits_told seen b published places place held tell number read is =
    ap (waits_at published) (sym is ∙ tell.each (b - 1) place (slice_get_read places (length places) (b - 1) place refl (omega (arith, number.0, number.1)) read) ∙ ap (place_of seen) own)
    ∙ ap (λ n. waits_at n (place_of seen b)) tell.published_is ∙ sym (waits_by seen b (life_of seen b))
  where
    own : b - 1 + 1 ≡ b
    own = omega (arith, number.0)
