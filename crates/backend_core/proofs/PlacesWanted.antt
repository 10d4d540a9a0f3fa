-- The places that a backend wants: they are promised, and no more than these.
use Rattle.std.proofs.Common.{◌≡◌, ◌≤◌, ◌<◌, ◌∙◌, ◌++◌, ◌⊎◌, inl, inr, ℕ, max, List, [], sym, ap, subst, append_assoc, append-nil, arith}
use Rattle.std.proofs.lemmas.Bool.{cases_lt}
use Rattle.base_types.specs.Scenario.{Scenario}
use Rattle.event_kinds.specs.declared.entry.Entry.{Entry}
use Rattle.backend_core.specs.declared.backend.Backend.{Backend}
use Rattle.backend_core.specs.Agrees.{Stands}
use Rattle.backend_core.specs.Places.{WantsPlaces, HasWanted, WantedBetween, PromisesOnly, Always, Wanted}

-- it has those that it wants
pub has_wanted : {n b places : ℕ} {s : Backend} (has : ℕ → ℕ) → n ≡ b → WantsPlaces s places → places ≤ has b → HasWanted s (has n)
has_wanted {n} {b} {places} {s} has id wants enough = record { places = places; wants = wants; enough = let same = ap has id in omega (arith, same, enough) }

-- no more is promised than was
pub kept_only : {scenario : Scenario} {b : ℕ} {old new : List Entry} {had has : ℕ} → has ≡ had → PromisesOnly scenario b old new had has
kept_only {scenario} {b} {old} {new} {had} {has} same = Always (omega (arith, same))

-- it wants so many where it stands, before an entry
pub wanted_here : {scenario : Scenario} {b : ℕ} {old new : List Entry} {s : Backend} {places : ℕ} (after : List Entry) → new ≡ old ++ after → Stands scenario old s → s.progress.id ≡ b → WantsPlaces s places → WantedBetween scenario b old new places
wanted_here {scenario} {b} {old} {new} {s} {places} after grows stands id wants = record {
  before = [];
  after = after;
  between = grows ∙ ap (λ h. h ++ after) (sym (append-nil old));
  backend = s;
  id = id;
  stands = subst (λ h. Stands scenario h s) (sym (append-nil old)) stands;
  wants = wants;
}

-- what it wanted later counts from an earlier history on too
wanted_since : {scenario : Scenario} {b : ℕ} {old mid new : List Entry} {places : ℕ} (more : List Entry) → mid ≡ old ++ more → WantedBetween scenario b mid new places → WantedBetween scenario b old new places
wanted_since {scenario} {b} {old} {mid} {new} {places} more grows wanted = record {
  before = more ++ wanted.before;
  after = wanted.after;
  between = wanted.between ∙ ap (λ h. h ++ wanted.after) same;
  backend = wanted.backend;
  id = wanted.id;
  stands = subst (λ h. Stands scenario h wanted.backend) same wanted.stands;
  wants = wanted.wants;
}
  where
    same : mid ++ wanted.before ≡ old ++ (more ++ wanted.before)
    same = ap (λ h. h ++ wanted.before) grows ∙ append_assoc old more wanted.before

-- and so does what it wanted before further entries
wanted_until : {scenario : Scenario} {b : ℕ} {old mid new : List Entry} {places : ℕ} (more : List Entry) → new ≡ mid ++ more → WantedBetween scenario b old mid places → WantedBetween scenario b old new places
wanted_until {scenario} {b} {old} {mid} {new} {places} more grows wanted = record {
  before = wanted.before;
  after = wanted.after ++ more;
  between = grows ∙ ap (λ h. h ++ more) wanted.between ∙ append_assoc (old ++ wanted.before) wanted.after more;
  backend = wanted.backend;
  id = wanted.id;
  stands = wanted.stands;
  wants = wanted.wants;
}

-- no more is promised, where no more was before that
more_always : {scenario : Scenario} {b : ℕ} {old mid new : List Entry} {had held has : ℕ} (more : List Entry) → new ≡ mid ++ more → PromisesOnly scenario b old mid had held → has ≤ max held 48 → PromisesOnly scenario b old new had has
more_always more grows (Always one) two = Always (omega (arith, one, two))
more_always more grows (Wanted places wanted one) two = Wanted places (wanted_until more grows wanted) (omega (arith, one, two))

more_wanted : {scenario : Scenario} {b : ℕ} {old mid new : List Entry} {had held has places : ℕ} (more : List Entry) → new ≡ mid ++ more → WantedBetween scenario b old new places → PromisesOnly scenario b old mid had held → has ≤ max held (max places 48) → PromisesOnly scenario b old new had has
more_wanted more grows wanted (Always one) two = Wanted _ wanted (omega (arith, one, two))
more_wanted {scenario} {b} {old} {mid} {new} {had} {held} {has} {places} more grows wanted (Wanted fewer sooner one) two = by_more (cases_lt places fewer)
  where
    by_more : (places < fewer) ⊎ (fewer ≤ places) → PromisesOnly scenario b old new had has
    by_more (inl less) = Wanted fewer (wanted_until more grows sooner) (omega (arith, one, two, less))
    by_more (inr less) = Wanted places wanted (omega (arith, one, two, less))

-- while it grew twice
pub only_then : {scenario : Scenario} {b : ℕ} {old mid new : List Entry} {had held has : ℕ} (first more : List Entry) → mid ≡ old ++ first → new ≡ mid ++ more → PromisesOnly scenario b old mid had held → PromisesOnly scenario b mid new held has → PromisesOnly scenario b old new had has
only_then first more begins grows one (Always two) = more_always more grows one two
only_then first more begins grows one (Wanted places wanted two) = more_wanted more grows (wanted_since first begins wanted) one two
