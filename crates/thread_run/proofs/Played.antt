-- What is shared, after looks and after entries of a backend.
use Rattle.std.proofs.Common.{◌≡◌, ◌≢◌, ◌≤◌, ◌<◌, ◌+◌, ◌∙◌, ◌^◌, ◌⊎◌, inl, inr, ◌==◌, ℕ, zero, suc, Bool, true, false, not, List, [], ◌∷◌, ◌++◌, refl, sym, ap, subst, append_assoc, append-nil, length, max, Result, Ok, Err, OnOk, OnErr, IfOk, arith}
use Rattle.std.proofs.lemmas.Bool.{both_ways, cases_lt}
use Rattle.std.proofs.lemmas.List.{length-append}
use lib.ListN.{length-map}
use Rattle.std.proofs.lemmas.Bool.Decides.{eqb_tells}
use Rattle.base_types.specs.Scenario.{Scenario, IsBackend}
use Rattle.event_kinds.specs.declared.entry.Entry.{Entry}
use Rattle.history_model.specs.Lapped.{FetchesFrom}
use Rattle.history_model.specs.Prefixes.{EachEntry}
use Rattle.history_model.specs.Read.{ScansOnlyIfNeeded}
use Rattle.history_model.proofs.Prefixes.{EachEntry-more}
use Rattle.history_model.proofs.Sound.{sound_is_legal}
use Rattle.cacheless.specs.Output.{IsAllowed}
use Rattle.cacheless.specs.State.{one_if}
use Rattle.seg_calls.specs.Calls.{all_promised}
use Rattle.turn_table.specs.Histories.{Grew, OnlyOf}
use Rattle.turn_table.proofs.Lists.{each_append}
use Rattle.backend_core.specs.declared.backend.Backend.{Backend}
use Rattle.backend_core.specs.declared.life.Life.{Life}
use Rattle.backend_core.specs.declared.life.Life.TheVariants as lives
use Rattle.backend_core.specs.declared.turns.HeldLook.{HeldLook}
use Rattle.backend_core.specs.Agrees.{AreSpelled, IsPlayed, AgreesNow, Stands}
use Rattle.backend_core.specs.Halts.{AwaitsCommand}
use Rattle.backend_core.specs.Looks.{entry_held, entries_of, MayCallAll, TakesPlaces, IsRight, IsOnItsWay, GoesOver, GoesWherever}
use Rattle.backend_core.specs.Noted.{NotesEntry, NotesAtEntry, noted_of, nothing_noted}
use Rattle.backend_core.specs.Steps.{MakesEntry, IsRefused, Before, After, MakesNext, Remains, Left, Steps}
use Rattle.backend_core.specs.Words.{has_left, has_joined}
use Rattle.backend_core.proofs.Played.{IsPlayed-more}
use Rattle.backend_core.proofs.PlacesWanted.{wanted_here, only_then}
use Rattle.backend_core.proofs.Stepped.{awaits_stands}
use Rattle.thread_run.specs.AskedBefore.{asked_before}
use Rattle.thread_run.specs.Runs.{IsRunSoFar}
use Rattle.thread_run.specs.Turns.{backend_of, HasMore, EntersInTurn, MakesAll, HasTakenTurn}
use Rattle.backend_core.specs.Places.{WantsPlaces, PromisesOnly, Always, Wanted}
use Rattle.thread_run.specs.Entering.{MayEnterNext, PlaysOn, PromisesWanted, ComesTo}

-- what holds of each entry holds of looks that come after
pub each_looked : (P : List Entry → Entry → Type 0) (history : List Entry) (b : ℕ) (held : List HeldLook) → ((before : List Entry) (look : HeldLook) → P before (entry_held b look)) → EachEntry P history → EachEntry P (history ++ entries_of b held)
each_looked P history b [] looks each = subst (EachEntry P) (sym (append-nil history)) each
each_looked P history b (look ∷ held) looks each = subst (EachEntry P) (append_assoc history (entry_held b look ∷ []) (entries_of b held))
    (each_looked P (history ++ entry_held b look ∷ []) b held looks (EachEntry-more P history (entry_held b look) each (looks history look)))

-- looks that were played
pub run_looked : (scenario : Scenario) (history : List Entry) (b : ℕ) (held : List HeldLook) → IsRunSoFar scenario history → IsPlayed scenario (history ++ entries_of b held) → IsRunSoFar scenario (history ++ entries_of b held)
run_looked scenario history b held run played = record {
  played = played;
  queue = each_looked (λ before e. FetchesFrom scenario.size before e.backend e.event) history b held (λ before look. tt) run.queue;
  economical = each_looked (λ before e. ScansOnlyIfNeeded before e.backend e.event) history b held (λ before look. tt) run.economical;
}

-- and an entry that may be made
pub run_more : (scenario : Scenario) (old new : List Entry) (had has : ℕ → ℕ) (b : ℕ) → IsRunSoFar scenario old → MakesEntry scenario old new had has b → IsRunSoFar scenario new
run_more scenario old new had has b run makes = subst (IsRunSoFar scenario) (sym makes.is) (record {
  played = IsPlayed-more scenario old makes.entry run.played makes.may;
  queue = EachEntry-more (λ before e. FetchesFrom scenario.size before e.backend e.event) old makes.entry run.queue makes.may.suits.queue;
  economical = EachEntry-more (λ before e. ScansOnlyIfNeeded before e.backend e.event) old makes.entry run.economical makes.may.suits.needed;
})

-- so too where memory was refused
pub run_refused : (scenario : Scenario) (old new : List Entry) (had has : ℕ → ℕ) (b : ℕ) → IsRunSoFar scenario old → IsRefused scenario old new had has b → IsRunSoFar scenario new
run_refused scenario old new had has b run (Before same) = subst (IsRunSoFar scenario) (sym same.entries) run
run_refused scenario old new had has b run (After makes) = run_more scenario old new had has b run makes

-- before the first entry
pub run_none : (scenario : Scenario) (history : List Entry) → AreSpelled scenario → history ≡ [] → IsRunSoFar scenario history
run_none scenario history spelled none = subst (IsRunSoFar scenario) (sym none) (record { played = record { sound = tt; plays = tt; columns = tt; indexes = tt; names = tt; spelled = spelled }; queue = tt; economical = tt })

-- so the history is allowed
pub run_allowed : (scenario : Scenario) (history : List Entry) → IsRunSoFar scenario history → IsAllowed scenario history
run_allowed scenario history run = record { legal = sound_is_legal history run.played.sound; queue = run.queue; plays = run.played.plays; economical = run.economical }

-- looks are their backend's own
own_looks : (b : ℕ) (held : List HeldLook) → OnlyOf backend_of b (entries_of b held)
own_looks b [] = tt
own_looks b (look ∷ held) = (refl, own_looks b held)

-- the history grew: not at all, by looks, by an entry, and then again
pub grew_not : (b : ℕ) (old new : List Entry) → new ≡ old → Grew backend_of b old new
grew_not b old new same = record { rest = []; grows = same ∙ sym (append-nil old); own = tt }

pub grew_looked : (b : ℕ) (old new : List Entry) (held : List HeldLook) → new ≡ old ++ entries_of b held → Grew backend_of b old new
grew_looked b old new held is = record { rest = entries_of b held; grows = is; own = own_looks b held }

pub grew_then : (b : ℕ) (first old new : List Entry) → Grew backend_of b first old → Grew backend_of b old new → Grew backend_of b first new
grew_then b first old new one two = record {
  rest = one.rest ++ two.rest;
  grows = two.grows ∙ ap (λ h. h ++ two.rest) one.grows ∙ append_assoc first one.rest two.rest;
  own = each_append (λ (e : Entry). backend_of e ≡ b) one.rest two.rest one.own two.own;
}

pub grew_made : (scenario : Scenario) (old new : List Entry) (had has : ℕ → ℕ) (b : ℕ) → MakesEntry scenario old new had has b → Grew backend_of b old new
grew_made scenario old new had has b makes = record { rest = makes.entry ∷ []; grows = makes.is; own = (makes.own, tt) }

pub grew_refused : (scenario : Scenario) (old new : List Entry) (had has : ℕ → ℕ) (b : ℕ) → IsRefused scenario old new had has b → Grew backend_of b old new
grew_refused scenario old new had has b (Before same) = grew_not b old new same.entries
grew_refused scenario old new had has b (After makes) = grew_made scenario old new had has b makes

-- it has own entries more: one, and then others
pub more_made : (scenario : Scenario) (old new : List Entry) (had has : ℕ → ℕ) (b : ℕ) → MakesEntry scenario old new had has b → HasMore b old new
more_made scenario old new had has b makes = record { entry = makes.entry; own = makes.own; rest = []; others = tt; is = makes.is }

pub more_then : (b : ℕ) (first old new : List Entry) → HasMore b first old → Grew backend_of b old new → HasMore b first new
more_then b first old new more grew = record {
  entry = more.entry;
  own = more.own;
  rest = more.rest ++ grew.rest;
  others = each_append (λ (e : Entry). backend_of e ≡ b) more.rest grew.rest more.others grew.own;
  is = grew.grows ∙ ap (λ h. h ++ grew.rest) more.is ∙ append_assoc first (more.entry ∷ more.rest) grew.rest;
}

-- by one at least
pub more_least : {b : ℕ} {old new : List Entry} → HasMore b old new → length old + 1 ≤ length new
more_least {b} {old} {new} more = let e = ap length more.is in omega (arith, e, length-append old (more.entry ∷ more.rest))

-- by looks as many as they are
pub looks_long : (b : ℕ) (old new : List Entry) (held : List HeldLook) → new ≡ old ++ entries_of b held → length old + length held ≤ length new
looks_long b old new held is = let e = ap length is in omega (arith, e, length-append old (entries_of b held), length-map held (entry_held b))

-- and then by those that a turn makes at least
pub full_more : {E : Type 0} (s : Backend) (count most : ℕ) (old mid new : List Entry) (result : Result Bool E) → length old + count ≤ length mid → IfOk result (λ over. MakesAll over s most mid new) → IfOk result (λ over. MakesAll over s (count + most) old new)
full_more s count most old mid new (Ok over) some full = λ is stays. let later = full is stays in omega (arith, some, later)
full_more s count most old mid new (Err e) some full = tt

places_step : (promised : ℕ → ℕ) (n b : ℕ) → (b ≤ n → promised b ≤ all_promised promised n) → b ≤ suc n → promised b ≤ all_promised promised n + promised (suc n)
places_step promised n b before most = of (eqb_tells b (suc n))
  where
    of : (((b == suc n) ≡ true) × (b ≡ suc n)) ⊎ (((b == suc n) ≡ false) × (b ≢ suc n)) → promised b ≤ all_promised promised n + promised (suc n)
    of (inl same) = let p : promised b ≡ promised (suc n) = ap promised same.1 in omega arith
    of (inr apart) = let ne = apart.1 in let below = before (omega (arith, ne, most)) in omega (arith, below)

-- the places of one backend are some of all
pub places_some : (promised : ℕ → ℕ) (backends b : ℕ) → IsBackend backends b → promised b ≤ all_promised promised backends
places_some promised zero b is = absurd (omega (arith, is.0, is.1))
places_some promised (suc n) b is = places_step promised n b (λ low. places_some promised n b (is.0, low)) is.1

-- so with some places left there is room for further looks
pub short_enough : (history : List Entry) (promised : ℕ → ℕ) (backends b : ℕ) → IsBackend backends b → length history + all_promised promised backends ≤ 2 ^ 56 → 16 ≤ promised b → length history + 16 ≤ 2 ^ 56
short_enough history promised backends b is short some = omega (arith, short, some, places_some promised backends b is)

-- the entry of a backend that made its next one
next_made : {scenario : Scenario} {old new : List Entry} {had has : ℕ → ℕ} {was now : Backend} → MakesNext scenario old new had has was now → MakesEntry scenario old new had has was.progress.id
next_made (Remains enters) = enters.makes
next_made (Left gone steps) = steps.makes

-- what is as it was
pub plays_same : {b : ℕ} {scenario later : Scenario} {old new : List Entry} {had has : ℕ → ℕ} → later ≡ scenario → new ≡ old → IsRunSoFar scenario old → ((a : ℕ) → a ≢ b → has a ≡ had a) → PromisesOnly scenario b old new (had b) (has b) → PlaysOn b scenario later old new had has
plays_same {b} {scenario} {later} {old} {new} same is run others own = record {
  script = same;
  run = subst (λ (k : Scenario). IsRunSoFar k new) (sym same) (subst (IsRunSoFar scenario) (sym is) run);
  grew = grew_not b old new is;
  others = others;
  own = own;
}

-- once and then again
pub plays_then : {b : ℕ} {scenario later last : Scenario} {old now new : List Entry} {had mid has : ℕ → ℕ} → PlaysOn b scenario later old now had mid → PlaysOn b later last now new mid has → PlaysOn b scenario last old new had has
plays_then {b} {scenario} {later} {last} {old} {now} {new} {had} {mid} {has} one two = record {
  script = two.script ∙ one.script;
  run = two.run;
  grew = grew_then b old now new one.grew two.grew;
  others = λ a apart. two.others a apart ∙ one.others a apart;
  own = only_then one.grew.rest two.grew.rest one.grew.grows two.grew.grows one.own (subst (λ (k : Scenario). PromisesOnly k b now new (mid b) (has b)) one.script two.own);
}

-- by looks that were handed over
pub plays_looks : {b : ℕ} {scenario later : Scenario} {old new : List Entry} {had has : ℕ → ℕ} (held : List HeldLook) → later ≡ scenario → new ≡ old ++ entries_of b held → IsRunSoFar scenario old → IsPlayed scenario (old ++ entries_of b held) → ((a : ℕ) → a ≢ b → has a ≡ had a) → has b ≤ max (had b) 48 → PlaysOn b scenario later old new had has
plays_looks {b} {scenario} {later} {old} {new} held same is run played others most = record {
  script = same;
  run = subst (λ (k : Scenario). IsRunSoFar k new) (sym same) (subst (IsRunSoFar scenario) (sym is) (run_looked scenario old b held run played));
  grew = grew_looked b old new held is;
  others = others;
  own = Always most;
}

-- by an entry that was made, or none
fewer_refused : (scenario : Scenario) (old new : List Entry) (had has : ℕ → ℕ) (b : ℕ) → IsRefused scenario old new had has b → has b ≤ had b
fewer_refused scenario old new had has b (Before same) = let kept = same.places b in omega (arith, kept)
fewer_refused scenario old new had has b (After makes) = makes.most

others_refused : (scenario : Scenario) (old new : List Entry) (had has : ℕ → ℕ) (b : ℕ) → IsRefused scenario old new had has b → (a : ℕ) → a ≢ b → has a ≡ had a
others_refused scenario old new had has b (Before same) a apart = same.places a
others_refused scenario old new had has b (After makes) a apart = makes.others a apart

plays_refused : {b n : ℕ} {scenario later : Scenario} {old new : List Entry} {had has : ℕ → ℕ} → later ≡ scenario → n ≡ b → IsRunSoFar scenario old → IsRefused scenario old new had has n → PlaysOn b scenario later old new had has
plays_refused {b} {n} {scenario} {later} {old} {new} {had} {has} same id run refused = record {
  script = same;
  run = subst (λ (k : Scenario). IsRunSoFar k new) (sym same) (run_refused scenario old new had has n run refused);
  grew = subst (λ m. Grew backend_of m old new) id (grew_refused scenario old new had has n refused);
  others = subst (λ m. (a : ℕ) → a ≢ m → has a ≡ had a) id (others_refused scenario old new had has n refused);
  own = Always (let fewer = subst (λ m. has m ≤ had m) id (fewer_refused scenario old new had has n refused) in omega (arith, fewer));
}

-- once places were promised it may enter still
pub renewed_may : {b : ℕ} {scenario later : Scenario} {old new : List Entry} {s : Backend} → later ≡ scenario → new ≡ old → MayEnterNext scenario b old s → MayEnterNext later b new s
renewed_may {b} {scenario} {later} {old} {new} {s} same is may = subst (λ (k : Scenario). MayEnterNext k b new s) (sym same) (subst (λ (h : List Entry). MayEnterNext scenario b h s) (sym is) may)

-- a backend that may enter is right
pub enters_right : {scenario : Scenario} {b : ℕ} {history : List Entry} {s : Backend} (promised : ℕ → ℕ) → length history + all_promised promised scenario.backends ≤ 2 ^ 56 → MayEnterNext scenario b history s → IsRight s
enters_right {scenario} {b} {history} {s} promised short may = record { scenario = scenario; seen = history; stands = may.stands; played = may.run.played; short = omega (arith, short) }

-- it has the places that it needs
pub has_place : {n b : ℕ} (has : ℕ → ℕ) → n ≡ b → 17 ≤ has b → 0 < has n
has_place {n} {b} has id some = let same = ap has id in omega (arith, same, some)

-- an entry that was refused memory
pub entry_refused : {b n : ℕ} {scenario later last : Scenario} {old now new : List Entry} {was had has : ℕ → ℕ} {s : Backend} → later ≡ scenario → now ≡ old → MayEnterNext scenario b old s → ((a : ℕ) → a ≢ b → had a ≡ was a) → WantsPlaces s n → had b ≤ max (was b) (max n 48) → last ≡ later → IsRefused later now new had has s.progress.id → PlaysOn b scenario last old new was has
entry_refused {b} {n} {scenario} {later} {last} {old} {now} {new} {was} {had} {has} {s} same is may others wants most then refused = plays_then (plays_same same is may.run others (Wanted n (wanted_here [] (is ∙ sym (append-nil old)) may.stands may.id wants) most)) (plays_refused then may.id (renewed_may same is may).run refused)

-- one that was made
pub entry_plays : {b n : ℕ} {scenario later last : Scenario} {old now new : List Entry} {first had has : ℕ → ℕ} {was s : Backend} → later ≡ scenario → now ≡ old → MayEnterNext scenario b old was → ((a : ℕ) → a ≢ b → had a ≡ first a) → WantsPlaces was n → had b ≤ max (first b) (max n 48) → last ≡ later → MakesNext later now new had has was s → PlaysOn b scenario last old new first has
entry_plays same is may others wants most then makes = entry_refused same is may others wants most then (After (next_made makes))

-- before it the places that it wants were promised, and no more
pub promised_wanted : {b n : ℕ} {scenario later : Scenario} {old now new : List Entry} {was : Backend} (first had has : ℕ → ℕ) → MayEnterNext scenario b old was → WantsPlaces was n → n ≤ had b → had b ≤ max (first b) (max n 48) → (n ≡ 0 → 17 ≤ first b → had b ≡ first b) → MakesEntry later now new had has was.progress.id → PromisesWanted was (first b) (has b)
promised_wanted {b} {n} first had has may wants enough most none makes = let place = makes.place in let fewer = makes.most in let one = ap had may.id in let two = ap has may.id in record {
  places = n;
  wants = wants;
  enough = omega (arith, enough, place, one, two);
  most = omega (arith, most, fewer, one, two);
  none = λ zero some. let same = none zero some in omega (arith, same, fewer, one, two);
}

pub promised_next : {b n : ℕ} {scenario later : Scenario} {old now new : List Entry} {was s : Backend} (first had has : ℕ → ℕ) → MayEnterNext scenario b old was → WantsPlaces was n → n ≤ had b → had b ≤ max (first b) (max n 48) → (n ≡ 0 → 17 ≤ first b → had b ≡ first b) → MakesNext later now new had has was s → PromisesWanted was (first b) (has b)
promised_next first had has may wants enough most none makes = promised_wanted first had has may wants enough most none (next_made makes)

pub promised_step : {E : Type 0} {b n : ℕ} {scenario : Scenario} {old : List Entry} {was : Backend} (later : Scenario) (now new : List Entry) (first had has : ℕ → ℕ) (s : Backend) (result : Result (Unit {0}) E) → MayEnterNext scenario b old was → WantsPlaces was n → n ≤ had b → had b ≤ max (first b) (max n 48) → (n ≡ 0 → 17 ≤ first b → had b ≡ first b) → OnOk result (Steps later now new had has was s) → OnOk result (PromisesWanted was (first b) (has b))
promised_step later now new first had has s (Ok x) may wants enough most none steps = promised_wanted first had has may wants enough most none steps.makes
promised_step later now new first had has s (Err e) may wants enough most none steps = tt

-- by which at most one entry came
pub refused_few : {scenario : Scenario} {first old new : List Entry} {had has : ℕ → ℕ} {b : ℕ} → old ≡ first → IsRefused scenario old new had has b → length new ≤ length first + 1
refused_few {scenario} {first} {old} {new} is (Before same) = let e = ap length (same.entries ∙ is) in omega (arith, e)
refused_few {scenario} {first} {old} {new} is (After makes) = let e = ap length makes.is in let f = ap length is in omega (arith, e, f, length-append old (makes.entry ∷ []))

pub entry_few : {later : Scenario} {first now new : List Entry} {had has : ℕ → ℕ} {was s : Backend} → now ≡ first → MakesNext later now new had has was s → length new ≤ length first + 1
entry_few is makes = refused_few is (After (next_made makes))

one_more : {b : ℕ} {scenario later : Scenario} {old now new : List Entry} {had has : ℕ → ℕ} {was : Backend} → now ≡ old → MayEnterNext scenario b old was → MakesEntry later now new had has was.progress.id → HasMore b old new
one_more {b} {scenario} {later} {old} {now} {new} {had} {has} {was} is may makes =
    subst (λ n. HasMore n old new) may.id (subst (λ (h : List Entry). HasMore was.progress.id h new) is (more_made later now new had has was.progress.id makes))

pub entry_more : {b : ℕ} {scenario later : Scenario} {old now new : List Entry} {had has : ℕ → ℕ} {was s : Backend} → now ≡ old → MayEnterNext scenario b old was → MakesNext later now new had has was s → HasMore b old new
entry_more is may makes = one_more is may (next_made makes)

-- one that is to join hasn't yet
to_join : (life : Life) (joins : Bool) → joins ≡ not (has_joined life) → joins ≡ true → life ≡ lives.Unstarted
to_join lives.Unstarted joins is starts = refl
to_join lives.Alive joins is starts = absurd (both_ways joins is starts)
to_join lives.Stopped joins is starts = absurd (both_ways joins is starts)

-- it is at its first command then
first_asked : (s : Backend) (over : Bool) → over ≡ true → s.progress.finished ≡ 0 → asked_before over s ≡ 0
first_asked s true is none = none
first_asked s false is none = absurd (cc is)

-- where it went to no command
pub none_over : (n : ℕ) → n ≡ n + 0
none_over n = omega arith

-- what is noted where it had joined
had_joined : (life : Life) (P Q : Type 0) → has_joined life ≡ true → elim life as (λ x. Type 0) [ lives.Unstarted ↦ P | other ↦ Q ] → Q
had_joined lives.Unstarted P Q joined noted = absurd (cc joined)
had_joined lives.Alive P Q joined noted = noted
had_joined lives.Stopped P Q joined noted = noted

-- what an entry leaves, of which it is known whether the backend has joined by it
entered_turn : (scenario : Scenario) (b : ℕ) (old new : List Entry) (had has : ℕ → ℕ) (was now : Backend) (over : Bool) → MayEnterNext scenario b old was → length new + all_promised has scenario.backends ≤ 2 ^ 56 → 17 ≤ had was.progress.id
    → (over ≡ true → AwaitsCommand scenario new now) → MakesNext scenario old new had has was now → HasTakenTurn scenario b new over now
entered_turn scenario b old new had has was now over may short some command (Remains enters) = record {
  id = enters.id ∙ may.id;
  run = run_more scenario old new had has was.progress.id may.run enters.makes;
  short = let place = enters.makes.place in let same = ap has may.id in short_enough new has scenario.backends b may.backend short (omega (arith, place, some, same));
  agrees = λ stays. enters.agrees;
  left = λ gone. absurd (both_ways _ (ap has_left enters.agrees.keeps.alive) gone);
  command = command;
}
entered_turn scenario b old new had has was now over may short some command (Left gone steps) = record {
  id = steps.id ∙ may.id;
  run = run_more scenario old new had has was.progress.id may.run steps.makes;
  short = let place = steps.makes.place in let same = ap has may.id in short_enough new has scenario.backends b may.backend short (omega (arith, place, some, same));
  agrees = λ stays. absurd (both_ways _ stays (ap has_left gone));
  left = λ left. steps.stands;
  command = command;
}

pub entry_comes : {b : ℕ} {scenario later last : Scenario} {old now new : List Entry} {had has : ℕ → ℕ} {was s : Backend} {joined joins : Bool} → later ≡ scenario → now ≡ old → MayEnterNext scenario b old was → last ≡ later → length new + all_promised has last.backends ≤ 2 ^ 56 → 17 ≤ had b → joined ≡ has_joined was.life → joins ≡ not joined
    → MakesNext later now new had has was s → (was.life ≡ lives.Unstarted → AwaitsCommand later new s) → (was.life ≡ lives.Unstarted → s.progress.finished ≡ 0) → NotesAtEntry later now new was s → ComesTo last b new joins was s
entry_comes {b} {scenario} {later} {last} {old} {now} {new} {had} {has} {was} {s} {joined} {joins} same is may then short some tells says makes starts none notes = record {
  taken = subst (λ (k : Scenario). HasTakenTurn k b new joins s) (sym then) (entered_turn later b now new had has was s joins again (subst (λ (k : Scenario). length new + all_promised has k.backends ≤ 2 ^ 56) then short)
      (let eq = ap had may.id in omega (arith, some, eq)) (λ over. starts (to_join was.life joins (says ∙ ap not tells) over)) makes);
  number = λ before. (had_joined was.life (noted_of s ≡ nothing_noted) (NotesEntry later now new was s) before notes).noted.goes.moves.finished ∙ plus_none was.progress.finished joins (says ∙ ap not (tells ∙ before));
  first = λ before. let over = says ∙ ap not (tells ∙ before) in first_asked s joins over (none (to_join was.life joins (says ∙ ap not tells) over));
}
  where
    again : MayEnterNext later b now was
    again = renewed_may same is may

    plus_none : (n : ℕ) (over : Bool) → over ≡ false → n ≡ n + one_if over
    plus_none n true stays = absurd (cc stays)
    plus_none n false stays = none_over n

-- a backend that took a turn has joined
joined_by : (life : Life) → (has_left life ≡ false → life ≡ lives.Alive) → has_joined life ≡ true
joined_by lives.Unstarted alive = ap has_joined (alive refl)
joined_by lives.Alive alive = refl
joined_by lives.Stopped alive = refl

taken_joined : {scenario : Scenario} {b : ℕ} {history : List Entry} {over : Bool} {s : Backend} → HasTakenTurn scenario b history over s → has_joined s.life ≡ true
taken_joined {scenario} {b} {history} {over} {s} has = joined_by s.life (λ stays. (has.agrees stays).keeps.alive)

-- where it has not gone on
pub comes_here : {scenario : Scenario} {b : ℕ} {history : List Entry} {s : Backend} → HasTakenTurn scenario b history false s → ComesTo scenario b history false s s
comes_here {scenario} {b} {history} {s} has = record { taken = has; number = λ joined. none_over s.progress.finished; first = λ starts. absurd (both_ways _ starts (taken_joined has)) }

-- it has come somewhere, and then on from there
pub comes_then : {scenario later : Scenario} {b : ℕ} {history longer : List Entry} {over : Bool} {was s now : Backend} → ComesTo scenario b history false was s → ComesTo later b longer over s now → ComesTo later b longer over was now
comes_then {scenario} {later} {b} {history} {longer} {over} {was} {s} {now} one two = record {
  taken = two.taken;
  number = λ joined. two.number (taken_joined one.taken) ∙ ap (λ n. n + one_if over) (one.number joined ∙ sym (none_over was.progress.finished));
  first = λ starts. absurd (let no : s.progress.finished + 1 ≡ 0 = one.first starts in omega (arith, no));
}

pub comes_over : {scenario : Scenario} {b : ℕ} {history : List Entry} {over is : Bool} {was now : Backend} → over ≡ is → ComesTo scenario b history over was now → ComesTo scenario b history is was now
comes_over {scenario} {b} {history} {over} {is} {was} {now} same comes = subst (λ o. ComesTo scenario b history o was now) same comes

pub comes_ok : {E : Type 0} {scenario : Scenario} {b : ℕ} {history : List Entry} {was s : Backend} (later : Scenario) (longer : List Entry) (now : Backend) (result : Result Bool E) → ComesTo scenario b history false was s → IfOk result (λ over. ComesTo later b longer over s now) → IfOk result (λ over. ComesTo later b longer over was now)
comes_ok later longer now (Ok over) one two = comes_then one two
comes_ok later longer now (Err e) one two = tt

-- further entries after the first
pub more_ok : {T E : Type 0} {b : ℕ} {first old new : List Entry} (result : Result T E) → HasMore b first old → Grew backend_of b old new → OnOk result (HasMore b first new)
more_ok {T} {E} {b} {first} {old} {new} (Ok x) more grew = more_then b first old new more grew
more_ok (Err e) more grew = tt

-- after a turn it is on its way
pub taken_right : {scenario : Scenario} {b : ℕ} {history : List Entry} {over : Bool} {s : Backend} → HasTakenTurn scenario b history over s → has_left s.life ≡ false → IsOnItsWay s
taken_right {scenario} {b} {history} {over} {s} has stays = record { scenario = scenario; seen = history; agrees = has.agrees stays }

-- it goes on without an entry, to its next command
pub goes_to : {scenario : Scenario} {b : ℕ} {history : List Entry} {over : Bool} {was now : Backend} → HasTakenTurn scenario b history false was → has_left was.life ≡ false → GoesWherever over was now → over ≡ true → ComesTo scenario b history true was now
goes_to {scenario} {b} {history} {over} {was} {now} has stays goes is = record {
  taken = record { id = on.id ∙ has.id; run = has.run; short = has.short; agrees = λ alive. on.agrees; left = λ gone. absurd (both_ways _ (ap has_left on.agrees.keeps.alive) gone); command = λ over. on.command is };
  number = λ joined. on.number ∙ ap (λ t. was.progress.finished + one_if t) is;
  first = λ starts. absurd (both_ways _ starts (taken_joined has));
}
  where
    on : GoesOver scenario history over was now
    on = goes scenario history (has.agrees stays)

-- or as far as it can, and may enter then
pub goes_far : {scenario : Scenario} {b : ℕ} {history : List Entry} {over : Bool} {was now : Backend} → HasTakenTurn scenario b history false was → has_left was.life ≡ false → GoesWherever over was now → over ≡ false → ComesTo scenario b history false was now
goes_far {scenario} {b} {history} {over} {was} {now} has stays goes is = record {
  taken = record { id = on.id ∙ has.id; run = has.run; short = has.short; agrees = λ alive. on.agrees; left = λ gone. absurd (both_ways _ (ap has_left on.agrees.keeps.alive) gone); command = λ over. absurd (cc over) };
  number = λ joined. on.number ∙ ap (λ t. was.progress.finished + one_if t) is;
  first = λ starts. absurd (both_ways _ starts (taken_joined has));
}
  where
    on : GoesOver scenario history over was now
    on = goes scenario history (has.agrees stays)

pub goes_may : {scenario : Scenario} {b : ℕ} {history : List Entry} {over : Bool} {was now : Backend} → IsBackend scenario.backends b → HasTakenTurn scenario b history false was → has_left was.life ≡ false → GoesWherever over was now → over ≡ false → MayEnterNext scenario b history now
goes_may {scenario} {b} {history} {over} {was} {now} backend has stays goes is = record {
  backend = backend;
  id = on.id ∙ has.id;
  run = has.run;
  stands = awaits_stands scenario history now (on.waits is);
  alive = ap has_left on.agrees.keeps.alive;
}
  where
    on : GoesOver scenario history over was now
    on = goes scenario history (has.agrees stays)

-- the backend is of the script still
pub backend_still : {b : ℕ} {scenario later : Scenario} → later ≡ scenario → IsBackend scenario.backends b → IsBackend later.backends b
backend_still {b} {scenario} {later} same backend = subst (λ (k : Scenario). IsBackend k.backends b) (sym same) backend

-- what the looks that were handed over leave, where the turn ends with them
pub handed_turn : {scenario : Scenario} {b : ℕ} {new : List Entry} {s : Backend} (has : ℕ → ℕ) → s.progress.id ≡ b → IsRunSoFar scenario new → length new + all_promised has scenario.backends ≤ 2 ^ 56 → IsBackend scenario.backends b → 16 ≤ has b → AgreesNow scenario new s → HasTakenTurn scenario b new false s
handed_turn {scenario} {b} {new} {s} has id run short number some agrees = record {
  id = id;
  run = run;
  short = short_enough new has scenario.backends b number short some;
  agrees = λ stays. agrees;
  left = λ gone. absurd (both_ways _ (ap has_left agrees.keeps.alive) gone);
  command = λ over. absurd (cc over);
}

-- a backend that is right after its looks is so once they are handed over
pub handed_right : {scenario later : Scenario} {new : List Entry} {s : Backend} (Right : Scenario → List Entry → Backend → Type 0) (b : ℕ) (old : List Entry) (held : List HeldLook) → later ≡ scenario → new ≡ old ++ entries_of b held → Right scenario (old ++ entries_of b held) s → Right later new s
handed_right {scenario} {later} {new} {s} Right b old held same is right = subst (λ (k : Scenario). Right k new s) (sym same) (subst (λ (h : List Entry). Right scenario h s) (sym is) right)

-- the looks that may be handed over may be once places were promised
pub renewed_calls : {n b : ℕ} {scenario later : Scenario} {old new : List Entry} (held : List HeldLook) → later ≡ scenario → new ≡ old → n ≡ b → MayCallAll scenario old (entries_of b held) → MayCallAll later new (entries_of n held)
renewed_calls {n} {b} {scenario} {later} {old} {new} held same is id calls = subst (λ (k : Scenario). MayCallAll k new (entries_of n held)) (sym same) (subst (λ (h : List Entry). MayCallAll scenario h (entries_of n held)) (sym is)
    (subst (λ m. MayCallAll scenario old (entries_of m held)) (sym id) calls))

-- there are places for them, and for as many after them
pub looks_fit : {n b count : ℕ} (had : ℕ → ℕ) → n ≡ b → count ≤ 16 → 32 ≤ had b → count ≤ had n
looks_fit {n} {b} {count} had id few some = let same = ap had id in omega (arith, same, few, some)

pub looks_promised : {n b count : ℕ} {had has : ℕ → ℕ} (first : ℕ) → n ≡ b → had b ≤ max first 48 → TakesPlaces had has n count → has b ≤ max first 48
looks_promised {n} {b} {count} {had} {has} first id most takes = let fewer = takes.most in let one = ap had id in let two = ap has id in omega (arith, most, fewer, one, two)

pub looks_none : {n b count : ℕ} {had has : ℕ → ℕ} (first : ℕ) → n ≡ b → had b ≡ first → TakesPlaces had has n count → has b ≤ first
looks_none {n} {b} {count} {had} {has} first id same takes = let fewer = takes.most in let one = ap had id in let two = ap has id in omega (arith, same, fewer, one, two)

pub looks_left : {n b count : ℕ} {had has : ℕ → ℕ} → n ≡ b → count ≤ 16 → 32 ≤ had b → TakesPlaces had has n count → 16 ≤ has b
looks_left {n} {b} {count} {had} {has} id few some takes = let own = takes.own in let one = ap had id in let two = ap has id in omega (arith, own, one, two, few, some)

-- what a turn that makes entries leaves
pub enters_more : {T E : Type 0} {now : List Entry} {enters : Bool} (b : ℕ) (old new : List Entry) (held : List HeldLook) (result : Result T E) → enters ≡ true → now ≡ old ++ entries_of b held → OnOk result (HasMore b now new) → OnOk result (EntersInTurn enters b held old new)
enters_more {T} {E} {now} {enters} b old new held (Ok x) does is more = subst (λ t. EntersInTurn t b held old new) (sym does) (subst (λ (h : List Entry). HasMore b h new) is more)
enters_more b old new held (Err e) does is more = tt

pub comes_taken : {E : Type 0} (scenario : Scenario) (b : ℕ) (history : List Entry) (was now : Backend) (result : Result Bool E) → IfOk result (λ over. ComesTo scenario b history over was now) → IfOk result (λ over. HasTakenTurn scenario b history over now)
comes_taken scenario b history was now (Ok over) comes = comes.taken
comes_taken scenario b history was now (Err e) comes = tt

pub comes_number : {E : Type 0} (scenario : Scenario) (b : ℕ) (history : List Entry) (was now : Backend) (result : Result Bool E) → IfOk result (λ over. ComesTo scenario b history over was now) → IfOk result (λ over. has_joined was.life ≡ true → now.progress.finished ≡ was.progress.finished + one_if over)
comes_number scenario b history was now (Ok over) comes = comes.number
comes_number scenario b history was now (Err e) comes = tt

pub comes_first : {E : Type 0} (scenario : Scenario) (b : ℕ) (history : List Entry) (was now : Backend) (result : Result Bool E) → IfOk result (λ over. ComesTo scenario b history over was now) → IfOk result (λ over. has_joined was.life ≡ false → asked_before over now ≡ 0)
comes_first scenario b history was now (Ok over) comes = comes.first
comes_first scenario b history was now (Err e) comes = tt

-- a step, or none
pub step_plays : {E : Type 0} {b n : ℕ} {scenario later last : Scenario} {old now : List Entry} {first : ℕ → ℕ} {was : Backend} (new : List Entry) (had has : ℕ → ℕ) (s : Backend) (result : Result (Unit {0}) E) → later ≡ scenario → now ≡ old → MayEnterNext scenario b old was → ((a : ℕ) → a ≢ b → had a ≡ first a) → WantsPlaces was n → had b ≤ max (first b) (max n 48) → last ≡ later
    → OnOk result (Steps later now new had has was s) → OnErr result (IsRefused later now new had has was.progress.id) → PlaysOn b scenario last old new first has
step_plays new had has s (Ok x) same is may others wants most then steps refused = entry_refused same is may others wants most then (After steps.makes)
step_plays new had has s (Err e) same is may others wants most then steps refused = entry_refused same is may others wants most then refused

pub step_more : {E : Type 0} {b : ℕ} {scenario : Scenario} {old now : List Entry} {was : Backend} (later : Scenario) (new : List Entry) (had has : ℕ → ℕ) (s : Backend) (result : Result (Unit {0}) E) → now ≡ old → MayEnterNext scenario b old was → OnOk result (Steps later now new had has was s) → OnOk result (HasMore b old new)
step_more later new had has s (Ok x) is may steps = one_more is may steps.makes
step_more later new had has s (Err e) is may steps = tt

pub step_id : {E : Type 0} {b : ℕ} {scenario : Scenario} {old : List Entry} {was : Backend} (later : Scenario) (now new : List Entry) (had has : ℕ → ℕ) (s : Backend) (result : Result (Unit {0}) E) → MayEnterNext scenario b old was → OnOk result (Steps later now new had has was s) → OnOk result (s.progress.id ≡ b)
step_id later now new had has s (Ok x) may steps = steps.id ∙ may.id
step_id later now new had has s (Err e) may steps = tt

pub step_stands : {E : Type 0} {later last : Scenario} (now new : List Entry) (had has : ℕ → ℕ) (was s : Backend) (result : Result (Unit {0}) E) → last ≡ later → OnOk result (Steps later now new had has was s) → OnOk result (Stands last new s)
step_stands {E} {later} {last} now new had has was s (Ok x) then steps = subst (λ (k : Scenario). Stands k new s) (sym then) steps.stands
step_stands now new had has was s (Err e) then steps = tt
