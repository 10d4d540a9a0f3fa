-- From turn to turn.
use Rattle.std.proofs.Common.{◌≡◌, ◌≢◌, ◌≤◌, ◌<◌, ◌+◌, ◌^◌, ◌∙◌, ◌⊎◌, inl, inr, ◌==◌, ℕ, Bool, true, false, List, [], ◌∷◌, ◌++◌, refl, sym, ap, subst, append_assoc, append-nil, length, arith}
use Rattle.std.specs.List.{AllByRecursion}
use Rattle.std.proofs.lemmas.Bool.{both_ways}
use Rattle.std.proofs.lemmas.Bool.Decides.{eqb_tells}
use Rattle.std.proofs.lemmas.List.{length_push}
use lib.ListN.{length-map}
use Rattle.std.proofs.lemmas.List.{length-append}
use Rattle.base_types.specs.Scenario.{Scenario}
use Rattle.event_kinds.specs.declared.entry.Entry.{Entry}
use Rattle.history_model.specs.Log.{is_waiting}
use Rattle.history_model.proofs.Sound.{sound_is_legal}
use Rattle.turn_table.specs.Histories.{Follows, NoneOf}
use Rattle.turn_table.proofs.Lists.{none_append, follows_same}
use Rattle.backend_core.specs.declared.backend.Backend.{Backend}
use Rattle.backend_core.specs.declared.life.Life.{Life}
use Rattle.backend_core.specs.declared.life.Life.TheVariants as lives
use Rattle.backend_core.specs.declared.turns.HeldLook.{HeldLook}
use Rattle.backend_core.specs.Agrees.{IsPlayed, AgreesNow, Stands}
use Rattle.backend_core.specs.Apart.{AllowsHeld, IsHolding, StandsApart, AgreesApart}
use Rattle.backend_core.specs.Cuts.{IsAlike}
use Rattle.backend_core.specs.Halts.{HaltsWherever}
use Rattle.backend_core.specs.Looks.{IsRight, MakesLook, held_look, entry_held, entries_of}
use Rattle.backend_core.specs.Words.{has_left}
use Rattle.backend_core.proofs.Apart.{apart_first, apart_look}
use Rattle.backend_core.proofs.Coherent.{stands_coherent}
use Rattle.backend_core.proofs.Cutting.StandsAlike.{Stands-alike}
use Rattle.backend_core.proofs.HeldLooks.{no_allowed, yes_allowed}
use Rattle.backend_core.proofs.Stepped.{awaits_stands}
use Rattle.thread_run.specs.Runs.{IsRunSoFar}
use Rattle.thread_run.specs.Turns.{backend_of, HasTakenTurn, MayTakeTurn, IsBetween, WaitsWherever, IsAtCommand, IsUnderway, MayHalt, IsHalting, HasEnded}
use Rattle.thread_run.proofs.Halting.{at_command, may_halt, halting_after}

-- what follows what was seen follows what was seen before
pub follows_then : (b : ℕ) (last seen history : List Entry) → Follows backend_of b last seen → Follows backend_of b seen history → Follows backend_of b last history
follows_then b last seen history first later = record {
  rest = first.rest ++ later.rest;
  grows = later.grows ∙ ap (λ l. l ++ later.rest) first.grows ∙ append_assoc last first.rest later.rest;
  others = none_append backend_of b first.rest later.rest first.others later.others;
}

-- scripts that say the same of a backend
pub same_script : (scenario : Scenario) (b : ℕ) → IsAlike b scenario scenario
same_script scenario b = record { backends = refl; commands = refl }

alike_back : (b : ℕ) (one two : Scenario) → IsAlike b one two → IsAlike b two one
alike_back b one two alike = record { backends = sym alike.backends; commands = sym alike.commands }

alike_then : (b : ℕ) (one two three : Scenario) → IsAlike b one two → IsAlike b two three → IsAlike b one three
alike_then b one two three first second = record { backends = second.backends ∙ first.backends; commands = second.commands ∙ first.commands }

-- a backend that stands where its turn ended is between two turns
pub between_first : (whole part : Scenario) (b : ℕ) (history : List Entry) (s : Backend) → IsAlike b whole part → s.progress.id ≡ b → IsRunSoFar part history → length history + 16 ≤ 2 ^ 56 → Stands part history s → IsBetween whole b history [] s
between_first whole part b history s alike id run short stands = record {
  id = id;
  script = part;
  alike = alike;
  last = history;
  follows = follows_same backend_of b history;
  run = run;
  short = short;
  few = omega arith;
  stands = λ later says. apart later (alike_then b part whole later (alike_back b whole part alike) says);
  denied = tt;
  allowed = λ more others. tt;
  ended = λ left. (refl, refl);
}
  where
    apart : StandsApart part b history [] s
    apart = subst (λ n. StandsApart part n history [] s) id (apart_first part history s stands)

-- before its first turn it is so too
pub between_new : (whole : Scenario) (b : ℕ) (seen : List Entry) (held : List HeldLook) (s : Backend) → s.progress.id ≡ b → held ≡ [] → IsRunSoFar whole seen → length seen + 16 ≤ 2 ^ 56 → Stands whole seen s → IsBetween whole b seen held s
between_new whole b seen held s id none run short stands = subst (λ (l : List HeldLook). IsBetween whole b seen l s) (sym none) (between_first whole whole b seen s (same_script whole b) id run short stands)

-- after a turn, in which a script was played that says of the backend what the whole one says
pub turned : (whole part : Scenario) (b : ℕ) (history : List Entry) (over : Bool) (s : Backend) → IsAlike b whole part → HasTakenTurn part b history over s → IsUnderway whole b history [] over s
turned whole part b history over s alike has = record {
  right = λ stays. record { scenario = part; seen = history; agrees = has.agrees stays };
  waits = λ stays now waits. let on = waits part history (has.agrees stays) in between_first whole part b history now alike (on.1 ∙ has.id) has.run has.short (awaits_stands part history now on.0);
  halts = λ stays at now is halts. let there = at_command part history over s at (has.agrees stays) has.command is in may_halt whole part b history at now alike (there.1 ∙ has.id) there.0 halts;
  left = λ gone. between_first whole part b history s alike has.id has.run has.short (has.left gone);
}

-- where it has left there was none
pub left_underway : (whole : Scenario) (b : ℕ) (seen : List Entry) (held : List HeldLook) (s : Backend) → IsBetween whole b seen held s → has_left s.life ≡ true → IsUnderway whole b seen held false s
left_underway whole b seen held s between left = record {
  right = λ stays. absurd (both_ways _ stays left);
  waits = λ stays now waits. absurd (both_ways _ stays left);
  halts = λ stays at now is halts. absurd (both_ways _ stays left);
  left = λ gone. between;
}

-- before a turn that it makes its next entry in
pub may_enter : (whole : Scenario) (b : ℕ) (seen : List Entry) (told : Bool) (held : List HeldLook) (s : Backend) → IsBetween whole b seen held s → has_left s.life ≡ false → MayTakeTurn whole true b seen told held s
may_enter whole b seen told held s between alive = record {
  few = let few = between.few in omega arith;
  alive = λ enters. alive;
  holds = λ later alike history follows played waits.
      let all = follows_then b between.last seen history between.follows follows in
      subst (λ (h : List Entry). IsHolding Stands later b h held s) (sym all.grows)
      (between.stands later alike all.rest all.others (subst (IsPlayed later) all.grows played) (between.allowed all.rest all.others));
}

denied_push : (held : List HeldLook) (look : HeldLook) → AllByRecursion (λ l. l.some_wait ≡ false) held → look.some_wait ≡ false → AllByRecursion (λ l. l.some_wait ≡ false) (held ++ look ∷ [])
denied_push [] look denied last = (last, tt)
denied_push (first ∷ held) look denied last = (denied.0, denied_push held look denied.1 last)

-- the looks that were held back, and one more, made by a word that said whether something waits: each history that the pass may find in its next turn allows them
looks_allowed : (whole : Scenario) (b : ℕ) (seen : List Entry) (held : List HeldLook) (was : Backend) (between : IsBetween whole b seen held was) (now_seen : List Entry) (some_wait : Bool) → Follows backend_of b seen now_seen → (some_wait ≡ false → is_waiting now_seen b ≡ false)
    → (more : List Entry) → NoneOf backend_of b more → (some_wait ≡ true → is_waiting (between.last ++ more) b ≡ true) → AllowsHeld (between.last ++ more) b (held ++ held_look was some_wait ∷ [])
looks_allowed whole b seen held was between now_seen true follows none more apart waits =
    yes_allowed (between.last ++ more) b held (held_look was true) (between.allowed more apart) refl (waits refl)
looks_allowed whole b seen held was between now_seen false follows none more apart waits =
    let all = follows_then b between.last seen now_seen between.follows follows in
    no_allowed between.last all.rest b all.others (held ++ held_look was false ∷ []) (sound_is_legal between.last between.run.played.sound) (subst (λ (h : List Entry). is_waiting h b ≡ false) all.grows (none refl))
    (denied_push held (held_look was false) between.denied refl) more apart

-- after a look it may take a turn that hands over all of them
pub may_hand_over : (whole : Scenario) (b : ℕ) (seen now_seen : List Entry) (held : List HeldLook) (was now : Backend) (some_wait : Bool) → IsBetween whole b seen held was → Follows backend_of b seen now_seen → (some_wait ≡ false → is_waiting now_seen b ≡ false) → MakesLook was some_wait now
    → MayTakeTurn whole false b now_seen some_wait (held ++ held_look was some_wait ∷ []) now
may_hand_over whole b seen now_seen held was now some_wait between follows none makes = record {
  few = let few = between.few in let more = length_push held (held_look was some_wait) in omega (arith, few, more);
  alive = λ enters. absurd (cc enters);
  holds = λ later alike history next played waits.
      let all = follows_then b between.last now_seen history (follows_then b between.last seen now_seen between.follows follows) next in
      subst (λ (h : List Entry). IsHolding AgreesNow later b h (held ++ held_look was some_wait ∷ []) now) (sym all.grows)
      (apart_look whole b between.last held was now some_wait between.stands makes later alike all.rest all.others (subst (IsPlayed later) all.grows played)
      (looks_allowed whole b seen held was between now_seen some_wait follows none all.rest all.others (λ told. subst (λ (h : List Entry). is_waiting h b ≡ true) all.grows (waits told))));
}

-- the looks with the last one are those that the turn finds
pub pushed_as : (held items : List HeldLook) (look : HeldLook) (was : Backend) (some_wait : Bool) → items ≡ held ++ look ∷ [] → look ≡ held_look was some_wait → items ≡ held ++ held_look was some_wait ∷ []
pushed_as held items look was some_wait pushed is = pushed ∙ ap (λ l. held ++ l ∷ []) is

-- so it may with its pass and its looks as they are then
pub may_hand_all : (whole : Scenario) (b number : ℕ) (seen now_seen : List Entry) (held items : List HeldLook) (look : HeldLook) (was now : Backend) (some_wait told : Bool) → IsBetween whole b seen held was → number ≡ b → told ≡ some_wait → Follows backend_of b seen now_seen → (some_wait ≡ false → is_waiting now_seen b ≡ false) → MakesLook was some_wait now
    → items ≡ held ++ look ∷ [] → look ≡ held_look was some_wait → MayTakeTurn whole false number now_seen told items now
may_hand_all whole b number seen now_seen held items look was now some_wait told between same tells follows none makes pushed is =
    subst (λ n. MayTakeTurn whole false n now_seen told items now) (sym same) (subst (λ t. MayTakeTurn whole false b now_seen t items now) (sym tells)
    (subst (λ (l : List HeldLook). MayTakeTurn whole false b now_seen some_wait l now) (sym (pushed_as held items look was some_wait pushed is)) (may_hand_over whole b seen now_seen held was now some_wait between follows none makes)))

-- a life as that of a backend that has joined and hasn't left
alive_stays : (life : Life) → life ≡ lives.Alive → has_left life ≡ false
alive_stays life alive = ap has_left alive

-- after a look that said no it goes on, between two turns
module _ (whole : Scenario) (b : ℕ) (seen now_seen : List Entry) (held : List HeldLook) (was now : Backend) (between : IsBetween whole b seen held was) (follows : Follows backend_of b seen now_seen) (none : is_waiting now_seen b ≡ false) (makes : MakesLook was false now) (few : length held + 1 < 16) where
  abbrev looks : List HeldLook
  looks = held ++ held_look was false ∷ []

  -- all that it has seen since its last turn
  all : Follows backend_of b between.last now_seen
  all = follows_then b between.last seen now_seen between.follows follows

  may : (more : List Entry) → NoneOf backend_of b more → AllowsHeld (between.last ++ more) b looks
  may more apart = looks_allowed whole b seen held was between now_seen false follows (λ denied. none) more apart (λ told. absurd (cc told))

  agreed : AgreesApart whole b between.last looks now
  agreed = apart_look whole b between.last held was now false between.stands makes

  here : IsHolding AgreesNow between.script b (between.last ++ []) looks now
  here = agreed between.script between.alike [] tt (subst (IsPlayed between.script) (sym (append-nil between.last)) between.run.played) (may [] tt)

  goes_on : (later : Backend) → WaitsWherever now later → IsBetween whole b now_seen looks later
  goes_on later waits = record {
    id = (waits between.script ((between.last ++ []) ++ entries_of b looks) here.right).1 ∙ here.id;
    script = between.script;
    alike = between.alike;
    last = between.last;
    follows = all;
    run = between.run;
    short = between.short;
    few = let more = length_push held (held_look was false) in omega (arith, few, more);
    stands = λ script alike others apart played allows.
        let a = agreed script alike others apart played allows in
        let on = waits script ((between.last ++ others) ++ entries_of b looks) a.right in
        record { id = on.1 ∙ a.id; calls = a.calls; played = a.played; right = awaits_stands script ((between.last ++ others) ++ entries_of b looks) later on.0 };
    denied = denied_push held (held_look was false) between.denied refl;
    allowed = may;
    ended = λ gone. absurd (both_ways _ (alive_stays later.life (waits between.script ((between.last ++ []) ++ entries_of b looks) here.right).0.keeps.alive) gone);
  }

  stops : (at halted : Backend) → IsAtCommand false now at → HaltsWherever at halted → MayHalt whole b (length at.lines) now_seen looks halted
  stops at halted (inl over) halts = absurd (cc over.0)
  stops at halted (inr comes) halts = record {
    few = let more = length_push held (held_look was false) in omega (arith, few, more);
    halts = λ later alike history next played.
        let longer = follows_then b between.last now_seen history all next in
        subst (λ (h : List Entry). IsHalting later b (length at.lines) h looks halted) (sym longer.grows)
        (halting_after later b (between.last ++ longer.rest) looks now at halted (agreed later alike longer.rest longer.others (subst (IsPlayed later) longer.grows played) (may longer.rest longer.others)) comes halts);
  }

  pub looked_no : IsUnderway whole b now_seen looks false now
  looked_no = record {
    right = λ stays. record { scenario = between.script; seen = (between.last ++ []) ++ entries_of b looks; agrees = here.right };
    waits = λ stays later waits. goes_on later waits;
    halts = λ stays at halted is halts. stops at halted is halts;
    left = λ gone. absurd (both_ways _ (alive_stays now.life here.right.keeps.alive) gone);
  }

-- no look more may be held back
pub full_by : (held items : List HeldLook) (look : HeldLook) → items ≡ held ++ look ∷ [] → (length items == 16) ≡ true → length held + 1 ≡ 16
full_by held items look pushed full = of (eqb_tells (length items) 16)
  where
    of : (((length items == 16) ≡ true) × (length items ≡ 16)) ⊎ (((length items == 16) ≡ false) × (length items ≢ 16)) → length held + 1 ≡ 16
    of (inl same) = let is = same.1 in let more = length_push held look in let pushes = ap length pushed in omega (arith, is, more, pushes)
    of (inr apart) = absurd (both_ways _ apart.0 full)

-- where there is room for another look after one more
pub not_full : (held items : List HeldLook) (look : HeldLook) → items ≡ held ++ look ∷ [] → length held < 16 → (length items == 16) ≡ false → length held + 1 < 16
not_full held items look pushed few free = of (eqb_tells (length items) 16)
  where
    of : (((length items == 16) ≡ true) × (length items ≡ 16)) ⊎ (((length items == 16) ≡ false) × (length items ≢ 16)) → length held + 1 < 16
    of (inl full) = absurd (both_ways _ free full.0)
    of (inr apart) = let ne = apart.1 in let more = length_push held look in let same = ap length pushed in omega (arith, ne, few, more, same)

pub looked_on : (whole : Scenario) (b : ℕ) (seen now_seen : List Entry) (held items : List HeldLook) (look : HeldLook) (was now : Backend) (some_wait : Bool) → IsBetween whole b seen held was → some_wait ≡ false → Follows backend_of b seen now_seen → (some_wait ≡ false → is_waiting now_seen b ≡ false) → MakesLook was some_wait now
    → items ≡ held ++ look ∷ [] → look ≡ held_look was some_wait → length held + 1 < 16 → IsUnderway whole b now_seen items false now
looked_on whole b seen now_seen held items look was now true between denied follows none makes pushed is few = absurd (cc denied)
looked_on whole b seen now_seen held items look was now false between denied follows none makes pushed is few =
    subst (λ (l : List HeldLook). IsUnderway whole b now_seen l false now) (sym (pushed_as held items look was false pushed is)) (looked_no whole b seen now_seen held was now between follows (none refl) makes few)

-- between two turns it is right, in the history that its last turn left and its looks
pub between_right : (whole : Scenario) (b : ℕ) (seen : List Entry) (held : List HeldLook) (s : Backend) → IsBetween whole b seen held s → IsRight s
between_right whole b seen held s between = record {
  scenario = between.script;
  seen = (between.last ++ []) ++ entries_of b held;
  stands = here.right;
  played = here.played;
  short = let short = between.short in let few = between.few in omega (arith, short, few, length-append (between.last ++ []) (entries_of b held), length-append between.last [], length-map held (entry_held b));
}
  where
    here : IsHolding Stands between.script b (between.last ++ []) held s
    here = between.stands between.script between.alike [] tt (subst (IsPlayed between.script) (sym (append-nil between.last)) between.run.played) (between.allowed [] tt)

has_stopped_life : (life : Life) → has_left life ≡ true → life ≡ lives.Stopped
has_stopped_life lives.Unstarted left = absurd (cc left)
has_stopped_life lives.Alive left = absurd (cc left)
has_stopped_life lives.Stopped left = refl

-- at the end of its work
pub between_ended : (whole : Scenario) (b : ℕ) (seen : List Entry) (held : List HeldLook) (s : Backend) → IsBetween whole b seen held s → has_left s.life ≡ true → HasEnded whole b seen s
between_ended whole b seen held s between left = record {
  id = between.id;
  life = has_stopped_life s.life left;
  script = between.script;
  alike = between.alike;
  run = run;
  stands = stands;
  coherent = stands_coherent whole seen s run.played.sound stands;
}
  where
    ends : (held ≡ []) × (seen ≡ between.last)
    ends = between.ended left

    run : IsRunSoFar between.script seen
    run = subst (λ (h : List Entry). IsRunSoFar between.script h) (sym ends.1) between.run

    here : IsHolding Stands between.script b (between.last ++ []) held s
    here = between.stands between.script between.alike [] tt (subst (IsPlayed between.script) (sym (append-nil between.last)) between.run.played) (between.allowed [] tt)

    played_here : Stands between.script seen s
    played_here = subst (λ (h : List Entry). Stands between.script h s) (ap (λ l. (between.last ++ []) ++ entries_of b l) ends.0 ∙ append-nil (between.last ++ []) ∙ append-nil between.last ∙ sym ends.1) here.right

    stands : Stands whole seen s
    stands = Stands-alike between.script whole seen s (subst (λ n. IsAlike n between.script whole) (sym between.id) (alike_back b whole between.script between.alike)) played_here
