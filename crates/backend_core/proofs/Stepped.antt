-- A step: an entry, and then what needs none.
use Rattle.std.proofs.Common.{◌≡◌, ◌∙◌, ◌&&◌, ℕ, true, false, List, [], Result, Ok, Err, OnOk, refl, sym, ap, subst}
use Rattle.std.proofs.lemmas.Bool.{both_ways}
use Rattle.backend_core.specs.Types.{Scenario, Entry, Life, Backend}
use Rattle.backend_core.specs.declared.life.Life.TheVariants as lives
use Rattle.history_model.specs.Legal.{IsLegal}
use Rattle.cacheless.specs.Plays.{Plays}
use Rattle.cacheless.proofs.Allowed.AllowedHistories.{plays_on_course}
use Rattle.backend_core.specs.Agrees.{AreSpelled, IsPlayed, AwaitsEntry, HasNotJoined, HasLeft, Stands, IsReady}
use Rattle.backend_core.specs.Looks.{SettlesWherever}
use Rattle.backend_core.specs.Noted.{Noted, noted_of, nothing_noted, Settles, Stays, Acts, Passes, NotesEntry, NotesStep, NotesAtEntry, NotesAtStep}
use Rattle.backend_core.specs.Steps.{MakesEntry, Enters, Steps, MakesNext, Remains, Left}
use Rattle.backend_core.specs.Words.{has_left, finds_none}
use Rattle.backend_core.proofs.Coherent.{stands_coherent}
use Rattle.backend_core.proofs.Played.{IsPlayed-more}

-- the history is still played after the entry
pub makes_played : (scenario : Scenario) (old new : List Entry) (had has : ℕ → ℕ) (b : ℕ) → IsPlayed scenario old → MakesEntry scenario old new had has b → IsPlayed scenario new
makes_played scenario old new had has b played makes = subst (IsPlayed scenario) (sym makes.is) (IsPlayed-more scenario old makes.entry played makes.may)

-- a backend that waits stands in the history
pub awaits_stands : (scenario : Scenario) (seen : List Entry) (s : Backend) → AwaitsEntry scenario seen s → Stands scenario seen s
awaits_stands scenario seen s waits = subst (λ life. elim life as (λ x. Type 0) [ lives.Unstarted ↦ HasNotJoined scenario seen s | lives.Alive ↦ AwaitsEntry scenario seen s | lives.Stopped ↦ HasLeft scenario seen s ]) (sym waits.keeps.alive) waits

-- a backend that stands in a legal history, played by the commands of a script, has joined and hasn't left may make an entry
pub is_ready : (scenario : Scenario) (seen : List Entry) (s : Backend) → Stands scenario seen s → s.life ≡ lives.Alive → AreSpelled scenario → IsLegal seen → Plays scenario seen → IsReady scenario seen s
is_ready scenario seen s stands alive spelled legal plays = record {
  waits = subst (λ life. elim life as (λ x. Type 0) [ lives.Unstarted ↦ HasNotJoined scenario seen s | lives.Alive ↦ AwaitsEntry scenario seen s | lives.Stopped ↦ HasLeft scenario seen s ]) alive stands;
  played = (plays_on_course scenario seen spelled legal plays).0;
  course = (plays_on_course scenario seen spelled legal plays).1;
}

-- an entry, after which it went on until it waits, is a step
pub stepped : (scenario : Scenario) (old new : List Entry) (had has : ℕ → ℕ) (was now done : Backend) → IsPlayed scenario old → Enters scenario old new had has was now → AwaitsEntry scenario new done → done.progress.id ≡ now.progress.id → Steps scenario old new had has was done
stepped scenario old new had has was now done played enters waits same = record {
  makes = enters.makes;
  id = same ∙ enters.id;
  stands = awaits_stands scenario new done waits;
  coherent = stands_coherent scenario new done (makes_played scenario old new had has was.progress.id played enters.makes).sound (awaits_stands scenario new done waits);
}

-- the same of a call that may have been refused memory
pub settled_steps : {E : Type 0} (scenario : Scenario) (old new : List Entry) (had has : ℕ → ℕ) (was now done : Backend) (result : Result (Unit {0}) E) → IsPlayed scenario old → Enters scenario old new had has was now → OnOk result (SettlesWherever now done) → OnOk result (Steps scenario old new had has was done)
settled_steps scenario old new had has was now done (Ok x) played enters settles = let settled = settles scenario new enters.agrees in stepped scenario old new had has was now done played enters settled.waits settled.id
settled_steps scenario old new had has was now done (Err e) played enters settles = tt

-- a backend that stands and hasn't joined has nothing noted
pub not_joined : (scenario : Scenario) (seen : List Entry) (s : Backend) → Stands scenario seen s → s.life ≡ lives.Unstarted → HasNotJoined scenario seen s
not_joined scenario seen s stands life = subst (λ life. elim life as (λ x. Type 0) [ lives.Unstarted ↦ HasNotJoined scenario seen s | lives.Alive ↦ AwaitsEntry scenario seen s | lives.Stopped ↦ HasLeft scenario seen s ]) life stands

new_noted : (s : Backend) → s.looked ≡ false → s.frames ≡ [] → s.told ≡ false → noted_of s ≡ nothing_noted
new_noted s looked frames told = λ i. record { looked = looked i; frames = frames i; told = told i }

-- where nothing is noted nothing is after it goes on
settles_nothing : (was now : Backend) → noted_of was ≡ nothing_noted → Settles was now → noted_of now ≡ nothing_noted
settles_nothing was now none (Stays still same) = same ∙ none
settles_nothing was now none (Acts does same) = same ∙ ap (λ (x : Noted). record x { told = x.told && finds_none was.progress }) none
settles_nothing was now none (Passes less nothing) = nothing

-- what is noted once it has joined, and once a backend that had joined has made its entry
pub joined_notes : (scenario : Scenario) (seen old new : List Entry) (was now : Backend) → Stands scenario seen was → was.life ≡ lives.Unstarted → noted_of now ≡ noted_of was → NotesAtEntry scenario old new was now
joined_notes scenario seen old new was now stands life same = let fresh = (not_joined scenario seen was stands life).new in subst (λ l. elim l as (λ y. Type 0) [ lives.Unstarted ↦ noted_of now ≡ nothing_noted | other ↦ NotesEntry scenario old new was now ]) (sym life) (same ∙ new_noted was fresh.looked fresh.frames fresh.told)

pub entered_notes : {E : Type 0} (scenario : Scenario) (old new : List Entry) (was now : Backend) (result : Result (Unit {0}) E) → was.life ≡ lives.Alive → OnOk result (NotesEntry scenario old new was now) → OnOk result (NotesAtEntry scenario old new was now)
entered_notes scenario old new was now (Ok x) life notes = subst (λ l. elim l as (λ y. Type 0) [ lives.Unstarted ↦ noted_of now ≡ nothing_noted | other ↦ NotesEntry scenario old new was now ]) (sym life) notes
entered_notes scenario old new was now (Err e) life notes = tt

-- and once it has gone on
pub notes_on : (scenario : Scenario) (old new : List Entry) (was entered now : Backend) → NotesAtEntry scenario old new was entered → Settles entered now → NotesAtStep scenario old new was now
notes_on scenario old new was entered now notes settles = by_life was.life notes
  where
    by_life : (l : Life) → elim l as (λ y. Type 0) [ lives.Unstarted ↦ noted_of entered ≡ nothing_noted | other ↦ NotesEntry scenario old new was entered ] → elim l as (λ y. Type 0) [ lives.Unstarted ↦ noted_of now ≡ nothing_noted | other ↦ NotesStep scenario old new was now ]
    by_life lives.Unstarted none = settles_nothing entered now none settles
    by_life lives.Alive made = record { entered = entered; made = made; settled = settles }
    by_life lives.Stopped made = record { entered = entered; made = made; settled = settles }

-- where it has left it doesn't go on
pub notes_left : (scenario : Scenario) (old new : List Entry) (was now : Backend) → NotesAtEntry scenario old new was now → NotesAtStep scenario old new was now
notes_left scenario old new was now notes = notes_on scenario old new was now now notes (Stays refl refl)

-- a backend that has made its next entry and hasn't left agrees after it
pub remains : (scenario : Scenario) (old new : List Entry) (had has : ℕ → ℕ) (was now : Backend) → MakesNext scenario old new had has was now → has_left now.life ≡ false → Enters scenario old new had has was now
remains scenario old new had has was now (Remains enters) stays = enters
remains scenario old new had has was now (Left gone steps) stays = absurd (both_ways _ stays (ap has_left gone))

-- and one that has left is through with its step
pub leaves : (scenario : Scenario) (old new : List Entry) (had has : ℕ → ℕ) (was now : Backend) → MakesNext scenario old new had has was now → has_left now.life ≡ true → Steps scenario old new had has was now
leaves scenario old new had has was now (Remains enters) gone = absurd (both_ways _ (ap has_left enters.agrees.keeps.alive) gone)
leaves scenario old new had has was now (Left life steps) gone = steps
