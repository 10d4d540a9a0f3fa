-- The transcripts of the backends that stand in a history are its lines.
use Rattle.std.proofs.Common.{◌≡◌, ◌+◌, ◌∙◌, ℕ, suc, Some, List, [], ◌∷◌, ◌++◌, refl, sym, ap, subst, map, length, slice_get, arith}
use Rattle.std.specs.List.{All, flat_map, range_with_len}
use Rattle.std.specs.Option.{option_map_or}
use Rattle.std.proofs.lemmas.List.Elements.{All-nil, All-cons}
use Rattle.base_types.specs.Scenario.{Scenario}
use Rattle.event_kinds.specs.declared.entry.Entry.{Entry}
use Rattle.cacheless.specs.Session.{Finished}
use Rattle.cacheless.specs.Schedule.{is_stopped, has_stopped}
use Rattle.cacheless.specs.Sessions.{session_of}
use Rattle.cacheless.specs.Lines.{lines_from, lines_of_backend, lines_of}
use Rattle.ddl_effect.specs.Commands.{commands_of}
use Rattle.backend_core.specs.declared.backend.Backend.{Backend}
use Rattle.backend_core.specs.declared.life.Life.{Life}
use Rattle.backend_core.specs.declared.life.Life.TheVariants as lives
use Rattle.backend_core.specs.Agrees.{HasNotJoined, AwaitsEntry, HasLeft, Stands}
use Rattle.backend_core.specs.Coherent.{IsCoherent}
use Rattle.backend_core.specs.Words.{has_left}
use Rattle.backend_core.proofs.Coherent.{stands_coherent}
use Rattle.backend_core.proofs.Own.{waiting, waiting_is}
use Rattle.history_model.specs.Sound.{IsSound}
use Rattle.script_backends.specs.Sessions.{transcripts_of, AreSessions}
use Rattle.script_backends.specs.Standing.{StandsAt, StandTogether}

-- where a backend is, by its life
abbrev pub StandsAs : Scenario → List Entry → Backend → Life → Type 0
StandsAs s h x life = elim life [ lives.Unstarted ↦ HasNotJoined s h x | lives.Alive ↦ AwaitsEntry s h x | lives.Stopped ↦ HasLeft s h x ]

-- whether a backend has left, the history says too
pub stopped_as : (s : Scenario) (h : List Entry) (x : Backend) → Stands s h x → has_stopped h x.progress.id ≡ has_left x.life
stopped_as s h x stands = of x.life stands
  where
    of : (life : Life) → StandsAs s h x life → has_stopped h x.progress.id ≡ has_left life
    of lives.Unstarted new = ap is_stopped new.life
    of lives.Alive awaits = ap is_stopped awaits.keeps.life.alive
    of lives.Stopped left = ap is_stopped left.life

-- the lines of a backend with these commands finished
lines_finished : (s : Scenario) (h : List Entry) (b : ℕ) (finished : List Finished) → option_map_or (λ now. now.finished) (session_of s h b) [] ≡ finished → lines_of_backend s h b ≡ lines_from s h b 1 finished (commands_of s b)
lines_finished s h b finished are = ap (λ f. lines_from s h b 1 f (commands_of s b)) are

-- the transcript of a backend is its part of the lines
pub part_of : (s : Scenario) (h : List Entry) (x : Backend) → Stands s h x → x.lines ≡ lines_of_backend s h x.progress.id
part_of s h x stands = of x.life stands
  where
    of : (life : Life) → StandsAs s h x life → x.lines ≡ lines_of_backend s h x.progress.id
    of lives.Unstarted new = new.new.lines ∙ sym (lines_finished s h x.progress.id [] (ap (λ o. option_map_or (λ now. now.finished) o []) new.session))
    of lives.Alive awaits =
        awaits.lines ∙ ap (lines_from s h x.progress.id 1 (waiting awaits).finished) awaits.rests.holds.commands
        ∙ sym (lines_finished s h x.progress.id (waiting awaits).finished (ap (λ o. option_map_or (λ now. now.finished) o []) (waiting_is s h x awaits)))
    of lives.Stopped left = left.lines

each_part : (s : Scenario) (h : List Entry) (bs : List Backend) (a : ℕ) → ((i : ℕ) (backend : Backend) → slice_get bs i ≡ Some backend → StandsAt s h (a + i) backend)
    → transcripts_of bs ≡ flat_map (lines_of_backend s h) (range_with_len a (length bs))
each_part s h [] a each = refl
each_part s h (x ∷ bs) a each =
    let at = each 0 x refl in
    let id : x.progress.id ≡ a = at.id ∙ omega arith in
    let first : x.lines ≡ lines_of_backend s h a = part_of s h x at.stands ∙ ap (lines_of_backend s h) id in
    ap (λ ls. ls ++ transcripts_of bs) first ∙ ap (λ ls. lines_of_backend s h a ++ ls) (each_part s h bs (a + 1) (λ i backend is. let n : a + suc i ≡ a + 1 + i = omega arith in subst (λ k. StandsAt s h k backend) n (each (suc i) backend is)))
    ∙ range_step a (length bs)
  where
    range_step : (a n : ℕ) → lines_of_backend s h a ++ flat_map (lines_of_backend s h) (range_with_len (a + 1) n) ≡ flat_map (lines_of_backend s h) (range_with_len a (suc n))
    range_step a n = refl

each_number : (s : Scenario) (h : List Entry) (bs : List Backend) (a : ℕ) → ((i : ℕ) (backend : Backend) → slice_get bs i ≡ Some backend → StandsAt s h (a + i) backend) → map (λ x. x.progress.id) bs ≡ range_with_len a (length bs)
each_number s h [] a each = refl
each_number s h (x ∷ bs) a each =
    let id : x.progress.id ≡ a = (each 0 x refl).id ∙ omega arith in
    ap (λ n. n ∷ map (λ y. y.progress.id) bs) id
    ∙ ap (λ ns. a ∷ ns) (each_number s h bs (a + 1) (λ i backend is. let n : a + suc i ≡ a + 1 + i = omega arith in subst (λ k. StandsAt s h k backend) n (each (suc i) backend is)))
    ∙ range_step a (length bs)
  where
    range_step : (a n : ℕ) → a ∷ range_with_len (a + 1) n ≡ range_with_len a (suc n)
    range_step a n = refl

-- what holds of whatever a list has at a place, holds of all
all_at : {X : Type 0} (P : X → Type 0) (xs : List X) → ((i : ℕ) (x : X) → slice_get xs i ≡ Some x → P x) → All P xs
all_at P [] each = All-nil P
all_at P (x ∷ xs) each = All-cons P x xs (each 0 x refl) (all_at P xs (λ i y is. each (suc i) y is))

from_one : (s : Scenario) (h : List Entry) (bs : List Backend) → StandTogether s h bs → (i : ℕ) (backend : Backend) → slice_get bs i ≡ Some backend → StandsAt s h (1 + i) backend
from_one s h bs stand i backend is = let n : i + 1 ≡ 1 + i = omega arith in subst (λ k. StandsAt s h k backend) n (stand.each i backend is)

-- all transcripts are all lines
pub transcripts_are : (s : Scenario) (h : List Entry) (bs : List Backend) → StandTogether s h bs → transcripts_of bs ≡ lines_of s h
transcripts_are s h bs stand = each_part s h bs 1 (from_one s h bs stand) ∙ ap (λ n. flat_map (lines_of_backend s h) (range_with_len 1 n)) stand.count

-- backends that stand in a history are the sessions of its lines
pub stand_sessions : (s : Scenario) (h : List Entry) (bs : List Backend) → StandTogether s h bs → AreSessions s h (transcripts_of bs) bs
stand_sessions s h bs stand = record {
  numbers = each_number s h bs 1 (from_one s h bs stand) ∙ ap (range_with_len 1) stand.count;
  parts = all_at (λ x. x.lines ≡ lines_of_backend s h x.progress.id) bs (λ i x is. part_of s h x (stand.each i x is).stands);
  transcripts = refl;
}

-- each of them stands in it
pub stand_each : (s : Scenario) (h : List Entry) (bs : List Backend) → StandTogether s h bs → All (Stands s h) bs
stand_each s h bs stand = all_at (Stands s h) bs (λ i x is. (stand.each i x is).stands)

-- and is coherent with it, where it is sound
pub stand_coherent : (s : Scenario) (h : List Entry) (bs : List Backend) → IsSound h → StandTogether s h bs → All (IsCoherent s h) bs
stand_coherent s h bs sound stand = all_at (IsCoherent s h) bs (λ i x is. stands_coherent s h x sound (stand.each i x is).stands)
