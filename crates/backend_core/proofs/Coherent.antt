-- A backend that stands in a sound history is coherent with it.
use Rattle.std.proofs.Common.{◌≡◌, ◌∙◌, inl, inr, ℕ, Bool, true, false, IfSome, List, [], refl, sym, ap, subst, map}
use Rattle.history_model.specs.Sound.{MayComeNext, IsSound}
use Rattle.history_model.specs.Read.{is_usable, place_read, rows_read}
use Rattle.history_model.proofs.Accounted.{usable_accounted, usable_read}
use Rattle.history_model.proofs.Prefixes.{EachEntry-weaker}
use Rattle.cacheless.specs.Facts.{kept_if, kept_in, facts_of}
use Rattle.cacheless.specs.Holds.{FactsFit}
use Rattle.cacheless.specs.Locks.{grant_of}
use Rattle.cacheless.specs.State.{kept_at, is_kept}
use Rattle.cacheless.specs.Suspects.{lacks}
use Rattle.cacheless.proofs.HeldLocks.{Follows, locks_of, locks_are_held}
use Rattle.backend_core.specs.Types.{Purpose, Scenario, Entry, Kept, Opening, Life, Frame, Progress, Backend}
use Rattle.backend_core.specs.declared.life.Life.TheVariants as lives
use Rattle.backend_core.specs.Agrees.{HasNotJoined, AwaitsEntry, HasLeft, Stands}
use Rattle.backend_core.specs.Coherent.{IsCoherentScan, IsCoherentSession, IsCoherent}
use Rattle.backend_core.specs.Fits.{keeps_whole}
use Rattle.backend_core.specs.Frames.{IsFound, IsStack}
use Rattle.cacheless.proofs.Reading.{kept_usable}
use Rattle.backend_core.proofs.Fitting.Rebuilding.{usable_is}
use Rattle.backend_core.proofs.Own.{waiting, waiting_is}
use Rattle.cacheless.proofs.Answers.ReadPlaces.{read_at_place}

-- what is kept of a scan that is usable, with its place and what it gave
scan_coherent : (seen : List Entry) (b : ℕ) (scan : Purpose) → IsSound seen → is_usable seen b scan ≡ true → IsCoherentScan seen b scan (record { rows = rows_read seen b scan; at = place_read seen b scan })
scan_coherent seen b scan sound usable = record { at = usable_read seen b scan usable; right = read_at_place seen b scan; accounted = usable_accounted seen b scan sound usable }

-- all that is kept
all_coherent : (seen : List Entry) (b : ℕ) → IsSound seen → (scan : Purpose) → IfSome (kept_in seen b scan) (IsCoherentScan seen b scan)
all_coherent seen b sound scan = by_usable (is_usable seen b scan) refl
  where
    by_usable : (t : Bool) → is_usable seen b scan ≡ t → IfSome (kept_if t (rows_read seen b scan) (place_read seen b scan)) (IsCoherentScan seen b scan)
    by_usable true usable = scan_coherent seen b scan sound usable
    by_usable false usable = tt

progress_coherent : (seen : List Entry) (p : Progress) → IsSound seen → FactsFit (facts_of seen p.id) p → (scan : Purpose) → IfSome (kept_at p scan) (IsCoherentScan seen p.id scan)
progress_coherent seen p sound fits = subst (λ (kept : Kept). (scan : Purpose) → IfSome (kept scan) (IsCoherentScan seen p.id scan)) (ap (λ f. f.kept) fits) (all_coherent seen p.id sound)

-- where a relation isn't rebuilt and no reset goes on, what is in use of it is whole
whole_found : (has : Purpose → Bool) (frames : List Frame) (o : Opening) → frames ≡ [] → IsFound has frames o → lacks has o ≡ false
whole_found has frames o none found = by_found (subst (λ l. IsFound has l o) none found)
  where
    by_found : IsFound has [] o → lacks has o ≡ false
    by_found (inl whole) = whole
    by_found (inr (inl is)) = absurd (cc is)
    by_found (inr (inr is)) = absurd (cc is)

-- one that waits for its next entry has at hand what its session has
session_coherent : (scenario : Scenario) (seen : List Entry) (s : Backend) → IsSound seen → AwaitsEntry scenario seen s → IsCoherentSession scenario seen s
session_coherent scenario seen s sound waits = record {
  session = waiting waits;
  is = waiting_is scenario seen s waits;
  keeps = record { scans = λ scan. ap (λ has. has scan) usable; descriptors = λ o. ap (λ has. lacks has o) usable };
  uses = record { opens = refl; opened = refl };
  holds = record {
    locks = refl;
    grants = locks_are_held scenario seen s.progress.id (EachEntry-weaker MayComeNext Follows (λ before e comes. comes.follows.life) seen sound) ∙ ap (λ x. map (grant_of s.progress.id) (locks_of x)) (waiting_is scenario seen s waits);
  };
  rebuilds = record {
    stack = stack;
    whole = λ whole none o among. whole_found (is_usable seen s.progress.id) s.frames o none ((stack whole).found o among);
    over = waits.fits.rebuilds.over;
  };
}
  where
    all : is_kept (facts_of seen s.progress.id).kept ≡ is_usable seen s.progress.id
    all = λ i scan. kept_usable seen s.progress.id scan i

    usable : is_kept (kept_at s.progress) ≡ is_usable seen s.progress.id
    usable = sym (usable_is (facts_of seen s.progress.id) s.progress waits.rests.holds.facts) ∙ all

    stack : keeps_whole (facts_of seen s.progress.id) (waiting waits) ≡ true → IsStack (is_usable seen s.progress.id) (waiting waits).opened s.frames
    stack whole = subst (λ has. IsStack has (waiting waits).opened s.frames) all (waits.fits.rebuilds.stack whole)

-- where it stands in a sound history, it is coherent with it: right after a step of its own, and after any entry of another
pub stands_coherent : (scenario : Scenario) (seen : List Entry) (s : Backend) → IsSound seen → Stands scenario seen s → IsCoherent scenario seen s
stands_coherent scenario seen s sound stands = by_life s.life refl stands
  where
    runs_not : {X : Type 0} (l : Life) → s.life ≡ l → (l ≡ lives.Alive → ⊥) → s.life ≡ lives.Alive → X
    runs_not l is other alive = absurd (other (sym is ∙ alive))

    by_life : (l : Life) → s.life ≡ l → elim l as (λ x. Type 0) [ lives.Unstarted ↦ HasNotJoined scenario seen s | lives.Alive ↦ AwaitsEntry scenario seen s | lives.Stopped ↦ HasLeft scenario seen s ] → IsCoherent scenario seen s
    by_life lives.Unstarted is before = record {
      scans = subst (λ (kept : Kept). (scan : Purpose) → IfSome (kept scan) (IsCoherentScan seen s.progress.id scan)) (sym before.new.progress.kept) (λ scan. tt);
      running = runs_not lives.Unstarted is (λ same. cc same);
    }
    by_life lives.Alive is waits = record {
      scans = progress_coherent seen s.progress sound waits.rests.holds.facts;
      running = λ alive. session_coherent scenario seen s sound waits;
    }
    by_life lives.Stopped is left = record {
      scans = progress_coherent seen s.progress sound left.holds.facts;
      running = runs_not lives.Stopped is (λ same. cc same);
    }
