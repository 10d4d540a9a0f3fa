-- Which grants stay after an event.
use Rattle.std.proofs.Common.{◌≡◌, ◌∙◌, ℕ, Bool, true, false, not, List, ◌==◌, ◌&&◌, refl, sym, ap}
use Rattle.std.specs.Prelude.{nat_le, ⊤}
use Rattle.std.specs.List.{list_any}
use Rattle.std.proofs.lemmas.Bool.{eqb-true, eq-eqb}
use Rattle.base_types.specs.Modes.{same_mode}
use Rattle.base_types.specs.Scans.{same_oid}
use Rattle.event_kinds.specs.declared.entry.Event.{Event}
use Rattle.event_kinds.specs.declared.entry.Event.TheVariants as events
use Rattle.lock_modes.specs.declared.grant.Grant.{Grant}
use Rattle.lock_modes.specs.Grants.{is_lock, stays}
use Rattle.history_model.specs.Held.{held_by}
use Rattle.history_model.proofs.Every.{any-filter, any-left}

-- an event of the backend takes none of the grants that pass a test: it releases nothing, and no lock of theirs is unlocked
abbrev pub SparesGrants : (Grant → Bool) → ℕ → Event → Type 0
SparesGrants p b (events.Release from) = ⊥
SparesGrants p b (events.Unlock rel mode) = (g : Grant) → p g ≡ true → is_lock b rel mode g ≡ false
SparesGrants p b event = ⊤

-- a grant of a backend stays where its events spare it
pub grant_spared : (a c : ℕ) (event : Event) (held : List Grant) (b : ℕ) (p : Grant → Bool) → ((g : Grant) → p g ≡ true → (g.backend == b) ≡ true) → ((a == b) ≡ true → SparesGrants p a event) → list_any p held ≡ true → list_any p (held_by a c event held) ≡ true
grant_spared a c (events.LockOk on in') held b p own spares some = any-left p held _ some
grant_spared a c (events.Write xid items) held b p own spares some = any-left p held _ some
grant_spared a c (events.Unlock on in') held b p own spares some = any-filter p (λ g. not (is_lock a on in' g)) kept held some
  where
    kept : (g : Grant) → p g ≡ true → not (is_lock a on in' g) ≡ true
    kept g is = by_owner (g.backend == a) refl
      where
        by_owner : (t : Bool) → (g.backend == a) ≡ t → not (is_lock a on in' g) ≡ true
        by_owner false theirs = ap (λ t. not (t && same_oid g.rel on && same_mode g.mode in')) theirs
        by_owner true mine = ap not (spares (eq-eqb a b (sym (eqb-true g.backend a mine) ∙ eqb-true g.backend b (own g is))) g is)
grant_spared a c (events.Release from) held b p own spares some = any-filter p (stays a from) kept held some
  where
    kept : (g : Grant) → p g ≡ true → stays a from g ≡ true
    kept g is = by_owner (g.backend == a) refl
      where
        by_owner : (t : Bool) → (g.backend == a) ≡ t → not (t && nat_le from g.command) ≡ true
        by_owner false theirs = refl
        by_owner true mine = absurd (spares (eq-eqb a b (sym (eqb-true g.backend a mine) ∙ eqb-true g.backend b (own g is))))
grant_spared a c event held b p own spares some = some
