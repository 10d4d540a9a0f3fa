-- Each grant is one of its backend's running transaction: where that has ended, nothing is held.
use Rattle.std.proofs.Common.{◌≡◌, ◌≤◌, ◌∙◌, ℕ, Bool, true, false, not, Option, Some, None, List, [], ◌∷◌, ◌++◌, ◌==◌, ◌&&◌, if◌then◌else◌, refl, sym, ap, subst, arith}
use Rattle.std.specs.Prelude.{nat_le}
use Rattle.std.specs.List.{AllByRecursion, flat_map}
use Rattle.std.proofs.lemmas.Bool.{eqb-true, eq-eqb, le-leb}
use Rattle.base_types.specs.declared.ids.Oid.{Oid}
use Rattle.base_types.specs.declared.mode.Mode.{Mode}
use Rattle.base_types.specs.Modes.{same_mode}
use Rattle.base_types.specs.Scans.{same_oid}
use Rattle.event_kinds.specs.declared.entry.Entry.{Entry}
use Rattle.event_kinds.specs.declared.entry.Event.{Event}
use Rattle.event_kinds.specs.declared.entry.Event.TheVariants as events
use Rattle.event_kinds.specs.declared.entry.Item.{Item}
use Rattle.lock_modes.specs.declared.grant.Grant.{Grant}
use Rattle.lock_modes.specs.Grants.{is_lock, stays}
use Rattle.history_model.specs.Transactions.{Running, running_transaction_of, running_by}
use Rattle.history_model.specs.Sent.{lists_of}
use Rattle.history_model.specs.Held.{granted_by, held_by, held_of}
use Rattle.history_model.specs.Sound.{MayComeNext, IsSound}
use Rattle.history_model.proofs.Prefixes.{each-keeps}
use Rattle.history_model.proofs.Reading.{held_of-more as held-more, running_transaction_of-own as running-own, running_transaction_of-other as running-other}
use Rattle.history_model.proofs.Every.{every-weaker, every-append, every-filter, every-kept}
use Rattle.history_model.proofs.Exclude.{granted_here}
use Rattle.history_model.proofs.Lawful.{IsLawful, IsLawfulEvent}
use Rattle.history_model.proofs.Lives.{Begun, begun_at}
use Rattle.history_model.proofs.Ordered.{Ordered, Ordered-start, Ordered-more, lawful_of}

-- what a lock of the mode on the relation to the backend says of a grant
pub lock_parts : (b : ℕ) (rel : Oid) (mode : Mode) (g : Grant) → is_lock b rel mode g ≡ true → ((g.backend == b) ≡ true) × (same_oid g.rel rel ≡ true) × (same_mode g.mode mode ≡ true)
lock_parts b rel mode g is = of (g.backend == b) refl (same_oid g.rel rel) refl (same_mode g.mode mode) refl is
  where
    of : (x : Bool) → (g.backend == b) ≡ x → (y : Bool) → same_oid g.rel rel ≡ y → (z : Bool) → same_mode g.mode mode ≡ z → (x && y && z) ≡ true → ((g.backend == b) ≡ true) × (same_oid g.rel rel ≡ true) × (same_mode g.mode mode ≡ true)
    of true own true one true same all = (own, one, same)
    of false own y one z same all = absurd (cc)
    of true own false one z same all = absurd (cc)
    of true own true one false same all = absurd (cc)

-- a command of the transaction that runs
abbrev IsOfRun : Option Running → ℕ → Type 0
IsOfRun None c = ⊥
IsOfRun (Some t) c = t.first ≤ c

-- so is each grant's
abbrev pub OfRuns : List Entry → Type 0
OfRuns history = AllByRecursion (λ g. IsOfRun (running_transaction_of history g.backend) g.command) (held_of history)

-- a grant that stays after an event of its backend
run_kept : (history : List Entry) (b c : ℕ) (event : Event) (g : Grant) (r : Option Running) → r ≡ running_transaction_of history b → IsLawfulEvent history b c event → IsOfRun r g.command
    → ((from : ℕ) → event ≡ events.Release from → from ≤ g.command → ⊥) → IsOfRun (running_by c event r) g.command
run_kept history b c event g None is lawful run out = absurd run
run_kept history b c events.Start g (Some t) is lawful run out = absurd (let e : Some t ≡ None = is ∙ lawful.0 in cc)
run_kept history b c events.Stop g (Some t) is lawful run out = run
run_kept history b c (events.Release from) g (Some t) is lawful run out = by_end (t.first == from) refl
  where
    by_end : (f : Bool) → (t.first == from) ≡ f → IsOfRun (if f then None else Some t) g.command
    by_end true ends = absurd (out from refl (omega (arith, eqb-true t.first from ends, run)))
    by_end false on = run
run_kept history b c (events.Write xid items) g (Some t) is lawful run out = run
run_kept history b c (events.Visible xid) g (Some t) is lawful run out = run
run_kept history b c (events.Publish count) g (Some t) is lawful run out = run
run_kept history b c event g (Some t) is lawful run out = run

-- a write grants to its backend
pub granted_to : (b c : ℕ) (items : List Item) → AllByRecursion (λ g. (g.backend ≡ b) × (g.command ≡ c)) (flat_map (granted_by b c) items)
granted_to b c items = granted_here b c items

OfRuns-more : (history : List Entry) (e : Entry) → IsLawful history e → Begun e.command (running_transaction_of history e.backend) (lists_of history e.backend) → OfRuns history → OfRuns (history ++ e ∷ [])
OfRuns-more history e lawful begins runs = subst (AllByRecursion On) (sym (held-more history e)) (of e.event refl)
  where
    On : Grant → Type 0
    On g = IsOfRun (running_transaction_of (history ++ e ∷ []) g.backend) g.command

    kept : (g : Grant) → ((g.backend == e.backend) ≡ true → (from : ℕ) → e.event ≡ events.Release from → from ≤ g.command → ⊥) → IsOfRun (running_transaction_of history g.backend) g.command → On g
    kept g out run = by_owner (e.backend == g.backend) refl
      where
        by_owner : (t : Bool) → (e.backend == g.backend) ≡ t → On g
        by_owner true own =
            let same : e.backend ≡ g.backend = eqb-true e.backend g.backend own in
            subst (λ r. IsOfRun r g.command) (sym (running-own history e g.backend own))
            (run_kept history e.backend e.command e.event g (running_transaction_of history g.backend) (ap (running_transaction_of history) (sym same)) lawful run (out (eq-eqb g.backend e.backend (sym same))))
        by_owner false other = subst (λ r. IsOfRun r g.command) (sym (running-other history e g.backend other)) run

    now : (g : Grant) → g.backend ≡ e.backend → IsOfRun (running_by e.command e.event (running_transaction_of history e.backend)) g.command → On g
    now g is run = subst (λ o. IsOfRun (running_transaction_of (history ++ e ∷ []) o) g.command) (sym is) (subst (λ r. IsOfRun r g.command) (sym (running-own history e e.backend (eq-eqb e.backend e.backend refl))) run)

    old : ((g : Grant) → (g.backend == e.backend) ≡ true → (from : ℕ) → e.event ≡ events.Release from → from ≤ g.command → ⊥) → AllByRecursion On (held_of history)
    old out = every-weaker (λ g. IsOfRun (running_transaction_of history g.backend) g.command) On (λ g run. kept g (out g) run) (held_of history) runs

    gone : (x y : Bool) → x ≡ true → y ≡ true → not (x && y) ≡ true → ⊥
    gone true true own low stays' = absurd (cc)
    gone false y own low stays' = absurd (cc)
    gone true false own low stays' = absurd (cc)

    of : (event : Event) → e.event ≡ event → AllByRecursion On (held_by e.backend e.command event (held_of history))
    of (events.LockOk rel mode) is = every-append On (held_of history) (new ∷ []) (old (λ g own from released low. absurd (cc)))
        (now new refl (subst (λ x. IsOfRun (running_by e.command x (running_transaction_of history e.backend)) e.command) (sym is) begins.first), tt)
      where
        new : Grant
        new = record { backend = e.backend; command = e.command; rel = rel; mode = mode }
    of (events.Unlock rel mode) is = every-kept On (λ g. not (is_lock e.backend rel mode g)) (held_of history) (old (λ g own from released low. absurd (cc)))
    of (events.Write xid items) is = every-append On (held_of history) (flat_map (granted_by e.backend e.command) items) (old (λ g own from released low. absurd (cc)))
        (every-weaker (λ g. (g.backend ≡ e.backend) × (g.command ≡ e.command)) On (λ g at. now g at.0 (subst (IsOfRun (running_by e.command e.event (running_transaction_of history e.backend))) (sym at.1)
        (subst (λ x. IsOfRun (running_by e.command x (running_transaction_of history e.backend)) e.command) (sym is) begins.first))) (flat_map (granted_by e.backend e.command) items) (granted_to e.backend e.command items))
    of (events.Release from) is = every-filter On (stays e.backend from) (held_of history)
        (every-weaker (λ g. IsOfRun (running_transaction_of history g.backend) g.command) (λ g. stays e.backend from g ≡ true → On g)
        (λ g run stays'. kept g (λ own at released low. let same : at ≡ from = cc in gone (g.backend == e.backend) (nat_le from g.command) own (le-leb from g.command (omega (arith, low, same))) stays') run) (held_of history) runs)
    of event is = old (λ g own from released low. absurd (cc))

-- all that is carried along
abbrev Carried : List Entry → Type 0
Carried history = Ordered history × OfRuns history

carried-more : (history : List Entry) (e : Entry) → Carried history → MayComeNext history e → Carried (history ++ e ∷ [])
carried-more history e k comes = (Ordered-more history e k.0 comes, OfRuns-more history e (lawful_of history e k.0 comes) (begun_at history e comes.follows.life k.0.lives) k.1)

-- each grant of a sound history is of a command of its backend's running transaction
pub sound_runs : (history : List Entry) → IsSound history → OfRuns history
sound_runs history sound = (each-keeps MayComeNext Carried (Ordered-start, tt) carried-more history sound).1

-- a backend that runs no transaction holds nothing
pub unheld : (history : List Entry) (b : ℕ) → IsSound history → running_transaction_of history b ≡ None → AllByRecursion (λ g. (g.backend == b) ≡ true → ⊥) (held_of history)
unheld history b sound none = every-weaker (λ g. IsOfRun (running_transaction_of history g.backend) g.command) (λ g. (g.backend == b) ≡ true → ⊥)
    (λ g run own. subst (λ r. IsOfRun r g.command) (ap (running_transaction_of history) (eqb-true g.backend b own) ∙ none) run) (held_of history) (sound_runs history sound)
