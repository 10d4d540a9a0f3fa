-- The locks of a backend's session are its grants among those that are held.
use Rattle.std.proofs.Common.{◌≡◌, ◌+◌, ◌∙◌, ℕ, Bool, true, false, not, Option, Some, None, List, [], ◌∷◌, ◌++◌, ◌==◌, ◌&&◌, ◌||◌, cond, refl, sym, ap, subst, map, filter, length, arith}
use Rattle.std.specs.Prelude.{nat_le, nat_lt}
use Rattle.std.specs.List.{flat_map, list_any, list_all}
use Rattle.std.specs.Option.{option_map_or}
use Rattle.std.proofs.lemmas.Bool.{eqb-true, eq-eqb, and_parts, leb-true, leb-false, lt-ltb, ltb-true, false_from_ne_true}
use Rattle.base_types.specs.Scans.{same_oid}
use Rattle.base_types.specs.Modes.{same_mode, conflicts}
use Rattle.base_types.specs.Scenario.{Scenario}
use Rattle.base_types.specs.declared.command.Command.{Command}
use Rattle.base_types.specs.declared.ids.Oid.{Oid}
use Rattle.base_types.specs.declared.mode.Mode.{Mode}
use Rattle.base_types.specs.declared.mode.Mode.TheVariants.{AccessExclusive}
use Rattle.base_types.specs.declared.row.Row.{Row}
use Rattle.base_types.specs.declared.row.Row.TheVariants.{Class}
use Rattle.event_kinds.specs.declared.entry.Entry.{Entry}
use Rattle.event_kinds.specs.declared.entry.Event.{Event}
use Rattle.event_kinds.specs.declared.entry.Event.TheVariants as events
use Rattle.event_kinds.specs.declared.entry.Item.{Item}
use Rattle.event_kinds.specs.declared.entry.Item.TheVariants.{Add}
use Rattle.lock_modes.specs.declared.grant.Grant.{Grant}
use Rattle.lock_modes.specs.Grants.{is_lock, holds, stays}
use Rattle.lock_modes.specs.declared.own_lock.OwnLock.{OwnLock}
use Rattle.lock_modes.specs.Own.{is_own, has_lock, cleared}
use Rattle.ddl_effect.specs.Plans.{Plan, Done, Fails, Absent, Do}
use Rattle.ddl_effect.specs.Commands.{commands_of}
use Rattle.txn_blocks.specs.Blocks.{no_block}
use Rattle.history_model.specs.Prefixes.{EachEntry}
use Rattle.history_model.specs.Lives.{life_by, life_of}
use Rattle.history_model.specs.MayFollow.{FollowsLife}
use Rattle.history_model.specs.declared.life.Life.{Life}
use Rattle.history_model.specs.declared.life.Life.TheVariants.{Unstarted, Alive, Stopped}
use Rattle.history_model.specs.Held.{granted_by, held_by, held_of}
use Rattle.history_model.specs.Allows.{is_lock_of}
use Rattle.history_model.specs.Sound.{MayComeNext, IsSound}
use Rattle.history_model.proofs.Prefixes.{EachEntry-weaker, each-keeps}
use Rattle.history_model.proofs.Reading.{held_of-more, life_of-own, life_of-other}
use Rattle.history_model.proofs.Locked.{AreBarred, held_bars_all}
use Rattle.cacheless.specs.Facts.{Facts, facts_of}
use Rattle.cacheless.specs.Locks.{grant_of, locked_by, locks_by}
use Rattle.cacheless.specs.Session.{Session, first_of, none_open, at_command}
use Rattle.cacheless.specs.Work.{work_of}
use Rattle.cacheless.specs.Owed.{accepts_in}
use Rattle.cacheless.specs.Settled.{done_here, act_done, acted_on, acted, is_finished_in, next_session, settled}
use Rattle.cacheless.specs.Sessions.{placed_at, counted, accepted, entered, commands_left, session_by, session_of}
use Rattle.cacheless.proofs.FactsAfter.{facts_by}
use Rattle.cacheless.proofs.Reading.{session_of-own, session_of-other}

-- a grant of the backend
abbrev pub is_of : ℕ → Grant → Bool
is_of b g = g.backend == b

-- the grants of the backend
abbrev pub own_grants : ℕ → List Grant → List Grant
own_grants b gs = filter (is_of b) gs

-- the locks of a session, none before the start
abbrev pub locks_of : Option Session → List OwnLock
locks_of s = option_map_or (λ x. x.locks) s []

own-append : (b : ℕ) (gs more : List Grant) → own_grants b (gs ++ more) ≡ own_grants b gs ++ own_grants b more
own-append b [] more = refl
own-append b (g ∷ gs) more = by_test (g.backend == b) (own-append b gs more)
  where
    by_test : (t : Bool) → own_grants b (gs ++ more) ≡ own_grants b gs ++ own_grants b more → cond t (g ∷ own_grants b (gs ++ more)) (own_grants b (gs ++ more)) ≡ cond t (g ∷ own_grants b gs) (own_grants b gs) ++ own_grants b more
    by_test true rest = ap (λ xs. g ∷ xs) rest
    by_test false rest = rest

map-append : (b : ℕ) (locks more : List OwnLock) → map (grant_of b) (locks ++ more) ≡ map (grant_of b) locks ++ map (grant_of b) more
map-append b [] more = refl
map-append b (lock ∷ locks) more = ap (λ gs. grant_of b lock ∷ gs) (map-append b locks more)

-- what another is granted
others_granted : (a b c : ℕ) (items : List Item) → (a == b) ≡ false → own_grants b (flat_map (granted_by a c) items) ≡ []
others_granted a b c [] other = refl
others_granted a b c (item ∷ items) other = own-append b (granted_by a c item) (flat_map (granted_by a c) items) ∙ ap (λ gs. gs ++ own_grants b (flat_map (granted_by a c) items)) (one item) ∙ others_granted a b c items other
  where
    one : (item : Item) → own_grants b (granted_by a c item) ≡ []
    one (Add (Class oid name kind fill)) = ap (λ t. cond t (record { backend = a; command = c; rel = oid; mode = AccessExclusive } ∷ []) []) other
    one item = refl

own_granted : (b c : ℕ) (items : List Item) → own_grants b (flat_map (granted_by b c) items) ≡ map (grant_of b) (flat_map (locked_by c) items)
own_granted b c [] = refl
own_granted b c (item ∷ items) =
    own-append b (granted_by b c item) (flat_map (granted_by b c) items) ∙ ap (λ gs. gs ++ own_grants b (flat_map (granted_by b c) items)) (one item)
    ∙ ap (λ gs. map (grant_of b) (locked_by c item) ++ gs) (own_granted b c items) ∙ sym (map-append b (locked_by c item) (flat_map (locked_by c) items))
  where
    one : (item : Item) → own_grants b (granted_by b c item) ≡ map (grant_of b) (locked_by c item)
    one (Add (Class oid name kind fill)) = ap (λ t. cond t (record { backend = b; command = c; rel = oid; mode = AccessExclusive } ∷ []) []) (eq-eqb b b refl)
    one item = refl

-- what another releases or gives back
spared_others : (b : ℕ) (drops : Grant → Bool) (gs : List Grant) → ((g : Grant) → drops g ≡ true → (g.backend == b) ≡ false) → own_grants b (filter (λ g. not (drops g)) gs) ≡ own_grants b gs
spared_others b drops [] only = refl
spared_others b drops (g ∷ gs) only = by_test (drops g) refl (spared_others b drops gs only)
  where
    by_test : (t : Bool) → drops g ≡ t → own_grants b (filter (λ h. not (drops h)) gs) ≡ own_grants b gs → own_grants b (cond (not t) (g ∷ filter (λ h. not (drops h)) gs) (filter (λ h. not (drops h)) gs)) ≡ cond (g.backend == b) (g ∷ own_grants b gs) (own_grants b gs)
    by_test true is rest = rest ∙ sym (ap (λ t. cond t (g ∷ own_grants b gs) (own_grants b gs)) (only g is))
    by_test false is rest = ap (λ hs. cond (g.backend == b) (g ∷ hs) hs) rest

of_another : (a b : ℕ) (g : Grant) → (a == b) ≡ false → (g.backend == a) ≡ true → (g.backend == b) ≡ false
of_another a b g other theirs = ap (λ n. n == b) (eqb-true g.backend a theirs) ∙ other

-- what is given back here
own_spared : (b : ℕ) (keep : Grant → Bool) (gs : List Grant) → own_grants b (filter keep gs) ≡ filter keep (own_grants b gs)
own_spared b keep [] = refl
own_spared b keep (g ∷ gs) = by_tests (keep g) refl (g.backend == b) refl (own_spared b keep gs)
  where
    by_tests : (k : Bool) → keep g ≡ k → (t : Bool) → (g.backend == b) ≡ t → own_grants b (filter keep gs) ≡ filter keep (own_grants b gs) → own_grants b (cond k (g ∷ filter keep gs) (filter keep gs)) ≡ filter keep (cond t (g ∷ own_grants b gs) (own_grants b gs))
    by_tests true kept true mine rest = ap (λ t. cond t (g ∷ own_grants b (filter keep gs)) (own_grants b (filter keep gs))) mine ∙ ap (λ hs. g ∷ hs) rest ∙ sym (ap (λ k. cond k (g ∷ filter keep (own_grants b gs)) (filter keep (own_grants b gs))) kept)
    by_tests true kept false theirs rest = ap (λ t. cond t (g ∷ own_grants b (filter keep gs)) (own_grants b (filter keep gs))) theirs ∙ rest
    by_tests false gone true mine rest = rest ∙ sym (ap (λ k. cond k (g ∷ filter keep (own_grants b gs)) (filter keep (own_grants b gs))) gone)
    by_tests false gone false theirs rest = rest

unlocked_grants : (b : ℕ) (rel : Oid) (mode : Mode) (locks : List OwnLock) → filter (λ g. not (is_lock b rel mode g)) (map (grant_of b) locks) ≡ map (grant_of b) (filter (λ lock. not (is_own rel mode lock)) locks)
unlocked_grants b rel mode [] = refl
unlocked_grants b rel mode (lock ∷ locks) = ap (λ t. cond (not (t && same_oid lock.rel rel && same_mode lock.mode mode)) (grant_of b lock ∷ rest) rest) (eq-eqb b b refl) ∙ by_test (is_own rel mode lock) (unlocked_grants b rel mode locks)
  where
    rest : List Grant
    rest = filter (λ g. not (is_lock b rel mode g)) (map (grant_of b) locks)

    by_test : (t : Bool) → rest ≡ map (grant_of b) (filter (λ l. not (is_own rel mode l)) locks) → cond (not t) (grant_of b lock ∷ rest) rest ≡ map (grant_of b) (cond (not t) (lock ∷ filter (λ l. not (is_own rel mode l)) locks) (filter (λ l. not (is_own rel mode l)) locks))
    by_test true same = same
    by_test false same = ap (λ gs. grant_of b lock ∷ gs) same

lt_not_le : (from n : ℕ) → nat_lt n from ≡ not (nat_le from n)
lt_not_le from n = by_test (nat_le from n) refl
  where
    by_test : (t : Bool) → nat_le from n ≡ t → nat_lt n from ≡ not t
    by_test true low = false_from_ne_true (nat_lt n from) (λ is. absurd (omega (arith, leb-true from n low, ltb-true n from is)))
    by_test false high = lt-ltb n from (leb-false from n high)

own_release : (b from : ℕ) (gs : List Grant) → own_grants b (filter (stays b from) gs) ≡ filter (λ g. nat_lt g.command from) (own_grants b gs)
own_release b from [] = refl
own_release b from (g ∷ gs) = by_tests (g.backend == b) refl (nat_le from g.command) refl (own_release b from gs)
  where
    Rest : Type 0
    Rest = own_grants b (filter (stays b from) gs) ≡ filter (λ h. nat_lt h.command from) (own_grants b gs)

    by_tests : (s : Bool) → (g.backend == b) ≡ s → (u : Bool) → nat_le from g.command ≡ u → Rest
        → own_grants b (cond (not (s && u)) (g ∷ filter (stays b from) gs) (filter (stays b from) gs)) ≡ filter (λ h. nat_lt h.command from) (cond s (g ∷ own_grants b gs) (own_grants b gs))
    by_tests false theirs u is rest = ap (λ t. cond t (g ∷ own_grants b (filter (stays b from) gs)) (own_grants b (filter (stays b from) gs))) theirs ∙ rest
    by_tests true mine true is rest = rest ∙ sym (ap (λ t. cond t (g ∷ filter (λ h. nat_lt h.command from) (own_grants b gs)) (filter (λ h. nat_lt h.command from) (own_grants b gs))) (lt_not_le from g.command ∙ ap not is))
    by_tests true mine false is rest =
        ap (λ t. cond t (g ∷ own_grants b (filter (stays b from) gs)) (own_grants b (filter (stays b from) gs))) mine ∙ ap (λ hs. g ∷ hs) rest
        ∙ sym (ap (λ t. cond t (g ∷ filter (λ h. nat_lt h.command from) (own_grants b gs)) (filter (λ h. nat_lt h.command from) (own_grants b gs))) (lt_not_le from g.command ∙ ap not is))

early_grants : (b from : ℕ) (locks : List OwnLock) → filter (λ g. nat_lt g.command from) (map (grant_of b) locks) ≡ map (grant_of b) (filter (λ lock. nat_lt lock.command from) locks)
early_grants b from [] = refl
early_grants b from (lock ∷ locks) = by_test (nat_lt lock.command from) (early_grants b from locks)
  where
    by_test : (t : Bool) → filter (λ g. nat_lt g.command from) (map (grant_of b) locks) ≡ map (grant_of b) (filter (λ l. nat_lt l.command from) locks)
        → cond t (grant_of b lock ∷ filter (λ g. nat_lt g.command from) (map (grant_of b) locks)) (filter (λ g. nat_lt g.command from) (map (grant_of b) locks)) ≡ map (grant_of b) (cond t (lock ∷ filter (λ l. nat_lt l.command from) locks) (filter (λ l. nat_lt l.command from) locks))
    by_test true rest = ap (λ gs. grant_of b lock ∷ gs) rest
    by_test false rest = rest

-- after another's event
own_held-other : (a b c : ℕ) (event : Event) (gs : List Grant) → (a == b) ≡ false → own_grants b (held_by a c event gs) ≡ own_grants b gs
own_held-other a b c (events.LockOk rel mode) gs other = own-append b gs (new ∷ []) ∙ ap (λ t. own_grants b gs ++ cond t (new ∷ []) []) other ∙ nothing (own_grants b gs)
  where
    new : Grant
    new = record { backend = a; command = c; rel = rel; mode = mode }

    nothing : (xs : List Grant) → xs ++ [] ≡ xs
    nothing [] = refl
    nothing (x ∷ xs) = ap (λ ys. x ∷ ys) (nothing xs)
own_held-other a b c (events.Write xid items) gs other = own-append b gs (flat_map (granted_by a c) items) ∙ ap (λ more. own_grants b gs ++ more) (others_granted a b c items other) ∙ nothing (own_grants b gs)
  where
    nothing : (xs : List Grant) → xs ++ [] ≡ xs
    nothing [] = refl
    nothing (x ∷ xs) = ap (λ ys. x ∷ ys) (nothing xs)
own_held-other a b c (events.Unlock rel mode) gs other = spared_others b (is_lock a rel mode) gs (λ g is. of_another a b g other (and_parts (g.backend == a) (same_oid g.rel rel) (and_parts ((g.backend == a) && same_oid g.rel rel) (same_mode g.mode mode) is).0).0)
own_held-other a b c (events.Release from) gs other = spared_others b (λ g. (g.backend == a) && nat_le from g.command) gs (λ g is. of_another a b g other (and_parts (g.backend == a) (nat_le from g.command) is).0)
own_held-other a b c event gs other = refl

-- and after the backend's own
own_held-own : (b c : ℕ) (event : Event) (gs : List Grant) (locks : List OwnLock) → own_grants b gs ≡ map (grant_of b) locks → own_grants b (held_by b c event gs) ≡ map (grant_of b) (locks_by c event locks)
own_held-own b c (events.LockOk rel mode) gs locks same =
    own-append b gs (new ∷ []) ∙ ap (λ t. own_grants b gs ++ cond t (new ∷ []) []) (eq-eqb b b refl) ∙ ap (λ xs. xs ++ new ∷ []) same
    ∙ sym (map-append b locks (record { rel = rel; mode = mode; command = c; clear = false } ∷ []))
  where
    new : Grant
    new = record { backend = b; command = c; rel = rel; mode = mode }
own_held-own b c (events.Write xid items) gs locks same =
    own-append b gs (flat_map (granted_by b c) items) ∙ ap (λ xs. xs ++ own_grants b (flat_map (granted_by b c) items)) same ∙ ap (λ xs. map (grant_of b) locks ++ xs) (own_granted b c items) ∙ sym (map-append b locks (flat_map (locked_by c) items))
own_held-own b c (events.Unlock rel mode) gs locks same = own_spared b (λ g. not (is_lock b rel mode g)) gs ∙ ap (filter (λ g. not (is_lock b rel mode g))) same ∙ unlocked_grants b rel mode locks
own_held-own b c (events.Release from) gs locks same = own_release b from gs ∙ ap (filter (λ g. nat_lt g.command from)) same ∙ early_grants b from locks
own_held-own b c event gs locks same = same

-- what is done without an entry leaves the locks
acted_on-locks : (facts : Facts) (p : Plan) (s : Session) → (acted_on facts p s).locks ≡ s.locks
acted_on-locks facts (Done told) s = refl
acted_on-locks facts (Fails error) s = refl
acted_on-locks facts (Absent name) s = refl
acted_on-locks facts (Do act rest) s = by_given (done_here facts s act (Do act rest)) (λ given. acted_on-locks facts (rest given) (act_done act given (rest given) s))
  where
    by_given : (o : Option (List Row)) → ((given : List Row) → (acted_on facts (rest given) (act_done act given (rest given) s)).locks ≡ s.locks)
        → (elim o as (λ x. Session) [ None ↦ s | Some given ↦ acted_on facts (rest given) (act_done act given (rest given) s) ]).locks ≡ s.locks
    by_given None more = refl
    by_given (Some given) more = more given

acted-locks : (facts : Facts) (command : Command) (s : Session) (free : Bool) → (elim free as (λ x. Session) [ true ↦ acted_on facts s.left s | false ↦ s ]).locks ≡ s.locks
acted-locks facts command s true = acted_on-locks facts s.left s
acted-locks facts command s false = refl

pub settled-locks : (facts : Facts) (commands : List Command) (s : Session) → (settled facts commands s).locks ≡ s.locks
settled-locks facts [] s = refl
settled-locks facts (command ∷ rest) s = by_end (is_finished_in facts command (work_of (acted facts command s))) (settled-locks facts rest) ∙ acted-locks facts command s _
  where
    by_end : (t : Bool) → ((x : Session) → (settled facts rest x).locks ≡ x.locks)
        → (elim t as (λ x. Session) [ true ↦ settled facts rest (next_session command (first_of rest) (acted facts command s)) | false ↦ acted facts command s ]).locks ≡ (acted facts command s).locks
    by_end true more = more (next_session command (first_of rest) (acted facts command s))
    by_end false more = refl

-- a lock that becomes clear is the same grant
cleared_grants : (b : ℕ) (locks : List OwnLock) → map (grant_of b) (map cleared locks) ≡ map (grant_of b) locks
cleared_grants b [] = refl
cleared_grants b (lock ∷ locks) = ap (λ gs. grant_of b lock ∷ gs) (cleared_grants b locks)

accepted-locks : (b : ℕ) (facts : Facts) (command : Option Command) (s : Session) → map (grant_of b) (accepted facts command s).locks ≡ map (grant_of b) s.locks
accepted-locks b facts command s = by_owed (accepts_in facts (work_of s) command)
  where
    by_owed : (t : Bool) → map (grant_of b) (elim t as (λ x. List OwnLock) [ true ↦ s.locks | false ↦ map cleared s.locks ]) ≡ map (grant_of b) s.locks
    by_owed true = refl
    by_owed false = cleared_grants b s.locks

-- counting a full fetch leaves the locks
pub counted-locks : (facts : Facts) (event : Event) (s : Session) → (counted facts event s).locks ≡ s.locks
counted-locks facts (events.Fetch count) s = refl
counted-locks facts event s = refl

-- the session of a backend that has started, and no other, exists and has the backend's locks
record Fits (scenario : Scenario) (history : List Entry) (b : ℕ) : Type 0 where
  locks : own_grants b (held_of history) ≡ map (grant_of b) (locks_of (session_of scenario history b))
  unstarted : life_of history b ≡ Unstarted → session_of scenario history b ≡ None
  started : session_of scenario history b ≡ None → life_of history b ≡ Unstarted

-- a history in which each backend starts first and once
abbrev pub Follows : List Entry → Entry → Type 0
Follows before e = FollowsLife (life_of before e.backend) e.command e.event

not_unstarted : (c : ℕ) (event : Event) → life_by c event ≡ Unstarted → ⊥
not_unstarted c events.Stop is = absurd (cc)
not_unstarted c event is = absurd (cc)

none_is_start : (life : Life) (c : ℕ) (event : Event) → life ≡ Unstarted → FollowsLife life c event → event ≡ events.Start
none_is_start Unstarted c events.Start is follows = refl
none_is_start Unstarted c event is follows = absurd follows
none_is_start (Alive last) c event is follows = absurd (cc)
none_is_start Stopped c event is follows = absurd (cc)

-- the session after an own event
own_session : (scenario : Scenario) (facts : Facts) (b at c : ℕ) (event : Event) (gs : List Grant) (old : Option Session) → own_grants b gs ≡ map (grant_of b) (locks_of old) → (old ≡ None → event ≡ events.Start) → (event ≡ events.Start → old ≡ None)
    → (own_grants b (held_by b c event gs) ≡ map (grant_of b) (locks_of (session_by scenario facts b at c event old))) × (session_by scenario facts b at c event old ≡ None → ⊥)
own_session scenario facts b at c events.Start gs old same start none =
    (same ∙ ap (λ o. map (grant_of b) (locks_of o)) (none refl) ∙ sym (ap (map (grant_of b)) (settled-locks facts (commands_of scenario b) (at_command no_block none_open [] [] at (first_of (commands_of scenario b))))), λ is. absurd (cc))
own_session scenario facts b at c event gs None same start none = let clash : event ≡ events.Start = start refl in absurd (cc)
own_session scenario facts b at c event gs (Some s) same start none =
    let commands : List Command = commands_left scenario b s in (
      own_held-own b c event gs s.locks same ∙ sym (ap (map (grant_of b)) (settled-locks facts commands (entered facts commands at c event s))
          ∙ accepted-locks b facts (first_of commands) (counted facts event (placed_at at c event s)) ∙ ap (map (grant_of b)) (counted-locks facts event (placed_at at c event s))),
      λ is. absurd (cc),
    )

Fits-more : (scenario : Scenario) (history : List Entry) (e : Entry) (b : ℕ) → Follows history e → Fits scenario history b → Fits scenario (history ++ e ∷ []) b
Fits-more scenario history e b follows fits = by_owner (e.backend == b) refl
  where
    mine : (e.backend == b) ≡ true → Fits scenario (history ++ e ∷ []) b
    mine is = record {
      locks = ap (own_grants b) (held_of-more history e) ∙ ap (λ o. own_grants b (held_by o e.command e.event (held_of history))) (eqb-true e.backend b is) ∙ after.0 ∙ sym (ap (λ o. map (grant_of b) (locks_of o)) (session_of-own scenario history e b is));
      unstarted = λ un. absurd (not_unstarted e.command e.event (sym (life_of-own history e b is) ∙ un));
      started = λ none. absurd (after.1 (sym (session_of-own scenario history e b is) ∙ none));
    }
      where
        life : FollowsLife (life_of history b) e.command e.event
        life = subst (λ o. FollowsLife (life_of history o) e.command e.event) (eqb-true e.backend b is) follows

        first : (l : Life) → life_of history b ≡ l → FollowsLife l e.command e.event → e.event ≡ events.Start → life_of history b ≡ Unstarted
        first Unstarted at follows' start = at
        first (Alive last) at follows' start = absurd (subst (FollowsLife (Alive last) e.command) start follows')
        first Stopped at follows' start = absurd (subst (FollowsLife Stopped e.command) start follows')

        after : (own_grants b (held_by b e.command e.event (held_of history)) ≡ map (grant_of b) (locks_of (session_by scenario (facts_by history b e.command e.event (facts_of history b)) b (length history + 1) e.command e.event (session_of scenario history b))))
            × (session_by scenario (facts_by history b e.command e.event (facts_of history b)) b (length history + 1) e.command e.event (session_of scenario history b) ≡ None → ⊥)
        after = own_session scenario (facts_by history b e.command e.event (facts_of history b)) b (length history + 1) e.command e.event (held_of history) (session_of scenario history b) fits.locks
            (λ none. none_is_start (life_of history b) e.command e.event (fits.started none) life) (λ start. fits.unstarted (first (life_of history b) refl life start))

    theirs : (e.backend == b) ≡ false → Fits scenario (history ++ e ∷ []) b
    theirs is = record {
      locks = ap (own_grants b) (held_of-more history e) ∙ own_held-other e.backend b e.command e.event (held_of history) is ∙ fits.locks ∙ sym (ap (λ o. map (grant_of b) (locks_of o)) (session_of-other scenario history e b is));
      unstarted = λ un. session_of-other scenario history e b is ∙ fits.unstarted (sym (life_of-other history e b is) ∙ un);
      started = λ none. life_of-other history e b is ∙ fits.started (sym (session_of-other scenario history e b is) ∙ none);
    }

    by_owner : (t : Bool) → (e.backend == b) ≡ t → Fits scenario (history ++ e ∷ []) b
    by_owner true is = mine is
    by_owner false is = theirs is

-- the locks of a session are the backend's grants among those that are held, in order
pub locks_are_held : (scenario : Scenario) (history : List Entry) (b : ℕ) → EachEntry Follows history → filter (λ g. g.backend == b) (held_of history) ≡ map (grant_of b) (locks_of (session_of scenario history b))
locks_are_held scenario history b each =
    (each-keeps Follows (λ h. Fits scenario h b) (record { locks = refl; unstarted = λ un. refl; started = λ none. refl }) (λ before e fits follows. Fits-more scenario before e b follows fits) history each).locks

-- a mode that the session doesn't hold, the backend doesn't hold
pub lock_is_held : (b : ℕ) (rel : Oid) (mode : Mode) (gs : List Grant) (locks : List OwnLock) → filter (λ g. g.backend == b) gs ≡ map (grant_of b) locks → holds gs b rel mode ≡ has_lock locks rel mode
lock_is_held b rel mode gs locks same = sym (of_own gs) ∙ ap (list_any (λ g. same_oid g.rel rel && same_mode g.mode mode)) same ∙ of_locks locks
  where
    of_locks : (ls : List OwnLock) → list_any (λ g. same_oid g.rel rel && same_mode g.mode mode) (map (grant_of b) ls) ≡ has_lock ls rel mode
    of_locks [] = refl
    of_locks (l ∷ ls) = ap (λ t. (same_oid l.rel rel && same_mode l.mode mode) || t) (of_locks ls)

    of_own : (hs : List Grant) → list_any (λ g. same_oid g.rel rel && same_mode g.mode mode) (own_grants b hs) ≡ holds hs b rel mode
    of_own [] = refl
    of_own (h ∷ hs) = by_test (h.backend == b) (of_own hs)
      where
        by_test : (t : Bool) → list_any (λ g. same_oid g.rel rel && same_mode g.mode mode) (own_grants b hs) ≡ holds hs b rel mode
            → list_any (λ g. same_oid g.rel rel && same_mode g.mode mode) (cond t (h ∷ own_grants b hs) (own_grants b hs)) ≡ ((t && same_oid h.rel rel && same_mode h.mode mode) || holds hs b rel mode)
        by_test true rest = ap (λ t. (same_oid h.rel rel && same_mode h.mode mode) || t) rest
        by_test false rest = rest

-- a lock of the session that was granted in a command is such a grant
pub lock_of_command : (b c : ℕ) (rel : Oid) (mode : Mode) (gs : List Grant) (locks : List OwnLock) → filter (λ g. g.backend == b) gs ≡ map (grant_of b) locks → list_any (λ lock. is_own rel mode lock && (lock.command == c)) locks ≡ true → list_any (is_lock_of b c rel mode) gs ≡ true
lock_of_command b c rel mode gs locks same has = sym (of_own gs) ∙ ap (list_any is_it) same ∙ of_locks locks ∙ has
  where
    is_it : Grant → Bool
    is_it = λ g. same_oid g.rel rel && same_mode g.mode mode && (g.command == c)

    of_locks : (ls : List OwnLock) → list_any is_it (map (grant_of b) ls) ≡ list_any (λ lock. is_own rel mode lock && (lock.command == c)) ls
    of_locks [] = refl
    of_locks (l ∷ ls) = ap (λ t. (same_oid l.rel rel && same_mode l.mode mode && (l.command == c)) || t) (of_locks ls)

    of_own : (hs : List Grant) → list_any is_it (own_grants b hs) ≡ list_any (is_lock_of b c rel mode) hs
    of_own [] = refl
    of_own (h ∷ hs) = by_test (h.backend == b) (of_own hs)
      where
        by_test : (t : Bool) → list_any is_it (own_grants b hs) ≡ list_any (is_lock_of b c rel mode) hs
            → list_any is_it (cond t (h ∷ own_grants b hs) (own_grants b hs)) ≡ ((t && same_oid h.rel rel && same_mode h.mode mode && (h.command == c)) || list_any (is_lock_of b c rel mode) hs)
        by_test true rest = ap (λ t. (same_oid h.rel rel && same_mode h.mode mode && (h.command == c)) || t) rest
        by_test false rest = rest

-- a mode that the session holds keeps others from holding those that it conflicts with
pub lock_bars : (scenario : Scenario) (history : List Entry) (b : ℕ) (rel : Oid) (mode : Mode) (modes : List Mode) → IsSound history → has_lock (locks_of (session_of scenario history b)) rel mode ≡ true → list_all (λ writer. conflicts writer mode) modes ≡ true
    → AreBarred (held_of history) b rel modes
lock_bars scenario history b rel mode modes sound has clash = held_bars_all (held_of history) b rel mode modes
    (lock_is_held b rel mode (held_of history) (locks_of (session_of scenario history b)) (locks_are_held scenario history b (EachEntry-weaker MayComeNext Follows (λ before e comes. comes.follows.life) history sound)) ∙ has) clash
