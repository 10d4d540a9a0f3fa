-- The look at the start of a transaction is the first of its command, so it may be made.
use Rattle.std.proofs.Common.{◌≡◌, ◌+◌, ◌∙◌, ◌⊎◌, inl, inr, ◌==◌, ◌&&◌, ℕ, Bool, true, false, not, Option, Some, None, List, [], ◌∷◌, ◌++◌, refl, sym, ap, subst, length, slice_get, is_none, is_some, arith}
use Rattle.std.proofs.lemmas.Bool.{eqb-true, both_ways}
use Rattle.event_kinds.specs.declared.entry.Event.TheVariants as events
use Rattle.ddl_effect.specs.Commands.{commands_of}
use Rattle.txn_blocks.specs.Blocks.{Block, Outside, Inside, Failed, no_block, ends_block, refused_by}
use Rattle.txn_blocks.specs.declared.transaction.RunningTransaction.{RunningTransaction as Running}
use Rattle.history_model.specs.Drawn.{next_oid}
use Rattle.history_model.specs.Lives.{last_event_of}
use Rattle.history_model.specs.Transactions.{running_by, running_transaction_of}
use Rattle.history_model.specs.Changing.{is_empty}
use Rattle.history_model.proofs.Prefixes.{each-keeps}
use Rattle.history_model.proofs.Reading.{running_transaction_of-own, running_transaction_of-other}
use Rattle.cacheless.specs.Types.{Scenario, Command, Entry, Event}
use Rattle.cacheless.specs.Facts.{due_last, Facts, facts_of}
use Rattle.cacheless.specs.Work.{work_of}
use Rattle.cacheless.specs.Owed.{Owes, OwesLook, begins_in, owed_first_in, owed_after}
use Rattle.cacheless.specs.Plays.{MayPlayIn, MayPlayAt, IsNext, Plays}
use Rattle.cacheless.specs.Session.{Session, first_of}
use Rattle.cacheless.specs.Sessions.{commands_left, entered, session_by, session_of}
use Rattle.cacheless.specs.Settled.{acted, is_finished_in, next_session, settled}
use Rattle.cacheless.proofs.FactsAfter.{facts_by}
use Rattle.cacheless.proofs.Allowed.LooksBound.{acted-same, look_may}
use Rattle.cacheless.proofs.Allowed.NextEntries.{HasNext, IsFree, look_next}
use Rattle.cacheless.proofs.Allowed.NextOnCourse.{no_start}
use Rattle.cacheless.proofs.Allowed.Patient.{IsNoFetch}
use Rattle.cacheless.proofs.Reading.{session_of-own, session_of-other}

-- the running command has made no look, its release is made, or a transaction runs
abbrev pub HasBegun : Option Running → Option Session → Type 0
HasBegun own None = Unit {0}
HasBegun own (Some s) = (s.tally.looks ≡ 0) ⊎ ((s.ended ≡ true) ⊎ (is_some own ≡ true))

-- what is done without entries keeps that
settled-begun : (facts : Facts) (own : Option Running) (commands : List Command) (s : Session) → HasBegun own (Some s) → HasBegun own (Some (settled facts commands s))
settled-begun facts own [] s was = was
settled-begun facts own (command ∷ rest) s was = by_end (is_finished_in facts command (work_of now)) (settled-begun facts own rest (next_session command (first_of rest) now) (inl refl)) (here was)
  where
    now : Session
    now = acted facts command s

    here : HasBegun own (Some s) → HasBegun own (Some now)
    here (inl none) = inl (ap (λ t. t.looks) (acted-same (λ x. x.tally) (λ act given more x. refl) facts command s) ∙ none)
    here (inr (inl over)) = inr (inl (acted-same (λ x. x.ended) (λ act given more x. refl) facts command s ∙ over))
    here (inr (inr runs)) = inr (inr runs)

    by_end : (t : Bool) → HasBegun own (Some (settled facts rest (next_session command (first_of rest) now))) → HasBegun own (Some now) → HasBegun own (Some (elim t as (λ x. Session) [ true ↦ settled facts rest (next_session command (first_of rest) now) | false ↦ now ]))
    by_end true more stays = more
    by_end false more stays = stays

-- an entry of the backend begins a transaction, but a release and a stop
noted-begun : (later : Facts) (left : List Command) (at c : ℕ) (event : Event) (s : Session) (own : Option Running) → (event ≡ events.Start → ⊥) → HasBegun own (Some s) → HasBegun (running_by c event own) (Some (entered later left at c event s))
noted-begun later left at c events.Start s own started was = absurd (started refl)
noted-begun later left at c (events.Release from) s own started was = inr (inl refl)
noted-begun later left at c events.Stop s own started was = was
noted-begun later left at c event s own started was = inr (inr refl)

-- an own entry keeps it
own-begun : (scenario : Scenario) (history : List Entry) (b c : ℕ) (event : Event) (o : Option Session) (later : Facts) → MayPlayAt scenario history b o c event → HasBegun (running_transaction_of history b) o → HasBegun (running_by c event (running_transaction_of history b)) (session_by scenario later b (length history + 1) c event o)
own-begun scenario history b c events.Start None later may was = settled-begun later None (commands_of scenario b) _ (inl refl)
own-begun scenario history b c event None later may was = absurd may
own-begun scenario history b c events.Start (Some s) later may was = absurd (no_start (next_oid history) (facts_of history b) _ s may.1)
own-begun scenario history b c event (Some s) later may was = settled-begun later (running_by c event (running_transaction_of history b)) (commands_left scenario b s) _ (noted-begun later (commands_left scenario b s) (length history + 1) c event s (running_transaction_of history b) (λ start. cc start) was)

begun_more : (scenario : Scenario) (history : List Entry) (e : Entry) → ((b : ℕ) → HasBegun (running_transaction_of history b) (session_of scenario history b)) → IsNext scenario history e → (b : ℕ) → HasBegun (running_transaction_of (history ++ e ∷ []) b) (session_of scenario (history ++ e ∷ []) b)
begun_more scenario history e was may b = by_owner (e.backend == b) refl
  where
    by_owner : (t : Bool) → (e.backend == b) ≡ t → HasBegun (running_transaction_of (history ++ e ∷ []) b) (session_of scenario (history ++ e ∷ []) b)
    by_owner false other = subst (λ own. HasBegun own (session_of scenario (history ++ e ∷ []) b)) (sym (running_transaction_of-other history e b other)) (subst (HasBegun (running_transaction_of history b)) (sym (session_of-other scenario history e b other)) (was b))
    by_owner true own = subst (λ r. HasBegun r (session_of scenario (history ++ e ∷ []) b)) (sym (running_transaction_of-own history e b own)) (subst (HasBegun (running_by e.command e.event (running_transaction_of history b))) (sym (session_of-own scenario history e b own))
        (own-begun scenario history b e.command e.event (session_of scenario history b) (facts_by history b e.command e.event (facts_of history b)) (subst (λ x. MayPlayAt scenario history x (session_of scenario history x) e.command e.event) (eqb-true e.backend b own) may.1) (was b)))

-- so it is where backends do what their commands say
pub has_begun : (scenario : Scenario) (history : List Entry) → Plays scenario history → (b : ℕ) → HasBegun (running_transaction_of history b) (session_of scenario history b)
has_begun scenario history plays = each-keeps (IsNext scenario) (λ h. (b : ℕ) → HasBegun (running_transaction_of h b) (session_of scenario h b)) (λ b. tt) (begun_more scenario) history plays

-- where the look at its start is owed no transaction runs, and no release is made
starts : (facts : Facts) (command : Command) (s : Session) → is_empty (owed_first_in facts command (work_of s)) ≡ false → (s.ended ≡ false) × (facts.running ≡ None)
starts facts command s owes = by_block s.blocks.block refl
  where
    Goal : Type 0
    Goal = (s.ended ≡ false) × (facts.running ≡ None)

    empty : begins_in command (work_of s) ≡ false → Goal
    empty is = absurd (both_ways _ owes (ap (λ t. is_empty (elim (t && is_none facts.running) as (λ x. List Owes) [ true ↦ OwesLook ∷ [] | false ↦ [] ])) is))

    by_running : (own : Option Running) → facts.running ≡ own → (t : Bool) → begins_in command (work_of s) ≡ t → facts.running ≡ None
    by_running None at t is = at
    by_running (Some r) at true is = absurd (both_ways _ owes (ap (λ o. is_empty (elim (begins_in command (work_of s) && is_none o) as (λ x. List Owes) [ true ↦ OwesLook ∷ [] | false ↦ [] ])) at ∙ ap (λ t. is_empty (elim (t && false) as (λ x. List Owes) [ true ↦ OwesLook ∷ [] | false ↦ [] ])) is))
    by_running (Some r) at false is = absurd (both_ways _ owes (ap (λ t. is_empty (elim (t && is_none facts.running) as (λ x. List Owes) [ true ↦ OwesLook ∷ [] | false ↦ [] ])) is))

    by_ended : (t : Bool) → s.ended ≡ t → s.blocks.block ≡ Outside → s.ended ≡ false
    by_ended false is outside = is
    by_ended true is outside = (empty (ap (λ x. elim x as (λ y. Bool) [ Outside ↦ not (ends_block command) && not s.ended && is_none (refused_by no_block command) | block ↦ false ]) outside
        ∙ ap (λ t. not (ends_block command) && not t && is_none (refused_by no_block command)) is ∙ none (not (ends_block command)))).0
      where
        none : (t : Bool) → (t && false && is_none (refused_by no_block command)) ≡ false
        none true = refl
        none false = refl

    by_block : (block : Block) → s.blocks.block ≡ block → Goal
    by_block Outside is = (by_ended s.ended refl is, by_running facts.running refl (begins_in command (work_of s)) refl)
    by_block Inside is = empty (ap (λ x. elim x as (λ y. Bool) [ Outside ↦ not (ends_block command) && not s.ended && is_none (refused_by no_block command) | block ↦ false ]) is)
    by_block Failed is = empty (ap (λ x. elim x as (λ y. Bool) [ Outside ↦ not (ends_block command) && not s.ended && is_none (refused_by no_block command) | block ↦ false ]) is)

-- the look at the start of a transaction may come next
pub begin_next : (scenario : Scenario) (history : List Entry) (b : ℕ) (s : Session) (command : Command) → IsFree scenario history b s → slice_get (commands_of scenario b) (length s.finished) ≡ Some command → owed_after (due_last (last_event_of history b)) ≡ []
    → is_empty (owed_first_in (facts_of history b) command (work_of s)) ≡ false → HasNext scenario history b
begin_next scenario history b s command free at none owes = look_next scenario history b s free (λ some_wait. subst (λ o. MayPlayIn (next_oid history) (facts_of history b) o s (events.Look some_wait)) (sym at)
    (look_may (facts_of history b) s (subst IsNoFetch (sym none) tt) (omega (arith, no_look (subst (HasBegun (running_transaction_of history b)) free.is (has_begun scenario history free.allowed.plays b))))))
  where
    no_look : HasBegun (running_transaction_of history b) (Some s) → s.tally.looks ≡ 0
    no_look (inl zero_looks) = zero_looks
    no_look (inr (inl over)) = absurd (both_ways _ (starts (facts_of history b) command s owes).0 over)
    no_look (inr (inr runs)) = absurd (both_ways _ (ap is_some (starts (facts_of history b) command s owes).1) runs)
