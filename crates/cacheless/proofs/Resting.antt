-- Where the code finds nothing to do without an entry, its session is settled.
use Rattle.std.proofs.Common.{◌≡◌, ◌≤◌, ◌<◌, ◌+◌, ◌∙◌, ◌&&◌, ◌||◌, ◌⊎◌, inl, inr, ℕ, Bool, true, false, not, Option, Some, None, List, [], ◌∷◌, ◌++◌, refl, sym, ap, length, drop, is_none, is_some, slice_get, cond, get_or, map}
use Rattle.std.proofs.lemmas.List.{drop_more, drop_all}
use Rattle.std.proofs.lemmas.Option.{slice_get_cases, slice_get_within, get_or_from_slice_get}
use Rattle.ddl_effect.specs.Plans.{Plan, Act, Done, Fails, Absent, Do}
use Rattle.ddl_effect.specs.Stages.{plan_at}
use Rattle.history_model.specs.Changing.{is_empty}
use Rattle.lock_modes.specs.Rooms.{Roomy}
use Rattle.cacheless.specs.Types.{Row, Purpose, Command, Scenario, Entry, Event, OwnLock}
use Rattle.cacheless.specs.declared.progress.Progress.{Progress}
use Rattle.cacheless.specs.Facts.{Facts, facts_of}
use Rattle.cacheless.specs.Session.{Session, Badly, outcome_of, first_of}
use Rattle.cacheless.specs.Owed.{OwesScan, owed_first_in, owed_after, act_owed, is_free}
use Rattle.cacheless.specs.Work.{work_of, Work}
use Rattle.cacheless.specs.Ends.{End, Ends, Commits, TakesBack, next_of_end, end_in, end_left_in}
use Rattle.cacheless.specs.Settled.{gives_in, gives_left, act_done, done_here, acted_on, is_finished_in, settled}
use Rattle.cacheless.specs.State.{facts_at, work_at, kept_at, builds_missing, act_missing, scans_missing, owed_first, owes_nothing, Rest, session_at}
use Rattle.cacheless.specs.Silently.{acts_on, is_ends, is_finished_at}
use Rattle.cacheless.specs.Holds.{FactsFit, Holds, Rests}
use Rattle.cacheless.proofs.Settling.{settled-waits}
use Rattle.cacheless.proofs.Tests.{and_true, empty_is}
use Rattle.cacheless.proofs.Same.{work_same, empty_append, empty_map}
use Rattle.cacheless.proofs.CommandEnds.{left_none}

-- the first command that is left is the running one
pub first_left : (xs : List Command) (n : ℕ) → first_of (drop n xs) ≡ slice_get xs n
first_left xs n = by_place (slice_get_cases xs n).1
  where
    by_place : ((x : Command) × (n < length xs) × (slice_get xs n ≡ Some x) × (get_or xs n x ≡ x)) ⊎ ((length xs ≤ n) × (slice_get xs n ≡ None)) → first_of (drop n xs) ≡ slice_get xs n
    by_place (inl (x, within, at, get)) = ap first_of (drop_more xs n x within) ∙ ap Some get ∙ sym at
    by_place (inr (past, none)) = ap first_of (drop_all n xs past) ∙ sym none

pub left_command : (s : Progress) (command : Command) → slice_get s.commands s.finished ≡ Some command → drop s.finished s.commands ≡ command ∷ drop (s.finished + 1) s.commands
left_command s command at = drop_more s.commands s.finished command (slice_get_within s.commands s.finished command at) ∙ ap (λ y. y ∷ drop (s.finished + 1) s.commands) (get_or_from_slice_get s.commands s.finished command command at)

pub cond_none : (t : Bool) (scan : Purpose) → cond (not t) (scan ∷ []) [] ≡ [] → t ≡ true
cond_none true scan none = refl
cond_none false scan none = absurd (cc)

-- an act gives what the code works out
gives_same : (facts : Facts) (s : Progress) (r : Rest) (act : Act) → FactsFit facts s → length r.finished ≡ s.finished → gives_in facts (work_of (session_at s r)) act ≡ gives_in (facts_at s) (work_at s) act
gives_same facts s r act fits count = λ i. gives_in (fits i) (work_same s r count i) act

-- nothing has to come first
pub record Free (facts : Facts) (command : Command) (s : Progress) (rest : Rest) : Type 0 where
  pub first : is_empty (owed_first_in facts command (work_of (session_at s rest)) ++ owed_after facts.due) ≡ true
  pub scans : scans_missing s ≡ []

pub first_same : (facts : Facts) (command : Command) (s : Progress) (rest : Rest) → FactsFit facts s → is_empty (owed_first_in facts command (work_of (session_at s rest)) ++ owed_after facts.due) ≡ is_empty (owed_first s command ++ owed_after s.due)
first_same facts command s rest fits = ap (λ f. is_empty (owed_first_in f command (work_of (session_at s rest)) ++ owed_after f.due)) fits

-- where nothing has to come before the next act, no scan is missing
pub none_missing : (s : Progress) (command : Command) → owes_nothing command s ≡ true → scans_missing s ≡ []
none_missing s command is = empty_is (scans_missing s) (sym (empty_map OwesScan (scans_missing s)) ∙ (and_true (is_empty (owed_first s command ++ owed_after s.due)) (is_empty (map OwesScan (scans_missing s))) (sym (empty_append (owed_first s command ++ owed_after s.due) (map OwesScan (scans_missing s))) ∙ is)).1)

pub free_now : (facts : Facts) (command : Command) (s : Progress) (rest : Rest) → FactsFit facts s → owes_nothing command s ≡ true → Free facts command s rest
free_now facts command s rest fits is = let parts = and_true (is_empty (owed_first s command ++ owed_after s.due)) (is_empty (map OwesScan (scans_missing s))) (sym (empty_append (owed_first s command ++ owed_after s.due) (map OwesScan (scans_missing s))) ∙ is) in record {
  first = first_same facts command s rest fits ∙ parts.0;
  scans = none_missing s command is;
}

-- no scan is missing before an act: so none of the act is
pub lacks_none : (s : Progress) (act : Act) (plan : List Row → Plan) → plan_at s.opens s.exec ≡ Do act plan → scans_missing s ≡ [] → builds_missing (kept_at s) s.opened ++ act_missing s (Do act plan) ≡ []
lacks_none s act plan at none = ap (λ p. elim (outcome_of p) as (λ x. List Purpose) [ Badly ↦ [] | other ↦ builds_missing (kept_at s) s.opened ++ act_missing s p ]) (sym at) ∙ none

-- then what it gives decides
here_as : (facts : Facts) (s : Progress) (rest : Rest) (act : Act) (plan : List Row → Plan) (t : Bool) → FactsFit facts s → length rest.finished ≡ s.finished → is_empty (builds_missing (kept_at s) s.opened ++ act_missing s (Do act plan)) ≡ t
    → done_here facts (session_at s rest) act (Do act plan) ≡ elim t as (λ x. Option (List Row)) [ true ↦ gives_in (facts_at s) (work_at s) act | false ↦ None ]
here_as facts s rest act plan t fits count lacks =
    (λ i. elim (is_empty (builds_missing (fits i).kept s.opened ++ act_owed (fits i) (Do act plan))) as (λ x. Option (List Row)) [ true ↦ gives_in (fits i) (work_same s rest count i) act | false ↦ None ])
    ∙ ap (λ u. elim u as (λ x. Option (List Row)) [ true ↦ gives_in (facts_at s) (work_at s) act | false ↦ None ]) lacks

pub here : (facts : Facts) (s : Progress) (rest : Rest) (act : Act) (plan : List Row → Plan) → FactsFit facts s → length rest.finished ≡ s.finished → plan_at s.opens s.exec ≡ Do act plan → scans_missing s ≡ [] → done_here facts (session_at s rest) act (Do act plan) ≡ gives_in (facts_at s) (work_at s) act
here facts s rest act plan fits count at none = here_as facts s rest act plan true fits count (ap is_empty (lacks_none s act plan at none))

-- the tests of a finished command
pub over_is : (facts : Facts) (command : Command) (w : Work) → is_none (end_left_in facts command w) ≡ (w.ended || is_ends (end_in facts command w))
over_is facts command w = by_ended w.ended
  where
    by_end : (end : End) → is_none (next_of_end facts end) ≡ is_ends end
    by_end Ends = refl
    by_end (Commits first) = refl
    by_end (TakesBack from) = refl

    by_ended : (t : Bool) → is_none (elim t as (λ x. Option Event) [ true ↦ None | false ↦ next_of_end facts (end_in facts command w) ]) ≡ (t || is_ends (end_in facts command w))
    by_ended true = refl
    by_ended false = by_end (end_in facts command w)

pub finished_same : (facts : Facts) (command : Command) (s : Progress) (r : Rest) → FactsFit facts s → length r.finished ≡ s.finished → is_finished_in facts command (work_of (session_at s r)) ≡ is_finished_at command s
finished_same facts command s r fits count = λ i. is_finished_in (fits i) command (work_same s r count i)

none_of : (o : Option (List Row)) → is_some o ≡ false → o ≡ None
none_of None is = refl
none_of (Some x) is = absurd (cc)

-- where the next act gives nothing yet, none is done
stays_act : (facts : Facts) (command : Command) (s : Progress) (r : Rest) → FactsFit facts s → length r.finished ≡ s.finished → acts_on command s ≡ false → (p : Plan) → plan_at s.opens s.exec ≡ p → is_empty (owed_first s command ++ owed_after s.due) ≡ true → acted_on facts p (session_at s r) ≡ session_at s r
stays_act facts command s r fits count stays (Done told) at free = refl
stays_act facts command s r fits count stays (Fails error) at free = refl
stays_act facts command s r fits count stays (Absent name) at free = refl
stays_act facts command s r fits count stays (Do act plan) at free = ap (λ o. elim o [ None ↦ session_at s r | Some given ↦ acted_on facts (plan given) (act_done act given (plan given) (session_at s r)) ]) (by_owed (is_empty owed) refl)
  where
    owed : List Purpose
    owed = builds_missing (kept_at s) s.opened ++ act_missing s (Do act plan)

    -- the scans that are owed before the act
    owed_is : owed ≡ scans_missing s
    owed_is = ap (λ p. elim (outcome_of p) as (λ x. List Purpose) [ Badly ↦ [] | other ↦ builds_missing (kept_at s) s.opened ++ act_missing s p ]) (sym at)

    by_owed : (t : Bool) → is_empty owed ≡ t → done_here facts (session_at s r) act (Do act plan) ≡ None
    by_owed false is = here_as facts s r act plan false fits count is
    by_owed true is = here_as facts s r act plan true fits count is
        ∙ none_of (gives_in (facts_at s) (work_at s) act) (sym (ap (λ p. gives_left (facts_at s) (work_at s) p) at) ∙ sym (ap (λ t. t && gives_left (facts_at s) (work_at s) (plan_at s.opens s.exec)) nothing) ∙ stays)
      where
        nothing : owes_nothing command s ≡ true
        nothing = empty_append (owed_first s command ++ owed_after s.due) (map OwesScan (scans_missing s)) ∙ (λ i. free i && (empty_map OwesScan (scans_missing s) ∙ ap is_empty (sym owed_is) ∙ is) i)

-- where no act is done here and the command isn't finished, nothing is left to settle
pub rests_here : (scenario : Scenario) (seen : List Entry) (s : Progress) (command : Command) (holds : Holds scenario seen s) → slice_get s.commands s.finished ≡ Some command → acts_on command s ≡ false → is_finished_at command s ≡ false
    → settled (facts_of seen s.id) (drop s.finished s.commands) (session_at s holds.rest) ≡ session_at s holds.rest
rests_here scenario seen s command holds has stays unfinished =
    ap (λ l. settled facts l (session_at s r)) (left_command s command has)
    ∙ settled-waits facts command (drop (s.finished + 1) s.commands) (session_at s r) (by_first (is_empty (owed_first_in facts command (work_of (session_at s r)) ++ owed_after facts.due)) refl) (finished_same facts command s r holds.facts holds.count ∙ unfinished)
  where
    facts : Facts
    facts = facts_of seen s.id

    r : Rest
    r = holds.rest

    by_first : (t : Bool) → is_empty (owed_first_in facts command (work_of (session_at s r)) ++ owed_after facts.due) ≡ t → elim t as (λ x. Session) [ true ↦ acted_on facts (plan_at s.opens s.exec) (session_at s r) | false ↦ session_at s r ] ≡ session_at s r
    by_first true is = stays_act facts command s r holds.facts holds.count stays (plan_at s.opens s.exec) refl (sym (first_same facts command s r holds.facts) ∙ is)
    by_first false is = refl

-- after the last command nothing is done without an entry
pub rests_after_all : (scenario : Scenario) (seen : List Entry) (s : Progress) (holds : Holds scenario seen s) → slice_get s.commands s.finished ≡ None → settled (facts_of seen s.id) (drop s.finished s.commands) (session_at s holds.rest) ≡ session_at s holds.rest
rests_after_all scenario seen s holds none = ap (λ l. settled (facts_of seen s.id) l (session_at s holds.rest)) (left_none s.commands s.finished none)

-- where the code rests its session is settled
pub settled_at_rest : (scenario : Scenario) (seen : List Entry) (s : Progress) (rests : Rests scenario seen s) → settled (facts_of seen s.id) (drop s.finished s.commands) (session_at s rests.holds.rest) ≡ session_at s rests.holds.rest
settled_at_rest scenario seen s rests = by_command (slice_get s.commands s.finished) refl
  where
    by_command : (o : Option Command) → slice_get s.commands s.finished ≡ o → settled (facts_of seen s.id) (drop s.finished s.commands) (session_at s rests.holds.rest) ≡ session_at s rests.holds.rest
    by_command None at = rests_after_all scenario seen s rests.holds at
    by_command (Some command) at = let stays = rests.still command at in rests_here scenario seen s command rests.holds at stays.0 stays.1

-- room for more locks changes neither what is held nor that it rests
pub rests_reserved : (scenario : Scenario) (seen : List Entry) (s : Progress) (locks : Roomy OwnLock) → locks.items ≡ s.locks.items → Rests scenario seen s → Rests scenario seen (record s { locks = locks })
rests_reserved scenario seen s locks same rests = record {
  holds = let h = rests.holds in record {
    number = h.number;
    commands = h.commands;
    few = h.few;
    most = h.most;
    rest = h.rest;
    count = h.count;
    is = h.is ∙ (λ i. Some (settled (facts_of seen s.id) (drop s.finished s.commands) (record (session_at s h.rest) { locks = sym same i })));
    facts = h.facts;
    counts = h.counts;
    order = h.order;
    sought = h.sought;
    puts = h.puts;
    pins = h.pins;
  };
  still = λ command here. let still = rests.still command here in (
    ap (λ (l : List OwnLock). is_free (facts_at s) command (record (work_at s) { locks = l }) && gives_left (facts_at s) (record (work_at s) { locks = l }) (plan_at s.opens s.exec)) same ∙ still.0,
    ap (λ (l : List OwnLock). is_finished_in (facts_at s) command (record (work_at s) { locks = l })) same ∙ still.1,
  );
}
