-- What a backend does without an entry leaves where its commands settle; and where it waits for an entry, they are settled.
use Rattle.std.proofs.Common.{◌≡◌, ◌∙◌, true, false, ◌&&◌, ◌||◌, Some, None, List, [], ◌∷◌, ◌++◌, refl, sym, ap, subst, map, take, is_none}
use Rattle.std.specs.List.{list_any, flat_map}
use Rattle.std.proofs.lemmas.List.Folds.{list_any-append}
use Rattle.std.proofs.Math.Bool.{and-false}
use Rattle.base_types.specs.Scans.{same_scan, build_scans}
use Rattle.base_types.specs.declared.row.Row.{Row}
use Rattle.base_types.specs.declared.scan.Purpose.{Purpose}
use Rattle.base_types.specs.declared.command.Command.{Command}
use Rattle.base_types.proofs.SameScan.{same_scan-itself}
use Rattle.event_kinds.specs.declared.entry.Event.{Event}
use Rattle.ddl_effect.specs.Plans.{Plan, Done, Fails, Absent, Do, Act}
use Rattle.history_model.specs.Changing.{is_empty}
use Rattle.cacheless.specs.declared.opening.Opening.{Opening}
use Rattle.cacheless.specs.Facts.{Facts}
use Rattle.cacheless.specs.Session.{Session, Outcome, Unsettled, Well, Badly, outcome_of, is_settled, first_of}
use Rattle.cacheless.specs.Work.{work_of}
use Rattle.cacheless.specs.Owed.{OwesScan, owed_first_in, owed_after, missing, builds_missing, act_owed, act_next, scans_owed_in, owed_in, is_next_in}
use Rattle.cacheless.specs.Ends.{end_left_in}
use Rattle.cacheless.specs.Settled.{gives_in, done_here, acted_on, acted, act_done, is_finished_in, next_session, settled}

-- an act that is done here
pub settled-act : (facts : Facts) (command : Command) (rest : List Command) (s : Session) (act : Act) (plan : List Row → Plan) (given : List Row)
    → s.left ≡ Do act plan → is_empty (owed_first_in facts command (work_of s) ++ owed_after facts.due) ≡ true → done_here facts s act (Do act plan) ≡ Some given
    → settled facts (command ∷ rest) s ≡ settled facts (command ∷ rest) (act_done act given (plan given) s)
settled-act facts command rest s act plan given left free done = ap (λ now. elim (is_finished_in facts command (work_of now)) [ true ↦ settled facts rest (next_session command (first_of rest) now) | false ↦ now ]) same
  where
    same : acted facts command s ≡ acted facts command (act_done act given (plan given) s)
    same =
        ap (λ t. elim t [ true ↦ acted_on facts s.left s | false ↦ s ]) free ∙ ap (λ p. acted_on facts p s) left
        ∙ ap (λ o. elim o [ None ↦ s | Some rows ↦ acted_on facts (plan rows) (act_done act rows (plan rows) s) ]) done
        ∙ sym (ap (λ t. elim t [ true ↦ acted_on facts (plan given) (act_done act given (plan given) s) | false ↦ act_done act given (plan given) s ]) free)

-- a command that is finished
pub settled-finish : (facts : Facts) (command : Command) (rest : List Command) (s : Session) → acted facts command s ≡ s → is_finished_in facts command (work_of s) ≡ true
    → settled facts (command ∷ rest) s ≡ settled facts rest (next_session command (first_of rest) s)
settled-finish facts command rest s stays finished = ap (λ now. elim (is_finished_in facts command (work_of now)) [ true ↦ settled facts rest (next_session command (first_of rest) now) | false ↦ now ]) stays ∙ simp finished

-- a command that waits for an entry
pub settled-waits : (facts : Facts) (command : Command) (rest : List Command) (s : Session) → acted facts command s ≡ s → is_finished_in facts command (work_of s) ≡ false
    → settled facts (command ∷ rest) s ≡ s
settled-waits facts command rest s stays finished = ap (λ now. elim (is_finished_in facts command (work_of now)) [ true ↦ settled facts rest (next_session command (first_of rest) now) | false ↦ now ]) stays ∙ simp finished

acted_on-out : (facts : Facts) (p : Plan) (s : Session) → is_settled (outcome_of p) ≡ true → acted_on facts p s ≡ s
acted_on-out facts (Done told) s out = refl
acted_on-out facts (Fails error) s out = refl
acted_on-out facts (Absent name) s out = refl
acted_on-out facts (Do act rest) s out = absurd (cc)

-- a command that has come out has no act to do
pub acted-out : (facts : Facts) (command : Command) (s : Session) → is_settled (outcome_of s.left) ≡ true → acted facts command s ≡ s
acted-out facts command s out = elim (is_empty (owed_first_in facts command (work_of s) ++ owed_after facts.due)) as (λ t. elim t [ true ↦ acted_on facts s.left s | false ↦ s ] ≡ s) [ true ↦ acted_on-out facts s.left s out | false ↦ refl ]

is_empty-more : {X : Type 0} (xs ys : List X) → is_empty xs ≡ false → is_empty (xs ++ ys) ≡ false
is_empty-more [] ys h = cc
is_empty-more (x ∷ xs) ys h = refl

-- a look or a fetch is owed
pub waits-owed : (facts : Facts) (command : Command) (rest : List Command) (s : Session) → is_empty (owed_first_in facts command (work_of s) ++ owed_after facts.due) ≡ false
    → settled facts (command ∷ rest) s ≡ s
waits-owed facts command rest s owed = settled-waits facts command rest s
    (ap (λ t. elim t [ true ↦ acted_on facts s.left s | false ↦ s ]) owed)
    (ap (λ t. is_settled (outcome_of s.left) && is_none (end_left_in facts command (work_of s)) && t) (is_empty-more _ _ owed) ∙ and-false (is_settled (outcome_of s.left) && is_none (end_left_in facts command (work_of s))))

-- the next act isn't done here
pub waits-act : (facts : Facts) (command : Command) (rest : List Command) (s : Session) (act : Act) (plan : List Row → Plan)
    → s.left ≡ Do act plan → done_here facts s act (Do act plan) ≡ None → settled facts (command ∷ rest) s ≡ s
waits-act facts command rest s act plan left none = settled-waits facts command rest s stays (ap (λ p. is_settled (outcome_of p) && is_none (end_left_in facts command (work_of s)) && is_empty (owed_in facts command (work_of s))) left)
  where
    stays : acted facts command s ≡ s
    stays = elim (is_empty (owed_first_in facts command (work_of s) ++ owed_after facts.due)) as (λ t. elim t [ true ↦ acted_on facts s.left s | false ↦ s ] ≡ s) [
      | true ↦ ap (λ p. acted_on facts p s) left ∙ ap (λ o. elim o [ None ↦ s | Some rows ↦ acted_on facts (plan rows) (act_done act rows (plan rows) s) ]) none
      | false ↦ refl
    ]

-- the end isn't made
pub waits-end : (facts : Facts) (command : Command) (rest : List Command) (s : Session) (event : Event)
    → is_settled (outcome_of s.left) ≡ true → end_left_in facts command (work_of s) ≡ Some event → settled facts (command ∷ rest) s ≡ s
waits-end facts command rest s event out left = settled-waits facts command rest s (acted-out facts command s out)
    (ap (λ o. is_settled (outcome_of s.left) && is_none o && is_empty (owed_in facts command (work_of s))) left ∙ ap (λ t. t && is_empty (owed_in facts command (work_of s))) (and-false (is_settled (outcome_of s.left))))

-- a command that has come out, whose end is made and which owes nothing
pub finishes : (facts : Facts) (command : Command) (rest : List Command) (s : Session)
    → is_settled (outcome_of s.left) ≡ true → end_left_in facts command (work_of s) ≡ None → is_empty (owed_in facts command (work_of s)) ≡ true
    → settled facts (command ∷ rest) s ≡ settled facts rest (next_session command (first_of rest) s)
finishes facts command rest s out none free = settled-finish facts command rest s (acted-out facts command s out) (simp (out, none, free))

pub is_empty-after : {X : Type 0} (xs ys : List X) → is_empty ys ≡ false → is_empty (xs ++ ys) ≡ false
is_empty-after [] ys h = h
is_empty-after (x ∷ xs) ys h = refl

is_empty-map : {X Y : Type 0} (f : X → Y) (xs : List X) → is_empty (map f xs) ≡ is_empty xs
is_empty-map f [] = refl
is_empty-map f (x ∷ xs) = refl

acted_on-owed : (facts : Facts) (p : Plan) (s : Session) → is_empty (elim (outcome_of p) [ Badly ↦ [] | other ↦ builds_missing facts.kept s.opened ++ act_owed facts p ]) ≡ false → acted_on facts p s ≡ s
acted_on-owed facts (Done told) s owed = refl
acted_on-owed facts (Fails error) s owed = refl
acted_on-owed facts (Absent name) s owed = refl
acted_on-owed facts (Do act rest) s owed = ap (λ o. elim o [ None ↦ s | Some given ↦ acted_on facts (rest given) (act_done act given (rest given) s) ]) (ap (λ t. elim t [ true ↦ gives_in facts (work_of s) act | false ↦ None ]) owed)

-- a scan is owed
pub waits-scans : (facts : Facts) (command : Command) (rest : List Command) (s : Session) → is_empty (scans_owed_in facts (work_of s)) ≡ false → settled facts (command ∷ rest) s ≡ s
waits-scans facts command rest s owed = settled-waits facts command rest s
    (elim (is_empty (owed_first_in facts command (work_of s) ++ owed_after facts.due)) as (λ t. elim t [ true ↦ acted_on facts s.left s | false ↦ s ] ≡ s) [ true ↦ acted_on-owed facts s.left s owed | false ↦ refl ])
    (ap (λ t. is_settled (outcome_of s.left) && is_none (end_left_in facts command (work_of s)) && t)
    (is_empty-after (owed_first_in facts command (work_of s) ++ owed_after facts.due) (map OwesScan (scans_owed_in facts (work_of s))) (is_empty-map OwesScan (scans_owed_in facts (work_of s)) ∙ owed))
    ∙ and-false (is_settled (outcome_of s.left) && is_none (end_left_in facts command (work_of s))))

first_of_each : (facts : Facts) (opened : List Opening) (scan : Purpose) (more : List Purpose) → builds_missing facts.kept opened ≡ scan ∷ more
    → list_any (same_scan scan) (flat_map (λ o. take 1 (missing facts.kept (build_scans o.kind o.rel))) opened) ≡ true
first_of_each facts [] scan more is = absurd (cc)
first_of_each facts (o ∷ opened) scan more is = by_lacking (missing facts.kept (build_scans o.kind o.rel)) is (first_of_each facts opened scan more)
  where
    rest : List Purpose
    rest = flat_map (λ p. take 1 (missing facts.kept (build_scans p.kind p.rel))) opened

    by_lacking : (lacking : List Purpose) → lacking ++ builds_missing facts.kept opened ≡ scan ∷ more → (builds_missing facts.kept opened ≡ scan ∷ more → list_any (same_scan scan) rest ≡ true) → list_any (same_scan scan) (take 1 lacking ++ rest) ≡ true
    by_lacking [] at others = others at
    by_lacking (x ∷ xs) at others = let same : scan ≡ x = cc in ap (λ t. t || list_any (same_scan scan) rest) (subst (λ y. same_scan scan y ≡ true) same (same_scan-itself scan))

-- the first scan that is owed for a descriptor may be made
pub next_build : (facts : Facts) (s : Session) (scan : Purpose) (more : List Purpose) → is_settled (outcome_of s.left) ≡ false → builds_missing facts.kept s.opened ≡ scan ∷ more → is_next_in scan facts (work_of s) ≡ true
next_build facts s scan more unsettled is = by_outcome (outcome_of s.left) unsettled
  where
    builds : List Purpose
    builds = flat_map (λ o. take 1 (missing facts.kept (build_scans o.kind o.rel))) s.opened

    acts : List Purpose
    acts = act_next facts s.left

    by_outcome : (o : Outcome) → is_settled o ≡ false → list_any (same_scan scan) (elim o [ Badly ↦ [] | other ↦ builds ++ acts ]) ≡ true
    by_outcome Unsettled un = list_any-append (same_scan scan) builds acts ∙ ap (λ t. t || list_any (same_scan scan) acts) (first_of_each facts s.opened scan more is)
    by_outcome Well un = absurd (cc)
    by_outcome Badly un = absurd (cc)
