-- What a command has to answer by the history is what its backend tells by its last scans and its locks.
use Rattle.std.proofs.Common.{◌≡◌, Contains, ◌≤◌, ◌∙◌, ℕ, true, false, Option, Some, None, List, [], ◌∷◌, refl, sym, ap, subst, length, ◌⊎◌, inl, inr}
use Rattle.std.proofs.lemmas.List.{append-nil, take_all}
use Rattle.command_answers.specs.Answers.{answer_text}
use Rattle.command_answers.specs.declared.answer.Answer.TheVariants as answers
use Rattle.base_types.specs.declared.scan.Purpose.TheVariants as scans
use Rattle.txn_blocks.specs.Blocks.{refused_by}
use Rattle.ddl_effect.specs.Commands.{plan_of}
use Rattle.ddl_effect.specs.Effects.{effect_at}
use Rattle.ddl_effect.specs.Stages.{told_of}
use Rattle.ddl_effect.specs.declared.told.Told.TheVariants as tells
use Rattle.ddl_effect.specs.Plans.{Plan, Done, Fails, Absent, Do}
use Rattle.history_model.specs.Lives.{last_event_of}
use Rattle.history_model.specs.Read.{place_read, rows_read, is_usable}
use Rattle.history_model.specs.Versions.{answer_of}
use Rattle.history_model.specs.Transactions.{has_written}
use Rattle.std.proofs.lemmas.List.Elements.{All-contains, All-from_recursion}
use Rattle.history_model.specs.OfKind.{IsOfKind}
use Rattle.cacheless.specs.Types.{Oid, Command, CommandError, Answer, Told, Opening, OpenRelation, Scenario, Entry, Line}
use Rattle.cacheless.specs.ActsDone.{made_in}
use Rattle.cacheless.specs.Facts.{facts_of}
use Rattle.cacheless.specs.Lines.{name_in, answer_well, answer_by, effect_judged, answer_judged, line_of}
use Rattle.cacheless.specs.OnCourse.{OnItsWay, HasWritten, is_over, Way, Begun, Wrote, Over, FollowsPlan, TellsAlone, TellsStill, AreOfKinds}
use Rattle.cacheless.proofs.Allowed.KindsHeld.{IsKind}
use Rattle.cacheless.specs.Work.{work_of}
use Rattle.cacheless.specs.Owed.{builds_missing, owed_in}
use Rattle.cacheless.proofs.Allowed.Releases.{OwesNoScan, owes_no_scan}
use Rattle.cacheless.specs.Session.{Session, held_before, number_of, outcome_of, is_settled, Well, Badly}
use Rattle.cacheless.specs.Settled.{found_by, finished_as}
use Rattle.cacheless.specs.Told.{tells_of_scans, told_well, told_left, told_read}
use Rattle.cacheless.proofs.Plans.ActOrder.{follows_order, goes_by_relation}
use Rattle.cacheless.proofs.Plans.UnderLocks.{TellsOpen}
use Rattle.cacheless.proofs.Plans.ToldHeld.{tells_held, ends_told}
use Rattle.cacheless.proofs.Plans.EffectAlong.{effect_along}
use Rattle.cacheless.proofs.Allowed.SettledCourse.{HasSession}
use Rattle.cacheless.proofs.Answers.ReadPlaces.{read_at_place}
use Rattle.cacheless.proofs.Answers.ToldFields.{none_usable, one_owes_none, field_told, fields_told}

-- a command that has come out, before anything of it is taken back or released; if it came out well and tells of scans, its backend may rely on all scans for the descriptors that it has opened, and on that of the oid of which it tells
pub record HasComeOut (scenario : Scenario) (seen : List Entry) (b : ℕ) (s : Session) (command : Command) : Type 0 where
  pub has : HasSession scenario seen b s.locks
  pub follows : FollowsPlan seen b s command
  pub out : is_settled (outcome_of s.left) ≡ true
  pub stands : TellsStill seen b s command
  pub kinds : AreOfKinds seen s.opens s.opened
  pub builds : outcome_of s.left ≡ Well → tells_of_scans (told_of s.left) ≡ true → builds_missing (facts_of seen b).kept s.opened ≡ []
  pub named : (oid : Oid) → s.left ≡ Done (tells.Regclass oid) → is_usable seen b (scans.RelOid oid) ≡ true

-- by what it is on its way to, or has written
pub data Stays (seen : List Entry) (b : ℕ) (s : Session) (command : Command) : Type 0 where
  Unwritten : (way : OnItsWay seen b s command) (admitted : refused_by s.blocks command ≡ None) → Stays seen b s command
  Written : (wrote : HasWritten seen b s command) → Stays seen b s command
  Plain : (alone : TellsAlone seen b s command) → Stays seen b s command

pub stays : (scenario : Scenario) (seen : List Entry) (b : ℕ) (s : Session) (command : Command) → HasComeOut scenario seen b s command → s.refused ≡ None → Stays seen b s command
stays scenario seen b s command come none = by_side come.stands
  where
    by_way : is_over (last_event_of seen b) s ≡ false → Way seen b s command → Stays seen b s command
    by_way stands (Begun way) = Unwritten way (come.follows.admitted none)
    by_way stands (Wrote w) = Written w
    by_way stands (Over w) = absurd (let both : true ≡ false = sym w.over ∙ stands in cc both)

    by_side : TellsStill seen b s command → Stays seen b s command
    by_side (inl stands) = by_way stands (come.follows.way none)
    by_side (inr alone) = Plain alone

-- what rests on no scan tells of no relation
alone_open : (opened : List Opening) (told : Told) → tells_of_scans told ≡ false → TellsOpen opened told
alone_open opened tells.Ok alone = tt
alone_open opened tells.Commit alone = tt
alone_open opened told alone = absurd (cc alone)

-- what is told of a command that came out well, once it is on its way
tells_open : (seen : List Entry) (b : ℕ) (s : Session) (command : Command) (told : Told) → OnItsWay seen b s command → refused_by s.blocks command ≡ None → s.left ≡ Done told → TellsOpen s.opened told
tells_open seen b s command told way admitted done = subst (λ l. TellsOpen l told) (sym way.opened)
    (ends_told (held_before s) way.gave (plan_of s.opens command) told (follows_order s.opens command) (tells_held s.blocks s.opens command admitted) (sym way.plan ∙ done))

-- of a relation only what is open is told, and a field only where the relation has it
pub stays_open : (seen : List Entry) (b : ℕ) (s : Session) (command : Command) (told : Told) → Stays seen b s command → s.left ≡ Done told → TellsOpen s.opened told
stays_open seen b s command told (Unwritten way admitted) done = tells_open seen b s command told way admitted done
stays_open seen b s command told (Plain alone) done = alone_open s.opened told (let same : alone.told ≡ told = (let both : Done alone.told ≡ Done told = sym alone.left ∙ done in cc both) in subst (λ t. tells_of_scans t ≡ false) same alone.alone)
stays_open seen b s command told (Written wrote) done = subst (TellsOpen s.opened) (ap told_of (sym wrote.plan ∙ done)) tt

-- what is told of a command that came out well by the last scans of its backend
abbrev well_read : List Entry → ℕ → Session → Told → Answer
well_read seen b s told = told_well (rows_read seen b) (place_read seen b) s.locks s.blocks.block told

-- a descriptor that is held is of its kind
told_kind : (seen : List Entry) (opens : List OpenRelation) (held : List Opening) (o : Opening) → AreOfKinds seen opens held → Contains held o → IsOfKind seen o.rel o.kind
told_kind seen opens held o kinds has = All-contains (IsKind seen) held o (All-from_recursion (IsKind seen) held kinds.opened) has

-- what a command answers that came out well
well_told : (scenario : Scenario) (seen : List Entry) (b : ℕ) (s : Session) (command : Command) (told : Told) → HasComeOut scenario seen b s command → s.left ≡ Done told → TellsOpen s.opened told → answer_well scenario seen b (finished_as s) told ≡ well_read seen b s told
well_told scenario seen b s command (tells.Relation rel kind) come done opened =
    ap (answers.Shown kind rel) (fields_told scenario seen b s.locks (record { rel = rel; kind = kind }) (record { has = come.has; kind = told_kind seen s.opens s.opened (record { rel = rel; kind = kind }) come.kinds opened; builds = one_owes_none (facts_of seen b) s.opened (record { rel = rel; kind = kind }) opened (come.builds (ap outcome_of done) (ap (λ p. tells_of_scans (told_of p)) done)) }))
well_told scenario seen b s command (tells.Field rel kind field) come done opened =
    ap answers.One (field_told scenario seen b s.locks (record { rel = rel; kind = kind }) field (record { has = come.has; kind = told_kind seen s.opens s.opened (record { rel = rel; kind = kind }) come.kinds opened.0; builds = one_owes_none (facts_of seen b) s.opened (record { rel = rel; kind = kind }) opened.0 (come.builds (ap outcome_of done) (ap (λ p. tells_of_scans (told_of p)) done)) }) opened.1)
well_told scenario seen b s command (tells.Regclass oid) come done opened = ap (λ given. answers.Regclass oid (name_in given) (place_read seen b (scans.RelOid oid))) (read_at_place seen b (scans.RelOid oid))
well_told scenario seen b s command told come done opened = refl

-- by the plan that is left
left_told : (scenario : Scenario) (seen : List Entry) (b : ℕ) (s : Session) (command : Command) (p : Plan) → is_settled (outcome_of p) ≡ true → ((told : Told) → p ≡ Done told → answer_well scenario seen b (finished_as s) told ≡ well_read seen b s told)
    → answer_by scenario seen b (finished_as s) command (effect_at (answer_of seen b) [] p) ≡ told_left (rows_read seen b) (place_read seen b) s.locks s.blocks.block command p
left_told scenario seen b s command (Done told) out well = well told refl
left_told scenario seen b s command (Fails error) out well = refl
left_told scenario seen b s command (Absent name) out well = refl
left_told scenario seen b s command (Do act rest) out well = absurd (cc)

-- what a command comes to is what is left of it
pub left_effect : (seen : List Entry) (b : ℕ) (s : Session) (command : Command) → Stays seen b s command → effect_judged seen b (finished_as s) (has_written seen b (number_of s)) command ≡ effect_at (answer_of seen b) [] s.left
left_effect seen b s command (Written wrote) = ap (λ t. effect_judged seen b (finished_as s) t command) wrote.written ∙ sym (ap (effect_at (answer_of seen b) []) wrote.plan)
left_effect seen b s command (Plain alone) = ap (λ t. effect_judged seen b (finished_as s) t command) alone.unwritten ∙ ap (effect_at (answer_of seen b) s.found) alone.plan ∙ sym (ap (effect_at (answer_of seen b) []) alone.left)
left_effect seen b s command (Unwritten way admitted) =
    ap (λ t. effect_judged seen b (finished_as s) t command) way.unwritten
    ∙ ap (λ l. effect_at (answer_of seen b) l (plan_of s.opens command)) (way.found ∙ sym (append-nil (made_in found_by way.gave (plan_of s.opens command))))
    ∙ effect_along (answer_of seen b) (plan_of s.opens command) way.gave [] (goes_by_relation s.opens command) way.holds.still
    ∙ ap (effect_at (answer_of seen b) []) (sym way.plan)

-- what a command answers that no error of an entry has ended
stays_told : (scenario : Scenario) (seen : List Entry) (b : ℕ) (s : Session) (command : Command) → HasComeOut scenario seen b s command → Stays seen b s command → answer_judged scenario seen b (number_of s) (finished_as s) command None ≡ told_read seen b command s
stays_told scenario seen b s command come stays =
    ap (answer_by scenario seen b (finished_as s) command) (left_effect seen b s command stays)
    ∙ left_told scenario seen b s command s.left come.out (λ told done. well_told scenario seen b s command told come done (stays_open seen b s command told stays done))

-- what a command has to answer that has come out, at the entry where it is judged, is what its backend tells by its last scans and its locks
pub answer_told : (scenario : Scenario) (seen : List Entry) (b : ℕ) (s : Session) (command : Command) → HasComeOut scenario seen b s command → answer_judged scenario seen b (number_of s) (finished_as s) command s.refused ≡ told_read seen b command s
answer_told scenario seen b s command come = by_refused s.refused refl
  where
    by_refused : (o : Option CommandError) → s.refused ≡ o → answer_judged scenario seen b (number_of s) (finished_as s) command s.refused ≡ told_read seen b command s
    by_refused (Some error) is = ap (answer_judged scenario seen b (number_of s) (finished_as s) command) is ∙ sym (ap (told_left (rows_read seen b) (place_read seen b) s.locks s.blocks.block command) (come.follows.refused error is))
    by_refused None is = ap (answer_judged scenario seen b (number_of s) (finished_as s) command) is ∙ stays_told scenario seen b s command come (stays scenario seen b s command come is)

-- and so is its line, which is judged there
pub line_told : (scenario : Scenario) (seen : List Entry) (b : ℕ) (s : Session) (command : Command) → HasComeOut scenario seen b s command → length seen ≤ s.judged
    → line_of scenario seen b (number_of s) (finished_as s) command ≡ record { backend = b; command = number_of s; text = answer_text (told_read seen b command s) }
line_told scenario seen b s command come judged = ap (λ h. line_by h) (take_all s.judged seen judged) ∙ ap (λ answer. record { backend = b; command = number_of s; text = answer_text answer }) (answer_told scenario seen b s command come)
  where
    line_by : List Entry → Line
    line_by h = record { backend = b; command = number_of s; text = answer_text (answer_judged scenario h b (number_of s) (finished_as s) command s.refused) }

-- a command that came out of itself and owes nothing or tells of no scan, or has failed, has come out so, where its last entry takes nothing back and is no release
pub has_come_out : (scenario : Scenario) (seen : List Entry) (b : ℕ) (s : Session) (command : Command) → HasSession scenario seen b s.locks → FollowsPlan seen b s command → is_settled (outcome_of s.left) ≡ true → TellsStill seen b s command → AreOfKinds seen s.opens s.opened
    → (outcome_of s.left ≡ Badly) ⊎ (tells_of_scans (told_of s.left) ≡ false) ⊎ (owed_in (facts_of seen b) command (work_of s) ≡ []) → HasComeOut scenario seen b s command
has_come_out scenario seen b s command has follows out stands kinds owes = record {
  has = has;
  follows = follows;
  out = out;
  stands = stands;
  kinds = kinds;
  builds = λ well tells. (by_side owes well tells).0;
  named = λ oid is. (none_usable seen b (scans.RelOid oid ∷ []) ((by_side owes (ap outcome_of is) (ap (λ p. tells_of_scans (told_of p)) is)).1 (tells.Regclass oid) is)).0;
}
  where
    by_side : (outcome_of s.left ≡ Badly) ⊎ (tells_of_scans (told_of s.left) ≡ false) ⊎ (owed_in (facts_of seen b) command (work_of s) ≡ []) → outcome_of s.left ≡ Well → tells_of_scans (told_of s.left) ≡ true → OwesNoScan (facts_of seen b) s
    by_side (inl failed) well tells = absurd (let both : Well ≡ Badly = sym well ∙ failed in cc both)
    by_side (inr (inl plain)) well tells = absurd (let both : true ≡ false = sym tells ∙ plain in cc both)
    by_side (inr (inr none)) well tells = owes_no_scan (facts_of seen b) command s well none
