-- What a backend does next.
use Rattle.std.proofs.Common.{◌≡◌, ◌∙◌, ◌⊎◌, inl, inr, ℕ, Bool, true, false, not, ◌&&◌, ◌||◌, Option, Some, None, List, [], ◌∷◌, ◌++◌, refl, sym, ap, subst, append_assoc, is_some, slice_get, length, take, min, ◌==◌}
use Rattle.std.specs.List.{find, list_any}
use Rattle.std.specs.Option.{option_map, option_map_or, option_and_then}
use Rattle.std.proofs.lemmas.Bool.{both_ways, and_parts, eq-eqb}
use Rattle.std.proofs.lemmas.List.{append-nil, length-take}
use Rattle.base_types.specs.Scans.{same_scan, build_scans}
use Rattle.base_types.proofs.SameScan.{same_scan-itself}
use Rattle.txn_blocks.specs.Blocks.{refused_by}
use Rattle.ddl_effect.specs.Commands.{plan_of, commands_of}
use Rattle.ddl_effect.specs.Plans.{Plan, Act, Done, Fails, Absent, Do, Lookup, Open, Search, Read, Lock, Write}
use Rattle.ddl_effect.specs.Stages.{plan_at, want_of}
use Rattle.ddl_effect.specs.declared.want.Want.TheVariants as wants
use Rattle.event_kinds.specs.declared.entry.Event.TheVariants as events
use Rattle.history_model.specs.Transactions.{is_visible}
use Rattle.txn_blocks.specs.declared.transaction.RunningTransaction.{RunningTransaction as Running}
use Rattle.history_model.specs.Changing.{is_empty}
use Rattle.cacheless.specs.ActsDone.{reached, made_in, opening_by}
use Rattle.cacheless.specs.Ends.{End, Ends, Commits, TakesBack, next_of_commit, next_of_taking_back, next_of_end, end_of_all, end_left_in}
use Rattle.cacheless.specs.Rule.{same_end, comes_next, may_come}
use Rattle.cacheless.proofs.Allowed.EndsReleased.{PublishesNow, comes_now}
use Rattle.cacheless.proofs.CommandEnds.{publishes_next, unsent_same}
use Rattle.cacheless.proofs.Resting.{over_is}
use Rattle.cacheless.proofs.Same.{free_is, next_is}
use Rattle.ddl_effect.specs.declared.want.Want.{Want}
use Rattle.cacheless.specs.May.{may_end_at, may_play_at, may_last_at, owes_no_end, has_failed, is_first_missing, is_next_of_act, lacks_opened, lacks_any, owes_nothing}
use Rattle.cacheless.specs.OnCourse.{Way, Begun, Wrote, Over, FollowsPlan, IsOnCourse, AllOnCourse}
use Rattle.cacheless.specs.OpenedReads.{ReadsOpened}
use Rattle.cacheless.specs.Settled.{opened_by}
use Rattle.cacheless.specs.Session.{held_before, outcome_of, is_settled, plan_admitted}
use Rattle.cacheless.specs.Silently.{is_ends, IsAtRest}
use Rattle.cacheless.specs.State.{facts_at, work_at, lists_at, has_write_since, unsent_at, kept_at, is_kept, is_absent, is_quiet, act_missing, is_out, end_at, owed_after, owed_first}
use Rattle.cacheless.specs.Suspects.{lacks}
use Rattle.cacheless.proofs.Answers.OpenedReads.{reads_out, reads_first, reads_after}
use Rattle.cacheless.proofs.Tests.{both_true, not_both, empty_is}
use Rattle.backend_core.specs.Types.{Event, Message, Row, Purpose, Command, CommandError, Opening, Scenario, Entry, Next, Frame, Progress, Backend}
use Rattle.backend_core.specs.declared.next.Next.TheVariants as nexts
use Rattle.backend_core.specs.Agrees.{command_at, AwaitsEntry}
use Rattle.backend_core.specs.Steps.{IsWhole, WaitsForNone, IsFree, IsScanNext, IsLookNext, IsChoiceSound, Says, IsAcceptNext, IsEndNext, IsNextOf}
use Rattle.backend_core.specs.Frames.{top, IsRebuilt}
use Rattle.backend_core.specs.Choice.{look_or_scan, next_on_top, as_next, next_by_end, next_after_last, accepts_again}
use Rattle.backend_core.specs.Words.{is_looked_for}
use Rattle.backend_core.proofs.Fitting.Rebuilding.{kept_lacks}
use Rattle.backend_core.proofs.Own.{waiting, waiting_course}

-- an entry of an end is itself
same_itself : (event : Event) (next : Next) → as_next event ≡ Some next → same_end event event ≡ true
same_itself (events.Visible xid) next is = eq-eqb xid.0 xid.0 refl
same_itself (events.Publish count) next is = eq-eqb count count refl
same_itself (events.Gone from) next is = eq-eqb from from refl
same_itself (events.Release from) next is = eq-eqb from from refl
same_itself event next is = absurd (cc is)

-- and its command may make it, where nothing has to come before it
may_end_now : (oid : ℕ) (command : Command) (p : Progress) (event : Event) (next : Next) → as_next event ≡ Some next → may_end_at command p event ≡ true → may_play_at oid command p event ≡ true
may_end_now oid command p (events.Visible xid) next is may = may
may_end_now oid command p (events.Publish count) next is may = may
may_end_now oid command p (events.Gone from) next is may = may
may_end_now oid command p (events.Release from) next is may = may
may_end_now oid command p event next is may = absurd (cc is)

-- where it comes next of an end, what it is named for comes next
named_next : (s : Backend) (end : End) (event : Event) (next : Next) → next_of_end (facts_at s.progress) end ≡ Some event → as_next event ≡ Some next → IsEndNext s event → IsNextOf s next
named_next s end (events.Visible xid) next comes is ends = let one : nexts.Commit xid ≡ next = cc is in subst (IsNextOf s) one ends
named_next s end (events.Gone from) next comes is ends = let one : nexts.TakeBack from ≡ next = cc is in subst (IsNextOf s) one ends
named_next s end (events.Release from) next comes is ends = let one : nexts.Release from ≡ next = cc is in subst (IsNextOf s) one ends
named_next s end (events.Publish count) next comes is ends = let one : nexts.Publish ≡ next = cc is in
    let now : PublishesNow (facts_at s.progress) end count = comes_now (facts_at s.progress) end (events.Publish count) comes in
    subst (IsNextOf s) one (subst (λ n. IsEndNext s (events.Publish n)) (now.most ∙ ap (λ l. min 64 (length l)) (unsent_same s.progress.running (lists_at s.progress) now.visible) ∙ sym (length-take 64 (unsent_at s.progress))) ends)
named_next s end event next comes is ends = absurd (cc is)

-- a command that owes no first look, and whose last entry asks for nothing
pub free_of : (p : Progress) (command : Command) (owes : Bool) → slice_get p.commands p.finished ≡ Some command → owed_after p.due ≡ [] → not owes ≡ is_empty (owed_first p command) → owes ≡ false → IsFree p command
free_of p command owes at due is none = record { at = at; due = due; first = empty_is (owed_first p command) (sym is ∙ ap not none) }

-- in a command that has come out and owes nothing, at rest
pub out_owes : (p : Progress) (command : Command) → IsFree p command → lacks_any p ≡ false → owes_nothing command p ≡ true
out_owes p command free lacks = sym (free_is command p) ∙ (λ i. is_empty (free.first i) && is_empty (free.due i) && not (lacks i))

-- its end is still to be made
end_is : (p : Progress) (command : Command) (end : End) → IsAtRest p → IsFree p command → is_out p ≡ true → lacks_any p ≡ false → end_at p command ≡ end → (p.ended ≡ false) × (is_ends end ≡ false)
end_is p command end still free out lacks is = by_tests p.ended (is_ends end) refl refl unfinished
  where
    unfinished : (is_out p && (p.ended || is_ends end) && owes_nothing command p) ≡ false
    unfinished = ap (λ e. is_out p && (p.ended || is_ends e) && owes_nothing command p) (sym is) ∙ ap (λ t. is_out p && t && owes_nothing command p) (sym (over_is (facts_at p) command (work_at p))) ∙ (still command free.at).1

    by_tests : (x y : Bool) → p.ended ≡ x → is_ends end ≡ y → (is_out p && (p.ended || is_ends end) && owes_nothing command p) ≡ false → (p.ended ≡ false) × (is_ends end ≡ false)
    by_tests false false a b none = (a, b)
    by_tests true y a b none = absurd (not_both _ (both_true (is_out p && (p.ended || is_ends end)) (owes_nothing command p) (both_true (is_out p) (p.ended || is_ends end) out (ap (λ t. t || is_ends end) a)) (out_owes p command free lacks)) none)
    by_tests false true a b none = absurd (not_both _ (both_true (is_out p && (p.ended || is_ends end)) (owes_nothing command p) (both_true (is_out p) (p.ended || is_ends end) out (λ i. a i || b i)) (out_owes p command free lacks)) none)

-- a command whose plan is carried out doesn't say that there is no relation
pub done_accepted : (s : Backend) (scan : Option Purpose) → want_of (plan_at s.progress.opens s.progress.exec) ≡ wants.Done scan → accepts_again s ≡ false
done_accepted s scan is = by_plan (plan_at s.progress.opens s.progress.exec) is
  where
    by_plan : (p : Plan) → want_of p ≡ wants.Done scan → (is_absent p && is_quiet s.progress.due && (not s.looked || s.told)) ≡ false
    by_plan (Absent name) done = absurd (cc done)
    by_plan p done = refl

-- where `accepts_again` holds the next step is a look: messages came, or it hasn't looked
pub once_more : (s : Backend) (command : Command) → IsFree s.progress command → accepts_again s ≡ true → IsAcceptNext s
once_more s command free again = record { command = command; free = free; finds = Says says.0 says.1; unlooked = by_noted s.looked s.told parts.1 }
  where
    parts : ((is_absent (plan_at s.progress.opens s.progress.exec) && is_quiet s.progress.due) ≡ true) × ((not s.looked || s.told) ≡ true)
    parts = and_parts (is_absent (plan_at s.progress.opens s.progress.exec) && is_quiet s.progress.due) (not s.looked || s.told) again

    says : (is_absent (plan_at s.progress.opens s.progress.exec) ≡ true) × (is_quiet s.progress.due ≡ true)
    says = and_parts (is_absent (plan_at s.progress.opens s.progress.exec)) (is_quiet s.progress.due) parts.0

    by_noted : (looked told : Bool) → (not looked || told) ≡ true → (looked ≡ false) ⊎ (told ≡ true)
    by_noted false told is = inl refl
    by_noted true told is = inr is

-- so the next entry of its end comes next
ends_now : (s : Backend) (command : Command) (next : Next) (end : End) (event : Event) → IsFree s.progress command → s.frames ≡ [] → accepts_again s ≡ false → s.progress.ended ≡ false → end_at s.progress command ≡ end → owes_no_end command s.progress end ≡ true
    → next_of_end (facts_at s.progress) end ≡ Some event → as_next event ≡ Some next → IsNextOf s next × (next_by_end (facts_at s.progress) command (work_at s.progress) ≡ Some next)
ends_now s command next end event free bare accepted going is rests comes named = (
  named_next s end event next comes named (record {
    free = λ c at. subst (λ x. IsFree s.progress x × (accepts_again s ≡ false)) (let both : Some command ≡ Some c = sym free.at ∙ at in cc both) (free, accepted);
    may = λ oid. ap (λ o. may_come oid (facts_at s.progress) o (work_at s.progress) event) free.at ∙ may_end_now oid command s.progress event next named (both_true (owes_no_end command s.progress (end_at s.progress command)) (comes_next (end_left_in (facts_at s.progress) command (work_at s.progress)) event)
        (ap (owes_no_end command s.progress) is ∙ rests) (ap (λ o. comes_next o event) left ∙ same_itself event next named));
    bare = bare;
  }),
  ap (option_and_then as_next) left ∙ named,
)
  where
    left : end_left_in (facts_at s.progress) command (work_at s.progress) ≡ Some event
    left = ap (λ t. elim t as (λ x. Option Event) [ true ↦ None | false ↦ next_of_end (facts_at s.progress) (end_at s.progress command) ]) going ∙ ap (next_of_end (facts_at s.progress)) is ∙ comes

pub commits_next : (s : Backend) (command : Command) (next : Next) (first : ℕ) → IsAtRest s.progress → IsFree s.progress command → is_out s.progress ≡ true → WaitsForNone s command → s.frames ≡ [] → accepts_again s ≡ false → end_at s.progress command ≡ Commits first → as_next (next_of_commit (facts_at s.progress) first) ≡ Some next
    → IsNextOf s next × (next_by_end (facts_at s.progress) command (work_at s.progress) ≡ Some next)
commits_next s command next first still free out (inl lacks) bare accepted end comes = ends_now s command next (Commits first) (next_of_commit (facts_at s.progress) first) free bare accepted
    (end_is s.progress command (Commits first) still free out lacks end).0 end (out_owes s.progress command free lacks) refl comes
commits_next s command next first still free out (inr gone) bare accepted end comes = absurd (let no : Commits first ≡ TakesBack gone.from = sym end ∙ gone.end in cc no)

pub takes_back_next : (s : Backend) (command : Command) (next : Next) (from : ℕ) → IsAtRest s.progress → IsFree s.progress command → is_out s.progress ≡ true → WaitsForNone s command → s.frames ≡ [] → accepts_again s ≡ false → end_at s.progress command ≡ TakesBack from → as_next (next_of_taking_back (facts_at s.progress) from) ≡ Some next
    → IsNextOf s next × (next_by_end (facts_at s.progress) command (work_at s.progress) ≡ Some next)
takes_back_next s command next from still free out ready bare accepted end comes = ends_now s command next (TakesBack from) (next_of_taking_back (facts_at s.progress) from) free bare accepted (by_ready ready) end (ap is_empty free.due) refl comes
  where
    by_ready : WaitsForNone s command → s.progress.ended ≡ false
    by_ready (inl lacks) = (end_is s.progress command (TakesBack from) still free out lacks end).0
    by_ready (inr gone) = gone.going

-- after the last command what still runs is taken back
pub after_last : (s : Backend) (t : Running) (next : Next) → IsChoiceSound s → command_at s ≡ None → s.progress.running ≡ Some t → as_next (next_of_taking_back (facts_at s.progress) t.first) ≡ Some next → IsNextOf s next × (next_after_last (facts_at s.progress) ≡ Some next)
after_last s t next sound past runs comes = (
  named_next s (TakesBack t.first) event next refl comes (record {
    free = λ command at. absurd (let no : None ≡ Some command = sym past ∙ at in cc no);
    may = λ oid. ap (λ o. may_come oid (facts_at s.progress) o (work_at s.progress) event) past ∙ by_written (has_write_since t.first s.progress) (ap (λ o. comes_next o event) left ∙ same_itself event next comes);
    bare = sound.over past;
  }),
  ap (λ o. elim o as (λ x. Option Next) [ Some e ↦ as_next e | None ↦ Some nexts.Leave ]) left ∙ comes,
)
  where
    event : Event
    event = next_of_taking_back (facts_at s.progress) t.first

    left : next_of_end (facts_at s.progress) (end_of_all (facts_at s.progress)) ≡ Some event
    left = ap (λ r. next_of_end (facts_at s.progress) (option_map_or (λ (x : Running). TakesBack x.first) r Ends)) runs

    by_written : (w : Bool) → let e : Event = elim w as (λ x. Event) [ true ↦ events.Gone t.first | false ↦ events.Release t.first ] in comes_next (next_of_end (facts_at s.progress) (end_of_all (facts_at s.progress))) e ≡ true → may_last_at s.progress e ≡ true
    by_written true is = both_true (is_empty (owed_after s.progress.due)) _ (ap is_empty (sound.past past)) is
    by_written false is = both_true (is_empty (owed_after s.progress.due)) _ (ap is_empty (sound.past past)) is

-- a publish comes next of a commit that is visible, where a message is unsent
pub publish_comes : (p : Progress) (first : ℕ) (unsent : List Message) → has_write_since first p ≡ true → is_visible p.running ≡ true → unsent ≡ take 64 (unsent_at p) → (length unsent == 0) ≡ false → as_next (next_of_commit (facts_at p) first) ≡ Some nexts.Publish
publish_comes p first unsent has shown are some = ap as_next (sym (publishes_next p first unsent has shown are (λ none. both_ways _ some (eq-eqb (length unsent) 0 none))))

-- a backend at rest has not come to an end without an entry
pub never_ends : (s : Backend) (command : Command) → IsAtRest s.progress → IsFree s.progress command → is_out s.progress ≡ true → WaitsForNone s command → end_at s.progress command ≡ Ends → ⊥
never_ends s command still free out (inl lacks) end = both_ways _ (end_is s.progress command Ends still free out lacks end).1 refl
never_ends s command still free out (inr gone) end = let no : Ends ≡ TakesBack gone.from = sym end ∙ gone.end in cc no

-- a plan that wants something isn't that of a command whose writes were taken back
abbrev pub wants_nothing : Want → Bool
wants_nothing (wants.Done None) = true
wants_nothing want = false

pub whole_of : (s : Backend) (command : Command) (want : Want) → IsWhole s command → want_of (plan_at s.progress.opens s.progress.exec) ≡ want → wants_nothing want ≡ false → lacks_opened (kept_at s.progress) s.progress.opened ≡ false
whole_of s command want (inl whole) at other = whole
whole_of s command want (inr gone) at other = absurd (both_ways _ other (ap wants_nothing (sym at ∙ gone.wants)))

-- a command that has failed lacks nothing
pub failed_lacks : (s : Backend) (command : Command) → has_failed s.progress ≡ true → WaitsForNone s command
failed_lacks s command failed = inl (ap (λ t. not t && (lacks_opened (kept_at s.progress) s.progress.opened || not (is_empty (act_missing s.progress (plan_at s.progress.opens s.progress.exec))))) failed)

-- the plans of commands read what they have opened, however far they are
reads_reached : (gave : List (List Row)) (opened : List Opening) (plan : Plan) → ReadsOpened opened plan → ReadsOpened (opened ++ made_in opening_by gave plan) (reached gave plan)
reads_reached [] opened plan reads = subst (λ o. ReadsOpened o plan) (sym (append-nil opened)) reads
reads_reached (given ∷ gave) opened plan reads = by_plan (reads_reached gave) plan reads
  where
    Further : Type 0
    Further = (o : List Opening) (p : Plan) → ReadsOpened o p → ReadsOpened (o ++ made_in opening_by gave p) (reached gave p)

    on : Further → (act : Act) (rest : List Row → Plan) → ReadsOpened opened (Do act rest) → ReadsOpened (opened ++ (opened_by act ++ made_in opening_by gave (rest given))) (reached gave (rest given))
    on further act rest has = subst (λ o. ReadsOpened o (reached gave (rest given))) (append_assoc opened (opened_by act) (made_in opening_by gave (rest given)))
        (further (opened ++ opened_by act) (rest given) (reads_after opened act rest given (opened ++ opened_by act) (rest given) has refl refl))

    by_plan : Further → (p : Plan) → ReadsOpened opened p → ReadsOpened (opened ++ made_in opening_by (given ∷ gave) p) (reached (given ∷ gave) p)
    by_plan further (Do (Write draft) rest) has = further opened (Do (Write draft) rest) has
    by_plan further (Do (Lookup name mode) rest) has = on further (Lookup name mode) rest has
    by_plan further (Do (Open rel kind) rest) has = on further (Open rel kind) rest has
    by_plan further (Do (Search scan) rest) has = on further (Search scan) rest has
    by_plan further (Do (Read scan) rest) has = on further (Read scan) rest has
    by_plan further (Do (Lock rel mode) rest) has = on further (Lock rel mode) rest has
    by_plan further (Done told) has = further opened (Done told) tt
    by_plan further (Fails error) has = further opened (Fails error) tt
    by_plan further (Absent name) has = further opened (Absent name) tt

pub reads_now : (scenario : Scenario) (seen : List Entry) (s : Backend) → AwaitsEntry scenario seen s → AllOnCourse scenario seen → ReadsOpened s.progress.opened (plan_at s.progress.opens s.progress.exec)
reads_now scenario seen s waits courses = by_command (command_at s) refl
  where
    on : IsOnCourse scenario seen s.progress.id (waiting waits)
    on = waiting_course scenario seen s waits courses

    held : List Opening
    held = held_before (waiting waits)

    first : (command : Command) → refused_by s.progress.blocks command ≡ None → ReadsOpened held (plan_of s.progress.opens command)
    first command admitted = subst (λ e. ReadsOpened held (plan_admitted s.progress.opens e command)) admitted (reads_first held s.progress.blocks s.progress.opens (Some command))

    by_way : (command : Command) → refused_by s.progress.blocks command ≡ None → Way seen s.progress.id (waiting waits) command → ReadsOpened s.progress.opened (plan_at s.progress.opens s.progress.exec)
    by_way command admitted (Begun way) = subst (ReadsOpened s.progress.opened) (sym way.plan) (subst (λ o. ReadsOpened o (reached way.gave (plan_of s.progress.opens command))) (sym way.opened) (reads_reached way.gave held (plan_of s.progress.opens command) (first command admitted)))
    by_way command admitted (Wrote w) = subst (ReadsOpened s.progress.opened) (sym w.plan) tt
    by_way command admitted (Over w) = reads_out s.progress.opened (plan_at s.progress.opens s.progress.exec) w.out

    by_refused : (command : Command) → FollowsPlan seen s.progress.id (waiting waits) command → (o : Option CommandError) → (waiting waits).refused ≡ o → ReadsOpened s.progress.opened (plan_at s.progress.opens s.progress.exec)
    by_refused command follows None is = by_way command (follows.admitted is) (follows.way is)
    by_refused command follows (Some error) is = subst (ReadsOpened s.progress.opened) (sym (follows.refused error is)) tt

    by_command : (o : Option Command) → command_at s ≡ o → ReadsOpened s.progress.opened (plan_at s.progress.opens s.progress.exec)
    by_command None at = reads_out s.progress.opened (plan_at s.progress.opens s.progress.exec) (ap (λ p. is_settled (outcome_of p)) (waits.runs.past at))
    by_command (Some command) at = by_refused command (on.follows command (ap (slice_get (commands_of scenario s.progress.id)) waits.rests.holds.count ∙ ap (λ l. slice_get l s.progress.finished) (sym waits.rests.holds.commands) ∙ at)) (waiting waits).refused refl

-- a scan is lacking where one is found
some_scan : (o : Option Purpose) → is_some o ≡ true → (scan : Purpose) × (o ≡ Some scan)
some_scan None is = absurd (cc is)
some_scan (Some scan) is = (scan, refl)

-- the rebuild on top of a command that hasn't failed
module _ (s : Backend) (command : Command) (f : Frame) (sound : IsChoiceSound s) (free : IsFree s.progress command) (goes : has_failed s.progress ≡ false) (on : top s.frames ≡ Some f) where
  -- its first missing scan comes next
  pub rebuild_next : (scan : Purpose) → find (λ d. not (is_kept (kept_at s.progress) d)) (build_scans f.opening.kind f.opening.rel) ≡ Some scan → IsScanNext s scan true
  rebuild_next scan is = record {
    command = command;
    free = free;
    lacks = λ i. not (goes i) && (lacking i || not (is_empty (act_missing s.progress (plan_at s.progress.opens s.progress.exec))));
    next = sym (next_is scan s.progress) ∙ (λ i. not (goes i) && (first i || is_next_of_act scan (kept_at s.progress) (plan_at s.progress.opens s.progress.exec)));
    turn = ap (λ o. elim o as (λ x. Option Purpose) [ Some g ↦ find (λ d. not (is_kept (kept_at s.progress) d)) (build_scans g.opening.kind g.opening.rel) | None ↦ None ]) on ∙ is;
  }
    where
      built : IsRebuilt (is_kept (kept_at s.progress)) s.progress.opened f
      built = sound.builds f on

      lacking : lacks_opened (kept_at s.progress) s.progress.opened ≡ true
      lacking = kept_lacks s.progress ∙ built.among (lacks (is_kept (kept_at s.progress))) built.lacking

      first : list_any (λ o. is_first_missing scan (kept_at s.progress) o.kind o.rel) s.progress.opened ≡ true
      first = built.among (λ o. is_first_missing scan (kept_at s.progress) o.kind o.rel) (ap (λ o. option_map_or (same_scan scan) o false) is ∙ same_scan-itself scan)

  -- there is one
  lacked : (scan : Purpose) × (find (λ d. not (is_kept (kept_at s.progress) d)) (build_scans f.opening.kind f.opening.rel) ≡ Some scan)
  lacked = some_scan (find (λ d. not (is_kept (kept_at s.progress) d)) (build_scans f.opening.kind f.opening.rel)) (sound.builds f on).lacking

  pub rebuild_some : find (λ d. not (is_kept (kept_at s.progress) d)) (build_scans f.opening.kind f.opening.rel) ≡ None → ⊥
  rebuild_some none = let no_scan : None ≡ Some lacked.0 = sym none ∙ lacked.1 in cc no_scan

  -- and its look, where that wasn't made
  pub rebuild_look : f.looked ≡ false → IsLookNext true s
  rebuild_look unlooked = record { scan = lacked.0; next = rebuild_next lacked.0 lacked.1; unlooked = ap (λ o. option_map_or (λ (g : Frame). g.looked) o false) on ∙ unlooked }

  pub rebuild_scan : f.looked ≡ true → (scan : Purpose) → find (λ d. not (is_kept (kept_at s.progress) d)) (build_scans f.opening.kind f.opening.rel) ≡ Some scan → IsScanNext s scan true × (is_looked_for true s ≡ true)
  rebuild_scan looked scan is = (rebuild_next scan is, ap (λ o. option_map_or (λ (g : Frame). g.looked) o false) on ∙ looked)

  -- just these are chosen
  pub rebuild_look_is : f.looked ≡ false → next_on_top (facts_at s.progress) f ≡ Some (nexts.LookBeforeScan true)
  rebuild_look_is unlooked = λ i. option_map (look_or_scan true (unlooked i)) (lacked.1 i)

  pub rebuild_scan_is : f.looked ≡ true → (scan : Purpose) → find (λ d. not (is_kept (kept_at s.progress) d)) (build_scans f.opening.kind f.opening.rel) ≡ Some scan → next_on_top (facts_at s.progress) f ≡ Some (nexts.Scan scan true)
  rebuild_scan_is looked scan is = λ i. option_map (look_or_scan true (looked i)) (is i)
