-- After an allowed history each backend that hasn't stopped has an allowed next entry.
use Rattle.std.proofs.Common.{◌≡◌, ◌∙◌, ◌&&◌, ℕ, Bool, true, false, Option, Some, None, List, [], ◌∷◌, refl, sym, ap, subst, length, is_none, slice_get}
use Rattle.std.specs.Option.{option_map_or}
use Rattle.std.proofs.lemmas.Bool.{both_ways}
use Rattle.base_types.specs.Scenario.{IsBackend}
use Rattle.event_kinds.specs.declared.entry.Event.TheVariants as events
use Rattle.ddl_effect.specs.Commands.{commands_of}
use Rattle.txn_blocks.specs.declared.transaction.RunningTransaction.{RunningTransaction as Running}
use Rattle.history_model.specs.Changing.{is_empty}
use Rattle.history_model.specs.Drawn.{next_oid}
use Rattle.history_model.specs.Lives.{last_event_of}
use Rattle.history_model.specs.MayFollow.{FollowsGone}
use Rattle.history_model.specs.Transactions.{is_visible}
use Rattle.cacheless.specs.Types.{Scenario, Command, Entry, Event}
use Rattle.cacheless.specs.Work.{work_of}
use Rattle.cacheless.specs.Ends.{End, Ends, Commits, TakesBack, end_of_all, end_in, end_left_in, next_of_commit, next_of_taking_back, next_of_end}
use Rattle.cacheless.specs.Facts.{Facts, due_last, facts_of}
use Rattle.cacheless.specs.Output.{IsAllowed}
use Rattle.cacheless.specs.Owed.{Owes, owed_after, owed_in}
use Rattle.cacheless.specs.Played.{AreSpelled}
use Rattle.cacheless.specs.Plays.{IsEnd, IsLastEnd, MayPlay, MayPlayLast, MayPlayIn, owed_at_end}
use Rattle.cacheless.specs.Schedule.{has_stopped}
use Rattle.cacheless.specs.Session.{Session, outcome_of, is_settled}
use Rattle.cacheless.specs.Sessions.{ends_command, session_of}
use Rattle.cacheless.specs.declared.progress.Due.TheVariants as dues
use Rattle.cacheless.specs.OwnTransaction.{first_at, TransactionFits, end_by, OnTakingBack, RunsFit}
use Rattle.cacheless.proofs.Allowed.ActsNext.{owing_next, unsettled_next, waits}
use Rattle.cacheless.proofs.Allowed.EndsNext.{is_of_end, end_next}
use Rattle.cacheless.proofs.Allowed.EndsReleased.{EndsBy, ComesNow, comes_now}
use Rattle.cacheless.proofs.Allowed.NextEntries.{HasNext, IsFree, start_next, owed_next, stop_next}
use Rattle.cacheless.proofs.Allowed.Patient.{nothing_owed}
use Rattle.cacheless.proofs.Allowed.TransactionsKept.{allowed_transaction}

end_plays : (next : ℕ) (facts : Facts) (command : Command) (s : Session) (event : Event) → ends_command event ≡ true → IsEnd facts command s event → MayPlay next facts command s event
end_plays next facts command s (events.Visible xid) ends is = is
end_plays next facts command s (events.Publish count) ends is = is
end_plays next facts command s (events.Gone from) ends is = is
end_plays next facts command s (events.Release from) ends is = is
end_plays next facts command s event ends is = absurd (cc ends)

-- after the last command nothing is committed
last_plays : (facts : Facts) (s : Session) (event : Event) → ComesNow facts (end_of_all facts) event → IsLastEnd facts event → MayPlayLast facts s event
last_plays facts s (events.Gone from) comes is = is
last_plays facts s (events.Release from) comes is = is
last_plays facts s (events.Visible xid) comes is = absurd (by_own facts.running comes.commit.is)
  where
    by_own : (own : Option Running) → option_map_or (λ t. TakesBack t.first) own Ends ≡ Commits comes.commit.first → ⊥
    by_own None same = cc same
    by_own (Some t) same = cc same
last_plays facts s (events.Publish count) comes is = absurd (by_own facts.running comes.commit.is)
  where
    by_own : (own : Option Running) → option_map_or (λ t. TakesBack t.first) own Ends ≡ Commits comes.commit.first → ⊥
    by_own None same = cc same
    by_own (Some t) same = cc same
last_plays facts s event comes is = absurd comes

-- what has to come before the next entry of an end
end_free : (facts : Facts) (command : Command) (s : Session) → owed_in facts command (work_of s) ≡ [] → owed_at_end facts command s ≡ []
end_free facts command s none = by_end (end_in facts command (work_of s))
  where
    by_end : (end : End) → elim end as (λ x. List Owes) [ TakesBack from ↦ owed_after facts.due | other ↦ owed_in facts command (work_of s) ] ≡ []
    by_end (TakesBack from) = nothing_owed facts command s none
    by_end Ends = none
    by_end (Commits first) = none

back_free : (facts : Facts) (command : Command) (s : Session) (from : ℕ) → end_in facts command (work_of s) ≡ TakesBack from → owed_after facts.due ≡ [] → owed_at_end facts command s ≡ []
back_free facts command s from back none = ap (λ e. elim e as (λ x. List Owes) [ TakesBack n ↦ owed_after facts.due | other ↦ owed_in facts command (work_of s) ]) back ∙ none

module _ (scenario : Scenario) (history : List Entry) (b : ℕ) (s : Session) (number : IsBackend scenario.backends b) (spelled : AreSpelled scenario) (allowed : IsAllowed scenario history) (is : session_of scenario history b ≡ Some s) (stopped : has_stopped history b ≡ false) where
  abbrev o : Option Command
  o = slice_get (commands_of scenario b) (length s.finished)

  abbrev facts : Facts
  facts = facts_of history b

  fits : RunsFit facts o s
  fits = allowed_transaction scenario history b s spelled allowed is

  ends : (event : Event) → EndsBy facts o s event → MayPlayIn (next_oid history) facts o s event → HasNext scenario history b
  ends event ending may = end_next scenario history b s number allowed is stopped fits event ending may

  -- the end of a command
  command_ends : (command : Command) (event : Event) → o ≡ Some command → s.ended ≡ false → is_settled (outcome_of s.left) ≡ true → owed_after facts.due ≡ [] → owed_at_end facts command s ≡ [] → next_of_end facts (end_in facts command (work_of s)) ≡ Some event → HasNext scenario history b
  command_ends command event at going out after none comes = ends event (record { going = going; out = out; after = after; comes = ap (λ x. next_of_end facts (end_by facts x s)) at ∙ comes })
      (subst (λ x. MayPlayIn (next_oid history) facts x s event) (sym at) (end_plays (next_oid history) facts command s event (is_of_end facts (end_in facts command (work_of s)) event (comes_now facts (end_in facts command (work_of s)) event comes)) (none, left ∙ comes)))
    where
      left : end_left_in facts command (work_of s) ≡ next_of_end facts (end_in facts command (work_of s))
      left = ap (λ t. elim t as (λ x. Option Event) [ true ↦ None | false ↦ next_of_end facts (end_in facts command (work_of s)) ]) going

  -- the end after the last command
  last_ends : (event : Event) → o ≡ None → s.ended ≡ false → owed_after facts.due ≡ [] → next_of_end facts (end_of_all facts) ≡ Some event → HasNext scenario history b
  last_ends event past going after comes = ends event (record { going = going; out = ap (λ p. is_settled (outcome_of p)) (fits.past past); after = after; comes = ap (λ x. next_of_end facts (end_by facts x s)) past ∙ comes })
      (subst (λ x. MayPlayIn (next_oid history) facts x s event) (sym past) (last_plays facts s event (comes_now facts (end_of_all facts) event comes) (after, comes)))

  -- a commit on its way
  commits : is_visible facts.running ≡ true → HasNext scenario history b
  commits visible = let c = fits.visible visible in
      command_ends c.command (next_of_commit facts (first_at facts)) c.at c.going c.out (nothing_owed facts c.command s c.free) (end_free facts c.command s c.free) (ap (next_of_end facts) c.end)

  -- taking back on its way
  takes_back : (from : ℕ) → facts.due ≡ dues.Gone from → HasNext scenario history b
  takes_back from gone = by_command o refl back.end
    where
      back : OnTakingBack facts o s from
      back = fits.taken from gone

      by_command : (x : Option Command) → o ≡ x → end_by facts x s ≡ TakesBack from → HasNext scenario history b
      by_command (Some command) at end = command_ends command (next_of_taking_back facts from) at back.going back.out (ap owed_after gone) (back_free facts command s from end (ap owed_after gone)) (ap (next_of_end facts) end)
      by_command None past end = last_ends (next_of_taking_back facts from) past back.going (ap owed_after gone) (ap (next_of_end facts) end)

  -- in the midst of neither
  module _ (free : IsFree scenario history b s) where
    -- a command that has come out and owes nothing ends
    out_next : (command : Command) → o ≡ Some command → is_settled (outcome_of s.left) ≡ true → owed_in facts command (work_of s) ≡ [] → HasNext scenario history b
    out_next command at out none = by_left (end_left_in facts command (work_of s)) refl
      where
        by_ended : (event : Event) (t : Bool) → s.ended ≡ t → elim t as (λ x. Option Event) [ true ↦ None | false ↦ next_of_end facts (end_in facts command (work_of s)) ] ≡ Some event → HasNext scenario history b
        by_ended event true over comes = absurd (cc comes)
        by_ended event false going comes = command_ends command event at going out (nothing_owed facts command s none) (end_free facts command s none) comes

        by_left : (x : Option Event) → end_left_in facts command (work_of s) ≡ x → HasNext scenario history b
        by_left None left = absurd (both_ways _ (waits scenario history b s command free at).unfinished (λ i. out i && is_none (left i) && is_empty (none i)))
        by_left (Some event) left = by_ended event s.ended refl left

    command_next : (command : Command) → o ≡ Some command → (t : Bool) → is_settled (outcome_of s.left) ≡ t → HasNext scenario history b
    command_next command at false going = unsettled_next scenario history b s command free at going
    command_next command at true out = by_owed (owed_in facts command (work_of s)) refl
      where
        by_owed : (l : List Owes) → owed_in facts command (work_of s) ≡ l → HasNext scenario history b
        by_owed [] none = out_next command at out none
        by_owed (x ∷ xs) are = owing_next scenario history b s command free at (λ none. let no : x ∷ xs ≡ [] = sym are ∙ none in cc no)

    -- after the last command what still runs is taken back
    past_next : o ≡ None → (own : Option Running) → facts.running ≡ own → HasNext scenario history b
    past_next past None none = stop_next scenario history b s spelled number allowed stopped is past none
    past_next past (Some t) runs = by_owed (owed_after facts.due) refl
      where
        by_ended : (x : Option Command) → o ≡ x → (e : Bool) → s.ended ≡ e → TransactionFits facts x s e → x ≡ None → s.ended ≡ false
        by_ended x at false going kept none = going
        by_ended None at true over kept none = absurd (let no : None ≡ Some t = sym kept ∙ runs in cc no)
        by_ended (Some command) at true over kept none = absurd (cc none)

        by_owed : (l : List Owes) → owed_after facts.due ≡ l → HasNext scenario history b
        by_owed [] none = last_ends (next_of_taking_back facts t.first) past (by_ended o refl s.ended refl fits.transaction past) none (ap (λ r. next_of_end facts (option_map_or (λ (x : Running). TakesBack x.first) r Ends)) runs)
        by_owed (x ∷ xs) are = owed_next scenario history b s spelled number allowed stopped is (λ none. let no : x ∷ xs ≡ [] = sym are ∙ none in cc no)

    free_goes : (x : Option Command) → o ≡ x → HasNext scenario history b
    free_goes (Some command) at = command_next command at (is_settled (outcome_of s.left)) refl
    free_goes None past = past_next past facts.running refl

  session_next : HasNext scenario history b
  session_next = by_visible (is_visible facts.running) refl
    where
      goes : is_visible facts.running ≡ false → ((event : Event) → FollowsGone (last_event_of history b) event) → HasNext scenario history b
      goes hidden gone = free_goes (record { number = number; spelled = spelled; allowed = allowed; is = is; stopped = stopped; hidden = hidden; gone = gone }) o refl

      by_last : is_visible facts.running ≡ false → (last : Option Event) → last_event_of history b ≡ last → HasNext scenario history b
      by_last hidden (Some (events.Gone from)) at = takes_back from (ap due_last at)
      by_last hidden last at = goes hidden (λ event. subst (λ l. FollowsGone l event) (sym at) tt)

      by_visible : (t : Bool) → is_visible facts.running ≡ t → HasNext scenario history b
      by_visible true visible = commits visible
      by_visible false hidden = by_last hidden (last_event_of history b) refl

-- so no backend is ever stuck
pub never_stuck : (scenario : Scenario) (history : List Entry) (b : ℕ) → AreSpelled scenario → IsBackend scenario.backends b → IsAllowed scenario history → has_stopped history b ≡ false → HasNext scenario history b
never_stuck scenario history b spelled number allowed stopped = by_session (session_of scenario history b) refl
  where
    by_session : (x : Option Session) → session_of scenario history b ≡ x → HasNext scenario history b
    by_session None none = start_next scenario history b number allowed none
    by_session (Some s) is = session_next scenario history b s number spelled allowed is stopped
