-- The next entry of an end may follow the entries before it, and after an allowed history it is allowed.
use Rattle.std.proofs.Common.{◌≡◌, ◌≢◌, ◌≤◌, ◌∙◌, ◌==◌, ◌⊎◌, inl, inr, ℕ, Bool, true, false, Option, Some, None, List, [], ◌∷◌, cond, drop, refl, sym, ap, subst, length, is_some, slice_get, arith}
use Rattle.std.specs.Prelude.{nat_lt}
use Rattle.std.specs.Option.{option_map, option_map_or}
use Rattle.std.proofs.lemmas.Bool.{both_ways, eq-eqb, false_from_ne_true, ltb-true}
use Rattle.std.proofs.lemmas.List.{length-drop}
use Rattle.base_types.specs.Scenario.{IsBackend}
use Rattle.event_kinds.specs.declared.entry.Event.TheVariants as events
use Rattle.inval_messages.specs.Lists.{Written, has_write_from, cats_in, sent_in, unsent_after, left_after}
use Rattle.ddl_effect.specs.Commands.{commands_of}
use Rattle.txn_blocks.specs.declared.transaction.RunningTransaction.{RunningTransaction as Running}
use Rattle.history_model.specs.Drawn.{next_oid}
use Rattle.history_model.specs.Lapped.{FetchesFrom}
use Rattle.history_model.specs.Lives.{life_by, life_of, last_event_of}
use Rattle.history_model.specs.MayFollow.{FollowsLife, FollowsVisible, FollowsGone, MayRelease, MayFollow}
use Rattle.history_model.specs.Sent.{left_in, unsent_in}
use Rattle.history_model.specs.declared.life.Life.TheVariants.{Alive}
use Rattle.history_model.specs.Transactions.{has_xid, is_visible}
use Rattle.history_model.proofs.Touched.{entry_of}
use Rattle.cacheless.specs.Types.{Xid, Message, Scenario, Command, Entry, Event}
use Rattle.cacheless.specs.Awaiting.{answer_after}
use Rattle.cacheless.specs.Ends.{End, Commits, TakesBack}
use Rattle.cacheless.specs.Facts.{Facts, due_last, facts_of}
use Rattle.cacheless.specs.Output.{IsAllowed}
use Rattle.cacheless.specs.Plays.{MayPlayIn, MayPlayAt}
use Rattle.cacheless.specs.Schedule.{has_stopped, LooksTruly}
use Rattle.cacheless.specs.Session.{Session, number_of}
use Rattle.cacheless.specs.Sessions.{ends_command, session_of}
use Rattle.cacheless.specs.OwnTransaction.{first_at, end_by, RunsFit}
use Rattle.cacheless.proofs.Allowed.EndsReleased.{EndsBy, IsCommit, LetsGo, AllSent, NoWrite, ComesNow, comes_now, from_of, Releases, Whole, Inner, commit_first, end_releases, commit_end, back_end}
use Rattle.cacheless.proofs.Allowed.NextEntries.{HasNext, IsLater, next_allowed, lives_on}
use Rattle.cacheless.proofs.Allowed.TransactionEnds.{write_from_first}

-- the Xid of a transaction that has one
xid_own : (own : Option Running) (xid : ℕ) → option_map_or (λ t. is_some t.xid) own false ≡ true → xid ≡ option_map_or (λ t. option_map_or (λ (x : Xid). x.0) t.xid 0) own 0 → has_xid xid own ≡ true
xid_own None xid some is = absurd (cc some)
xid_own (Some t) xid some is = by_xid t.xid some is
  where
    by_xid : (o : Option Xid) → is_some o ≡ true → xid ≡ option_map_or (λ (x : Xid). x.0) o 0 → option_map_or (λ (own : Xid). own.0 == xid) o false ≡ true
    by_xid None none at = absurd (cc none)
    by_xid (Some x) there at = eq-eqb x.0 xid (sym at)

-- where a publish would send nothing, all is published
left_none : (published : ℕ) (lists : List Written) → length (unsent_after published lists) ≡ 0 → left_after published lists ≡ []
left_none published lists none = by_test (nat_lt published (length (cats_in lists))) refl none
  where
    no_length : (xs : List Message) → length xs ≡ 0 → xs ≡ []
    no_length [] is = refl
    no_length (x ∷ xs) is = absurd (omega (arith, is))

    by_test : (t : Bool) → nat_lt published (length (cats_in lists)) ≡ t → length (cond t (drop published (cats_in lists)) (drop published (sent_in lists))) ≡ 0 → left_after published lists ≡ []
    by_test true before empty = absurd (omega (arith, ltb-true published (length (cats_in lists)) before, length-drop published (cats_in lists), empty))
    by_test false after empty = no_length (drop published (sent_in lists)) empty

all_left : (lists : List Written) (own : Option Running) → length (unsent_in lists own) ≡ 0 → left_in lists own ≡ []
all_left lists None none = refl
all_left lists (Some t) none = left_none t.published lists none

low_from : (own : Option Running) (n from : ℕ) → option_map_or (λ t. t.first) own n ≡ from → option_map_or (λ t. t.first) own 0 ≤ n → from ≤ n
low_from None n from is low = omega (arith, is)
low_from (Some t) n from is low = omega (arith, is, low)

first_visible : (own : Option Running) (n from : ℕ) → is_visible own ≡ true → option_map_or (λ t. t.first) own n ≡ from → option_map (λ t. t.first) own ≡ Some from
first_visible None n from visible is = absurd (cc visible)
first_visible (Some t) n from visible is = ap Some is

released : (v : Bool) (from : ℕ) → FollowsVisible v (events.Release from)
released true from = tt
released false from = tt

-- an event that comes next of an end is one of an end
pub is_of_end : (facts : Facts) (end : End) (event : Event) → ComesNow facts end event → ends_command event ≡ true
is_of_end facts end (events.Visible xid) comes = refl
is_of_end facts end (events.Publish count) comes = refl
is_of_end facts end (events.Gone from) comes = refl
is_of_end facts end (events.Release from) comes = refl
is_of_end facts end event comes = absurd comes

module _ (history : List Entry) (b : ℕ) (o : Option Command) (s : Session) (fits : RunsFit (facts_of history b) o s) where
  abbrev facts : Facts
  facts = facts_of history b

  -- where a commit comes next nothing was taken back
  none_gone : (event : Event) → IsCommit facts (end_by facts o s) → FollowsGone (last_event_of history b) event
  none_gone event commit = by_last (last_event_of history b) refl
    where
      by_last : (last : Option Event) → last_event_of history b ≡ last → FollowsGone last event
      by_last (Some (events.Gone from)) at = absurd (let no : TakesBack from ≡ Commits commit.first = sym (back_end facts o s from fits (ap due_last at)) ∙ commit.is in cc no)
      by_last last at = tt

  -- a transaction that is taken back isn't visible
  back_hidden : (from : ℕ) → end_by facts o s ≡ TakesBack from → is_visible facts.running ≡ false
  back_hidden from back = false_from_ne_true (is_visible facts.running) (λ visible. let no : Commits (first_at facts) ≡ TakesBack from = sym (commit_end facts o s fits visible) ∙ back in cc no)

  -- and what was taken back isn't there any more
  not_gone : (from : ℕ) → end_by facts o s ≡ TakesBack from → has_write_from from facts.lists ≡ true → FollowsGone (last_event_of history b) (events.Gone from)
  not_gone from back written = by_last (last_event_of history b) refl
    where
      by_last : (last : Option Event) → last_event_of history b ≡ last → FollowsGone last (events.Gone from)
      by_last (Some (events.Gone n)) at = absurd (let same : n ≡ from = (let both : TakesBack n ≡ TakesBack from = sym (back_end facts o s n fits (ap due_last at)) ∙ back in cc both) in
          both_ways _ (subst (λ k. has_write_from k facts.lists ≡ false) same (fits.taken n (ap due_last at)).none) written)
      by_last last at = tt

  -- what was taken back is what is released
  release_gone : (from : ℕ) → LetsGo facts (end_by facts o s) from → FollowsGone (last_event_of history b) (events.Release from)
  release_gone from lets = by_last (last_event_of history b) refl
    where
      by_case : (n : ℕ) → end_by facts o s ≡ TakesBack n → LetsGo facts (end_by facts o s) from → from ≡ n
      by_case n back (AllSent commits visible sent) = absurd (let no : Commits from ≡ TakesBack n = sym commits ∙ back in cc no)
      by_case n back (NoWrite (inl commits) bare) = absurd (let no : Commits from ≡ TakesBack n = sym commits ∙ back in cc no)
      by_case n back (NoWrite (inr takes) bare) = let both : TakesBack from ≡ TakesBack n = sym takes ∙ back in cc both

      by_last : (last : Option Event) → last_event_of history b ≡ last → FollowsGone last (events.Release from)
      by_last (Some (events.Gone n)) at = by_case n (back_end facts o s n fits (ap due_last at)) lets
      by_last last at = tt

  -- without a write the transaction isn't visible
  bare_hidden : (from : ℕ) → (end_by facts o s ≡ Commits from) ⊎ (end_by facts o s ≡ TakesBack from) → has_write_from from facts.lists ≡ false → is_visible facts.running ≡ false
  bare_hidden from (inr back) bare = back_hidden from back
  bare_hidden from (inl commits) bare = false_from_ne_true (is_visible facts.running) (λ visible. let same : first_at facts ≡ from = (let both : Commits (first_at facts) ≡ Commits from = sym (commit_end facts o s fits visible) ∙ commits in cc both) in
      both_ways _ bare (subst (λ n. has_write_from n facts.lists ≡ true) same (fits.visible visible).written))

  -- all is sent, or no write stands
  may_release : (from : ℕ) → EndsBy facts o s (events.Release from) → LetsGo facts (end_by facts o s) from → MayRelease (is_visible facts.running) history b from
  may_release from ends (AllSent commits visible sent) = subst (λ v. MayRelease v history b from) (sym visible) (first_visible facts.running (number_of s) from visible (commit_first facts o s from fits ends.going commits), all_left facts.lists facts.running sent)
  may_release from ends (NoWrite end bare) = subst (λ v. MayRelease v history b from) (sym (bare_hidden from end bare)) bare

  -- no later command is released
  from_low : (from : ℕ) → Releases facts o s from → from ≤ number_of s
  from_low from (Whole first bare none) = low_from facts.running (number_of s) from first fits.first
  from_low from (Inner inner) = inner.low

  -- so it may follow, where the backend is alive
  pub end_follows : (event : Event) → FollowsLife (life_of history b) (number_of s) event → EndsBy facts o s event → MayFollow history (entry_of b (number_of s) event)
  end_follows event alive ends = by_event event alive ends (comes_now facts (end_by facts o s) event ends.comes)
    where
      by_event : (e : Event) → FollowsLife (life_of history b) (number_of s) e → EndsBy facts o s e → ComesNow facts (end_by facts o s) e → MayFollow history (entry_of b (number_of s) e)
      by_event (events.Visible xid) lives ending comes = record {
        life = lives;
        visible = subst (λ v. FollowsVisible v (events.Visible xid)) (sym comes.hidden) tt;
        gone = none_gone (events.Visible xid) comes.commit;
        event = let written = write_from_first comes.commit.first facts.lists comes.commit.written in (xid_own facts.running xid.0 (fits.written written) comes.xid_is, written);
      }
      by_event (events.Publish count) lives ending comes = record {
        life = lives;
        visible = subst (λ v. FollowsVisible v (events.Publish count)) (sym comes.visible) tt;
        gone = none_gone (events.Publish count) comes.commit;
        event = (comes.visible, comes.some, comes.most);
      }
      by_event (events.Gone from) lives ending comes = record {
        life = lives;
        visible = subst (λ v. FollowsVisible v (events.Gone from)) (sym (back_hidden from comes.0)) tt;
        gone = not_gone from comes.0 comes.1;
        event = comes.1;
      }
      by_event (events.Release from) lives ending comes = record {
        life = lives;
        visible = released (is_visible facts.running) from;
        gone = release_gone from comes;
        event = (from_low from (end_releases facts o s from fits ending.going (from_of facts (end_by facts o s) from comes)), may_release from ending comes);
      }
      by_event e lives ending comes = absurd comes

-- what is so of each event of an end
pub record IsEndEvent (size : ℕ) (history : List Entry) (b c : ℕ) (event : Event) : Type 0 where
  pub truly : LooksTruly history b event
  pub queue : FetchesFrom size history b event
  pub later : IsLater event
  pub lives : life_by c event ≡ Alive c
  pub on : event ≢ events.Stop
  pub answers : (answer : Option (List ℕ)) → answer_after event answer ≡ answer

pub end_event : (size : ℕ) (history : List Entry) (b c : ℕ) (event : Event) → ends_command event ≡ true → IsEndEvent size history b c event
end_event size history b c (events.Visible xid) ends = record { truly = tt; queue = tt; later = tt; lives = refl; on = λ stop. cc stop; answers = λ answer. refl }
end_event size history b c (events.Publish count) ends = record { truly = tt; queue = tt; later = tt; lives = refl; on = λ stop. cc stop; answers = λ answer. refl }
end_event size history b c (events.Gone from) ends = record { truly = tt; queue = tt; later = tt; lives = refl; on = λ stop. cc stop; answers = λ answer. refl }
end_event size history b c (events.Release from) ends = record { truly = tt; queue = tt; later = tt; lives = refl; on = λ stop. cc stop; answers = λ answer. refl }
end_event size history b c event ends = absurd (cc ends)

-- after an allowed history it is allowed, where the script lets it come
pub end_next : (scenario : Scenario) (history : List Entry) (b : ℕ) (s : Session) → IsBackend scenario.backends b → IsAllowed scenario history → session_of scenario history b ≡ Some s → has_stopped history b ≡ false
    → RunsFit (facts_of history b) (slice_get (commands_of scenario b) (length s.finished)) s → (event : Event) → EndsBy (facts_of history b) (slice_get (commands_of scenario b) (length s.finished)) s event
    → MayPlayIn (next_oid history) (facts_of history b) (slice_get (commands_of scenario b) (length s.finished)) s event → HasNext scenario history b
end_next scenario history b s number allowed is stopped fits event ends may =
    next_allowed scenario history b (number_of s) event number allowed (end_follows history b o s fits event (lives_on scenario history b s event allowed is stopped plain.later) ends) plain.queue plain.truly
    (subst (λ x. MayPlayAt scenario history b x (number_of s) event) (sym is) (refl, may))
  where
    o : Option Command
    o = slice_get (commands_of scenario b) (length s.finished)

    end : End
    end = end_by (facts_of history b) o s

    plain : IsEndEvent scenario.size history b (number_of s) event
    plain = end_event scenario.size history b (number_of s) event (is_of_end (facts_of history b) end event (comes_now (facts_of history b) end event ends.comes))
