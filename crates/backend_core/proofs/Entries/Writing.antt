-- The write of a backend, where its draft is at hand.
use Rattle.std.proofs.Common.{◌≡◌, ◌≤◌, ◌<◌, ◌+◌, ◌∙◌, ◌==◌, ◌&&◌, ◌||◌, inl, inr, ℕ, Bool, false, not, Option, Some, None, Result, Ok, Err, OnOk, OnErr, List, [], ◌∷◌, refl, sym, ap, subst, length, drop, arith, true}
use Rattle.std.specs.List.{AllByRecursion, flat_map, list_any}
use Rattle.std.proofs.Math.Bool.{and-false}
use Rattle.std.proofs.lemmas.Bool.{both_ways, ne_eqb, false_from_ne_true}
use Rattle.std.specs.Option.{IfSome}
use Rattle.base_types.specs.Modes.{same_mode}
use Rattle.base_types.specs.declared.change.Change.{Change}
use Rattle.base_types.specs.declared.change.Change.TheVariants.{Insert}
use Rattle.base_types.specs.declared.mode.Mode.TheVariants.{AccessExclusive}
use Rattle.base_types.specs.declared.row.Row.TheVariants as rows
use Rattle.event_kinds.specs.declared.entry.Event.TheVariants as events
use Rattle.row_visibility.specs.declared.clash.Clash.{Clash}
use Rattle.row_visibility.specs.declared.clash.Clash.TheVariants as clashes
use Rattle.lock_modes.specs.declared.grant.Grant.{Grant}
use Rattle.lock_modes.specs.Grants.{holds}
use Rattle.lock_modes.specs.Own.{has_lock}
use Rattle.inval_messages.specs.Lists.{Written}
use Rattle.ddl_effect.specs.Commands.{plan_of, writing}
use Rattle.ddl_effect.specs.declared.told.Told.TheVariants as tells
use Rattle.ddl_effect.specs.Plans.{Done, Write}
use Rattle.ddl_effect.specs.Stages.{plan_at}
use Rattle.history_model.specs.Drawn.{next_oid}
use Rattle.history_model.specs.Held.{held_of}
use Rattle.history_model.specs.Transactions.{has_written}
use Rattle.history_model.proofs.Ordered.{locks_exclude}
use Rattle.seg_calls.specs.declared.refusal.Written.{Written as Made}
use Rattle.seg_calls.specs.declared.refusal.WriteRefusal.TheVariants as refusals
use Rattle.seg_calls.specs.Calls.{entry_of, items_drawn, MayRequest, MayWrite, MakesWrite, Clashes, Writes, Appends}
use Rattle.cacheless.specs.ActsDone.{made_in, opening_by}
use Rattle.cacheless.specs.Facts.{Facts, facts_of}
use Rattle.cacheless.specs.Holds.{Rests, HasEntered, with_own}
use Rattle.cacheless.specs.Locks.{locked_by}
use Rattle.cacheless.specs.OnCourse.{OnItsWay, AllOnCourse}
use Rattle.cacheless.specs.Work.{work_of}
use Rattle.cacheless.specs.Owed.{owed_after, owed_in, started_in}
use Rattle.cacheless.specs.Plays.{IsWrite, IsClash, MayPlay, MayPlayIn}
use Rattle.cacheless.specs.Session.{Session, Well, Badly, Unsettled, number_of, outcome_of, is_settled, held_before, held_in}
use Rattle.cacheless.specs.Sessions.{written, entered}
use Rattle.cacheless.specs.State.{lists_at, kept_at, kept_spared, is_kept, messages_in, clash_event, error_of, one_if, relation_made, change_makes, locks_made}
use Rattle.cacheless.specs.Suspects.{lacks}
use Rattle.cacheless.proofs.FactsAfter.{facts_by}
use Rattle.cacheless.proofs.Allowed.NamesRead.{read_as_now}
use Rattle.cacheless.proofs.Allowed.NextKeeps.{spelled_at}
use Rattle.cacheless.proofs.Plans.ClearLocks.{session_holds}
use Rattle.cacheless.proofs.Written.Listed.{lists_before_it}
use Rattle.cacheless.proofs.Same.{owes_nothing_is}
use Rattle.cacheless.proofs.Plans.SilentActs.{empty_list, on_its_way}
use Rattle.cacheless.proofs.Written.NamesGiven.{AreReadAsNow}
use Rattle.cacheless.proofs.Written.DraftFits.{WriteFits}
use Rattle.cacheless.proofs.Written.WriteFits.{write_fits}
use Rattle.backend_core.specs.Types.{Oid, Xid, Command, Draft, Item, Message, Opening, Purpose, Scenario, Entry, Event, Frame, Progress, Backend}
use Rattle.backend_core.specs.Agrees.{IsPlayed, command_at, AwaitsEntry}
use Rattle.backend_core.specs.Fits.{looks_due, looked_on_top, came_well, LooksFit, IsLookedFor, TakesFit, FramesFit, keeps_whole, is_lost, is_gone_due}
use Rattle.backend_core.specs.Steps.{IsWriteNext, MakesEntry, Enters, IsRefused}
use Rattle.backend_core.specs.Noted.{noted_of, noted_by, ComesAs, refusal_left, IsNoted}
use Rattle.backend_core.specs.declared.next.Next.TheVariants as nexts
use Rattle.backend_core.proofs.Choosing.Running.{entry_runs}
use Rattle.backend_core.proofs.Entries.Alike.{alike_enters}
use Rattle.backend_core.proofs.Entries.WhereLeft.{entered_here}
use Rattle.backend_core.proofs.Choosing.Chosen.{Acts, may_request, started_still}
use Rattle.backend_core.proofs.Fitting.Entered.{fits_at}
use Rattle.backend_core.proofs.Entries.Failing.{IsActing, clash_shows, failed_enters}
use Rattle.backend_core.proofs.Entries.Inside.{made_refused, inside_fits}
use Rattle.backend_core.proofs.Own.{waiting, waiting_is, waiting_course, at_session, follows, going, OwnEntry, own_makes, own_enters}
use Rattle.backend_core.proofs.Fitting.Sought.{no_look}
use Rattle.backend_core.proofs.Fitting.Rebuilding.{owed_bare, owed_whole, owed_builds, each_whole}
use Rattle.backend_core.proofs.Stacking.Looked.{after_less, told_most}
use Rattle.backend_core.proofs.Stacking.Messages.{stack_after}
use Rattle.backend_core.specs.Frames.{frames_after, IsStack}
use Rattle.backend_core.specs.Words.{has_error}
use Rattle.inval_messages.specs.Messages.{is_spared}
use Rattle.cacheless.proofs.Entries.EnteredFetches.{is_kept-spared}
use Rattle.cacheless.proofs.Entries.EnteredWrites.{spared_alike}
use Rattle.cacheless.proofs.Deciding.{all_names}
use Rattle.cacheless.specs.Puts.{PutsOpened}
use Rattle.history_model.specs.Sent.{messages_written}
use Rattle.std.specs.Str.{bytes_eq}

-- on a relation that is still to be drawn there is no lock
none_held : (b : ℕ) (rel : Oid) (next : ℕ) (held : List Grant) → rel.0 ≡ next → AllByRecursion (λ g. g.rel.0 < next) held → holds held b rel AccessExclusive ≡ false
none_held b rel next [] new drawn = refl
none_held b rel next (g ∷ held) new drawn =
    (λ i. ((g.backend == b) && ne_eqb g.rel.0 rel.0 (λ same. absurd (omega (arith, same, new, drawn.0))) i && same_mode g.mode AccessExclusive) || none_held b rel next held new drawn.1 i)
    ∙ ap (λ t. (t && same_mode g.mode AccessExclusive) || false) (and-false (g.backend == b))

-- the entry of a write that is refused for a name
clashes_as : (old new : List Entry) (had has : ℕ → ℕ) (b c : ℕ) (draft : Draft) (name : List ℕ) (clash : Clash) → Writes old new had has b c draft (Err (refusals.Clash name clash)) → Clashes old new had has b draft name (entry_of b c (clash_event name clash))
clashes_as old new had has b c draft name (clashes.Row rel) writes = writes
clashes_as old new had has b c draft name (clashes.Running xid) writes = writes

-- which may come next
clash_plays : (next : ℕ) (facts : Facts) (command : Command) (s : Session) (name : List ℕ) (clash : Clash) → owed_in facts command (work_of s) ≡ [] → IsClash facts s.left name → MayPlay next facts command s (clash_event name clash)
clash_plays next facts command s name (clashes.Row rel) none clashes = (none, clashes)
clash_plays next facts command s name (clashes.Running xid) none clashes = (none, clashes)

-- which is one of a write
clash_comes : (refusal : Option Event) (name : List ℕ) (clash : Clash) → refusal ≡ Some (clash_event name clash) → ComesAs refusal nexts.Write (clash_event name clash)
clash_comes refusal name (clashes.Row rel) is = is
clash_comes refusal name (clashes.Running xid) is = is

-- one that is refused leaves what is noted
clash_leaves : (old : List Entry) (was : Backend) (name : List ℕ) (clash : Clash) → noted_of was ≡ noted_by old was nexts.Write (clash_event name clash)
clash_leaves old was name (clashes.Row rel) = refl
clash_leaves old was name (clashes.Running xid) = refl

-- all that a write rests on
module _ (scenario : Scenario) (old : List Entry) (was : Backend) (draft : Draft) (at : plan_at was.progress.opens was.progress.exec ≡ writing draft) (waits : AwaitsEntry scenario old was) (played : IsPlayed scenario old) (courses : AllOnCourse scenario old) (next : IsWriteNext was.progress) where
  abbrev facts : Facts
  facts = facts_of old was.progress.id

  abbrev s : Session
  s = waiting waits

  owed_none : owed_in facts next.command (work_of s) ≡ []
  owed_none = empty_list (owed_in facts next.command (work_of s)) (owes_nothing_is facts next.command was.progress waits.rests.holds.rest waits.rests.holds.facts ∙ next.owes)

  acting : IsActing scenario old was next.command
  acting = record {
    at = next.free.at;
    unsettled = ap (λ p. is_settled (outcome_of p)) at;
    runs = entry_runs scenario old was waits courses next.command next.free.at next.free.first;
    owed = (ap (λ f. owed_after f.due) waits.rests.holds.facts) ∙ next.free.due;
    bare = owed_bare facts (command_at was) s was.frames next.command waits.fits.rebuilds owed_none;
  }

  -- no look was made that isn't used
  unlooked : was.looked ≡ true → ⊥
  unlooked made = no_look facts was.frames s.taken (writing draft) refl refl refl (subst (IsLookedFor facts was.frames s.taken) at (waits.fits.sought made))

  way : OnItsWay old was.progress.id s next.command
  way = on_its_way old was.progress.id s next.command (Write draft) (λ given. Done tells.Ok) (follows scenario old was waits courses next.command next.free.at) at

  unwritten : has_written old was.progress.id (was.progress.finished + 1) ≡ false
  unwritten = subst (λ n. has_written old was.progress.id (n + 1) ≡ false) waits.rests.holds.count way.unwritten

  -- what it is about to write may be written
  suits : WriteFits old was.progress.id (was.progress.finished + 1) facts (made_in opening_by way.gave (plan_of s.opens next.command)) draft
  suits = write_fits old was.progress.id (was.progress.finished + 1) facts s.opens next.command way.gave draft (λ given. Done tells.Ok) played.sound played.columns played.indexes (spelled_at scenario was.progress.id (length s.finished) next.command played.spelled (at_session scenario old was waits ∙ next.free.at)) way.holds (sym way.plan ∙ at)

  -- and the row of its table was read as it is
  read : AreReadAsNow old was.progress.id facts (made_in opening_by way.gave (plan_of s.opens next.command))
  read = read_as_now scenario old was.progress.id s next.command draft (λ given. Done tells.Ok) played (waiting_is scenario old was waits) (waiting_course scenario old was waits courses) (at_session scenario old was waits ∙ next.free.at) at owed_none way

  pub write_request : MayRequest scenario old was.progress.id (was.progress.finished + 1)
  write_request = may_request scenario old was waits next.command next.free.at (Acts acting.unsettled)

  pub may_write : MayWrite old was.progress.id (was.progress.finished + 1) draft
  may_write = let fit = suits.fit in record { oids = fit.oids; keys = fit.keys; there = fit.there; kinds = fit.kinds; only = unwritten; guarded = fit.guarded; orderly = fit.orderly }

  -- its lists are of commands before
  pub lists_before : AllByRecursion (λ list. list.command < was.progress.finished + 1) (lists_at was.progress)
  lists_before = subst (AllByRecursion (λ (list : Written). list.command < was.progress.finished + 1)) (ap (λ f. f.lists) waits.rests.holds.facts)
      (lists_before_it was.progress.id old (was.progress.finished + 1) played.sound unwritten (subst (AllByRecursion (λ (list : Written). list.command ≤ was.progress.finished + 1)) (sym (ap (λ f. f.lists) waits.rests.holds.facts)) waits.rests.holds.order))

  -- and the relation that it makes isn't locked before
  new_free : (rel : Oid) → rel.0 ≡ next_oid old → has_lock was.progress.locks.items rel AccessExclusive ≡ false
  new_free rel new = sym (session_holds scenario old was.progress.id s played.sound (waiting_is scenario old was waits) rel AccessExclusive) ∙ none_held was.progress.id rel (next_oid old) (held_of old) new (locks_exclude old played.sound).drawn

  pub made_free : (known : Option Oid) (first : Oid) → known ≡ relation_made draft.changes first → first.0 ≡ next_oid old → IfSome known (λ rel. has_lock was.progress.locks.items rel AccessExclusive ≡ false)
  made_free known first same new = subst (λ o. IfSome o (λ rel. has_lock was.progress.locks.items rel AccessExclusive ≡ false)) (sym same) (of draft.changes)
    where
      by_change : (change : Change) → IfSome (change_makes first change) (λ rel. has_lock was.progress.locks.items rel AccessExclusive ≡ false)
      by_change (Insert (rows.Class oid name kind fill)) = new_free first new
      by_change change = tt

      of : (changes : List Change) → IfSome (relation_made changes first) (λ rel. has_lock was.progress.locks.items rel AccessExclusive ≡ false)
      of [] = tt
      of (change ∷ changes) = by_change change

  write_own : (xid : Xid) → OwnEntry scenario old was (events.Write xid (items_drawn old draft)) waits
  write_own xid = record {
    plays = subst (λ o. MayPlayIn (next_oid old) facts o s (events.Write xid (items_drawn old draft))) (sym next.free.at) (owed_none, subst (λ p. IsWrite (next_oid old) p (items_drawn old draft)) (sym at) refl);
    truly = tt;
    queue = tt;
  }

  -- out of memory, its entry is made
  pub wrote_refused : {E : Type 0} (first : Backend) → was.progress.id ≡ first.progress.id → (new : List Entry) (had has : ℕ → ℕ) (result : Result (Unit {0}) E) (made : Made) → MakesWrite old new had has was.progress.id (was.progress.finished + 1) draft made → OnErr result (IsRefused scenario old new had has first.progress.id)
  wrote_refused first id new had has result made makes = made_refused scenario old new had has first.progress.id result
      (subst (MakesEntry scenario old new had has) id (own_makes scenario old new had has was (events.Write made.xid (items_drawn old draft)) waits played courses (write_own made.xid) makes.appends))

  -- its release isn't made
  going_on : s.ended ≡ false
  going_on = going scenario old was waits courses next.command next.free.at (λ well. let no : Unsettled ≡ Well = sym (ap outcome_of at) ∙ well in cc no)

  -- what was held before it lacked no scan, so nothing that is open does
  open_whole : list_any (lacks (is_kept facts.kept)) (held_before s) ≡ false
  open_whole = waits.fits.relations.held going_on (lacks (is_kept facts.kept))
      (owed_whole facts s.opened (owed_builds facts s next.command (λ badly. let both : Unsettled ≡ Badly = sym (ap outcome_of at) ∙ badly in cc both) owed_none))

  -- the rebuilds that its messages put on
  abbrev frames_wrote : (Purpose → Bool) → List Frame
  frames_wrote kept = frames_after kept (held_before s) (messages_in old was.progress.id (items_drawn old draft)) []

  -- after it the backend agrees
  wrote_enters : (new : List Entry) (had has : ℕ → ℕ) (p : Progress) (kept_then : Purpose → Bool) (xid : Xid) → HasEntered scenario old was.progress (events.Write xid (items_drawn old draft)) waits.rests p → p.answer ≡ None
      → Appends old new had has (entry_of was.progress.id (was.progress.finished + 1) (events.Write xid (items_drawn old draft))) → Enters scenario old new had has was (record was { progress = p; frames = frames_wrote kept_then })
  wrote_enters new had has p kept_then xid goes none appends =
      own_enters scenario old new had has was (record was { progress = p; frames = frames_wrote kept_then }) event waits played courses (write_own xid) goes
      (fits_at scenario old was event waits p goes was.looked (frames_wrote kept_then) was.told
      (inside_fits scenario old was waits courses next.command next.free.at later now was.looked (frames_wrote kept_then) was.told
      (record { blocks = ap (λ q. (written q s).blocks) at; opens = ap (λ q. (written q s).opens) at; held = inr (ap (λ q. (written q s).opened) at, going_on); finished = ap (λ q. length (written q s).finished) at; blocked = ap (λ q. (written q s).blocked) at; ended = ap (λ q. (written q s).ended) at; left = λ is there. absurd (both_ways _ acting.unsettled is) })
      looks rebuilds
      (λ made. absurd (unlooked made)) (subst (λ q. TakesFit (number_of now) now.locks (written q s).taken (written q s).left) (sym at) tt)))
      refl refl refl (λ stop. cc stop) none appends
    where
      event : Event
      event = events.Write xid (items_drawn old draft)

      later : Facts
      later = facts_by old was.progress.id (was.progress.finished + 1) event facts

      now : Session
      now = entered (facts_of (with_own old was.progress event) was.progress.id) (drop was.progress.finished was.progress.commands) (length old + 1) (was.progress.finished + 1) event s

      before : LooksFit facts s was.looked was.frames was.told
      before = waits.fits.looks

      started : started_in (number_of now) later ≡ started_in (number_of s) facts
      started = ap (λ q. started_in (length (written q s).finished + 1) later) at ∙ started_still (number_of s) (was.progress.finished + 1) facts.running acting.runs

      -- no look was made for the next scan
      no_looks : looked_on_top was.looked was.frames ≡ 0
      no_looks = ap (looked_on_top was.looked) acting.bare ∙ ap one_if (false_from_ne_true was.looked unlooked)

      looks : LooksFit later now was.looked (frames_wrote kept_then) was.told
      looks = record {
        enough = omega (arith, before.enough, ap looks_due acting.owed, started, after_less kept_then (held_before s) (messages_in old was.progress.id (items_drawn old draft)) []);
        within = omega (arith, before.within, ap looks_due acting.owed, started, no_looks, told_most was.told (frames_wrote kept_then), ap came_well at, ap (λ q. came_well (written q s).left) at, ap (λ q. one_if (written q s).ended) at);
        once = omega (arith, before.once, started, ap (λ q. one_if (written q s).ended) at);
      }

      usable_then : is_kept later.kept ≡ (λ scan. is_spared scan (messages_in old was.progress.id (items_drawn old draft)) && is_kept facts.kept scan)
      usable_then = λ i scan. (is_kept-spared (messages_written old was.progress.id (items_drawn old draft)) facts.kept scan ∙ ap (λ t. t && is_kept facts.kept scan) (sym (spared_alike old was.progress.id (items_drawn old draft) scan))) i

      stack : IsStack (is_kept later.kept) (held_before s) (frames_wrote kept_then)
      stack = subst (λ h. IsStack h (held_before s) (frames_wrote kept_then)) (sym usable_then)
          (stack_after kept_then (is_kept facts.kept) (held_before s) (messages_in old was.progress.id (items_drawn old draft)) []
          (record { found = λ o among. inl (each_whole (is_kept facts.kept) (held_before s) o open_whole among); each = tt; once = tt }))

      keeps : keeps_whole later now ≡ true
      keeps = ap (λ q. not (is_gone_due later.due) && not (is_lost (written q s)) && not (has_error (written q s).left)) at ∙ ap (λ t. not false && not (t && false) && not false) going_on

      rebuilds : FramesFit later (command_at was) now (frames_wrote kept_then)
      rebuilds = record {
        stack = λ keeps_it. subst (λ held. IsStack (is_kept later.kept) held (frames_wrote kept_then)) (sym (ap (λ q. (written q s).opened) at)) stack;
        over = λ over. absurd (both_ways _ over keeps);
        badly = λ badly. absurd (let both : Well ≡ Badly = sym (ap (λ q. outcome_of (written q s).left) at) ∙ badly in cc both);
        past = λ none. absurd (let both : Some next.command ≡ None = sym next.free.at ∙ none in cc both);
      }

  -- so it does where no memory is refused, neither for it nor for the rebuilds
  pub wrote_agrees : {D : Type 0} (first : Backend) → was.progress.id ≡ first.progress.id → (new : List Entry) (had has : ℕ → ℕ) (p : Progress) (kept_then : Purpose → Bool) (frames : List Frame) (result : Result (Unit {0}) D) (made : Made) (messages : List Message) (known : Option Oid) → known ≡ relation_made draft.changes made.first_oid → MakesWrite old new had has was.progress.id (was.progress.finished + 1) draft made → messages ≡ made.messages.items → p.answer ≡ None
      → ((scenario : Scenario) (seen : List Entry) (items : List Item) → (rests : Rests scenario seen was.progress) → messages ≡ messages_in seen was.progress.id items → flat_map (locked_by (was.progress.finished + 1)) items ≡ locks_made (was.progress.finished + 1) known → HasEntered scenario seen was.progress (events.Write made.xid items) rests p)
      → (held : List Opening) (given : List Message) → held ≡ p.opened → given ≡ made.messages.items → OnOk result (frames ≡ frames_after kept_then held given was.frames)
      → OnOk result (Enters scenario old new had has first (record was { progress = p; frames = frames }))
  wrote_agrees first id new had has p kept_then frames (Err e) made messages known same makes are none goes held given opens gives told = tt
  wrote_agrees first id new had has p kept_then frames (Ok x) made messages known same makes are none goes held given opens gives told = alike_enters scenario old new had has first was (record was { progress = p; frames = frames }) id
      (subst (λ l. Enters scenario old new had has was (record was { progress = p; frames = l })) (sym frames_are)
      (wrote_enters new had has p kept_then made.xid entered_it none makes.appends))
    where
      entered_it : HasEntered scenario old was.progress (events.Write made.xid (items_drawn old draft)) waits.rests p
      entered_it = goes scenario old (items_drawn old draft) waits.rests (are ∙ makes.messages) (suits.locks made.first_oid makes.first ∙ ap (locks_made (was.progress.finished + 1)) (sym same))

      frames_are : frames ≡ frames_wrote kept_then
      frames_are = told ∙ (λ i. frames_after kept_then ((opens ∙ ap (λ (x : Session). x.opened) entered_it.session ∙ ap (λ q. (written q s).opened) at) i) ((gives ∙ makes.messages) i) (acting.bare i))

  -- and after one that is refused
  pub clash_enters : (first : Backend) → was.progress.id ≡ first.progress.id → (new : List Entry) (had has : ℕ → ℕ) (p : Progress) (name : List ℕ) (clash : Clash) → HasEntered scenario old was.progress (clash_event name clash) waits.rests p → p.answer ≡ None
      → Writes old new had has was.progress.id (was.progress.finished + 1) draft (Err (refusals.Clash name clash)) → Enters scenario old new had has first (record was { progress = p })
  clash_enters first id new had has p name clash goes none writes = let refused = clashes_as old new had has was.progress.id (was.progress.finished + 1) draft name clash writes in alike_enters scenario old new had has first was (record was { progress = p }) id (failed_enters scenario old new had has was p (clash_event name clash) (error_of name clash) next.command waits played courses acting unlooked (clash_shows scenario old was s name clash)
      (subst (λ o. MayPlayIn (next_oid old) facts o s (clash_event name clash)) (sym next.free.at)
      (clash_plays (next_oid old) facts next.command s name clash owed_none (subst (λ p. IsClash facts p name) (sym at) (subst (λ l. list_any (bytes_eq name) l ≡ true) (all_names facts was.progress.opened (next_oid old) draft.new_oids draft.changes draft.forced (subst (PutsOpened was.progress.opened) at waits.rests.holds.puts).0) (suits.names read name refused.is_new))))) goes none refused.appends)

  -- what is noted with it
  pub wrote_noted : {D : Type 0} (new : List Entry) (had has : ℕ → ℕ) (p : Progress) (frames : List Frame) (result : Result (Unit {0}) D) (made : Made) (messages : List Message) (known : Option Oid) → known ≡ relation_made draft.changes made.first_oid → MakesWrite old new had has was.progress.id (was.progress.finished + 1) draft made → messages ≡ made.messages.items → kept_at p ≡ kept_spared messages (kept_at was.progress)
      → ((scenario : Scenario) (seen : List Entry) (items : List Item) → (rests : Rests scenario seen was.progress) → messages ≡ messages_in seen was.progress.id items → flat_map (locked_by (was.progress.finished + 1)) items ≡ locks_made (was.progress.finished + 1) known → HasEntered scenario seen was.progress (events.Write made.xid items) rests p)
      → (held : List Opening) (given : List Message) → held ≡ p.opened → given ≡ made.messages.items → OnOk result (frames ≡ frames_after (is_kept (kept_at p)) held given was.frames) → OnOk result (IsNoted scenario old new was nexts.Write (record was { progress = p; frames = frames }))
  wrote_noted new had has p frames (Err e) made messages known same makes are kept goes held given opens gives told = tt
  wrote_noted new had has p frames (Ok x) made messages known same makes are kept goes held given opens gives told = record {
    event = events.Write made.xid (items_drawn old draft);
    made = tt;
    entered = makes.appends.entries;
    goes = entered_here scenario old new was.progress p (events.Write made.xid (items_drawn old draft)) waits.rests entered_it makes.appends.entries;
    noted = λ i. record (noted_of was) { frames = (told ∙ frames_are) i };
  }
    where
      entered_it : HasEntered scenario old was.progress (events.Write made.xid (items_drawn old draft)) waits.rests p
      entered_it = goes scenario old (items_drawn old draft) waits.rests (are ∙ makes.messages) (suits.locks made.first_oid makes.first ∙ ap (locks_made (was.progress.finished + 1)) (sym same))

      now_kept : kept_at p ≡ kept_spared (messages_in old was.progress.id (items_drawn old draft)) (kept_at was.progress)
      now_kept = kept ∙ ap (λ m. kept_spared m (kept_at was.progress)) (are ∙ makes.messages)

      frames_are : frames_after (is_kept (kept_at p)) held given was.frames ≡ frames_after (is_kept (kept_spared (messages_in old was.progress.id (items_drawn old draft)) (kept_at was.progress))) (held_in was.progress.blocks.block was.progress.opens) (messages_in old was.progress.id (items_drawn old draft)) was.frames
      frames_are = λ i. frames_after (is_kept (now_kept i)) ((opens ∙ ap (λ (x : Session). x.opened) entered_it.session ∙ ap (λ q. (written q s).opened) at) i) ((gives ∙ makes.messages) i) was.frames

  -- and with one that is refused
  pub clash_noted : (new : List Entry) (had has : ℕ → ℕ) (p : Progress) (name : List ℕ) (clash : Clash) → HasEntered scenario old was.progress (clash_event name clash) waits.rests p → Writes old new had has was.progress.id (was.progress.finished + 1) draft (Err (refusals.Clash name clash)) → IsNoted scenario old new was nexts.Write (record was { progress = p })
  clash_noted new had has p name clash goes writes = record {
    event = clash_event name clash;
    made = clash_comes (refusal_left old was.progress.id (plan_at was.progress.opens was.progress.exec)) name clash (ap (refusal_left old was.progress.id) at ∙ refused.first);
    entered = appended;
    goes = entered_here scenario old new was.progress p (clash_event name clash) waits.rests goes appended;
    noted = clash_leaves old was name clash;
  }
    where
      refused : Clashes old new had has was.progress.id draft name (entry_of was.progress.id (was.progress.finished + 1) (clash_event name clash))
      refused = clashes_as old new had has was.progress.id (was.progress.finished + 1) draft name clash writes

      appended : new ≡ with_own old was.progress (clash_event name clash)
      appended = refused.appends.entries
