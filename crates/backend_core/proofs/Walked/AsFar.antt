-- Two backends that are as far in one history, and note the same: what comes next of them, and what they note after an entry, and after they go on.
use Rattle.std.proofs.Common.{◌≡◌, ◌+◌, ◌∙◌, ◌&&◌, ◌||◌, Bool, true, false, not, Some, List, refl, sym, ap, subst, drop, length, slice_get, map, arith}
use Rattle.std.specs.List.{list_any}
use Rattle.std.specs.Option.{option_map_or}
use Rattle.std.proofs.lemmas.Bool.{both_ways}
use Rattle.base_types.specs.Scans.{same_scan}
use Rattle.base_types.specs.declared.scan.Purpose.TheVariants as scans
use Rattle.event_kinds.specs.declared.entry.Event.TheVariants as events
use Rattle.inval_messages.specs.Messages.{covers}
use Rattle.ddl_effect.specs.Commands.{commands_of}
use Rattle.ddl_effect.specs.Opens.{opens_before}
use Rattle.ddl_effect.specs.Plans.{Plan, Do, Lookup, Open, Search, Read, Lock, Write}
use Rattle.ddl_effect.specs.Stages.{plan_at}
use Rattle.history_model.specs.Log.{fetched_by}
use Rattle.local_caches.specs.Kept.{is_kept, kept_spared}
use Rattle.seg_calls.specs.Calls.{messages_in}
use Rattle.cacheless.specs.Facts.{facts_of}
use Rattle.cacheless.specs.Holds.{Holds, Rests}
use Rattle.cacheless.specs.Owed.{is_free}
use Rattle.cacheless.specs.Session.{Session, Badly, outcome_of, opening_of, held_in}
use Rattle.cacheless.specs.Sessions.{session_of, entered as session_after}
use Rattle.cacheless.specs.Settled.{gives_left}
use Rattle.cacheless.specs.Silently.{IsAtRest, Acts as MayAct}
use Rattle.cacheless.specs.State.{facts_at, session_at, is_absent}
use Rattle.cacheless.specs.Work.{work_of}
use Rattle.cacheless.proofs.Resting.{settled_at_rest}
use Rattle.cacheless.proofs.Same.{work_same}
use Rattle.backend_core.specs.Types.{Scenario, Message, Entry, Event, Next, Progress, Backend}
use Rattle.backend_core.specs.declared.next.Next.TheVariants as nexts
use Rattle.backend_core.specs.Agrees.{command_at}
use Rattle.backend_core.specs.Choice.{next_of, next_at}
use Rattle.backend_core.specs.Fits.{finds_no_name}
use Rattle.backend_core.specs.Frames.{unless, with_rest, frames_after, frames_fetched, frames_reset}
use Rattle.backend_core.specs.Noted.{Noted, noted_of, noted_given, noted_reset, noted_written, noted_by, IsEntered, Settles, Stays, Acts, Passes}
use Rattle.backend_core.specs.Walked.{IsAsFar}
use Rattle.backend_core.specs.Words.{finds_none, is_unfound, has_begun, marks_build, relation_to_open, has_error, frames_looked, frames_noted}

-- so are two whose sessions are one
far_by : (scenario : Scenario) (seen : List Entry) (one two : Progress) (a : Holds scenario seen one) (b : Holds scenario seen two) → one.id ≡ two.id → session_at one a.rest ≡ session_at two b.rest → IsAsFar one two
far_by scenario seen one two a b id same = record {
  id = id;
  commands = a.commands ∙ ap (commands_of scenario) id ∙ sym b.commands;
  finished = sym a.count ∙ ap (λ (s : Session). length s.finished) same ∙ b.count;
  facts = sym a.facts ∙ ap (facts_of seen) id ∙ b.facts;
  work = sym (work_same one a.rest a.count) ∙ ap work_of same ∙ work_same two b.rest b.count;
  opens = ap (λ (s : Session). s.opens) same;
}

-- the session of one that rests is that of the history
pub rests_session : (scenario : Scenario) (seen : List Entry) (s : Progress) (rests : Rests scenario seen s) → session_of scenario seen s.id ≡ Some (session_at s rests.holds.rest)
rests_session scenario seen s rests = rests.holds.is ∙ ap Some (settled_at_rest scenario seen s rests)

pub far_at_rest : (scenario : Scenario) (seen : List Entry) (one two : Progress) → Rests scenario seen one → Rests scenario seen two → one.id ≡ two.id → IsAsFar one two
far_at_rest scenario seen one two a b id = far_by scenario seen one two a.holds b.holds id
    (let same : Some (session_at one a.holds.rest) ≡ Some (session_at two b.holds.rest) = sym (rests_session scenario seen one a) ∙ ap (session_of scenario seen) id ∙ rests_session scenario seen two b in cc same)

-- after one entry they are as far again
pub far_entered : (scenario : Scenario) (old new : List Entry) (one two now done : Progress) (event : Event) → IsAsFar one two → IsEntered scenario old new one event now → IsEntered scenario old new two event done → IsAsFar now done
far_entered scenario old new one two now done event far a b = far_by scenario new now done a.holds b.holds (a.moves.id ∙ far.id ∙ sym b.moves.id)
    (a.after ∙ (λ i. session_after (facts_of new (far.id i)) (drop (far.finished i) (far.commands i)) (length old + 1) (far.finished i + 1) event (same i)) ∙ sym b.after)
  where
    same : a.session ≡ b.session
    same = let both : Some a.session ≡ Some b.session = sym a.before ∙ ap (session_of scenario old) far.id ∙ b.before in cc both

-- what is unfound is so by the facts
unfound_is : (s : Progress) (p : Plan) → is_unfound s p ≡ finds_no_name (facts_at s) s.taken p
unfound_is s (Do (Lookup name mode) rest) = refl
unfound_is s (Do (Open rel kind) rest) = refl
unfound_is s (Do (Search scan) rest) = refl
unfound_is s (Do (Read scan) rest) = refl
unfound_is s (Do (Lock rel mode) rest) = refl
unfound_is s (Do (Write draft) rest) = refl
unfound_is s p = refl

module _ (one two : Backend) (far : IsAsFar one.progress two.progress) (noted : noted_of one ≡ noted_of two) where
  command_same : command_at one ≡ command_at two
  command_same = λ i. slice_get (far.commands i) (far.finished i)

  -- the same comes next
  pub same_next : next_at one ≡ next_at two
  same_next = λ i. next_of (far.facts i) (command_same i) (far.work i) (noted i)

  finds : finds_none one.progress ≡ finds_none two.progress
  finds = ap (λ t. is_absent (plan_at one.progress.opens one.progress.exec) || t) (unfound_is one.progress (plan_at one.progress.opens one.progress.exec))
      ∙ (λ i. is_absent (far.work i).left || finds_no_name (far.facts i) (far.work i).taken (far.work i).left)
      ∙ sym (ap (λ t. is_absent (plan_at two.progress.opens two.progress.exec) || t) (unfound_is two.progress (plan_at two.progress.opens two.progress.exec)))

  marks : (messages : List Message) → marks_build one.progress messages ≡ marks_build two.progress messages
  marks messages = λ i. option_map_or (λ rel. is_kept (far.facts i).kept (scans.Class rel) && list_any (covers (scans.Class rel)) messages) (relation_to_open (far.work i).left) false

  begun : has_begun one.progress ≡ has_begun two.progress
  begun = λ i. option_map_or (λ rel. is_kept (far.facts i).kept (scans.Class rel)) (relation_to_open (far.work i).left) false

  given : (messages : List Message) → noted_given one messages ≡ noted_given two messages
  given messages = λ i. record {
    looked = (noted i).looked && not (finds i) && not (marks messages i);
    frames = unless (has_error (far.work i).left) (noted i).frames (frames_fetched (is_kept (far.facts i).kept) (far.work i).opened messages (noted i).frames);
    told = ((noted i).told || ((noted i).looked && not (marks messages i))) && not (finds i);
  }

  reset : noted_reset one ≡ noted_reset two
  reset = λ i. record {
    looked = (noted i).looked && not (finds i) && not (begun i);
    frames = unless (has_error (far.work i).left) (noted i).frames (frames_reset (is_kept (far.facts i).kept) (far.work i).opened (noted i).frames);
    told = ((noted i).told || ((noted i).looked && not (begun i))) && not (finds i);
  }

  written : (messages : List Message) → noted_written one messages ≡ noted_written two messages
  written messages = λ i. record (noted i) { frames = frames_after (is_kept (kept_spared messages (far.facts i).kept)) (held_in (far.work i).blocks.block (far.opens i)) messages (noted i).frames }

  -- an entry is noted so by both
  pub same_noted : (before : List Entry) (next : Next) (event : Event) → noted_by before one next event ≡ noted_by before two next event
  same_noted before (nexts.LookBeforeScan rebuilds) event = ap (λ (n : Noted). record { looked = n.looked || not rebuilds; frames = frames_looked rebuilds n.frames; told = n.told }) noted
  same_noted before nexts.LookBeforeAbsent event = ap (λ (n : Noted). record { looked = true; frames = n.frames; told = n.told && not n.looked }) noted
  same_noted before nexts.Fetch (events.Fetch count) = given (fetched_by before one.progress.id count) ∙ ap (λ b. noted_given two (fetched_by before b count)) far.id
  same_noted before nexts.Fetch events.FetchReset = reset
  same_noted before (nexts.Scan scan rebuilds) event = λ i. record {
    looked = (noted i).looked && rebuilds;
    frames = frames_noted rebuilds (λ other. same_scan scan other || is_kept (far.facts i).kept other) (far.work i).opened (noted i).frames;
    told = (noted i).told;
  }
  same_noted before (nexts.Lock rel mode) (events.LockOk granted in_mode) = ap (λ (n : Noted). record n { told = false }) noted
  same_noted before nexts.Write (events.Write xid items) = written (messages_in before one.progress.id items) ∙ ap (λ b. noted_written two (messages_in before b items)) far.id
  same_noted before (nexts.Release from) event = λ i. record (noted i) {
    frames = unless (elim (outcome_of (far.work i).left) as (λ x. Bool) [ Badly ↦ true | other ↦ false ]) (noted i).frames (with_rest (is_kept (far.facts i).kept) (map opening_of (opens_before from (far.opens i))) (noted i).frames);
  }
  same_noted before next event = noted

  -- where one acts the other doesn't rest
  acts_both : (now : Backend) → MayAct two.progress → IsAtRest now.progress → now.progress ≡ record one.progress { answer = now.progress.answer } → ⊥
  acts_both now acts still same = both_ways _ ((subst IsAtRest same still) acts.command (command_same ∙ acts.at)).0
      ((λ i. is_free (far.facts i) acts.command (far.work i) && gives_left (far.facts i) (far.work i) (far.work i).left) ∙ acts.acts)

-- so is what they note once they have gone on as far
pub same_settled : (one two now done : Backend) → IsAsFar one.progress two.progress → noted_of one ≡ noted_of two → Settles one now → Settles two done → IsAtRest now.progress → IsAtRest done.progress → now.progress.finished ≡ done.progress.finished → noted_of now ≡ noted_of done
same_settled one two now done far noted (Stays same a) (Stays still b) rests rest number = a ∙ noted ∙ sym b
same_settled one two now done far noted (Stays same a) (Acts does b) rests rest number = absurd (acts_both one two far noted now does.first rests same)
same_settled one two now done far noted (Acts does a) (Stays same b) rests rest number = absurd (acts_both two one (turned far) (sym noted) done does.first rest same)
  where
    turned : IsAsFar one.progress two.progress → IsAsFar two.progress one.progress
    turned f = record { id = sym f.id; commands = sym f.commands; finished = sym f.finished; facts = sym f.facts; work = sym f.work; opens = sym f.opens }
same_settled one two now done far noted (Acts does a) (Acts more b) rests rest number = a ∙ (λ i. record (noted i) { told = (noted i).told && finds one two far noted i }) ∙ sym b
same_settled one two now done far noted (Passes less a) (Passes more b) rests rest number = a ∙ sym b
same_settled one two now done far noted (Passes less a) (Stays same b) rests rest number = absurd (omega (arith, less, number, far.finished, ap (λ (x : Progress). x.finished) same))
same_settled one two now done far noted (Passes less a) (Acts does b) rests rest number = absurd (omega (arith, less, number, far.finished, does.number))
same_settled one two now done far noted (Stays same a) (Passes less b) rests rest number = absurd (omega (arith, less, number, far.finished, ap (λ (x : Progress). x.finished) same))
same_settled one two now done far noted (Acts does a) (Passes less b) rests rest number = absurd (omega (arith, less, number, far.finished, does.number))
