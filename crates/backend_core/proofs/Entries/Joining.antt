-- A backend joins.
use Rattle.std.proofs.Common.{◌≡◌, ◌+◌, ◌∙◌, ◌∷◌, ◌++◌, ◌==◌, ℕ, true, false, Option, None, List, [], refl, sym, ap, subst, length, slice_get, arith}
use Rattle.std.proofs.lemmas.Bool.{eq-eqb}
use Rattle.event_kinds.specs.declared.entry.Event.TheVariants as events
use Rattle.txn_blocks.specs.Blocks.{no_block}
use Rattle.inval_messages.specs.Lists.{has_write_from}
use Rattle.std.specs.Option.{option_map_or}
use Rattle.history_model.specs.MayFollow.{MayFollow, FollowsVisible, FollowsGone}
use Rattle.history_model.specs.MayFollow.{FollowsLife}
use Rattle.history_model.specs.Lives.{life_of}
use Rattle.history_model.specs.Transactions.{is_visible}
use Rattle.txn_blocks.specs.declared.transaction.RunningTransaction.{RunningTransaction as Running}
use Rattle.history_model.proofs.Sound.{sound_is_legal}
use Rattle.history_model.proofs.Reading.{life_of-own}
use Rattle.seg_calls.specs.Calls.{entry_of, MayCall, Appends}
use Rattle.cacheless.specs.Facts.{Facts, facts_of}
use Rattle.cacheless.specs.Holds.{HasStarted}
use Rattle.cacheless.specs.Owed.{owed_after, started_in}
use Rattle.cacheless.specs.Plays.{MayPlayAt}
use Rattle.cacheless.specs.Session.{none_open, at_command}
use Rattle.cacheless.specs.State.{kept_at, session_at}
use Rattle.cacheless.proofs.FactsAfter.{facts_by}
use Rattle.cacheless.proofs.Allowed.TransactionsKept.{transactions_kept}
use Rattle.cacheless.proofs.Reading.{facts_of-own}
use Rattle.cacheless.specs.Awaiting.{AnswersNow}
use Rattle.cacheless.proofs.OwnAnswers.{start_answers}
use Rattle.backend_core.specs.Types.{Command, Scenario, Entry, Progress, Backend}
use Rattle.backend_core.specs.declared.life.Life.TheVariants as lives
use Rattle.backend_core.specs.Agrees.{IsPlayed, RunsFit, AgreesNow, HasNotJoined}
use Rattle.backend_core.specs.Fits.{looks_due, Fits}
use Rattle.backend_core.specs.Halts.{AwaitsCommand, begins_at}
use Rattle.backend_core.specs.Steps.{Enters}
use Rattle.backend_core.proofs.Cutting.Before.{before_start, ends_start}
use Rattle.backend_core.proofs.Own.{no_entry, appended_makes}
use Rattle.backend_core.proofs.Fitting.Rebuilding.{bare_fits}
use Rattle.cacheless.specs.declared.progress.Due.TheVariants as dues

-- it may be entered
pub join_call : (scenario : Scenario) (seen : List Entry) (s : Backend) → HasNotJoined scenario seen s → MayCall scenario seen (entry_of s.progress.id 0 events.Start)
join_call scenario seen s before = record {
  backend = before.waits.number;
  number = omega arith;
  follows = record {
    life = subst (λ l. FollowsLife l 0 events.Start) (sym before.life) refl;
    visible = subst (λ o. FollowsVisible (is_visible o) events.Start) (sym (ap (λ f. f.running) before.facts)) tt;
    gone = subst (λ o. FollowsGone o events.Start) (sym before.last) tt;
    event = tt;
  };
}

-- what its choice keeps from then on
fits_first : (facts : Facts) (o : Option Command) (at : ℕ) → facts.running ≡ None → facts.due ≡ dues.Nothing → Fits facts o (at_command no_block none_open [] [] at o) false [] false
fits_first facts o at runs last = record {
  rebuilds = bare_fits facts o (at_command no_block none_open [] [] at o) (λ keeps. refl);
  looks = record { once = omega (arith, none); enough = omega (arith, none, ap (λ l. looks_due (owed_after l)) last); within = omega (arith, none, ap (λ l. looks_due (owed_after l)) last) };
  past = λ over. ap owed_after last;
  relations = record { held = λ going p none. none; over = λ over. absurd (cc over) };
  sought = λ is. absurd (cc is);
  takes = tt;
  unheld = λ is. absurd (cc is);
}
  where
    none : started_in 1 facts ≡ 0
    none = ap (λ r. option_map_or (λ (t : Running). elim (t.first == 1) as (λ x. ℕ) [ true ↦ 1 | false ↦ 0 ]) r 0) runs

-- nor does a transaction run
runs_first : (scenario : Scenario) (old : List Entry) (was : Backend) (o : Option Command) → HasNotJoined scenario old was → RunsFit (facts_by old was.progress.id 0 events.Start (facts_of old was.progress.id)) o (at_command no_block none_open [] [] (length old + 1) o)
runs_first scenario old was o before = (transactions_kept scenario).starts old was.progress.id 0 o (ap (λ f. has_write_from 0 f.lists) before.facts)

-- the state after it
join_agrees : (scenario : Scenario) (old : List Entry) (was : Backend) (p : Progress) → HasNotJoined scenario old was → IsPlayed scenario old → MayFollow old (entry_of was.progress.id 0 events.Start) → HasStarted scenario old was.progress p → kept_at p ≡ kept_at was.progress → p.answer ≡ was.progress.answer
    → AgreesNow scenario (old ++ entry_of was.progress.id 0 events.Start ∷ []) (record was { progress = p; life = lives.Alive })
unfolding start_answers
join_agrees scenario old was p before played follows started kept same = record {
  keeps = record {
    alive = refl;
    life = record { last = 0; alive = ap (life_of (old ++ e ∷ [])) started.moves.id ∙ life_of-own old e b own; most = omega arith };
    absent = answers.absent;
  };
  holds = started.holds;
  runs = subst (λ f. RunsFit f (slice_get p.commands p.finished) (session_at p started.holds.rest)) (sym facts_are)
      (subst (RunsFit facts (slice_get p.commands p.finished)) (sym started.session)
      (subst (λ o. RunsFit facts o (at_command no_block none_open [] [] (length old + 1) (slice_get was.progress.commands 0))) (sym first_command) (runs_first scenario old was (slice_get was.progress.commands 0) before)));
  fits = subst (λ f. Fits f (slice_get p.commands p.finished) (session_at p started.holds.rest) was.looked was.frames was.told) (sym facts_are)
      (subst (λ x. Fits facts (slice_get p.commands p.finished) x was.looked was.frames was.told) (sym started.session)
      (subst (λ o. Fits facts o (at_command no_block none_open [] [] (length old + 1) (slice_get was.progress.commands 0)) was.looked was.frames was.told) (sym first_command)
      (subst (λ t. Fits facts (slice_get was.progress.commands 0) (at_command no_block none_open [] [] (length old + 1) (slice_get was.progress.commands 0)) was.looked was.frames t) (sym before.new.told)
      (subst (λ t. Fits facts (slice_get was.progress.commands 0) (at_command no_block none_open [] [] (length old + 1) (slice_get was.progress.commands 0)) was.looked t false) (sym before.new.frames)
      (subst (λ t. Fits facts (slice_get was.progress.commands 0) (at_command no_block none_open [] [] (length old + 1) (slice_get was.progress.commands 0)) t [] false) (sym before.new.looked)
      (fits_first facts (slice_get was.progress.commands 0) (length old + 1) refl refl))))));
  tells = answers.tells;
  lines = before.new.lines ∙ answers.lines_are;
  before = before_start scenario old was.progress p started before.new.progress.finished;
}
  where
    b : ℕ
    b = was.progress.id

    e : Entry
    e = entry_of was.progress.id 0 events.Start

    own : (e.backend == b) ≡ true
    own = eq-eqb b b refl

    facts : Facts
    facts = facts_by old b 0 events.Start (facts_of old b)

    facts_are : facts_of (old ++ e ∷ []) p.id ≡ facts
    facts_are = ap (facts_of (old ++ e ∷ [])) started.moves.id ∙ facts_of-own old e b own

    first_command : slice_get p.commands p.finished ≡ slice_get was.progress.commands 0
    first_command = ap (λ l. slice_get l p.finished) started.moves.commands ∙ ap (slice_get was.progress.commands) (started.moves.finished ∙ before.new.progress.finished)

    answers : AnswersNow scenario (old ++ e ∷ []) p []
    answers = start_answers scenario old was.progress p (no_entry before) played.spelled (sound_is_legal old played.sound) played.plays follows started same

pub join_enters : (scenario : Scenario) (old new : List Entry) (had has : ℕ → ℕ) (was : Backend) (p : Progress) → HasNotJoined scenario old was → IsPlayed scenario old → HasStarted scenario old was.progress p → kept_at p ≡ kept_at was.progress → p.answer ≡ was.progress.answer
    → Appends old new had has (entry_of was.progress.id 0 events.Start) → Enters scenario old new had has was (record was { progress = p; life = lives.Alive })
join_enters scenario old new had has was p before played started kept same appends = record {
  makes = appended_makes scenario old new had has (entry_of was.progress.id 0 events.Start) (before.waits.number, subst (λ o. MayPlayAt scenario old was.progress.id o 0 events.Start) (sym before.session) tt) (record { needed = tt; truly = tt; columns = tt; indexes = tt; names = tt; queue = tt }) appends;
  id = started.moves.id;
  agrees = subst (λ h. AgreesNow scenario h (record was { progress = p; life = lives.Alive })) (sym appends.entries) (join_agrees scenario old was p before played appends.comes.follows started kept same);
}

-- then it is at the beginning of a command
start_awaits : (scenario : Scenario) (old : List Entry) (was : Backend) (p : Progress) → HasNotJoined scenario old was → IsPlayed scenario old → MayFollow old (entry_of was.progress.id 0 events.Start) → HasStarted scenario old was.progress p → kept_at p ≡ kept_at was.progress → p.answer ≡ was.progress.answer
    → AwaitsCommand scenario (old ++ entry_of was.progress.id 0 events.Start ∷ []) (record was { progress = p; life = lives.Alive })
unfolding join_agrees
start_awaits scenario old was p before played follows started kept same = record {
  agrees = join_agrees scenario old was p before played follows started kept same;
  begins = started.session ∙ at_first (slice_get was.progress.commands 0) ∙ ap (begins_at p started.holds.rest) (sym first_command);
  ends = λ part number is. ends_start scenario old was.progress p started before.new.progress.finished part is;
  runs = subst (λ f. RunsFit f None (begins_at p started.holds.rest None)) (sym facts_are) (subst (RunsFit facts None) (at_first None) (runs_first scenario old was None before));
  fits = subst (λ f. Fits f None (begins_at p started.holds.rest None) false [] false) (sym facts_are)
      (subst (λ x. Fits facts None x false [] false) (at_first None) (fits_first facts None (length old + 1) refl refl));
  last = 0;
  alive = ap (life_of (old ++ e ∷ [])) started.moves.id ∙ life_of-own old e b own;
  before = omega arith;
}
  where
    b : ℕ
    b = was.progress.id

    e : Entry
    e = entry_of was.progress.id 0 events.Start

    own : (e.backend == b) ≡ true
    own = eq-eqb b b refl

    facts : Facts
    facts = facts_by old b 0 events.Start (facts_of old b)

    facts_are : facts_of (old ++ e ∷ []) p.id ≡ facts
    facts_are = ap (facts_of (old ++ e ∷ [])) started.moves.id ∙ facts_of-own old e b own

    first_command : slice_get p.commands p.finished ≡ slice_get was.progress.commands 0
    first_command = ap (λ l. slice_get l p.finished) started.moves.commands ∙ ap (slice_get was.progress.commands) (started.moves.finished ∙ before.new.progress.finished)

    at_first : (o : Option Command) → at_command no_block none_open [] [] (length old + 1) o ≡ begins_at p started.holds.rest o
    at_first o = ap (λ s. at_command s.blocks s.opens s.finished s.locks s.last o) (sym started.session)

pub join_awaits : (scenario : Scenario) (old new : List Entry) (had has : ℕ → ℕ) (was : Backend) (p : Progress) → HasNotJoined scenario old was → IsPlayed scenario old → HasStarted scenario old was.progress p → kept_at p ≡ kept_at was.progress → p.answer ≡ was.progress.answer
    → Appends old new had has (entry_of was.progress.id 0 events.Start) → AwaitsCommand scenario new (record was { progress = p; life = lives.Alive })
join_awaits scenario old new had has was p before played started kept same appends =
    subst (λ h. AwaitsCommand scenario h (record was { progress = p; life = lives.Alive })) (sym appends.entries) (start_awaits scenario old was p before played appends.comes.follows started kept same)
