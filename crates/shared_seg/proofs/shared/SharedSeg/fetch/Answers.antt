use Rattle.std.proofs.Common.{◌≡◌, ◌∙◌, ◌++◌, ◌∷◌, [], slice_set, refl, sym, ap, subst}
use Rattle.event_kinds.specs.declared.entry.Event.TheVariants.{Fetch}
use Rattle.seg_calls.specs.Calls.{entry_of}
use Rattle.shared_seg.specs.KeepsQueue.{event_of_fetch}
use Rattle.shared_seg.specs.Kept.{Kept}
use Rattle.shared_seg.specs.Transactions.{transaction_at, transaction_by}
use Rattle.history_ledger.specs.Words.{IsCounted}
use Rattle.shared_seg.proofs.Entered.{call_inside, within, called_within}
use Rattle.shared_seg.proofs.Queue.{placed_queued, active_needs}
use Rattle.shared_seg.proofs.Fetched.{fetch_alive, fetch_due, fetch_given, fetch_queued, fetch_call, fetches_due, fetch_folds, fetch_counted}
use Rattle.shared_seg.proofs.shared.SharedSeg.fetch.Goals as goal

pub fetch-fetched-requires-clause-active : goal.fetch-fetched-requires-clause-active
fetch-fetched-requires-clause-active c = active_needs _ _ c.args.b c.args.c (Fetch _) _ c.self.view_is c.self.invariant.queued c.requires.call refl

pub invariant_of-self : goal.invariant_of-self
invariant_of-self c =
    let alive = fetch_alive _ _ c.args.b c.args.c _ c.self.view_is c.requires.call in
    let due = fetch_due c.self.inside.script.scenario _ _ c.args.b c.fetch-fetched.result c.self.invariant.queued alive c.fetch-fetched.ensures.answer in
    let call = fetch_call _ _ c.args.b c.args.c c.fetch-fetched.result c.self.view_is c.requires.call due in
    let inside = call_inside _ _ (entry_of c.args.b c.args.c (event_of_fetch c.fetch-fetched.result)) c.self.view_is call in
    let entries : c.append.new.self.entries ≡ c.self.inside.places.entries ++ entry_of c.args.b c.args.c (event_of_fetch c.fetch-fetched.result) ∷ [] =
    c.append.ensures.entries ∙ ap (λ event. c.self.inside.places.entries ++ entry_of c.args.b c.args.c event ∷ []) c.fetch_event-event.ensures in
    record {
      folds = fetch_folds _ _ _ _ c.args.b c.args.c c.fetch-fetched.result _ _ _ _ c.self.view_is c.self.invariant.folds call entries c.append.ensures.promised
          (c.enter_running.ensures ∙ ap (λ event. slice_set c.self.inside.transactions.items c.args.b (transaction_by c.args.c event (transaction_at c.self.inside.transactions.items c.args.b))) c.fetch_event-event.ensures);
      queued = placed_queued c.self.inside.script.scenario _ _ (entry_of c.args.b c.args.c (event_of_fetch c.fetch-fetched.result)) _ _ entries c.fetch-fetched.ensures.queue
          (fetch_queued c.self.inside.script.scenario _ c.args.b c.args.c c.fetch-fetched.result _ (within c.self.inside.script.scenario c.args.b _ inside.backend c.self.invariant.queued.slots) c.self.invariant.queued alive due);
    }

pub returns-clause-fetches : goal.returns-clause-fetches
returns-clause-fetches c =
    let alive = fetch_alive _ _ c.args.b c.args.c _ c.self.view_is c.requires.call in
    let due = fetch_due c.self.inside.script.scenario _ _ c.args.b c.fetch-fetched.result c.self.invariant.queued alive c.fetch-fetched.ensures.answer in
    let entries : c.append.new.self.entries ≡ c.self.inside.places.entries ++ entry_of c.args.b c.args.c (event_of_fetch c.fetch-fetched.result) ∷ [] =
    c.append.ensures.entries ∙ ap (λ event. c.self.inside.places.entries ++ entry_of c.args.b c.args.c event ∷ []) c.fetch_event-event.ensures in
    fetches_due _ _ _ _ c.args.b c.args.c c.fetch-fetched.result _ c.self.view_is (fetch_call _ _ c.args.b c.args.c c.fetch-fetched.result c.self.view_is c.requires.call due) c.self.invariant.folds.backends due
    (fetch_given c.self.inside.script.scenario _ _ c.args.b _ c.self.invariant.queued alive c.fetch-fetched.ensures.given) entries c.append.ensures.promised

pub returns-clause-script : goal.returns-clause-script
returns-clause-script c = ap (λ (k : Kept). k.script) c.self.view_is

pub enter_running-requires-clause-within : goal.enter_running-requires-clause-within
enter_running-requires-clause-within c = called_within _ _ _ _ c.self.view_is c.requires.call (c.self.inside.transactions.ok.0 ∙ c.self.invariant.folds.slots)

pub enter_running-requires-clause-counted : goal.enter_running-requires-clause-counted
enter_running-requires-clause-counted c = subst (λ event. IsCounted event (transaction_at c.self.inside.transactions.items c.args.b)) (sym c.fetch_event-event.ensures) (fetch_counted c.fetch-fetched.result _)
