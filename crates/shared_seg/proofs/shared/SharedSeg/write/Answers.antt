use Rattle.std.proofs.Common.{◌∙◌, ◌++◌, ◌∷◌, [], length, sum, slice_set, refl, sym, ap, subst, arith}
use Rattle.std.specs.List.{flat_map}
use Rattle.shared_seg.specs.Naming.{NamesFree}
use Rattle.segment_rows.specs.Kept.{reader_of}
use Rattle.segment_rows.specs.Words.{messages_at}
use Rattle.history_ledger.specs.Words.{IsCounted}
use Rattle.shared_seg.specs.Transactions.{transaction_at, transaction_by, xid_at}
use Rattle.shared_seg.specs.Kept.{Kept}
use Rattle.shared_seg.proofs.Asked.{asked_within}
use Rattle.shared_seg.proofs.Queue.{clash_still}
use Rattle.shared_seg.proofs.Writing.{drawn_of, may_enter, write_allowed, write_draws, write_granted, write_entered, write_announced, write_keeps, taken_of, taken_allowed, taken_is_new, taken_first, clash_counted, clash_keeps, clash_writes_at, makes_write}
use Rattle.shared_seg.proofs.Unchanged.{keeps_same, unchanged}
use Rattle.shared_seg.proofs.shared.SharedSeg.write.Goals as goal

pub invariant_of-self-in-Some : goal.invariant_of-self-in-Some
invariant_of-self-in-Some c =
    let own = c.own_xid-own.ensures ∙ ap (λ ts. xid_at ts c.args.b) c.deref.ensures.value in
    let taken = taken_of _ _ _ _ _ c.in-Some.taken own c.deref-2.ensures.value c.in-Some.ensures in
    let allowed = taken_allowed _ _ _ _ _ _ c.args.b c.args.c c.self.invariant.folds c.in-Ok.drawn.items.items c.in-Some.taken taken in
    let entered = c.in-Ok-add.ensures.ok ∙ ap (λ e. c.self.inside.places.entries ++ e ∷ []) c.clash_entry.ensures in
    record {
      folds = clash_keeps _ _ _ _ c.args.b c.args.c c.in-Some.taken.name c.in-Some.taken.clash _ _ _ _ c.self.view_is c.self.invariant.folds c.requires.call allowed entered c.add.ensures.promised
          (c.enter_running.ensures ∙ ap (λ event. slice_set c.self.inside.transactions.items c.args.b (transaction_by c.args.c event (transaction_at c.self.inside.transactions.items c.args.b))) c.clash_event.ensures);
      queued = clash_still _ _ _ c.args.b c.args.c c.in-Some.taken.name c.in-Some.taken.clash _ c.self.view_is c.self.invariant.queued c.requires.call allowed entered;
    }

pub returns-in-Some-clause-writes : goal.returns-in-Some-clause-writes
returns-in-Some-clause-writes c =
    let entered = c.in-Ok-add.ensures.ok ∙ ap (λ e. c.self.inside.places.entries ++ e ∷ []) c.clash_entry.ensures in
    let own = c.own_xid-own.ensures ∙ ap (λ ts. xid_at ts c.args.b) c.deref.ensures.value in
    let taken = taken_of _ _ _ _ _ c.in-Some.taken own c.deref-2.ensures.value c.in-Some.ensures in
    let drawn = drawn_of _ _ c.args.draft.now _ _ c.self.inside.rows c.in-Ok.drawn own c.next_oid-next.ensures c.last_xid.ensures c.in-Ok.ensures in
    clash_writes_at _ _ _ _ c.args.b c.args.c c.args.draft.now c.in-Some.taken _ c.refusal_of.ensures c.self.view_is c.requires.call
    (taken_allowed _ _ _ _ _ _ c.args.b c.args.c c.self.invariant.folds c.in-Ok.drawn.items.items c.in-Some.taken taken)
    (taken_is_new _ _ _ _ _ _ c.args.b c.args.c c.self.invariant.folds c.args.draft.now c.in-Ok.drawn c.in-Some.taken drawn taken)
    (taken_first _ _ _ _ _ _ c.args.b c.args.c c.self.invariant.folds c.args.draft.now c.in-Ok.drawn c.in-Some.taken drawn taken) entered c.add.ensures.promised

pub enter_write-requires-clause-free : goal.enter_write-requires-clause-free
enter_write-requires-clause-free c =
    let own = c.own_xid-own.ensures ∙ ap (λ ts. xid_at ts c.args.b) c.deref.ensures.value in
    let drawn = drawn_of _ _ c.args.draft.now _ _ c.self.inside.rows c.in-Ok.drawn own c.next_oid-next.ensures c.last_xid.ensures c.in-Ok.ensures in
    let enter = may_enter _ _ c.args.b c.args.c c.self.inside.rows _ c.args.draft.now c.in-Ok.drawn _ c.self.view_is c.requires.call c.requires.write own drawn (subst (NamesFree c.self.inside.rows.store c.own_xid-own.result) c.deref-2.ensures.value c.in_default-first_taken.ensures) in
    write_granted _ _ _ _ _ _ c.args.b c.args.c c.self.invariant.folds c.args.draft.now c.in-Ok.drawn enter

pub enter_write-requires-clause-draws : goal.enter_write-requires-clause-draws
enter_write-requires-clause-draws c =
    let own = c.own_xid-own.ensures ∙ ap (λ ts. xid_at ts c.args.b) c.deref.ensures.value in
    let drawn = drawn_of _ _ c.args.draft.now _ _ c.self.inside.rows c.in-Ok.drawn own c.next_oid-next.ensures c.last_xid.ensures c.in-Ok.ensures in
    let enter = may_enter _ _ c.args.b c.args.c c.self.inside.rows _ c.args.draft.now c.in-Ok.drawn _ c.self.view_is c.requires.call c.requires.write own drawn (subst (NamesFree c.self.inside.rows.store c.own_xid-own.result) c.deref-2.ensures.value c.in_default-first_taken.ensures) in
    write_draws _ _ _ _ _ _ c.args.b c.args.c c.self.invariant.folds c.args.draft.now c.in-Ok.drawn enter

pub invariant_of-self-2 : goal.invariant_of-self-2
invariant_of-self-2 c =
    let own = c.own_xid-own.ensures ∙ ap (λ ts. xid_at ts c.args.b) c.deref.ensures.value in
    let drawn = drawn_of _ _ c.args.draft.now _ _ c.self.inside.rows c.in-Ok.drawn own c.next_oid-next.ensures c.last_xid.ensures c.in-Ok.ensures in
    let enter = may_enter _ _ c.args.b c.args.c c.self.inside.rows _ c.args.draft.now c.in-Ok.drawn _ c.self.view_is c.requires.call c.requires.write own drawn (subst (NamesFree c.self.inside.rows.store c.own_xid-own.result) c.deref-2.ensures.value c.in_default-first_taken.ensures) in
    write_keeps _ _ _ _ c.args.b c.args.c c.args.draft.now c.in-Ok.drawn _ _ _ _ _ _ _ c.self.view_is c.self.invariant c.requires.call enter c.in-Ok-enter_write.ensures.entries c.enter_write.ensures.promised c.in-Ok-enter_write.ensures.rows c.in-Ok-enter_write.ensures.held c.enter_running-2.ensures

pub returns-clause-writes : goal.returns-clause-writes
returns-clause-writes c =
    let own = c.own_xid-own.ensures ∙ ap (λ ts. xid_at ts c.args.b) c.deref.ensures.value in
    let drawn = drawn_of _ _ c.args.draft.now _ _ c.self.inside.rows c.in-Ok.drawn own c.next_oid-next.ensures c.last_xid.ensures c.in-Ok.ensures in
    let enter = may_enter _ _ c.args.b c.args.c c.self.inside.rows _ c.args.draft.now c.in-Ok.drawn _ c.self.view_is c.requires.call c.requires.write own drawn (subst (NamesFree c.self.inside.rows.store c.own_xid-own.result) c.deref-2.ensures.value c.in_default-first_taken.ensures) in
    let messages = c.in-Ok-announced.ensures.now ∙ ap (flat_map (messages_at c.self.inside.rows.store (reader_of c.own_xid-own.result))) c.deref-3.ensures.value in
    makes_write _ _ _ _ c.args.b c.args.c c.self.inside.rows.next_oid c.args.draft.now _ c.self.view_is c.requires.call
    (write_allowed _ _ _ _ _ _ c.args.b c.args.c c.self.invariant.folds c.args.draft.now c.in-Ok.drawn enter) enter.may.orderly
    (write_entered _ _ _ _ _ _ c.args.b c.args.c c.self.invariant.folds c.args.draft.now c.in-Ok.drawn _ enter c.in-Ok-enter_write.ensures.entries) c.enter_write.ensures.promised drawn.first c.self.invariant.folds.rows_are.next_oid_is
    (write_announced _ _ _ _ _ _ c.args.b c.args.c c.self.invariant.folds c.args.draft.now c.in-Ok.drawn _ _ enter own messages)

pub invariant_of-self-inside-in_default-enter_write : goal.invariant_of-self-inside-in_default-enter_write
invariant_of-self-inside-in_default-enter_write c = (omega (arith, ap length c.in_default-enter_write.ensures.same_entries, ap sum c.enter_write.ensures.promised, c.self.inside.short), tt)

pub invariant_of-self-in_default-enter_write : goal.invariant_of-self-in_default-enter_write
invariant_of-self-in_default-enter_write c = keeps_same _ _ _ _ _ _ _ _ _ _ _ c.in_default-enter_write.ensures.same_entries (ap length c.enter_write.ensures.promised) c.in_default-enter_write.ensures.same_rows c.in_default-enter_write.ensures.same_held c.self.invariant

pub invariant_of-self : goal.invariant_of-self
invariant_of-self c = keeps_same _ _ _ _ _ _ _ _ _ _ _ c.in_default-add.ensures.err (ap length c.add.ensures.promised) refl refl c.self.invariant

pub enter_running-requires-2-clause-within : goal.enter_running-requires-2-clause-within
enter_running-requires-2-clause-within c = asked_within _ _ c.args.b c.args.c _ c.self.view_is c.requires.call (c.self.inside.transactions.ok.0 ∙ c.self.invariant.folds.slots)

pub enter_running-requires-clause-within : goal.enter_running-requires-clause-within
enter_running-requires-clause-within c = asked_within _ _ c.args.b c.args.c _ c.self.view_is c.requires.call (c.self.inside.transactions.ok.0 ∙ c.self.invariant.folds.slots)

pub enter_running-requires-clause-counted : goal.enter_running-requires-clause-counted
enter_running-requires-clause-counted c = subst (λ event. IsCounted event (transaction_at c.self.inside.transactions.items c.args.b)) (sym c.clash_event.ensures) (clash_counted c.in-Some.taken.name c.in-Some.taken.clash _)

pub returns-in_default-enter_write-clause-writes : goal.returns-in_default-enter_write-clause-writes
returns-in_default-enter_write-clause-writes c = unchanged _ _ _ _ c.self.view_is c.in_default-enter_write.ensures.same_entries c.enter_write.ensures.promised

pub returns-in_default-add-clause-writes : goal.returns-in_default-add-clause-writes
returns-in_default-add-clause-writes c = unchanged _ _ _ _ c.self.view_is c.in_default-add.ensures.err c.add.ensures.promised

pub returns-clause-script : goal.returns-clause-script
returns-clause-script c = ap (λ (k : Kept). k.script) c.self.view_is

pub returns-in_default-enter_write-clause-script : goal.returns-in_default-enter_write-clause-script
returns-in_default-enter_write-clause-script c = ap (λ (k : Kept). k.script) c.self.view_is

pub returns-in-Some-clause-script : goal.returns-in-Some-clause-script
returns-in-Some-clause-script c = ap (λ (k : Kept). k.script) c.self.view_is

pub returns-in_default-add-clause-script : goal.returns-in_default-add-clause-script
returns-in_default-add-clause-script c = ap (λ (k : Kept). k.script) c.self.view_is
