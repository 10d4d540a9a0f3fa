use Rattle.std.proofs.Common.{◌∙◌, ℕ, Bool, List, refl, sym, ap, arith}
use Rattle.std.specs.List.{flat_map, list_all}
use Rattle.std.proofs.lemmas.List.{drop_all}
use Rattle.history_model.specs.Drawn.{made_by}
use Rattle.history_model.proofs.ListSteps.{all_at}
use Rattle.history_ledger.specs.Types.{Item}
use Rattle.segment_rows.specs.Kept.{reader_of, reader_at}
use Rattle.segment_rows.specs.Kept.{xid_in}
use Rattle.history_ledger.specs.Held.{standing_of}
use Rattle.segment_rows.specs.Words.{old_at}
use Rattle.history_ledger.specs.Words.{may_change}
use Rattle.history_ledger.specs.declared.ledger.Ledger.{Ledger}
use Rattle.history_ledger.specs.declared.own.Own.{Own}
use Rattle.history_ledger.proofs.ledger.Ledger.may_change_all.Goals as goal

abbrev allowed : Ledger → Own → ℕ → List Item → Item → Bool
allowed self own b items item = may_change self.rows.store self.locks (xid_in (standing_of own).running) b (flat_map made_by items) item (old_at self.rows.store (reader_at (standing_of own)) item)

pub loop-item-preserved : goal.loop-item-preserved
loop-item-preserved c =
    all_at (allowed c.args.self.now c.args.own.now c.args.b c.args.items.now) c.args.items.now c.args.items.now c.loop-item.item-index c.item-item.result _ _ refl c.loop-item-test.true c.item-item.is
    (sym c.if-not-may_change.false ∙ c.may_change.ensures ∙ (λ j. may_change c.args.self.now.rows.store c.args.self.now.locks (c.xid-own.ensures j) c.args.b ((c.deref.ensures.value ∙ c.in_ok-made.ensures) j) c.item-item.result ((c.old_row-old.ensures ∙ ap (λ o. old_at c.args.self.now.rows.store (reader_of o) c.item-item.result) c.xid-own.ensures) j)))
    ∙ c.loop-item.invariant

pub returns-then-not-may_change : goal.returns-then-not-may_change
returns-then-not-may_change c =
    all_at (allowed c.args.self.now c.args.own.now c.args.b c.args.items.now) c.args.items.now c.args.items.now c.loop-item.item-index c.item-item.result _ _ refl c.loop-item-test.true c.item-item.is
    (sym c.if-not-may_change.true ∙ c.may_change.ensures ∙ (λ j. may_change c.args.self.now.rows.store c.args.self.now.locks (c.xid-own.ensures j) c.args.b ((c.deref.ensures.value ∙ c.in_ok-made.ensures) j) c.item-item.result ((c.old_row-old.ensures ∙ ap (λ o. old_at c.args.self.now.rows.store (reader_of o) c.item-item.result) c.xid-own.ensures) j)))
    ∙ c.loop-item.invariant

pub returns : goal.returns
returns c = sym (ap (list_all (allowed c.args.self.now c.args.own.now c.args.b c.args.items.now)) (drop_all c.loop-item.item-index c.args.items.now (omega (arith, c.loop-item-test.false)))) ∙ c.loop-item.invariant
