use Rattle.std.proofs.Common.{◌≡◌, drop}
use Rattle.std.specs.List.{flat_map, list_all}
use Rattle.history_model.specs.Drawn.{made_by}
use Rattle.history_ledger.specs.Types.{Item}
use Rattle.segment_rows.specs.Kept.{reader_at}
use Rattle.segment_rows.specs.Kept.{xid_in}
use Rattle.history_ledger.specs.Held.{standing_of}
use Rattle.segment_rows.specs.Words.{old_at}
use Rattle.history_ledger.specs.Words.{may_change}
use Rattle.history_ledger.proofs.ledger.Ledger.may_change_all.Given as goal

abbrev pub invariant-loop-item : goal.invariant-loop-item
invariant-loop-item l =
    list_all (λ (item : Item). may_change l.self.rows.store l.self.locks (xid_in (standing_of l.fn.own).running) l.b (flat_map made_by l.items) item (old_at l.self.rows.store (reader_at (standing_of l.fn.own)) item)) (drop l.item-index l.items)
    ≡ list_all (λ (item : Item). may_change l.self.rows.store l.self.locks (xid_in (standing_of l.fn.own).running) l.b (flat_map made_by l.items) item (old_at l.self.rows.store (reader_at (standing_of l.fn.own)) item)) l.items
