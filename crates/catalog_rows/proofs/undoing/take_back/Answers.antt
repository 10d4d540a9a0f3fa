use Rattle.std.proofs.Common.{◌≡◌, ◌<◌, ◌+◌, ◌-◌, ◌∙◌, None, ◌∷◌, ℕ, length, get_or, drop, refl, subst, arith}
use Rattle.catalog_rows.specs.Store.{is_back}
use Rattle.catalog_rows.specs.Slots.{Settles, slot_back}
use Rattle.catalog_rows.proofs.SlotLists.{list_before}
use Rattle.catalog_rows.proofs.undoing.take_back.Goals as goal

pub loop-turn-preserved : goal.loop-turn-preserved
loop-turn-preserved c =
    let list = c.args.list.now in
    let turn = c.loop-turn.turn in
    let step = slot_back (is_back c.args.xid c.args.from) in
    let before : length c.args.list.now - c.loop-turn.turn ≡ length c.args.list.now - 1 - c.loop-turn.turn + 1 = omega (arith, c.loop-turn-test.true) in
    let after : length c.args.list.now - 1 - c.loop-turn.turn ≡ length c.args.list.now - (c.loop-turn.turn + 1) = omega arith in
    let within : length c.args.list.now - 1 - c.loop-turn.turn < length c.args.list.now = omega (arith, c.loop-turn-test.true) in
    record {
      numbered = c.restore.ensures.numbered;
      only = c.restore.ensures.only;
      current = λ committed running current. c.restore.ensures.current committed running (c.loop-turn.invariant.current committed running current);
      whole = c.restore.ensures.whole ∙ c.loop-turn.invariant.whole;
      settles = subst (λ (k : ℕ). Settles step (drop k list) (None ∷ c.args.slots.now) (None ∷ c.restore.new.slots)) after
          (list_before step list (length list - 1 - turn) (get_or list (length list - 1 - turn) 0) 0 (None ∷ c.args.slots.now) (None ∷ c.loop-turn.slots) (None ∷ c.restore.new.slots) within refl
          (subst (λ (k : ℕ). Settles step (drop k list) (None ∷ c.args.slots.now) (None ∷ c.loop-turn.slots)) before c.loop-turn.invariant.settles) c.restore.ensures.settles);
    }
