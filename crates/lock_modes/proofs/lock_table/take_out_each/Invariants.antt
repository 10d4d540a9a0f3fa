use Rattle.std.proofs.Common.{◌≡◌, ℕ, cond, filter, take}
use Rattle.std.specs.List.{list_any}
use Rattle.lock_modes.specs.GrantLists.{grants_at}
use Rattle.lock_modes.specs.Changes.{is_kept, is_out}
use Rattle.lock_modes.proofs.lock_table.take_out_each.Given as goal

abbrev pub invariant-loop-grant : goal.invariant-loop-grant
invariant-loop-grant l =
    (rel : ℕ) → grants_at l.by_rel rel ≡ cond (list_any (is_out l.released rel) (take l.grant-index l.own)) (filter (is_kept l.released) (grants_at l.fn.by_rel rel)) (grants_at l.fn.by_rel rel)
