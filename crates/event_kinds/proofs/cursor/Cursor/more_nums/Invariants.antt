use Rattle.std.proofs.Common.{◌≡◌, ◌+◌, ◌-◌, [], ◌∷◌, length, codes}
use Rattle.event_kinds.specs.Readers.{more_at, with_front}
use Rattle.event_kinds.specs.Reading.{digits_at}
use Rattle.event_kinds.proofs.cursor.Cursor.more_nums.Given as goal

abbrev pub invariant-turns : goal.invariant-turns
invariant-turns l = record {
  few : length l.nums ≡ l._turn + 1;
  same : with_front l.nums (more_at (codes "+") digits_at (31 - l._turn) l.self) ≡ with_front (l.fn.first ∷ []) (more_at (codes "+") digits_at 31 l.fn.self);
}
