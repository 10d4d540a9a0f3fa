use Rattle.std.proofs.Common.{◌∙◌, sym}
use Rattle.turn_table.proofs.Numbering.{all_there, all_of}
use Rattle.catsync_tests.proofs.turns.unused.Goals as goal

pub finish-writers-requires-clause-of : goal.finish-writers-requires-clause-of
finish-writers-requires-clause-of c = all_of (λ log. log.writers.items) (λ log seat. 0) c.in_ok-table.table 1 c.in_ok-table.passes.items c.in_ok-table.ensures.passes.1

pub finish-writers-requires-clause-all : goal.finish-writers-requires-clause-all
finish-writers-requires-clause-all c = let t = c.in_ok-table.ensures in all_there (λ log. log.writers.items) (λ log seat. 0) c.in_ok-table.table _ c.in_ok-table.passes.items (t.passes.0 ∙ sym t.told.0) t.passes.1
