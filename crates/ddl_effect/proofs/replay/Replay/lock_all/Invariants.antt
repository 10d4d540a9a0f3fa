use Rattle.std.proofs.Common.{◌≡◌, drop}
use Rattle.ddl_effect.specs.Types.{Draft}
use Rattle.ddl_effect.specs.Parts.{locking_all}
use Rattle.ddl_effect.specs.Replays.{after_all}
use Rattle.ddl_effect.proofs.replay.Replay.lock_all.Given as goal

abbrev pub invariant-loop-rel : goal.invariant-loop-rel
invariant-loop-rel l = (draft : Draft) → after_all l.fn.self (locking_all l.opens l.rels draft) ≡ after_all l.self (locking_all l.opens (drop l.rel-index l.rels) draft)
