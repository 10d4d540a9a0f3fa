-- The queue over one more entry.
use Rattle.std.proofs.Common.{◌≡◌, List, [], ◌∷◌, ◌++◌}
use Rattle.history_model.proofs.Prefixes.{along-more}
use Rattle.sinval_ring.specs.Queues.{empty_queue}
use Rattle.seg_calls.specs.Types.{Scenario, Entry}
use Rattle.seg_calls.specs.Queue.{queue_by, queue_of}

pub queue_of-more : (script : Scenario) (history : List Entry) (e : Entry) → queue_of script (history ++ e ∷ []) ≡ queue_by history e.backend e.event (queue_of script history)
queue_of-more script history e = along-more (λ before queue e. queue_by before e.backend e.event queue) (empty_queue script.size script.backends script.from) history e
