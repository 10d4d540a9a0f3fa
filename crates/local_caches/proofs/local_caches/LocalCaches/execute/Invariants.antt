use Rattle.std.proofs.Common.{take}
use Rattle.local_caches.proofs.local_caches.LocalCaches.execute.Given as goal
use Rattle.local_caches.proofs.Executing.{HasExecuted}

-- the messages so far are executed
abbrev pub invariant-loop-message : goal.invariant-loop-message
invariant-loop-message l = HasExecuted l.fn.self l.self (take l.message-index l.messages)
