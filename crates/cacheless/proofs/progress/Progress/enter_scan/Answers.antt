use Rattle.std.proofs.Common.{◌∙◌, ap}
use Rattle.cacheless.specs.State.{locks_accepted}
use Rattle.cacheless.proofs.Entries.EnteredScans.{next_lacks}
use Rattle.cacheless.proofs.Entries.EntryCodes.{built_code}
use Rattle.cacheless.proofs.Lacking.{put_known}
use Rattle.cacheless.proofs.progress.Progress.enter_scan.Goals as goal

pub put-requires-clause-new : goal.put-requires-clause-new
put-requires-clause-new c = next_lacks c.args.self.now c.args.scan.now c.requires.next

pub returns-clause-holds : goal.returns-clause-holds
returns-clause-holds c = built_code _ _ c.args.rows _ _ _ _ _ _ c.begun.ensures c.in_ok-put.ensures.ok c.in_ok-put.ensures.pins (c.accept.ensures ∙ ap (λ t. locks_accepted t c.args.self.now.locks.items) c.is_in_acceptance-accepting.ensures)

pub invariant_of-self-2 : goal.invariant_of-self-2
invariant_of-self-2 c = record { known = c.go_on.ensures _ (put_known _ _ c.args.scan.now c.args.rows.items c.args.at _ c.args.self.now.suspects c.in_ok-put.ensures.ok c.args.self.now.known) }
