use Rattle.std.proofs.Common.{◌≤◌, length, subst, sym}
use Rattle.history_lines.proofs.Allowing.{few, room, scan_next, scan_one}
use Rattle.history_lines.proofs.TakenEvents.{scanned_takes}
use Rattle.history_lines.proofs.taking.scan.Goals as goal

pub enter_scan-requires-clause-few : goal.enter_scan-requires-clause-few
enter_scan-requires-clause-few c = few _ _ _ c.requires.1

pub enter_scan-requires-clause-room : goal.enter_scan-requires-clause-room
enter_scan-requires-clause-room c = room _ _ _ c.requires.1

pub enter_scan-requires-clause-next : goal.enter_scan-requires-clause-next
enter_scan-requires-clause-next c = scan_next _ _ _ _ c.requires.1

pub enter_scan-requires-clause-one : goal.enter_scan-requires-clause-one
enter_scan-requires-clause-one c = λ keyed. subst (λ l. length l ≤ 1) (sym (c.in_ok-rows.ensures.answer c.requires.1.seen c.requires.1.reads)) (scan_one _ _ _ _ c.requires.1 keyed)

pub returns-clause-takes : goal.returns-clause-takes
returns-clause-takes c = scanned_takes c.enter_scan.result c.args.ledger.now c.args.progress.now c.enter_scan.new.self c.args.purpose.now c.in_ok-rows.rows.items c.args.at c.in_ok-rows.ensures.answer c.enter_scan.ensures.answer c.enter_scan.ensures.holds
