use Rattle.std.proofs.Common.{◌&&◌, arith, refl}
use Rattle.backend_core.proofs.Fitting.Entered.{has_room, is_few}
use Rattle.backend_core.proofs.Entries.Inside.{made_refused, left_so}
use Rattle.backend_core.proofs.Entries.Scanning.{scan_request, scan_one, scan_makes, scan_enters, scan_frames}
use Rattle.backend_core.specs.Steps.{Enters}
use Rattle.backend_core.specs.Noted.{IsNoted}
use Rattle.backend_core.specs.declared.next.Next.TheVariants as nexts
use Rattle.backend_core.proofs.Entries.Noting.{noted_with}
use Rattle.backend_core.proofs.backend.Backend.scan.Goals as goal

pub scan-requires : goal.scan-requires
scan-requires g c = record { call = scan_request _ _ c.args.self.now c.args.scan.now c.args.rebuilds c.requires.ready.waits c.requires.next.0 }

pub enter_scan-requires-clause-few : goal.enter_scan-requires-clause-few
enter_scan-requires-clause-few g c = is_few _ _ c.args.self.now c.requires.ready.waits

pub enter_scan-requires-clause-room : goal.enter_scan-requires-clause-room
enter_scan-requires-clause-room g c = has_room _ _ c.args.self.now c.requires.ready.waits (omega (arith, g.met.L.Seg.short c.args.seg.now))

pub enter_scan-requires-clause-next : goal.enter_scan-requires-clause-next
enter_scan-requires-clause-next g c = c.requires.next.0.next

pub enter_scan-requires-clause-one : goal.enter_scan-requires-clause-one
enter_scan-requires-clause-one g c = scan_one _ _ _ c.args.scan.now _ c.requires.ready.played c.in_ok-scanned.ensures.scans.rows

pub returns-clause-enters : goal.returns-clause-enters
returns-clause-enters g c = left_so (Enters _ _ _ _ _ c.args.self.now) _ _ _ c.note_scan.ensures.is (scan_enters _ _ c.args.self.now c.requires.ready.waits c.requires.ready.course c.args.scan.now c.args.rebuilds c.requires.next.0 c.requires.next.1 _ _ _ _ _ _ _ c.requires.ready.played
    (c.in_ok-enter_scan.ensures.holds _ _ _ c.requires.ready.waits.rests c.in_ok-scanned.ensures.scans.rows c.in_ok-scanned.ensures.scans.at) c.in_ok-enter_scan.ensures.kept c.in_ok-enter_scan.ensures.answer c.in_ok-scanned.ensures.scans.appends)

pub returns-clause-noted : goal.returns-clause-noted
returns-clause-noted g c = left_so (IsNoted _ _ _ c.args.self.now (nexts.Scan c.args.scan.now c.args.rebuilds)) _ _ _ c.note_scan.ensures.is
    (noted_with _ _ _ _ _ c.args.self.now _ _ _ _ (c.in_ok-enter_scan.ensures.holds _ _ _ c.requires.ready.waits.rests c.in_ok-scanned.ensures.scans.rows c.in_ok-scanned.ensures.scans.at) c.in_ok-scanned.ensures.scans.appends refl
    (λ i. record { looked = c.args.self.now.looked && c.args.rebuilds; frames = scan_frames _ _ c.args.self.now c.requires.ready.waits c.requires.ready.course c.args.scan.now c.args.rebuilds c.requires.next.0 c.requires.next.1 0 _ _ _ (c.in_ok-enter_scan.ensures.holds _ _ 0 c.requires.ready.waits.rests c.in_ok-scanned.ensures.scans.rows c.in_ok-scanned.ensures.scans.at) c.in_ok-enter_scan.ensures.kept i; told = c.args.self.now.told }))

pub returns-clause-refused : goal.returns-clause-refused
returns-clause-refused g c = made_refused _ _ _ _ _ _ _ (scan_makes _ _ c.args.self.now c.requires.ready.waits c.requires.ready.course c.args.scan.now c.args.rebuilds c.requires.next.0 c.requires.next.1 _ _ _ _ c.requires.ready.played c.in_ok-scanned.ensures.scans.appends)

pub returns-in_err-enter_scan-clause-refused : goal.returns-in_err-enter_scan-clause-refused
returns-in_err-enter_scan-clause-refused g c = made_refused _ _ _ _ _ _ _ (scan_makes _ _ c.args.self.now c.requires.ready.waits c.requires.ready.course c.args.scan.now c.args.rebuilds c.requires.next.0 c.requires.next.1 _ _ _ _ c.requires.ready.played c.in_ok-scanned.ensures.scans.appends)
