use Rattle.std.proofs.Common.{Ok, refl, sym, ap, subst}
use Rattle.base_types.specs.declared.memory.NoMemory.{NoMemory}
use Rattle.event_kinds.specs.declared.entry.Event.TheVariants as events
use Rattle.history_lines.specs.Takes.{MayTake, MayWrite, enters_in_memory}
use Rattle.history_lines.proofs.Allowing.{few, room, release_out, suits_alone, write_may}
use Rattle.history_lines.proofs.TakenEvents.{released_takes, takes_alone, takes_reading, takes_scan, whatever_fails}
use Rattle.history_lines.proofs.TakenWrites.{written_as}
use Rattle.history_lines.proofs.taking.enter.Goals as goal

pub fetch-requires : goal.fetch-requires
fetch-requires c = subst (MayTake c.args.ledger.now c.args.progress.now) c.in-Fetch.is c.requires.comes

pub scan-requires : goal.scan-requires
scan-requires c = (c.in-Scan.rows, subst (MayTake c.args.ledger.now c.args.progress.now) c.in-Scan.is c.requires.comes)

pub write-requires : goal.write-requires
write-requires c = record {
  few = few _ _ _ c.requires.comes;
  place = c.requires.place;
  may = subst (MayWrite c.args.progress.now) (sym c.as_slice.ensures) (write_may c.args.ledger.now c.args.progress.now c.in-Write.xid c.in-Write.items (subst (MayTake c.args.ledger.now c.args.progress.now) c.in-Write.is c.requires.comes));
}

pub enter_release-requires : goal.enter_release-requires
enter_release-requires c = record {
  few = few _ _ _ c.requires.comes;
  out = release_out c.args.ledger.now c.args.progress.now c.in-Release.from (subst (MayTake c.args.ledger.now c.args.progress.now) c.in-Release.is c.requires.comes);
}

pub enter_alone-requires : goal.enter_alone-requires
enter_alone-requires c = record {
  few = few _ _ _ c.requires.comes;
  room = room _ _ _ c.requires.comes;
  place = c.requires.place;
  suits = suits_alone c.args.ledger.now c.args.progress.now c.args.event.now c.requires.comes c.requires.inside c.in_default.not-Fetch c.in_default.not-Scan c.in_default.not-Write c.in_default.not-Release;
}

pub returns-in-Fetch-clause-takes : goal.returns-in-Fetch-clause-takes
returns-in-Fetch-clause-takes c = takes_reading {E = NoMemory} (Ok tt) c.args.ledger.now c.args.at c.args.progress.now c.fetch.new.progress c.args.event.now (events.Fetch c.in-Fetch.count) c.in-Fetch.is c.fetch.ensures.takes

pub returns-in-Scan-clause-takes : goal.returns-in-Scan-clause-takes
returns-in-Scan-clause-takes c = takes_scan c.scan.result c.args.ledger.now c.args.at c.args.progress.now c.scan.new.progress c.args.event.now c.in-Scan.purpose c.in-Scan.rows c.in-Scan.is c.scan.ensures.takes

pub returns-in-Write-clause-takes : goal.returns-in-Write-clause-takes
returns-in-Write-clause-takes c = takes_reading c.write.result c.args.ledger.now c.args.at c.args.progress.now c.write.new.progress c.args.event.now (events.Write c.in-Write.xid c.in-Write.items) c.in-Write.is (written_as c.write.result c.args.ledger.now c.args.progress.now c.write.new.progress c.in-Write.xid c.as_slice.result.now c.in-Write.items c.as_slice.ensures c.write.ensures.takes)

pub returns-in-Release-clause-takes : goal.returns-in-Release-clause-takes
returns-in-Release-clause-takes c = released_takes c.enter_release.result c.args.ledger.now c.args.at c.args.progress.now c.enter_release.new.self c.args.event.now c.in-Release.from c.in-Release.is c.enter_release.ensures.holds c.enter_release.ensures.answer

pub returns-in_default-clause-takes : goal.returns-in_default-clause-takes
returns-in_default-clause-takes c = takes_alone {E = NoMemory} (Ok tt) c.args.ledger.now c.args.at c.args.progress.now c.enter_alone.new.progress c.args.event.now c.args.event.now refl c.enter_alone.ensures.takes

pub returns-in-Scan-clause-only : goal.returns-in-Scan-clause-only
returns-in-Scan-clause-only c = whatever_fails c.scan.result (ap enters_in_memory c.in-Scan.is)

pub returns-in-Write-clause-only : goal.returns-in-Write-clause-only
returns-in-Write-clause-only c = whatever_fails c.write.result (ap enters_in_memory c.in-Write.is)

pub returns-in-Release-clause-only : goal.returns-in-Release-clause-only
returns-in-Release-clause-only c = whatever_fails c.enter_release.result (ap enters_in_memory c.in-Release.is)
