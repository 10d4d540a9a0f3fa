use Rattle.std.proofs.Common.{subst}
use Rattle.backend_core.specs.Steps.{IsNextOf}
use Rattle.backend_core.proofs.backend.Backend.enter.Goals as goal

pub commit-requires-clause-next : goal.commit-requires-clause-next
commit-requires-clause-next g c = subst (IsNextOf c.args.self.now) c.in-Commit.is c.requires.next

pub publish-requires-clause-next : goal.publish-requires-clause-next
publish-requires-clause-next g c = subst (IsNextOf c.args.self.now) c.in-Publish.is c.requires.next

pub take_back-requires-clause-next : goal.take_back-requires-clause-next
take_back-requires-clause-next g c = subst (IsNextOf c.args.self.now) c.in-TakeBack.is c.requires.next

pub release-requires-clause-next : goal.release-requires-clause-next
release-requires-clause-next g c = subst (IsNextOf c.args.self.now) c.in-Release.is c.requires.next

pub unlock-requires-clause-next : goal.unlock-requires-clause-next
unlock-requires-clause-next g c = subst (IsNextOf c.args.self.now) c.in-Unlock.is c.requires.next

pub lock-requires-clause-next : goal.lock-requires-clause-next
lock-requires-clause-next g c = subst (IsNextOf c.args.self.now) c.in-Lock.is c.requires.next

pub write-requires-clause-next : goal.write-requires-clause-next
write-requires-clause-next g c = subst (IsNextOf c.args.self.now) c.in-Write.is c.requires.next

pub scan-requires-clause-next : goal.scan-requires-clause-next
scan-requires-clause-next g c = subst (IsNextOf c.args.self.now) c.in-Scan.is c.requires.next

pub look-requires-clause-next : goal.look-requires-clause-next
look-requires-clause-next g c = subst (IsNextOf c.args.self.now) c.in-Look.is c.requires.next

pub look-requires-in-LookBeforeScan-clause-next : goal.look-requires-in-LookBeforeScan-clause-next
look-requires-in-LookBeforeScan-clause-next g c = subst (IsNextOf c.args.self.now) c.in-LookBeforeScan.is c.requires.next

pub look-requires-in-LookBeforeAbsent-clause-next : goal.look-requires-in-LookBeforeAbsent-clause-next
look-requires-in-LookBeforeAbsent-clause-next g c = subst (IsNextOf c.args.self.now) c.in-LookBeforeAbsent.is c.requires.next

pub returns-in_ok-release-in-Release-clause-noted : goal.returns-in_ok-release-in-Release-clause-noted
returns-in_ok-release-in-Release-clause-noted g c = rw c.in-Release.is c.in_ok-release-in-Release.ensures.noted

pub returns-in_ok-lock-in-Lock-clause-noted : goal.returns-in_ok-lock-in-Lock-clause-noted
returns-in_ok-lock-in-Lock-clause-noted g c = rw c.in-Lock.is c.in_ok-lock-in-Lock.ensures.noted

pub returns-in_ok-scan-in-Scan-clause-noted : goal.returns-in_ok-scan-in-Scan-clause-noted
returns-in_ok-scan-in-Scan-clause-noted g c = rw c.in-Scan.is c.in_ok-scan-in-Scan.ensures.noted

pub returns-in_ok-write-in-Write-clause-noted : goal.returns-in_ok-write-in-Write-clause-noted
returns-in_ok-write-in-Write-clause-noted g c = rw c.in-Write.is c.in_ok-write-in-Write.ensures.noted

pub returns-in_ok-fetch-in-Fetch-clause-noted : goal.returns-in_ok-fetch-in-Fetch-clause-noted
returns-in_ok-fetch-in-Fetch-clause-noted g c = rw c.in-Fetch.is c.in_ok-fetch-in-Fetch.ensures.noted

pub returns-in-Unlock-clause-noted : goal.returns-in-Unlock-clause-noted
returns-in-Unlock-clause-noted g c = rw c.in-Unlock.is c.unlock.ensures.noted

pub returns-in-TakeBack-clause-noted : goal.returns-in-TakeBack-clause-noted
returns-in-TakeBack-clause-noted g c = rw c.in-TakeBack.is c.take_back.ensures.noted

pub returns-in-Commit-clause-noted : goal.returns-in-Commit-clause-noted
returns-in-Commit-clause-noted g c = rw c.in-Commit.is c.commit.ensures.noted

pub returns-in-Publish-clause-noted : goal.returns-in-Publish-clause-noted
returns-in-Publish-clause-noted g c = rw c.in-Publish.is c.publish.ensures.noted

pub returns-in-Look-clause-noted : goal.returns-in-Look-clause-noted
returns-in-Look-clause-noted g c = rw c.in-Look.is c.look.ensures.noted

pub returns-in-LookBeforeScan-clause-noted : goal.returns-in-LookBeforeScan-clause-noted
returns-in-LookBeforeScan-clause-noted g c = rw c.in-LookBeforeScan.is c.look-in-LookBeforeScan.ensures.noted

pub returns-in-LookBeforeAbsent-clause-noted : goal.returns-in-LookBeforeAbsent-clause-noted
returns-in-LookBeforeAbsent-clause-noted g c = rw c.in-LookBeforeAbsent.is c.look-in-LookBeforeAbsent.ensures.noted
