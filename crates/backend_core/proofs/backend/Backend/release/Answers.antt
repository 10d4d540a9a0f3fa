use Rattle.std.proofs.Common.{refl}
use Rattle.backend_core.proofs.Fitting.Entered.{is_few}
use Rattle.backend_core.proofs.Entries.Inside.{made_refused, then_so}
use Rattle.backend_core.proofs.Entries.EndEntries.{end_call}
use Rattle.backend_core.proofs.Entries.Releasing.{release_out, release_enters, release_makes, release_noted, rest_is}
use Rattle.backend_core.proofs.backend.Backend.release.Goals as goal

pub release-requires-clause-call : goal.release-requires-clause-call
release-requires-clause-call g c = end_call _ _ c.args.self.now c.requires.ready.waits _ refl c.requires.next

pub enter_release-requires : goal.enter_release-requires
enter_release-requires g c = record { few = is_few _ _ c.args.self.now c.requires.ready.waits; out = release_out _ _ c.args.self.now _ c.requires.ready.waits c.requires.next }

pub returns-in_err-enter_release-clause-refused : goal.returns-in_err-enter_release-clause-refused
returns-in_err-enter_release-clause-refused g c = made_refused _ _ _ _ _ _ c.from_residual.result (release_makes _ _ _ _ _ c.args.self.now _ c.requires.ready.waits c.requires.ready.played c.requires.ready.course c.requires.next c.release.ensures.appends)

pub returns-clause-refused : goal.returns-clause-refused
returns-clause-refused g c = made_refused _ _ _ _ _ _ c.reset.result (release_makes _ _ _ _ _ c.args.self.now _ c.requires.ready.waits c.requires.ready.played c.requires.ready.course c.requires.next c.release.ensures.appends)

pub returns-clause-enters : goal.returns-clause-enters
returns-clause-enters g c = then_so c.reset.result (λ are. release_enters _ _ _ _ _ c.args.self.now _ _ _ c.requires.ready.waits c.requires.ready.played c.requires.ready.course c.requires.next (c.in_ok-enter_release.ensures.holds _ _ c.requires.ready.waits.rests) c.in_ok-enter_release.ensures.kept c.in_ok-enter_release.ensures.answer
    (rest_is c.enter_release.new.self _ _ _ _ c.has_failed-fails.ensures refl are) c.release.ensures.appends) c.reset.ensures

pub returns-clause-noted : goal.returns-clause-noted
returns-clause-noted g c = then_so c.reset.result (λ are. release_noted _ _ _ _ _ c.args.self.now _ _ _ c.requires.ready.waits.rests (c.in_ok-enter_release.ensures.holds _ _ c.requires.ready.waits.rests) c.in_ok-enter_release.ensures.kept
    (rest_is c.enter_release.new.self _ _ _ _ c.has_failed-fails.ensures refl are) c.release.ensures.appends) c.reset.ensures
