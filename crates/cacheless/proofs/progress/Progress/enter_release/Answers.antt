use Rattle.std.proofs.Common.{◌∙◌, ◌&&◌, ap, map}
use Rattle.ddl_effect.specs.Opens.{opens_before, has_open}
use Rattle.local_caches.specs.Caches.{is_pinned}
use Rattle.cacheless.specs.Session.{opening_of}
use Rattle.cacheless.specs.State.{locks_accepted}
use Rattle.cacheless.proofs.Entries.EntryCodes.{release_code}
use Rattle.cacheless.proofs.progress.Progress.enter_release.Goals as goal

pub returns-clause-holds : goal.returns-clause-holds
returns-clause-holds c = release_code c.args.self.now _ _ _ _ _ _ _ _ _ c.release.new.self _ c.requires.out c.ends.ensures c.begun.ensures c.released-self.ensures c.clear_if.ensures c.release.ensures.items
    (c.in_ok-self.ensures ∙ ap (map opening_of) (c.as_slice-2.ensures ∙ c.in_ok-left.ensures ∙ ap (opens_before c.args.from) c.as_slice.ensures)) c.in_ok-unpin_others.ensures.kept (λ rel. c.in_ok-unpin_others.ensures.pins rel ∙ (λ i. has_open rel (c.as_slice-3.ensures i) && is_pinned c.args.self.now.caches rel))
    (c.accept.ensures ∙ ap (λ t. locks_accepted t c.release.new.self.items) c.is_in_acceptance-accepting.ensures)

pub invariant_of-self-in-Break-branch-2 : goal.invariant_of-self-in-Break-branch-2
invariant_of-self-in-Break-branch-2 c = record { known = c.forget.ensures _ _ }

pub invariant_of-self-in-Break-branch-3 : goal.invariant_of-self-in-Break-branch-3
invariant_of-self-in-Break-branch-3 c = record { known = c.forget.ensures _ _ }
