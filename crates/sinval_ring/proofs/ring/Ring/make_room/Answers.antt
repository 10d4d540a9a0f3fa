use Rattle.std.proofs.Common.{◌≤◌, ◌+◌, ◌∙◌, length, ap, sym, subst}
use Rattle.sinval_ring.specs.Readers.{unmarked}
use Rattle.sinval_ring.specs.Queues.{Queue, reader_of}
use Rattle.sinval_ring.specs.Cleaning.{must_clean}
use Rattle.sinval_ring.specs.RingParts.{IsSound}
use Rattle.sinval_ring.proofs.Sound.{cleaned_room, cleaned_lapses, cleaned_once}
use Rattle.sinval_ring.proofs.ring.Ring.make_room.Goals as goal

pub returns-then-filled-self-clause-done : goal.returns-then-filled-self-clause-done
returns-then-filled-self-clause-done c =
    ap (λ (q : Queue). must_clean q c.args.count) c.clean.ensures.queue ∙ cleaned_once c.args.self.now c.args.count c.requires (subst IsSound c.self.view_is c.self.invariant.counts.sound)

pub returns-then-filled-self-clause-room : goal.returns-then-filled-self-clause-room
returns-then-filled-self-clause-room c =
    subst (λ (q : Queue). length q.log + c.args.count ≤ q.least + q.size) (sym c.clean.ensures.queue) (cleaned_room c.args.self.now c.args.count c.requires (subst IsSound c.self.view_is c.self.invariant.counts.sound))

pub returns-then-filled-self-clause-lapped : goal.returns-then-filled-self-clause-lapped
returns-then-filled-self-clause-lapped c = λ b. ap (λ (q : Queue). unmarked (reader_of q b)) c.clean.ensures.queue ∙ cleaned_lapses c.args.self.now c.args.count b
