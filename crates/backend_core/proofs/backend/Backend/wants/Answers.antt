use Rattle.std.proofs.Common.{sym, subst}
use Rattle.backend_core.specs.Looks.{Wants}
use Rattle.backend_core.proofs.ByWord.{right_ready, wants_next}
use Rattle.backend_core.proofs.Choosing.Nexting.{reads_now}
use Rattle.backend_core.proofs.Choosing.Sound.{choice_sound}
use Rattle.backend_core.proofs.Fitting.Entered.{is_few}
use Rattle.backend_core.proofs.backend.Backend.wants.Goals as goal

pub next-requires-clause-few : goal.next-requires-clause-few
next-requires-clause-few c = is_few _ _ c.args.self.now (right_ready c.args.self.now c.requires.right c.in-Alive.is).waits

pub next-requires-clause-still : goal.next-requires-clause-still
next-requires-clause-still c = (right_ready c.args.self.now c.requires.right c.in-Alive.is).waits.rests.still

pub next-requires-clause-chosen : goal.next-requires-clause-chosen
next-requires-clause-chosen c = let ready = right_ready c.args.self.now c.requires.right c.in-Alive.is in choice_sound _ _ c.args.self.now ready.waits ready.course

pub next-requires-clause-reads : goal.next-requires-clause-reads
next-requires-clause-reads c = let ready = right_ready c.args.self.now c.requires.right c.in-Alive.is in reads_now _ _ c.args.self.now ready.waits ready.course

pub returns-in-Alive : goal.returns-in-Alive
returns-in-Alive c = subst (Wants c.args.self.now) (sym c.want.ensures) (wants_next c.args.self.now c.next.result c.in-Alive.is c.next.ensures.next)
