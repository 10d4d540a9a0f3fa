use Rattle.backend_core.proofs.ByWord.{right_ready}
use Rattle.backend_core.proofs.Choosing.Nexting.{reads_now}
use Rattle.backend_core.proofs.Choosing.Sound.{choice_sound}
use Rattle.backend_core.proofs.Fitting.Entered.{is_few}
use Rattle.backend_core.proofs.backend.Backend.places_wanted.Goals as goal

pub next-requires-clause-few : goal.next-requires-clause-few
next-requires-clause-few c = is_few _ _ c.args.self.now (right_ready c.args.self.now c.requires.right c.in-Alive.is).waits

pub next-requires-clause-still : goal.next-requires-clause-still
next-requires-clause-still c = (right_ready c.args.self.now c.requires.right c.in-Alive.is).waits.rests.still

pub next-requires-clause-chosen : goal.next-requires-clause-chosen
next-requires-clause-chosen c = let ready = right_ready c.args.self.now c.requires.right c.in-Alive.is in choice_sound _ _ c.args.self.now ready.waits ready.course

pub next-requires-clause-reads : goal.next-requires-clause-reads
next-requires-clause-reads c = let ready = right_ready c.args.self.now c.requires.right c.in-Alive.is in reads_now _ _ c.args.self.now ready.waits ready.course
