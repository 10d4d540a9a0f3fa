use Rattle.std.proofs.Common.{arith}
use Rattle.backend_core.proofs.ByWord.{right_ready, makes_look}
use Rattle.backend_core.proofs.Fitting.Entered.{has_room}
use Rattle.backend_core.proofs.backend.Backend.look_by_word.Goals as goal

pub take_look-requires-clause-room : goal.take_look-requires-clause-room
take_look-requires-clause-room c = has_room _ _ c.args.self.now (right_ready c.args.self.now c.requires.right c.requires.wants.0).waits (omega (arith, c.requires.right.short))

pub returns-clause-looks : goal.returns-clause-looks
returns-clause-looks c = makes_look c.args.self.now _ c.args.look _ c.requires.wants.0 c.requires.wants.1 c.take_look.ensures.looks

pub returns-clause-stays : goal.returns-clause-stays
returns-clause-stays c = c.take_look.ensures.stays _ _ (right_ready c.args.self.now c.requires.right c.requires.wants.0).waits.rests
