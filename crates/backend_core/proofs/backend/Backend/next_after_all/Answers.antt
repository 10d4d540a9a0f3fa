use Rattle.backend_core.proofs.Choosing.Nexting.{after_last}
use Rattle.backend_core.proofs.backend.Backend.next_after_all.Goals as goal

pub returns-in-Some-clause-next : goal.returns-in-Some-clause-next
returns-in-Some-clause-next c = (after_last c.args.self.now _ _ c.requires.chosen c.requires.none c.in-Some.is c.next_of_back.ensures).0

pub returns-in-Some-clause-is : goal.returns-in-Some-clause-is
returns-in-Some-clause-is c = (after_last c.args.self.now _ _ c.requires.chosen c.requires.none c.in-Some.is c.next_of_back.ensures).1
