use Rattle.check_tool.proofs.Places.{waits_told}
use Rattle.check_tool.proofs.looking.Queue.has_waiting.Goals as goal

pub returns-in-Some : goal.returns-in-Some
returns-in-Some c = λ seen tell. waits_told seen c.args.b c.args.self.now.published c.args.self.now.places.items c.index.result.now _ tell c.requires c.index.ensures c.in-Some.is

pub returns-in-None : goal.returns-in-None
returns-in-None c = λ seen tell. waits_told seen c.args.b c.args.self.now.published c.args.self.now.places.items c.index.result.now _ tell c.requires c.index.ensures c.in-None.is
