use Rattle.check_tool.proofs.Places.{tell_more}
use Rattle.check_tool.proofs.looking.Queue.enter.Goals as goal

pub returns-clause-tell : goal.returns-clause-tell
returns-clause-tell c = λ seen tell may.
    tell_more seen c.args.e.now c.args.self.now.published c.in_ok-self.field-0 c.args.self.now.places.items c.index_mut-place.result.now c.in_ok-place.field-0 tell may c.requires c.index_mut-place.ensures.value c.in_ok-place.ensures.ok c.in_ok-self.ensures.ok
