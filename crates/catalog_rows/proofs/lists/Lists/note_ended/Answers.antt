use Rattle.catalog_rows.proofs.Grown.{ok_then}
use Rattle.catalog_rows.proofs.lists.Lists.note_ended.Goals as goal

pub returns-clause-ok : goal.returns-clause-ok
returns-clause-ok c =
    ok_then c.touch_ended.result
    (λ has n ended. has n (c.ends.ensures c.args.committed.now c.args.slots.now c.args.stamp c.requires.numbered c.requires.only c.requires.current n ended) ended)
    c.touch_ended.ensures.ok
