use Rattle.thread_run.proofs.Played.{more_least, full_more, plays_then, comes_over, comes_ok, more_ok, backend_still}
use Rattle.thread_run.proofs.turn_work.enter_all.Goals as goal

pub returns-in_err-enter_one-clause-plays : goal.returns-in_err-enter_one-clause-plays
returns-in_err-enter_one-clause-plays g c = c.in_err-enter_one.ensures.plays

pub returns-then-branch-clause-comes : goal.returns-then-branch-clause-comes
returns-then-branch-clause-comes g c = comes_over c.if-branch.true c.in_ok-enter_one.ensures.comes

pub enter_more-requires-clause-backend : goal.enter_more-requires-clause-backend
enter_more-requires-clause-backend g c = backend_still c.in_ok-enter_one.ensures.plays.script c.requires.may.backend

pub enter_more-requires-clause-taken : goal.enter_more-requires-clause-taken
enter_more-requires-clause-taken g c = (comes_over c.if-branch.false c.in_ok-enter_one.ensures.comes).taken

pub returns-clause-plays : goal.returns-clause-plays
returns-clause-plays g c = plays_then c.in_ok-enter_one.ensures.plays c.enter_more.ensures.plays

pub returns-clause-more : goal.returns-clause-more
returns-clause-more g c = more_ok c.enter_more.result c.in_ok-enter_one.ensures.more c.enter_more.ensures.plays.grew

pub returns-clause-comes : goal.returns-clause-comes
returns-clause-comes g c = comes_ok (g.L.Seg.script c.enter_more.new.seg) (g.L.Seg.history c.enter_more.new.seg) c.enter_more.new.backend c.enter_more.result (comes_over c.if-branch.false c.in_ok-enter_one.ensures.comes) c.enter_more.ensures.comes

pub returns-then-branch-clause-full : goal.returns-then-branch-clause-full
returns-then-branch-clause-full g c = λ over. absurd (cc over)

pub returns-clause-full : goal.returns-clause-full
returns-clause-full g c = full_more c.enter_more.new.backend 1 c.args.most (g.L.Seg.history c.args.seg.now) (g.L.Seg.history c.enter_one.new.seg) (g.L.Seg.history c.enter_more.new.seg) c.enter_more.result (more_least c.in_ok-enter_one.ensures.more) c.enter_more.ensures.full
