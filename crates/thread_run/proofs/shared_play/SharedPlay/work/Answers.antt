use Rattle.thread_run.proofs.SharedPlays.{backend_inside, promises_outside, only_outside, none_outside, full_outside}
use Rattle.thread_run.proofs.shared_play.SharedPlay.work.Goals as goal

pub work_in_turn-requires-clause-backend : goal.work_in_turn-requires-clause-backend
work_in_turn-requires-clause-backend c = backend_inside _ _ c.args.b c.self.view_is c.self.invariant.1 c.requires.backend

pub returns-clause-promises : goal.returns-clause-promises
returns-clause-promises c = λ a apart. promises_outside _ _ a _ c.self.view_is (c.work_in_turn.ensures.others a apart)

pub returns-clause-own : goal.returns-clause-own
returns-clause-own c = only_outside _ _ c.args.b _ _ c.self.view_is c.work_in_turn.ensures.own

pub returns-clause-full : goal.returns-clause-full
returns-clause-full c = λ enters. full_outside _ _ c.work_in_turn.new.backend _ _ c.work_in_turn.result c.self.view_is (c.work_in_turn.ensures.full enters)

pub returns-clause-none : goal.returns-clause-none
returns-clause-none c = λ enters. none_outside _ _ c.args.b _ c.self.view_is (c.work_in_turn.ensures.none enters)
