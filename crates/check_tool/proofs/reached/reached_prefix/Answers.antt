use Rattle.std.proofs.Common.{take, refl}
use Rattle.check_tool.proofs.Verdicts.{allowed_backends, reached_far}
use Rattle.check_tool.proofs.reached.reached_prefix.Goals as goal

pub interleaved_prefix-requires-clause-backends : goal.interleaved_prefix-requires-clause-backends
interleaved_prefix-requires-clause-backends c = allowed_backends c.args.script.now (take c.in_ok-answered.answered.entries c.args.entries.now) c.args.script.now.backends refl c.in_ok-answered.ensures.longest.holds

pub returns : goal.returns
returns c =
    reached_far c.args.kind c.args.script.now c.args.entries.now c.in_ok-answered.answered.entries c.in_ok-far.far.entries c.in_ok-answered.answered.lines c.in_ok-far.far.due
    c.in_ok-far.ensures.kept c.in_ok-answered.ensures c.in_ok-far.ensures.come
