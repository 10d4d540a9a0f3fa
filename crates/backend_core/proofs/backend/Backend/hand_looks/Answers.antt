use Rattle.std.proofs.Common.{◌∙◌, ◌++◌, refl, sym, append-nil, arith}
use Rattle.history_model.proofs.ListSteps.{all_done}
use Rattle.backend_core.specs.Looks.{entries_of}
use Rattle.backend_core.proofs.ByWord.{handed_call, handed_more, takes_more}
use Rattle.backend_core.proofs.backend.Backend.hand_looks.Goals as goal

pub looked-requires-clause-call : goal.looked-requires-clause-call
looked-requires-clause-call g c = handed_call _ _ _ _ _ c.args.looks.now c.loop-look.look-index _ c.loop-look.invariant.0 c.loop-look.invariant.1 (omega (arith, c.loop-look-test.true)) c.requires.calls

pub loop-look-init : goal.loop-look-init
loop-look-init g c = (refl, sym (append-nil _), record { own = omega arith; most = omega arith; others = λ a other. refl })

pub loop-look-preserved : goal.loop-look-preserved
loop-look-preserved g c = (
  c.looked.ensures.script ∙ c.loop-look.invariant.0,
  handed_more _ _ _ c.args.self.now.progress.id c.args.looks.now c.loop-look.look-index _ (omega (arith, c.loop-look-test.true)) c.loop-look.invariant.1 c.looked.ensures.appends.entries,
  takes_more _ _ _ _ _ c.args.self.now.progress.id c.loop-look.look-index _ c.loop-look.invariant.2 c.looked.ensures.appends,
)

pub returns-clause-history : goal.returns-clause-history
returns-clause-history g c = all_done (λ held. g.L.Seg.history c.args.seg.now ++ entries_of c.args.self.now.progress.id held) c.args.looks.now c.loop-look.look-index _ (omega (arith, c.loop-look-test.false)) c.loop-look.invariant.1
