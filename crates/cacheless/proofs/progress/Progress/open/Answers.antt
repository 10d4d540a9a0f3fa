use Rattle.std.proofs.Common.{refl, sym, arith}
use Rattle.base_types.specs.declared.scan.Purpose.TheVariants.{Class}
use Rattle.cacheless.proofs.Passing.{acted_code, act_is_left}
use Rattle.cacheless.proofs.Lacking.{same_known}
use Rattle.cacheless.proofs.Pinning.{opens_pinned}
use Rattle.cacheless.proofs.progress.Progress.open.Goals as goal

pub returns-clause-acts : goal.returns-clause-acts
returns-clause-acts c = acted_code c.args.self.now _ _ _ _ _ _ _ c.requires.acts (sym c.requires.opens) refl (c.in_ok-give.ensures.plan c.args.self.now.opens) (c.in_ok-give.ensures.again c.args.self.now.opens) c.in_ok-push.ensures.ok c.in_ok-pin.ensures.kept (opens_pinned c.args.self.now _ c.args.rel c.args.kind c.requires.acts c.requires.opens (c.in_ok-pin.ensures.pinned (Class c.args.rel) refl) c.in_ok-pin.ensures.others)

pub returns-clause-less : goal.returns-clause-less
returns-clause-less c = omega (arith, c.in_ok-give.ensures.less (act_is_left c.args.self.now c.requires.acts))

pub invariant_of-self-in-Break-branch-3 : goal.invariant_of-self-in-Break-branch-3
invariant_of-self-in-Break-branch-3 c = record { known = c.hold.ensures _ c.in_ok-push.ensures.ok (same_known _ _ _ _ c.args.self.now.suspects c.in_ok-pin.ensures.kept refl c.args.self.now.known) }

pub invariant_of-self-2 : goal.invariant_of-self-2
invariant_of-self-2 c = record { known = c.hold.ensures _ c.in_ok-push.ensures.ok (same_known _ _ _ _ c.args.self.now.suspects c.in_ok-pin.ensures.kept refl c.args.self.now.known) }
