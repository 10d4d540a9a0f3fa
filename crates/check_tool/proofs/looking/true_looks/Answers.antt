use Rattle.std.proofs.Common.{◌≡◌, ◌∙◌, sym, subst, take, false, true, arith}
use Rattle.base_types.specs.Scenario.{IsBackend}
use Rattle.history_model.specs.MayFollow.{MayFollow}
use Rattle.history_model.proofs.Allows.{legal_follows}
use Rattle.history_model.proofs.ListSteps.{prefix_more}
use Rattle.cacheless.specs.Schedule.{AreLooksTrue, LooksTruly}
use Rattle.check_tool.specs.Turning.{TellPlaces}
use Rattle.check_tool.proofs.Longest.{each_at, each_next, longest_here, longest_all}
use Rattle.check_tool.proofs.looking.true_looks.Goals as goal

pub loop-at-init : goal.loop-at-init
loop-at-init c = record { looks = tt; tell = c.in_ok-queue.ensures.tell; count = c.in_ok-queue.ensures.count }

pub looks_truly-requires : goal.looks_truly-requires
looks_truly-requires c =
    subst (λ n. IsBackend n c.index-entries-at.result.backend) (sym c.loop-at.invariant.count)
    (subst (λ e. IsBackend c.args.backends e.backend) (sym c.index-entries-at.is) (c.requires.backends c.loop-at.at c.index-entries-at.result c.loop-at-test.true))

pub returns-then-not-looks_truly : goal.returns-then-not-looks_truly
returns-then-not-looks_truly c =
    longest_here (λ before x. LooksTruly before x.backend x.event) c.args.entries.now c.loop-at.at c.index-entries-at.result _ c.loop-at-test.true c.index-entries-at.is c.loop-at.invariant.looks
    (λ looks. let never : false ≡ true = sym c.if-not-looks_truly.true ∙ (c.looks_truly.ensures (take c.loop-at.at c.args.entries.now) c.loop-at.invariant.tell).1 looks in absurd cc)

pub enter-requires : goal.enter-requires
enter-requires c =
    subst (λ n. IsBackend n c.index-entries-at.result.backend) (sym c.loop-at.invariant.count)
    (subst (λ e. IsBackend c.args.backends e.backend) (sym c.index-entries-at.is) (c.requires.backends c.loop-at.at c.index-entries-at.result c.loop-at-test.true))

pub loop-at-preserved : goal.loop-at-preserved
loop-at-preserved c =
    let seen = take c.loop-at.at c.args.entries.now in
    let e = c.index-entries-at.result in
    record {
      looks = each_next (λ before x. LooksTruly before x.backend x.event) c.args.entries.now c.loop-at.at e _ c.loop-at-test.true c.index-entries-at.is c.loop-at.invariant.looks ((c.looks_truly.ensures seen c.loop-at.invariant.tell).0 c.if-not-looks_truly.false);
      tell = subst (λ history. TellPlaces history c.enter.new.self.published c.enter.new.self.places.items) (sym (prefix_more c.args.entries.now c.loop-at.at e _ c.loop-at-test.true c.index-entries-at.is))
          (c.in_ok-enter.ensures.tell seen c.loop-at.invariant.tell (each_at MayFollow c.args.entries.now c.loop-at.at e _ c.loop-at-test.true c.index-entries-at.is (legal_follows c.args.entries.now c.requires.legal)));
      count = c.in_ok-enter.ensures.count ∙ c.loop-at.invariant.count;
    }

pub returns : goal.returns
returns c = longest_all AreLooksTrue c.args.entries.now c.loop-at.at (omega (arith, c.loop-at-test.false)) c.loop-at.invariant.looks
