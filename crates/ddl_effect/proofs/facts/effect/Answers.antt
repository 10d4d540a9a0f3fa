use Rattle.std.proofs.Common.{◌≡◌, ◌<◌, ◌∙◌, List, [], Ok, Err, ap, sym, subst, refl, rules}
use Rattle.ddl_effect.specs.Types.{Row, Purpose}
use Rattle.base_types.specs.Scans.{scan_of}
use Rattle.ddl_effect.specs.Effects.{effect_of, given_for, IsEffect}
use Rattle.ddl_effect.specs.declared.facts.EffectRefusal.TheVariants.{Cause, Absent}
use Rattle.ddl_effect.specs.Plans.{after_act}
use Rattle.ddl_effect.specs.Commands.{plan_of}
use Rattle.ddl_effect.specs.Stages.{plan_at, want_of, acts_left}
use Rattle.ddl_effect.proofs.Driven.{acts_some, effect_of-after, done_is, writes_is, fails_is, absent_is}
use Rattle.ddl_effect.proofs.facts.effect.Goals as goal

pub acts-preserved : goal.acts-preserved
acts-preserved c =
    let rows : Purpose → List Row = λ scan. scan_of scan c.args.facts.now.rows in
    let found : c.in-Ok-rows_for.rows.items ≡ given_for rows c.in_default-next.want = search rules in
    let given : c.deref.result.now ≡ given_for rows (want_of (plan_at c.args.facts.now.opened c.acts.exec)) = c.deref.ensures.value ∙ found ∙ ap (given_for rows) (sym c.in_default-next.want-is ∙ c.next.ensures c.args.facts.now.opened) in
    let went : plan_at c.args.facts.now.opened c.give.new.self ≡ after_act c.deref.result.now (plan_at c.args.facts.now.opened c.acts.exec) = c.in-Ok-give.ensures.plan c.args.facts.now.opened in
    ap (effect_of rows) went
    ∙ effect_of-after rows (plan_at c.args.facts.now.opened c.acts.exec) c.deref.result.now (λ writes. c.in_default-next.not-Write (c.next.ensures c.args.facts.now.opened ∙ writes)) given
    ∙ c.acts.invariant

pub acts-smaller : goal.acts-smaller
acts-smaller c =
    let less : 0 < acts_left c.acts.exec → acts_left c.give.new.self < acts_left c.acts.exec = search rules in
    less (acts_some c.args.facts.now.opened c.acts.exec (λ scan is. c.in_default-next.not-Done scan (c.next.ensures c.args.facts.now.opened ∙ is)) (λ error is. c.in_default-next.not-Fails error (c.next.ensures c.args.facts.now.opened ∙ is)) (λ name is. c.in_default-next.not-Absent name (c.next.ensures c.args.facts.now.opened ∙ is)))

pub returns-in-Fails : goal.returns-in-Fails
returns-in-Fails c =
    let rows : Purpose → List Row = λ scan. scan_of scan c.args.facts.now.rows in
    subst (λ effect. IsEffect effect (Err (Cause c.in-Fails.error)))
    (sym (ap (effect_of rows) (fails_is (plan_at c.args.facts.now.opened c.acts.exec) c.in-Fails.error (sym (c.next.ensures c.args.facts.now.opened) ∙ c.in-Fails.is))) ∙ c.acts.invariant) refl

pub returns-in-Absent : goal.returns-in-Absent
returns-in-Absent c =
    let rows : Purpose → List Row = λ scan. scan_of scan c.args.facts.now.rows in
    subst (λ effect. IsEffect effect (Err (Absent c.in-Absent.name)))
    (sym (ap (effect_of rows) (absent_is (plan_at c.args.facts.now.opened c.acts.exec) c.in-Absent.name (sym (c.next.ensures c.args.facts.now.opened) ∙ c.in-Absent.is))) ∙ c.acts.invariant) refl

pub acts-init : goal.acts-init
acts-init c = ap (effect_of (λ scan. scan_of scan c.args.facts.now.rows)) (c.in-Ok.ensures.plan c.args.facts.now.opened ∙ ap (λ opens. plan_of opens c.args.command.now) c.as_slice.ensures)

pub into_draft-requires : goal.into_draft-requires
into_draft-requires c = sym (c.next.ensures []) ∙ c.in-Write.is

pub returns-in-Done : goal.returns-in-Done
returns-in-Done c =
    let rows : Purpose → List Row = λ scan. scan_of scan c.args.facts.now.rows in
    subst (λ effect. IsEffect effect (Ok c.no_draft.result)) c.acts.invariant
    (done_is rows (plan_at c.args.facts.now.opened c.acts.exec) c.in-Done.field-0 c.no_draft.result (sym (c.next.ensures c.args.facts.now.opened) ∙ c.in-Done.is) c.no_draft.ensures)

pub returns-in-Write : goal.returns-in-Write
returns-in-Write c =
    let rows : Purpose → List Row = λ scan. scan_of scan c.args.facts.now.rows in
    subst (λ effect. IsEffect effect (Ok c.into_draft.result)) (sym (writes_is rows (plan_at c.args.facts.now.opened c.acts.exec) c.into_draft.result (c.into_draft.ensures c.args.facts.now.opened)) ∙ c.acts.invariant) refl
