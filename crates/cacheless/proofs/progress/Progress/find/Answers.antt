use Rattle.std.proofs.Common.{◌∙◌, refl, ap, subst, sym, arith, ◌++◌}
use Rattle.std.proofs.lemmas.List.{append-nil}
use Rattle.ddl_effect.specs.Stages.{plan_at}
use Rattle.cacheless.specs.Pins.{PinsMore}
use Rattle.cacheless.specs.State.{kept_at}
use Rattle.cacheless.specs.Silently.{rows_for, rows_given, opened_for}
use Rattle.cacheless.proofs.Passing.{acted_code, act_is_left, given_is}
use Rattle.cacheless.proofs.Pinning.{none_opened}
use Rattle.cacheless.proofs.progress.Progress.find.Goals as goal

pub returns-clause-acts : goal.returns-clause-acts
returns-clause-acts c = acted_code c.args.self.now _ _ _ _ _ _ c.rows_for-rows.result.now c.requires.acts (c.next-want.ensures c.args.self.now.opens)
    (c.rows_for-rows.ensures ∙ (λ i. rows_for (c.next-want.ensures c.args.self.now.opens i) (c.row_next-row.ensures i) (kept_at c.args.self.now)) ∙ given_is c.args.self.now (plan_at c.args.self.now.opens c.args.self.now.exec) ∙ ap (rows_given c.args.self.now) (sym (c.next-want.ensures c.args.self.now.opens)))
    (c.in_ok-give.ensures.plan c.args.self.now.opens) (c.in_ok-give.ensures.again c.args.self.now.opens)
    (sym (ap (λ l. c.args.self.now.opened ++ l) (ap opened_for (c.next-want.ensures c.args.self.now.opens) ∙ c.requires.other) ∙ append-nil c.args.self.now.opened)) refl
    (subst (PinsMore c.args.self.now.caches c.args.self.now.caches) (sym (ap opened_for (c.next-want.ensures c.args.self.now.opens) ∙ c.requires.other)) (none_opened c.args.self.now.caches))

pub returns-clause-less : goal.returns-clause-less
returns-clause-less c = omega (arith, c.in_ok-give.ensures.less (act_is_left c.args.self.now c.requires.acts))
