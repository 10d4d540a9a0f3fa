use Rattle.std.proofs.Common.{◌≡◌, ◌∙◌, true, false, ap, sym}
use Rattle.std.proofs.lemmas.Result.{IfOk-weaker}
use Rattle.command_answers.specs.declared.answer.Answer.TheVariants as answers
use Rattle.ddl_effect.specs.Commands.{absent_error}
use Rattle.ddl_effect.proofs.Driven.{fails_is, absent_is}
use Rattle.ddl_effect.specs.Stages.{plan_at}
use Rattle.cacheless.specs.State.{kept_at, rows_kept, place_kept}
use Rattle.cacheless.specs.Told.{told_well, told_left}
use Rattle.cacheless.proofs.WantedPlans.{out_of_want, out_wanted, not_out, tells_well}
use Rattle.cacheless.proofs.progress.Progress.told.Goals as goal

pub returns-in-Fails : goal.returns-in-Fails
returns-in-Fails c =
    sym (ap (told_left (rows_kept (kept_at c.args.self.now)) (place_kept (kept_at c.args.self.now)) c.args.self.now.locks.items c.args.self.now.blocks.block c.args.command.now)
    (fails_is (plan_at c.args.self.now.opens c.args.self.now.exec) c.in-Fails.error (sym (c.next.ensures c.args.self.now.opens) ∙ c.in-Fails.is)))

pub returns-in-Some : goal.returns-in-Some
returns-in-Some c =
    IfOk-weaker c.told_by.result _ _
    (λ answer is. is ∙ sym (tells_well (rows_kept (kept_at c.args.self.now)) (place_kept (kept_at c.args.self.now)) c.args.self.now.locks.items c.args.self.now.blocks.block c.args.command.now (plan_at c.args.self.now.opens c.args.self.now.exec) c.in-Done.field-0 (sym (c.next.ensures c.args.self.now.opens) ∙ c.in-Done.is) ∙ ap (told_well (rows_kept (kept_at c.args.self.now)) (place_kept (kept_at c.args.self.now)) c.args.self.now.locks.items c.args.self.now.blocks.block) (c.in-Some.ensures c.args.self.now.opens)))
    c.told_by.ensures

pub returns-in-Absent : goal.returns-in-Absent
returns-in-Absent c =
    ap answers.Error (c.absent_error.ensures ∙ ap (absent_error c.args.command.now c.in-Absent.name) c.place_kept.ensures)
    ∙ sym (ap (told_left (rows_kept (kept_at c.args.self.now)) (place_kept (kept_at c.args.self.now)) c.args.self.now.locks.items c.args.self.now.blocks.block c.args.command.now) (absent_is (plan_at c.args.self.now.opens c.args.self.now.exec) c.in-Absent.name (sym (c.next.ensures c.args.self.now.opens) ∙ c.in-Absent.is)))

pub returns-in-None : goal.returns-in-None
returns-in-None c = sym (tells_well (rows_kept (kept_at c.args.self.now)) (place_kept (kept_at c.args.self.now)) c.args.self.now.locks.items c.args.self.now.blocks.block c.args.command.now (plan_at c.args.self.now.opens c.args.self.now.exec) c.in-Done.field-0 (sym (c.next.ensures c.args.self.now.opens) ∙ c.in-Done.is) ∙ ap (told_well (rows_kept (kept_at c.args.self.now)) (place_kept (kept_at c.args.self.now)) c.args.self.now.locks.items c.args.self.now.blocks.block) (c.in-None.ensures c.args.self.now.opens))

pub unreachable-requires : goal.unreachable-requires
unreachable-requires c =
    let both : true ≡ false = sym c.requires ∙ out_wanted (plan_at c.args.self.now.opens c.args.self.now.exec) ∙ ap out_of_want (sym (c.next.ensures c.args.self.now.opens)) ∙ not_out c.next.result c.in_default.not-Done c.in_default.not-Fails c.in_default.not-Absent in
    absurd (cc both)
