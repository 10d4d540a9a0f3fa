use Rattle.std.proofs.Common.{◌∙◌, ap, sym}
use Rattle.std.proofs.lemmas.Result.{IfOk-weaker}
use Rattle.command_answers.specs.declared.answer.Answer.TheVariants as answers
use Rattle.cacheless.specs.Lines.{name_in}
use Rattle.cacheless.specs.State.{kept_at, rows_kept, place_kept}
use Rattle.cacheless.specs.Told.{told_well}
use Rattle.cacheless.proofs.progress.Progress.told_by.Goals as goal

pub returns-in-Regclass : goal.returns-in-Regclass
returns-in-Regclass c =
    (λ i. answers.Regclass c.in-Regclass.oid ((c.name_of.ensures ∙ ap name_in c.rows_kept.ensures) i) (c.place_kept.ensures i))
    ∙ ap (told_well (rows_kept (kept_at c.args.self.now)) (place_kept (kept_at c.args.self.now)) c.args.self.now.locks.items c.args.self.now.blocks.block) (sym c.in-Regclass.is)

pub returns-in-Column : goal.returns-in-Column
returns-in-Column c = ap (told_well (rows_kept (kept_at c.args.self.now)) (place_kept (kept_at c.args.self.now)) c.args.self.now.locks.items c.args.self.now.blocks.block) (sym c.in-Column.is)

pub returns-in_ok-copied-in-Columns : goal.returns-in_ok-copied-in-Columns
returns-in_ok-copied-in-Columns c = ap answers.Columns (c.in_ok-copied-in-Columns.ensures ∙ c.as_slice.ensures) ∙ ap (told_well (rows_kept (kept_at c.args.self.now)) (place_kept (kept_at c.args.self.now)) c.args.self.now.locks.items c.args.self.now.blocks.block) (sym c.in-Columns.is)

pub returns-in-Field : goal.returns-in-Field
returns-in-Field c = IfOk-weaker c.shown_one.result _ _ (λ answer is. is ∙ ap (told_well (rows_kept (kept_at c.args.self.now)) (place_kept (kept_at c.args.self.now)) c.args.self.now.locks.items c.args.self.now.blocks.block) (sym c.in-Field.is)) c.shown_one.ensures
