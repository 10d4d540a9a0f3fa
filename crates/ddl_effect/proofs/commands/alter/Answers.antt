use Rattle.std.proofs.Common.{◌∙◌, Err, ap, sym}
use Rattle.std.proofs.lemmas.Result.{err_from_is_err_and}
use Rattle.ddl_effect.specs.Stages.{altered, altering_kind, kind_of}
use Rattle.ddl_effect.specs.Parts.{looking_up}
use Rattle.ddl_effect.specs.Replays.{came_at, step_of, after_all}
use Rattle.ddl_effect.proofs.commands.alter.Goals as goal

pub returns-in_err-rel-in-Table : goal.returns-in_err-rel-in-Table
returns-in_err-rel-in-Table c =
    let p = err_from_is_err_and c.from_residual.result c.from_residual.ensures.1 in
    rw (p.1, p.2) (
    ap (λ m. came_at (Err c.in_err-rel-in-Table.field-0.0) (step_of (after_all c.args.given.now (looking_up c.args.a.now.name m (altering_kind (kind_of c.args.a.now.alteration) c.args.opens.now c.args.a.now.name (altered c.args.opens.now c.args.a.now.alteration)))))) (sym c.mode-mode.ensures)
    ∙ ap (λ k. came_at (Err c.in_err-rel-in-Table.field-0.0) (step_of (after_all c.args.given.now (looking_up c.args.a.now.name c.mode-mode.result (altering_kind k c.args.opens.now c.args.a.now.name (altered c.args.opens.now c.args.a.now.alteration)))))) (sym c.kind.ensures ∙ c.in-Table.is)
    ∙ ap (λ l. Err l) (c.in_err-rel-in-Table.ensures.stays (altered c.args.opens.now c.args.a.now.alteration)))

pub returns-in_err-rel-in-Index : goal.returns-in_err-rel-in-Index
returns-in_err-rel-in-Index c =
    let p = err_from_is_err_and c.from_residual-in_err-rel-in-Index.result c.from_residual-in_err-rel-in-Index.ensures.1 in
    rw (p.1, p.2) (
    ap (λ m. came_at (Err c.in_err-rel-in-Index.field-0.0) (step_of (after_all c.args.given.now (looking_up c.args.a.now.name m (altering_kind (kind_of c.args.a.now.alteration) c.args.opens.now c.args.a.now.name (altered c.args.opens.now c.args.a.now.alteration)))))) (sym c.mode-mode.ensures)
    ∙ ap (λ k. came_at (Err c.in_err-rel-in-Index.field-0.0) (step_of (after_all c.args.given.now (looking_up c.args.a.now.name c.mode-mode.result (altering_kind k c.args.opens.now c.args.a.now.name (altered c.args.opens.now c.args.a.now.alteration)))))) (sym c.kind.ensures ∙ c.in-Index.is)
    ∙ ap (λ l. Err l) (c.in_err-rel-in-Index.ensures.stays (altered c.args.opens.now c.args.a.now.alteration)))
