use Rattle.std.proofs.Common.{◌∙◌, refl, sym}
use Rattle.catalog_rows.specs.Places.{is_under}
use Rattle.catalog_rows.proofs.Within.{only_dropped}
use Rattle.catalog_rows.proofs.CurrentSteps.{current_dropped}
use Rattle.catalog_rows.proofs.committing.drop_if_dead.Goals as goal

pub returns-then-is_dead-clause-only : goal.returns-then-is_dead-clause-only
returns-then-is_dead-clause-only c =
    only_dropped (λ place. is_under place c.in-Some.version.now.row) c.args.number c.args.indexes.now (record { all = c.args.indexes.now.all; current = c.remove_row.new.self; whole = c.args.indexes.now.whole }) c.remove_row.ensures refl c.requires.only

pub returns-then-is_dead-clause-current : goal.returns-then-is_dead-clause-current
returns-then-is_dead-clause-current c =
    current_dropped c.args.committed.now c.args.slots.now c.args.number c.in-Some.version.now c.args.indexes.now (record { all = c.args.indexes.now.all; current = c.remove_row.new.self; whole = c.args.indexes.now.whole }) c.in-Some.ensures
    (sym c.is_dead.ensures ∙ c.if-is_dead.true) c.remove_row.ensures refl c.requires.current
