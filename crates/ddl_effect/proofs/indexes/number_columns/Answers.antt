use Rattle.std.proofs.Common.{◌≡◌, ◌∙◌, ◌+◌, drop, refl, ap, rules}
use Rattle.command_answers.specs.declared.error.CommandError.TheVariants.{NoColumn}
use Rattle.ddl_effect.specs.Plans.{Fails}
use Rattle.ddl_effect.specs.Parts.{column_there}
use Rattle.ddl_effect.specs.Indexes.{numbering, numbered_too}
use Rattle.ddl_effect.specs.Replays.{after_all}
use Rattle.ddl_effect.proofs.Replays.{comes_on, comes_fails, comes_same, numbers_next}
use Rattle.ddl_effect.proofs.indexes.number_columns.Goals as goal

pub returns-in_default : goal.returns-in_default
returns-in_default c =
    let none : column_there c.column-item.result (numbered_too (numbering c.args.name c.args.rel (drop (c.loop-column.column-index + 1) c.args.columns.now)) c.loop-column.nums.items) c.in_ok-search.field-0.now ≡ Fails (NoColumn c.column-item.result) = search rules in
    rw c.fails.ensures
    (comes_same _ c.args.given.now c.loop-column.given _ _
    (c.loop-column.invariant.goes ∙ ap (after_all c.loop-column.given) (numbers_next c.args.name c.args.rel c.args.columns.now c.loop-column.column-index c.column-item.result c.loop-column.nums.items c.loop-column-test.true c.column-item.is))
    (comes_on _ _ _ c.search.new.self _ _ c.in_ok-search.ensures none (comes_fails c.search.new.self (Fails (NoColumn c.column-item.result)) (NoColumn c.column-item.result) refl)))
