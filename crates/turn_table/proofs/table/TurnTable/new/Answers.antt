use Rattle.std.proofs.Common.{◌∙◌, ◌+◌, ◌*◌, ◌<◌, [], sym, ap, subst}
use Rattle.turn_table.specs.declared.table.TurnTable.{TurnTable}
use Rattle.turn_table.specs.declared.view.Stage.TheVariants.{Resting}
use Rattle.turn_table.specs.Views.{view_of}
use Rattle.turn_table.specs.Kept.{parts_from}
use Rattle.turn_table.proofs.Numbering.{numbered}
use Rattle.turn_table.proofs.table.TurnTable.new.Goals as goal

pub returns-clause-passes : goal.returns-clause-passes
returns-clause-passes g c =
    let e = c.in_ok-table.ensures in let seats = c.requires.seats in
    let table : TurnTable g.row.V.Denot g.row.V-Entry.Denot g.row.V-Fixed.Denot = record {
      table = c.in_ok-table.table;
      count = c.args.seats;
      counted = (sym e.told.0, seats.0, seats.1);
      sized = (e.size.0 ∙ ap (λ n. 2 * n + 2) (sym e.told.0), e.size.1, subst (λ n. 0 < n) (sym e.told.0) seats.0);
    } in
    (c.deal-passes.ensures.0, numbered g.V.Turned.history g.V.Turned.room table 1 c.deal-passes.result.items c.deal-passes.ensures.1)

pub deal-passes-requires-clause-seat : goal.deal-passes-requires-clause-seat
deal-passes-requires-clause-seat g c = let V = g.V.Turned in let e = c.in_ok-table.ensures in
    (e.seat.0, e.seat.1 ∙ ap (λ n. (view_of Resting (parts_from V.fixed V.history V.owner V.waiting V.room c.in_ok-table.table.shared.key 1 n), [])) e.told.0)
