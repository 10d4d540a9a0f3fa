use Rattle.catalog_rows.specs.Places.{is_under}
use Rattle.catalog_rows.proofs.Listing.{back_out, order_added}
use Rattle.catalog_rows.proofs.index.Index.add_row.Goals as goal

pub remove_row-requires : goal.remove_row-requires
remove_row-requires c = order_added (λ place. is_under place c.args.row.now) c.args.number c.args.self.now _ c.requires c.add_each.ensures.some

pub returns-in-Err-clause-err : goal.returns-in-Err-clause-err
returns-in-Err-clause-err c = back_out (λ place. is_under place c.args.row.now) c.args.number c.args.self.now _ _ c.requires c.add_each.ensures.some c.remove_row.ensures
