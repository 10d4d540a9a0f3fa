use Rattle.std.proofs.Common.{refl}
use Rattle.catalog_rows.specs.Places.{is_under}
use Rattle.catalog_rows.proofs.Within.{order_added_where, added_out}
use Rattle.catalog_rows.proofs.indexes.Indexes.add_row.Goals as goal

pub remove_row-requires : goal.remove_row-requires
remove_row-requires c = order_added_where (λ place. is_under place c.args.row.now) c.args.number c.args.self.now.all c.add_row.new.self c.requires.all c.in_ok-add_row.ensures.ok

pub returns-in-Err-clause-err : goal.returns-in-Err-clause-err
returns-in-Err-clause-err c = record {
  all = added_out (λ place. is_under place c.args.row.now) c.args.number c.args.self.now.all c.add_row.new.self c.remove_row.new.self c.requires.all c.in_ok-add_row.ensures.ok c.remove_row.ensures;
  current = c.in-Err.ensures.err;
  whole = refl;
}
