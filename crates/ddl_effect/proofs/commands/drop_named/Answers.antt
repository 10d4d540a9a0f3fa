use Rattle.std.proofs.Common.{Err, ap}
use Rattle.std.proofs.lemmas.Result.{err_from_is_err_and}
use Rattle.ddl_effect.specs.Tables.{drop_table as dropping_table}
use Rattle.ddl_effect.proofs.commands.drop_named.Goals as goal

pub returns-in_err-rel : goal.returns-in_err-rel
returns-in_err-rel c = let p = err_from_is_err_and c.from_residual.result c.from_residual.ensures.1 in rw (p.1, p.2) (ap (λ l. Err l) (c.in_err-rel.ensures.stays (dropping_table c.args.opens.now c.args.name)))
