use Rattle.std.proofs.Common.{◌<◌, ◌∙◌, IsSomeAnd, sym, ap, subst, arith}
use Rattle.std.specs.Option.{option_copied}
use Rattle.std.proofs.lemmas.Result.{on_ok_weaker}
use Rattle.local_caches.proofs.KeyedPuts.{row_put, none_put}
use Rattle.local_caches.proofs.keyed.put_key.Goals as goal

pub release-requires : goal.release-requires
release-requires c = subst (λ o. IsSomeAnd o (λ e. 0 < e.pins)) (sym c.in_ok-r-in-Some.ensures.shown.at) (omega arith)

pub returns-in_ok-r-in-Some-clause-ok : goal.returns-in_ok-r-in-Some-clause-ok
returns-in_ok-r-in-Some-clause-ok c =
    row_put c.args.cache.now c.put_row.new.self c.release.new.self c.args.key.now c.args.rows.now c.in-Some.row.now c.in_ok-r-in-Some.r c.args.at (sym c.first.ensures.value ∙ ap option_copied c.in-Some.is) c.requires.one c.in_ok-r-in-Some.ensures.entry c.release.ensures.same

pub returns-in-None-clause-ok : goal.returns-in-None-clause-ok
returns-in-None-clause-ok c =
    on_ok_weaker c.put_absent.result (none_put c.args.cache.now c.put_absent.new.self c.args.key.now c.args.rows.now c.args.at (sym c.first.ensures.value ∙ ap option_copied c.in-None.is)) c.put_absent.ensures.entry
