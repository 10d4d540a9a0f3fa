use Rattle.std.proofs.Common.{refl}
use Rattle.std.proofs.lemmas.Result.{on_ok_weaker, on_err_weaker}
use Rattle.local_caches.proofs.Catalogs.{put_columns, same_found}
use Rattle.local_caches.proofs.cat_caches.CatCaches.put.Goals as goal

pub returns-in-Key-RelName-default-clause-err : goal.returns-in-Key-RelName-default-clause-err
returns-in-Key-RelName-default-clause-err c = on_err_weaker c.put_key.result (λ same. same_found c.args.self.now _ same.entries (λ key. refl) (λ key. refl) (λ prefix. refl)) c.put_key.ensures.err

pub returns-in-Key-RelOid-default-clause-err : goal.returns-in-Key-RelOid-default-clause-err
returns-in-Key-RelOid-default-clause-err c = on_err_weaker c.put_key-in-Key-RelOid-default.result (λ same. same_found c.args.self.now _ (λ key. refl) same.entries (λ key. refl) (λ prefix. refl)) c.put_key-in-Key-RelOid-default.ensures.err

pub returns-in-Key-AttName-default-clause-err : goal.returns-in-Key-AttName-default-clause-err
returns-in-Key-AttName-default-clause-err c = on_err_weaker c.put_key-in-Key-AttName-default.result (λ same. same_found c.args.self.now _ (λ key. refl) (λ key. refl) same.entries same.lists) c.put_key-in-Key-AttName-default.ensures.err

pub returns-clause-ok : goal.returns-clause-ok
returns-clause-ok c = on_ok_weaker c.put_list.result (λ puts. put_columns c.args.self.now _ c.in-List.prefix c.args.rows c.args.at c.args.lookup.now c.in-List.is puts refl refl) c.put_list.ensures.ok

pub returns-clause-err : goal.returns-clause-err
returns-clause-err c = on_err_weaker c.put_list.result (λ same. same_found c.args.self.now _ (λ key. refl) (λ key. refl) same.entries same.lists) c.put_list.ensures.err
