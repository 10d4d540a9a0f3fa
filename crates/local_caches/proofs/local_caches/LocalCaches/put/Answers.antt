use Rattle.std.proofs.Common.{◌∙◌, refl, sym, ap, subst}
use Rattle.std.proofs.lemmas.Result.{on_ok_weaker}
use Rattle.local_caches.specs.CatCaches.{PutsLookup}
use Rattle.local_caches.specs.Parts.{IsPartOf}
use Rattle.local_caches.specs.Caches.{kept_of, read_at}
use Rattle.local_caches.proofs.Putting.{put_cat, put_rel}
use Rattle.local_caches.proofs.local_caches.LocalCaches.put.Goals as goal

pub returns-in-Cat-clause-ok : goal.returns-in-Cat-clause-ok
returns-in-Cat-clause-ok c =
    let there = sym c.home_of.ensures ∙ c.in-Cat.is in
    on_ok_weaker c.put.result (λ puts. put_cat c.args.self.now _ c.args.scan.now c.args.rows.items c.args.at c.in-Cat.lookup there refl (subst (λ rows. PutsLookup c.args.self.now.catalogs c.put.new.self c.in-Cat.lookup rows c.args.at) c.from_vec-rows.ensures puts)) c.put.ensures.ok

pub returns-in_ok-part-in-Rel-clause-ok : goal.returns-in_ok-part-in-Rel-clause-ok
unfolding kept_of
returns-in_ok-part-in-Rel-clause-ok c =
    let there = sym c.home_of.ensures ∙ c.in-Rel.is in
    let it = subst (λ rows. IsPartOf c.in_ok-part-in-Rel.part c.args.scan.now rows c.args.at) c.from_vec-rows.ensures c.in_ok-part-in-Rel.ensures in
    on_ok_weaker c.put-in-Rel.result (λ adds. put_rel c.args.self.now _ c.args.scan.now c.args.rows.items c.args.at c.in-Rel.rel c.in_ok-part-in-Rel.part there refl (sym (ap (read_at c.args.self.now c.args.scan.now) there) ∙ c.requires.new) it adds) c.put-in-Rel.ensures.ok
