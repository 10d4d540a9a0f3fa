use Rattle.catsync_tests.proofs.rel_caches.replace.Goals as goal

pub replace-old-requires : goal.replace-old-requires
replace-old-requires c = (c.args.rel, c.requires)
