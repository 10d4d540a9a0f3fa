use Rattle.catsync_tests.proofs.rel_caches.value_under.Goals as goal

pub get-requires : goal.get-requires
get-requires c = (c.args.rel, c.requires)
