use Rattle.catsync_tests.proofs.rel_caches.close.Goals as goal

pub close-requires : goal.close-requires
close-requires c = (c.args.rel, c.requires.under, c.requires.pinned)
