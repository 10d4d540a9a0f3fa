use Rattle.std.proofs.Common.{◌∙◌}
use Rattle.local_caches.proofs.Unpinned.{gone_unpinned}
use Rattle.local_caches.proofs.cat_caches.CatCaches.reset.Goals as goal

pub invariant_of-self : goal.invariant_of-self
invariant_of-self c =
    let old = c.args.self.now in
    record {
      theirs = record { names_are = c.reset.ensures.shown.id ∙ old.theirs.names_are; oids_are = c.reset-2.ensures.shown.id ∙ old.theirs.oids_are; columns_are = c.reset-3.ensures.shown.id ∙ old.theirs.columns_are };
      pins = record { names_are = gone_unpinned _ _ c.reset.ensures.shown old.pins.names_are; oids_are = gone_unpinned _ _ c.reset-2.ensures.shown old.pins.oids_are; columns_are = gone_unpinned _ _ c.reset-3.ensures.shown old.pins.columns_are };
    }
