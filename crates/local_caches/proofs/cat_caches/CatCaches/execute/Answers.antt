use Rattle.std.proofs.Common.{◌∙◌}
use Rattle.local_caches.proofs.Unpinned.{gone_unpinned}
use Rattle.local_caches.proofs.cat_caches.CatCaches.execute.Goals as goal

pub invariant_of-self : goal.invariant_of-self
invariant_of-self c =
    let old = c.args.self.now in
    record {
      theirs = record { names_are = c.invalidate.ensures.shown.id ∙ old.theirs.names_are; oids_are = old.theirs.oids_are; columns_are = old.theirs.columns_are };
      pins = record { names_are = gone_unpinned _ _ c.invalidate.ensures.shown old.pins.names_are; oids_are = old.pins.oids_are; columns_are = old.pins.columns_are };
    }

pub invariant_of-self-in-RelOid : goal.invariant_of-self-in-RelOid
invariant_of-self-in-RelOid c =
    let old = c.args.self.now in
    record {
      theirs = record { names_are = old.theirs.names_are; oids_are = c.invalidate-in-RelOid.ensures.shown.id ∙ old.theirs.oids_are; columns_are = old.theirs.columns_are };
      pins = record { names_are = old.pins.names_are; oids_are = gone_unpinned _ _ c.invalidate-in-RelOid.ensures.shown old.pins.oids_are; columns_are = old.pins.columns_are };
    }

pub invariant_of-self-in-AttName : goal.invariant_of-self-in-AttName
invariant_of-self-in-AttName c =
    let old = c.args.self.now in
    record {
      theirs = record { names_are = old.theirs.names_are; oids_are = old.theirs.oids_are; columns_are = c.invalidate-in-AttName.ensures.shown.id ∙ old.theirs.columns_are };
      pins = record { names_are = old.pins.names_are; oids_are = old.pins.oids_are; columns_are = gone_unpinned _ _ c.invalidate-in-AttName.ensures.shown old.pins.columns_are };
    }
