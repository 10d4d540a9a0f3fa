use Rattle.std.proofs.Common.{◌∙◌, Some, ap, subst}
use Rattle.catalog_rows.specs.Places.{is_place, key_place}
use Rattle.catalog_rows.specs.Index.{RemovesWhere}
use Rattle.catalog_rows.proofs.Listing.{order_removed, each_removed}
use Rattle.catalog_rows.proofs.index.Index.remove_row.Goals as goal

pub remove-requires-2 : goal.remove-requires-2
remove-requires-2 c = order_removed _ c.args.number _ _ c.remove.ensures c.requires

pub remove-requires-3 : goal.remove-requires-3
remove-requires-3 c = order_removed _ c.args.number _ _ c.remove-2.ensures (order_removed _ c.args.number _ _ c.remove.ensures c.requires)

pub returns : goal.returns
returns c =
    each_removed c.args.row.now c.args.number c.args.self.now c.remove.new.self c.remove-2.new.self c.remove-3.new.self (subst (λ p. RemovesWhere (is_place (Some p)) c.args.number c.args.self.now c.remove.new.self) (c.of_key.ensures ∙ ap key_place c.key.ensures) c.remove.ensures)
    (subst (λ o. RemovesWhere (is_place o) c.args.number c.remove.new.self c.remove-2.new.self) c.of_owner.ensures c.remove-2.ensures) (subst (λ o. RemovesWhere (is_place o) c.args.number c.remove-2.new.self c.remove-3.new.self) c.of_other.ensures c.remove-3.ensures)
