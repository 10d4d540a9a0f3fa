use Rattle.std.proofs.Common.{◌∙◌, OnOk, Some, ap, subst}
use Rattle.catalog_rows.specs.Places.{is_place, key_place}
use Rattle.catalog_rows.specs.Index.{AddsWhere}
use Rattle.catalog_rows.proofs.Listing.{last_added, last_done}
use Rattle.catalog_rows.proofs.index.Index.add_each.Goals as goal

pub returns-clause-some : goal.returns-clause-some
returns-clause-some c =
    last_added c.args.row.now c.args.number c.args.self.now c.add.new.self c.add-2.new.self c.add-3.new.self c.add-3.result (subst (λ p. AddsWhere (is_place (Some p)) c.args.number c.args.self.now c.add.new.self) (c.of_key.ensures ∙ ap key_place c.key.ensures) c.in_ok-add.ensures.ok)
    (subst (λ o. AddsWhere (is_place o) c.args.number c.add.new.self c.add-2.new.self) c.of_owner.ensures c.in_ok-add-2.ensures.ok) (subst (λ o. OnOk c.add-3.result (AddsWhere (is_place o) c.args.number c.add-2.new.self c.add-3.new.self)) c.of_other.ensures c.add-3.ensures.ok) c.add-3.ensures.err

pub returns-clause-ok : goal.returns-clause-ok
returns-clause-ok c =
    last_done c.args.row.now c.args.number c.args.self.now c.add.new.self c.add-2.new.self c.add-3.new.self c.add-3.result (subst (λ p. AddsWhere (is_place (Some p)) c.args.number c.args.self.now c.add.new.self) (c.of_key.ensures ∙ ap key_place c.key.ensures) c.in_ok-add.ensures.ok)
    (subst (λ o. AddsWhere (is_place o) c.args.number c.add.new.self c.add-2.new.self) c.of_owner.ensures c.in_ok-add-2.ensures.ok) (subst (λ o. OnOk c.add-3.result (AddsWhere (is_place o) c.args.number c.add-2.new.self c.add-3.new.self)) c.of_other.ensures c.add-3.ensures.ok)
