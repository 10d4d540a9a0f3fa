use Rattle.std.proofs.Common.{List, ℕ, [], IsSome, sym, ap, refl, subst}
use Rattle.std.specs.Option.{option_map_or}
use Rattle.catalog_rows.specs.Numbers.{IsAscending}
use Rattle.catalog_rows.proofs.Listing.{updated_removes}
use Rattle.catalog_rows.proofs.index.Index.remove_at.Goals as goal

pub remove-requires : goal.remove-requires
remove-requires c = subst IsAscending (ap (λ o. option_map_or {U = List ℕ} (λ numbers. numbers) o []) (sym c.in-Some.ensures.value)) (c.requires c.args.place)

pub returns-in-Some : goal.returns-in-Some
returns-in-Some c =
    updated_removes c.args.self.now _ c.args.place c.args.number c.in-Some.numbers.now c.remove.new.self (ap (λ o. option_map_or {U = List ℕ} (λ numbers. numbers) o []) (sym c.in-Some.ensures.value)) c.remove.ensures
    ((c.get_mut.follows.holds c.remove.new.self).3 (subst IsSome c.in-Some.ensures.value refl))
