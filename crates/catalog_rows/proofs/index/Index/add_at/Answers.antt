use Rattle.std.proofs.Common.{◌∙◌, List, ℕ, [], Some, IsSome, sym, ap, refl, subst}
use Rattle.std.specs.Option.{option_map_or}
use Rattle.std.specs.Map.{lookup}
use Rattle.std.proofs.lemmas.Map.Steps.{set_value_same}
use Rattle.catalog_rows.specs.Places.{same_place}
use Rattle.catalog_rows.proofs.Listing.{updated_adds}
use Rattle.catalog_rows.proofs.index.Index.add_at.Goals as goal

pub returns-in-Err-clause-err : goal.returns-in-Err-clause-err
returns-in-Err-clause-err c =
    λ place. ap (λ es. option_map_or {U = List ℕ} (λ numbers. numbers) (lookup (same_place place) es) [])
    ((c.get_mut.follows.holds c.push.new.self).0 ∙ set_value_same (same_place c.args.place) c.args.self.now.lists.entries c.push.new.self (sym c.in-Some.ensures.value ∙ ap Some (sym c.in-Err.ensures.err)))

pub returns-in-Ok-clause-ok : goal.returns-in-Ok-clause-ok
returns-in-Ok-clause-ok c =
    updated_adds c.args.self.now _ c.args.place c.args.number c.in-Some.numbers.now c.push.new.self (ap (λ o. option_map_or {U = List ℕ} (λ numbers. numbers) o []) (sym c.in-Some.ensures.value)) c.in-Ok.ensures.ok
    ((c.get_mut.follows.holds c.push.new.self).3 (subst IsSome c.in-Some.ensures.value refl))
