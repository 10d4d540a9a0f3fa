use Rattle.std.proofs.Common.{◌≡◌, ◌+◌, ◌++◌, ◌∙◌, List, Option, length, ap, refl, subst, arith}
use Rattle.std.specs.Option.{option_to_list}
use Rattle.catalog_rows.specs.Types.{Version}
use Rattle.catalog_rows.specs.Index.{IsIndexed, IsCurrent}
use Rattle.catalog_rows.proofs.Grown.{indexed_off, in_order}
use Rattle.catalog_rows.proofs.CurrentSteps.{current_off}
use Rattle.catalog_rows.proofs.growing.take_last.Goals as goal

pub remove_version-requires-clause-all : goal.remove_version-requires-clause-all
remove_version-requires-clause-all c = in_order c.args.slots.now.items c.args.lists.now.indexes.all c.requires.numbered

pub returns-in-Some-clause-indexed : goal.returns-in-Some-clause-indexed
returns-in-Some-clause-indexed c =
    let number : c.len-number.result ≡ 1 + length c.pop.new.self.items = omega (arith, c.len-number.ensures, c.in-Some.ensures.cases, c.pop.new.self.ok) in
    indexed_off c.pop.new.self.items c.in-Some.slot c.len-number.result c.args.lists.now (record { alloc = c.args.lists.now.alloc; indexes = c.remove_version.new.self; touched = c.args.lists.now.touched }) number
    (subst (λ (xs : List (Option Version)). IsIndexed xs c.args.lists.now) (c.pop.ensures.items ∙ ap (λ (o : Option (Option Version)). c.pop.new.self.items ++ option_to_list o) c.in-Some.is) c.requires) refl c.remove_version.ensures

pub returns-in-Some-clause-current : goal.returns-in-Some-clause-current
returns-in-Some-clause-current c = λ committed current.
    let number : c.len-number.result ≡ 1 + length c.pop.new.self.items = omega (arith, c.len-number.ensures, c.in-Some.ensures.cases, c.pop.new.self.ok) in
    current_off c.pop.new.self.items c.in-Some.slot c.len-number.result c.args.lists.now.indexes c.remove_version.new.self number c.remove_version.ensures committed
    (subst (λ (xs : List (Option Version)). IsCurrent committed xs c.args.lists.now.indexes) (c.pop.ensures.items ∙ ap (λ (o : Option (Option Version)). c.pop.new.self.items ++ option_to_list o) c.in-Some.is) current)
