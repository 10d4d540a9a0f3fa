use Rattle.std.proofs.Common.{◌∙◌, ◌==◌, ◌&&◌, not, rules}
use Rattle.std.proofs.lemmas.Iterator.{YieldsList-from_slice}
use Rattle.std.proofs.lemmas.Iterator.Search.{find_from_yields_List}
use Rattle.base_types.specs.Modes.{conflicts}
use Rattle.base_types.specs.Scans.{same_oid}
use Rattle.lock_modes.proofs.lock_table.first_in_the_way.Goals as goal

pub returns : goal.returns
returns c =
    let found = find_from_yields_List (λ g. not (g.backend == c.args.backend) && same_oid g.rel c.args.rel && conflicts c.args.mode g.mode) _ _ _ c.find.ensures.ran (YieldsList-from_slice c.args.grants.now c.iter.ensures.rest) (λ x b q k. search rules) in
    c.copied.ensures ∙ found
