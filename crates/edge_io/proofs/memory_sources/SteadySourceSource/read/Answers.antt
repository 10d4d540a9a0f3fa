use Rattle.std.proofs.Common.{◌∙◌, sym, arith}
use Rattle.edge_io.proofs.MemoryReads.{part_from, gave}
use Rattle.edge_io.proofs.memory_sources.SteadySourceSource.read.Goals as goal

pub returns-clause-bytes : goal.returns-clause-bytes
returns-clause-bytes c =
    let part = part_from c.self.inside.bytes.items c.deref.result.now c.self.inside.at c.deref.ensures.value in
    let e = c.give-count.ensures in
    let parts = gave c.self.inside.bytes.items _ c.give-count.new.into c.self.inside.at _ _ c.give-count.result part (omega arith) (omega arith) e.count e.bytes in
    (sym c.self.view_is ∙ parts.0, parts.1)
