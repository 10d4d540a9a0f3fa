use Rattle.std.proofs.Common.{◌∙◌, length, min, drop, sym, ap, arith}
use Rattle.std.proofs.lemmas.List.{drop-drop}
use Rattle.edge_io.specs.InMemory.{given, after_read}
use Rattle.edge_io.proofs.FaultCounts.{stayed}
use Rattle.edge_io.proofs.MemoryReads.{part_from, gave, after_one}
use Rattle.edge_io.proofs.memory_sources.MemorySourceSource.read.Goals as goal

pub returns-clause-bytes : goal.returns-clause-bytes
returns-clause-bytes c =
    let part = part_from c.self.inside.bytes.items c.deref.result.now c.self.inside.at c.deref.ensures.value in
    let e = c.give-count.ensures in
    let parts = gave c.self.inside.bytes.items _ c.give-count.new.into c.self.inside.at _ c.self.inside.per_call c.give-count.result part c.self.invariant.1 (omega arith) e.count e.bytes in
    (sym (ap (λ s. s.left) c.self.view_is) ∙ parts.0, parts.1)

pub returns-clause-cause : goal.returns-clause-cause
returns-clause-cause c = stayed _ _ _ (ap (λ s. s.calls.faults) c.self.view_is) _ c.in_ok-call.ensures.cause.steady

pub returns-clause-ok : goal.returns-clause-ok
returns-clause-ok c =
    let part = part_from c.self.inside.bytes.items c.deref.result.now c.self.inside.at c.deref.ensures.value in
    let room = length c.args.into.now in
    c.give-count.ensures.count ∙ ap (λ l. min (min room c.self.inside.per_call) (length l)) part ∙ ap (λ s. given s room) c.self.view_is

pub returns-clause-after : goal.returns-clause-after
returns-clause-after c =
    let part = part_from c.self.inside.bytes.items c.deref.result.now c.self.inside.at c.deref.ensures.value in
    let room = length c.args.into.now in
    let e = c.in_ok-call.ensures in
    let counts = c.give-count.ensures.count ∙ ap (λ l. min (min room c.self.inside.per_call) (length l)) part in
    let rest = sym (drop-drop c.give-count.result c.self.inside.at c.self.inside.bytes.items) ∙ ap (λ n. drop n (drop c.self.inside.at c.self.inside.bytes.items)) counts in
    after_one _ room _ _ e.err rest e.after ∙ ap (λ s. after_read s room) c.self.view_is
