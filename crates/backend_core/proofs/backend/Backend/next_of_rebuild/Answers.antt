use Rattle.std.proofs.Common.{◌∙◌, sym}
use Rattle.backend_core.proofs.Choosing.Nexting.{rebuild_look, rebuild_some, rebuild_scan, rebuild_look_is, rebuild_scan_is}
use Rattle.backend_core.proofs.backend.Backend.next_of_rebuild.Goals as goal

pub returns-then-not-frame-clause-next : goal.returns-then-not-frame-clause-next
returns-then-not-frame-clause-next c = rebuild_look c.args.self.now _ _ c.requires.chosen c.requires.free c.requires.goes c.requires.top c.if-not-frame.true

pub unreachable-requires : goal.unreachable-requires
unreachable-requires c = rebuild_some c.args.self.now _ _ c.requires.chosen c.requires.free c.requires.goes c.requires.top (sym c.first_missing.ensures ∙ c.in-None.is)

pub returns-clause-next : goal.returns-clause-next
returns-clause-next c = rebuild_scan c.args.self.now _ _ c.requires.chosen c.requires.free c.requires.goes c.requires.top c.if-not-frame.false _ (sym c.first_missing.ensures ∙ c.in-Some.is)

pub returns-then-not-frame-clause-is : goal.returns-then-not-frame-clause-is
returns-then-not-frame-clause-is c = rebuild_look_is c.args.self.now _ _ c.requires.chosen c.requires.free c.requires.goes c.requires.top c.if-not-frame.true

pub returns-clause-is : goal.returns-clause-is
returns-clause-is c = rebuild_scan_is c.args.self.now _ _ c.requires.chosen c.requires.free c.requires.goes c.requires.top c.if-not-frame.false _ (sym c.first_missing.ensures ∙ c.in-Some.is)
