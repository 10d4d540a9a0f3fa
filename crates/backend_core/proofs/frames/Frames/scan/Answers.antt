use Rattle.std.proofs.Common.{◌∙◌, true, false, sym}
use Rattle.backend_core.proofs.Entries.Inside.{then_so}
use Rattle.backend_core.proofs.Stacking.Scanned.{scanned_again, scanned_done}
use Rattle.backend_core.proofs.frames.Frames.scan.Goals as goal

pub returns-in-Some-lacking_of : goal.returns-in-Some-lacking_of
returns-in-Some-lacking_of c = then_so c.push.result (λ pushed. pushed ∙ scanned_again _ _ _ _ c.in-Some.top _ (sym c.self.view_is ∙ c.in-Some.ensures.items) (sym c.lacking_of.ensures ∙ c.in-Some-lacking_of.is)) c.push.ensures

pub returns-in-None : goal.returns-in-None
returns-in-None c = then_so c.put_rest.result (λ put. put ∙ scanned_done _ _ _ _ c.in-Some.top true (sym c.self.view_is ∙ c.in-Some.ensures.items) (sym c.lacking_of.ensures ∙ c.in-None.is) c.if-top.true) c.put_rest.ensures

pub returns-in-None-2 : goal.returns-in-None-2
returns-in-None-2 c = scanned_done _ _ _ _ c.in-Some.top false (sym c.self.view_is ∙ c.in-Some.ensures.items) (sym c.lacking_of.ensures ∙ c.in-None-2.is) c.if-top.false
