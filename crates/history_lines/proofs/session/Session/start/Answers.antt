use Rattle.std.proofs.Common.{◌≤◌, true, refl, sym, subst, length}
use Rattle.history_lines.proofs.Taken.{started}
use Rattle.history_lines.proofs.session.Session.start.Goals as goal

pub settle-requires : goal.settle-requires
settle-requires c = record { few = subst (λ l. length l ≤ 20000) (sym c.enter_start.ensures.same) c.requires.few }

pub returns : goal.returns
returns c = started c.settle.result c.args.self.now (record c.args.self.now { progress = c.enter_start.new.self; is_started = true }) c.settle.new.self refl refl c.enter_start.ensures.kept c.enter_start.ensures.answer c.enter_start.ensures.holds c.settle.ensures.goes_on c.settle.ensures.started
