use Rattle.std.proofs.Common.{◌≤◌, refl, sym, subst, length}
use Rattle.history_lines.proofs.Allowing.{few_commands}
use Rattle.history_lines.proofs.Taken.{gone_on}
use Rattle.history_lines.proofs.TakenEvents.{reserved_may, reserved_taken}
use Rattle.history_lines.proofs.session.Session.go_on.Goals as goal

pub enter-requires : goal.enter-requires
enter-requires c = record {
  comes = reserved_may c.args.ledger.now c.args.self.now.progress c.reserve_lock.new.self c.args.event.now c.reserve_lock.ensures.same c.reserve_lock.ensures.rests c.requires.comes;
  inside = c.requires.inside;
  place = c.in_ok-reserve_lock.ensures.ok;
}

pub settle-requires : goal.settle-requires
settle-requires c = record { few = subst (λ l. length l ≤ 20000) (sym c.in_ok-enter.ensures.same) (few_commands _ _ _ (reserved_may c.args.ledger.now c.args.self.now.progress c.reserve_lock.new.self c.args.event.now c.reserve_lock.ensures.same c.reserve_lock.ensures.rests c.requires.comes)) }

pub returns : goal.returns
returns c = gone_on c.settle.result c.args.ledger.now c.args.at c.args.event.now c.args.self.now (record c.args.self.now { progress = c.enter.new.progress }) c.settle.new.self c.requires.going refl refl c.requires.inside
    (reserved_taken c.args.ledger.now c.args.at c.args.self.now.progress c.reserve_lock.new.self c.args.event.now c.enter.new.progress c.reserve_lock.ensures.same c.in_ok-enter.ensures.takes) c.settle.ensures.goes_on c.settle.ensures.started
