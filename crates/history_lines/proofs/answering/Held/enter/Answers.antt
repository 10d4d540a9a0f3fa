use Rattle.std.proofs.Common.{arith}
use Rattle.std.proofs.lemmas.Result.{on_ok_weaker}
use Rattle.history_lines.proofs.Following.{can_there, comes_to, can_enter, entered_follows}
use Rattle.history_lines.proofs.answering.Held.enter.Goals as goal

pub index_mut-session-requires : goal.index_mut-session-requires
index_mut-session-requires c = let there = can_there c.args.self.now.ledger c.args.self.now.sessions.items c.args.e.now c.requires in omega (arith, there.0, there.1)

pub take-requires : goal.take-requires
take-requires c = comes_to c.args.self.now.ledger c.args.self.now.sessions.items c.args.e.now c.index_mut-session.result.now c.requires c.index_mut-session.ensures.value

pub enter-requires : goal.enter-requires
enter-requires c = can_enter c.args.self.now.ledger c.args.self.now.sessions.items c.args.e.now c.requires

pub returns : goal.returns
returns c = on_ok_weaker c.enter.result (λ enters. entered_follows c.args.self.now.ledger c.enter.new.self c.args.self.now.sessions.items c.args.e.now c.args.at c.index_mut-session.result.now c.take.new.self c.requires c.index_mut-session.ensures.value c.in_ok-take.ensures.ok enters) c.enter.ensures.history
