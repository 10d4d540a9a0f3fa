use Rattle.std.proofs.Common.{◌∙◌, subst, arith}
use Rattle.std.specs.Bool.{Decides}
use Rattle.history_model.specs.Lapped.{FetchesFrom}
use Rattle.history_model.specs.MayFollow.{MayFollow}
use Rattle.history_lines.proofs.Following.{session_read, session_counted, no_session, follows_not, comes_then}
use Rattle.history_lines.proofs.answering.Held.may_enter.Goals as goal

pub returns-then-not-has_session-clause-decides : goal.returns-then-not-has_session-clause-decides
returns-then-not-has_session-clause-decides c = λ scenario seen k size_is. no_session scenario seen c.args.self.now.ledger c.args.self.now.sessions.items c.args.e.now c.has_session.result c.if-not-has_session.true c.has_session.ensures k

pub returns-then-not-may_follow-clause-decides : goal.returns-then-not-may_follow-clause-decides
returns-then-not-may_follow-clause-decides c = λ scenario seen k size_is. follows_not scenario c.args.size seen c.args.e.now (subst (λ t. Decides t (MayFollow seen c.args.e.now × FetchesFrom c.args.size seen c.args.e.now.backend c.args.e.now.event)) c.if-not-may_follow.true (c.in_ok-may_follow.ensures.decides seen k.reads)) size_is

pub index-session-requires : goal.index-session-requires
index-session-requires c = let there = c.has_session.ensures.0 c.if-not-has_session.false in omega (arith, there.0, there.1)

pub comes-requires : goal.comes-requires
comes-requires c =
    let there = c.has_session.ensures.0 c.if-not-has_session.false in
    let counted = session_counted c.args.self.now.ledger c.args.self.now.sessions.items c.args.e.now c.index-session.result.now c.requires there
    (session_read c.args.self.now.sessions.items c.args.e.now.backend c.index-session.result.now there c.index-session.ensures)
    ((c.in_ok-may_follow.ensures.decides c.requires.seen c.requires.follows.reads).0 c.if-not-may_follow.false).0 in
    record { few = counted.0; room = counted.1 }

pub returns-clause-decides : goal.returns-clause-decides
returns-clause-decides c = λ scenario seen k size_is.
    let there = c.has_session.ensures.0 c.if-not-has_session.false in
    comes_then scenario c.args.size seen c.args.self.now.ledger c.args.self.now.sessions.items c.in-Ok.next_oid c.args.e.now c.index-session.result.now c.comes.result c.comes.ensures (c.in-Ok.ensures.1 ∙ c.next_oid.ensures seen k.reads) there
    (session_read c.args.self.now.sessions.items c.args.e.now.backend c.index-session.result.now there c.index-session.ensures)
    (subst (λ t. Decides t (MayFollow seen c.args.e.now × FetchesFrom c.args.size seen c.args.e.now.backend c.args.e.now.event)) c.if-not-may_follow.false (c.in_ok-may_follow.ensures.decides seen k.reads)) k size_is
