use Rattle.std.proofs.Common.{◌∙◌, sym}
use Rattle.cacheless.proofs.Allowed.AllowedHistories.{plays_on_course}
use Rattle.backend_core.specs.Steps.{Remains}
use Rattle.backend_core.proofs.Entries.Inside.{then_so}
use Rattle.backend_core.proofs.Stepped.{is_ready, not_joined, joined_notes, entered_notes}
use Rattle.backend_core.proofs.backend.Backend.enter_in_turn.Goals as goal

pub join-requires-clause-played : goal.join-requires-clause-played
join-requires-clause-played g c = (plays_on_course _ _ c.requires.spelled c.requires.legal c.requires.plays).0

pub enter_next-requires-clause-ready : goal.enter_next-requires-clause-ready
enter_next-requires-clause-ready g c = is_ready _ _ c.args.self.now c.requires.stands c.in-Alive.is c.requires.spelled c.requires.legal c.requires.plays

pub returns-in-Unstarted-clause-makes : goal.returns-in-Unstarted-clause-makes
returns-in-Unstarted-clause-makes g c = Remains c.join.ensures.enters

pub returns-in-Unstarted-clause-noted : goal.returns-in-Unstarted-clause-noted
returns-in-Unstarted-clause-noted g c = joined_notes _ _ _ _ c.args.self.now c.join.new.self c.requires.stands c.in-Unstarted.is c.join.ensures.noted

pub returns-in-Alive-clause-noted : goal.returns-in-Alive-clause-noted
returns-in-Alive-clause-noted g c = entered_notes _ _ _ c.args.self.now _ _ c.in-Alive.is c.enter_next.ensures.noted

pub returns-in-Unstarted-clause-starts : goal.returns-in-Unstarted-clause-starts
returns-in-Unstarted-clause-starts g c = λ first. c.join.ensures.command

pub returns-in-Alive-clause-starts : goal.returns-in-Alive-clause-starts
returns-in-Alive-clause-starts g c = then_so c.enter_next.result (λ makes first. absurd (cc (sym first ∙ c.in-Alive.is))) c.enter_next.ensures.makes

pub join-requires-clause-before : goal.join-requires-clause-before
join-requires-clause-before g c = not_joined _ _ c.args.self.now c.requires.stands c.in-Unstarted.is

pub returns-in-Unstarted-clause-first : goal.returns-in-Unstarted-clause-first
returns-in-Unstarted-clause-first g c = λ first. c.join.ensures.first

pub returns-in-Alive-clause-first : goal.returns-in-Alive-clause-first
returns-in-Alive-clause-first g c = then_so c.enter_next.result (λ makes first. absurd (cc (sym first ∙ c.in-Alive.is))) c.enter_next.ensures.makes
