use Rattle.std.proofs.Common.{◌∙◌, refl, sym}
use Rattle.backend_core.proofs.PlacesWanted.{kept_only}
use Rattle.thread_run.proofs.Played.{plays_same, plays_then, backend_still}
use Rattle.thread_run.proofs.turn_work.stop_in_turn.Goals as goal

pub stopping-init : goal.stopping-init
stopping-init g c = record { plays = plays_same refl refl c.requires.run (λ a apart. refl) (kept_only refl); id = c.requires.id; stands = c.requires.stands }

pub returns-then-is_stopped-clause-script : goal.returns-then-is_stopped-clause-script
returns-then-is_stopped-clause-script g c = c.stopping.invariant.plays.script

pub returns-then-is_stopped-clause-run : goal.returns-then-is_stopped-clause-run
returns-then-is_stopped-clause-run g c = c.stopping.invariant.plays.run

pub returns-then-is_stopped-clause-grew : goal.returns-then-is_stopped-clause-grew
returns-then-is_stopped-clause-grew g c = c.stopping.invariant.plays.grew

pub returns-then-is_stopped-clause-others : goal.returns-then-is_stopped-clause-others
returns-then-is_stopped-clause-others g c = c.stopping.invariant.plays.others

pub returns-then-is_stopped-clause-own : goal.returns-then-is_stopped-clause-own
returns-then-is_stopped-clause-own g c = c.stopping.invariant.plays.own

pub returns-then-is_stopped-clause-left : goal.returns-then-is_stopped-clause-left
returns-then-is_stopped-clause-left g c = sym c.is_stopped.ensures ∙ c.if-is_stopped.true

pub returns-then-is_stopped-clause-stands : goal.returns-then-is_stopped-clause-stands
returns-then-is_stopped-clause-stands g c = c.stopping.invariant.stands

pub step_in_turn-requires : goal.step_in_turn-requires
step_in_turn-requires g c = let i = c.stopping.invariant in record {
  may = record { backend = backend_still i.plays.script c.requires.backend; id = i.id; run = i.plays.run; stands = i.stands; alive = sym c.is_stopped.ensures ∙ c.if-is_stopped.false };
}

pub returns-in_err-step_in_turn-clause-script : goal.returns-in_err-step_in_turn-clause-script
returns-in_err-step_in_turn-clause-script g c = (plays_then c.stopping.invariant.plays c.in_err-step_in_turn.ensures.plays).script

pub returns-in_err-step_in_turn-clause-run : goal.returns-in_err-step_in_turn-clause-run
returns-in_err-step_in_turn-clause-run g c = (plays_then c.stopping.invariant.plays c.in_err-step_in_turn.ensures.plays).run

pub returns-in_err-step_in_turn-clause-grew : goal.returns-in_err-step_in_turn-clause-grew
returns-in_err-step_in_turn-clause-grew g c = (plays_then c.stopping.invariant.plays c.in_err-step_in_turn.ensures.plays).grew

pub returns-in_err-step_in_turn-clause-others : goal.returns-in_err-step_in_turn-clause-others
returns-in_err-step_in_turn-clause-others g c = (plays_then c.stopping.invariant.plays c.in_err-step_in_turn.ensures.plays).others

pub returns-in_err-step_in_turn-clause-own : goal.returns-in_err-step_in_turn-clause-own
returns-in_err-step_in_turn-clause-own g c = (plays_then c.stopping.invariant.plays c.in_err-step_in_turn.ensures.plays).own

pub stopping-preserved : goal.stopping-preserved
stopping-preserved g c = record { plays = plays_then c.stopping.invariant.plays c.in_ok-step_in_turn.ensures.plays; id = c.in_ok-step_in_turn.ensures.id; stands = c.in_ok-step_in_turn.ensures.stands }

pub returns-then-is_stopped-clause-id : goal.returns-then-is_stopped-clause-id
returns-then-is_stopped-clause-id g c = c.stopping.invariant.id
