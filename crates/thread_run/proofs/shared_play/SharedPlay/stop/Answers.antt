use Rattle.std.proofs.Common.{◌∙◌, ap}
use Rattle.shared_seg.specs.Places.{promised_in}
use Rattle.backend_core.specs.Cuts.{cut}
use Rattle.thread_run.specs.Scripts.{Play}
use Rattle.thread_run.proofs.Counted.{stopped_few}
use Rattle.thread_run.proofs.CutRuns.{run_halted, stands_halted}
use Rattle.thread_run.proofs.Played.{grew_looked, grew_then}
use Rattle.thread_run.proofs.Scripts.{left_less}
use Rattle.thread_run.proofs.SharedPlays.{backend_inside, backend_cut, halts_inside, grew_outside, promises_outside, most_outside, stop_only, others_keep}
use Rattle.thread_run.proofs.Workers.{any_ok}
use Rattle.thread_run.proofs.shared_play.SharedPlay.stop.Goals as goal

pub hand_over-requires-clause-backend : goal.hand_over-requires-clause-backend
hand_over-requires-clause-backend g c = backend_inside _ _ c.args.at.now.backend c.self.view_is c.self.invariant.1 c.requires.backend

pub stop_in_turn-requires-clause-backend : goal.stop_in_turn-requires-clause-backend
stop_in_turn-requires-clause-backend g c =
    let at = c.args.at.now in
    backend_cut at.backend at.commands at.backend c.self.inside.shared.script c.retell.new.self.script (c.retell.ensures.script ∙ ap (cut at.backend at.commands) c.in_ok-hand_over.ensures.script)
    (backend_inside _ _ at.backend c.self.view_is c.self.invariant.1 c.requires.backend)

pub stop_in_turn-requires-clause-run : goal.stop_in_turn-requires-clause-run
stop_in_turn-requires-clause-run g c =
    let at = c.args.at.now in let shared = c.self.inside.shared in
    run_halted at.backend at.commands shared.script c.retell.new.self.script shared.history c.retell.new.self.history c.args.looks.now c.args.backend.now c.self.invariant.0
    (halts_inside _ _ at.backend at.commands c.args.looks.now c.args.backend.now c.self.view_is c.self.invariant.1 c.self.invariant.0 c.requires.halts)
    (c.retell.ensures.script ∙ ap (cut at.backend at.commands) c.in_ok-hand_over.ensures.script) (c.retell.ensures.history ∙ c.in_ok-hand_over.ensures.hands)

pub stop_in_turn-requires-clause-stands : goal.stop_in_turn-requires-clause-stands
stop_in_turn-requires-clause-stands g c =
    let at = c.args.at.now in let shared = c.self.inside.shared in
    stands_halted at.backend at.commands shared.script c.retell.new.self.script shared.history c.retell.new.self.history c.args.looks.now c.args.backend.now
    (halts_inside _ _ at.backend at.commands c.args.looks.now c.args.backend.now c.self.view_is c.self.invariant.1 c.self.invariant.0 c.requires.halts)
    (c.retell.ensures.script ∙ ap (cut at.backend at.commands) c.in_ok-hand_over.ensures.script) (c.retell.ensures.history ∙ c.in_ok-hand_over.ensures.hands)

pub invariant_of-self-2 : goal.invariant_of-self-2
invariant_of-self-2 g c =
    let at = c.args.at.now in (
      c.stop_in_turn.ensures.run,
      left_less at c.self.inside.whole.value c.self.inside.shared.script c.stop_in_turn.new.seg.script c.self.invariant.1
          (c.stop_in_turn.ensures.script ∙ c.retell.ensures.script ∙ ap (cut at.backend at.commands) c.in_ok-hand_over.ensures.script),
    )

pub returns-clause-others : goal.returns-clause-others
returns-clause-others g c =
    let at = c.args.at.now in
    λ a apart. others_keep _ _ at.backend at.commands a c.stop_in_turn.new.seg.script c.self.view_is (c.stop_in_turn.ensures.script ∙ c.retell.ensures.script ∙ ap (cut at.backend at.commands) c.in_ok-hand_over.ensures.script) apart

pub returns-clause-grew : goal.returns-clause-grew
returns-clause-grew g c =
    let b = c.args.at.now.backend in let was = c.self.inside.shared.history in let then = c.retell.new.self.history in let now = c.stop_in_turn.new.seg.history in
    grew_outside _ _ b now c.self.view_is (grew_then b was then now (grew_looked b was then c.args.looks.now (c.retell.ensures.history ∙ c.in_ok-hand_over.ensures.hands)) c.stop_in_turn.ensures.grew)

pub returns-in_err-hand_over-clause-promises : goal.returns-in_err-hand_over-clause-promises
returns-in_err-hand_over-clause-promises g c = λ a apart. promises_outside _ _ a _ c.self.view_is (c.in_err-hand_over.ensures.others a apart)

pub returns-clause-promises : goal.returns-clause-promises
returns-clause-promises g c = λ a apart. promises_outside _ _ a _ c.self.view_is (c.stop_in_turn.ensures.others a apart ∙ ap (λ p. promised_in p a) c.retell.ensures.promised ∙ c.in_ok-hand_over.ensures.others a apart)

pub returns-in_err-hand_over-clause-own : goal.returns-in_err-hand_over-clause-own
returns-in_err-hand_over-clause-own g c = most_outside _ _ _ c.args.at.now.backend _ _ c.self.view_is c.hand_over.ensures.most

pub returns-clause-own : goal.returns-clause-own
returns-clause-own g c = let b = c.args.at.now.backend in
    stop_only _ _ c.retell.new.self.script c.stop_in_turn.new.seg.script b _ _ _ c.args.looks.now c.retell.new.self.history c.stop_in_turn.new.seg.history c.self.view_is c.hand_over.ensures.most (ap (λ p. promised_in p b) c.retell.ensures.promised) c.stop_in_turn.ensures.script
    (c.retell.ensures.history ∙ c.in_ok-hand_over.ensures.hands) c.stop_in_turn.ensures.grew c.stop_in_turn.ensures.own

pub returns-clause-finished : goal.returns-clause-finished
returns-clause-finished g c = let at = c.args.at.now in
    stopped_few at.backend at.commands c.self.inside.shared.script c.stop_in_turn.new.seg.script c.stop_in_turn.new.seg.history c.stop_in_turn.new.backend c.stop_in_turn.result
    (c.stop_in_turn.ensures.script ∙ c.retell.ensures.script ∙ ap (cut at.backend at.commands) c.in_ok-hand_over.ensures.script) c.stop_in_turn.ensures.id c.stop_in_turn.ensures.left c.stop_in_turn.ensures.stands

pub returns-clause-script : goal.returns-clause-script
returns-clause-script g c = let at = c.args.at.now in
    any_ok c.stop_in_turn.result (c.stop_in_turn.ensures.script ∙ c.retell.ensures.script ∙ ap (cut at.backend at.commands) c.in_ok-hand_over.ensures.script ∙ ap (λ (x : Play). cut at.backend at.commands x.shared.script) c.self.view_is)
