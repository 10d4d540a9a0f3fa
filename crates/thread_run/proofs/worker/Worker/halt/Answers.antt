use Rattle.std.proofs.Common.{◌≡◌, ◌≤◌, ◌∙◌, true, sym, ap, subst, length}
use Rattle.std.specs.declared.snapshot.Snapshot.{Snapshot}
use Rattle.base_types.specs.Scenario.{IsBackend}
use Rattle.history_model.specs.Log.{is_waiting}
use Rattle.backend_core.specs.Words.{has_left}
use Rattle.turn_table.specs.Passes.{start_of, seen_by, room_of, words_of}
use Rattle.turn_table.specs.Words.{TellExactly}
use Rattle.thread_run.specs.Scripts.{Play}
use Rattle.thread_run.proofs.Workers.{turn_backend, turn_halts, extends_turn, rooms_kept, whole_kept, well_so}
use Rattle.thread_run.proofs.worker.Worker.halt.Goals as goal

pub stop-done-requires-clause-backend : goal.stop-done-requires-clause-backend
stop-done-requires-clause-backend g c = turn_backend c.value.result.now c.open-last.result.opened.value (start_of c.args.table.now).whole c.args.self.pass.number
    (c.value.ensures.value ∙ c.open-last.ensures.value) c.open-last.ensures.fixed c.requires.at.backend

pub stop-done-requires-clause-halts : goal.stop-done-requires-clause-halts
stop-done-requires-clause-halts g c = turn_halts c.value.result.now c.open-last.result.opened.value (start_of c.args.table.now).whole c.args.self.pass.number (length c.transcript.result.now) (length c.args.self.backend.lines) (room_of c.args.self.pass) (seen_by c.args.self.pass) c.args.self.held.items c.as_slice.result.now c.halt.new.self
    (c.value.ensures.value ∙ c.open-last.ensures.value) c.open-last.ensures.fixed c.as_slice.ensures.value (ap length c.transcript.ensures) c.requires.all c.open-last.ensures.room (c.requires.may c.halt.new.self c.halt.ensures.halts) c.open-last.ensures.seen

pub close-pass-requires-clause-fixed : goal.close-pass-requires-clause-fixed
close-pass-requires-clause-fixed g c = whole_kept c.open-last.result.opened.value c.value.result.now c.stop-done.new.self c.tell.new.self.opened.value c.tell.new.self.value
    (c.value.ensures.value ∙ c.open-last.ensures.value) (ap (λ (o : Snapshot Play). o.value) c.tell.ensures.kept.1) c.tell.ensures.kept.0 c.stop-done.ensures.whole

pub close-pass-requires-clause-rooms : goal.close-pass-requires-clause-rooms
close-pass-requires-clause-rooms g c = λ k apart. rooms_kept c.open-last.result.opened.value c.value.result.now c.stop-done.new.self c.tell.new.self.opened.value c.tell.new.self.value k
    (c.value.ensures.value ∙ c.open-last.ensures.value) (ap (λ (o : Snapshot Play). o.value) c.tell.ensures.kept.1) c.tell.ensures.kept.0 (c.stop-done.ensures.others k (λ e. apart (e ∙ sym c.open-last.ensures.seat ∙ sym c.tell.ensures.kept.2)))

pub close-pass-requires-clause-words : goal.close-pass-requires-clause-words
close-pass-requires-clause-words g c = subst (λ (v : Play). TellExactly is_waiting v.shared.history (words_of c.tell.new.self)) (sym c.tell.ensures.kept.0) c.tell.ensures.words

pub returns-clause-goes : goal.returns-clause-goes
returns-clause-goes g c = let number = c.close-pass.ensures.seat ∙ c.tell.ensures.kept.2 ∙ c.open-last.ensures.seat in record {
  at = record { of = c.close-pass.ensures.of; backend = subst (IsBackend (start_of c.args.table.now).whole.backends) (sym number) c.requires.at.backend };
  number = number;
  seen = extends_turn c.args.self.pass.number (seen_by c.args.self.pass) c.open-last.result.opened.value.shared.history c.value.result.now.shared.history c.stop-done.new.self.shared.history (seen_by c.close-pass.result)
      c.open-last.ensures.seen (ap (λ (v : Play). v.shared.history) (c.value.ensures.value ∙ c.open-last.ensures.value)) c.stop-done.ensures.grew (c.close-pass.ensures.seen ∙ ap (λ (v : Play). v.shared.history) c.tell.ensures.kept.0);
}

pub returns-clause-left : goal.returns-clause-left
returns-clause-left g c = well_so (has_left c.stop-done.new.backend.life ≡ true) c.stop-done.result c.is_err.result c.is_err.ensures.value c.stop-done.ensures.left

pub returns-clause-most : goal.returns-clause-most
returns-clause-most g c = let finished = c.stop-done.new.backend.progress.finished in
    λ well. subst (λ n. finished ≤ n) (ap length c.transcript.ensures) (well_so (finished ≤ length c.transcript.result.now) c.stop-done.result c.is_err.result c.is_err.ensures.value c.stop-done.ensures.finished well)
