use Rattle.std.proofs.Common.{◌∙◌, ◌≤◌, sym, ap, subst}
use Rattle.std.specs.declared.snapshot.Snapshot.{Snapshot}
use Rattle.base_types.specs.Scenario.{IsBackend}
use Rattle.history_model.specs.Log.{is_waiting}
use Rattle.turn_table.specs.Passes.{start_of, seen_by, room_of, was_told, words_of}
use Rattle.turn_table.specs.Words.{TellExactly}
use Rattle.thread_run.specs.Scripts.{Play, commands_left}
use Rattle.thread_run.proofs.Workers.{turn_backend, turn_holds, turned_ok, extends_turn, rooms_kept, left_same, whole_kept, all_kept, takes_ok}
use Rattle.thread_run.proofs.Asking.{turned_asked}
use Rattle.thread_run.proofs.worker.Worker.take_turn.Goals as goal

pub work-done-requires-clause-backend : goal.work-done-requires-clause-backend
work-done-requires-clause-backend g c = turn_backend c.value.result.now c.open-turn.result.opened.value (start_of c.args.table.now).whole c.args.self.pass.number
    (c.value.ensures.value ∙ c.open-turn.ensures.value) c.open-turn.ensures.fixed c.requires.at.backend

pub work-done-requires-clause-holds : goal.work-done-requires-clause-holds
work-done-requires-clause-holds g c = turn_holds c.value.result.now c.open-turn.result.opened.value (start_of c.args.table.now).whole c.args.enters c.args.self.pass.number (room_of c.args.self.pass) (seen_by c.args.self.pass) (was_told c.args.self.pass) c.args.self.held.items c.as_slice.result.now c.args.self.backend
    (c.value.ensures.value ∙ c.open-turn.ensures.value) c.open-turn.ensures.fixed c.as_slice.ensures.value c.requires.all c.open-turn.ensures.room c.requires.may c.open-turn.ensures.seen c.open-turn.ensures.told

pub close-pass-requires-clause-fixed : goal.close-pass-requires-clause-fixed
close-pass-requires-clause-fixed g c = whole_kept c.open-turn.result.opened.value c.value.result.now c.work-done.new.self c.tell.new.self.opened.value c.tell.new.self.value
    (c.value.ensures.value ∙ c.open-turn.ensures.value) (ap (λ (o : Snapshot Play). o.value) c.tell.ensures.kept.1) c.tell.ensures.kept.0 c.work-done.ensures.whole

pub close-pass-requires-clause-rooms : goal.close-pass-requires-clause-rooms
close-pass-requires-clause-rooms g c = λ k apart. rooms_kept c.open-turn.result.opened.value c.value.result.now c.work-done.new.self c.tell.new.self.opened.value c.tell.new.self.value k
    (c.value.ensures.value ∙ c.open-turn.ensures.value) (ap (λ (o : Snapshot Play). o.value) c.tell.ensures.kept.1) c.tell.ensures.kept.0 (left_same c.value.result.now c.work-done.new.self k c.work-done.ensures.script)

pub close-pass-requires-clause-words : goal.close-pass-requires-clause-words
close-pass-requires-clause-words g c = subst (λ (v : Play). TellExactly is_waiting v.shared.history (words_of c.tell.new.self)) (sym c.tell.ensures.kept.0) c.tell.ensures.words

pub returns-clause-goes : goal.returns-clause-goes
returns-clause-goes g c = let number = c.close-pass.ensures.seat ∙ c.tell.ensures.kept.2 ∙ c.open-turn.ensures.seat in record {
  at = record { of = c.close-pass.ensures.of; backend = subst (IsBackend (start_of c.args.table.now).whole.backends) (sym number) c.requires.at.backend };
  number = number;
  seen = extends_turn c.args.self.pass.number (seen_by c.args.self.pass) c.open-turn.result.opened.value.shared.history c.value.result.now.shared.history c.work-done.new.self.shared.history (seen_by c.close-pass.result)
      c.open-turn.ensures.seen (ap (λ (v : Play). v.shared.history) (c.value.ensures.value ∙ c.open-turn.ensures.value)) c.work-done.ensures.grew (c.close-pass.ensures.seen ∙ ap (λ (v : Play). v.shared.history) c.tell.ensures.kept.0);
}

pub returns-clause-all : goal.returns-clause-all
returns-clause-all g c = all_kept c.open-turn.result.opened.value c.value.result.now c.work-done.new.self c.tell.new.self.value (start_of c.args.table.now).whole c.args.self.pass.number c.close-pass.result.number (room_of c.args.self.pass) (room_of c.close-pass.result)
    (c.value.ensures.value ∙ c.open-turn.ensures.value) c.work-done.ensures.script c.tell.ensures.kept.0 (c.close-pass.ensures.seat ∙ c.tell.ensures.kept.2 ∙ c.open-turn.ensures.seat)
    (c.close-pass.ensures.room ∙ ap (commands_left c.tell.new.self.value) (sym c.close-pass.ensures.seat)) c.open-turn.ensures.room c.requires.all

pub returns-clause-underway : goal.returns-clause-underway
returns-clause-underway g c = turned_ok (start_of c.args.table.now).whole c.value.result.now c.work-done.new.self c.args.self.pass.number (room_of c.args.self.pass) (seen_by c.close-pass.result) c.clear.new.self.items c.work-done.new.backend c.work-done.result
    (ap (λ (v : Play). v.whole) (c.value.ensures.value ∙ c.open-turn.ensures.value) ∙ c.open-turn.ensures.fixed) c.work-done.ensures.whole c.work-done.ensures.script c.work-done.ensures.left c.requires.all
    (subst (λ (v : Play). room_of c.args.self.pass ≤ commands_left v c.args.self.pass.number) (sym (c.value.ensures.value ∙ c.open-turn.ensures.value)) c.open-turn.ensures.room)
    (c.close-pass.ensures.seen ∙ ap (λ (v : Play). v.shared.history) c.tell.ensures.kept.0) c.clear.ensures c.work-done.ensures.works

pub returns-clause-takes : goal.returns-clause-takes
returns-clause-takes g c = takes_ok c.args.enters c.args.self _ c.work-done.result c.as_slice.result.now c.open-turn.result.opened.value.shared.history c.value.result.now.shared.history c.work-done.new.self.shared.history
    c.open-turn.ensures.seen c.as_slice.ensures.value (ap (λ (v : Play). v.shared.history) (c.value.ensures.value ∙ c.open-turn.ensures.value)) (c.close-pass.ensures.seen ∙ ap (λ (v : Play). v.shared.history) c.tell.ensures.kept.0) c.clear.ensures c.work-done.ensures.enters

pub returns-clause-asked : goal.returns-clause-asked
returns-clause-asked g c = turned_asked c.work-done.new.self.shared.script c.args.self.pass.number c.work-done.new.self.shared.history c.args.self.backend c.work-done.new.backend c.work-done.result c.work-done.ensures.works c.work-done.ensures.number c.work-done.ensures.first
