use Rattle.std.proofs.Common.{◌∙◌, inl, inr, sym, ap, subst}
use Rattle.std.proofs.lemmas.Bool.{both_ways}
use Rattle.base_types.specs.Scenario.{IsBackend}
use Rattle.turn_table.specs.Passes.{start_of, seen_by}
use Rattle.backend_core.specs.Words.{has_joined}
use Rattle.thread_run.proofs.Between.{between_right, pushed_as, full_by, not_full}
use Rattle.thread_run.proofs.Workers.{extends_follows}
use Rattle.thread_run.proofs.worker.Worker.look.Goals as goal
use Rattle.thread_run.proofs.worker.Worker.look.Goals.{then-some_wait, else-some_wait}

pub look_by_word-requires-clause-right : goal.look_by_word-requires-clause-right
look_by_word-requires-clause-right c = between_right (start_of c.args.table.now).whole c.args.self.pass.number (seen_by c.args.self.pass) c.args.self.held.items c.args.self.backend c.requires.between

pub returns-clause-goes : goal.returns-clause-goes
returns-clause-goes c = record {
  at = record { of = c.look-some_wait.ensures.of; backend = subst (IsBackend (start_of c.args.table.now).whole.backends) (sym c.look-some_wait.ensures.seat) c.requires.at.backend };
  number = c.look-some_wait.ensures.seat;
  seen = extends_follows c.args.self.pass.number (seen_by c.args.self.pass) (seen_by c.look-some_wait.new.pass) c.look-some_wait.ensures.seen;
}

pub returns-clause-looked : goal.returns-clause-looked
returns-clause-looked c = record {
  some_wait = c.look-some_wait.result;
  number = c.look-some_wait.ensures.seat;
  room = c.look-some_wait.ensures.room;
  seen = c.look-some_wait.ensures.seen;
  told = c.look-some_wait.ensures.told;
  no = c.look-some_wait.ensures.no;
  makes = c.look_by_word.ensures.looks;
  stays = (c.look_by_word.ensures.stays.number, c.look_by_word.ensures.stays.id ∙ c.requires.between.id);
  joined = ap has_joined (c.look_by_word.ensures.stays.life ∙ c.requires.wants.0);
  held = pushed_as c.args.self.held.items c.push.new.self.items c.look_by_word.result c.args.self.backend c.look-some_wait.result c.push.ensures.items c.look_by_word.ensures.held;
  hands = elim c.if-some_wait.branch [
    | then-some_wait w ↦ λ over. inl w.if-some_wait.true
    | else-some_wait w ↦ λ over. inr (full_by c.args.self.held.items c.push.new.self.items c.look_by_word.result c.push.ensures.items (sym w.is_full-hands_over.ensures.value ∙ sym w.hands_over-is ∙ over))
  ];
  keeps = elim c.if-some_wait.branch [
    | then-some_wait w ↦ λ back. absurd (both_ways _ back (w.hands_over-is ∙ w.if-some_wait.true))
    | else-some_wait w ↦ λ back. (w.if-some_wait.false, not_full c.args.self.held.items c.push.new.self.items c.look_by_word.result c.push.ensures.items c.requires.between.few (sym w.is_full-hands_over.ensures.value ∙ sym w.hands_over-is ∙ back))
  ];
}
