use Rattle.std.proofs.Common.{◌∙◌, length, refl, ap}
use Rattle.event_kinds.specs.declared.entry.Event.TheVariants.{LockOk, LockHeld}
use Rattle.shared_seg.specs.Kept.{Kept}
use Rattle.shared_seg.proofs.Appended.{pushed}
use Rattle.shared_seg.proofs.Asked.{asked_within, asked_appends, asked_keeps}
use Rattle.shared_seg.proofs.Locked.{drawn_inside, granted, refused, ran_out, allows_lock, allows_refusal}
use Rattle.shared_seg.proofs.Queue.{asked_still}
use Rattle.shared_seg.proofs.Unchanged.{keeps_same, unchanged}
use Rattle.shared_seg.proofs.shared.SharedSeg.lock.Goals as goal

pub invariant_of-self-in-Ok-New : goal.invariant_of-self-in-Ok-New
invariant_of-self-in-Ok-New c = record {
  folds =
      let grants = granted _ _ _ _ c.in-Ok-New.field-0-is c.in-Ok-New.ensures.answers in
      asked_keeps _ _ _ _ c.args.b c.args.c (LockOk c.args.rel c.args.mode) _ _ _ _ _ _ c.self.view_is c.self.invariant.folds c.requires.call refl
      (allows_lock c.self.inside.places.entries _ _ c.args.b c.args.c c.args.rel c.args.mode c.self.invariant.folds.locks_are grants) (drawn_inside _ _ c.args.rel c.self.view_is c.requires.drawn)
      (pushed _ _ _ _ c.push.ensures.entries c.make_room.ensures.same.entries) (c.push.ensures.promised ∙ c.make_room.ensures.same.promised) refl grants.more c.enter_running.ensures;
  queued = asked_still _ _ _ c.args.b c.args.c (LockOk c.args.rel c.args.mode) _ c.self.view_is c.self.invariant.queued c.requires.call refl (allows_lock c.self.inside.places.entries _ _ c.args.b c.args.c c.args.rel c.args.mode c.self.invariant.folds.locks_are (granted _ _ _ _ c.in-Ok-New.field-0-is c.in-Ok-New.ensures.answers)) refl (pushed _ _ _ _ c.push.ensures.entries c.make_room.ensures.same.entries);
}

pub invariant_of-self-in-Err-Conflict : goal.invariant_of-self-in-Err-Conflict
invariant_of-self-in-Err-Conflict c = record {
  folds =
      let refusal = refused _ _ _ _ c.in-Err-Conflict.holder c.in-Err-Conflict.held c.in-Err-Conflict.field-0-is c.in-Err-Conflict.ensures.answers in
      asked_keeps _ _ _ _ c.args.b c.args.c (LockHeld c.args.rel c.args.mode c.in-Err-Conflict.holder c.in-Err-Conflict.held) _ _ _ _ _ _ c.self.view_is c.self.invariant.folds c.requires.call refl
      (allows_refusal c.self.inside.places.entries _ _ c.args.b c.args.c c.args.rel c.args.mode c.in-Err-Conflict.holder c.in-Err-Conflict.held c.self.invariant.folds.locks_are refusal) (drawn_inside _ _ c.args.rel c.self.view_is c.requires.drawn)
      (pushed _ _ _ _ c.push-in-Err-Conflict.ensures.entries c.make_room.ensures.same.entries) (c.push-in-Err-Conflict.ensures.promised ∙ c.make_room.ensures.same.promised) refl refusal.same c.enter_running-in-Err-Conflict.ensures;
  queued = asked_still _ _ _ c.args.b c.args.c (LockHeld c.args.rel c.args.mode c.in-Err-Conflict.holder c.in-Err-Conflict.held) _ c.self.view_is c.self.invariant.queued c.requires.call refl (allows_refusal c.self.inside.places.entries _ _ c.args.b c.args.c c.args.rel c.args.mode c.in-Err-Conflict.holder c.in-Err-Conflict.held c.self.invariant.folds.locks_are (refused _ _ _ _ c.in-Err-Conflict.holder c.in-Err-Conflict.held c.in-Err-Conflict.field-0-is c.in-Err-Conflict.ensures.answers)) refl (pushed _ _ _ _ c.push-in-Err-Conflict.ensures.entries c.make_room.ensures.same.entries);
}

pub invariant_of-self-in-Err-NoMemory : goal.invariant_of-self-in-Err-NoMemory
invariant_of-self-in-Err-NoMemory c = keeps_same _ _ _ _ _ _ _ _ _ _ _ c.make_room.ensures.same.entries (ap length c.make_room.ensures.same.promised) refl (ran_out _ _ _ _ c.in-Err-NoMemory.field-0-is c.in-Err-NoMemory.ensures.answers).same c.self.invariant

pub invariant_of-self : goal.invariant_of-self
invariant_of-self c = keeps_same _ _ _ _ _ _ _ _ _ _ _ c.make_room.ensures.same.entries (ap length c.make_room.ensures.same.promised) refl refl c.self.invariant

pub returns-in-Err-Conflict-clause-locks : goal.returns-in-Err-Conflict-clause-locks
returns-in-Err-Conflict-clause-locks c =
    let refusal = refused _ _ _ _ c.in-Err-Conflict.holder c.in-Err-Conflict.held c.in-Err-Conflict.field-0-is c.in-Err-Conflict.ensures.answers in
    asked_appends _ _ _ _ c.args.b c.args.c (LockHeld c.args.rel c.args.mode c.in-Err-Conflict.holder c.in-Err-Conflict.held) c.self.view_is c.requires.call refl
    (allows_refusal c.self.inside.places.entries _ _ c.args.b c.args.c c.args.rel c.args.mode c.in-Err-Conflict.holder c.in-Err-Conflict.held c.self.invariant.folds.locks_are refusal) (drawn_inside _ _ c.args.rel c.self.view_is c.requires.drawn)
    (pushed _ _ _ _ c.push-in-Err-Conflict.ensures.entries c.make_room.ensures.same.entries) (c.push-in-Err-Conflict.ensures.promised ∙ c.make_room.ensures.same.promised)

pub returns-in-Ok-New-clause-locks : goal.returns-in-Ok-New-clause-locks
returns-in-Ok-New-clause-locks c =
    let grants = granted _ _ _ _ c.in-Ok-New.field-0-is c.in-Ok-New.ensures.answers in
    asked_appends _ _ _ _ c.args.b c.args.c (LockOk c.args.rel c.args.mode) c.self.view_is c.requires.call refl
    (allows_lock c.self.inside.places.entries _ _ c.args.b c.args.c c.args.rel c.args.mode c.self.invariant.folds.locks_are grants) (drawn_inside _ _ c.args.rel c.self.view_is c.requires.drawn)
    (pushed _ _ _ _ c.push.ensures.entries c.make_room.ensures.same.entries) (c.push.ensures.promised ∙ c.make_room.ensures.same.promised)

pub enter_running-requires-in-Err-Conflict-clause-within : goal.enter_running-requires-in-Err-Conflict-clause-within
enter_running-requires-in-Err-Conflict-clause-within c = asked_within _ _ c.args.b c.args.c _ c.self.view_is c.requires.call (c.self.inside.transactions.ok.0 ∙ c.self.invariant.folds.slots)

pub enter_running-requires-clause-within : goal.enter_running-requires-clause-within
enter_running-requires-clause-within c = asked_within _ _ c.args.b c.args.c _ c.self.view_is c.requires.call (c.self.inside.transactions.ok.0 ∙ c.self.invariant.folds.slots)

pub returns-in-Ok-New-clause-script : goal.returns-in-Ok-New-clause-script
returns-in-Ok-New-clause-script c = ap (λ (k : Kept). k.script) c.self.view_is

pub returns-in-Err-Conflict-clause-script : goal.returns-in-Err-Conflict-clause-script
returns-in-Err-Conflict-clause-script c = ap (λ (k : Kept). k.script) c.self.view_is

pub returns-in-Err-NoMemory-clause-script : goal.returns-in-Err-NoMemory-clause-script
returns-in-Err-NoMemory-clause-script c = ap (λ (k : Kept). k.script) c.self.view_is

pub returns-in-Err-NoMemory-clause-locks : goal.returns-in-Err-NoMemory-clause-locks
returns-in-Err-NoMemory-clause-locks c = unchanged _ _ _ _ c.self.view_is c.make_room.ensures.same.entries c.make_room.ensures.same.promised

pub returns-in_default-clause-locks : goal.returns-in_default-clause-locks
returns-in_default-clause-locks c = unchanged _ _ _ _ c.self.view_is c.make_room.ensures.same.entries c.make_room.ensures.same.promised

pub returns-in_default-clause-script : goal.returns-in_default-clause-script
returns-in_default-clause-script c = ap (λ (k : Kept). k.script) c.self.view_is
