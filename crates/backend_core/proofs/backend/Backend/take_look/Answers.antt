use Rattle.std.proofs.Common.{◌∙◌, refl, sym, ap, subst}
use Rattle.backend_core.specs.Types.{Backend}
use Rattle.backend_core.specs.Looks.{next_of_look, LooksWherever, StaysInCommand}
use Rattle.backend_core.specs.Steps.{IsNextOf}
use Rattle.backend_core.proofs.Entries.Looking.{look_well, look_before_well, accept_well}
use Rattle.backend_core.proofs.backend.Backend.take_look.Goals as goal

pub returns-in-Accept-clause-looks : goal.returns-in-Accept-clause-looks
returns-in-Accept-clause-looks c = λ scenario seen ready follows. look_well scenario seen c.args.self.now _ c.args.some_wait ready.waits ready.played ready.course (subst (λ l. IsNextOf c.args.self.now (next_of_look l)) c.in-Accept.is c.requires.next) follows
    (c.enter_look.ensures.holds scenario seen ready.waits.rests) c.enter_look.ensures.answer

pub returns-in-Scan-clause-looks : goal.returns-in-Scan-clause-looks
returns-in-Scan-clause-looks c = subst (LooksWherever c.args.self.now c.args.some_wait) (sym c.note_look.ensures) (λ scenario seen ready follows. look_before_well scenario seen c.args.self.now _ c.args.some_wait c.in-Scan.rebuilds ready.waits ready.played ready.course
    (subst (λ l. IsNextOf c.args.self.now (next_of_look l)) c.in-Scan.is c.requires.next) follows (c.enter_look.ensures.holds scenario seen ready.waits.rests) c.enter_look.ensures.answer)

pub returns-in-Absent-clause-looks : goal.returns-in-Absent-clause-looks
returns-in-Absent-clause-looks c = λ scenario seen ready follows. accept_well scenario seen c.args.self.now _ c.args.some_wait _ ready.waits ready.played ready.course (subst (λ l. IsNextOf c.args.self.now (next_of_look l)) c.in-Absent.is c.requires.next) follows
    c.still_looked-self.ensures (c.enter_look.ensures.holds scenario seen ready.waits.rests) c.enter_look.ensures.answer

pub returns-in-Scan-clause-same : goal.returns-in-Scan-clause-same
returns-in-Scan-clause-same c = ap (λ (s : Backend). s.progress.commands) c.note_look.ensures ∙ c.enter_look.ensures.same

pub returns-in-Accept-clause-stays : goal.returns-in-Accept-clause-stays
returns-in-Accept-clause-stays c = λ scenario seen rests. let moves = (c.enter_look.ensures.holds scenario seen rests).moves in record { id = moves.id; number = moves.finished; life = refl }

pub returns-in-Scan-clause-stays : goal.returns-in-Scan-clause-stays
returns-in-Scan-clause-stays c = λ scenario seen rests. let moves = (c.enter_look.ensures.holds scenario seen rests).moves in subst (StaysInCommand c.args.self.now) (sym c.note_look.ensures) (record { id = moves.id; number = moves.finished; life = refl })

pub returns-in-Absent-clause-stays : goal.returns-in-Absent-clause-stays
returns-in-Absent-clause-stays c = λ scenario seen rests. let moves = (c.enter_look.ensures.holds scenario seen rests).moves in record { id = moves.id; number = moves.finished; life = refl }
