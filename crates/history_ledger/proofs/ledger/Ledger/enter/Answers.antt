use Rattle.std.proofs.Common.{◌≡◌, true, Result, Ok, Err, OnOk, List, [], ◌∷◌, ◌++◌}
use Rattle.base_types.specs.declared.memory.NoMemory.{NoMemory}
use Rattle.history_model.specs.Segment.{Segment}
use Rattle.history_model.specs.After.{after_entry}
use Rattle.history_model.specs.Allows.{allows}
use Rattle.history_model.specs.MayFollow.{MayFollow}
use Rattle.history_ledger.specs.Types.{Entry}
use Rattle.history_ledger.specs.Held.{Keeps, Reads}
use Rattle.history_ledger.specs.Words.{CanEnter, HasEntered}
use Rattle.history_ledger.specs.declared.ledger.Ledger.{Ledger}
use Rattle.history_ledger.proofs.Entered.{can_enter, keeps_more, reads_more}
use Rattle.history_ledger.proofs.ledger.Ledger.enter.Goals as goal

kept : (result : Result (Unit {0}) NoMemory) (old new : Ledger) (e : Entry) → CanEnter old e → OnOk result (HasEntered old e new) → OnOk result ((s : Segment) → Keeps s old → allows s e ≡ true → Keeps (after_entry s e) new)
kept (Ok done) old new e can has = λ s k is. keeps_more s e old new can has k is
kept (Err error) old new e can has = tt

entered : (result : Result (Unit {0}) NoMemory) (old new : Ledger) (e : Entry) → CanEnter old e → OnOk result (HasEntered old e new) → OnOk result ((seen : List Entry) → Reads seen old → MayFollow seen e → Reads (seen ++ e ∷ []) new)
entered (Ok done) old new e can has = λ seen k follows. reads_more seen e old new can has k follows
entered (Err error) old new e can has = tt

pub enter_all-requires : goal.enter_all-requires
enter_all-requires c = can_enter c.requires.segment c.args.self.now c.args.e.now c.requires.keeps c.requires.allowed

pub returns-clause-segment : goal.returns-clause-segment
returns-clause-segment c = kept c.enter_all.result c.args.self.now c.enter_all.new.self c.args.e.now (can_enter c.requires.segment c.args.self.now c.args.e.now c.requires.keeps c.requires.allowed) c.enter_all.ensures

pub returns-clause-history : goal.returns-clause-history
returns-clause-history c = entered c.enter_all.result c.args.self.now c.enter_all.new.self c.args.e.now (can_enter c.requires.segment c.args.self.now c.args.e.now c.requires.keeps c.requires.allowed) c.enter_all.ensures
