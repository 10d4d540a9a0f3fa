use Rattle.std.proofs.Common.{◌∙◌, ◌||◌, refl, ap}
use Rattle.catalog_rows.specs.Index.{own_at}
use Rattle.catalog_rows.proofs.TakenBack.{back_all, back_indexed}
use Rattle.catalog_rows.proofs.CurrentSteps.{current_undone}
use Rattle.catalog_rows.proofs.undoing.undo.Goals as goal

pub take_back-requires-clause-only : goal.take_back-requires-clause-only
take_back-requires-clause-only c = record { order = c.requires.indexed.only.order; only = c.requires.indexed.only.only }

pub returns-clause-indexed : goal.returns-clause-indexed
returns-clause-indexed c =
    back_indexed c.args.xid c.args.from c.args.lists.now (record { alloc = c.args.lists.now.alloc; indexes = c.take_back.new.indexes; touched = c.args.lists.now.touched }) c.own.result.now c.args.slots.now c.take_back.new.slots
    (c.own.ensures ∙ ap (λ touched. own_at touched c.args.xid.0) c.deref.ensures.value) c.requires.indexed refl c.take_back.ensures.numbered c.take_back.ensures.only c.take_back.ensures.settles

pub returns-clause-current : goal.returns-clause-current
returns-clause-current c =
    current_undone c.args.committed.now c.args.xid c.has_committed.result c.args.slots.now c.take_back.new.slots c.args.lists.now.indexes
    (record { all = c.args.lists.now.indexes.all; current = c.args.lists.now.indexes.current; whole = c.args.lists.now.indexes.whole || c.has_committed.result })
    c.take_back.new.indexes c.has_committed.ensures refl refl c.take_back.ensures.whole c.take_back.ensures.current c.requires.current

pub returns-clause-slots : goal.returns-clause-slots
returns-clause-slots c =
    back_all c.args.xid c.args.from c.args.lists.now c.own.result.now c.args.slots.now c.take_back.new.slots (c.own.ensures ∙ ap (λ touched. own_at touched c.args.xid.0) c.deref.ensures.value) c.requires.indexed c.take_back.ensures.settles

pub returns-clause-whole : goal.returns-clause-whole
returns-clause-whole c = c.take_back.ensures.whole ∙ ap (λ t. c.args.lists.now.indexes.whole || t) c.has_committed.ensures
