use Rattle.std.proofs.Common.{◌∙◌, Option, None, ap, subst}
use Rattle.std.proofs.lemmas.List.{get_or_default}
use Rattle.catalog_rows.specs.Types.{Version}
use Rattle.catalog_rows.specs.Store.{is_back}
use Rattle.catalog_rows.specs.Slots.{slot_back}
use Rattle.catalog_rows.specs.Index.{is_listed, RemovesBoth}
use Rattle.catalog_rows.proofs.Grown.{in_order}
use Rattle.catalog_rows.proofs.Within.{only_removed}
use Rattle.catalog_rows.proofs.CurrentSteps.{current_back}
use Rattle.catalog_rows.proofs.TakenBack.{back_twice, numbered_back}
use Rattle.catalog_rows.proofs.SlotLists.{settles_at}
use Rattle.catalog_rows.proofs.undoing.restore.Goals as goal

pub remove_version-requires-clause-all : goal.remove_version-requires-clause-all
remove_version-requires-clause-all c = in_order c.args.slots.now c.args.indexes.now.all c.requires.numbered

pub returns-in-Some-clause-numbered : goal.returns-in-Some-clause-numbered
returns-in-Some-clause-numbered c =
    numbered_back (is_back c.args.xid c.args.from) c.args.number c.in-Some.at c.args.slots.now c.index-slots-at.result c.restored.result c.args.indexes.now.all c.remove_version.new.self.all c.in-Some.ensures.0 c.in-Some.ensures.1
    (c.index-slots-at.is ∙ get_or_default c.args.slots.now c.in-Some.at c.index-slots-at.result None c.in-Some.ensures.1)
    (c.restored.ensures ∙ ap (slot_back (is_back c.args.xid c.args.from)) (c.index-slots-at-in-Some.is ∙ get_or_default c.args.slots.now c.in-Some.at c.index-slots-at-in-Some.result None c.in-Some.ensures.1)) c.requires.numbered
    (subst (λ (o : Option Version). RemovesBoth (is_listed o) c.args.number c.args.indexes.now c.remove_version.new.self) c.written_by.ensures c.remove_version.ensures).all

pub returns-in-Some-clause-only : goal.returns-in-Some-clause-only
returns-in-Some-clause-only c = only_removed (is_listed c.written_by.result) c.args.number c.args.indexes.now c.remove_version.new.self c.remove_version.ensures c.requires.only

pub returns-in-Some-clause-current : goal.returns-in-Some-clause-current
returns-in-Some-clause-current c = λ committed running current.
    current_back committed c.args.xid c.args.from c.args.number c.in-Some.at c.args.slots.now c.index-slots-at.result c.restored.result c.args.indexes.now c.remove_version.new.self c.in-Some.ensures.0 c.in-Some.ensures.1
    (c.index-slots-at.is ∙ get_or_default c.args.slots.now c.in-Some.at c.index-slots-at.result None c.in-Some.ensures.1)
    (c.restored.ensures ∙ ap (slot_back (is_back c.args.xid c.args.from)) (c.index-slots-at-in-Some.is ∙ get_or_default c.args.slots.now c.in-Some.at c.index-slots-at-in-Some.result None c.in-Some.ensures.1))
    (subst (λ (o : Option Version). RemovesBoth (is_listed o) c.args.number c.args.indexes.now c.remove_version.new.self) c.written_by.ensures c.remove_version.ensures) running current

pub returns-in-Some-clause-settles : goal.returns-in-Some-clause-settles
returns-in-Some-clause-settles c =
    settles_at (slot_back (is_back c.args.xid c.args.from)) (back_twice (is_back c.args.xid c.args.from)) c.args.number c.in-Some.at c.args.slots.now c.restored.result c.in-Some.ensures.0 c.in-Some.ensures.1
    (c.restored.ensures ∙ ap (slot_back (is_back c.args.xid c.args.from)) (c.index-slots-at-in-Some.is ∙ get_or_default c.args.slots.now c.in-Some.at c.index-slots-at-in-Some.result None c.in-Some.ensures.1))
