use Rattle.std.proofs.Common.{◌≡◌, ℕ, true, List, Option, subst}
use Rattle.catalog_rows.specs.Types.{Version}
use Rattle.catalog_rows.specs.Slots.{IsIn}
use Rattle.catalog_rows.specs.Index.{own_at, ends_at}
use Rattle.catalog_rows.proofs.Grown.{indexed_noted, added_noted}
use Rattle.catalog_rows.proofs.growing.grow_by.Goals as goal

pub returns-in_err-note_ended-clause-indexed : goal.returns-in_err-note_ended-clause-indexed
returns-in_err-note_ended-clause-indexed c = indexed_noted c.args.slots.now.items c.args.lists.now c.note_ended.new.self c.requires.indexed c.note_ended.ensures.notes

pub add_version-requires-clause-indexed : goal.add_version-requires-clause-indexed
add_version-requires-clause-indexed c = indexed_noted c.args.slots.now.items c.args.lists.now c.note_ended.new.self c.requires.indexed c.note_ended.ensures.notes

pub returns-in-Some-clause-own : goal.returns-in-Some-clause-own
returns-in-Some-clause-own c = λ x n is. c.add_version.ensures.own x n (c.note_ended.ensures.notes.own x n is)

pub returns-in-Some-clause-noted : goal.returns-in-Some-clause-noted
returns-in-Some-clause-noted c =
    added_noted c.args.committed.now c.args.stamp c.args.change.now c.in-Some.row c.args.slots.now.items c.add_version.new.slots.items c.note_ended.new.self c.add_version.new.lists c.add_version.result c.in-Some.ensures c.add_version.ensures.ok
    c.add_version.ensures.indexed c.add_version.ensures.own
    (subst (λ (xs : List (Option Version)). (n : ℕ) → ends_at c.args.committed.now c.args.stamp c.args.change.now xs n ≡ true → IsIn n (own_at c.note_ended.new.self.touched.items c.args.stamp.xid.0)) c.deref.ensures.value c.in_ok-note_ended.ensures.ok)

pub returns-in-None-clause-indexed : goal.returns-in-None-clause-indexed
returns-in-None-clause-indexed c = indexed_noted c.args.slots.now.items c.args.lists.now c.note_ended.new.self c.requires.indexed c.note_ended.ensures.notes
