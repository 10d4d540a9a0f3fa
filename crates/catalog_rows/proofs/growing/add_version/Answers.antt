use Rattle.std.proofs.Common.{◌≡◌, ◌+◌, List, Option, length, refl, subst, sym, arith}
use Rattle.catalog_rows.specs.Types.{Version}
use Rattle.catalog_rows.specs.Index.{IsIndexed, IsCurrent}
use Rattle.catalog_rows.proofs.Grown.{same_indexes, indexed_same, indexed_noted, number_new, indexed_push}
use Rattle.catalog_rows.proofs.Within.{below_current}
use Rattle.catalog_rows.proofs.CurrentSteps.{current_same, current_push}
use Rattle.catalog_rows.proofs.growing.add_version.Goals as goal

pub returns-in_err-note-clause-indexed : goal.returns-in_err-note-clause-indexed
returns-in_err-note-clause-indexed c = indexed_noted c.args.slots.now.items c.args.lists.now c.note.new.self c.requires.indexed c.note.ensures.notes

pub returns-in_err-reserve-clause-indexed : goal.returns-in_err-reserve-clause-indexed
returns-in_err-reserve-clause-indexed c =
    subst (λ (xs : List (Option Version)). IsIndexed xs c.note.new.self) (sym c.reserve.ensures.items) (indexed_noted c.args.slots.now.items c.args.lists.now c.note.new.self c.requires.indexed c.note.ensures.notes)

pub add_row-requires-clause-all : goal.add_row-requires-clause-all
add_row-requires-clause-all c =
    let number : c.len.result + 1 ≡ length c.args.slots.now.items + 1 = omega (arith, c.len.ensures, c.args.slots.now.ok) in
    number_new c.args.slots.now.items (c.len.result + 1) c.note.new.self number (indexed_noted c.args.slots.now.items c.args.lists.now c.note.new.self c.requires.indexed c.note.ensures.notes)

pub add_row-requires-clause-current : goal.add_row-requires-clause-current
add_row-requires-clause-current c =
    let number : c.len.result + 1 ≡ length c.args.slots.now.items + 1 = omega (arith, c.len.ensures, c.args.slots.now.ok) in
    let indexed = indexed_noted c.args.slots.now.items c.args.lists.now c.note.new.self c.requires.indexed c.note.ensures.notes in
    below_current (c.len.result + 1) c.note.new.self.indexes indexed.only (number_new c.args.slots.now.items (c.len.result + 1) c.note.new.self number indexed)

pub returns-in_err-add_row-clause-indexed : goal.returns-in_err-add_row-clause-indexed
returns-in_err-add_row-clause-indexed c =
    subst (λ (xs : List (Option Version)). IsIndexed xs (record { alloc = c.note.new.self.alloc; indexes = c.add_row.new.self; touched = c.note.new.self.touched })) (sym c.reserve.ensures.items)
    (indexed_same c.args.slots.now.items c.note.new.self (record { alloc = c.note.new.self.alloc; indexes = c.add_row.new.self; touched = c.note.new.self.touched })
    (indexed_noted c.args.slots.now.items c.args.lists.now c.note.new.self c.requires.indexed c.note.ensures.notes) c.in_err-add_row.ensures.err (λ x m is. is))

pub returns-in_err-add_row-clause-current : goal.returns-in_err-add_row-clause-current
returns-in_err-add_row-clause-current c = λ committed current.
    subst (λ (xs : List (Option Version)). IsCurrent committed xs c.add_row.new.self) (sym c.reserve.ensures.items)
    (current_same c.args.slots.now.items c.note.new.self.indexes c.add_row.new.self c.in_err-add_row.ensures.err committed
    (current_same c.args.slots.now.items c.args.lists.now.indexes c.note.new.self.indexes (same_indexes c.args.lists.now.indexes c.note.new.self.indexes c.note.ensures.notes.indexes) committed current))

pub returns-clause-indexed : goal.returns-clause-indexed
returns-clause-indexed c =
    let number : c.len.result + 1 ≡ length c.reserve.new.self.items + 1 = omega (arith, c.len.ensures, c.args.slots.now.ok, c.reserve.ensures.len, c.reserve.new.self.ok) in
    subst (λ (xs : List (Option Version)). IsIndexed xs (record { alloc = c.note.new.self.alloc; indexes = c.add_row.new.self; touched = c.note.new.self.touched })) (sym c.push_reserved.ensures.items)
    (indexed_push c.reserve.new.self.items (c.len.result + 1) c.args.version c.args.lists.now c.note.new.self (record { alloc = c.note.new.self.alloc; indexes = c.add_row.new.self; touched = c.note.new.self.touched }) number c.requires.fresh
    (subst (λ (xs : List (Option Version)). IsIndexed xs c.args.lists.now) (sym c.reserve.ensures.items) c.requires.indexed) c.note.ensures.notes c.in_ok-note.ensures.ok c.in_ok-add_row.ensures.ok refl)

pub returns-clause-current : goal.returns-clause-current
returns-clause-current c = λ committed current.
    let number : c.len.result + 1 ≡ length c.reserve.new.self.items + 1 = omega (arith, c.len.ensures, c.args.slots.now.ok, c.reserve.ensures.len, c.reserve.new.self.ok) in
    subst (λ (xs : List (Option Version)). IsCurrent committed xs c.add_row.new.self) (sym c.push_reserved.ensures.items)
    (current_push c.reserve.new.self.items (c.len.result + 1) c.args.version c.note.new.self.indexes c.add_row.new.self number c.in_ok-add_row.ensures.ok committed
    (subst (λ (xs : List (Option Version)). IsCurrent committed xs c.note.new.self.indexes) (sym c.reserve.ensures.items)
    (current_same c.args.slots.now.items c.args.lists.now.indexes c.note.new.self.indexes (same_indexes c.args.lists.now.indexes c.note.new.self.indexes c.note.ensures.notes.indexes) committed current)))
