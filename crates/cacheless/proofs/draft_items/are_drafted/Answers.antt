use Rattle.std.proofs.Common.{◌∙◌, ◌&&◌, sym, ap, drop, length}
use Rattle.std.proofs.lemmas.List.{take_rest}
use Rattle.cacheless.specs.SameItems.{forced_match}
use Rattle.cacheless.proofs.Matching.{drafted_is, drafted_short}
use Rattle.cacheless.proofs.draft_items.are_drafted.Goals as goal

pub returns-then-items-changes : goal.returns-then-items-changes
returns-then-items-changes c = sym (drafted_short c.args.next c.args.new_oids c.args.items.now c.args.changes.now c.args.forced.now c.if-items-changes.true)

pub returns-then-are_changes : goal.returns-then-are_changes
returns-then-are_changes c = c.are_forced.ensures ∙ ap (λ l. forced_match l c.args.forced.now) (take_rest c.args.items.now (length c.args.changes.now))
    ∙ ap (λ t. t && forced_match (drop (length c.args.changes.now) c.args.items.now) c.args.forced.now) (sym c.if-are_changes.true ∙ c.are_changes.ensures)
    ∙ drafted_is c.args.next c.args.new_oids c.args.items.now c.args.changes.now c.args.forced.now c.if-items-changes.false

pub returns-else-are_changes : goal.returns-else-are_changes
returns-else-are_changes c = c.if-are_changes.false
    ∙ ap (λ t. t && forced_match (drop (length c.args.changes.now) c.args.items.now) c.args.forced.now) (sym c.if-are_changes.false ∙ c.are_changes.ensures)
    ∙ drafted_is c.args.next c.args.new_oids c.args.items.now c.args.changes.now c.args.forced.now c.if-items-changes.false
