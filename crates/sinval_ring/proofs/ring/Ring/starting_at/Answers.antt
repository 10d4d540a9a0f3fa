use Rattle.std.proofs.Common.{◌∙◌, ◌+◌, ◌/◌, ◌++◌, ◌≡◌, replicate, ap, sym, subst}
use Rattle.sinval_ring.specs.Readers.{Inactive}
use Rattle.sinval_ring.specs.RingParts.{Keeps, wrapped_queue}
use Rattle.sinval_ring.proofs.Keeping.{keeps_empty, view_empty}
use Rattle.sinval_ring.proofs.ring.Ring.starting_at.Goals as goal

inactive : (c : goal.After-from) → c.add_inactive.new.readers.items ≡ replicate (c.args.backends + 1) Inactive
inactive c = c.add_inactive.ensures ∙ ap (λ l. l ++ replicate (c.args.backends + 1) Inactive) (c.reserve.ensures.items ∙ c.new-readers.ensures.items)

pub invariant_of-result : goal.invariant_of-result
invariant_of-result c =
    subst (λ n. Keeps c.in_ok-window.window c.of.result.value c.args.number c.args.number (n / 2) c.add_inactive.new.readers.items) (sym c.from.ensures)
    (keeps_empty c.in_ok-window.window c.args.size c.args.number c.args.backends c.add_inactive.new.readers.items c.in_ok-window.ensures.size c.in_ok-window.ensures.log (inactive c) c.of.result.value c.requires.size c.requires.backends.0 c.requires.backends.1 c.requires.number c.of.ensures)

pub returns : goal.returns
returns c =
    (λ i. wrapped_queue c.in_ok-window.window (c.of.ensures i) c.args.number c.args.number (c.from.ensures i / 2) c.add_inactive.new.readers.items)
    ∙ view_empty c.in_ok-window.window c.args.size c.args.number c.args.backends c.add_inactive.new.readers.items c.in_ok-window.ensures.size c.in_ok-window.ensures.log (inactive c)
