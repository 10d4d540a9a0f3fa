use lib.ListN.{length-map}
use Rattle.std.proofs.Common.{◌≡◌, ◌++◌, ◌∙◌, length, map, sym, ap, subst, arith}
use Rattle.turn_table.specs.Passes.{start_of}
use Rattle.thread_run.specs.declared.refusal.RunRefusal.TheVariants as refusals
use Rattle.thread_run.specs.Seats.{StopsTogether, AskedTogether, from_last, number_of, end_of}
use Rattle.thread_run.proofs.Asking.{each_none}
use Rattle.thread_run.proofs.Lists.{from_last_same}
use Rattle.thread_run.proofs.Stopping.{stop_none, any_end}
use Rattle.thread_run.proofs.Gates.{whole, gates_enough, gates_back, gates_asked}
use Rattle.thread_run.proofs.running.run_backends.Goals as goal

pub returns-in_default-clause-stops : goal.returns-in_default-clause-stops
returns-in_default-clause-stops g c = stop_none (map g.G.Gate.stops c.args.gates.now.items)

pub rotate_right-requires : goal.rotate_right-requires
rotate_right-requires g c =
    let seats = c.seat_all.new.seats in
    let now = c.as_mut_slice.ensures.value in
    let same = c.work_all.auto.seats ∙ ap (λ l. length l) now in
    let w = whole c.work_all.new.seats seats.items seats.len seats.ok.0 same in
    let many : length c.work_all.new.seats ≡ seats.len = same ∙ sym seats.ok.0 in
    let enough = gates_enough seats.len c.seat_all.new.gates.items c.unseat_all-ended.new.gates.items c.work_all.new.seats many
    (c.unseat_all-ended.ensures.gates ∙ ap (λ l. c.seat_all.new.gates.items ++ from_last (λ s. s.gate) l) w) in
    let count = c.seat_all.ensures.count in let len = c.unseat_all-ended.new.gates.ok.0 in
    omega (arith, enough, count, len)

pub returns-clause-numbers : goal.returns-clause-numbers
returns-clause-numbers g c =
    let seats = c.seat_all.new.seats in
    let now = c.as_mut_slice.ensures.value in
    let w = whole c.work_all.new.seats seats.items seats.len seats.ok.0 (c.work_all.auto.seats ∙ ap (λ l. length l) now) in
    any_end c.unseat_all-ended.result (c.unseat_all-ended.ensures.numbers ∙ ap (from_last number_of) w ∙ from_last_same number_of c.work_all.new.seats seats.items (c.work_all.ensures.numbers ∙ ap (map number_of) now) ∙ c.seat_all.ensures.numbers)

pub returns-clause-stops : goal.returns-clause-stops
returns-clause-stops g c =
    let stops = g.G.Gate.stops in
    let seats = c.seat_all.new.seats in
    let rest = c.seat_all.new.gates.items in let later = c.unseat_all-ended.new.gates in
    let now = c.as_mut_slice.ensures.value in
    let same = c.work_all.auto.seats ∙ ap (λ l. length l) now in
    let w = whole c.work_all.new.seats seats.items seats.len seats.ok.0 same in
    let count = c.seat_all.ensures.count in
    let many : length seats.items ≡ c.len-count.result = sym seats.ok.0 ∙ count ∙ sym c.len-count.ensures in
    let held = c.args.gates.now.ok.0 in let few = c.requires.counts.1 in
    gates_back c.len-count.result later.len c.args.gates.now.items c.rotate_left.new.self.items rest later.items c.rotate_right.new.self.items seats.items c.work_all.new.seats
    (omega (arith, held, few)) c.rotate_left.ensures.items c.seat_all.ensures.gates many (same ∙ many) (c.unseat_all-ended.ensures.gates ∙ ap (λ l. rest ++ from_last (λ s. s.gate) l) w) later.ok.0 c.rotate_right.ensures.items
    stops c.unseat_all-ended.result (subst (λ l. StopsTogether stops l c.work_all.new.seats) now c.work_all.ensures.stops) (c.unseat_all-ended.ensures.end ∙ ap end_of w)

pub returns-in_default-clause-asked : goal.returns-in_default-clause-asked
returns-in_default-clause-asked g c = let held = c.args.gates.now.ok.0 in let passes = c.args.passes.now.ok.0 in let few = c.requires.counts.1 in
    each_none (Unit {0}) refusals.NoMemory (start_of c.args.table.now).whole (map (λ p. p.number) c.args.passes.now.items) (map g.G.Gate.asked c.args.gates.now.items) (omega (arith, held, passes, few, length-map c.args.passes.now.items (λ p. p.number), length-map c.args.gates.now.items g.G.Gate.asked))

pub returns-clause-asked : goal.returns-clause-asked
returns-clause-asked g c =
    let asked = g.G.Gate.asked in
    let seats = c.seat_all.new.seats in
    let rest = c.seat_all.new.gates.items in let later = c.unseat_all-ended.new.gates in
    let now = c.as_mut_slice.ensures.value in
    let same = c.work_all.auto.seats ∙ ap (λ l. length l) now in
    let w = whole c.work_all.new.seats seats.items seats.len seats.ok.0 same in
    let count = c.seat_all.ensures.count in
    let many : length seats.items ≡ c.len-count.result = sym seats.ok.0 ∙ count ∙ sym c.len-count.ensures in
    let held = c.args.gates.now.ok.0 in let few = c.requires.counts.1 in
    gates_asked c.len-count.result later.len c.args.gates.now.items c.rotate_left.new.self.items rest later.items c.rotate_right.new.self.items seats.items c.work_all.new.seats
    (omega (arith, held, few)) c.rotate_left.ensures.items c.seat_all.ensures.gates many (same ∙ many) (c.unseat_all-ended.ensures.gates ∙ ap (λ l. rest ++ from_last (λ s. s.gate) l) w) later.ok.0 c.rotate_right.ensures.items
    (start_of c.args.table.now).whole asked (map (λ p. p.number) c.args.passes.now.items) c.unseat_all-ended.result (subst (λ l. AskedTogether (start_of c.args.table.now).whole asked l c.work_all.new.seats) now c.work_all.ensures.asked) c.seat_all.ensures.numbers (c.unseat_all-ended.ensures.end ∙ ap end_of w)
