use Rattle.std.proofs.Common.{◌≡◌, ◌<◌, ◌≤◌, ◌∙◌, ◌++◌, ◌∷◌, [], ◌+◌, ◌-◌, sum, length, slice_set, arith, ap, sym, subst}
use Rattle.shared_seg.specs.Places.{Placed, promised_in}
use Rattle.shared_seg.proofs.PromiseSums.{promised_at, promised_in-le, sum-taken}
use Rattle.shared_seg.proofs.PlacesPromised.{had_of}
use Rattle.shared_seg.proofs.places.Places.append.Goals as goal

pub overflow_sub-total : goal.overflow_sub-total
overflow_sub-total c =
    let same : c.args.self.now.promised ≡ c.self.inside.promised.items = ap (λ (p : Placed). p.promised) (sym c.self.view_is) in
    let within : c.args.entry.backend < length c.self.inside.promised.items = rw same at c.requires.within in
    let place : 0 < promised_in c.self.inside.promised.items c.args.entry.backend = rw same at c.requires.place in
    omega (arith, promised_in-le c.self.inside.promised.items c.args.entry.backend within, c.self.invariant.counted)

pub push_reserved-requires : goal.push_reserved-requires
push_reserved-requires c =
    let same : c.args.self.now.promised ≡ c.self.inside.promised.items = ap (λ (p : Placed). p.promised) (sym c.self.view_is) in
    let within : c.args.entry.backend < length c.self.inside.promised.items = rw same at c.requires.within in
    let place : 0 < promised_in c.self.inside.promised.items c.args.entry.backend = rw same at c.requires.place in
    omega (arith, promised_in-le c.self.inside.promised.items c.args.entry.backend within, c.self.invariant.counted, c.self.invariant.fits)

pub invariant_of-self : goal.invariant_of-self
invariant_of-self c =
    let same : c.args.self.now.promised ≡ c.self.inside.promised.items = ap (λ (p : Placed). p.promised) (sym c.self.view_is) in
    let within : c.args.entry.backend < length c.self.inside.promised.items = rw same at c.requires.within in
    let place : 0 < promised_in c.self.inside.promised.items c.args.entry.backend = rw same at c.requires.place in
    let had : c.index-had.result.now ≡ promised_in c.self.inside.promised.items c.args.entry.backend = promised_at c.self.inside.promised.items c.args.entry.backend c.index-had.result.now within c.index-had.ensures in
    let less : sum (slice_set c.self.inside.promised.items c.args.entry.backend (c.index-had.result.now - 1)) + 1 ≡ sum c.self.inside.promised.items = rw had (sum-taken c.self.inside.promised.items c.args.entry.backend within place) in
    record { counted = omega (arith, less, c.self.invariant.counted); fits = omega (arith, less, c.self.invariant.counted, c.self.invariant.fits); short = omega (arith, less, c.self.invariant.counted, c.self.invariant.short) }

pub returns-clause-promised : goal.returns-clause-promised
returns-clause-promised c =
    let same : c.args.self.now.promised ≡ c.self.inside.promised.items = ap (λ (p : Placed). p.promised) (sym c.self.view_is) in
    let within : c.args.entry.backend < length c.self.inside.promised.items = rw same at c.requires.within in
    let had : c.index-had.result.now ≡ promised_in c.self.inside.promised.items c.args.entry.backend = promised_at c.self.inside.promised.items c.args.entry.backend c.index-had.result.now within c.index-had.ensures in
    rw (← c.self.view_is) (ap (λ n. slice_set c.self.inside.promised.items c.args.entry.backend (n - 1)) had)

pub returns-clause-short : goal.returns-clause-short
returns-clause-short c =
    let same : c.args.self.now.promised ≡ c.self.inside.promised.items = ap (λ (p : Placed). p.promised) (sym c.self.view_is) in
    let within : c.args.entry.backend < length c.self.inside.promised.items = rw same at c.requires.within in
    let place : 0 < promised_in c.self.inside.promised.items c.args.entry.backend = rw same at c.requires.place in
    let had : c.index-had.result.now ≡ promised_in c.self.inside.promised.items c.args.entry.backend = promised_at c.self.inside.promised.items c.args.entry.backend c.index-had.result.now within c.index-had.ensures in
    let less : sum (slice_set c.self.inside.promised.items c.args.entry.backend (c.index-had.result.now - 1)) + 1 ≡ sum c.self.inside.promised.items = rw had (sum-taken c.self.inside.promised.items c.args.entry.backend within place) in
    omega (arith, less, c.self.invariant.counted, c.self.invariant.short, c.push_reserved.ensures.len)

pub overflow_sub-had : goal.overflow_sub-had
overflow_sub-had c = subst (λ n. 1 ≤ n) (sym (had_of _ _ c.args.entry.backend _ c.self.view_is c.requires.within c.index-had.ensures)) c.requires.place

pub returns-clause-entries : goal.returns-clause-entries
returns-clause-entries c = c.push_reserved.ensures.items ∙ ap (λ (p : Placed). p.entries ++ c.args.entry ∷ []) c.self.view_is
