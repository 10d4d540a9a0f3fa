use Rattle.std.proofs.Common.{◌∙◌, ◌<◌, sym, ap, subst, arith}
use Rattle.shared_seg.specs.Places.{Placed}
use Rattle.shared_seg.proofs.PromiseSums.{sum-changed}
use Rattle.shared_seg.proofs.PlacesPromised.{placed_within, had_of, raised, enough, wants_more}
use Rattle.shared_seg.proofs.places.Places.promise.Goals as goal

pub invariant_of-self-2 : goal.invariant_of-self-2
invariant_of-self-2 c =
    let changed = sum-changed c.self.inside.promised.items c.args.b c.args.n _ (placed_within _ _ c.args.b c.self.view_is c.requires) c.index-had.ensures in
    record {
      counted = omega (arith, changed, c.self.invariant.counted, c.if-n-had.false);
      fits = omega (arith, c.if-n-had.false, c.in_ok-reserve.ensures.ok, c.in_ok-reserve.ensures.len);
      short = omega (arith, c.self.invariant.short, c.if-n-had.false, c.if-len-total.false, c.len.ensures, c.in_ok-reserve.ensures.len);
    }

pub returns-clause-ok : goal.returns-clause-ok
returns-clause-ok c = raised _ _ c.args.b c.args.n _ c.self.view_is (had_of _ _ c.args.b _ c.self.view_is c.requires c.index-had.ensures) c.if-n-had.false

pub returns-clause-short : goal.returns-clause-short
returns-clause-short c =
    let changed = sum-changed c.self.inside.promised.items c.args.b c.args.n _ (placed_within _ _ c.args.b c.self.view_is c.requires) c.index-had.ensures in
    omega (arith, changed, c.self.invariant.counted, c.self.invariant.short, c.if-n-had.false, c.if-len-total.false, c.len.ensures, c.in_ok-reserve.ensures.len, c.reserve.new.self.ok.0)

pub returns-in_err-reserve-clause-more : goal.returns-in_err-reserve-clause-more
returns-in_err-reserve-clause-more c = wants_more _ c.args.n _ (subst (λ n. n < c.args.n) (had_of _ _ c.args.b _ c.self.view_is c.requires c.index-had.ensures) c.if-n-had.false)

pub returns-then-n-had-clause-ok : goal.returns-then-n-had-clause-ok
returns-then-n-had-clause-ok c = enough _ _ c.args.b c.args.n _ c.self.view_is (had_of _ _ c.args.b _ c.self.view_is c.requires c.index-had.ensures) c.if-n-had.true

pub returns-then-len-total-clause-more : goal.returns-then-len-total-clause-more
returns-then-len-total-clause-more c = subst (λ n. n < c.args.n) (had_of _ _ c.args.b _ c.self.view_is c.requires c.index-had.ensures) c.if-n-had.false

pub returns-clause-entries : goal.returns-clause-entries
returns-clause-entries c = c.in_ok-reserve.ensures.items ∙ ap (λ (p : Placed). p.entries) c.self.view_is

pub index_mut-requires : goal.index_mut-requires
index_mut-requires c = subst (λ n. c.args.b < n) (sym c.self.inside.promised.ok.0) (placed_within _ _ c.args.b c.self.view_is c.requires)

pub returns-then-len-total-clause-entries : goal.returns-then-len-total-clause-entries
returns-then-len-total-clause-entries c = ap (λ (p : Placed). p.entries) c.self.view_is

pub returns-then-n-had-clause-entries : goal.returns-then-n-had-clause-entries
returns-then-n-had-clause-entries c = ap (λ (p : Placed). p.entries) c.self.view_is
