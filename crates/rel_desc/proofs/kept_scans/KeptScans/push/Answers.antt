use Rattle.std.proofs.Common.{◌≡◌, length, arith}
use Rattle.rel_desc.specs.KeptRows.{values_read}
use Rattle.rel_desc.proofs.KeptRows.{still_kept, pushed}
use Rattle.rel_desc.proofs.kept_scans.KeptScans.push.Goals as goal

pub invariant_of-self-2 : goal.invariant_of-self-2
invariant_of-self-2 c =
    let count : c.len-count.result ≡ length c.args.rows.items = omega arith in
    let values : c.in_ok-values.values ≡ values_read c.self.inside.rel c.args.scan c.args.rows.items = rw c.as_slice.ensures.value at c.in_ok-values.ensures in
    rw (c.push_reserved.ensures.items, c.reserve.ensures.items, c.in_ok-append.ensures.items)
    (still_kept c.self.inside.rel c.self.inside.parts.items c.self.inside.rows.items c.args.rows.items _ c.self.invariant count values)

pub returns-clause-ok : goal.returns-clause-ok
returns-clause-ok c =
    let count : c.len-count.result ≡ length c.args.rows.items = omega arith in
    rw (c.push_reserved.ensures.items, c.reserve.ensures.items, c.in_ok-append.ensures.items)
    (pushed c.args.self.now c.self.inside.rel c.self.inside.parts.items c.self.inside.rows.items c.args.rows.items
    (record { scan = c.args.scan; at = c.args.at; count = c.len-count.result; values = c.in_ok-values.values }) c.self.view_is c.self.invariant count)
