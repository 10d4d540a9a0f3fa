use Rattle.std.proofs.Common.{◌≡◌, ◌∙◌, ap, sym, take, true, false}
use Rattle.std.specs.List.{list_any}
use Rattle.std.specs.Str.{bytes_eq}
use Rattle.std.proofs.Math.ListN.{drop_of_length-le}
use Rattle.ddl_effect.specs.Commands.{first_twice}
use Rattle.ddl_effect.proofs.Repeated.{repeated_at, repeated_later, seen_more, was_there, was_new}
use Rattle.ddl_effect.proofs.table.first_twice.Goals as goal

pub returns-then-not-branch : goal.returns-then-not-branch
returns-then-not-branch c =
    let found : list_any (bytes_eq c.as_bytes.result.now) (take c.loop-name.name-index c.args.names.now) ≡ true = sym (c.loop-name.invariant.seen c.as_bytes.result) ∙ was_there _ _ c.in_ok-insert.ensures.added c.if-not-branch.true in
    sym (c.loop-name.invariant.first ∙ repeated_at c.args.names.now c.loop-name.name-index c.name-item.result c.loop-name-test.true c.name-item.is (rw c.as_bytes.ensures.text at found))

pub loop-name-preserved : goal.loop-name-preserved
loop-name-preserved c =
    let absent : list_any (bytes_eq c.as_bytes.result.now) (take c.loop-name.name-index c.args.names.now) ≡ false = sym (c.loop-name.invariant.seen c.as_bytes.result) ∙ was_new _ _ c.in_ok-insert.ensures.added c.if-not-branch.false in
    record {
      first = c.loop-name.invariant.first ∙ repeated_later c.args.names.now c.loop-name.name-index c.name-item.result c.loop-name-test.true c.name-item.is (rw c.as_bytes.ensures.text at absent);
      seen = λ q. seen_more c.args.names.now c.loop-name.name-index c.name-item.result q.now _ _ c.loop-name-test.true c.name-item.is (c.loop-name.invariant.seen q) (rw c.as_bytes.ensures.text at (c.in_ok-insert.ensures.updates.0 q));
    }

pub returns : goal.returns
returns c = sym (c.loop-name.invariant.first ∙ ap (first_twice (take c.loop-name.name-index c.args.names.now)) (drop_of_length-le c.args.names.now c.loop-name-test.false))
