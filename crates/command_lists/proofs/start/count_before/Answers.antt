use Rattle.std.proofs.Common.{nat_le, nat_lt, rules}
use Rattle.std.proofs.lemmas.List.Sorted.{IsPartitionPoint-from_clause}
use Rattle.command_lists.proofs.Order.{parted, cut_at, either_side}
use Rattle.command_lists.proofs.start.count_before.Goals as goal

pub returns-clause-before : goal.returns-clause-before
returns-clause-before c =
    let point = IsPartitionPoint-from_clause (λ start. nat_lt start.command c.args.from) _ _ c.partition_point.ensures.partitioned (parted c.args.from c.args.starts.now c.requires) (λ a r q k. search rules) in
    (cut_at (λ start. nat_lt start.command c.args.from) (λ start. nat_le c.args.from start.command) c.args.starts.now c.partition_point.result (either_side c.args.from) c.partition_point.ensures.bound point).0

pub returns-clause-after : goal.returns-clause-after
returns-clause-after c =
    let point = IsPartitionPoint-from_clause (λ start. nat_lt start.command c.args.from) _ _ c.partition_point.ensures.partitioned (parted c.args.from c.args.starts.now c.requires) (λ a r q k. search rules) in
    (cut_at (λ start. nat_lt start.command c.args.from) (λ start. nat_le c.args.from start.command) c.args.starts.now c.partition_point.result (either_side c.args.from) c.partition_point.ensures.bound point).1
