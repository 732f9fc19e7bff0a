use Rattle.std.proofs.Common.{leb, rules, sym, arith}
use Rattle.std.proofs.lemmas.List.Sorted.{IsPartitionPoint-from_clause}
use Rattle.sm_table.specs.declared.dates.DueDate.{DueDate}
use Rattle.sm_table.proofs.DeletionLemmas.{reached_first, reached_is}
use Rattle.sm_table.proofs.dates.reached.Goals as goal

pub returns-clause-reached : goal.returns-clause-reached
returns-clause-reached c =
    let point = IsPartitionPoint-from_clause (λ y. leb y.date.0 c.args.moment.0) c.args.dates.now
    c.partition_point.result c.partition_point.ensures.partitioned
    (reached_first c.args.dates.now c.args.moment c.requires) (λ a r f call. search rules) in
    let due : DueDate = record { date = c.args.moment; serial = 0 } in
    sym (reached_is c.args.dates.now c.args.moment due c.partition_point.result c.partition_point.ensures.bound
    (λ k h. point.0 k due (omega arith) h) (λ k f g. point.1 k due f g))
