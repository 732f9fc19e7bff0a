use Rattle.std.proofs.Common.{rules, sym, arith}
use Rattle.std.proofs.lemmas.List.Sorted.{IsPartitionPoint-from_clause}
use Rattle.sm_table.specs.Dates.{is_before}
use Rattle.sm_table.proofs.DateLemmas.{date_laws}
use Rattle.sm_table.proofs.OrderedLemmas.{before_is, parted}
use Rattle.sm_table.proofs.dates.place_of.Goals as goal

pub returns-clause-place : goal.returns-clause-place
returns-clause-place c =
    let point = IsPartitionPoint-from_clause (λ y. is_before y c.args.due.now) c.args.dates.now c.partition_point.result
    c.partition_point.ensures.partitioned (parted is_before date_laws c.args.dates.now c.args.due.now c.requires)
    (λ a r f call. search rules) in
    sym (before_is is_before c.args.dates.now c.args.due.now c.args.due.now c.partition_point.result
    c.partition_point.ensures.bound
    (λ k h. point.0 k c.args.due.now (omega arith) h) (λ k f g. point.1 k c.args.due.now f g))
