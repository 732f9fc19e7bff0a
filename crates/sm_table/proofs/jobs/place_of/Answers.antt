use Rattle.std.proofs.Common.{rules, sym, ltb, nat_lt, arith}
use Rattle.std.proofs.lemmas.List.Sorted.{IsPartitionPoint-from_clause}
use Rattle.sm_table.proofs.JobLemmas.{number_laws}
use Rattle.sm_table.proofs.OrderedLemmas.{before_is, parted}
use Rattle.sm_table.proofs.jobs.place_of.Goals as goal

pub returns-clause-place : goal.returns-clause-place
returns-clause-place c =
    let point = IsPartitionPoint-from_clause (λ y. ltb y c.args.serial) c.args.serials.now c.partition_point.result
    c.partition_point.ensures.partitioned (parted nat_lt number_laws c.args.serials.now c.args.serial c.requires)
    (λ a r f call. search rules) in
    sym (before_is nat_lt c.args.serials.now c.args.serial 0 c.partition_point.result c.partition_point.ensures.bound
    (λ k h. point.0 k 0 (omega arith) h) (λ k f g. point.1 k 0 f g))
