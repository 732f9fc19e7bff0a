use Rattle.std.proofs.Common.{◌∙◌, nat_lt, sym, ap}
use Rattle.sm_table.specs.Ordered.{taken}
use Rattle.sm_table.specs.Jobs.{with_job}
use Rattle.sm_table.proofs.JobLemmas.{number_laws, but_ordered}
use Rattle.sm_table.proofs.OrderedLemmas.{placed_taken}
use Rattle.sm_table.proofs.jobs.turn.Goals as goal

pub take_out-requires : goal.take_out-requires
take_out-requires c =
    record { ordered = but_ordered c.args.serials.now.items _ c.args.was c.args.serial c.requires.0 c.requires.1 }

pub returns-in-true-false-clause-serials : goal.returns-in-true-false-clause-serials
returns-in-true-false-clause-serials c = λ others e.
    c.take_out.ensures.serials
    ∙ ap (λ xs. taken nat_lt xs c.args.serial) (e ∙ ap (λ b. with_job b others c.args.serial) c.in-true-false.is-0)
    ∙ placed_taken nat_lt number_laws others c.args.serial
    ∙ sym (ap (λ b. with_job b others c.args.serial) c.in-true-false.is-1)
