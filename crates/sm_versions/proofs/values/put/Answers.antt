use Rattle.sm_versions.specs.Put.{is_added}
use Rattle.sm_versions.proofs.KeptLaws.{after_put}
use Rattle.sm_versions.proofs.values.put.Goals as goal

pub returns-in-Ok-clause-kept : goal.returns-in-Ok-clause-kept
returns-in-Ok-clause-kept c =
    after_put (is_added c.in-Ok.done) c.args.row.now _ c.args.token.now c.args.value.now c.args.labels.now
    c.args.when.moment c.in-Ok.ensures.row
