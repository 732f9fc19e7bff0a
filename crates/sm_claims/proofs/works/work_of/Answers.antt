use Rattle.std.proofs.Common.{◌≡◌, None, option_copied, sym, ap, ◌∙◌}
use Rattle.sm_model.specs.declared.rows.VersionRow.{VersionRow}
use Rattle.sm_versions.specs.Versions.{version_of}
use Rattle.sm_claims.proofs.WorkLemmas.{version_there, has_current, has_pending}
use Rattle.sm_claims.proofs.works.work_of.Goals as goal

pub unreachable-requires : goal.unreachable-requires
unreachable-requires c =
    let row = c.args.row.now in
    let job = c.args.job.now in
    let none : version_of row.versions job.token ≡ None = sym c.version_of.ensures ∙ ap option_copied c.in-None.is in
    version_there row job c.requires.sound c.requires.its none
