use Rattle.std.proofs.Common.{◌∙◌, filter, sym, ap}
use Rattle.sm_table.specs.Changes.{row_with}
use Rattle.sm_table.specs.Dates.{is_later}
use Rattle.sm_table.specs.Maps.{stays}
use Rattle.sm_table.proofs.JobLemmas.{jobs_swept}
use Rattle.sm_table.proofs.DateLemmas.{dates_swept}
use Rattle.sm_table.proofs.DeletionLemmas.{deletions_swept}
use Rattle.sm_table.proofs.signs.Signs.drop_gone.Goals as goal

pub returns-clause-signs : goal.returns-clause-signs
returns-clause-signs c = record {
  jobs = c.sweep.ensures.serials
      ∙ ap (filter (λ s. stays (row_with c.args.rows.now.list s) c.args.moment)) c.requires.signs.jobs
      ∙ jobs_swept c.args.rows.now.list c.args.moment c.requires.rising;
  dates = c.requires.signs.dates ∙ sym (dates_swept c.args.rows.now.list c.args.moment);
  deletions = c.drop_reached.ensures.later ∙ ap (filter (is_later c.args.moment)) c.requires.signs.deletions
      ∙ sym (deletions_swept c.args.moment c.args.rows.now.list);
}
