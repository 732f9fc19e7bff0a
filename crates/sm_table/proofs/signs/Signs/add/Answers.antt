use Rattle.std.proofs.Common.{◌∙◌, vec_capacity, ap}
use Rattle.sm_versions.specs.Due.{due_date}
use Rattle.sm_table.specs.Jobs.{job_serials, with_job}
use Rattle.sm_table.specs.Dates.{dates_of, deletion_date, deletions_of, with_date}
use Rattle.sm_table.proofs.SignLemmas.{jobs_new, dates_new, jobs_push, dates_push}
use Rattle.sm_table.proofs.signs.Signs.add.Goals as goal

pub turn-requires : goal.turn-requires
turn-requires c = (
  job_serials c.args.rows.now.list,
  jobs_new c.args.rows.now.list c.args.row.now c.requires.new c.requires.rising c.args.self.now.jobs.items
      (vec_capacity c.args.self.now.jobs)
      c.requires.room.jobs c.requires.signs.jobs,
)

pub turn-requires-2 : goal.turn-requires-2
turn-requires-2 c = (
  dates_of c.args.rows.now.list,
  dates_new c.args.rows.now.list c.args.row.now c.requires.new c.requires.rising due_date c.args.self.now.dates.items
      (vec_capacity c.args.self.now.dates)
      c.requires.room.dates c.requires.signs.dates,
)

pub turn-requires-3 : goal.turn-requires-3
turn-requires-3 c = (
  deletions_of c.args.rows.now.list,
  dates_new c.args.rows.now.list c.args.row.now c.requires.new c.requires.rising deletion_date
      c.args.self.now.deletions.items
      (vec_capacity c.args.self.now.deletions)
      c.requires.room.deletions c.requires.signs.deletions,
)

pub returns-clause-signs : goal.returns-clause-signs
returns-clause-signs c = record {
  jobs = c.turn.ensures.serials (job_serials c.args.rows.now.list) c.requires.signs.jobs
      ∙ ap (λ b. with_job b (job_serials c.args.rows.now.list) c.args.row.now.serial) c.is_some.ensures
      ∙ jobs_push c.args.rows.now.list c.args.row.now c.requires.new c.requires.rising;
  dates = c.turn-2.ensures.dates (dates_of c.args.rows.now.list) c.requires.signs.dates
      ∙ ap (λ d. with_date d (dates_of c.args.rows.now.list) c.args.row.now.serial) c.due_date.ensures
      ∙ dates_push c.args.rows.now.list c.args.row.now c.requires.new c.requires.rising due_date;
  deletions = c.turn-3.ensures.dates (deletions_of c.args.rows.now.list) c.requires.signs.deletions
      ∙ dates_push c.args.rows.now.list c.args.row.now c.requires.new c.requires.rising deletion_date;
}
