use Rattle.std.proofs.Common.{◌≡◌, ◌∙◌, List, ℕ, vec_capacity, sym, ap, subst}
use Rattle.sm_versions.specs.Due.{due_date}
use Rattle.sm_table.specs.declared.dates.DueDate.{DueDate}
use Rattle.sm_table.specs.Changes.{dropped}
use Rattle.sm_table.specs.Jobs.{job_serials, with_job}
use Rattle.sm_table.specs.Jobs as jobs
use Rattle.sm_table.specs.Dates.{dates_of, deletion_date, deletions_of, with_date}
use Rattle.sm_table.specs.Dates as dates
use Rattle.sm_table.proofs.IndexedLemmas.{dropped_absent}
use Rattle.sm_table.proofs.SignLemmas.{jobs_but, dates_but}
use Rattle.sm_table.proofs.signs.Signs.remove.Goals as goal

pub turn-requires : goal.turn-requires
turn-requires c = (
  job_serials (dropped c.args.rows.now.list c.args.serial),
  subst (λ b. jobs.IsBut c.args.self.now.jobs.items (vec_capacity c.args.self.now.jobs) b c.args.serial
      (job_serials (dropped c.args.rows.now.list c.args.serial)))
      (sym c.is_some.ensures)
      (jobs_but c.args.rows.now.list c.args.serial c.in-Some.old.now c.requires.rising (sym c.in-Some.ensures)
      (vec_capacity c.args.self.now.jobs) c.requires.room.jobs c.args.self.now.jobs.items c.requires.signs.jobs),
)

pub turn-requires-in-Some : goal.turn-requires-in-Some
turn-requires-in-Some c = (
  dates_of (dropped c.args.rows.now.list c.args.serial),
  subst (λ d. dates.IsBut c.args.self.now.dates.items (vec_capacity c.args.self.now.dates) d c.args.serial
      (dates_of (dropped c.args.rows.now.list c.args.serial)))
      (sym c.due_date.ensures)
      (dates_but c.args.rows.now.list c.args.serial c.in-Some.old.now c.requires.rising (sym c.in-Some.ensures)
      (vec_capacity c.args.self.now.dates) c.requires.room.dates due_date c.args.self.now.dates.items
      c.requires.signs.dates),
)

pub turn-requires-in-Some-2 : goal.turn-requires-in-Some-2
turn-requires-in-Some-2 c = (
  deletions_of (dropped c.args.rows.now.list c.args.serial),
  dates_but c.args.rows.now.list c.args.serial c.in-Some.old.now c.requires.rising (sym c.in-Some.ensures)
      (vec_capacity c.args.self.now.deletions) c.requires.room.deletions deletion_date c.args.self.now.deletions.items
      c.requires.signs.deletions,
)

pub returns-in-Some-clause-signs : goal.returns-in-Some-clause-signs
returns-in-Some-clause-signs c =
    let js : List ℕ = job_serials (dropped c.args.rows.now.list c.args.serial) in
    let ds : List DueDate = dates_of (dropped c.args.rows.now.list c.args.serial) in
    let jobs_are : c.args.self.now.jobs.items ≡ with_job c.is_some.result js c.args.serial =
    (jobs_but c.args.rows.now.list c.args.serial c.in-Some.old.now c.requires.rising (sym c.in-Some.ensures)
    (vec_capacity c.args.self.now.jobs) c.requires.room.jobs c.args.self.now.jobs.items c.requires.signs.jobs).is
    ∙ ap (λ b. with_job b js c.args.serial) (sym c.is_some.ensures) in
    let dates_are : c.args.self.now.dates.items ≡ with_date c.due_date.result ds c.args.serial =
    (dates_but c.args.rows.now.list c.args.serial c.in-Some.old.now c.requires.rising (sym c.in-Some.ensures)
    (vec_capacity c.args.self.now.dates) c.requires.room.dates due_date c.args.self.now.dates.items
    c.requires.signs.dates).is
    ∙ ap (λ d. with_date d ds c.args.serial) (sym c.due_date.ensures) in
    let gs : List DueDate = deletions_of (dropped c.args.rows.now.list c.args.serial) in
    let deletions_are : c.args.self.now.deletions.items
    ≡ with_date c.in-Some.old.now.deletion gs c.args.serial =
    (dates_but c.args.rows.now.list c.args.serial c.in-Some.old.now c.requires.rising (sym c.in-Some.ensures)
    (vec_capacity c.args.self.now.deletions) c.requires.room.deletions deletion_date c.args.self.now.deletions.items
    c.requires.signs.deletions).is in
    record {
      jobs = c.turn.ensures.serials js jobs_are;
      dates = c.turn-in-Some.ensures.dates ds dates_are;
      deletions = c.turn-in-Some-2.ensures.dates gs deletions_are;
    }

pub returns-in-None-clause-signs : goal.returns-in-None-clause-signs
returns-in-None-clause-signs c =
    let same = dropped_absent c.args.rows.now.list c.args.serial (sym c.in-None.ensures) in
    record {
      jobs = c.requires.signs.jobs ∙ ap job_serials (sym same);
      dates = c.requires.signs.dates ∙ ap dates_of (sym same);
      deletions = c.requires.signs.deletions ∙ ap deletions_of (sym same);
    }
