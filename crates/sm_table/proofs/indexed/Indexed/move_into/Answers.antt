use Rattle.std.proofs.Common.{length, ap, arith}
use Rattle.sm_versions.specs.Due.{due_date}
use Rattle.sm_table.specs.Dates.{deletion_date}
use Rattle.sm_table.proofs.DateLemmas.{dates_fewer}
use Rattle.sm_table.proofs.JobLemmas.{jobs_fewer}
use Rattle.sm_table.proofs.IndexedLemmas.{by_name_count}
use Rattle.sm_table.proofs.indexed.Indexed.move_into.Goals as goal

pub take_all-requires-2-clause-room : goal.take_all-requires-2-clause-room
take_all-requires-2-clause-room c =
    omega (arith, c.requires.room.names, ap length c.requires.kept.names, by_name_count c.args.self.now.rows.list)

pub returns-clause-names_room : goal.returns-clause-names_room
returns-clause-names_room c =
    omega (arith, c.take_all-2.ensures.room, ap length c.requires.kept.names, by_name_count c.args.self.now.rows.list)

pub moved-signs-requires-clause-jobs_room : goal.moved-signs-requires-clause-jobs_room
moved-signs-requires-clause-jobs_room c =
    omega (
      arith,
      c.requires.room.signs.jobs,
      ap length c.requires.kept.signs.jobs,
      jobs_fewer
          c.args.self.now.rows.list,
    )

pub moved-signs-requires-clause-dates_room : goal.moved-signs-requires-clause-dates_room
moved-signs-requires-clause-dates_room c =
    omega (
      arith,
      c.requires.room.signs.dates,
      ap length c.requires.kept.signs.dates,
      dates_fewer
          due_date
          c.args.self.now.rows.list,
    )

pub moved-signs-requires-clause-deletions_room : goal.moved-signs-requires-clause-deletions_room
moved-signs-requires-clause-deletions_room c =
    omega (
      arith,
      c.requires.room.signs.deletions,
      ap length c.requires.kept.signs.deletions,
      dates_fewer
          deletion_date
          c.args.self.now.rows.list,
    )
