use Rattle.std.proofs.Common.{◌∙◌, length, option_copied, sym, ap, arith}
use Rattle.sm_table.specs.Maps.{by_name, without_row}
use Rattle.sm_table.proofs.ApartLemmas.{dropped_no_more}
use Rattle.sm_table.proofs.IndexedLemmas.{by_name_without}
use Rattle.sm_table.proofs.indexed.Indexed.drop_row.Goals as goal

pub returns-clause-kept : goal.returns-clause-kept
returns-clause-kept c = record {
  names = c.drop_name.ensures.pairs ∙ ap (λ ps. without_row ps (option_copied c.get.result)) c.requires.kept.names
      ∙ by_name_without c.args.self.now.rows.list c.args.serial (option_copied c.get.result) c.requires.rising
      c.requires.names c.get.ensures
      ∙ ap by_name (sym c.remove-2.ensures.list);
  signs = rw c.remove-2.ensures.list c.remove.ensures.signs;
}

pub returns-clause-room : goal.returns-clause-room
returns-clause-room c = λ count h.
    let signs = c.remove.ensures.room _ h.signs in
    record {
      rows = omega (arith, h.rows, c.remove-2.ensures.room);
      names = omega (arith, h.names, c.drop_name.ensures.room);
      signs = record {
        jobs = omega (
          arith,
          signs.jobs,
          ap length c.remove-2.ensures.list,
          dropped_no_more c.args.self.now.rows.list c.args.serial,
        );
        dates = omega (
          arith,
          signs.dates,
          ap length c.remove-2.ensures.list,
          dropped_no_more c.args.self.now.rows.list c.args.serial,
        );
        deletions = omega (
          arith,
          signs.deletions,
          ap length c.remove-2.ensures.list,
          dropped_no_more c.args.self.now.rows.list c.args.serial,
        );
      };
    }
