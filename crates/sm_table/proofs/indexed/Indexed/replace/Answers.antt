use Rattle.std.proofs.Common.{◌∙◌, length, sym, ap, subst, arith}
use Rattle.sm_table.specs.Changes.{replaced}
use Rattle.sm_table.specs.Maps.{by_name}
use Rattle.sm_table.specs.Signs.{IsSigns}
use Rattle.sm_table.proofs.ApartLemmas.{replaced_no_more}
use Rattle.sm_table.proofs.IndexedLemmas.{by_name_replaced}
use Rattle.sm_table.proofs.indexed.Indexed.replace.Goals as goal

pub returns-clause-kept : goal.returns-clause-kept
returns-clause-kept c = record {
  names = c.requires.kept.names
      ∙ sym (by_name_replaced c.args.self.now.rows.list c.args.kept c.requires.names)
      ∙ ap by_name (sym c.replace-2.ensures.list);
  signs = rw c.replace-2.ensures.list
      (subst (λ r. IsSigns c.replace.new.self (replaced c.args.self.now.rows.list r)) c.row.ensures
      c.replace.ensures.signs);
}

pub returns-clause-room : goal.returns-clause-room
returns-clause-room c = λ count h.
    let signs = c.replace.ensures.room _ h.signs in
    record {
      rows = omega (arith, h.rows, c.replace-2.ensures.room);
      names = h.names;
      signs = record {
        jobs = omega (
          arith,
          signs.jobs,
          ap length c.replace-2.ensures.list,
          replaced_no_more c.args.self.now.rows.list c.args.kept,
        );
        dates = omega (
          arith,
          signs.dates,
          ap length c.replace-2.ensures.list,
          replaced_no_more c.args.self.now.rows.list c.args.kept,
        );
        deletions = omega (
          arith,
          signs.deletions,
          ap length c.replace-2.ensures.list,
          replaced_no_more c.args.self.now.rows.list c.args.kept,
        );
      };
    }
