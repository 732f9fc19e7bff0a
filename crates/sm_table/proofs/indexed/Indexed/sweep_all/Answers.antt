use Rattle.std.proofs.Common.{◌∙◌, ℕ, List, length, filter, sym, ap, arith}
use Rattle.sm_table.specs.Changes.{row_with}
use Rattle.sm_table.specs.Maps.{by_name, stays}
use Rattle.sm_table.proofs.IndexedLemmas.{by_name_swept}
use Rattle.sm_table.proofs.SoundLaws.{swept_fewer}
use Rattle.sm_table.proofs.indexed.Indexed.sweep_all.Goals as goal

pub returns-clause-kept : goal.returns-clause-kept
returns-clause-kept c = record {
  names = c.sweep.ensures.pairs
      ∙ ap (filter (λ (p : List ℕ × ℕ). stays (row_with c.args.self.now.rows.list p.1) c.args.moment))
      c.requires.kept.names
      ∙ by_name_swept c.args.self.now.rows.list c.args.moment c.requires.rising
      ∙ ap by_name (sym c.sweep-2.ensures.list);
  signs = rw c.sweep-2.ensures.list c.drop_gone.ensures.signs;
}

pub returns-clause-room : goal.returns-clause-room
returns-clause-room c = λ count h.
    let signs = c.drop_gone.ensures.room _ h.signs in
    let fewer = swept_fewer c.args.self.now.rows.list c.args.moment in
    record {
      rows = omega (arith, h.rows, c.sweep-2.ensures.room);
      names = omega (arith, h.names, c.sweep.ensures.room);
      signs = record {
        jobs = omega (arith, signs.jobs, ap length c.sweep-2.ensures.list, fewer);
        dates = omega (arith, signs.dates, ap length c.sweep-2.ensures.list, fewer);
        deletions = omega (arith, signs.deletions, ap length c.sweep-2.ensures.list, fewer);
      };
    }
