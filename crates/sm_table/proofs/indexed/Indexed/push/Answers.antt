use Rattle.std.proofs.Common.{◌≡◌, ◌∙◌, ◌++◌, ◌∷◌, [], length, sym, ap, subst, arith, length-append}
use Rattle.sm_table.specs.Signs.{IsSigns}
use Rattle.sm_table.specs.Maps.{by_name, serial_of}
use Rattle.sm_table.proofs.IndexedLemmas.{named_absent, by_name_push}
use Rattle.sm_table.proofs.indexed.Indexed.push.Goals as goal

pub add-requires-2-clause-new : goal.add-requires-2-clause-new
add-requires-2-clause-new c =
    ap (λ ps. serial_of ps c.args.name.items) c.requires.kept.names
    ∙ ap (serial_of (by_name c.args.self.now.rows.list)) c.requires.name
    ∙ named_absent c.args.self.now.rows.list c.args.kept.name c.requires.new_name

pub returns-clause-kept : goal.returns-clause-kept
returns-clause-kept c =
    let serial : c.row.result.now.serial ≡ c.args.kept.serial = ap (λ r. r.serial) c.row.ensures in
    record {
      names = c.add-2.ensures.pairs
          ∙ ap (λ ps. ps ++ (c.args.name.items, c.row.result.now.serial) ∷ []) c.requires.kept.names
          ∙ ap (λ t. by_name c.args.self.now.rows.list ++ (t, c.row.result.now.serial) ∷ []) c.requires.name
          ∙ ap (λ n. by_name c.args.self.now.rows.list ++ (c.args.kept.name, n) ∷ []) serial
          ∙ sym (by_name_push c.args.self.now.rows.list c.args.kept)
          ∙ ap by_name (sym c.add-3.ensures.list);
      signs = rw c.add-3.ensures.list
          (subst (λ r. IsSigns c.add.new.self (c.args.self.now.rows.list ++ r ∷ [])) c.row-2.ensures
          c.add.ensures.signs);
    }

pub returns-clause-room : goal.returns-clause-room
returns-clause-room c count have =
    let signs = c.add.ensures.room _ have.signs in
    record {
      rows = omega (arith, have.rows, c.add-3.ensures.room);
      names = omega (arith, have.names, c.add-2.ensures.room);
      signs = record {
        jobs = omega (
          arith,
          signs.jobs,
          ap length c.add-3.ensures.list,
          length-append c.args.self.now.rows.list (c.args.kept ∷ []),
        );
        dates = omega (
          arith,
          signs.dates,
          ap length c.add-3.ensures.list,
          length-append c.args.self.now.rows.list (c.args.kept ∷ []),
        );
        deletions = omega (
          arith,
          signs.deletions,
          ap length c.add-3.ensures.list,
          length-append c.args.self.now.rows.list (c.args.kept ∷ []),
        );
      };
    }
