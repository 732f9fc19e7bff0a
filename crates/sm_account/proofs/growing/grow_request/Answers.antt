use Rattle.std.proofs.Common.{◌≤◌, refl, sym, subst}
use Rattle.sm_base.specs.declared.moment.TheConstants.{LAST_READING}
use Rattle.sm_model.specs.declared.entry.Entry.{Entry}
use Rattle.sm_encoded_size.specs.Spellable.{IsSpellable}
use Rattle.sm_table.specs.Changes.{CanMake}
use Rattle.sm_account.proofs.growing.grow_request.Goals as goal

pub grow-requires : goal.grow-requires
grow-requires g c =
    let is = c.in_ok-entry.ensures in
    record {
      can = subst (CanMake c.args.inner.now.table) (sym c.into_value.ensures) c.requires.can;
      bound = subst (λ (e : Entry). e.moment.0 ≤ LAST_READING) (sym is) c.requires.bound;
      act = subst IsSpellable (sym is) (record {
        act = record {
          drawn_for = c.requires.drawn;
          forms = c.requires.forms;
          changes = c.requires.changes;
          few = c.requires.few;
        };
        whose = refl;
        caller = c.requires.person.key;
        by = c.requires.person.arn;
      });
    }
