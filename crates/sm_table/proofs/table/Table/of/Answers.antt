use Rattle.std.proofs.Common.{◌≡◌, ◌∙◌, sym, subst}
use Rattle.sm_table.specs.Indexed.{HasRoom}
use Rattle.sm_table.specs.Kept.{NamesKept}
use Rattle.sm_table.proofs.SoundLaws.{sound_names_kept}
use Rattle.sm_table.proofs.table.Table.of.Goals as goal

pub invariant_of-result : goal.invariant_of-result
invariant_of-result c =
    let rows : c.in_ok-secrets.secrets.rows.list ≡ c.args.rows.now.secrets =
    c.in_ok-secrets.ensures.rows ∙ c.as_slice.ensures in
    record {
      kept = c.in_ok-secrets.ensures.kept;
      serials = rw rows c.requires.serials;
      names = subst (λ list. NamesKept (record { next = c.args.rows.now.next; secrets = list })) (sym rows)
          (sound_names_kept c.args.rows.now c.requires);
      left = c.in_ok-secrets.ensures.left ∙ c.room_left.ensures.left;
      room = subst (HasRoom c.in_ok-secrets.secrets) c.room_left.ensures.left c.in_ok-secrets.ensures.room;
    }
