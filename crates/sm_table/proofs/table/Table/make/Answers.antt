use Rattle.std.proofs.Common.{◌≡◌, ◌+◌, suc, refl, sym, ap, subst, ◌∙◌, add-one}
use Rattle.sm_model.specs.declared.entry.Change.TheVariants.{Add, Replace, Drop, Nothing}
use Rattle.sm_model.specs.declared.rows.Rows.{Rows}
use Rattle.sm_table.specs.Sweep.{swept}
use Rattle.sm_table.specs.Changes.{PreparedChange}
use Rattle.sm_table.specs.Indexed.{room_left, HasRoom}
use Rattle.sm_table.specs.Ready.{change_of}
use Rattle.sm_table.proofs.KeptLaws.{swept_rises}
use Rattle.sm_table.proofs.NameLaws.{replace_same, sweep_names}
use Rattle.sm_table.proofs.TableLaws.{commits_from, table_after, can_add}
use Rattle.sm_table.proofs.table.Table.make.Goals as goal

pub sweep-requires-clause-rising : goal.sweep-requires-clause-rising
sweep-requires-clause-rising c = (c.self.inside.next, c.self.invariant.serials)

pub add-requires : goal.add-requires
add-requires c =
    let rows : Rows = record { next = c.self.inside.next; secrets = c.self.inside.secrets.rows.list } in
    let prepared : PreparedChange =
    record { before = c.prepared.inside.before.value; change = change_of c.prepared.inside.step } in
    let known = commits_from prepared c.args.prepared rows c.args.self.now c.args.moment (Add c.in-Add.added.kept)
    c.prepared.view_is c.requires.unchanged c.self.view_is (ap change_of c.in-Add.is) c.prepared.invariant.can
    c.requires.stands c.self.invariant.serials c.self.invariant.names in
    can_add c.self.inside.next c.self.inside.secrets c.sweep.new.self c.args.moment c.prepared.inside.before.value
    c.in-Add.added (ap (λ p. p.before) c.prepared.view_is ∙ c.requires.unchanged ∙ sym c.self.view_is)
    (record {
      table = c.self.invariant;
      kept = c.sweep.ensures.kept;
      rows = c.sweep.ensures.rows;
      left = c.sweep.ensures.left;
      room = c.sweep.ensures.room;
    })
    known (rw c.in-Add.is at c.prepared.invariant.brought)

pub invariant_of-self : goal.invariant_of-self
invariant_of-self c =
    let rows : Rows = record { next = c.self.inside.next; secrets = c.self.inside.secrets.rows.list } in
    let prepared : PreparedChange =
    record { before = c.prepared.inside.before.value; change = change_of c.prepared.inside.step } in
    let known = commits_from prepared c.args.prepared rows c.args.self.now c.args.moment (Add c.in-Add.added.kept)
    c.prepared.view_is c.requires.unchanged c.self.view_is (ap change_of c.in-Add.is) c.prepared.invariant.can
    c.requires.stands c.self.invariant.serials c.self.invariant.names in
    let still : c.sweep.new.self.rows.list ≡ swept c.self.inside.secrets.rows.list c.args.moment =
    c.sweep.ensures.rows in
    let serial : c.in-Add.added.kept.serial ≡ c.self.inside.next = known.can.0 in
    let here : c.add.new.self.left ≡ room_left (c.self.inside.next + 1) =
    rw add-one (c.add.ensures.left ∙ ap (λ n. room_left (suc n)) serial) in
    let room : HasRoom c.add.new.self (room_left (c.self.inside.next + 1)) =
    rw add-one (subst (λ n. HasRoom c.add.new.self (room_left (suc n))) serial c.add.ensures.room) in
    table_after rows c.args.moment (Add c.in-Add.added.kept) _ c.add.new.self known c.add.ensures.kept here room
    (rw (c.add.ensures.rows, still) refl)

pub replace-requires-clause-names : goal.replace-requires-clause-names
replace-requires-clause-names c =
    let rows : Rows = record { next = c.self.inside.next; secrets = c.self.inside.secrets.rows.list } in
    let prepared : PreparedChange =
    record { before = c.prepared.inside.before.value; change = change_of c.prepared.inside.step } in
    let known = commits_from prepared c.args.prepared rows c.args.self.now c.args.moment (Replace c.in-Replace.kept)
    c.prepared.view_is c.requires.unchanged c.self.view_is (ap change_of c.in-Replace.is) c.prepared.invariant.can
    c.requires.stands c.self.invariant.serials c.self.invariant.names in
    let still : c.sweep.new.self.rows.list ≡ swept c.self.inside.secrets.rows.list c.args.moment =
    c.sweep.ensures.rows in
    rw still (replace_same rows c.args.moment c.in-Replace.kept known.can known.stands known.serials)

pub invariant_of-self-in-Replace : goal.invariant_of-self-in-Replace
invariant_of-self-in-Replace c =
    let rows : Rows = record { next = c.self.inside.next; secrets = c.self.inside.secrets.rows.list } in
    let prepared : PreparedChange =
    record { before = c.prepared.inside.before.value; change = change_of c.prepared.inside.step } in
    let known = commits_from prepared c.args.prepared rows c.args.self.now c.args.moment (Replace c.in-Replace.kept)
    c.prepared.view_is c.requires.unchanged c.self.view_is (ap change_of c.in-Replace.is) c.prepared.invariant.can
    c.requires.stands c.self.invariant.serials c.self.invariant.names in
    let still : c.sweep.new.self.rows.list ≡ swept c.self.inside.secrets.rows.list c.args.moment =
    c.sweep.ensures.rows in
    table_after rows c.args.moment (Replace c.in-Replace.kept) _ c.replace.new.self known c.replace.ensures.kept
    (c.replace.ensures.left ∙ c.sweep.ensures.left ∙ c.self.invariant.left)
    (c.replace.ensures.room _ (c.sweep.ensures.room _ c.self.invariant.room))
    (rw (c.replace.ensures.rows, still) refl)

pub replace-requires-clause-rising : goal.replace-requires-clause-rising
replace-requires-clause-rising c =
    let rows : Rows = record { next = c.self.inside.next; secrets = c.self.inside.secrets.rows.list } in
    let still : c.sweep.new.self.rows.list ≡ swept c.self.inside.secrets.rows.list c.args.moment =
    c.sweep.ensures.rows in
    rw still (rows.next, swept_rises rows.secrets c.args.moment 0 rows.next c.self.invariant.serials)

pub drop_row-requires-clause-rising : goal.drop_row-requires-clause-rising
drop_row-requires-clause-rising c =
    let rows : Rows = record { next = c.self.inside.next; secrets = c.self.inside.secrets.rows.list } in
    let still : c.sweep.new.self.rows.list ≡ swept c.self.inside.secrets.rows.list c.args.moment =
    c.sweep.ensures.rows in
    rw still (rows.next, swept_rises rows.secrets c.args.moment 0 rows.next c.self.invariant.serials)

pub drop_row-requires-clause-names : goal.drop_row-requires-clause-names
drop_row-requires-clause-names c =
    let rows : Rows = record { next = c.self.inside.next; secrets = c.self.inside.secrets.rows.list } in
    let still : c.sweep.new.self.rows.list ≡ swept c.self.inside.secrets.rows.list c.args.moment =
    c.sweep.ensures.rows in
    rw still (sweep_names rows c.args.moment c.self.invariant.names).once

pub invariant_of-self-in-Drop : goal.invariant_of-self-in-Drop
invariant_of-self-in-Drop c =
    let rows : Rows = record { next = c.self.inside.next; secrets = c.self.inside.secrets.rows.list } in
    let prepared : PreparedChange =
    record { before = c.prepared.inside.before.value; change = change_of c.prepared.inside.step } in
    let known = commits_from prepared c.args.prepared rows c.args.self.now c.args.moment (Drop c.in-Drop.serial)
    c.prepared.view_is c.requires.unchanged c.self.view_is (ap change_of c.in-Drop.is) c.prepared.invariant.can
    c.requires.stands c.self.invariant.serials c.self.invariant.names in
    let still : c.sweep.new.self.rows.list ≡ swept c.self.inside.secrets.rows.list c.args.moment =
    c.sweep.ensures.rows in
    table_after rows c.args.moment (Drop c.in-Drop.serial) _ c.drop_row.new.self known c.drop_row.ensures.kept
    (c.drop_row.ensures.left ∙ c.sweep.ensures.left ∙ c.self.invariant.left)
    (c.drop_row.ensures.room _ (c.sweep.ensures.room _ c.self.invariant.room))
    (rw (c.drop_row.ensures.rows, still) refl)

pub invariant_of-self-in-Nothing : goal.invariant_of-self-in-Nothing
invariant_of-self-in-Nothing c =
    let rows : Rows = record { next = c.self.inside.next; secrets = c.self.inside.secrets.rows.list } in
    let prepared : PreparedChange =
    record { before = c.prepared.inside.before.value; change = change_of c.prepared.inside.step } in
    let known = commits_from prepared c.args.prepared rows c.args.self.now c.args.moment (Nothing)
    c.prepared.view_is c.requires.unchanged c.self.view_is (ap change_of c.in-Nothing.is) c.prepared.invariant.can
    c.requires.stands c.self.invariant.serials c.self.invariant.names in
    let still : c.sweep.new.self.rows.list ≡ swept c.self.inside.secrets.rows.list c.args.moment =
    c.sweep.ensures.rows in
    table_after rows c.args.moment Nothing _ c.sweep.new.self known c.sweep.ensures.kept
    (c.sweep.ensures.left ∙ c.self.invariant.left) (c.sweep.ensures.room _ c.self.invariant.room) (rw still refl)
