use Rattle.std.proofs.Common.{◌≡◌, ◌∙◌, ◌-◌, suc, cond, eqb, sym, ap, subst, arith}
use Rattle.sm_table.specs.Changes.{row_with}
use Rattle.sm_table.specs.Found.{row_named}
use Rattle.sm_table.specs.Indexed.{behind, room_left, HasRoom}
use Rattle.sm_table.proofs.RoomLemmas.{left_next}
use Rattle.sm_table.proofs.indexed.Indexed.add.Goals as goal

pub push-requires-clause-kept : goal.push-requires-clause-kept
push-requires-clause-kept c =
    record { names = c.make_room.ensures.kept.names; signs = c.make_room.ensures.kept.signs }

pub push-requires-clause-new_serial : goal.push-requires-clause-new_serial
push-requires-clause-new_serial c =
    ap (λ rs. row_with rs c.args.added.kept.serial) c.make_room.ensures.rows ∙ c.requires.new_serial

pub push-requires-clause-new_name : goal.push-requires-clause-new_name
push-requires-clause-new_name c =
    ap (λ rs. row_named rs c.args.added.kept.name) c.make_room.ensures.rows ∙ c.requires.new_name

pub push-requires-clause-rising : goal.push-requires-clause-rising
push-requires-clause-rising c = rw c.make_room.ensures.rows c.requires.rising

pub push-requires-clause-name : goal.push-requires-clause-name
push-requires-clause-name c = c.requires.brought.name

pub push-requires-clause-room : goal.push-requires-clause-room
push-requires-clause-room c =
    let have = c.make_room.ensures.room in
    record {
      rows = omega (arith, have.rows);
      names = omega (arith, have.names);
      signs = record {
        jobs = omega (arith, have.signs.jobs);
        dates = omega (arith, have.signs.dates);
        deletions = omega (arith, have.signs.deletions);
      };
    }

pub returns-clause-left : goal.returns-clause-left
returns-clause-left c =
    let left : c.make_room.new.self.left ≡ room_left c.args.added.kept.serial =
    c.make_room.ensures.left ∙ c.requires.left in
    let serial : c.row.result.now.serial ≡ c.args.added.kept.serial = ap (λ r. r.serial) c.row.ensures in
    c.push.ensures.left
    ∙ c.left_behind-self.ensures
    ∙ ap (λ n. cond (eqb n 0) (behind c.row.result.now.serial) (n - 1)) left
    ∙ ap (λ s. cond (eqb (room_left c.args.added.kept.serial) 0) (behind s) (room_left c.args.added.kept.serial - 1))
    serial
    ∙ sym (left_next c.args.added.kept.serial)

pub returns-clause-room : goal.returns-clause-room
returns-clause-room c =
    let serial : c.row.result.now.serial ≡ c.args.added.kept.serial = ap (λ r. r.serial) c.row.ensures in
    let have : HasRoom c.make_room.new.self (suc (room_left (suc c.args.added.kept.serial))) =
    subst (λ n. HasRoom c.make_room.new.self (suc (room_left (suc n)))) serial c.make_room.ensures.room in
    c.push.ensures.room _ (record { rows = have.rows; names = have.names; signs = have.signs })
