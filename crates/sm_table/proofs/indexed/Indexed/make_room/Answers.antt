use Rattle.std.proofs.Common.{◌<◌, ◌≤◌, suc, length, ap, arith}
use Rattle.std.proofs.lemmas.Bool.{false≢true}
use Rattle.sm_table.specs.Indexed.{room_left}
use Rattle.sm_table.proofs.RoomLemmas.{left_within, left_less, some_left}
use Rattle.sm_table.proofs.indexed.Indexed.make_room.Goals as goal

pub returns-in-Some-clause-room : goal.returns-in-Some-clause-room
returns-in-Some-clause-room c =
    let enough = rw c.in-Some.is at c.requires.enough in
    let signs = c.move_into.ensures.signs_room _ enough.signs in
    record {
      rows = omega (arith, enough.rows, c.move_into.ensures.rows_room, left_within c.args.serial);
      names = omega (arith, enough.names, c.move_into.ensures.names_room, left_within c.args.serial);
      signs = record {
        jobs = omega (arith, signs.jobs, left_within c.args.serial, ap length c.move_into.ensures.rows);
        dates = omega (arith, signs.dates, left_within c.args.serial, ap length c.move_into.ensures.rows);
        deletions = omega (arith, signs.deletions, left_within c.args.serial, ap length c.move_into.ensures.rows);
      };
    }

pub returns-in-None-clause-room : goal.returns-in-None-clause-room
returns-in-None-clause-room c =
    let some : 0 < room_left c.args.serial =
    some_left (room_left c.args.serial) (λ e. false≢true (rw c.in-None.is at (c.requires.needed e))) in
    let less : suc (room_left (suc c.args.serial)) ≤ room_left c.args.serial =
    left_less c.args.serial (room_left c.args.serial) some (omega arith) in
    record {
      rows = left_less c.args.serial _ some c.requires.left.rows;
      names = left_less c.args.serial _ some c.requires.left.names;
      signs = record {
        jobs = omega (arith, less, c.requires.left.signs.jobs);
        dates = omega (arith, less, c.requires.left.signs.dates);
        deletions = omega (arith, less, c.requires.left.signs.deletions);
      };
    }
