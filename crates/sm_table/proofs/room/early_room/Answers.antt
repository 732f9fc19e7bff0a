use Rattle.std.proofs.Common.{◌∙◌, ◌-◌, add-one, ap, arith, cond, eqb, sym}
use Rattle.sm_table.specs.Indexed.{behind}
use Rattle.sm_table.proofs.RoomLemmas.{left_none, left_next, left_few}
use Rattle.sm_table.proofs.room.early_room.Goals as goal

pub loop-made-init : goal.loop-made-init
loop-made-init c = sym left_none

pub loop-made-preserved : goal.loop-made-preserved
loop-made-preserved c =
    rw add-one (c.left_behind-left.ensures
    ∙ ap (λ n. cond (eqb n 0) (behind c.loop-made.made) (n - 1)) c.loop-made.invariant
    ∙ sym (left_next c.loop-made.made))

pub returns-clause-few : goal.returns-clause-few
returns-clause-few c = omega (arith, c.loop-made.invariant, left_few c.loop-made.made)
