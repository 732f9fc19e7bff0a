use Rattle.std.proofs.Common.{◌∷◌, [], ◌∙◌, sym, arith}
use Rattle.std.proofs.lemmas.List.{map-append}
use Rattle.sm_base.proofs.PlaceLemmas.{took_one, took_none}
use Rattle.sm_base.proofs.shared_list.SharedList.items.Goals as goal
use Rattle.sm_base.proofs.shared_list.SharedList.items.Goals.{in-Some+in_ok-push, in_default}

pub loop-place-preserved : goal.loop-place-preserved
loop-place-preserved g c =
    elim c.match-get.branch [
      | in-Some+in_ok-push w ↦
          rw w.vec-is
          (rw w.in_ok-push.ensures.items
          (map-append (λ item. item.now) c.loop-place.vec.items (w.in-Some.item ∷ [])
          ∙ rw c.loop-place.invariant
          (sym (took_one c.args.self.now c.loop-place.place w.in-Some.item.now (sym w.in-Some.ensures)))))
      | in_default w ↦
          rw w.vec-is
          (c.loop-place.invariant
          ∙ sym (took_none c.args.self.now c.loop-place.place
          (omega (arith, c.loop-place-test.true, c.len-place-end.ensures)) (sym w.in_default.ensures)))
    ]
