use Rattle.std.proofs.Common.{◌+◌, get_or, set, Some, sym, ap, ◌∙◌, arith, subst}
use Rattle.sm_workers.specs.Workers.{HasPass}
use Rattle.sm_workers.proofs.GivenLemmas.{TakenTo, taken_more}
use Rattle.sm_workers.proofs.passes.take_back.Goals as goal

pub take_out-pass-requires : goal.take_out-pass-requires
take_out-pass-requires g c =
    let place = c.loop-place.place in
    let worker = c.index-workers-place.result in
    subst (λ w. HasPass w) (sym (c.loop-place.invariant.so_far.stays place worker (omega arith)))
    (c.requires.has place worker (omega (arith, c.loop-place-test.true)))

pub loop-place-preserved : goal.loop-place-preserved
loop-place-preserved g c =
    let i = c.loop-place.invariant in
    let out = c.take_out-pass in
    record {
      so_far = subst
          (λ ps. TakenTo (c.loop-place.place + 1) ps c.args.workers.now
          (set c.loop-place.workers c.loop-place.place out.new.self)) (sym c.push_reserved.ensures.items)
          (taken_more c.loop-place.place c.loop-place.room.items c.args.workers.now c.loop-place.workers i.so_far
          c.loop-place-test.true c.index-workers-place.result out.new.self out.result out.ensures.pass
          out.ensures.left);
      space = omega (arith, i.space, c.push_reserved.ensures.capacity);
    }

pub returns-clause-taken : goal.returns-clause-taken
returns-clause-taken g c k pass worker high =
    let t = c.loop-place.invariant.so_far.taken k pass worker (omega (arith, c.loop-place-test.false, high)) in
    (t.0 ∙ ap (λ ps. Some (get_or ps k pass)) (sym c.new.ensures), t.1)
