use Rattle.std.proofs.Common.{◌≡◌, ◌+◌, ◌<◌, ℕ, length, sym, subst, take, arith}
use Rattle.sm_journal.specs.Records.{place_behind}
use Rattle.sm_store.proofs.LoadRuns.{here_body, next_place, place_fits}
use Rattle.sm_store.proofs.loading.place_behind.Goals as goal

pub overflow_add-place : goal.overflow_add-place
overflow_add-place c =
    let lt : c.loop-index.index < length c.args.bodies.now =
    omega (arith, c.loop-index-test.true, c.requires.within) in
    omega (
      arith,
      c.record_size-place.ensures,
      place_fits c.args.bodies.now c.loop-index.index c.loop-index.place c.body.result.now lt
          (here_body c.args.bodies.now c.loop-index.index c.body.result.now lt c.body.ensures) c.loop-index.invariant
          c.requires.fits,
    )

pub loop-index-preserved : goal.loop-index-preserved
loop-index-preserved c =
    let lt : c.loop-index.index < length c.args.bodies.now =
    omega (arith, c.loop-index-test.true, c.requires.within) in
    subst (λ (n : ℕ). c.loop-index.place + n ≡ place_behind (take (c.loop-index.index + 1) c.args.bodies.now))
    (sym c.record_size-place.ensures)
    (next_place c.args.bodies.now c.loop-index.index c.loop-index.place c.body.result.now lt
    (here_body c.args.bodies.now c.loop-index.index c.body.result.now lt c.body.ensures) c.loop-index.invariant)
