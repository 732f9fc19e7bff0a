use Rattle.std.proofs.Common.{◌+◌, drop, length-drop, arith}
use Rattle.std.proofs.lemmas.Result.{err_from_is_err_and}
use Rattle.sm_record.specs.Series.{read_times}
use Rattle.sm_record.proofs.SequelLemmas.{goes_on, ends, is_done, read_behind, fails_behind, total_cut}
use Rattle.sm_record.proofs.bodies.times_at.Goals as goal

pub read_bodies-requires : goal.read_bodies-requires
read_bodies-requires g c = omega (arith, total_cut c.loop.at c.args.bodies.now, c.requires)

pub returns-in_err-item-clause-exact : goal.returns-in_err-item-clause-exact
returns-in_err-item-clause-exact g c =
    let p = err_from_is_err_and c.from_residual.result c.from_residual.ensures.1 in
    rw (p.1, p.2)
    (ends (g.A.Sequel.series c.args.edition) c.loop.items.items c.args.count c.loop.counter
    (drop c.loop.at c.args.bodies.now)
    (read_times (g.A.Sequel.series c.args.edition) c.args.count c.args.bodies.now) c.in_err-item.field-0.0
    c.loop-test.true
    (fails_behind (g.A.Sequel.series c.args.edition) c.args.bodies.now c.loop.at c.in_err-item.field-0.0
    c.in_err-item.ensures.exact)
    c.loop.invariant.0)

pub loop-preserved : goal.loop-preserved
loop-preserved g c =
    rw c.in_ok-push.ensures.items (
      goes_on (g.A.Sequel.series c.args.edition) c.loop.items.items c.args.count c.loop.counter
          (drop c.loop.at c.args.bodies.now)
          (read_times (g.A.Sequel.series c.args.edition) c.args.count c.args.bodies.now) c.in_ok-item.item
          (drop (c.loop.at + c.in_ok-item.taken) c.args.bodies.now) c.loop-test.true
          (read_behind (g.A.Sequel.series c.args.edition) c.args.bodies.now c.loop.at c.in_ok-item.item
          c.in_ok-item.taken c.in_ok-item.ensures.exact)
          c.loop.invariant.0,
      omega (
        arith,
        c.in_ok-item.ensures.within,
        c.loop.invariant.1,
        length-drop c.loop.at c.args.bodies.now,
      ),
    )

pub returns-clause-exact : goal.returns-clause-exact
returns-clause-exact g c =
    is_done (g.A.Sequel.series c.args.edition) c.loop.items.items c.args.count c.loop.counter
    (drop c.loop.at c.args.bodies.now)
    (read_times (g.A.Sequel.series c.args.edition) c.args.count c.args.bodies.now) c.loop-test.false c.loop.invariant.0
