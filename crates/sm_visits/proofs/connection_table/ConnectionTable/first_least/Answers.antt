use Rattle.std.proofs.Common.{arith, ap, sym, ◌∙◌, option_copied}
use Rattle.std.specs.Fn.{FnReturnsAt}
use Rattle.sm_visits.proofs.LeastLemmas.{least_skips, least_goes_on, none_of_all}
use Rattle.sm_visits.proofs.connection_table.ConnectionTable.first_least.Goals.{in-Some, in-None}
use Rattle.sm_visits.proofs.connection_table.ConnectionTable.first_least.Goals as goal

pub loop-place-preserved : goal.loop-place-preserved
loop-place-preserved g c =
    let gives = FnReturnsAt g.F.Fn c.args.key in
    let t = c.args.self.now in
    let place = c.loop-place.place in
    elim c.match-get.branch [
      | in-Some w ↦
          let is = sym c.get.ensures ∙ ap option_copied w.in-Some.is in (
            rw (w.least-is ∙ w.lesser-least.ensures) (least_goes_on gives t place c.loop-place.least _ _ is
                w.key_of.ensures
                c.loop-place.invariant.0),
            omega (arith, c.loop-place-test.true),
          )
      | in-None w ↦
          let is = sym c.get.ensures ∙ ap option_copied w.in-None.is in (
            rw w.least-is (least_skips gives t place c.loop-place.least is c.loop-place.invariant.0),
            omega (arith, c.loop-place-test.true),
          )
    ]

pub returns : goal.returns
returns g c =
    none_of_all (FnReturnsAt g.F.Fn c.args.key) c.args.self.now c.end-place-end.result c.loop-place.place
    c.loop-place.least c.end-place-end.ensures (omega (arith, c.loop-place-test.false)) c.loop-place.invariant.0
    c.in-None-least.is
