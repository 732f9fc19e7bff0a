use Rattle.std.proofs.Common.{◌∙◌, ◌+◌, ℕ, Option, drop, sym, ap}
use Rattle.sm_base_check.specs.Tests.{rises_from}
use Rattle.sm_base_check.proofs.RisingLemmas.{goes_on}
use Rattle.sm_base_check.proofs.rising.all_rise.Goals as goal

pub returns-in-None : goal.returns-in-None
returns-in-None g c =
    let serials = g.T.Made.serials c.args.things.now in
    ap (λ (b : Option ℕ). rises_from b (drop (c.loop-at.at + 1) serials) c.args.next) (sym c.in-None.is)
    ∙ goes_on serials c.loop-at.at c.serial.result c.loop-at.low c.args.next c.low_behind.result c.serial.ensures
    c.low_behind.ensures c.loop-at.invariant

pub loop-at-preserved : goal.loop-at-preserved
loop-at-preserved g c =
    let serials = g.T.Made.serials c.args.things.now in
    ap (λ (b : Option ℕ). rises_from b (drop (c.loop-at.at + 1) serials) c.args.next) (sym c.in-Some.is)
    ∙ goes_on serials c.loop-at.at c.serial.result c.loop-at.low c.args.next c.low_behind.result c.serial.ensures
    c.low_behind.ensures c.loop-at.invariant
