use Rattle.std.proofs.Common.{◌≡◌, ◌∙◌, false, refl, sym, arith}
use Rattle.sm_table.specs.Sweep.{is_gone}
use Rattle.sm_summary.proofs.WalkLemmas.{counted_with}
use Rattle.sm_summary.proofs.walk.count_if_there.Goals as goal

pub returns-clause-counted : goal.returns-clause-counted
returns-clause-counted c =
    λ before is.
    let there : is_gone c.args.row.now c.args.moment ≡ false = sym c.is_gone.ensures ∙ c.if-is_gone.false in
    rw there (counted_with c.args.row.now c.args.counted.now _ refl (grind arith) before is)
